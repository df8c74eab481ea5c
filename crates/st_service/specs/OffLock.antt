-- What a check leaves that is judged off the lock.
use Rattle.std.specs.Prelude.{ℕ, ◌≡◌, ◌<◌, List, [], ◌∷◌, length, Option, Some, None}
use mathlib.Core.List.{IsPrefix}
use Rattle.st_net.specs.Groups.{Group}
use Rattle.st_net.specs.Numbered.{nth}
use Rattle.st_event.specs.declared.event.Event.TheVariants.{Check}
use Rattle.st_event.specs.declared.journal.Entry.{Entry}
use Rattle.st_event.specs.declared.journal.TheConstants.{MAX_ENTRIES}
use Rattle.st_event.specs.declared.reply.Receipt.{Receipt}
use Rattle.st_event.specs.declared.reply.Reply.TheVariants.{Decided as decided_reply}
use Rattle.st_event.specs.Proposals.{deciders, pending}
use Rattle.st_event.specs.Services.{entry_after}
use Rattle.st_world.specs.declared.world.commits.Committed.{Committed}
use Rattle.st_world.specs.declared.world.commits.Committed.TheVariants.{Did, Gone, JournalFull}
use Rattle.st_world.specs.declared.world.rounds.Going.{Going}
use Rattle.st_world.specs.declared.world.rounds.Going.TheVariants.{On, Full}
use Rattle.st_service.specs.declared.offlock.OffLock.{OffLock}
use Rattle.st_service.specs.declared.offlock.OffLock.TheVariants.{Decided, Gone as was_gone, Idle, JournalFull as met_full}
use Rattle.st_service.specs.Made.{Made, past_in}
use Rattle.st_service.specs.Puts.{Puts}
use Rattle.st_service.specs.Works.{IsOldest}

-- in a front that was seen, this ticket was the oldest that was pending
pub record WasOldest (ticket : ℕ) (before after : List Made) : Type 0 where
  pub seen : List Made
  pub later : IsPrefix before seen
  pub within : IsPrefix seen after
  pub oldest : IsOldest ticket (past_in seen)

-- the Check entry with this receipt
abbrev pub verdict_entry : Receipt → Entry
verdict_entry receipt = record { event = Check; reply = decided_reply receipt }

-- the first of these entries decides with this receipt
abbrev pub IsVerdictOf : List Entry → Receipt → Type 0
IsVerdictOf [] receipt = ⊥
IsVerdictOf (entry ∷ entries) receipt = entry.reply ≡ decided_reply receipt

-- whether a commit met a full journal
abbrev pub going_by : Committed → Going
going_by (Did receipt) = On
going_by (Gone entry) = On
going_by (JournalFull entries) = Full

-- what is told of a commit that met no full journal: which entry had decided the ticket before, or the verdict that the commit made
abbrev pub IsToldOf : Option ℕ → List Entry → Committed → Type 0
IsToldOf (Some entry) made committed = committed ≡ Gone entry
IsToldOf None made (Did receipt) = IsVerdictOf made receipt
IsToldOf None made _ = ⊥

-- a ticket is decided by one check of the pass at the end of a journal, with the receipt that this journal calls for; or it had been decided,
-- by this entry; or it is pending, and the journal is full
abbrev pub CommitsIn : Committed → Group → ℕ → ℕ → List Made → List ℕ → List Made → List ℕ → Type 0
CommitsIn (Did receipt) g ticket number before was after now =
    (receipt.ticket ≡ ticket) × (mid : List Made) × (entry_after g (past_in mid) Check ≡ verdict_entry receipt) × Puts number (verdict_entry receipt ∷ []) mid before was after now
CommitsIn (Gone entry) g ticket number before was after now = IsPrefix before after × (now ≡ was) × (nth (deciders (past_in after)) ticket ≡ Some entry)
CommitsIn (JournalFull entries) g ticket number before was after now =
    IsPrefix before after × (now ≡ was) × (length (deciders (past_in after)) < ticket) × (length after ≡ MAX_ENTRIES) × (entries ≡ MAX_ENTRIES)

-- what a check off the lock answers, by the answer to its commit
abbrev pub off_of : Committed → OffLock
off_of (Did receipt) = Decided receipt
off_of (Gone entry) = was_gone entry
off_of (JournalFull entries) = met_full entries

-- of an answer to a check off the lock: the ticket that it tells of was the oldest in a front that was seen; at Idle nothing is pending in the new
-- front
abbrev pub ChecksOff : OffLock → Group → ℕ → List Made → List ℕ → List Made → List ℕ → Type 0
ChecksOff (Decided receipt) g number before was after now = WasOldest receipt.ticket before after × CommitsIn (Did receipt) g receipt.ticket number before was after now
ChecksOff (was_gone entry) g number before was after now = (ticket : ℕ) × WasOldest ticket before after × CommitsIn (Gone entry) g ticket number before was after now
ChecksOff Idle g number before was after now = IsPrefix before after × (now ≡ was) × (pending (past_in after) ≡ [])
ChecksOff (met_full entries) g number before was after now = (ticket : ℕ) × WasOldest ticket before after × CommitsIn (JournalFull entries) g ticket number before was after now
