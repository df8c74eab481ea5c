-- What an await leaves: checks, while a ticket is pending.
use Rattle.std.specs.Prelude.{ℕ, zero, suc, ◌≡◌, ◌⊎◌, ◌+◌, ◌<◌, ◌≤◌, List, [], ◌∷◌, length, Option, Some, None}
use mathlib.Core.List.{IsPrefix}
use Rattle.st_net.specs.Groups.{Group}
use Rattle.st_event.specs.declared.event.Event.TheVariants.{Check}
use Rattle.st_event.specs.declared.journal.Entry.{Entry}
use Rattle.st_event.specs.declared.journal.TheConstants.{MAX_ENTRIES, MAX_PENDING}
use Rattle.st_event.specs.Proposals.{deciders}
use Rattle.st_event.specs.Services.{entry_after}
use Rattle.st_control.specs.declared.control.commits.Begin.{Begin}
use Rattle.st_control.specs.declared.control.commits.Begin.TheVariants.{Basis, Idle}
use Rattle.st_world.specs.declared.world.commits.Committed.{Committed}
use Rattle.st_world.specs.declared.world.commits.Committed.TheVariants.{Did, Gone, JournalFull}
use Rattle.st_world.specs.Commits.{IsBasisAt}
use Rattle.st_service.specs.declared.awaits.Checked.{Checked}
use Rattle.st_service.specs.declared.awaits.Checked.TheVariants.{Over, Went, Full}
use Rattle.st_world.specs.declared.world.rounds.Going.{Going}
use Rattle.st_world.specs.declared.world.rounds.Going.TheVariants.{On, Full as full_journal}
use Rattle.st_service.specs.Made.{Made, past_in}
use Rattle.st_service.specs.Puts.{Puts}
use Rattle.st_service.specs.Works.{IsDecided}

-- in a front that was seen the ticket was pending, among 64 at the most, and a lower one or it was decided since: by a check of this pass directly
-- behind that front, or by another's
pub record WentOn (g : Group) (ticket number : ℕ) (before : List Made) (was : List ℕ) (after : List Made) (now : List ℕ) : Type 0 where
  pub seen : List Made
  pub later : IsPrefix before seen
  pub within : IsPrefix seen after
  pub pending : length (deciders (past_in seen)) < ticket
  pub near : ticket ≤ length (deciders (past_in seen)) + MAX_PENDING
  pub decided : length (deciders (past_in seen)) < length (deciders (past_in after))
  pub made : (now ≡ was) ⊎ Puts number (entry_after g (past_in seen) Check ∷ []) seen seen was after now

-- what is taken for a check while a ticket is pending, among 64 at the most: a basis of the oldest. At Idle the ticket is decided, and others may be
-- pending
abbrev pub BeginsFor : ℕ → Group → List Entry → Begin → Type 0
BeginsFor ticket g past (Basis basis) = IsBasisAt g past basis × (length (deciders past) < ticket) × (ticket ≤ length (deciders past) + MAX_PENDING)
BeginsFor ticket g past Idle = IsDecided ticket past

-- what a check comes to, by the answer to its commit
abbrev pub checked_of : Committed → Checked
checked_of (Did receipt) = Went
checked_of (Gone entry) = Went
checked_of (JournalFull entries) = Full

-- the answers of one check for a ticket
abbrev pub ChecksFor : Checked → Group → ℕ → ℕ → List Made → List ℕ → List Made → List ℕ → Type 0
ChecksFor Over g ticket number before was after now = IsPrefix before after × (now ≡ was) × IsDecided ticket (past_in after)
ChecksFor Went g ticket number before was after now = WentOn g ticket number before was after now
ChecksFor Full g ticket number before was after now = length after ≡ MAX_ENTRIES

-- so many checks for a ticket
abbrev pub Waits : Group → ℕ → ℕ → ℕ → List Made → List ℕ → List Made → List ℕ → Type 0
Waits g ticket number zero before was after now = IsPrefix before after × (now ≡ was)
Waits g ticket number (suc k) before was after now = (mid : List Made) × (got : List ℕ) × WentOn g ticket number before was mid got × Waits g ticket number k mid got after now

-- at most 64 checks, after which the ticket is decided
abbrev pub WaitsOut : Group → ℕ → ℕ → List Made → List ℕ → List Made → List ℕ → Type 0
WaitsOut g ticket number before was after now = (k : ℕ) × (k ≤ MAX_PENDING) × Waits g ticket number k before was after now × IsDecided ticket (past_in after)

-- the same for the latest ticket of a pass, if the pass has one
abbrev pub Awaits : Option ℕ → Group → ℕ → List Made → List ℕ → List Made → List ℕ → Type 0
Awaits (Some ticket) g number before was after now = WaitsOut g ticket number before was after now
Awaits None g number before was after now = IsPrefix before after × (now ≡ was)

-- of an answer to an await
abbrev pub Awaited : Going → Option ℕ → Group → ℕ → List Made → List ℕ → List Made → List ℕ → Type 0
Awaited On latest g number before was after now = Awaits latest g number before was after now
Awaited full_journal latest g number before was after now = length after ≡ MAX_ENTRIES
