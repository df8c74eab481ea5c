-- Worked examples on checks that are judged off the lock.
use Rattle.std.proofs.Common.{◌≡◌, ℕ, ◌+◌, ◌<◌, ◌≤◌, List, [], ◌∷◌, length, Option, Some, None, refl, ap, arith}
use mathlib.Core.List.{IsPrefix}
use Rattle.st_event.specs.declared.journal.TheConstants.{MAX_ENTRIES}
use Rattle.st_event.specs.declared.reply.Receipt.{Receipt}
use Rattle.st_event.specs.declared.reply.Reply.{Reply}
use Rattle.st_event.specs.declared.reply.Reply.TheVariants.{Decided as decided_reply}
use Rattle.st_event.specs.Proposals.{deciders}
use Rattle.st_event.specs.Replies.{receipt_of}
use Rattle.st_world.specs.declared.world.commits.Committed.TheVariants.{Did, Gone, JournalFull}
use Rattle.st_event.proofs.Prefixes.{prefix_length}
use Rattle.st_service.specs.declared.offlock.OffLock.TheVariants.{Decided, Gone as was_gone, Idle, JournalFull as met_full}
use Rattle.st_service.specs.Made.{Made, past_in}
use Rattle.st_service.specs.OffLock.{ChecksOff, CommitsIn, IsVerdictOf, WasOldest, verdict_entry}
use Rattle.st_service.specs.Puts.{Puts}
use Rattle.st_service.specs.Works.{IsGiven, IsOldest}
use Rattle.st_service.proofs.AwaitLaws.{decided_later, given_later}
use Rattle.st_service.proofs.WorkedChains.{checked}
use Rattle.st_service.proofs.WorkedJournals.{small, app, firmware, idle, made, proposed, decided}

-- the verdict on the first proposal, as entry 2
abbrev first : Receipt
first = receipt_of small (past_in proposed) (record { app = app 0; rows = firmware 2 })

-- ticket 1 is the oldest where it was proposed
pub oldest : IsOldest 1 (past_in proposed)
oldest = record { next = refl; given = omega arith }

-- not where it is decided, and not before it is given
pub not_oldest_once_decided : IsGiven 1 (past_in decided) × (IsOldest 1 (past_in decided) → ⊥)
not_oldest_once_decided = (omega arith, λ o. let two : 1 ≡ 2 = o.next in absurd (omega (arith, two)))

pub not_oldest_before_it_is_given : (1 ≡ length (deciders []) + 1) × (IsOldest 1 [] → ⊥)
not_oldest_before_it_is_given = (refl, λ o. let one : 1 ≤ 0 = o.given in absurd (omega (arith, one)))

-- so it was the oldest in a front that was seen from the proposal on
pub oldest_where_proposed : WasOldest 1 proposed decided
oldest_where_proposed = record { seen = proposed; later = ([], refl); within = (made 1 (verdict_entry first) ∷ [], refl); oldest = oldest }

-- not behind the verdict, not before the proposal, and ticket 2 in none
pub not_oldest_behind_the_verdict : WasOldest 1 decided decided → ⊥
not_oldest_behind_the_verdict w =
    let more : 1 ≤ length (deciders (past_in w.seen)) = decided_later decided w.seen w.later in
    absurd (omega (arith, more, w.oldest.next))

pub not_oldest_of_none : WasOldest 1 [] [] → ⊥
not_oldest_of_none w = let one : 1 ≤ 0 = given_later 1 w.seen [] w.within w.oldest.given in absurd (omega (arith, one))

pub not_oldest_of_another_ticket : WasOldest 2 proposed decided → ⊥
not_oldest_of_another_ticket w = let two : 2 ≤ 1 = given_later 2 w.seen decided w.within w.oldest.given in absurd (omega (arith, two))

-- the first of these entries is the verdict
pub verdict_first : IsVerdictOf (verdict_entry first ∷ idle ∷ []) first
verdict_first = refl

pub not_of_nothing : IsVerdictOf [] first → ⊥
not_of_nothing v = v

pub not_of_another_entry : IsVerdictOf (idle ∷ verdict_entry first ∷ []) first → ⊥
not_of_another_entry v = absurd (cc v)

-- the entry that the second of a front tells of, where it is a verdict
abbrev told_entry : Reply → ℕ
told_entry (decided_reply receipt) = receipt.entry
told_entry _ = 0

abbrev entry_in : List Made → ℕ
entry_in (m ∷ n ∷ ms) = told_entry n.entry.reply
entry_in _ = 0

-- A commit

-- pass 0 decides ticket 1 behind the proposal
pub did : CommitsIn (Did first) small 1 0 proposed (0 ∷ []) checked (0 ∷ 1 ∷ [])
did = (refl, proposed, refl, (([], refl), refl, refl))

-- the check decided another ticket, its place is not in the pass's list, or the receipt tells of another entry
pub not_for_another_ticket : CommitsIn (Did first) small 2 0 proposed (0 ∷ []) checked (0 ∷ 1 ∷ []) → ⊥
not_for_another_ticket c = let two : 1 ≡ 2 = c.0 in absurd (omega (arith, two))

pub not_unlisted : CommitsIn (Did first) small 1 0 proposed (0 ∷ []) checked (0 ∷ []) → ⊥
not_unlisted c = absurd (cc (c.3.2))

abbrev anothers : Receipt
anothers = record first { entry = 9 }

pub not_anothers_receipt : Puts 0 (verdict_entry anothers ∷ []) proposed proposed (0 ∷ []) checked (0 ∷ 1 ∷ []) → ⊥
not_anothers_receipt p = absurd (omega (arith, ap (λ (f : List Made). entry_in f) p.1))

-- the number that is told, if there is one
abbrev number_in : Option ℕ → ℕ
number_in (Some n) = n
number_in None = 0

-- pass 1 had decided the ticket, by entry 2
pub gone : CommitsIn (Gone 2) small 1 0 proposed (0 ∷ []) decided (0 ∷ [])
gone = ((made 1 (verdict_entry first) ∷ [], refl), refl, refl)

-- an entry that decided no such ticket, a place too many, or a front that went back
pub not_gone_by_another : CommitsIn (Gone 1) small 1 0 proposed (0 ∷ []) decided (0 ∷ []) → ⊥
not_gone_by_another c = absurd (omega (arith, ap number_in c.2))

pub not_gone_for_another : CommitsIn (Gone 2) small 2 0 proposed (0 ∷ []) decided (0 ∷ []) → ⊥
not_gone_for_another c = absurd (cc (c.2))

pub not_gone_with_a_place : CommitsIn (Gone 2) small 1 0 proposed (0 ∷ []) decided (0 ∷ 1 ∷ []) → ⊥
not_gone_with_a_place c = absurd (cc (c.1))

pub not_gone_back : CommitsIn (Gone 2) small 1 0 decided (0 ∷ []) proposed (0 ∷ []) → ⊥
not_gone_back c = absurd (omega (arith, prefix_length decided proposed c.0))

-- a journal that is full, in which the ticket is pending; one in which it is decided, and one that has room
pub full : (after : List Made) → IsPrefix proposed after → deciders (past_in after) ≡ [] → length after ≡ MAX_ENTRIES → CommitsIn (JournalFull 200000) small 1 0 proposed (0 ∷ []) after (0 ∷ [])
full after p none all = (p, refl, omega (arith, ap length none), all, refl)

pub not_full_once_decided : (after : List Made) → IsPrefix decided after → CommitsIn (JournalFull 200000) small 1 0 proposed (0 ∷ []) after (0 ∷ []) → ⊥
not_full_once_decided after p c =
    let more : 1 ≤ length (deciders (past_in after)) = decided_later decided after p in
    absurd (omega (arith, more, c.2))

pub not_full : (ticket : ℕ) (after : List Made) → length after < MAX_ENTRIES → CommitsIn (JournalFull 200000) small ticket 0 proposed (0 ∷ []) after (0 ∷ []) → ⊥
not_full ticket after room c = absurd (omega (arith, room, c.3))

-- A check off the lock

pub off_decided : ChecksOff (Decided first) small 0 proposed (0 ∷ []) checked (0 ∷ 1 ∷ [])
off_decided = (record { seen = proposed; later = ([], refl); within = (made 0 (verdict_entry first) ∷ [], refl); oldest = oldest }, did)

pub off_gone : ChecksOff (was_gone 2) small 0 proposed (0 ∷ []) decided (0 ∷ [])
off_gone = (1, oldest_where_proposed, gone)

pub off_idle : ChecksOff Idle small 0 proposed (0 ∷ []) decided (0 ∷ [])
off_idle = ((made 1 (verdict_entry first) ∷ [], refl), refl, refl)

-- something is pending, a place was added, or the front went back
pub not_idle_while_one_waits : ChecksOff Idle small 0 proposed (0 ∷ []) proposed (0 ∷ []) → ⊥
not_idle_while_one_waits c = absurd (cc (c.2))

pub not_idle_with_a_place : ChecksOff Idle small 0 decided (0 ∷ []) decided (0 ∷ 1 ∷ []) → ⊥
not_idle_with_a_place c = absurd (cc (c.1))

pub not_idle_back : ChecksOff Idle small 0 decided (0 ∷ []) proposed (0 ∷ []) → ⊥
not_idle_back c = absurd (omega (arith, prefix_length decided proposed c.0))

-- a journal with room is not full, whatever the ticket
pub off_not_full : ChecksOff (met_full 200000) small 0 proposed (0 ∷ []) decided (0 ∷ []) → ⊥
off_not_full c = not_full c.0 decided (omega arith) c.2
