-- A proposal that was entered with room for it: a check before it at the most, and it was given a ticket.
use Rattle.std.proofs.Common.{◌≡◌, ◌+◌, ◌<◌, Bool, true, false, List, [], ◌∷◌, ◌++◌, length, refl, ap, ◌∙◌, arith}
use Rattle.std.specs.Prelude.{nat_lt, ◌==◌, if◌then◌else◌}
use Rattle.std.proofs.lemmas.Bool.Decides.{nat_tests}
use Rattle.st_net.specs.declared.entity.AppId.{AppId}
use Rattle.st_net.specs.declared.entity.Row.{Row}
use Rattle.st_net.specs.Groups.{Group}
use Rattle.st_net.proofs.Tests.{equal_numbers, less}
use Rattle.st_event.specs.declared.event.Event.TheVariants.{Submit, Check}
use Rattle.st_event.specs.declared.event.Proposal.{Proposal}
use Rattle.st_event.specs.declared.reply.Reply.TheVariants.{Queued, Full, Decided}
use Rattle.st_event.specs.declared.journal.Entry.{Entry}
use Rattle.st_event.specs.declared.journal.TheConstants.{MAX_PENDING}
use Rattle.st_event.specs.Legal.{IsLegal}
use Rattle.st_event.specs.Proposals.{is_queued, pending, proposals}
use Rattle.st_event.specs.Replies.{reply, check_reply, receipt_of}
use Rattle.st_event.specs.Services.{entry_after}
use Rattle.st_event.proofs.LawLemmas.{few_wait}
use Rattle.st_event.proofs.Promises.{entry_of}
use Rattle.st_event.proofs.Unfolding.{pending-decided}
use Rattle.st_world.specs.Rounds.{course_from, enter}
use Rattle.st_world.specs.Acts.{proposed}
use Rattle.st_run.proofs.RunEntries.{was_entered}

-- the entries before the proposal, the newest first, are none or one check
pub record WasProposed (g : Group) (past : List Entry) (app : AppId) (rows : List Row) (new : List Entry) : Type 0 where
  pub first : List Entry
  pub checks : first ≡ (if length (pending past) == MAX_PENDING then entry_after g past Check ∷ [] else [])
  pub all : new ≡ entry_after g (first ++ past) (Submit app rows) ∷ first ++ past
  pub queued : is_queued (reply g (first ++ past) (Submit app rows)) ≡ true

has_room : (g : Group) (past : List Entry) (app : AppId) (rows : List Row) → length (pending past) < MAX_PENDING → is_queued (reply g past (Submit app rows)) ≡ true
has_room g past app rows few = by (nat_lt (length (pending past)) MAX_PENDING) (less (length (pending past)) MAX_PENDING few)
  where
    by : (b : Bool) → b ≡ true → is_queued (if b then Queued (length (proposals past) + 1) else Full (length (pending past))) ≡ true
    by true e = refl
    by false e = absurd cc

after_check : (g : Group) (past : List Entry) (queue : List Proposal) → pending past ≡ queue → length queue ≡ MAX_PENDING → length (pending (entry_after g past Check ∷ past)) < MAX_PENDING
after_check g past [] is full = absurd (omega (arith, full))
after_check g past (p ∷ rest) is full =
    let decided : entry_after g past Check ≡ entry_of Check (Decided (receipt_of g past p)) = ap (λ (q : List Proposal). entry_of Check (check_reply g past q)) is in
    let left : pending (entry_after g past Check ∷ past) ≡ rest = ap (λ (e : Entry). pending (e ∷ past)) decided ∙ pending-decided past (receipt_of g past p) p rest is in
    omega (arith, full, ap length left)

no_room : (g : Group) (past : List Entry) → IsLegal g past → (length (pending past) == MAX_PENDING) ≡ false → length (pending past) < MAX_PENDING
no_room g past legal other = let few = few_wait g past legal in grind (arith, few, other, nat_tests)

by_room : (g : Group) (past : List Entry) (app : AppId) (rows : List Row) (new : List Entry) (b : Bool) → IsLegal g past → (length (pending past) == MAX_PENDING) ≡ b
    → enter g (if b then enter g (course_from past) Check else course_from past) (Submit app rows) ≡ record { past = new; stopped = false } → WasProposed g past app rows new
by_room g past app rows new true legal full e =
    let course = enter g (course_from past) Check in
    let last = was_entered g course (Submit app rows) new e in
    let one = was_entered g (course_from past) Check course.past (ap (λ (s : Bool). record { past = course.past; stopped = s }) last.went) in
    let few : length (pending (entry_after g past Check ∷ past)) < MAX_PENDING = after_check g past (pending past) refl (equal_numbers (length (pending past)) MAX_PENDING full) in
    record {
      first = entry_after g past Check ∷ [];
      checks = rw full refl;
      all = last.is ∙ ap (λ (xs : List Entry). entry_after g xs (Submit app rows) ∷ xs) one.is;
      queued = has_room g (entry_after g past Check ∷ past) app rows few;
    }
by_room g past app rows new false legal other e =
    let last = was_entered g (course_from past) (Submit app rows) new e in
    record { first = []; checks = rw other refl; all = last.is; queued = has_room g past app rows (no_room g past legal other) }

pub was_proposed : (g : Group) (past : List Entry) (app : AppId) (rows : List Row) (new : List Entry) → IsLegal g past → proposed g (course_from past) app rows ≡ record { past = new; stopped = false } → WasProposed g past app rows new
was_proposed g past app rows new legal e = by_room g past app rows new (length (pending past) == MAX_PENDING) legal refl e
