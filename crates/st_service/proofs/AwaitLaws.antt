-- What a check for a ticket leaves, and which tickets are given and decided as a front goes on.
use Rattle.std.proofs.Common.{◌≡◌, ℕ, zero, suc, ◌+◌, ◌<◌, ◌≤◌, Bool, true, false, List, [], ◌∷◌, ◌++◌, length, map, ap, sym, subst, ◌∙◌, arith, length-append, length-drop}
use Rattle.std.specs.Prelude.{Option, Some, reverse, nat_le}
use Rattle.std.proofs.lemmas.Bool.Decides.{nat_tests}
use Rattle.std.proofs.lemmas.List.{append-nil, map-append, reverse-append, reverse-reverse, append_cancel_right}
use mathlib.Core.List.{IsPrefix}
use Rattle.st_net.specs.Groups.{Group}
use Rattle.st_event.specs.declared.event.Event.{Event}
use Rattle.st_event.specs.declared.event.Event.TheVariants.{Submit}
use Rattle.st_event.specs.declared.event.Proposal.{Proposal}
use Rattle.st_event.specs.declared.journal.Entry.{Entry}
use Rattle.st_event.specs.declared.journal.TheConstants.{MAX_PENDING}
use Rattle.st_event.specs.declared.reply.Reply.{Reply}
use Rattle.st_event.specs.declared.reply.Reply.TheVariants.{Queued}
use Rattle.st_event.specs.Legal.{IsLegal}
use Rattle.st_event.specs.Proposals.{proposals, proposals_after, verdicts, deciders}
use Rattle.st_event.proofs.Begun.{deciders_grow}
use Rattle.st_event.proofs.LawLemmas.{few_wait}
use Rattle.st_event.proofs.Standings.{length-deciders}
use Rattle.st_world.specs.Rounds.{Course, course_from}
use Rattle.st_world.specs.World.{IsBeginning}
use Rattle.st_world.proofs.RunLaws.{entered}
use Rattle.st_service.specs.Awaits.{Awaits, WaitsOut, WentOn}
use Rattle.st_service.specs.Lines.{tagged, numbers}
use Rattle.st_service.specs.Made.{Made, past_in}
use Rattle.st_service.specs.Works.{IsGiven}
use Rattle.st_service.proofs.HoldLaws.{past_more, length_past}
use Rattle.st_service.proofs.Lines.{length_tagged}

-- the journal of a longer front goes on from that of the shorter one
pub past_longer : (xs ys : List Made) → IsPrefix xs ys → IsBeginning (past_in xs) (past_in ys)
past_longer xs ys p = (
  reverse (map (λ (m : Made). m.entry) p.0),
  ap past_in (sym p.1) ∙ (ap reverse (map-append (λ (m : Made). m.entry) xs p.0) ∙ reverse-append (map (λ (m : Made). m.entry) xs) (map (λ (m : Made). m.entry) p.0)),
)

proposals_step : (event : Event) (answer : Reply) (before : List Proposal) → length before ≤ length (proposals_after event answer before)
proposals_step (Submit app rows) (Queued ticket) before = omega (arith, length-append before (record { app = app; rows = rows } ∷ []))
proposals_step (Submit app rows) _ before = omega arith
proposals_step _ answer before = omega arith

proposals_grow : (more past : List Entry) → length (proposals past) ≤ length (proposals (more ++ past))
proposals_grow [] past = omega arith
proposals_grow (e ∷ more) past =
    let step = proposals_step e.event e.reply (proposals (more ++ past)) in
    let rest = proposals_grow more past in omega (arith, step, rest)

-- a ticket that was given stays given, and no fewer are decided
pub given_later : (ticket : ℕ) (xs ys : List Made) → IsPrefix xs ys → IsGiven ticket (past_in xs) → IsGiven ticket (past_in ys)
given_later ticket xs ys p given =
    let l = past_longer xs ys p in
    let m = proposals_grow l.0 (past_in xs) in omega (arith, given, m, ap (λ past. length (proposals past)) l.1)

pub decided_later : (xs ys : List Made) → IsPrefix xs ys → length (deciders (past_in xs)) ≤ length (deciders (past_in ys))
decided_later xs ys p =
    let l = past_longer xs ys p in
    let m = deciders_grow l.0 (past_in xs) in omega (arith, m, ap (λ past. length (deciders past)) l.1)

-- no more are pending than may
pub near_all : (g : Group) (ticket : ℕ) (past : List Entry) → IsLegal g past → IsGiven ticket past → ticket ≤ length (deciders past) + MAX_PENDING
near_all g ticket past legal given =
    let few = few_wait g past legal in
    let rest = length-drop (length (verdicts past)) (proposals past) in
    let same = length-deciders past in omega (arith, few, rest, same, given)

-- what a hold entered, where the journal behind it is known
pub none_put : (number : ℕ) (es : List Entry) (mid after : List Made) → after ≡ mid ++ tagged number es → past_in after ≡ past_in mid → length es ≡ 0
none_put number es mid after all same =
    omega (arith, ap length same, length_past after, length_past mid, ap length all, length-append mid (tagged number es), length_tagged number es)

pub one_put : (number : ℕ) (es : List Entry) (mid after : List Made) (e : Entry) → after ≡ mid ++ tagged number es → past_in after ≡ e ∷ past_in mid → es ≡ e ∷ []
one_put number es mid after e all one =
    let whole : reverse es ++ past_in mid ≡ (e ∷ []) ++ past_in mid = sym (past_more mid number es) ∙ (ap past_in (sym all) ∙ one) in
    sym (reverse-reverse es) ∙ ap reverse (append_cancel_right (reverse es) (e ∷ []) (past_in mid) whole)

pub no_numbers : (was : List ℕ) (n k : ℕ) → k ≡ 0 → was ++ numbers n k ≡ was
no_numbers was n zero e = append-nil was
no_numbers was n (suc k) e = absurd (omega (arith, e))

pub is_decided-at : (ticket n : ℕ) → nat_le ticket n ≡ true → ticket ≤ n
is_decided-at ticket n is = grind (arith, is, nat_tests)

pub is_pending-at : (ticket n : ℕ) → nat_le ticket n ≡ false → n < ticket
is_pending-at ticket n is = grind (arith, is, nat_tests)

-- a check that had room
pub entered_one : (past after : List Entry) (entry : Entry) (room : Bool) → entered (course_from past) entry false room ≡ record { past = after; stopped = false } → after ≡ entry ∷ past
entered_one past after entry true is = sym (ap (λ (r : Course). r.past) is)
entered_one past after entry false is = let stopped : true ≡ false = ap (λ (r : Course). r.stopped) is in absurd (cc stopped)

-- each check that was made leaves a ticket fewer before this one
pub fewer_left : (g : Group) (ticket number k : ℕ) (mid : List Made) (was : List ℕ) (after : List Made) (now : List ℕ) → WentOn g ticket number mid was after now
    → (0 < k → ticket + k ≤ length (deciders (past_in mid)) + MAX_PENDING) → ticket + (k + 1) ≤ length (deciders (past_in after)) + MAX_PENDING
fewer_left g ticket number zero mid was after now w before = omega (arith, w.near, w.decided)
fewer_left g ticket number (suc k) mid was after now w before =
    let less = before (omega arith) in
    let more = decided_later mid w.seen w.later in omega (arith, less, more, w.decided)

-- the await of the latest ticket, where there is one
pub awaits_of : (latest : Option ℕ) (g : Group) (ticket number : ℕ) (before : List Made) (was : List ℕ) (after : List Made) (now : List ℕ)
    → Some ticket ≡ latest → WaitsOut g ticket number before was after now → Awaits latest g number before was after now
awaits_of latest g ticket number before was after now is w = subst (λ (o : Option ℕ). Awaits o g number before was after now) is w
