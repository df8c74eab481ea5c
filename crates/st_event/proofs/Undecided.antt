-- A ticket that was given is pending exactly where no verdict decides it.
use Rattle.std.proofs.Common.{◌≡◌, ℕ, zero, suc, ◌+◌, ◌-◌, ◌<◌, ◌≤◌, List, [], ◌∷◌, length, drop, Some, None, refl, ap, sym, ◌∙◌, arith, length-drop}
use Rattle.std.specs.Prelude.{Bool, true, false, ◌==◌, ◌↔◌, pred, slice_get, if◌then◌else◌}
use Rattle.st_net.specs.Groups.{Group}
use Rattle.st_net.specs.Numbered.{nth}
use Rattle.st_net.proofs.Tests.{get_some, numbered}
use Rattle.st_event.specs.declared.journal.Entry.{Entry}
use Rattle.st_event.specs.Legal.{IsLegal}
use Rattle.st_event.specs.Laws.{IsPending}
use Rattle.st_event.specs.Proposals.{deciders, pending, proposals, verdicts}
use Rattle.st_event.proofs.Standings.{length-deciders}
use Rattle.st_event.proofs.Targets.{legal_orderly}

-- numbered items of a list without its first ones

get_dropped : {X : Type 0} (n : ℕ) (xs : List X) (k at : ℕ) → at ≡ n + k → slice_get (drop n xs) k ≡ slice_get xs at
get_dropped zero xs k at is = let same : k ≡ at = omega (arith, is) in ap (slice_get xs) same
get_dropped (suc n) [] k at is = refl
get_dropped (suc n) (x ∷ xs) k zero is = absurd (omega (arith, is))
get_dropped (suc n) (x ∷ xs) k (suc at) is = get_dropped n xs k at (omega (arith, is))

nth_dropped : {X : Type 0} (n : ℕ) (xs : List X) (k : ℕ) → 0 < k → nth (drop n xs) k ≡ nth xs (n + k)
nth_dropped n xs k low =
    numbered (drop n xs) k low
    ∙ get_dropped n xs (pred k) (pred (n + k)) (omega (arith, low))
    ∙ sym (numbered xs (n + k) (omega (arith, low)))

above_zero : {X : Type 0} (xs : List X) (n : ℕ) (x : X) (b : Bool) → (n == 0) ≡ b → (if b then None else slice_get xs (pred n)) ≡ Some x → 0 < n
above_zero xs n x true is some = cc
above_zero xs zero x false is some = absurd cc
above_zero xs (suc n) x false is some = omega arith

-- tickets

undecided : (past : List Entry) (ticket : ℕ) → length (verdicts past) ≤ length (proposals past) → IsPending past ticket → length (deciders past) < ticket
undecided past ticket few is =
    let low = above_zero (pending past) is.place is.proposal (is.place == 0) refl is.waits in
    omega (arith, few, low, is.behind, length-drop (length (verdicts past)) (proposals past), length-deciders past)

waiting : (past : List Entry) (ticket : ℕ) → length (verdicts past) ≤ length (proposals past) → ticket ≤ length (proposals past) → length (deciders past) < ticket → IsPending past ticket
waiting past ticket few made more =
    let decided = length (verdicts past) in
    let later : decided < ticket = omega (arith, more, length-deciders past) in
    let some = get_some (proposals past) (pred ticket) (omega (arith, later, made)) in
    let given : nth (proposals past) ticket ≡ Some some.0 = numbered (proposals past) ticket (omega (arith, later)) ∙ some.1 in
    let at : decided + (ticket - decided) ≡ ticket = omega (arith, later) in
    record {
      proposal = some.0;
      place = ticket - decided;
      given = given;
      waits = nth_dropped decided (proposals past) (ticket - decided) (omega (arith, later)) ∙ ap (nth (proposals past)) at ∙ given;
      behind = omega (arith, few, later, length-drop decided (proposals past));
    }

pub tickets_pending : (g : Group) (past : List Entry) (ticket : ℕ) → IsLegal g past → ticket ≤ length (proposals past) → IsPending past ticket ↔ (length (deciders past) < ticket)
tickets_pending g past ticket legal made = let few = (legal_orderly g past legal).few in (undecided past ticket few, waiting past ticket few made)
