-- The first promise that a change breaks, found in order.
use Rattle.std.proofs.Common.{◌≡◌, ℕ, zero, suc, ◌+◌, ◌<◌, List, [], ◌∷◌, length, drop, refl, ap, ◌∙◌, sym, arith}
use Rattle.std.specs.Prelude.{Bool, true, false, ◌&&◌, not, Option, Some, None, slice_index_or, if◌then◌else◌}
use Rattle.st_net.specs.declared.entity.Entity.{Entity}
use Rattle.st_net.specs.declared.promise.Promise.{Promise}
use Rattle.st_net.specs.declared.promise.Broken.{Broken}
use Rattle.st_net.specs.Groups.{Group, no_promise, promise_of}
use Rattle.st_net.specs.Promises.{is_kept, is_broken, broken_at, first_broken}

promise_drop : (ps : List Promise) (i : ℕ) → i < length ps → drop i ps ≡ slice_index_or ps i no_promise ∷ drop (i + 1) ps
promise_drop [] i low = absurd (omega arith)
promise_drop (p ∷ ps) zero low = refl
promise_drop (p ∷ ps) (suc i) low = let next : suc i + 1 ≡ suc (i + 1) = omega arith in rw next (promise_drop ps i (omega arith))

broken_at_i : (g : Group) (before after : Entity → Bool) (i : ℕ) → i < length g.promises → first_broken g before after i (drop i g.promises) ≡ (if is_broken g before after (promise_of g i) then Some (broken_at g after i (promise_of g i)) else first_broken g before after (i + 1) (drop (i + 1) g.promises))
broken_at_i g before after i low = ap (first_broken g before after i) (promise_drop g.promises i low)

here_at : (test : Bool) (broken found : Broken) (rest : Option Broken) → Some found ≡ (if test then Some broken else None) → (if test then Some broken else rest) ≡ Some found
here_at true broken found rest is = sym is
here_at false broken found rest is = cc

next_at : (test : Bool) (broken : Broken) (rest : Option Broken) → None ≡ (if test then Some broken else None) → (if test then Some broken else rest) ≡ rest
next_at true broken rest is = cc
next_at false broken rest is = refl

-- a promise that breaks is the first of those from it on
pub broken_here : (g : Group) (before after : Entity → Bool) (i : ℕ) (found : Broken) → i < length g.promises → Some found ≡ (if is_broken g before after (promise_of g i) then Some (broken_at g after i (promise_of g i)) else None) → first_broken g before after i (drop i g.promises) ≡ Some found
broken_here g before after i found low is = broken_at_i g before after i low ∙ here_at (is_broken g before after (promise_of g i)) (broken_at g after i (promise_of g i)) found (first_broken g before after (i + 1) (drop (i + 1) g.promises)) is

-- one that does not is passed over
pub broken_next : (g : Group) (before after : Entity → Bool) (i : ℕ) → i < length g.promises → None ≡ (if is_broken g before after (promise_of g i) then Some (broken_at g after i (promise_of g i)) else None) → first_broken g before after i (drop i g.promises) ≡ first_broken g before after (i + 1) (drop (i + 1) g.promises)
broken_next g before after i low is = broken_at_i g before after i low ∙ next_at (is_broken g before after (promise_of g i)) (broken_at g after i (promise_of g i)) (first_broken g before after (i + 1) (drop (i + 1) g.promises)) is

none_broken : (k : Bool) → (k && not true) ≡ false
none_broken true = refl
none_broken false = refl

-- a promise that failed before is passed over, and so is one that holds after
pub passed_failed : (g : Group) (before after : Entity → Bool) (i : ℕ) → i < length g.promises → is_kept g before (promise_of g i) ≡ false → first_broken g before after i (drop i g.promises) ≡ first_broken g before after (i + 1) (drop (i + 1) g.promises)
passed_failed g before after i low is = broken_next g before after i low (rw is refl)

pub passed_kept : (g : Group) (before after : Entity → Bool) (i : ℕ) → i < length g.promises → is_kept g after (promise_of g i) ≡ true → first_broken g before after i (drop i g.promises) ≡ first_broken g before after (i + 1) (drop (i + 1) g.promises)
passed_kept g before after i low is = broken_next g before after i low (rw (is, none_broken (is_kept g before (promise_of g i))) refl)

-- where all hold after, none is broken
pub none_from : (g : Group) (before after : Entity → Bool) (i : ℕ) (ps : List Promise) → ((k : ℕ) → k < length ps → is_kept g after (slice_index_or ps k no_promise) ≡ true) → first_broken g before after i ps ≡ None
none_from g before after i [] kept = refl
none_from g before after i (p ∷ ps) kept = rw (kept zero (omega arith), none_broken (is_kept g before p)) (none_from g before after (i + 1) ps (λ k low. kept (suc k) (omega arith)))
