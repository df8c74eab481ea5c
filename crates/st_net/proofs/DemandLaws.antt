-- What every proof needs of the demands of a group, however they are kept.
use Rattle.std.proofs.Common.{◌≡◌, ℕ, zero, suc, ◌+◌, ◌<◌, List, [], ◌∷◌, length, Some, None, refl, arith}
use Rattle.std.proofs.lemmas.List.{get_or-map, length-map}
use Rattle.std.specs.Prelude.{Bool, true, false, ◌&&◌, not, slice_index_or, if◌then◌else◌}
use Rattle.st_net.specs.declared.entity.Entity.{Entity}
use Rattle.st_net.specs.declared.promise.Promise.{Promise}
use Rattle.st_net.specs.declared.promise.Broken.{Broken}
use Rattle.st_net.specs.Groups.{Group, IsSound, no_promise, promise_of}
use Rattle.st_net.specs.Promises.{first_broken, is_broken, is_kept}
use Rattle.st_net.specs.Demands.{is_held_in}
use Rattle.st_net.specs.Laws.{DemandsHoldWithMore, TellsDemands, ListsDemands, BreaksNone}
use Rattle.st_net.proofs.GroupLaws.{keeps_with_more, tells_kept}

-- a demand that holds goes on to hold with more entities up
pub holds_with_more : (g : Group) → DemandsHoldWithMore g
holds_with_more g up more i within holds = keeps_with_more g up more (promise_of g i) within holds

-- the list has the test of each demand
pub lists_demands : (g : Group) (up : Entity → Bool) → ListsDemands g up
lists_demands g up = record {
  count = length-map g.promises (is_kept g up);
  each = λ i default low. get_or-map (is_kept g up) g.promises i no_promise default low;
}

-- the test tells of each demand whether it holds
pub tells_demands : (g : Group) → IsSound g → TellsDemands g
tells_demands g sound = tells_kept g sound

none_if : (g : Group) (before after : Entity → Bool) (at : ℕ) (p : Promise) (ps : List Promise) (broken : Broken) (b : Bool) → is_broken g before after p ≡ b → (if b then Some broken else first_broken g before after (at + 1) ps) ≡ None → (b ≡ false) × (first_broken g before after (at + 1) ps ≡ None)
none_if g before after at p ps broken true is none = cc
none_if g before after at p ps broken false is none = (refl, none)

none_from : (g : Group) (before after : Entity → Bool) (at : ℕ) (ps : List Promise) (i : ℕ) → first_broken g before after at ps ≡ None → i < length ps → is_broken g before after (slice_index_or ps i no_promise) ≡ false
none_from g before after at [] i none low = absurd (omega arith)
none_from g before after at (p ∷ ps) zero none low = (none_if g before after at p ps _ (is_broken g before after p) refl none).0
none_from g before after at (p ∷ ps) (suc i) none low = none_from g before after (at + 1) ps i (none_if g before after at p ps _ (is_broken g before after p) refl none).1 (omega arith)

still_held : (p q : Bool) → (p && not q) ≡ false → p ≡ true → q ≡ true
still_held true true none is = refl
still_held true false none is = cc
still_held false q none is = cc

-- where no demand is broken first, each that held goes on to hold
pub breaks_none : (g : Group) → BreaksNone g
breaks_none g before after i none low held = still_held (is_held_in g before i) (is_held_in g after i) (none_from g before after 0 g.promises i none low) held
