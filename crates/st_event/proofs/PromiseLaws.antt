-- Laws of promises and cuts, of a whole group.
use Rattle.std.proofs.Common.{◌≡◌, ◌≢◌, ℕ, zero, suc, ◌<◌, List, refl, sym, arith}
use Rattle.std.specs.Prelude.{Bool, true, false, ◌↔◌}
use Rattle.st_net.specs.declared.entity.Entity.{Entity}
use Rattle.st_net.specs.declared.promise.Promise.{Promise}
use Rattle.st_net.specs.declared.topo.LinkOpening.{LinkOpening}
use Rattle.st_net.specs.Groups.{Group, IsSound, AreLinks}
use Rattle.st_net.specs.Sets.{IsWithin}
use Rattle.st_net.specs.UpGraph.{IsWalk}
use Rattle.st_net.specs.Cuts.{least_cut, is_in_least_side}
use Rattle.st_net.specs.Promises.{Keeps, need_of}
use Rattle.st_net.specs.Demands.{demand_count, HoldsIn, is_held_in}
use Rattle.st_event.specs.Laws.{IsLeastSide}
use Rattle.st_net.proofs.CutLaws.{Holds-more}
use Rattle.st_net.proofs.DemandLaws.{holds_with_more, tells_demands}
use Rattle.st_net.proofs.WalkLaws.{least_cut-joins, walk-least_cut}
use Rattle.st_net.proofs.SideLaws.{least_side-within, least_side-has}

pub more_kept : (g : Group) (up more : Entity → Bool) (p : Promise) → IsWithin up more → Keeps g up p → Keeps g more p
more_kept g up more p = Holds-more g.links (need_of g p) p.a p.b up more

pub more_held : (g : Group) (up more : Entity → Bool) (i : ℕ) → IsWithin up more → HoldsIn g up i → HoldsIn g more i
more_held g up more i within holds = holds_with_more g up more i within holds

pub test_tells : (g : Group) (up : Entity → Bool) (i : ℕ) → IsSound g → i < demand_count g → (is_held_in g up i ≡ true) ↔ HoldsIn g up i
test_tells g up i sound low = tells_demands g sound up i low

alike : (p q : Bool) → (p ≡ true → q ≡ true) → (q ≡ true → p ≡ true) → p ≡ q
alike true q there back = sym (there refl)
alike false true there back = back refl
alike false false there back = refl

pub side_is_one : (n : ℕ) (links : List LinkOpening) (up : Entity → Bool) (a b : ℕ) (side : ℕ → Bool) → AreLinks n links → a ≢ b → IsLeastSide n links up a b side → (d : ℕ) → d < n → side d ≡ is_in_least_side n links up a b d
side_is_one n links up a b side are apart is d low =
    alike (side d) (is_in_least_side n links up a b d)
    (λ inside. least_side-has n links up a b d apart (λ other cut least. is.inmost other cut least d low inside))
    (λ inside. least_side-within n links up a b d side are low is.cut is.least inside)

none_or_some : (n : ℕ) (A : Type 0) → (0 < n → A) → (A → ⊥) → n ≡ 0
none_or_some zero A some none = refl
none_or_some (suc n) A some none = absurd (none (some (omega arith)))

pub no_walk : (n : ℕ) (links : List LinkOpening) (up : Entity → Bool) (a b : ℕ) → AreLinks n links → a ≢ b → (least_cut n links up a b ≡ 0) ↔ ((walk : List ℕ) → IsWalk links up a walk b → ⊥)
no_walk n links up a b are apart = (
  (λ none walk joins. let some = walk-least_cut n links up a b walk are apart joins in omega (arith, some, none)),
  (λ none. none_or_some (least_cut n links up a b) ((walk : List ℕ) × IsWalk links up a walk b) (least_cut-joins n links up a b are) (λ (walk, joins). none walk joins)),
)
