-- The steps that keep the rule of what is shown.
use Rattle.std.proofs.Common.{◌≡◌, ◌≢◌, ℕ, List, [], ◌∷◌, ◌++◌, set, refl, sym, subst, ⊎_elim, inl, inr}
use mathlib.Core.Option.{some}
use lib.ListN.{get_elem?}
use Rattle.left_right.specs.Register.{Admits, Turns, TurnsAt, Forks, Merges}
use Rattle.atomic_table.proofs.Lists.{at_set, at_snoc}
use Rattle.st_line.specs.Lines.{LineName}
use Rattle.st_board.specs.declared.target.Target.{Target}
use Rattle.st_board.specs.ShownInside.{code, IsShown, Names, Bound, Shown}

name_set : (b : LineName) (views : List (List ℕ)) (seat : ℕ) (w : List ℕ) → ((j : ℕ) (v : List ℕ) → get_elem? views j ≡ some v → Names b v) → Names b w → (j : ℕ) (v : List ℕ) → get_elem? (set views seat w) j ≡ some v → Names b v
name_set b views seat w all new j v at = ⊎_elim (λ (t : (j ≡ seat) × (w ≡ v)). subst (Names b) t.1 new) (λ (t : (j ≢ seat) × (get_elem? views j ≡ some v)). all j v t.1) (at_set views seat j w v at)

name_snoc : (b : LineName) (views : List (List ℕ)) (w : List ℕ) → ((j : ℕ) (v : List ℕ) → get_elem? views j ≡ some v → Names b v) → Names b w → (j : ℕ) (v : List ℕ) → get_elem? (views ++ w ∷ []) j ≡ some v → Names b v
name_snoc b views w all new j v at = ⊎_elim (all j v) (λ (e : w ≡ v). subst (Names b) e new) (at_snoc views w v j at)

pub admits : Admits Bound []
admits x views h = (h.0, name_snoc x.front.seen.book views [] h.1 (inl refl))

-- a step that keeps the line, to a table that its front comes to
pub turns : (seat : ℕ) (v : List ℕ) (x y : Target) → (IsShown x → IsShown y) → y.front.seen.book ≡ x.front.seen.book → TurnsAt Bound seat v x y Shown
turns seat v x y table same views h at =
    let b = x.front.seen.book in
    let all : (j : ℕ) (u : List ℕ) → get_elem? (set views seat (code b)) j ≡ some u → Names b u = name_set b views seat (code b) h.1 (inr refl) in (
      code y.front.seen.book,
      (table h.0, subst (λ (c : LineName). (j : ℕ) (u : List ℕ) → get_elem? (set views seat (code c)) j ≡ some u → Names c u) (sym same) all),
      (table h.0, subst (λ (c : LineName). Names c v) (sym same) (h.1 seat v at), refl),
    )

pub looks : (seat : ℕ) (v : List ℕ) → Turns Bound seat v (λ x. x) Shown
looks seat v x = turns seat v x x (λ t. t) refl

pub forks : (seat : ℕ) (v : List ℕ) → Forks Bound seat v v v
forks seat v x views h at = (h.0, name_snoc x.front.seen.book (set views seat v) v (name_set x.front.seen.book views seat v h.1 (h.1 seat v at)) (h.1 seat v at))

pub merges : (seat : ℕ) (v : List ℕ) (other : ℕ) (w : List ℕ) → Merges Bound seat v other w w []
merges seat v other w x views h at apart there =
    let b = x.front.seen.book in
    let new : Names b w = ⊎_elim (λ (t : (other ≡ seat) × (w ≡ w)). absurd (apart t.0)) (λ (t : (other ≢ seat) × (get_elem? views other ≡ some w)). h.1 other w t.1) (at_set views seat other w w there) in
    (h.0, name_set b (set views seat w) other [] (name_set b views seat w h.1 new) (inl refl))
