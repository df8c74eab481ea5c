-- The devices that every cut of least value has are themselves a cut of that value: two such cuts have what both have in common as a third.
use Rattle.std.proofs.Common.{◌≡◌, ◌≢◌, ℕ, zero, suc, ◌+◌, ◌<◌, ◌≤◌, List, [], ◌∷◌, refl, ap, sym, ◌∙◌, subst, inl, inr, arith}
use Rattle.std.specs.Prelude.{Bool, true, false, ◌&&◌, ◌||◌, ◌==◌, not, if◌then◌else◌, ◌⊎◌}
use Rattle.std.proofs.lemmas.Bool.Decides.{nat_tests}
use mathlib.Core.Path.{fun_ext}
use Rattle.st_net.specs.declared.entity.Entity.{Entity}
use Rattle.st_net.specs.declared.topo.LinkOpening.{LinkOpening}
use Rattle.st_net.specs.Groups.{AreLinks}
use Rattle.st_net.specs.UpGraph.{is_up_link}
use Rattle.st_net.specs.Cuts.{cut_value_from, cut_value, IsCut, with_number, all_over, cut_of, least_cut, is_in_least_side}
use Rattle.st_event.specs.Laws.{IsLeastSide}
use Rattle.st_net.proofs.WalkLaws.{least_cut-below, least_cut-attained}
use Rattle.st_net.proofs.SideLaws.{least_side-within}

-- what two sets have in common, and what one of them has
abbrev common : (ℕ → Bool) → (ℕ → Bool) → ℕ → Bool
common s t d = s d && t d

abbrev either : (ℕ → Bool) → (ℕ → Bool) → ℕ → Bool
either s t d = s d || t d

abbrev crosses : Bool → Bool → Bool
crosses p q = if p then not q else q

-- of one link, by the ends that the two sets have
link_part : (s_a s_b t_a t_b : Bool) (c : ℕ) → (if crosses (s_a && t_a) (s_b && t_b) then c else 0) + (if crosses (s_a || t_a) (s_b || t_b) then c else 0) ≤ (if crosses s_a s_b then c else 0) + (if crosses t_a t_b then c else 0)
link_part true true true true c = omega arith
link_part true true true false c = omega arith
link_part true true false true c = omega arith
link_part true true false false c = omega arith
link_part true false true true c = omega arith
link_part true false true false c = omega arith
link_part true false false true c = omega arith
link_part true false false false c = omega arith
link_part false true true true c = omega arith
link_part false true true false c = omega arith
link_part false true false true c = omega arith
link_part false true false false c = omega arith
link_part false false true true c = omega arith
link_part false false true false c = omega arith
link_part false false false true c = omega arith
link_part false false false false c = omega arith

up_part : (is_up s_a s_b t_a t_b : Bool) (c : ℕ) → (if is_up && crosses (s_a && t_a) (s_b && t_b) then c else 0) + (if is_up && crosses (s_a || t_a) (s_b || t_b) then c else 0) ≤ (if is_up && crosses s_a s_b then c else 0) + (if is_up && crosses t_a t_b then c else 0)
up_part true s_a s_b t_a t_b c = link_part s_a s_b t_a t_b c
up_part false s_a s_b t_a t_b c = omega arith

-- the values of two cuts sum to no less than those of what they have in common and of what one of them has
no_less : (i : ℕ) (links : List LinkOpening) (up : Entity → Bool) (s t : ℕ → Bool) → cut_value_from i links up (common s t) + cut_value_from i links up (either s t) ≤ cut_value_from i links up s + cut_value_from i links up t
no_less i [] up s t = omega arith
no_less i (link ∷ links) up s t =
    let rest = no_less (i + 1) links up s t in
    let part = up_part (is_up_link up i link) (s link.a) (s link.b) (t link.a) (t link.b) link.capacity in
    omega (arith, rest, part)

record IsLeastCut (n : ℕ) (links : List LinkOpening) (up : Entity → Bool) (a b : ℕ) (side : ℕ → Bool) : Type 0 where
  cut : IsCut side a b
  least : cut_value links up side ≡ least_cut n links up a b

-- a set that has every number
abbrev IsWhole : (ℕ → Bool) → Type 0
IsWhole side = (d : ℕ) → side d ≡ true

common_cut : (s t : ℕ → Bool) (a b : ℕ) → IsCut s a b → IsCut t a b → IsCut (common s t) a b
common_cut s t a b one two = record { inside = rw (one.inside, two.inside) refl; outside = rw one.outside refl }

either_cut : (s t : ℕ → Bool) (a b : ℕ) → IsCut s a b → IsCut t a b → IsCut (either s t) a b
either_cut s t a b one two = record { inside = rw one.inside refl; outside = rw (one.outside, two.outside) refl }

common_least : (n : ℕ) (links : List LinkOpening) (up : Entity → Bool) (a b : ℕ) (s t : ℕ → Bool) → AreLinks n links → IsLeastCut n links up a b s → IsLeastCut n links up a b t → IsLeastCut n links up a b (common s t)
common_least n links up a b s t are one two = record {
  cut = common_cut s t a b one.cut two.cut;
  least =
      let sum = no_less 0 links up s t in
      let low = least_cut-below n links up a b (common s t) are (common_cut s t a b one.cut two.cut) in
      let high = least_cut-below n links up a b (either s t) are (either_cut s t a b one.cut two.cut) in
      let first = one.least in
      let second = two.least in
      omega (arith, sum, low, high, first, second);
}

and_true : (p : Bool) → p ≡ (p && true)
and_true true = refl
and_true false = refl

and_whole : (s t : ℕ → Bool) → IsWhole t → s ≡ common s t
and_whole s t whole = fun_ext (λ d. and_true (s d) ∙ ap (λ (p : Bool). s d && p) (sym (whole d)))

whole_and : (s t : ℕ → Bool) → IsWhole s → t ≡ common s t
whole_and s t whole = fun_ext (λ d. ap (λ (p : Bool). p && t d) (sym (whole d)))

-- of two sets that are each such a cut or the whole, what they have in common is one
meet : (n : ℕ) (links : List LinkOpening) (up : Entity → Bool) (a b : ℕ) (s t : ℕ → Bool) → AreLinks n links → (IsLeastCut n links up a b s ⊎ IsWhole s) → (IsLeastCut n links up a b t ⊎ IsWhole t) → IsLeastCut n links up a b (common s t) ⊎ IsWhole (common s t)
meet n links up a b s t are (inl one) (inl two) = inl (common_least n links up a b s t are one two)
meet n links up a b s t are (inl one) (inr whole) = inl (subst (IsLeastCut n links up a b) (and_whole s t whole) one)
meet n links up a b s t are (inr whole) (inl two) = inl (subst (IsLeastCut n links up a b) (whole_and s t whole) two)
meet n links up a b s t are (inr whole) (inr all) = inr (λ d. rw (whole d, all d) refl)

-- and so of all sets of a family that goes over the sets of numbers below m
meet_all : (m n : ℕ) (links : List LinkOpening) (up : Entity → Bool) (a b : ℕ) (family : (ℕ → Bool) → ℕ → Bool) → AreLinks n links → ((side : ℕ → Bool) → IsLeastCut n links up a b (family side) ⊎ IsWhole (family side)) → IsLeastCut n links up a b (λ d. all_over m (λ side. family side d)) ⊎ IsWhole (λ d. all_over m (λ side. family side d))
meet_all zero n links up a b family are each = each (λ d. false)
meet_all (suc m) n links up a b family are each =
    meet n links up a b (λ d. all_over m (λ side. family side d)) (λ d. all_over m (λ side. family (with_number side m) d)) are
    (meet_all m n links up a b family are each)
    (meet_all m n links up a b (λ side. family (with_number side m)) are (λ side. each (with_number side m)))

cut_of_is : (a b : ℕ) (side : ℕ → Bool) → a ≢ b → IsCut (cut_of a b side) a b
cut_of_is a b side apart = record { inside = grind (arith, nat_tests); outside = grind (arith, nat_tests) }

-- a set counts where it is a cut of the least value
counted : (n : ℕ) (links : List LinkOpening) (up : Entity → Bool) (a b : ℕ) (side : ℕ → Bool) (p : Bool) → a ≢ b → (cut_value links up (cut_of a b side) == least_cut n links up a b) ≡ p → IsLeastCut n links up a b (λ d. not p || cut_of a b side d) ⊎ IsWhole (λ d. not p || cut_of a b side d)
counted n links up a b side true apart is = inl (record { cut = cut_of_is a b side apart; least = same (cut_value links up (cut_of a b side)) (least_cut n links up a b) is })
  where
    same : (v w : ℕ) → (v == w) ≡ true → v ≡ w
    same v w is = grind (arith, nat_tests)
counted n links up a b side false apart is = inr (λ d. refl)

not_whole : (n : ℕ) (links : List LinkOpening) (up : Entity → Bool) (a b : ℕ) → AreLinks n links → a ≢ b → b < n → is_in_least_side n links up a b b ≡ true → ⊥
not_whole n links up a b are apart low inside =
    let some = least_cut-attained n links up a b apart in
    let within = least_side-within n links up a b b some.0 are low some.1 some.2 inside in
    let outside = some.1.outside in
    cc

least_of : (n : ℕ) (links : List LinkOpening) (up : Entity → Bool) (a b : ℕ) → AreLinks n links → a ≢ b → b < n → (IsLeastCut n links up a b (is_in_least_side n links up a b) ⊎ IsWhole (is_in_least_side n links up a b)) → IsLeastSide n links up a b (is_in_least_side n links up a b)
least_of n links up a b are apart low (inl is) = record {
  cut = is.cut;
  least = is.least;
  inmost = λ other cut least d small inside. least_side-within n links up a b d other are small cut least inside;
}
least_of n links up a b are apart low (inr whole) = absurd (not_whole n links up a b are apart low (whole b))

pub side_is_least : (n : ℕ) (links : List LinkOpening) (up : Entity → Bool) (a b : ℕ) → AreLinks n links → a ≢ b → b < n → IsLeastSide n links up a b (is_in_least_side n links up a b)
side_is_least n links up a b are apart low =
    least_of n links up a b are apart low
    (meet_all n n links up a b (λ side d. not (cut_value links up (cut_of a b side) == least_cut n links up a b) || cut_of a b side d) are
    (λ side. counted n links up a b side (cut_value links up (cut_of a b side) == least_cut n links up a b) apart refl))
