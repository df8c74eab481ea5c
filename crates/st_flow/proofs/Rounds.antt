-- One round of `max_flow` after another.
use Rattle.std.proofs.Common.{◌≡◌, ◌≢◌, ℕ, ◌<◌, ◌==◌, suc, Bool, true, false, if◌then◌else◌, List, [], ◌∷◌, length, get_or, replicate, ℤ, pos, ◌+ℤ◌, ◌-ℤ◌, refl, arith, All, sym, ◌∙◌, inl, inr}
use Rattle.std.proofs.lemmas.Int.{ints}
use Rattle.std.proofs.lemmas.Bool.Decides.{nat_tests, eqb_tells, leb_tells}
use Rattle.std.proofs.lemmas.List.Sums.{sum_by-cons}
use Rattle.std.proofs.lemmas.List.{get_or-replicate, length-replicate}
use Rattle.std.proofs.Math.ListN.{get_or-eq_default}
use Rattle.std.specs.List.{AllZip}
use Rattle.std.specs.List.Sorted.{IsStrictlyIncreasing}
use Rattle.st_flow.specs.declared.edge.Edge.{Edge}
use Rattle.st_flow.specs.declared.search.Mark.{Mark}
use Rattle.st_flow.specs.Network.{IsEdge, FitsEdge, IsFlow, IsCut, IsLeastCut, net_out, net_out_of, cut_part, cut_value, has}
use Rattle.st_flow.specs.Residual.{no_edge, only_if, IsClosed}
use Rattle.st_flow.specs.Search.{mark_at, reached, IsSearch}
use Rattle.st_flow.proofs.Closed.{AllZip-from, IsClosed-net_out, IsClosed-from}
use Rattle.st_flow.proofs.Duality.{net_out-cut, flow-le-cut}
use Rattle.st_flow.proofs.Running.{reached_level, level_reached}
use Rattle.st_flow.proofs.Side.{has-at}

-- the flow of nothing
part_out-zero : (in_u in_v : Bool) → ((if in_u then pos 0 else pos 0) -ℤ (if in_v then pos 0 else pos 0)) ≡ pos 0
part_out-zero true true = refl
part_out-zero true false = refl
part_out-zero false true = refl
part_out-zero false false = refl

net_out-zero : (es : List Edge) (fs : List ℤ) (s : ℕ → Bool) → ((i : ℕ) → get_or fs i (pos 0) ≡ pos 0) → net_out es fs s ≡ pos 0
net_out-zero [] fs s zeros = refl
net_out-zero (e ∷ es) [] s zeros = refl
net_out-zero (e ∷ es) (f ∷ fs) s zeros =
    let rest = net_out-zero es fs s (λ i. zeros (suc i)) in
    let here : f ≡ pos 0 = zeros 0 in
    rw (here, rest) (omega (arith, ints, part_out-zero (s e.u) (s e.v)))

pub zeros-at : (n i : ℕ) → get_or (replicate n (pos 0)) i (pos 0) ≡ pos 0
zeros-at n i = elim (leb_tells n i) [
  | inl past ↦ get_or-eq_default (replicate n (pos 0)) (pos 0) (omega (arith, past.1, length-replicate n (pos 0)))
  | inr here ↦ get_or-replicate n i (pos 0) (pos 0) here.1
]

pub IsFlow-start : (nodes : ℕ) (es : List Edge) (a b : ℕ) → IsFlow nodes es (replicate (length es) (pos 0)) a b
IsFlow-start nodes es a b = record {
  fits = AllZip-from FitsEdge es (replicate (length es) (pos 0)) no_edge (pos 0) (length-replicate (length es) (pos 0)) (λ i lt. rw (zeros-at (length es) i) (record { low = omega (arith, ints); high = omega (arith, ints) }));
  conserved = λ x lt not_a not_b. net_out-zero es (replicate (length es) (pos 0)) (λ y. y == x) (zeros-at (length es));
}

pub net_out-start : (es : List Edge) (a : ℕ) → net_out_of es (replicate (length es) (pos 0)) a ≡ pos 0
net_out-start es a = net_out-zero es (replicate (length es) (pos 0)) (λ y. y == a) (zeros-at (length es))

pub not_same : (x y : ℕ) → x ≢ y → (x == y) ≡ false
not_same x y ne = elim (eqb_tells x y) [ inl e ↦ absurd (ne e.1) | inr e ↦ e.0 ]

pub same_self : (x : ℕ) → (x == x) ≡ true
same_self x = elim (eqb_tells x x) [ inl e ↦ e.0 | inr e ↦ absurd (e.1 refl) ]

-- a alone
pub alone_cut : (a b : ℕ) → a ≢ b → IsCut (λ y. y == a) a b
alone_cut a b apart = record { inside = same_self a; outside = not_same b a (λ e. apart (sym e)) }

-- with d more on the way from a to b
pub IsFlow-pushed : (nodes : ℕ) (es : List Edge) (fs gs : List ℤ) (a b : ℕ) (d : ℤ) → IsFlow nodes es fs a b → AllZip FitsEdge es gs →
    ((s : ℕ → Bool) → net_out es gs s +ℤ only_if (s b) d ≡ net_out es fs s +ℤ only_if (s a) d) → IsFlow nodes es gs a b
IsFlow-pushed nodes es fs gs a b d flow fits moved = record {
  fits = fits;
  conserved = λ x lt not_a not_b.
      let m = rw (not_same b x (λ e. not_b (sym e)), not_same a x (λ e. not_a (sym e))) at (moved (λ y. y == x)) in
      omega (arith, ints, flow.conserved x lt not_a not_b, m);
}

pub net_out-pushed : (es : List Edge) (fs gs : List ℤ) (a b : ℕ) (d : ℤ) → a ≢ b →
    ((s : ℕ → Bool) → net_out es gs s +ℤ only_if (s b) d ≡ net_out es fs s +ℤ only_if (s a) d) → net_out_of es gs a ≡ net_out_of es fs a +ℤ d
net_out-pushed es fs gs a b d apart moved =
    let m = rw (not_same b a (λ e. apart (sym e)), same_self a) at (moved (λ y. y == a)) in
    omega (arith, ints, m)

cut_value-same : (es : List Edge) (s t : ℕ → Bool) → ((x : ℕ) → s x ≡ t x) → cut_value es s ≡ cut_value es t
cut_value-same [] s t same = refl
cut_value-same (e ∷ es) s t same =
    let here : cut_part s e ≡ cut_part t e = rw (same e.u, same e.v) refl in
    let rest = cut_value-same es s t same in
    omega (arith, sum_by-cons (cut_part s) e es, sum_by-cons (cut_part t) e es, here, rest)

-- where a search from a does not reach b, what it reached is the least side
pub IsLeastCut-from : (nodes : ℕ) (es : List Edge) (fs : List ℤ) (a b limit sent : ℕ) (marks : List Mark) (side : List ℕ) →
    All (IsEdge nodes) es → a < nodes → IsFlow nodes es fs a b → pos sent ≡ net_out_of es fs a → IsSearch nodes es fs a limit marks → IsClosed es fs (reached marks) → (mark_at marks b).level ≡ 0 →
    ((x : ℕ) → has side x ≡ reached marks x) → IsStrictlyIncreasing side → All (λ x. x < nodes) side → IsLeastCut (record { nodes = nodes; edges = es }) a b sent side
IsLeastCut-from nodes es fs a b limit sent marks side edges a_in flow amount search closed none has_is ascending in_range =
    let reached_cut : IsCut (reached marks) a b = record { inside = level_reached marks a search.starts; outside = rw none (grind (arith, nat_tests)) } in
    let out = net_out-cut nodes es fs a b (reached marks) edges a_in flow reached_cut in
    let value = IsClosed-net_out es fs (reached marks) closed in
    record {
      is_cut = record { inside = has_is a ∙ reached_cut.inside; outside = has_is b ∙ reached_cut.outside };
      value_is = cut_value-same es (has side) (reached marks) has_is ∙ omega (arith, ints, out, value, amount);
      least = λ s cut. omega (arith, ints, flow-le-cut nodes es fs a b s edges a_in flow cut, amount);
      inmost = λ s cut same k d lt.
          let full = IsClosed-from es fs s flow.fits (net_out-cut nodes es fs a b s edges a_in flow cut ∙ omega (arith, ints, same, amount)) in
          search.inmost s cut.inside full (get_or side k d) (reached_level marks (get_or side k d) (sym (has_is (get_or side k d)) ∙ has-at side k d lt));
      ascending = ascending;
      in_range = in_range;
    }
