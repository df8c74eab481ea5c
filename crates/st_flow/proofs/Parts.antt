-- A network with some of its edges left out.
use Rattle.std.proofs.Common.{map, filter, cond, ◌≡◌, ℕ, ◌≤◌, ◌==◌, Bool, true, false, List, [], ◌∷◌, length, ℤ, pos, ◌-ℤ◌, refl, arith, ◌∙◌, if◌then◌else◌}
use Rattle.std.proofs.lemmas.Int.{ints}
use Rattle.std.proofs.lemmas.List.Sums.{sum_by-cons}
use Rattle.std.specs.List.{AllZip}
use Rattle.st_flow.specs.declared.edge.Edge.{Edge}
use Rattle.st_flow.specs.Network.{FitsEdge, Sends, net_out, cut_part, cut_value}

-- what stands where the mask is true
abbrev pub pick : {A : Type 0} → List Bool → List A → List A
pick [] xs = []
pick (m ∷ ms) [] = []
pick (true ∷ ms) (x ∷ xs) = x ∷ pick ms xs
pick (false ∷ ms) (x ∷ xs) = pick ms xs

-- no cut gains where edges go
pub cut_value-pick : (ms : List Bool) (es : List Edge) (s : ℕ → Bool) → cut_value (pick ms es) s ≤ cut_value es s
cut_value-pick [] es s = omega arith
cut_value-pick (m ∷ ms) [] s = omega arith
cut_value-pick (true ∷ ms) (e ∷ es) s = omega (arith, cut_value-pick ms es s, sum_by-cons (cut_part s) e es, sum_by-cons (cut_part s) e (pick ms es))
cut_value-pick (false ∷ ms) (e ∷ es) s = omega (arith, cut_value-pick ms es s, sum_by-cons (cut_part s) e es)

-- an edge that goes carries nothing
abbrev pub Spares : List Bool → List ℤ → Type 0
Spares = AllZip (λ m f. m ≡ false → f ≡ pos 0)

part_out-zero : (in_u in_v : Bool) (f : ℤ) → f ≡ pos 0 → ((if in_u then f else pos 0) -ℤ (if in_v then f else pos 0)) ≡ pos 0
part_out-zero true true f z = omega (arith, ints)
part_out-zero true false f z = omega (arith, ints)
part_out-zero false true f z = omega (arith, ints)
part_out-zero false false f z = omega (arith, ints)

net_out-pick : (ms : List Bool) (es : List Edge) (fs : List ℤ) (s : ℕ → Bool) → length es ≡ length fs → Spares ms fs → net_out (pick ms es) (pick ms fs) s ≡ net_out es fs s
net_out-pick [] [] fs s same spares = refl
net_out-pick [] (e ∷ es) [] s same spares = refl
net_out-pick [] (e ∷ es) (f ∷ fs) s same spares = absurd spares
net_out-pick (m ∷ ms) [] [] s same spares = refl
net_out-pick (m ∷ ms) [] (f ∷ fs) s same spares = absurd (omega arith)
net_out-pick (m ∷ ms) (e ∷ es) [] s same spares = absurd spares
net_out-pick (true ∷ ms) (e ∷ es) (f ∷ fs) s same spares = let r = net_out-pick ms es fs s (omega arith) spares.1 in omega (arith, ints)
net_out-pick (false ∷ ms) (e ∷ es) (f ∷ fs) s same spares =
    let r = net_out-pick ms es fs s (omega arith) spares.1 in
    omega (arith, ints, part_out-zero (s e.u) (s e.v) f (spares.0 refl))

fits-pick : (ms : List Bool) (es : List Edge) (fs : List ℤ) → AllZip FitsEdge es fs → AllZip FitsEdge (pick ms es) (pick ms fs)
fits-pick [] es fs fits = tt
fits-pick (m ∷ ms) [] [] fits = tt
fits-pick (m ∷ ms) [] (f ∷ fs) fits = absurd fits
fits-pick (m ∷ ms) (e ∷ es) [] fits = absurd fits
fits-pick (true ∷ ms) (e ∷ es) (f ∷ fs) fits = (fits.0, fits-pick ms es fs fits.1)
fits-pick (false ∷ ms) (e ∷ es) (f ∷ fs) fits = fits-pick ms es fs fits.1

-- a flow that no lost edge carries is a flow of what is left
pub Sends-pick : (nodes : ℕ) (ms : List Bool) (es : List Edge) (fs : List ℤ) (a b need : ℕ) → length es ≡ length fs → Spares ms fs → Sends (record { nodes = nodes; edges = es }) fs a b need → Sends (record { nodes = nodes; edges = pick ms es }) (pick ms fs) a b need
Sends-pick nodes ms es fs a b need same spares sends = record {
  flow = record {
    fits = fits-pick ms es fs sends.flow.fits;
    conserved = λ x lt not_a not_b. net_out-pick ms es fs (λ y. y == x) same spares ∙ sends.flow.conserved x lt not_a not_b;
  };
  enough = rw (net_out-pick ms es fs (λ y. y == a) same spares) sends.enough;
}

-- the same by a test of the links that the edges stand for: where fewer links are up, no cut gains
pub cut_value-filter : {L : Type 0} (edge : L → Edge) (p q : L → Bool) (links : List L) (s : ℕ → Bool) → ((l : L) → p l ≡ true → q l ≡ true) → cut_value (map edge (filter p links)) s ≤ cut_value (map edge (filter q links)) s
cut_value-filter edge p q [] s within = omega arith
cut_value-filter edge p q (l ∷ links) s within =
    filter_step edge links l s (p l) (q l) (within l) (filter p links) (filter q links) (cut_value-filter edge p q links s within)
  where
    filter_step : {L : Type 0} (edge : L → Edge) (links : List L) (l : L) (s : ℕ → Bool) (in_p in_q : Bool) → (in_p ≡ true → in_q ≡ true) → (ps qs : List L) → cut_value (map edge ps) s ≤ cut_value (map edge qs) s →
        cut_value (map edge (cond in_p (l ∷ ps) ps)) s ≤ cut_value (map edge (cond in_q (l ∷ qs) qs)) s
    filter_step edge links l s true true within ps qs le = omega (arith, le, sum_by-cons (cut_part s) (edge l) (map edge ps), sum_by-cons (cut_part s) (edge l) (map edge qs))
    filter_step edge links l s true false within ps qs le = let no_way = within refl in cc
    filter_step edge links l s false true within ps qs le = omega (arith, le, sum_by-cons (cut_part s) (edge l) (map edge qs))
    filter_step edge links l s false false within ps qs le = le
