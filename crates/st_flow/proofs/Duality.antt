-- The amount of any flow is at most the value of any cut.
use Rattle.std.proofs.Common.{◌≡◌, ◌≢◌, ℕ, ◌<◌, ◌≤◌, ◌==◌, suc, zero, Bool, true, false, if◌then◌else◌, List, [], ◌∷◌, ℤ, pos, ◌+ℤ◌, ◌-ℤ◌, ◌≤ℤ◌, neg_ℤ, refl, arith, All, sym, ◌∙◌, ap, inl, inr}
use Rattle.std.proofs.lemmas.Int.{ints}
use Rattle.std.proofs.lemmas.Bool.Decides.{nat_tests, eqb_tells}
use Rattle.std.proofs.lemmas.List.Elements.{All-head, All-tail}
use Rattle.std.proofs.lemmas.List.Sums.{sum_by-cons}
use Rattle.std.specs.List.{AllZip}
use Rattle.st_flow.specs.declared.edge.Edge.{Edge}
use Rattle.st_flow.specs.Network.{IsEdge, part_out, net_out, net_out_of, FitsEdge, IsFlow, IsCut, cut_part, cut_value}

-- the sum of g over the nodes of a set below n
abbrev pub total : (ℕ → ℤ) → (ℕ → Bool) → ℕ → ℤ
total g s zero = pos 0
total g s (suc n) = (if s n then g n else pos 0) +ℤ total g s n

pub total-add : (g h k : ℕ → ℤ) (s : ℕ → Bool) (n : ℕ) → ((x : ℕ) → g x ≡ h x +ℤ k x) → total g s n ≡ total h s n +ℤ total k s n
total-add g h k s zero e = omega (arith, ints)
total-add g h k s (suc n) e = let r = total-add g h k s n e in let en = e n in elim (s n) as (λ v. (if v then g n else pos 0) +ℤ total g s n ≡ ((if v then h n else pos 0) +ℤ total h s n) +ℤ ((if v then k n else pos 0) +ℤ total k s n)) [ true ↦ omega (arith, ints) | false ↦ omega (arith, ints) ]

pub total-zero : (s : ℕ → Bool) (n : ℕ) → total (λ x. pos 0) s n ≡ pos 0
total-zero s zero = refl
total-zero s (suc n) = let r = total-zero s n in elim (s n) as (λ v. (if v then pos 0 else pos 0) +ℤ total (λ x. pos 0) s n ≡ pos 0) [ true ↦ omega (arith, ints) | false ↦ omega (arith, ints) ]

none_step : (b : Bool) (here rest : ℤ) → (b ≡ true → here ≡ pos 0) → rest ≡ pos 0 → (if b then here else pos 0) +ℤ rest ≡ pos 0
none_step true here rest none r = let z = none refl in omega (arith, ints)
none_step false here rest none r = omega (arith, ints)

only_here : (a n : ℕ) (g : ℕ → ℤ) (s : ℕ → Bool) (rest : ℤ) → a ≡ n → s a ≡ true → rest ≡ pos 0 → (if s n then g n else pos 0) +ℤ rest ≡ g a
only_here a n g s rest same here r = let e : s n ≡ true = cc in let k : g n ≡ g a = cc in rw e (omega (arith, ints))

only_there : (b : Bool) (here rest all : ℤ) → (b ≡ true → here ≡ pos 0) → rest ≡ all → (if b then here else pos 0) +ℤ rest ≡ all
only_there true here rest all none r = let z = none refl in omega (arith, ints)
only_there false here rest all none r = omega (arith, ints)

part_le_at : (in_u in_v : Bool) (f : ℤ) (capacity : ℕ) → neg_ℤ (pos capacity) ≤ℤ f → f ≤ℤ pos capacity → ((if in_u then f else pos 0) -ℤ (if in_v then f else pos 0)) ≤ℤ pos (if in_u then (if in_v then 0 else capacity) else (if in_v then capacity else 0))
part_le_at true true f capacity low high = omega (arith, ints)
part_le_at true false f capacity low high = omega (arith, ints)
part_le_at false true f capacity low high = omega (arith, ints)
part_le_at false false f capacity low high = omega (arith, ints)

-- the sum of g over the nodes of a set below n, where g is f at u and 0 elsewhere
pub total-point_above : (u : ℕ) (f : ℤ) (s : ℕ → Bool) (n : ℕ) → n ≤ u → total (λ x. if u == x then f else pos 0) s n ≡ pos 0
total-point_above u f s zero h = refl
total-point_above u f s (suc n) h = let r = total-point_above u f s n (omega arith) in grind (arith, ints, nat_tests, r)

point_here : (u n : ℕ) (b c : Bool) (f t : ℤ) → (u == n) ≡ true → b ≡ c → t ≡ pos 0 → (if c then if u == n then f else pos 0 else pos 0) +ℤ t ≡ (if b then f else pos 0)
point_here u n b c f t e same z = grind (arith, ints)

point_there : (u n : ℕ) (b c : Bool) (f t : ℤ) → (u == n) ≡ false → t ≡ (if b then f else pos 0) → (if c then if u == n then f else pos 0 else pos 0) +ℤ t ≡ (if b then f else pos 0)
point_there u n b c f t e r = grind (arith, ints)

pub total-point : (u : ℕ) (f : ℤ) (s : ℕ → Bool) (n : ℕ) → u < n → total (λ x. if u == x then f else pos 0) s n ≡ (if s u then f else pos 0)
total-point u f s zero h = absurd (omega arith)
total-point u f s (suc n) h =
    elim (eqb_tells u n) [
      | inl e ↦ let r = total-point_above u f s n (omega (arith, e.1)) in point_here u n (s u) (s n) f (total (λ x. if u == x then f else pos 0) s n) e.0 (ap s e.1) r
      | inr e ↦ let r = total-point u f s n (omega (arith, e.1)) in point_there u n (s u) (s n) f (total (λ x. if u == x then f else pos 0) s n) e.0 r
    ]

-- what leaves an edge's ends that are in a set below n, one by one, is what leaves the set
part_total : (nodes : ℕ) (e : Edge) (f : ℤ) (s : ℕ → Bool) → IsEdge nodes e → total (λ x. part_out e f (λ y. y == x)) s nodes ≡ part_out e f s
part_total nodes e f s is =
    let at_u = total-point e.u f s nodes is.u_in in
    let at_v = total-point e.v f s nodes is.v_in in
    let add = total-add (λ x. if e.u == x then f else pos 0) (λ x. part_out e f (λ y. y == x)) (λ x. if e.v == x then f else pos 0) s nodes (λ x. omega (arith, ints)) in
    omega (arith, ints)

-- what leaves a set is the sum of what leaves its nodes
pub net_out-total : (nodes : ℕ) (es : List Edge) (fs : List ℤ) (s : ℕ → Bool) → All (IsEdge nodes) es → total (net_out_of es fs) s nodes ≡ net_out es fs s
net_out-total nodes [] fs s all = total-zero s nodes
net_out-total nodes (e ∷ es) [] s all = total-zero s nodes
net_out-total nodes (e ∷ es) (f ∷ fs) s all =
    let here = part_total nodes e f s (All-head (IsEdge nodes) e es all) in
    let rest = net_out-total nodes es fs s (All-tail (IsEdge nodes) e es all) in
    let add = total-add (net_out_of (e ∷ es) (f ∷ fs)) (λ x. part_out e f (λ y. y == x)) (net_out_of es fs) s nodes (λ x. refl) in
    omega (arith, ints)

-- where only a of the set's nodes counts
pub total-none : (g : ℕ → ℤ) (s : ℕ → Bool) (n : ℕ) → ((x : ℕ) → x < n → s x ≡ true → g x ≡ pos 0) → total g s n ≡ pos 0
total-none g s zero none = refl
total-none g s (suc n) none =
    let r = total-none g s n (λ x lt is. none x (omega arith) is) in
    none_step (s n) (g n) (total g s n) (none n (omega arith)) r

pub total-only : (g : ℕ → ℤ) (s : ℕ → Bool) (a n : ℕ) → a < n → s a ≡ true → ((x : ℕ) → x < n → s x ≡ true → x ≢ a → g x ≡ pos 0) → total g s n ≡ g a
total-only g s a zero in_range here none = absurd (omega arith)
total-only g s a (suc n) in_range here none =
    elim (eqb_tells a n) [
      | inl e ↦ only_here a n g s (total g s n) e.1 here (total-none g s n (λ x lt is. none x (omega arith) is (λ same. absurd (omega (arith, same, lt, e.1)))))
      | inr e ↦ let r = total-only g s a n (omega (arith, e.1)) here (λ x lt is. none x (omega arith) is) in
          only_there (s n) (g n) (total g s n) (g a) (λ is. none n (omega arith) is (λ same. e.1 (sym same))) r
    ]

-- a cut's edges take no more out of it than its value
pub part-le : (e : Edge) (f : ℤ) (s : ℕ → Bool) → FitsEdge e f → part_out e f s ≤ℤ pos (cut_part s e)
part-le e f s fits = part_le_at (s e.u) (s e.v) f e.capacity fits.low fits.high

pub net_out-le : (es : List Edge) (fs : List ℤ) (s : ℕ → Bool) → AllZip FitsEdge es fs → net_out es fs s ≤ℤ pos (cut_value es s)
net_out-le [] [] s fits = omega (arith, ints)
net_out-le [] (f ∷ fs) s fits = absurd fits
net_out-le (e ∷ es) [] s fits = absurd fits
net_out-le (e ∷ es) (f ∷ fs) s fits =
    let here = part-le e f s fits.0 in
    let rest = net_out-le es fs s fits.1 in
    omega (arith, ints, sum_by-cons (cut_part s) e es)

-- what leaves a cut is what leaves a
pub net_out-cut : (nodes : ℕ) (es : List Edge) (fs : List ℤ) (a b : ℕ) (s : ℕ → Bool) → All (IsEdge nodes) es → a < nodes → IsFlow nodes es fs a b → IsCut s a b → net_out es fs s ≡ net_out_of es fs a
net_out-cut nodes es fs a b s all a_in flow cut =
    sym (net_out-total nodes es fs s all) ∙ total-only (net_out_of es fs) s a nodes a_in cut.inside (λ x lt is other. flow.conserved x lt other (λ same. cc (is, cut.outside, ap s same)))

pub flow-le-cut : (nodes : ℕ) (es : List Edge) (fs : List ℤ) (a b : ℕ) (s : ℕ → Bool) → All (IsEdge nodes) es → a < nodes → IsFlow nodes es fs a b → IsCut s a b → net_out_of es fs a ≤ℤ pos (cut_value es s)
flow-le-cut nodes es fs a b s all a_in flow cut =
    let e = net_out-cut nodes es fs a b s all a_in flow cut in
    let le = net_out-le es fs s flow.fits in
    omega (arith, ints)
