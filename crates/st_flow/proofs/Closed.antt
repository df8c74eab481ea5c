-- A set that no edge has room out of is a least cut, and each least cut is one.
use Rattle.std.proofs.Common.{◌≡◌, ◌≢◌, ℕ, ◌<◌, suc, zero, Bool, true, false, if◌then◌else◌, List, [], ◌∷◌, length, get_or, ℤ, pos, ◌+ℤ◌, ◌-ℤ◌, ◌<ℤ◌, refl, arith, sym, ◌∙◌, ap, inl, inr}
use Rattle.std.proofs.lemmas.Int.{ints}
use Rattle.std.proofs.lemmas.Bool.Decides.{eqb_tells}
use Rattle.std.proofs.lemmas.List.Sums.{sum_by-cons}
use Rattle.std.specs.List.{AllZip}
use Rattle.st_flow.specs.declared.edge.Edge.{Edge}
use Rattle.st_flow.specs.Network.{net_out, FitsEdge, cut_part, cut_value}
use Rattle.st_flow.specs.Residual.{other, room, IsEnd, IsFull, IsClosed}
use Rattle.st_flow.proofs.Duality.{part-le, net_out-le}

-- a fact of each pair, by index
pub AllZip-length : {A B : Type 0} (R : A → B → Type 0) (xs : List A) (ys : List B) → AllZip R xs ys → length ys ≡ length xs
AllZip-length R [] [] h = refl
AllZip-length R [] (y ∷ ys) h = absurd h
AllZip-length R (x ∷ xs) [] h = absurd h
AllZip-length R (x ∷ xs) (y ∷ ys) h = let r = AllZip-length R xs ys h.1 in ap suc r

pub AllZip-at : {A B : Type 0} (R : A → B → Type 0) (xs : List A) (ys : List B) (i : ℕ) (x : A) (y : B) → AllZip R xs ys → i < length xs → R (get_or xs i x) (get_or ys i y)
AllZip-at R [] [] i x y h lt = absurd (omega arith)
AllZip-at R [] (q ∷ ys) i x y h lt = absurd h
AllZip-at R (p ∷ xs) [] i x y h lt = absurd h
AllZip-at R (p ∷ xs) (q ∷ ys) zero x y h lt = h.0
AllZip-at R (p ∷ xs) (q ∷ ys) (suc i) x y h lt = AllZip-at R xs ys i x y h.1 (omega arith)

pub AllZip-from : {A B : Type 0} (R : A → B → Type 0) (xs : List A) (ys : List B) (x : A) (y : B) → length ys ≡ length xs → ((i : ℕ) → i < length xs → R (get_or xs i x) (get_or ys i y)) → AllZip R xs ys
AllZip-from R [] [] x y same h = tt
AllZip-from R [] (q ∷ ys) x y same h = absurd (omega arith)
AllZip-from R (p ∷ xs) [] x y same h = absurd (omega arith)
AllZip-from R (p ∷ xs) (q ∷ ys) x y same h = (h 0 (omega arith), AllZip-from R xs ys x y (omega arith) (λ i lt. h (suc i) (omega arith)))

-- a set that no edge has room out of: what leaves it is its value
pub IsClosed-net_out : (es : List Edge) (fs : List ℤ) (s : ℕ → Bool) → IsClosed es fs s → net_out es fs s ≡ pos (cut_value es s)
IsClosed-net_out [] [] s closed = refl
IsClosed-net_out [] (f ∷ fs) s closed = absurd closed
IsClosed-net_out (e ∷ es) [] s closed = absurd closed
IsClosed-net_out (e ∷ es) (f ∷ fs) s closed =
    let rest = IsClosed-net_out es fs s closed.1 in
    omega (arith, ints, sum_by-cons (cut_part s) e es, closed.0)

-- and the other way round
pub IsClosed-from : (es : List Edge) (fs : List ℤ) (s : ℕ → Bool) → AllZip FitsEdge es fs → net_out es fs s ≡ pos (cut_value es s) → IsClosed es fs s
IsClosed-from [] [] s fits same = tt
IsClosed-from [] (f ∷ fs) s fits same = absurd fits
IsClosed-from (e ∷ es) [] s fits same = absurd fits
IsClosed-from (e ∷ es) (f ∷ fs) s fits same =
    let here = part-le e f s fits.0 in
    let rest = net_out-le es fs s fits.1 in
    let sums = sum_by-cons (cut_part s) e es in
    (omega (arith, ints), IsClosed-from es fs s fits.1 (omega (arith, ints)))

-- a closed set has with a node each node that an edge with room leads to from there
full_into : (in_u in_v v_is : Bool) (f : ℤ) (capacity : ℕ) → ((if in_u then f else pos 0) -ℤ (if in_v then f else pos 0)) ≡ pos (if in_u then (if in_v then 0 else capacity) else (if in_v then capacity else 0)) → (if v_is then in_u else in_v) ≡ true → pos 0 <ℤ (if v_is then pos capacity -ℤ f else pos capacity +ℤ f) → (if v_is then in_v else in_u) ≡ true
full_into true true true f capacity full from more = refl
full_into true true false f capacity full from more = refl
full_into true false true f capacity full from more = absurd (omega (arith, ints))
full_into true false false f capacity full from more = absurd (cc)
full_into false true true f capacity full from more = absurd (cc)
full_into false true false f capacity full from more = absurd (omega (arith, ints))
full_into false false true f capacity full from more = absurd (cc)
full_into false false false f capacity full from more = absurd (cc)

pub IsFull-step : (e : Edge) (f : ℤ) (s : ℕ → Bool) (y : ℕ) → e.u ≢ e.v → IsEnd e y → IsFull s e f → s (other e y) ≡ true → pos 0 <ℤ room e f y → s y ≡ true
IsFull-step e f s y apart end full from more =
    elim (eqb_tells e.v y) [
      | inl is ↦ sym (ap s is.1) ∙ full_into (s e.u) (s e.v) true f e.capacity full (rw is.0 at from) (rw is.0 at more)
      | inr is ↦ elim end [
        | inl at_u ↦ sym (ap s at_u) ∙ full_into (s e.u) (s e.v) false f e.capacity full (rw is.0 at from) (rw is.0 at more)
        | inr at_v ↦ absurd (is.1 at_v)
      ]
    ]
