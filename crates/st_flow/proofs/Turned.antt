-- Amounts turned round, as a search against a flow meets them.
use Rattle.std.proofs.Common.{◌≡◌, ◌≢◌, ℕ, suc, zero, Bool, true, false, if◌then◌else◌, List, [], ◌∷◌, length, set, map, ℤ, pos, ◌-ℤ◌, neg_ℤ, refl, arith, ap, sym, inl, inr}
use Rattle.std.proofs.lemmas.Int.{ints}
use Rattle.std.proofs.lemmas.Bool.Decides.{eqb_tells}
use Rattle.std.specs.List.{AllZip}
use Rattle.st_flow.specs.declared.direction.Direction.{Direction}
use Rattle.st_flow.specs.declared.direction.Direction.TheVariants.{Along, Against}
use Rattle.st_flow.specs.declared.edge.Edge.{Edge}
use Rattle.st_flow.specs.Network.{FitsEdge, net_out}
use Rattle.st_flow.specs.Residual.{other, room, pushed, turn, turned, IsEnd, amount_at}

length-against : (fs : List ℤ) → length (map neg_ℤ fs) ≡ length fs
length-against [] = refl
length-against (f ∷ fs) = ap suc (length-against fs)

pub length-turned : (d : Direction) (fs : List ℤ) → length (turned d fs) ≡ length fs
length-turned Along fs = refl
length-turned Against fs = length-against fs

amount_at-against : (fs : List ℤ) (i : ℕ) → amount_at (map neg_ℤ fs) i ≡ neg_ℤ (amount_at fs i)
amount_at-against [] i = refl
amount_at-against (f ∷ fs) zero = refl
amount_at-against (f ∷ fs) (suc i) = amount_at-against fs i

pub amount_at-turned : (d : Direction) (fs : List ℤ) (i : ℕ) → amount_at (turned d fs) i ≡ turn d (amount_at fs i)
amount_at-turned Along fs i = refl
amount_at-turned Against fs i = amount_at-against fs i

set-against : (fs : List ℤ) (i : ℕ) (z : ℤ) → map neg_ℤ (set fs i z) ≡ set (map neg_ℤ fs) i (neg_ℤ z)
set-against [] i z = refl
set-against (f ∷ fs) zero z = refl
set-against (f ∷ fs) (suc i) z = ap (λ gs. neg_ℤ f ∷ gs) (set-against fs i z)

pub set-turned : (d : Direction) (fs : List ℤ) (i : ℕ) (z : ℤ) → turned d (set fs i z) ≡ set (turned d fs) i (turn d z)
set-turned Along fs i z = refl
set-turned Against fs i z = set-against fs i z

pub FitsEdge-turned : (d : Direction) (e : Edge) (f : ℤ) → FitsEdge e f → FitsEdge e (turn d f)
FitsEdge-turned Along e f fits = fits
FitsEdge-turned Against e f fits = let low = fits.low in let high = fits.high in record { low = omega (arith, ints); high = omega (arith, ints) }

AllZip-against : (es : List Edge) (fs : List ℤ) → AllZip FitsEdge es fs → AllZip FitsEdge es (map neg_ℤ fs)
AllZip-against [] [] fits = tt
AllZip-against [] (f ∷ fs) fits = absurd fits
AllZip-against (e ∷ es) [] fits = absurd fits
AllZip-against (e ∷ es) (f ∷ fs) fits = (FitsEdge-turned Against e f fits.0, AllZip-against es fs fits.1)

pub AllZip-turned : (d : Direction) (es : List Edge) (fs : List ℤ) → AllZip FitsEdge es fs → AllZip FitsEdge es (turned d fs)
AllZip-turned Along es fs fits = fits
AllZip-turned Against es fs fits = AllZip-against es fs fits

FitsEdge-unturned : (e : Edge) (f : ℤ) → FitsEdge e (neg_ℤ f) → FitsEdge e f
FitsEdge-unturned e f fits = let low = fits.low in let high = fits.high in record { low = omega (arith, ints); high = omega (arith, ints) }

AllZip-unagainst : (es : List Edge) (fs : List ℤ) → AllZip FitsEdge es (map neg_ℤ fs) → AllZip FitsEdge es fs
AllZip-unagainst [] [] fits = tt
AllZip-unagainst [] (f ∷ fs) fits = absurd fits
AllZip-unagainst (e ∷ es) [] fits = absurd fits
AllZip-unagainst (e ∷ es) (f ∷ fs) fits = (FitsEdge-unturned e f fits.0, AllZip-unagainst es fs fits.1)

pub AllZip-unturned : (d : Direction) (es : List Edge) (fs : List ℤ) → AllZip FitsEdge es (turned d fs) → AllZip FitsEdge es fs
AllZip-unturned Along es fs fits = fits
AllZip-unturned Against es fs fits = AllZip-unagainst es fs fits

part_out-against : (in_u in_v : Bool) (f : ℤ) → ((if in_u then neg_ℤ f else pos 0) -ℤ (if in_v then neg_ℤ f else pos 0)) ≡ neg_ℤ ((if in_u then f else pos 0) -ℤ (if in_v then f else pos 0))
part_out-against true true f = omega (arith, ints)
part_out-against true false f = omega (arith, ints)
part_out-against false true f = omega (arith, ints)
part_out-against false false f = omega (arith, ints)

-- as much enters a set as left it
pub net_out-against : (es : List Edge) (fs : List ℤ) (s : ℕ → Bool) → net_out es (turned Against fs) s ≡ neg_ℤ (net_out es fs s)
net_out-against [] fs s = refl
net_out-against (e ∷ es) [] s = refl
net_out-against (e ∷ es) (f ∷ fs) s =
    let here = part_out-against (s e.u) (s e.v) f in
    let rest = net_out-against es fs s in
    omega (arith, ints)

pub turn-same : (d : Direction) (f g : ℤ) → turn d f ≡ turn d g → f ≡ g
turn-same Along f g same = same
turn-same Against f g same = omega (arith, ints, same)

-- what has room out of an end is what has room into the other end
pub room-against : (e : Edge) (f : ℤ) (x : ℕ) → e.u ≢ e.v → IsEnd e x → room e (neg_ℤ f) (other e x) ≡ room e f x
room-against e f x apart end =
    elim (eqb_tells e.v x) [
      | inl is ↦ rw is.0 (elim (eqb_tells e.v e.u) [ inl same ↦ absurd (apart (sym same.1)) | inr ne ↦ rw ne.0 (omega (arith, ints)) ])
      | inr is ↦ rw is.0 (elim (eqb_tells e.v e.v) [ inl same ↦ rw same.0 (omega (arith, ints)) | inr ne ↦ absurd (ne.1 refl) ])
    ]

pub pushed-against : (e : Edge) (f d : ℤ) (y : ℕ) → e.u ≢ e.v → IsEnd e y → neg_ℤ (pushed e f (other e y) d) ≡ pushed e (neg_ℤ f) y d
pushed-against e f d y apart end =
    elim (eqb_tells e.v y) [
      | inl is ↦ rw is.0 (elim (eqb_tells e.v e.u) [ inl same ↦ absurd (apart (sym same.1)) | inr ne ↦ rw ne.0 (omega (arith, ints)) ])
      | inr is ↦ rw is.0 (elim (eqb_tells e.v e.v) [ inl same ↦ rw same.0 (omega (arith, ints)) | inr ne ↦ absurd (ne.1 refl) ])
    ]
