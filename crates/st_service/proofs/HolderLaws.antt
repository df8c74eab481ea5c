-- A pass of which one place was written.
use Rattle.std.proofs.Common.{◌≡◌, ℕ, zero, suc, ◌<◌, List, [], ◌∷◌, length, map, get_or, set, refl, ap, sym, subst, ◌∙◌, arith}
use Rattle.std.proofs.lemmas.List.{length-map, length-set}
use mathlib.Core.List.{IsPrefix}
use Rattle.st_event.specs.declared.act.LogEntry.{LogEntry}
use Rattle.st_board.specs.Published.{Published}
use Rattle.st_event.proofs.Prefixes.{prefix_self}
use Rattle.st_service.specs.Kept.{Grows, Kept}
use Rattle.st_service.specs.Made.{Made}
use Rattle.st_service.specs.Passes.{Holder, no_reader}
use Rattle.st_service.proofs.Mines.{item_was, item_is, kept_at}

-- what holds of each item and itself, and of the two at i
pairs_set : {X A : Type 0} (f : X → A) (R : A → A → Type 0) (xs : List X) (i : ℕ) (x y : X) (d : A) → ((a : A) → R a a) → i < length xs → x ≡ get_or xs i x → R (f x) (f y) → (j : ℕ) → R (get_or (map f xs) j d) (get_or (map f (set xs i y)) j d)
pairs_set f R [] i x y d same lt at r j = absurd (omega (arith, lt))
pairs_set f R (z ∷ xs) zero x y d same lt at r zero = subst (λ w. R (f w) (f y)) at r
pairs_set f R (z ∷ xs) zero x y d same lt at r (suc j) = same (get_or (map f xs) j d)
pairs_set f R (z ∷ xs) (suc i) x y d same lt at r zero = same (f z)
pairs_set f R (z ∷ xs) (suc i) x y d same lt at r (suc j) = pairs_set f R xs i x y d same (omega (arith, lt)) at r j

-- a pass, by its places
abbrev pub holder : {X : Type 0} → (X → List Made) → (X → List ℕ) → (X → Published) → ℕ → List X → List LogEntry → Holder
holder log mine reader number places lines = record { number = number; fronts = map log places; mines = map mine places; readers = map reader places; log = lines }

pub kept_set : {X : Type 0} (log : X → List Made) (mine : X → List ℕ) (reader : X → Published) (number : ℕ) (lines more : List LogEntry) (ps : List X) (i most : ℕ) (x y : X)
    → i < length ps → x ≡ get_or ps i x → Grows most (log x) (mine x) (log y) (mine y) → IsPrefix (reader x).proposals (reader y).proposals
    → Kept (holder log mine reader number ps lines) (holder log mine reader number (set ps i y) more) i most
kept_set log mine reader number lines more ps i most x y lt at grows reads = record {
  number = refl;
  rooms = (length-map (set ps i y) log ∙ (length-set ps i y ∙ sym (length-map ps log)), length-map (set ps i y) mine ∙ (length-set ps i y ∙ sym (length-map ps mine)));
  others = λ k apart. (kept_at log ps i k y apart, kept_at mine ps i k y apart);
  grows = rw (item_was log ps i x [] lt at, item_was mine ps i x [] lt at, item_is log ps i y [] lt, item_is mine ps i y [] lt) grows;
  readers = λ k. pairs_set reader (λ (a b : Published). IsPrefix a.proposals b.proposals) ps i x y no_reader (λ a. prefix_self a.proposals) lt at reads k;
}

-- the same, where contracts see the pass by its fields
pub kept_place : {X : Type 0} (log : X → List Made) (mine : X → List ℕ) (reader : X → Published) (number : ℕ) (lines more : List LogEntry) (ps : List X) (i most : ℕ) (x y : X) (h : Holder)
    → holder log mine reader number ps lines ≡ h → i < length h.fronts → x ≡ get_or ps i x → Grows most (log x) (mine x) (log y) (mine y) → IsPrefix (reader x).proposals (reader y).proposals
    → Kept h (holder log mine reader number (set ps i y) more) i most
kept_place log mine reader number lines more ps i most x y h view lt at grows reads =
    let there : i < length ps = omega (arith, lt, ap (λ (p : Holder). length p.fronts) view, length-map ps log) in
    subst (λ (p : Holder). Kept p (holder log mine reader number (set ps i y) more) i most) view (kept_set log mine reader number lines more ps i most x y there at grows reads)

-- what is kept of a pass is so with another log
pub kept_logged : (a b : Holder) (g most : ℕ) (lines : List LogEntry) → Kept a b g most → Kept a (record b { log = lines }) g most
kept_logged a b g most lines k = record { number = k.number; rooms = k.rooms; others = k.others; grows = k.grows; readers = k.readers }
