-- Worlds with their journals, and the texts of each.
use Rattle.std.proofs.Common.{◌≡◌, ℕ, ◌+◌, ◌<◌, List, [], ◌∷◌, ◌++◌, length, refl, ap, take}
use Rattle.std.specs.Prelude.{slice_index_or, flat_map, map}
use Rattle.st_text.proofs.PrintLemmas.{IsByElement, by_next}
use Rattle.st_text.specs.Words.{text_of}
use Rattle.st_event.specs.History.{History}
use Rattle.st_entry.specs.Words.{Words}
use Rattle.st_world.specs.World.{WorldView}
use Rattle.st_report.specs.Lines.{histories}
use Rattle.st_serial.specs.Serial.{states_of}
use Rattle.st_top.proofs.TextLines.{text_both}

-- worlds with their journals
pub histories_are : (ws : List WorldView) → map (λ s. s.history) (states_of ws) ≡ histories ws
histories_are [] = refl
histories_are (w ∷ ws) = ap (λ hs. w.history ∷ hs) (histories_are ws)

-- one more world behind those whose texts were added
texts_by_world : (f : History → List ℕ) → IsByElement (λ (ws : List WorldView). flat_map f (histories ws)) (λ (w : WorldView). f w.history)
texts_by_world f = record { none = refl; more = λ w ws. refl }

pub text_next : (f : History → List ℕ) (ws : List WorldView) (i : ℕ) (w d : WorldView) (old mid new : List ℕ) → i < length ws → w ≡ slice_index_or ws i d → mid ≡ old ++ flat_map f (histories (take i ws)) → new ≡ mid ++ f w.history → new ≡ old ++ flat_map f (histories (take (i + 1) ws))
text_next f ws i w d old mid new low is before added = by_next (λ (vs : List WorldView). flat_map f (histories vs)) (λ (v : WorldView). f v.history) (texts_by_world f) ws i w d old mid new low is before added

-- and one more behind those whose lines were added
lines_by_world : (f : History → List Words) → IsByElement (λ (ws : List WorldView). text_of (flat_map f (histories ws))) (λ (w : WorldView). text_of (f w.history))
lines_by_world f = record { none = refl; more = λ w ws. text_both (f w.history) (flat_map f (histories ws)) }

pub lines_next : (f : History → List Words) (ws : List WorldView) (i : ℕ) (w d : WorldView) (old mid new : List ℕ) → i < length ws → w ≡ slice_index_or ws i d → mid ≡ old ++ text_of (flat_map f (histories (take i ws))) → new ≡ mid ++ text_of (f w.history) → new ≡ old ++ text_of (flat_map f (histories (take (i + 1) ws)))
lines_next f ws i w d old mid new low is before added = by_next (λ (vs : List WorldView). text_of (flat_map f (histories vs))) (λ (v : WorldView). text_of (f v.history)) (lines_by_world f) ws i w d old mid new low is before added
