-- A part with one health set: its name and its kind stay.
use Rattle.std.proofs.Common.{◌≡◌, ℕ, zero, suc, List, [], ◌∷◌, length, ap, refl}
use Rattle.std.specs.Prelude.{Bool, true, false}
use Rattle.st_net.specs.declared.parts.DevicePart.{DevicePart}
use Rattle.st_net.specs.declared.parts.LinkPart.{LinkPart}
use Rattle.st_net.specs.Faults.{device_names, link_names}
use Rattle.st_grammar.specs.Draft.{tors, device_told, link_told}

pub told_device_names : (ds : List DevicePart) (i h : ℕ) → device_names (device_told ds i h) ≡ device_names ds
told_device_names [] i h = refl
told_device_names (d ∷ ds) zero h = refl
told_device_names (d ∷ ds) (suc i) h = ap (λ (ns : List (List ℕ)). d.name ∷ ns) (told_device_names ds i h)

pub told_link_names : (ls : List LinkPart) (i h : ℕ) → link_names (link_told ls i h) ≡ link_names ls
told_link_names [] i h = refl
told_link_names (l ∷ ls) zero h = refl
told_link_names (l ∷ ls) (suc i) h = ap (λ (ns : List (List ℕ)). l.name ∷ ns) (told_link_names ls i h)

pub told_devices_count : (ds : List DevicePart) (i h : ℕ) → length (device_told ds i h) ≡ length ds
told_devices_count [] i h = refl
told_devices_count (d ∷ ds) zero h = refl
told_devices_count (d ∷ ds) (suc i) h = ap suc (told_devices_count ds i h)

pub told_links_count : (ls : List LinkPart) (i h : ℕ) → length (link_told ls i h) ≡ length ls
told_links_count [] i h = refl
told_links_count (l ∷ ls) zero h = refl
told_links_count (l ∷ ls) (suc i) h = ap suc (told_links_count ls i h)

pub told_tors : (ds : List DevicePart) (i h : ℕ) → length (tors (device_told ds i h)) ≡ length (tors ds)
told_tors [] i h = refl
told_tors (d ∷ ds) zero h = step d.tor refl
  where
    step : (b : Bool) → d.tor ≡ b → length (tors (device_told (d ∷ ds) zero h)) ≡ length (tors (d ∷ ds))
    step true e = rw e refl
    step false e = rw e refl
told_tors (d ∷ ds) (suc i) h = step d.tor refl (told_tors ds i h)
  where
    step : (b : Bool) → d.tor ≡ b → length (tors (device_told ds i h)) ≡ length (tors ds) → length (tors (device_told (d ∷ ds) (suc i) h)) ≡ length (tors (d ∷ ds))
    step true e rest = rw e (ap suc rest)
    step false e rest = rw e rest
