-- A part with one opening value set: its name and its kind stay.
use Rattle.std.proofs.Common.{◌≡◌, ℕ, zero, suc, List, [], ◌∷◌, length, ap, refl}
use Rattle.std.specs.Prelude.{Bool, true, false}
use Rattle.st_net.specs.declared.entity.Var.{Var}
use Rattle.st_net.specs.declared.parts.DevicePart.{DevicePart}
use Rattle.st_net.specs.declared.parts.LinkPart.{LinkPart}
use Rattle.st_net.specs.Faults.{device_names, link_names}
use Rattle.st_grammar.specs.Draft.{tors, device_opened, link_opened}

pub device_names_kept : (ds : List DevicePart) (i : ℕ) (v : Var) (x : ℕ) → device_names (device_opened ds i v x) ≡ device_names ds
device_names_kept [] i v x = refl
device_names_kept (d ∷ ds) zero v x = refl
device_names_kept (d ∷ ds) (suc i) v x = ap (λ (ns : List (List ℕ)). d.name ∷ ns) (device_names_kept ds i v x)

pub link_names_kept : (ls : List LinkPart) (i : ℕ) (v : Var) (x : ℕ) → link_names (link_opened ls i v x) ≡ link_names ls
link_names_kept [] i v x = refl
link_names_kept (l ∷ ls) zero v x = refl
link_names_kept (l ∷ ls) (suc i) v x = ap (λ (ns : List (List ℕ)). l.name ∷ ns) (link_names_kept ls i v x)

pub devices_kept : (ds : List DevicePart) (i : ℕ) (v : Var) (x : ℕ) → length (device_opened ds i v x) ≡ length ds
devices_kept [] i v x = refl
devices_kept (d ∷ ds) zero v x = refl
devices_kept (d ∷ ds) (suc i) v x = ap suc (devices_kept ds i v x)

pub links_kept : (ls : List LinkPart) (i : ℕ) (v : Var) (x : ℕ) → length (link_opened ls i v x) ≡ length ls
links_kept [] i v x = refl
links_kept (l ∷ ls) zero v x = refl
links_kept (l ∷ ls) (suc i) v x = ap suc (links_kept ls i v x)

pub tors_kept : (ds : List DevicePart) (i : ℕ) (v : Var) (x : ℕ) → length (tors (device_opened ds i v x)) ≡ length (tors ds)
tors_kept [] i v x = refl
tors_kept (d ∷ ds) zero v x = step d.tor refl
  where
    step : (b : Bool) → d.tor ≡ b → length (tors (device_opened (d ∷ ds) zero v x)) ≡ length (tors (d ∷ ds))
    step true e = rw e refl
    step false e = rw e refl
tors_kept (d ∷ ds) (suc i) v x = step d.tor refl (tors_kept ds i v x)
  where
    step : (b : Bool) → d.tor ≡ b → length (tors (device_opened ds i v x)) ≡ length (tors ds) → length (tors (device_opened (d ∷ ds) (suc i) v x)) ≡ length (tors (d ∷ ds))
    step true e rest = rw e (ap suc rest)
    step false e rest = rw e rest
