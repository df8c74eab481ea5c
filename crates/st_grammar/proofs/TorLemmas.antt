-- How many devices are ToRs.
use Rattle.std.proofs.Common.{◌≡◌, ◌+◌, ◌≤◌, List, [], ◌∷◌, ◌++◌, Bool, true, false, if◌then◌else◌, length, refl, arith}
use Rattle.st_net.specs.declared.parts.DevicePart.{DevicePart}
use Rattle.st_grammar.specs.Draft.{tors}

tors_few_step : (d : DevicePart) (ds : List DevicePart) (b : Bool) → d.tor ≡ b → length (tors ds) ≤ length ds → length (tors (d ∷ ds)) ≤ length (d ∷ ds)
tors_few_step d ds true e h = rw e (omega arith)
tors_few_step d ds false e h = rw e (omega arith)

pub tors_few : (ds : List DevicePart) → length (tors ds) ≤ length ds
tors_few [] = omega arith
tors_few (d ∷ ds) = tors_few_step d ds d.tor refl (tors_few ds)

tors_push_step : (x d : DevicePart) (ds : List DevicePart) (b : Bool) → x.tor ≡ b → length (tors (ds ++ d ∷ [])) ≡ length (tors ds) + (if d.tor then 1 else 0) → length (tors (x ∷ ds ++ d ∷ [])) ≡ length (tors (x ∷ ds)) + (if d.tor then 1 else 0)
tors_push_step x d ds true e h = rw e (omega arith)
tors_push_step x d ds false e h = rw e h

tors_one : (d : DevicePart) (b : Bool) → d.tor ≡ b → length (tors (d ∷ [])) ≡ 0 + (if d.tor then 1 else 0)
tors_one d true e = rw e (omega arith)
tors_one d false e = rw e (omega arith)

pub tors_push : (ds : List DevicePart) (d : DevicePart) → length (tors (ds ++ d ∷ [])) ≡ length (tors ds) + (if d.tor then 1 else 0)
tors_push [] d = tors_one d d.tor refl
tors_push (x ∷ ds) d = tors_push_step x d ds x.tor refl (tors_push ds d)
