-- Entities that a group does not have: they open with nothing, and are not sure.
use Rattle.std.proofs.Common.{◌≡◌, ℕ, List, length, refl, ◌∙◌}
use Rattle.std.specs.Prelude.{Bool, true, false, ◌&&◌}
use Rattle.std.proofs.lemmas.List.{get_or_past}
use Rattle.st_net.specs.Levels.{carries}
use mathlib.Core.Path.{fun_ext}
use Rattle.st_net.specs.declared.entity.Entity.{Entity}
use Rattle.st_net.specs.declared.entity.Entity.TheVariants.{Device, Link}
use Rattle.st_net.specs.declared.message.Report.{Report}
use Rattle.st_net.specs.Groups.{Group, no_device, no_link, opening_of}
use Rattle.st_net.specs.Sets.{Marks, is_in, is_of}
use Rattle.st_net.specs.Reports.{opening_report}
use Rattle.st_net.specs.InOrder.{entity_count}
use Rattle.st_net.proofs.SetLaws.{own_at_once}
use Rattle.st_net.proofs.Tests.{not_less}
use Rattle.st_net.proofs.InOrder.{item_beyond}
use Rattle.st_overlay.specs.Values.{Values}
use Rattle.st_control.specs.Sure.{shown_by, MarksShown}
use Rattle.st_control.specs.declared.settled.Shown.TheVariants.{Sure}

-- at the opening values an entity that the group does not have carries no traffic, whatever its level
pub carries_not : (g : Group) (e : Entity) (level : ℕ) → is_of g e ≡ false → carries e (opening_of g e) level ≡ false
carries_not g (Device i) level beyond = let far = not_less i (length g.devices) beyond in rw (opening_of, get_or_past g.devices i no_device far) refl
carries_not g (Link i) level beyond = let far = not_less i (length g.links) beyond in rw (opening_of, get_or_past g.links i no_link far) refl

-- of two tests the second fails, so both do not pass
pub none_and : (b c : Bool) → c ≡ false → (b && c) ≡ false
none_and true c is = is
none_and false c is = refl

-- an entity that the group does not have is not sure
not_sure : (g : Group) (observed : List Report) (stamps : List ℕ) (values : Values) (e : Entity) → length observed ≡ entity_count g → is_of g e ≡ false → shown_by Sure g observed stamps values e ≡ false
not_sure g observed stamps values e count beyond = rw (item_beyond g observed (opening_report g) e count beyond) (none_and _ (carries e (opening_of g e) (opening_report g e).level) (carries_not g e (opening_report g e).level beyond))

-- the marks of the sure entities are the set of these
pub sure_is : (g : Group) (observed : List Report) (stamps : List ℕ) (values : Values) (set : Marks) → length observed ≡ entity_count g → MarksShown Sure g observed stamps values set → is_in set ≡ shown_by Sure g observed stamps values
sure_is g observed stamps values set count marked = fun_ext (λ e. marked.shown_is e ∙ own_at_once g (shown_by Sure g observed stamps values) e (not_sure g observed stamps values e count))
