use Rattle.std.proofs.Common.{◌≡◌, ◌∙◌, Bool, refl, ap, sym, subst}
use Rattle.std.specs.Prelude.{IfOk}
use Rattle.st_net.specs.declared.entity.Entity.{Entity}
use Rattle.st_net.specs.Groups.{Group}
use Rattle.st_net.specs.Sets.{MarksOf, is_in}
use Rattle.st_event.specs.Observed.{sure}
use Rattle.st_event.specs.Standing.{sure_in}
use Rattle.st_control.specs.Control.{standing_in}
use Rattle.st_player.specs.declared.touched.Touched.{Touched}
use Rattle.st_player.specs.declared.touched.Touched.TheVariants.{Nothing, Near}
use Rattle.st_player.specs.Touched.{IsTurned, Touches, set_at}
use Rattle.st_player.proofs.ChangeLemmas.{all_alike, held_same, promises_left, set_moved, turned_none}
use Rattle.st_player.proofs.SnapshotLemmas.{held_in_own}
use Rattle.st_player.proofs.turns.next_sure.Goals as goal

pub turn_at-requires-clause-before : goal.turn_at-requires-clause-before
turn_at-requires-clause-before c = held_in_own c.requires.0.group c.control-control.result.now.group _ c.args.before (c.requires.1.group ∙ sym c.control-control.ensures.group) c.requires.2

pub returns-in-Nothing : goal.returns-in-Nothing
returns-in-Nothing c =
    let h = c.requires.0 in
    let k = c.args.world.now.history in
    let touches : Touches h k Nothing = subst (λ (t : Touched). Touches h k t) c.in-Nothing.is c.requires.1 in
    record {
      held = held_same h.group k.group (sure h.group h.past) (sure k.group k.past) c.args.before touches.group (λ e. touches.sure_is e refl) c.requires.2;
      told = sym (turned_none c.args.before.kept.items);
    }

pub returns-in-Near : goal.returns-in-Near
returns-in-Near c =
    let h = c.requires.0 in
    let k = c.args.world.now.history in
    let at = c.in-Near.at in
    let touches : Touches h k (Near at) = subst (λ (t : Touched). Touches h k t) c.in-Near.is c.requires.1 in
    let set : set_at (is_in c.args.before.up) at c.is_sure.result ≡ sure k.group k.past = set_moved (is_in c.args.before.up) (sure k.group k.past) at c.is_sure.result (λ e other. ap (λ (up : Entity → Bool). up e) c.requires.2.up_is ∙ touches.sure_is e other) c.is_sure.ensures in
    subst (λ (g : Group). IfOk c.turn_at.result (IsTurned g (sure k.group k.past) c.args.before)) c.control-control.ensures.group
    (subst (λ (up : Entity → Bool). IfOk c.turn_at.result (IsTurned c.control-control.result.now.group up c.args.before)) set c.turn_at.ensures)

pub returns-in_ok-up-in-Altered : goal.returns-in_ok-up-in-Altered
returns-in_ok-up-in-Altered c =
    let h = c.requires.0 in
    let k = c.args.world.now.history in
    let up = c.in_ok-up-in-Altered.up in
    let group = c.control-control.ensures.group in
    let left = promises_left h k c.args.touched.now _ c.in-Altered.is c.requires.1 in
    record {
      held = record {
        of = subst (λ (g : Group). MarksOf g up) group c.in_ok-up-in-Altered.ensures.of;
        up_is = c.in_ok-up-in-Altered.ensures.sure ∙ (ap (λ (g : Group). sure_in g (standing_in c.control-control.result.now)) group ∙ ap (sure_in k.group) c.control-control.ensures.standing);
        kept = c.requires.2.kept ∙ left.kept;
        whole = λ yes. all_alike h.group k.group (sure h.group h.past) (sure k.group k.past) left.kept (c.requires.2.whole yes);
      };
      told = sym (turned_none c.args.before.kept.items);
    }
