use Rattle.std.proofs.Common.{◌≡◌, ◌∙◌, Bool, refl, ap, sym, subst}
use Rattle.std.specs.Prelude.{IfOk}
use Rattle.st_net.specs.declared.entity.Entity.{Entity}
use Rattle.st_net.specs.Groups.{Group}
use Rattle.st_net.specs.Sets.{is_in}
use Rattle.st_event.specs.Observed.{actual}
use Rattle.st_player.specs.declared.touched.Touched.{Touched}
use Rattle.st_player.specs.declared.touched.Touched.TheVariants.{Nothing, Near}
use Rattle.st_player.specs.Touched.{IsTurned, Touches, set_at}
use Rattle.st_player.proofs.ChangeLemmas.{held_same, promises_left, set_moved, turned_none}
use Rattle.st_player.proofs.SnapshotLemmas.{held_in_own, held_of}
use Rattle.st_player.proofs.turns.next_network.Goals as goal

pub turn_at-requires-clause-beside : goal.turn_at-requires-clause-beside
turn_at-requires-clause-beside c = held_of c.args.world.now.history.group c.control-control.result.now.group _ _ c.args.sure.now (sym c.control-control.ensures.group) refl c.requires.sure

pub turn_at-requires-clause-before : goal.turn_at-requires-clause-before
turn_at-requires-clause-before c = held_in_own c.requires.touches.0.group c.control-control.result.now.group _ c.args.before (c.requires.touches.1.group ∙ sym c.control-control.ensures.group) c.requires.touches.2

pub returns-in-Nothing : goal.returns-in-Nothing
returns-in-Nothing c =
    let h = c.requires.touches.0 in
    let k = c.args.world.now.history in
    let touches : Touches h k Nothing = subst (λ (t : Touched). Touches h k t) c.in-Nothing.is c.requires.touches.1 in
    record {
      held = held_same h.group k.group (actual h.group h.past) (actual k.group k.past) c.args.before touches.group (λ e. touches.network e refl) c.requires.touches.2;
      told = sym (turned_none c.args.before.kept.items);
    }

pub returns-in-Near : goal.returns-in-Near
returns-in-Near c =
    let h = c.requires.touches.0 in
    let k = c.args.world.now.history in
    let at = c.in-Near.at in
    let touches : Touches h k (Near at) = subst (λ (t : Touched). Touches h k t) c.in-Near.is c.requires.touches.1 in
    let set : set_at (is_in c.args.before.up) at c.is_up.result ≡ actual k.group k.past = set_moved (is_in c.args.before.up) (actual k.group k.past) at c.is_up.result (λ e other. ap (λ (up : Entity → Bool). up e) c.requires.touches.2.up_is ∙ touches.network e other) c.is_up.ensures in
    subst (λ (g : Group). IfOk c.turn_at.result (IsTurned g (actual k.group k.past) c.args.before)) c.control-control.ensures.group
    (subst (λ (up : Entity → Bool). IfOk c.turn_at.result (IsTurned c.control-control.result.now.group up c.args.before)) set c.turn_at.ensures)

pub returns-in-Altered : goal.returns-in-Altered
returns-in-Altered c =
    let h = c.requires.touches.0 in
    let k = c.args.world.now.history in
    let touches = c.requires.touches.1 in
    let left = promises_left h k c.args.touched.now _ c.in-Altered.is touches in
    record {
      held = held_same h.group k.group (actual h.group h.past) (actual k.group k.past) c.args.before touches.group left.network c.requires.touches.2;
      told = sym (turned_none c.args.before.kept.items);
    }
