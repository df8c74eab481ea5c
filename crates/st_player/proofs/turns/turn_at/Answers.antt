use Rattle.std.proofs.Common.{◌∙◌, Bool, refl, sym, subst}
use Rattle.std.specs.Prelude.{IfOk}
use Rattle.st_net.specs.declared.entity.Entity.{Entity}
use Rattle.st_net.specs.Groups.{Group}
use Rattle.st_net.specs.Sets.{is_in}
use Rattle.st_player.specs.Steps.{AllKept}
use Rattle.st_player.specs.Touched.{IsTurned}
use Rattle.st_player.proofs.ChangeLemmas.{set_same, turned_none}
use Rattle.st_player.proofs.SnapshotLemmas.{held_of}
use Rattle.st_player.proofs.StateParts.{same_flag}
use Rattle.st_player.proofs.turns.turn_at.Goals as goal

pub returns-then-is_same_flag : goal.returns-then-is_same_flag
returns-then-is_same_flag c =
    let g = c.args.control.now.group in
    let up = is_in c.args.before.up in
    let here = sym c.has.ensures ∙ same_flag c.has.result c.args.is (sym c.is_same_flag.ensures ∙ c.if-is_same_flag.true) in
    record {
      held = held_of g g up _ c.args.before refl (set_same up c.args.at c.args.is here) c.requires.before;
      told = sym (turned_none c.args.before.kept.items);
    }

pub is_shown-is_shown-requires-clause-before : goal.is_shown-is_shown-requires-clause-before
is_shown-is_shown-requires-clause-before c = held_of c.args.control.now.group c.topo.result.now _ _ c.args.before (sym c.topo.ensures.topo) refl c.requires.before

pub turn-requires-clause-shown : goal.turn-requires-clause-shown
turn-requires-clause-shown c is = subst (λ (g : Group). AllKept g (is_in c.in_ok-up.up)) c.topo.ensures.topo (c.is_shown-is_shown.ensures is)

pub returns : goal.returns
returns c = subst (λ (up : Entity → Bool). IfOk c.turn.result (IsTurned c.args.control.now.group up c.args.before)) c.in_ok-up.ensures.members c.turn.ensures
