use Rattle.std.proofs.Common.{◌≡◌, ◌++◌}
use Rattle.st_text.specs.Words.{text_of}
use Rattle.st_text.proofs.PrintLemmas.{ok_by}
use Rattle.st_top.specs.Rolling.{plan_lines, roll_lines}
use Rattle.st_top.proofs.PlanLines.{all_low, plan_added, plan_is}
use Rattle.st_top.proofs.rolling.print_roll.Goals as goal

pub plan_roll-requires : goal.plan_roll-requires
plan_roll-requires c = all_low c.control-control.result.now.group c.topo.result.now c.in_ok-devices.devices.items c.as_slice.result.now c.topo.ensures.topo c.in_ok-devices.ensures c.as_slice.ensures.value

pub returns : goal.returns
returns c =
    let k = c.control-control.result.now in
    let lines = plan_is k c.args.world.now.history c.args.apps.now c.args.firmware c.topo.result.now c.topo-2.result.now c.in_ok-devices.devices.items c.as_slice.result.now c.in_ok-roll.roll c.control-control.ensures.group c.control-control.ensures.standing c.topo.ensures.topo c.topo-2.ensures.topo c.in_ok-devices.ensures c.as_slice.ensures.value c.in_ok-roll.ensures.roll in
    ok_by {Q = c.print_plan.new.out ≡ c.args.out.now ++ text_of (roll_lines c.args.apps.now c.args.firmware c.args.world.now.history)} c.print_plan.result (plan_added c.args.out.now c.print_plan.new.out (plan_lines c.topo-2.result.now c.args.apps.now c.in_ok-roll.roll) (roll_lines c.args.apps.now c.args.firmware c.args.world.now.history) lines) c.print_plan.ensures
