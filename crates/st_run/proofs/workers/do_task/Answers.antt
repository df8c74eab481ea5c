-- Each time goes on where the one before it stopped.
use Rattle.std.proofs.Common.{◌*◌, ◌+◌}
use Rattle.st_service.proofs.ChainLaws.{kept_on, kept_turn, share_next}
use Rattle.st_run.specs.Duties.{duty_share}
use Rattle.st_run.proofs.HalfLaws.{times_next}
use Rattle.st_run.proofs.workers.do_task.Goals as goal

pub loop-time-preserved : goal.loop-time-preserved
loop-time-preserved g c =
    let task = c.args.task in
    let old = c.args.pass.now in
    let mid = c.loop-time.pass in
    let new = c.do_once.new.pass in
    let k = c.loop-time._time in
    let h = g.J.Naming.group task.group in
    let lines = g.J.Naming.lines task.group in
    let w = duty_share task.duty h lines in
    let inv = c.loop-time.invariant in
    record {
      kept = kept_on old mid new task.group (k * w) w ((k + 1) * w) (share_next k w) inv.kept c.do_once.ensures.kept;
      did = times_next k task.duty task.group h lines old mid new inv.did c.in-Through.ensures.came;
    }

pub returns-in-ToFull-clause-kept : goal.returns-in-ToFull-clause-kept
returns-in-ToFull-clause-kept g c =
    let task = c.args.task in
    kept_turn c.args.pass.now c.loop-time.pass c.do_once.new.pass task.group c.loop-time._time task.times (duty_share task.duty (g.J.Naming.group task.group) (g.J.Naming.lines task.group)) c.loop-time-test.true c.loop-time.invariant.kept c.do_once.ensures.kept

pub returns-in-OutOfMemory-clause-kept : goal.returns-in-OutOfMemory-clause-kept
returns-in-OutOfMemory-clause-kept g c =
    let task = c.args.task in
    kept_turn c.args.pass.now c.loop-time.pass c.do_once.new.pass task.group c.loop-time._time task.times (duty_share task.duty (g.J.Naming.group task.group) (g.J.Naming.lines task.group)) c.loop-time-test.true c.loop-time.invariant.kept c.do_once.ensures.kept
