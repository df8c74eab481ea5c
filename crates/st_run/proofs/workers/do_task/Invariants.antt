-- What the times so far left.
use Rattle.std.proofs.Common.{◌*◌}
use Rattle.st_service.specs.Kept.{Kept}
use Rattle.st_run.specs.Duties.{DoesTimes, duty_share}
use Rattle.st_run.proofs.workers.do_task.Given as goal

abbrev pub invariant-loop-time : goal.invariant-loop-time
invariant-loop-time g l = record {
  kept : Kept l.initial.pass l.pass l.group (l._time * duty_share l.duty (g.J.Naming.group l.group) (g.J.Naming.lines l.group));
  did : DoesTimes l._time l.duty l.group (g.J.Naming.group l.group) (g.J.Naming.lines l.group) l.initial.pass l.pass;
}
