-- What the commands so far left.
use Rattle.std.proofs.Common.{take}
use Rattle.st_run.specs.Jobs.{Did}
use Rattle.st_run.specs.Went.{Went}
use Rattle.st_run.proofs.application.do_all.Given as goal

abbrev pub invariant-loop-act : goal.invariant-loop-act
invariant-loop-act g l = record {
  went : Went g.J.Naming.group g.J.Naming.lines (take l.act-index l.acts) l.initial.pass l.pass;
  did : Did g.J.Naming.group g.J.Naming.lines (take l.act-index l.acts) l.initial.pass l.pass;
}
