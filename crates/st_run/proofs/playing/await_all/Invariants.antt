-- What the awaits so far left.
use Rattle.std.proofs.Common.{◌≡◌, length, take}
use Rattle.std.specs.Prelude.{None, IfSome}
use Rattle.st_run.specs.Jobs.{Did}
use Rattle.st_run.specs.Went.{HasFull, Went}
use Rattle.st_run.proofs.playing.await_all.Given as goal

abbrev pub invariant-loop-act : goal.invariant-loop-act
invariant-loop-act g l = record {
  went : Went g.J.Naming.group g.J.Naming.lines (take l.act-index l.awaits) l.initial.pass l.pass;
  did : l.full ≡ None → Did g.J.Naming.group g.J.Naming.lines (take l.act-index l.awaits) l.initial.pass l.pass;
  one : IfSome l.full (HasFull l.pass);
  still : length l.awaits ≡ 0 → l.pass ≡ l.initial.pass;
}
