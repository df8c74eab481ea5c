-- What the rounds so far left.
use Rattle.std.proofs.Common.{◌≡◌, ◌*◌, ◌<◌}
use Rattle.st_service.specs.declared.work.Part.TheVariants.{Whole}
use Rattle.st_service.specs.Kept.{Kept}
use Rattle.st_service.specs.Passes.{front_at, mine_at, IsTaught}
use Rattle.st_service.specs.Shares.{round_share}
use Rattle.st_service.specs.Turns.{RoundsMade}
use Rattle.st_service.proofs.service.Service.settle.Given as goal

abbrev pub invariant-loop-round : goal.invariant-loop-round
invariant-loop-round g l = record {
  kept : Kept l.initial.pass l.pass l.group (l._round * round_share Whole (g.J.Naming.group l.group) (g.J.Naming.lines l.group));
  taught : 0 < l._round → IsTaught l.pass l.group;
  log : l.pass.log ≡ l.initial.pass.log;
  rounds : RoundsMade (g.J.Naming.group l.group) (g.J.Naming.lines l.group) l.initial.pass.number l._round (front_at l.initial.pass.fronts l.group) (mine_at l.initial.pass.mines l.group) (front_at l.pass.fronts l.group) (mine_at l.pass.mines l.group);
}
