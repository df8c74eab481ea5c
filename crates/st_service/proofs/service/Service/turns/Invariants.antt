-- What the turns of the entities so far left.
use Rattle.std.proofs.Common.{◌≡◌, ◌*◌, take}
use Rattle.st_service.specs.Kept.{Kept}
use Rattle.st_service.specs.Passes.{front_at, mine_at, IsTaught}
use Rattle.st_service.specs.Shares.{turn_share}
use Rattle.st_service.specs.Turns.{Turns}
use Rattle.st_service.proofs.service.Service.turns.Given as goal

abbrev pub invariant-loop-entity : goal.invariant-loop-entity
invariant-loop-entity g l = record {
  kept : Kept l.initial.pass l.pass l.group (l.entity-index * turn_share l.part (g.J.Naming.lines l.group));
  taught : IsTaught l.initial.pass l.group → IsTaught l.pass l.group;
  log : l.pass.log ≡ l.initial.pass.log;
  turned : Turns l.part (g.J.Naming.group l.group) (g.J.Naming.lines l.group) l.initial.pass.number (take l.entity-index l.entities) (front_at l.initial.pass.fronts l.group) (mine_at l.initial.pass.mines l.group) (front_at l.pass.fronts l.group) (mine_at l.pass.mines l.group);
}
