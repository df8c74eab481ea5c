use Rattle.std.proofs.Common.{◌≡◌, ◌+◌, ◌≤◌, ◌<◌, length}
use Rattle.st_event.specs.declared.journal.TheConstants.{MAX_PENDING}
use Rattle.st_event.specs.Proposals.{deciders}
use Rattle.st_service.specs.Awaits.{Waits}
use Rattle.st_service.specs.Kept.{Kept}
use Rattle.st_service.specs.Made.{past_in}
use Rattle.st_service.specs.Passes.{front_at, mine_at, IsTaught}
use Rattle.st_service.proofs.service.Service.await_latest.Given as goal

-- each check that was made decided a ticket more: so many fewer are left before this one
abbrev pub invariant-loop-check : goal.invariant-loop-check
invariant-loop-check g l = record {
  kept : Kept l.initial.pass l.pass l.group l._check;
  log : l.pass.log ≡ l.initial.pass.log;
  taught : 0 < l._check → IsTaught l.pass l.group;
  waits : Waits (g.J.Naming.group l.group) l.ticket l.initial.pass.number l._check (front_at l.initial.pass.fronts l.group) (mine_at l.initial.pass.mines l.group) (front_at l.pass.fronts l.group) (mine_at l.pass.mines l.group);
  fewer : 0 < l._check → l.ticket + l._check ≤ length (deciders (past_in (front_at l.pass.fronts l.group))) + MAX_PENDING;
}
