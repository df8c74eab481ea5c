-- A commit enters the course of its ticket.
use Rattle.std.proofs.Common.{◌≡◌, ap, sym, subst}
use Rattle.st_event.specs.History.{History}
use Rattle.st_world.specs.Rounds.{is_full}
use Rattle.st_world.specs.declared.world.rounds.Going.{Going}
use Rattle.st_service.specs.Works.{check_course}
use Rattle.st_service.proofs.OffLockLaws.{commit_ran, commit_stays}
use Rattle.st_service.proofs.room.commit.Goals as goal

pub returns-clause-ok : goal.returns-clause-ok
returns-clause-ok c =
    let old = c.args.world.now.history in
    let new = c.commit.new.self.history in
    let ticket = c.args.judged.now.ticket in
    subst (λ (going : Going). check_course ticket old.group old.past ≡ record { past = new.past; stopped = is_full going }) (sym c.going_of.ensures)
    (commit_ran c.in_ok-committed.committed old new ticket c.requires c.in_ok-committed.ensures.ok)

pub returns-clause-setting : goal.returns-clause-setting
returns-clause-setting c = record {
  group = commit_stays c.in_ok-committed.committed c.args.world.now.history c.commit.new.self.history c.args.judged.now.ticket c.in_ok-committed.ensures.ok;
  lines = c.commit.ensures.losses;
}

pub returns-in_err-committed-clause-setting : goal.returns-in_err-committed-clause-setting
returns-in_err-committed-clause-setting c = record { group = ap (λ (h : History). h.group) c.in_err-committed.ensures.err; lines = c.commit.ensures.losses }
