-- Each turn is one work, after those before it.
use Rattle.std.proofs.Common.{◌*◌, ◌+◌, List, ℕ, length, get_or, subst, ◌∙◌}
use Rattle.st_net.specs.declared.entity.Entity.TheVariants.{Device}
use Rattle.st_world.specs.Rounds.{Course, course_from}
use Rattle.st_world.specs.declared.world.rounds.Going.{Going}
use Rattle.st_world.specs.declared.world.rounds.Going.TheVariants.{On, Full}
use Rattle.st_event.specs.declared.journal.Entry.{Entry}
use Rattle.st_service.specs.Passes.{front_at, mine_at}
use Rattle.st_service.specs.Puts.{Enters}
use Rattle.st_service.specs.Shares.{turn_share}
use Rattle.st_service.specs.Works.{part_of}
use Rattle.st_service.proofs.ChainLaws.{kept_on, kept_turn, share_next, turns_full, turns_take}
use Rattle.st_service.proofs.service.Service.turns.Goals as goal

pub work-requires-clause-room : goal.work-requires-clause-room
work-requires-clause-room g c = (c.requires.room.0, c.loop-entity.invariant.kept.rooms.0 ∙ c.requires.room.1)

pub returns-in_err-work-clause-kept : goal.returns-in_err-work-clause-kept
returns-in_err-work-clause-kept g c = kept_turn c.args.pass.now c.loop-entity.pass c.work.new.pass c.args.group c.loop-entity.entity-index (length c.args.entities.now) (turn_share c.args.part (g.J.Naming.lines c.args.group)) c.loop-entity-test.true c.loop-entity.invariant.kept c.work.ensures.kept

pub returns-in-Full-clause-kept : goal.returns-in-Full-clause-kept
returns-in-Full-clause-kept g c = kept_turn c.args.pass.now c.loop-entity.pass c.work.new.pass c.args.group c.loop-entity.entity-index (length c.args.entities.now) (turn_share c.args.part (g.J.Naming.lines c.args.group)) c.loop-entity-test.true c.loop-entity.invariant.kept c.work.ensures.kept

pub returns-in-Full-clause-turned : goal.returns-in-Full-clause-turned
returns-in-Full-clause-turned g c =
    let old = c.args.pass.now in
    let mid = c.loop-entity.pass in
    let new = c.work.new.pass in
    let n = c.args.group in
    let k = c.loop-entity.entity-index in
    let es = c.args.entities.now in
    let inv = c.loop-entity.invariant in
    let course : List Entry → Course = λ past. part_of c.args.part (g.J.Naming.group n) (g.J.Naming.lines n) (course_from past) (get_or es k (Device 0)) in
    let done = c.in_ok-work.ensures.entered in
    let full : Enters course Full mid.number done.0 (front_at mid.fronts n) (mine_at mid.mines n) (front_at new.fronts n) (mine_at new.mines n) =
    subst (λ (going : Going). Enters course going mid.number done.0 (front_at mid.fronts n) (mine_at mid.mines n) (front_at new.fronts n) (mine_at new.mines n)) c.in-Full.is done.1 in
    let own : Enters course Full old.number done.0 (front_at mid.fronts n) (mine_at mid.mines n) (front_at new.fronts n) (mine_at new.mines n) =
    subst (λ (p : ℕ). Enters course Full p done.0 (front_at mid.fronts n) (mine_at mid.mines n) (front_at new.fronts n) (mine_at new.mines n)) inv.kept.number full in
    turns_full c.args.part (g.J.Naming.group n) (g.J.Naming.lines n) old.number k es (front_at old.fronts n) (front_at mid.fronts n) done.0 (front_at new.fronts n) (mine_at old.mines n) (mine_at mid.mines n) (mine_at new.mines n) c.loop-entity-test.true inv.turned own

pub loop-entity-preserved : goal.loop-entity-preserved
loop-entity-preserved g c =
    let old = c.args.pass.now in
    let mid = c.loop-entity.pass in
    let new = c.work.new.pass in
    let n = c.args.group in
    let k = c.loop-entity.entity-index in
    let es = c.args.entities.now in
    let inv = c.loop-entity.invariant in
    let w = turn_share c.args.part (g.J.Naming.lines n) in
    let course : List Entry → Course = λ past. part_of c.args.part (g.J.Naming.group n) (g.J.Naming.lines n) (course_from past) (get_or es k (Device 0)) in
    let done = c.in_ok-work.ensures.entered in
    let on : Enters course On mid.number done.0 (front_at mid.fronts n) (mine_at mid.mines n) (front_at new.fronts n) (mine_at new.mines n) =
    subst (λ (going : Going). Enters course going mid.number done.0 (front_at mid.fronts n) (mine_at mid.mines n) (front_at new.fronts n) (mine_at new.mines n)) c.in-On.is done.1 in
    let own : Enters course On old.number done.0 (front_at mid.fronts n) (mine_at mid.mines n) (front_at new.fronts n) (mine_at new.mines n) =
    subst (λ (p : ℕ). Enters course On p done.0 (front_at mid.fronts n) (mine_at mid.mines n) (front_at new.fronts n) (mine_at new.mines n)) inv.kept.number on in
    record {
      kept = kept_on old mid new n (k * w) w ((k + 1) * w) (share_next k w) inv.kept c.work.ensures.kept;
      taught = λ t. c.in_ok-work.ensures.reads;
      log = c.work.ensures.log ∙ inv.log;
      turned = turns_take c.args.part (g.J.Naming.group n) (g.J.Naming.lines n) old.number k es (front_at old.fronts n) (front_at mid.fronts n) (front_at new.fronts n) (mine_at old.mines n) (mine_at mid.mines n) (mine_at new.mines n) c.loop-entity-test.true inv.turned (done.0, own);
    }
