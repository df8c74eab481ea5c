-- Each command is one more of those that were done.
use Rattle.std.proofs.Common.{◌+◌, ◌<◌, length, sym, subst, ◌∙◌, arith}
use Rattle.st_event.specs.declared.act.Act.{Act}
use Rattle.st_world.specs.Acts.{group_number}
use Rattle.st_service.specs.declared.acts.Acted.{Acted}
use Rattle.st_service.specs.declared.acts.Acted.TheVariants.{JournalFull}
use Rattle.st_service.specs.Acts.{ActDone, Acts, CanDo}
use Rattle.st_run.proofs.WentLaws.{did_more, full_of, stops_at, went_more, went_on}
use Rattle.st_run.proofs.application.do_all.Goals as goal

pub step_app-requires-clause-app : goal.step_app-requires-clause-app
step_app-requires-clause-app g c = λ κs lives. omega (arith, c.requires.app, c.loop-act.invariant.went.number)

pub step_app-requires-clause-rooms : goal.step_app-requires-clause-rooms
step_app-requires-clause-rooms g c = λ κs lives. c.loop-act.invariant.went.rooms.0 ∙ c.requires.rooms

pub step_app-requires-clause-act : goal.step_app-requires-clause-act
step_app-requires-clause-act g c =
    let rooms = length c.args.service.now.rooms.items in
    λ κs lives. subst (λ (act : Act). CanDo g.J.Naming.group rooms act) (sym c.act-item.is) (c.requires.acts c.loop-act.act-index c.act-item.result c.loop-act-test.true)

pub loop-act-preserved : goal.loop-act-preserved
loop-act-preserved g c =
    let groups = g.J.Naming.group in
    let lines = g.J.Naming.lines in
    let acts = c.args.acts.now in
    let k = c.loop-act.act-index in
    let act = c.act-item.result in
    let n = group_number act in
    let old = c.args.pass.now in
    let mid = c.loop-act.pass in
    let new = c.step_app.new.pass in
    let inv = c.loop-act.invariant in
    let within = c.loop-act-test.true in
    let done : ActDone act (groups n) (lines n) mid new = subst (λ (acted : Acted). Acts acted act (groups n) (lines n) mid new) c.in-Ok-Done.field-0-is c.in-Ok-Done.ensures.done in
    record {
      went = went_more groups lines acts k act old mid new within c.act-item.is inv.went c.step_app.ensures.kept;
      did = did_more groups lines acts k act old mid new within c.act-item.is inv.did (record { kept = c.step_app.ensures.kept; done = done });
    }

pub returns-in-Ok-JournalFull-clause-went : goal.returns-in-Ok-JournalFull-clause-went
returns-in-Ok-JournalFull-clause-went g c =
    went_on g.J.Naming.group g.J.Naming.lines c.args.acts.now c.loop-act.act-index c.act-item.result c.args.pass.now c.loop-act.pass c.step_app.new.pass c.loop-act-test.true c.act-item.is c.loop-act.invariant.went c.step_app.ensures.kept

pub returns-in-Err-clause-went : goal.returns-in-Err-clause-went
returns-in-Err-clause-went g c =
    went_on g.J.Naming.group g.J.Naming.lines c.args.acts.now c.loop-act.act-index c.act-item.result c.args.pass.now c.loop-act.pass c.step_app.new.pass c.loop-act-test.true c.act-item.is c.loop-act.invariant.went c.step_app.ensures.kept

pub returns-in-Ok-JournalFull-clause-came : goal.returns-in-Ok-JournalFull-clause-came
returns-in-Ok-JournalFull-clause-came g c =
    let groups = g.J.Naming.group in
    let lines = g.J.Naming.lines in
    let acts = c.args.acts.now in
    let rooms = length c.args.service.now.rooms.items in
    let k = c.loop-act.act-index in
    let act = c.act-item.result in
    let n = group_number act in
    let m = c.in-Ok-JournalFull.group in
    let mid = c.loop-act.pass in
    let new = c.step_app.new.pass in
    let inv = c.loop-act.invariant in
    let within = c.loop-act-test.true in
    let fits : CanDo groups rooms act = subst (CanDo groups rooms) (sym c.act-item.is) (c.requires.acts k act within) in
    let met : Acts (JournalFull m) act (groups n) (lines n) mid new = subst (λ (acted : Acted). Acts acted act (groups n) (lines n) mid new) c.in-Ok-JournalFull.field-0-is c.in-Ok-JournalFull.ensures.done in
    let there : n < length new.fronts = omega (arith, fits.0, c.step_app.ensures.kept.rooms.0, inv.went.rooms.0, c.requires.rooms) in
    (full_of act m new there met.0 met.1.full, stops_at groups lines m acts k act c.args.pass.now mid new within c.act-item.is inv.did met.0 (record { kept = c.step_app.ensures.kept; full = met.1 }))
