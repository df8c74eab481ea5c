-- Each await is one more of those that were done, and a journal that was seen full stays full.
use Rattle.std.proofs.Common.{◌<◌, [], ◌∷◌, length, subst, sym, ◌∙◌, arith}
use Rattle.st_event.specs.declared.act.Act.{Act}
use Rattle.st_service.specs.Acts.{CanDo}
use Rattle.st_run.specs.Went.{HasFull}
use Rattle.st_run.proofs.FinishLaws.{full_of_two}
use Rattle.st_run.proofs.WentLaws.{did_more, full_on, went_next}
use Rattle.st_run.proofs.playing.await_all.Goals as goal

pub full_at-requires-clause-app : goal.full_at-requires-clause-app
full_at-requires-clause-app g c =
    let some : 0 < length c.args.awaits.now = omega (arith, c.loop-act-test.true) in
    λ κs lives. omega (arith, c.requires.app some, c.loop-act.invariant.went.number)

pub full_at-requires-clause-rooms : goal.full_at-requires-clause-rooms
full_at-requires-clause-rooms g c = λ κs lives. c.loop-act.invariant.went.rooms.0 ∙ c.requires.rooms

pub full_at-requires-clause-act : goal.full_at-requires-clause-act
full_at-requires-clause-act g c =
    let rooms = length c.args.service.now.rooms.items in
    λ κs lives. subst (λ (act : Act). CanDo g.J.Naming.group rooms act) (sym c.act-item.is) (c.requires.awaits c.loop-act.act-index c.act-item.result c.loop-act-test.true)

pub loop-act-preserved : goal.loop-act-preserved
loop-act-preserved g c =
    let groups = g.J.Naming.group in
    let lines = g.J.Naming.lines in
    let acts = c.args.awaits.now in
    let k = c.loop-act.act-index in
    let act = c.act-item.result in
    let old = c.args.pass.now in
    let mid = c.loop-act.pass in
    let new = c.full_at.new.pass in
    let inv = c.loop-act.invariant in
    let within = c.loop-act-test.true in
    record {
      went = went_next groups lines acts k act old mid new within c.act-item.is inv.went c.full_at.ensures.went;
      did = λ none. let both = c.first_of-full.ensures.none none in
          did_more groups lines acts k act old mid new within c.act-item.is (inv.did both.0) (c.in_ok-here.ensures.none both.1);
      one = full_of_two (HasFull mid) (HasFull new) c.loop-act.full c.in_ok-here.here c.first_of-full.result c.first_of-full.ensures.one
          (λ n was. full_on groups lines (act ∷ []) n mid new c.full_at.ensures.went was) inv.one c.in_ok-here.ensures.one;
      still = λ none. absurd (omega (arith, none, within));
    }
