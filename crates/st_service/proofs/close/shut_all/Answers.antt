-- Each room is ended in its place, and the units of all are back.
use Rattle.std.proofs.Common.{◌≡◌, ℕ, ◌<◌, List, ◌∷◌, [], length, get_or, sum_by, ap, sym, subst, arith, length-append}
use Rattle.std.proofs.lemmas.List.Sums.{sum_by_push}
use Rattle.st_service.specs.declared.close.Shut.{Shut}
use Rattle.st_service.specs.Lines.{flat}
use Rattle.st_service.proofs.ClosingLaws.{next_all, none_left}
use Rattle.st_service.proofs.Mines.{numbered_more}
use Rattle.st_service.proofs.close.shut_all.Goals as goal

pub loop-room-preserved : goal.loop-room-preserved
loop-room-preserved g c =
    let ys = c.loop-room.yielded in
    let room = c.in-Some.room in
    let shut = c.loop-room.shut.items in
    let one = c.in_ok-one.one in
    let units = λ (s : Shut g.row.J.Denot g.row.H.Denot g.J.Naming). length (flat s.line.log) in
    let inv = c.loop-room.invariant in
    let group : one.group ≡ length shut = omega (arith, c.in_ok-one.ensures.group) in
    let items = c.in_ok-push.ensures.items in
    record {
      all = next_all c.args.rooms.items ys c.loop-room.room-iterator.rest.items c.next.new.self.rest.items room inv.all c.in-Some.ensures.steps.0;
      count = omega (arith, inv.count, ap length items, length-append shut (one ∷ []), length-append ys (room ∷ []));
      groups = subst (λ (l : List (Shut g.row.J.Denot g.row.H.Denot g.J.Naming)). (k : ℕ) (d : Shut g.row.J.Denot g.row.H.Denot g.J.Naming) → k < length l → (get_or l k d).group ≡ k) (sym items)
          (numbered_more (λ (s : Shut g.row.J.Denot g.row.H.Denot g.J.Naming). s.group) shut one inv.groups group);
      parts = omega (arith, inv.parts, c.in_ok-one.ensures.parts, length-append ys (room ∷ []));
      units = omega (arith, inv.units, c.in_ok-one.ensures.units, ap (sum_by units) items, sum_by_push units shut one, length-append ys (room ∷ []));
    }

pub returns-clause-count : goal.returns-clause-count
returns-clause-count g c =
    let none : length c.loop-room.room-iterator.rest.items ≡ 0 = omega (arith, c.in-None.ensures.steps.0) in
    let done = none_left c.args.rooms.items c.loop-room.yielded c.loop-room.room-iterator.rest.items c.loop-room.invariant.all none in
    omega (arith, c.loop-room.invariant.count, ap length done)

pub returns-clause-groups : goal.returns-clause-groups
returns-clause-groups g c = c.loop-room.invariant.groups

pub returns-clause-parts : goal.returns-clause-parts
returns-clause-parts g c =
    let none : length c.loop-room.room-iterator.rest.items ≡ 0 = omega (arith, c.in-None.ensures.steps.0) in
    let done = none_left c.args.rooms.items c.loop-room.yielded c.loop-room.room-iterator.rest.items c.loop-room.invariant.all none in
    omega (arith, c.loop-room.invariant.parts, ap length done)

pub returns-clause-units : goal.returns-clause-units
returns-clause-units g c =
    let none : length c.loop-room.room-iterator.rest.items ≡ 0 = omega (arith, c.in-None.ensures.steps.0) in
    let done = none_left c.args.rooms.items c.loop-room.yielded c.loop-room.room-iterator.rest.items c.loop-room.invariant.all none in
    omega (arith, c.loop-room.invariant.units, ap length done)
