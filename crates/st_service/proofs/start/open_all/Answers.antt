-- Each round of the loop opens the room of the next world, by the next lines.
use Rattle.std.proofs.Common.{◌≡◌, ℕ, ◌+◌, ◌∷◌, [], length, get_or, refl, sym, ap, subst, ◌∙◌, arith, length-append}
use Rattle.st_world.specs.World.{WorldView}
use Rattle.st_service.specs.declared.start.RoomLines.{RoomLines}
use Rattle.st_service.specs.Opened.{IsFresh}
use Rattle.st_service.proofs.FreshLaws.{start_named}
use Rattle.st_service.proofs.Mines.{first_named, rest_named}
use Rattle.st_service.proofs.start.open_all.Goals as goal

pub loop-world-init : goal.loop-world-init
loop-world-init g c =
    let none : length c.reserve.new.self.items ≡ 0 = ap length (c.reserve.ensures.items ∙ c.new-rooms.ensures.items) in
    let worlds = c.into_iter-world-iterator.ensures.into_iter_gives.0 in
    let lines = c.into_iter-lines.ensures.rest in
    let many = ap length worlds in
    let long = ap length lines in
    let rooms = length c.reserve.new.self.items in
    let first = c.into_iter-world-iterator.result.rest.items in
    let second = c.into_iter-lines.result.rest.items in
    record {
      count = omega (arith, none, many);
      capacity = omega (arith, c.in_ok-reserve.ensures.ok, c.len.ensures, c.args.worlds.ok.0);
      lines_left = omega (arith, many, long, c.requires.lines.0);
      same = refl;
      parts = omega (arith, many, c.requires.units.0);
      amount = omega (arith, many, c.requires.units.1);
      histories = start_named (λ (w : WorldView). w.history) (λ (m : ℕ). record { group = g.J.Naming.group m; past = [] }) c.args.worlds.items first rooms worlds none (λ k d lt. (c.requires.worlds k d lt).0);
      plans = start_named (λ (w : WorldView). w.lines) g.J.Naming.lines c.args.worlds.items first rooms worlds none (λ k d lt. (c.requires.worlds k d lt).1);
      journals = start_named (λ (l : RoomLines). l.journal) g.J.Naming.book c.args.lines.items second rooms lines none (λ k d lt. (c.requires.lines.1 k d lt).0);
      boards = start_named (λ (l : RoomLines). l.board) g.J.Naming.board c.args.lines.items second rooms lines none (λ k d lt. (c.requires.lines.1 k d lt).1);
      fresh = λ n p lt. subst (λ (m : ℕ). IsFresh n m (get_or c.args.passes.now n p)) (sym none) (c.requires.fresh n p lt);
    }

pub split_off-units-requires-clause-has_parts : goal.split_off-units-requires-clause-has_parts
split_off-units-requires-clause-has_parts g c = omega (arith, c.loop-world.invariant.parts)

pub split_off-units-requires-clause-has_amount : goal.split_off-units-requires-clause-has_amount
split_off-units-requires-clause-has_amount g c = let less = ap length c.in-Some.ensures.steps.0 in omega (arith, c.loop-world.invariant.amount, less)

pub split_off-units-requires-clause-left_backed : goal.split_off-units-requires-clause-left_backed
split_off-units-requires-clause-left_backed g c = let less = ap length c.in-Some.ensures.steps.0 in λ e. absurd (omega (arith, c.loop-world.invariant.parts, less, e))

pub split_off-units-requires-clause-given_backed : goal.split_off-units-requires-clause-given_backed
split_off-units-requires-clause-given_backed g c = λ e. absurd (omega (arith, e))

pub open_room-requires-clause-lines : goal.open_room-requires-clause-lines
open_room-requires-clause-lines g c =
    let inv = c.loop-world.invariant in
    let rooms = length c.loop-world.rooms.items in
    let number : c.len-in-loop-world.result ≡ rooms = omega (arith, c.len-in-loop-world.ensures, c.loop-world.rooms.ok.0) in
    let line = c.in-Some-next.line in
    let lines = c.loop-world.lines.rest.items in
    let rest = c.next-in-loop-world.new.self.rest.items in
    let first = c.in-Some-next.ensures.cases.0 in (
      first_named (λ (l : RoomLines). l.journal) g.J.Naming.book lines rest line rooms first inv.journals ∙ ap g.J.Naming.book (sym number),
      first_named (λ (l : RoomLines). l.board) g.J.Naming.board lines rest line rooms first inv.boards ∙ ap g.J.Naming.board (sym number),
    )

pub open_room-requires-clause-world : goal.open_room-requires-clause-world
open_room-requires-clause-world g c =
    let inv = c.loop-world.invariant in
    let rooms = length c.loop-world.rooms.items in
    let number : c.len-in-loop-world.result ≡ rooms = omega (arith, c.len-in-loop-world.ensures, c.loop-world.rooms.ok.0) in
    let world = c.in-Some.world in
    let worlds = c.loop-world.world-iterator.rest.items in
    let rest = c.next.new.self.rest.items in
    let first = c.in-Some.ensures.steps.0 in (
      first_named (λ (w : WorldView). w.history) (λ (m : ℕ). record { group = g.J.Naming.group m; past = [] }) worlds rest world rooms first inv.histories ∙ ap (λ (m : ℕ). record { group = g.J.Naming.group m; past = [] }) (sym number),
      first_named (λ (w : WorldView). w.lines) g.J.Naming.lines worlds rest world rooms first inv.plans ∙ ap g.J.Naming.lines (sym number),
    )

pub open_room-requires-clause-units : goal.open_room-requires-clause-units
open_room-requires-clause-units g c = (c.split_off-units.ensures.parts, c.split_off-units.ensures.amount)

pub open_room-requires-clause-few : goal.open_room-requires-clause-few
open_room-requires-clause-few g c =
    let inv = c.loop-world.invariant in
    let less = ap length c.in-Some.ensures.steps.0 in
    (omega (arith, inv.same, c.requires.few.1), omega (arith, c.len-in-loop-world.ensures, c.loop-world.rooms.ok.0, inv.count, less, c.requires.few.0))

pub open_room-requires-clause-fresh : goal.open_room-requires-clause-fresh
open_room-requires-clause-fresh g c =
    let number : c.len-in-loop-world.result ≡ length c.loop-world.rooms.items = omega (arith, c.len-in-loop-world.ensures, c.loop-world.rooms.ok.0) in
    λ n p lt. subst (λ (m : ℕ). IsFresh n m (get_or c.loop-world.passes n p)) (sym number) (c.loop-world.invariant.fresh n p lt)

pub returns-in_err-room-clause-count : goal.returns-in_err-room-clause-count
returns-in_err-room-clause-count g c = c.open_room.ensures.count ∙ c.loop-world.invariant.same

pub push_reserved-requires : goal.push_reserved-requires
push_reserved-requires g c =
    let inv = c.loop-world.invariant in
    let less = ap length c.in-Some.ensures.steps.0 in
    omega (arith, inv.count, inv.capacity, c.loop-world.rooms.ok.0, less)

pub loop-world-preserved : goal.loop-world-preserved
loop-world-preserved g c =
    let inv = c.loop-world.invariant in
    let rooms = c.loop-world.rooms.items in
    let now = length c.push_reserved.new.self.items in
    let more : now ≡ length rooms + 1 = ap length c.push_reserved.ensures.items ∙ length-append rooms (c.new.result ∷ []) in
    let world = c.in-Some.world in
    let worlds = c.loop-world.world-iterator.rest.items in
    let left = c.next.new.self.rest.items in
    let first = c.in-Some.ensures.steps.0 in
    let less = ap length first in
    let line = c.in-Some-next.line in
    let lines = c.loop-world.lines.rest.items in
    let rest = c.next-in-loop-world.new.self.rest.items in
    let second = c.in-Some-next.ensures.cases.0 in
    let fewer = ap length second in
    let number : c.len-in-loop-world.result + 1 ≡ now = omega (arith, c.len-in-loop-world.ensures, c.loop-world.rooms.ok.0, more) in
    record {
      count = omega (arith, more, inv.count, less);
      capacity = rw c.push_reserved.ensures.capacity inv.capacity;
      lines_left = omega (arith, inv.lines_left, less, fewer);
      same = c.open_room.ensures.count ∙ inv.same;
      parts = omega (arith, c.split_off-units.ensures.parts_left, inv.parts, less);
      amount = omega (arith, c.split_off-units.ensures.amount_left, inv.amount, less);
      histories = rest_named (λ (w : WorldView). w.history) (λ (m : ℕ). record { group = g.J.Naming.group m; past = [] }) worlds left world (length rooms) now first more inv.histories;
      plans = rest_named (λ (w : WorldView). w.lines) g.J.Naming.lines worlds left world (length rooms) now first more inv.plans;
      journals = rest_named (λ (l : RoomLines). l.journal) g.J.Naming.book lines rest line (length rooms) now second more inv.journals;
      boards = rest_named (λ (l : RoomLines). l.board) g.J.Naming.board lines rest line (length rooms) now second more inv.boards;
      fresh = λ n p lt. subst (λ (m : ℕ). IsFresh n m (get_or c.open_room.new.passes n p)) number (c.in_ok-room.ensures.fresh n p lt);
    }

pub returns-clause-rooms : goal.returns-clause-rooms
returns-clause-rooms g c =
    let none : length c.loop-world.world-iterator.rest.items ≡ 0 = omega (arith, c.in-None.ensures.steps.0) in
    omega (arith, none, c.loop-world.invariant.count)

pub returns-clause-units : goal.returns-clause-units
returns-clause-units g c =
    let none : length c.loop-world.world-iterator.rest.items ≡ 0 = omega (arith, c.in-None.ensures.steps.0) in
    (omega (arith, none, c.loop-world.invariant.parts), omega (arith, none, c.loop-world.invariant.amount))

pub returns-clause-count : goal.returns-clause-count
returns-clause-count g c = c.loop-world.invariant.same

pub returns-clause-fresh : goal.returns-clause-fresh
returns-clause-fresh g c =
    let none : length c.loop-world.world-iterator.rest.items ≡ 0 = omega (arith, c.in-None.ensures.steps.0) in
    let all : length c.loop-world.rooms.items ≡ length c.args.worlds.items = omega (arith, none, c.loop-world.invariant.count) in
    λ n p lt. subst (λ (m : ℕ). IsFresh n m (get_or c.loop-world.passes n p)) all (c.loop-world.invariant.fresh n p lt)
