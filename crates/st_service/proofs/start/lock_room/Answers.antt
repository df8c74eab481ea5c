-- The board and its readers show the opening of the world's group, and nothing was entered.
use Rattle.std.proofs.Common.{◌≡◌, ap, ◌∙◌}
use Rattle.st_line.specs.Lines.{LineName}
use Rattle.st_net.specs.Groups.{Group}
use Rattle.st_event.specs.History.{History}
use Rattle.st_board.specs.Published.{Published, opening_on}
use Rattle.st_service.specs.Rooms.{RoomView}
use Rattle.st_service.proofs.start.lock_room.Goals as goal

pub open_board-requires : goal.open_board-requires
open_board-requires g c = c.requires.few

pub new-requires-clause-opens : goal.new-requires-clause-opens
new-requires-clause-opens g c = ap (λ (h : History). h.past) c.requires.world.0

pub new-requires-clause-board : goal.new-requires-clause-board
new-requires-clause-board g c =
    (ap (λ (p : Published). p.group) c.in-Ok.ensures.board, ap (λ (p : Published). p.proposals) c.in-Ok.ensures.board, ap (λ (p : Published). p.ended) c.in-Ok.ensures.board)

pub new_room-room-requires-clause-line : goal.new_room-room-requires-clause-line
new_room-room-requires-clause-line g c = c.requires.lines.0

pub new_room-room-requires-clause-room : goal.new_room-room-requires-clause-room
new_room-room-requires-clause-room g c = (
  ap (λ (r : RoomView). r.history) c.new.ensures ∙ c.requires.world.0,
  ap (λ (r : RoomView). r.lines) c.new.ensures ∙ c.requires.world.1,
  ap (λ (r : RoomView). r.published.book) c.new.ensures ∙ (ap (λ (p : Published). p.book) c.in-Ok.ensures.board ∙ c.requires.lines.1),
)

pub new_room-room-requires-clause-units : goal.new_room-room-requires-clause-units
new_room-room-requires-clause-units g c = c.requires.units

pub returns-in-Ok-clause-group : goal.returns-in-Ok-clause-group
returns-in-Ok-clause-group g c = c.new_room-room.ensures.group

pub returns-in-Ok-clause-line : goal.returns-in-Ok-clause-line
returns-in-Ok-clause-line g c = c.new_room-room.ensures.line

pub returns-in-Ok-clause-count : goal.returns-in-Ok-clause-count
returns-in-Ok-clause-count g c = c.in-Ok.ensures.count

pub returns-in-Ok-clause-readers : goal.returns-in-Ok-clause-readers
returns-in-Ok-clause-readers g c =
    let n = c.args.group in
    let group : c.args.world.history.group ≡ g.J.Naming.group n = ap (λ (h : History). h.group) c.requires.world.0 in
    let same : opening_on c.args.lines.board c.args.world.history.group ≡ opening_on (g.J.Naming.board n) (g.J.Naming.group n) =
    ap (λ (b : LineName). opening_on b c.args.world.history.group) c.requires.lines.1 ∙ ap (λ (h : Group). opening_on (g.J.Naming.board n) h) group in
    λ k d lt. c.in-Ok.ensures.readers k d lt ∙ same
