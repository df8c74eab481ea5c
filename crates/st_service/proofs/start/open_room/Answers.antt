-- The room is at its opening, and each pass gets a place in it.
use Rattle.st_service.proofs.start.open_room.Goals as goal

pub lock_room-requires-clause-lines : goal.lock_room-requires-clause-lines
lock_room-requires-clause-lines g c = c.requires.lines

pub lock_room-requires-clause-world : goal.lock_room-requires-clause-world
lock_room-requires-clause-world g c = c.requires.world

pub lock_room-requires-clause-units : goal.lock_room-requires-clause-units
lock_room-requires-clause-units g c = c.requires.units

pub seat_all-requires-clause-line : goal.seat_all-requires-clause-line
seat_all-requires-clause-line g c = c.in_ok-room.ensures.line

pub seat_all-requires-clause-readers : goal.seat_all-requires-clause-readers
seat_all-requires-clause-readers g c = c.in_ok-room.ensures.readers

pub seat_all-requires-clause-few : goal.seat_all-requires-clause-few
seat_all-requires-clause-few g c = c.requires.few.0

pub seat_all-requires-clause-fresh : goal.seat_all-requires-clause-fresh
seat_all-requires-clause-fresh g c = c.requires.fresh
