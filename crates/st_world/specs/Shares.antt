-- How many entries an entity's turn makes at the most, and each half of the turn, where a loss plan has these lines.
use Rattle.std.specs.Prelude.{ℕ, ◌+◌, ◌*◌, List, length}
use Rattle.st_wire.specs.declared.line.WireLine.{WireLine}

-- the half that updates an entity: Send, a Withdraw, Deliver of the command itself and once for each wire line, and Finish
abbrev pub update_most : List WireLine → ℕ
update_most lines = 4 + length lines

-- the half that monitors an entity: Report, Hear of the report itself and once for each wire line
abbrev pub poll_most : List WireLine → ℕ
poll_most lines = 2 + length lines

-- the turn: the one half and the other
abbrev pub turn_most : List WireLine → ℕ
turn_most lines = 6 + 2 * length lines
