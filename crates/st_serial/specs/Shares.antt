-- How many entries an act adds to its group's journal at the most.
use Rattle.std.specs.Prelude.{ℕ, ◌+◌, ◌*◌, List}
use Rattle.st_net.specs.Groups.{Group}
use Rattle.st_net.specs.InOrder.{entity_count}
use Rattle.st_event.specs.declared.act.Act.{Act}
use Rattle.st_event.specs.declared.act.Act.TheVariants.{Propose, Await, Settle, Lock, Unlock, Read, ReadAt, Fail, Poll, Span}
use Rattle.st_event.specs.declared.journal.TheConstants.{MAX_PENDING}
use Rattle.st_wire.specs.declared.line.WireLine.{WireLine}
use Rattle.st_world.specs.Shares.{poll_most, turn_most}

-- a round: the turn of each entity
abbrev pub round_most : Group → List WireLine → ℕ
round_most g lines = turn_most lines * entity_count g

-- an act on its group, whose loss plan has these lines. A proposal adds 2 entries by itself, and one more check may be made for it by others;
-- a settle adds its own rounds, and one half of each kind may be made for it by others
abbrev pub share : Act → Group → List WireLine → ℕ
share (Propose n rows) g lines = 3
share (Await n) g lines = MAX_PENDING
share (Settle n rounds) g lines = round_most g lines * (rounds + 1)
share (Lock n entity prio) g lines = 1
share (Unlock n entity prio) g lines = 1
share (Fail n entity health rows) g lines = 1
share (Poll n entity) g lines = poll_most lines
share (Read n entity var) g lines = 0
share (ReadAt n version entity var) g lines = 0
share (Span first first_rows second second_rows) g lines = 0
