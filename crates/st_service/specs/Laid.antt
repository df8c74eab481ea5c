-- What the entries of a work lay over the target.
use Rattle.std.specs.Prelude.{List, [], ◌∷◌, unwrap_or}
use Rattle.st_net.specs.declared.entity.Row.{Row}
use Rattle.st_event.specs.declared.journal.Entry.{Entry}
use Rattle.st_event.specs.Proposals.{withdrawal_in}

-- the rows that the newest of these entries that withdraws any withdraws, the oldest entry first; where none does, the rows that a check decides
abbrev pub laid_by : List Entry → List Row → List Row
laid_by [] rows = rows
laid_by (entry ∷ entries) rows = laid_by entries (unwrap_or (withdrawal_in entry.event entry.reply) rows)
