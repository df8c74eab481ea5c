use Rattle.std.proofs.Common.{◌≡◌, ◌+◌, drop, map}
use Rattle.st_text.specs.Lines.{line_in}
use Rattle.st_token.specs.Reading.{read_on}
use Rattle.st_token.proofs.reading.take_each.Given as goal

-- what is left, over what was declared, gives what all gives
abbrev pub invariant-loop-n : goal.invariant-loop-n
invariant-loop-n g l = read_on g.R.TakesLines.line_of l.reader (l.first + l.n) (map (line_in l.bytes) (drop l.n l.places)) ≡ read_on g.R.TakesLines.line_of l.fn.reader l.first (map (line_in l.bytes) l.places)
