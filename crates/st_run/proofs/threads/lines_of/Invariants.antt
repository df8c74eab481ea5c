-- So many lines were made.
use Rattle.std.specs.Prelude.{◌≡◌, length}
use Rattle.st_run.proofs.threads.lines_of.Given as goal

abbrev pub invariant-loop-room : goal.invariant-loop-room
invariant-loop-room l = length l.lines.items ≡ l._room
