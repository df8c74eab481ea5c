use Rattle.std.specs.Io.KnownBytes.{Keeps}
use Rattle.st_io.proofs.adapted.read_through.Given as goal

-- known bytes stay while the call is interrupted
abbrev pub invariant-loop : goal.invariant-loop
invariant-loop g l = Keeps (g.R.Read.remaining l.fn.reader) (g.R.Read.remaining l.reader)
