use Rattle.std.specs.Io.KnownBytes.{Keeps}
use Rattle.st_io.proofs.adapted.flush_once.Given as goal

-- known bytes stay while the call is interrupted
abbrev pub invariant-loop : goal.invariant-loop
invariant-loop g l = Keeps (g.W.Write.contents l.fn.writer) (g.W.Write.contents l.writer)
