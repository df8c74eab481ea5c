use Rattle.st_io.proofs.Advances.{advances_more}
use Rattle.st_io.proofs.reading.read_all.Goals as goal

pub returns-in_err-read_some-clause-err : goal.returns-in_err-read_some-clause-err
returns-in_err-read_some-clause-err g c = advances_more c.from_residual.result _ _ _ _ c.loop-buf.invariant.consumed c.in_err-read_some.ensures.err
