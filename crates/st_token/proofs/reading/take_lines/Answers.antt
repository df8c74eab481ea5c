use Rattle.std.proofs.lemmas.Result.{IfOk-weaker}
use Rattle.std.proofs.Common.{map}
use Rattle.st_text.specs.Lines.{line_in}
use Rattle.st_token.proofs.FirstBad.{tells}
use Rattle.st_token.proofs.reading.take_lines.Goals as goal

pub returns-clause-tells : goal.returns-clause-tells
returns-clause-tells g c = IfOk-weaker _ _ _ (λ end. tells g.R.TakesLines.line_of c.args.reader.now c.args.first (map (line_in c.args.bytes.now) c.args.places.now) end _) c.take_each.ensures
