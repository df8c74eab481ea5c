use Rattle.std.proofs.Common.{map}
use Rattle.std.proofs.lemmas.Result.{IfOk-weaker}
use Rattle.st_text.specs.Lines.{line_in}
use Rattle.st_journal.proofs.ReadJournals.{answered}
use Rattle.st_journal.proofs.reading.read_at.Goals as goal

pub returns-in-Ok : goal.returns-in-Ok
returns-in-Ok c = IfOk-weaker _ _ _ (λ answer. answered c.args.reader c.take_lines.new.reader c.args.first (map (line_in c.args.bytes.now) c.args.places.now) c.in-Ok.end answer c.in-Ok.ensures.exact) c.ended.ensures
