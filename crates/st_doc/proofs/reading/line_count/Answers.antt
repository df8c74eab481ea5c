use Rattle.std.proofs.Common.{◌∙◌, sym}
use Rattle.st_doc.proofs.JournalPlaces.{place_passed, place_here}
use Rattle.st_doc.proofs.reading.line_count.Goals as goal

pub returns-then-branch : goal.returns-then-branch
returns-then-branch c = place_here c.args.bytes.now c.args.places.now c.loop-n.n _ c.loop-n-test.true (sym c.in_ok-begins_journal.ensures ∙ c.if-branch.true) c.loop-n.invariant

pub loop-n-preserved : goal.loop-n-preserved
loop-n-preserved c = place_passed c.args.bytes.now c.args.places.now c.loop-n.n _ c.loop-n-test.true (sym c.in_ok-begins_journal.ensures ∙ c.if-branch.false) c.loop-n.invariant
