use Rattle.std.proofs.Common.{map}
use Rattle.st_text.specs.Lines.{line_in}
use Rattle.st_doc.proofs.JournalPlaces.{Passed}
use Rattle.st_doc.proofs.reading.line_count.Given as goal

-- none of the lines so far begins a journal
abbrev pub invariant-loop-n : goal.invariant-loop-n
invariant-loop-n l = Passed (map (line_in l.bytes) l.places) l.n
