use Rattle.st_player.specs.Cuts.{is_one_of}
use Rattle.st_player.proofs.CutLemmas.{AreMarks}
use Rattle.st_player.proofs.cuts.device_marks.Given as goal

-- the marks so far
abbrev pub invariant-loop-d : goal.invariant-loop-d
invariant-loop-d l = AreMarks (is_one_of l.numbers) l.d l.marks.items
