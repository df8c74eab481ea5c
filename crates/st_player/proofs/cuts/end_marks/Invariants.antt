use Rattle.std.specs.Prelude.{◌==◌, ◌&&◌, not}
use Rattle.st_player.specs.Cuts.{is_marked}
use Rattle.st_player.proofs.CutLemmas.{AreMarks}
use Rattle.st_player.proofs.cuts.end_marks.Given as goal

-- the marks so far
abbrev pub invariant-loop-d : goal.invariant-loop-d
invariant-loop-d l = AreMarks (λ d. (d == l.end) && not (is_marked l.side d)) l.d l.marks.items
