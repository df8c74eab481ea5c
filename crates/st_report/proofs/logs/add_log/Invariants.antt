use Rattle.std.proofs.Common.{◌≡◌, ◌++◌, ◌∷◌, [], take}
use Rattle.std.specs.Prelude.{flat_map}
use Rattle.st_text.specs.Words.{spaced}
use Rattle.st_report.specs.Lines.{histories, seen_words}
use Rattle.st_report.proofs.logs.add_log.Given as goal

abbrev pub invariant-loop-entry : goal.invariant-loop-entry
invariant-loop-entry l = l.lines ≡ l.initial.lines ++ flat_map (λ entry. spaced (seen_words (histories l.worlds) l.apps l.log.app entry) ∷ []) (take l.entry-index l.entry-items)
