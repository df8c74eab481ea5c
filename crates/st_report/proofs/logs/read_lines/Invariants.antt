use Rattle.std.proofs.Common.{◌≡◌, map, take}
use Rattle.std.specs.Prelude.{flat_map}
use Rattle.st_text.specs.Words.{spaced}
use Rattle.st_report.specs.Lines.{histories, seen_words}
use Rattle.st_report.proofs.logs.read_lines.Given as goal

abbrev pub invariant-loop-log : goal.invariant-loop-log
invariant-loop-log l = l.lines ≡ flat_map (λ log. map spaced (map (seen_words (histories l.worlds) l.apps log.app) log.entries)) (take l.log-index l.logs)
