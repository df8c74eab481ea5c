use Rattle.std.proofs.Common.{◌≡◌, take}
use Rattle.st_report.specs.Inside.{summaries_of}
use Rattle.st_report.specs.Lines.{histories}
use Rattle.st_report.proofs.report.summarize_all.Given as goal

abbrev pub invariant-loop-world : goal.invariant-loop-world
invariant-loop-world l = l.groups.items ≡ summaries_of l.apps (histories (take l.world-index l.worlds))
