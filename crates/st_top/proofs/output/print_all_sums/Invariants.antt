use Rattle.std.proofs.Common.{◌≡◌, ◌++◌, take}
use Rattle.std.specs.Prelude.{flat_map}
use Rattle.st_report.specs.Lines.{histories}
use Rattle.st_report.specs.Sums.{sums_text}
use Rattle.st_top.proofs.output.print_all_sums.Given as goal

-- the lines of the worlds so far
abbrev pub invariant-loop-world : goal.invariant-loop-world
invariant-loop-world l = l.out ≡ l.fn.out ++ flat_map (λ h. sums_text h.group h.past) (histories (take l.world-index l.worlds))
