use Rattle.std.proofs.Common.{◌≡◌, length, take}
use Rattle.std.specs.Prelude.{sum_by}
use Rattle.st_top.proofs.output.act_count.Given as goal

-- the count of the applications so far
abbrev pub invariant-loop-script : goal.invariant-loop-script
invariant-loop-script l = l.count ≡ sum_by (λ script. length script.acts) (take l.script-index l.apps)
