use Rattle.std.proofs.Common.{◌≡◌, take}
use Rattle.st_net.specs.Entities.{value_of, vals_by}
use Rattle.st_net.specs.Merge.{target_with}
use Rattle.st_world.proofs.world.acts.failed_vals.Given as goal

-- the rows so far are set in the values
abbrev pub invariant-loop-row : goal.invariant-loop-row
invariant-loop-row l = l.vals ≡ vals_by l.entity l.fn.vals (target_with (λ e. value_of e l.fn.vals) (take l.row-index l.rows) l.entity)
