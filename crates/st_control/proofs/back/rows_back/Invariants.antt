use Rattle.std.proofs.Common.{◌≡◌, take}
use Rattle.st_net.specs.Entities.{value_of, vars_of}
use Rattle.st_event.specs.Replies.{rows_back}
use Rattle.st_control.proofs.back.rows_back.Given as goal

abbrev pub invariant-loop-var : goal.invariant-loop-var
invariant-loop-var l = l.rows.items ≡ rows_back l.entity (value_of l.entity l.observed) (value_of l.entity l.target) (take l.var-index (vars_of l.entity))
