use Rattle.std.proofs.Common.{◌≡◌, ◌++◌, take}
use Rattle.std.specs.Prelude.{flat_map}
use Rattle.st_net.specs.Entities.{vars_of}
use Rattle.st_overlay.specs.Values.{value_in}
use Rattle.st_report.proofs.Gathered.{change_texts}
use Rattle.st_report.proofs.state.add_changes.Given as goal

abbrev pub invariant-loop-var : goal.invariant-loop-var
invariant-loop-var l = l.lines ≡ l.initial.lines ++ flat_map (change_texts l.topo (value_in l.target) l.entity) (take l.var-index (vars_of l.entity))
