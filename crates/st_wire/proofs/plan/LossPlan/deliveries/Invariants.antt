use Rattle.std.proofs.Common.{◌≡◌, ◌++◌, drop}
use Rattle.std.specs.List.{filter_map}
use Rattle.st_wire.specs.Deliveries.{deliveries as deliveries_lem, brought_at as brought_at_lem}
use Rattle.st_wire.proofs.plan.LossPlan.deliveries.Given as goal

-- what was found, with what the lines to come bring, is all
abbrev pub invariant-loop-line : goal.invariant-loop-line
invariant-loop-line l = l.numbers.items ++ filter_map (brought_at_lem l.kind l.m) (drop l.line-index l.line-items) ≡ deliveries_lem l.self l.kind l.m
