use Rattle.std.proofs.Common.{◌≡◌, map, take}
use Rattle.st_net.specs.Faults.{promise_opening}
use Rattle.st_net.proofs.build.promises.Given as goal

abbrev pub invariant-loop-part : goal.invariant-loop-part
invariant-loop-part l = l.promises.items ≡ map (promise_opening l.names) (take l.part-index l.parts)
