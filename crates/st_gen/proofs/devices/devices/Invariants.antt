use Rattle.std.proofs.Common.{◌≡◌}
use Rattle.std.specs.Prelude.{flat_map}
use Rattle.st_gen.specs.FatTrees.{numbers, pod_devices}
use Rattle.st_gen.proofs.devices.devices.Given as goal

abbrev pub invariant-loop-pod : goal.invariant-loop-pod
invariant-loop-pod l = l.parts.items ≡ flat_map (pod_devices l.half) (numbers l.pod)
