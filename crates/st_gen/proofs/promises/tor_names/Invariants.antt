use Rattle.std.proofs.Common.{◌≡◌}
use Rattle.std.specs.Prelude.{flat_map}
use Rattle.st_gen.specs.FatTrees.{numbers, pod_tor_names}
use Rattle.st_gen.proofs.promises.tor_names.Given as goal

abbrev pub invariant-loop-pod : goal.invariant-loop-pod
invariant-loop-pod l = l.names.items ≡ flat_map (pod_tor_names l.half) (numbers l.pod)
