use Rattle.std.proofs.Common.{[]}
use Rattle.st_gen.specs.FatTrees.{half, pod_tor_names}
use Rattle.st_gen.proofs.Growing.{joined}
use Rattle.st_gen.proofs.promises.tor_names.Goals as goal

pub loop-pod-preserved : goal.loop-pod-preserved
loop-pod-preserved c = joined (pod_tor_names (half c.args.pods)) [] c.loop-pod.names.items c.add_tor_names.new.names.items c.loop-pod.pod c.loop-pod.invariant c.in_ok-add_tor_names.ensures
