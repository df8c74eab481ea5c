use Rattle.std.proofs.Common.{[]}
use Rattle.st_gen.specs.FatTrees.{half, pod_links}
use Rattle.st_gen.proofs.Growing.{joined}
use Rattle.st_gen.proofs.links.links.Goals as goal

pub loop-pod-preserved : goal.loop-pod-preserved
loop-pod-preserved c = joined (pod_links (half c.args.pods)) [] c.loop-pod.parts.items c.add_pod.new.parts.items c.loop-pod.pod c.loop-pod.invariant c.in_ok-add_pod.ensures
