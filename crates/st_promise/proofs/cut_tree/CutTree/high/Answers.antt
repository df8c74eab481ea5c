use Rattle.std.proofs.Common.{arith}
use Rattle.st_promise.proofs.CutLaws.{baseline_low, high_on}
use Rattle.st_promise.proofs.cut_tree.CutTree.high.Goals as goal
use Rattle.st_promise.proofs.cut_tree.CutTree.high.Goals.{then-index, else-index}

pub loop-branch-init : goal.loop-branch-init
loop-branch-init c = omega (arith, baseline_low c.args.topo.now c.args.a c.args.b c.is_sound.ensures c.requires.apart)

pub loop-branch-preserved : goal.loop-branch-preserved
loop-branch-preserved c = elim c.if-index.branch [
  | then-index w ↦ rw w.high-is (high_on c.args.topo.now c.args.self.now c.loop-branch.branch-index c.args.a c.args.b c.loop-branch.high w.min-high.result c.branch-item.result c.index.result.now c.index-in-loop-branch.result.now c.is_sound.ensures c.requires.tree c.requires.a c.requires.b (rw c.deref-branch-items.ensures.value at c.loop-branch-test.true) (rw c.deref-branch-items.ensures.value at c.branch-item.is) c.index.ensures c.index-in-loop-branch.ensures w.if-index.true w.min-high.ensures c.loop-branch.invariant)
  | else-index w ↦ rw w.high-is c.loop-branch.invariant
]
