use Rattle.std.proofs.Common.{◌<◌, length, arith, ap}
use Rattle.std.specs.Prelude.{true}
use Rattle.st_net.specs.Cuts.{cut_value}
use Rattle.st_promise.specs.CutTree.{tor_at}
use Rattle.st_promise.proofs.CutLaws.{branch_read, way_on, way_done}
use Rattle.st_promise.proofs.cut_tree.CutTree.low.Goals as goal

pub loop-x-preserved : goal.loop-x-preserved
loop-x-preserved c =
    let low : c.max-later.result < length c.args.self.now.branches.items = omega (arith, c.max-later.ensures, c.loop-x.invariant.x_in, c.loop-x.invariant.y_in) in
    let branch = branch_read c.args.topo.now c.args.self.now c.max-later.result c.index-branch.result.now c.requires.tree low c.index-branch.ensures in
    record {
      x_in = omega (arith, branch.earlier, low);
      y_in = omega (arith, c.min-y.ensures, c.loop-x.invariant.x_in, c.loop-x.invariant.y_in);
      on_the_way = λ s apart. way_on c.args.topo.now c.args.self.now.tors.items c.loop-x.x c.loop-x.y c.max-later.result c.min-y.result c.loop-x.low c.min-low.result c.index-branch.result.now s branch c.max-later.ensures c.min-y.ensures c.min-low.ensures (c.loop-x.invariant.on_the_way s apart);
    }

pub loop-x-smaller : goal.loop-x-smaller
loop-x-smaller c =
    let low : c.max-later.result < length c.args.self.now.branches.items = omega (arith, c.max-later.ensures, c.loop-x.invariant.x_in, c.loop-x.invariant.y_in) in
    let branch = branch_read c.args.topo.now c.args.self.now c.max-later.result c.index-branch.result.now c.requires.tree low c.index-branch.ensures in
    omega (arith, branch.earlier, c.max-later.ensures, c.min-y.ensures, c.loop-x-test.true)

pub returns : goal.returns
returns c = λ s apart. way_done (cut_value c.args.topo.now.links (λ e. true) s) c.loop-x.low (tor_at c.args.self.now.tors.items c.loop-x.x) (tor_at c.args.self.now.tors.items c.loop-x.y) s (ap (tor_at c.args.self.now.tors.items) c.loop-x-test.false) (c.loop-x.invariant.on_the_way s apart)
