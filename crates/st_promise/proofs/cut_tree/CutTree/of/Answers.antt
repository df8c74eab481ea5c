use Rattle.std.proofs.Common.{◌++◌, ◌∷◌, [], length, drop, arith, length-append, length-drop}
use Rattle.std.proofs.lemmas.List.{length-take}
use Rattle.st_promise.specs.CutTree.{IsBranch}
use Rattle.st_promise.proofs.CutLaws.{branches_with}
use Rattle.st_promise.proofs.cut_tree.CutTree.of.Goals as goal

pub loop-k-preserved : goal.loop-k-preserved
loop-k-preserved c =
    let branch : IsBranch c.args.topo.now c.in_ok-tors.tors.items (length c.loop-k.branches.items) c.in_ok-branch.branch = rw c.loop-k.invariant.count (rw c.as_slice.ensures.value at c.in_ok-branch.ensures) in
    rw c.in_ok-push.ensures.items (record {
      parents = omega (arith, c.adopt.ensures, c.loop-k.invariant.parents, c.loop-k.parents.ok, length-take c.loop-k.parents.len (c.adopt.new.parents ++ drop (length c.adopt.new.parents) c.loop-k.parents.items), length-append c.adopt.new.parents (drop (length c.adopt.new.parents) c.loop-k.parents.items), length-drop (length c.adopt.new.parents) c.loop-k.parents.items);
      count = omega (arith, c.loop-k.invariant.count, length-append c.loop-k.branches.items (c.in_ok-branch.branch ∷ []));
      each = branches_with c.args.topo.now c.in_ok-tors.tors.items c.loop-k.branches.items c.in_ok-branch.branch c.loop-k.invariant.each branch;
    })
