use Rattle.st_promise.proofs.CutLaws.{least_between}
use Rattle.st_promise.proofs.cut_tree.CutTree.least.Goals as goal

pub returns-then-low-high : goal.returns-then-low-high
returns-then-low-high c = least_between c.args.topo.now c.args.a c.args.b c.low-low.result c.high.result c.requires.apart (λ s apart. c.low-low.ensures s (rw (c.in-Some-Some.ensures.1, c.in-Some-Some.ensures'.1) apart)) c.high.ensures c.if-low-high.true
