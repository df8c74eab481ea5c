use Rattle.std.proofs.Common.{arith, length}
use Rattle.st_flow.proofs.Running.{blank_marks}
use Rattle.st_flow.proofs.search.Search.forget.Goals as goal

pub returns-clause-marks : goal.returns-clause-marks
returns-clause-marks c =
    blank_marks c.loop-y.self.marks.items (length c.args.self.now.marks.items) c.loop-y.invariant.nodes (λ y lt. c.loop-y.invariant.blank y (omega (arith, lt, c.loop-y-test.false)))
