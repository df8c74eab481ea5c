use Rattle.std.proofs.Common.{arith}
use Rattle.st_flow.specs.Search.{reached}
use Rattle.st_flow.proofs.Running.{level_reached, level_unreached, past_end}
use Rattle.st_flow.proofs.Side.{IsSideBelow-push, IsSideBelow-skip, IsSideBelow-all}
use Rattle.st_flow.proofs.search.side_of.Goals as goal
use Rattle.st_flow.proofs.search.side_of.Goals.{then-marks-x-gt0+in_ok-push, else-marks-x-gt0}

pub loop-x-preserved : goal.loop-x-preserved
loop-x-preserved c =
    let marks = c.args.marks.now in
    elim c.if-marks-x-gt0.branch [
      | then-marks-x-gt0+in_ok-push w ↦ rw (w.side-is, w.in_ok-push.ensures.items)
          (IsSideBelow-push (reached marks) c.loop-x.x c.loop-x.side.items c.loop-x.invariant (level_reached marks c.loop-x.x w.if-marks-x-gt0.true))
      | else-marks-x-gt0 w ↦ rw w.side-is
          (IsSideBelow-skip (reached marks) c.loop-x.x c.loop-x.side.items c.loop-x.invariant (level_unreached marks c.loop-x.x (omega (arith, w.if-marks-x-gt0.false))))
    ]

pub returns-clause-has : goal.returns-clause-has
returns-clause-has c =
    let marks = c.args.marks.now in
    IsSideBelow-all (reached marks) c.loop-x.x c.loop-x.side.items c.loop-x.invariant
    (λ y past. level_unreached marks y (past_end marks y (omega (arith, past, c.loop-x-test.false))))
