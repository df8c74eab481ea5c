use Rattle.std.proofs.Common.{arith, eq-eqb}
use Rattle.std.proofs.lemmas.Int.{ints}
use Rattle.st_flow.proofs.Rounds.{not_same}
use Rattle.st_flow.proofs.edge.Edge.out_of.Goals as goal
use Rattle.st_flow.proofs.edge.Edge.out_of.Goals.{then-self-x, else-self-x, then-self-x-2, else-self-x-2}

pub returns-clause-value : goal.returns-clause-value
returns-clause-value c =
    let e = c.args.self.now in
    let x = c.args.x in
    elim c.if-self-x.branch [
      | then-self-x w ↦ elim c.if-self-x-2.branch [
        | then-self-x-2 v ↦ rw (eq-eqb e.u x w.if-self-x.true, eq-eqb e.v x v.if-self-x-2.true) (omega (arith, ints, w.out-is, v.back-is))
        | else-self-x-2 v ↦ rw (eq-eqb e.u x w.if-self-x.true, not_same e.v x v.if-self-x-2.false) (omega (arith, ints, w.out-is, v.back-is))
      ]
      | else-self-x w ↦ elim c.if-self-x-2.branch [
        | then-self-x-2 v ↦ rw (not_same e.u x w.if-self-x.false, eq-eqb e.v x v.if-self-x-2.true) (omega (arith, ints, w.out-is, v.back-is))
        | else-self-x-2 v ↦ rw (not_same e.u x w.if-self-x.false, not_same e.v x v.if-self-x-2.false) (omega (arith, ints, w.out-is, v.back-is))
      ]
    ]
