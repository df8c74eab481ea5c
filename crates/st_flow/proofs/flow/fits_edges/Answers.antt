use Rattle.std.proofs.Common.{arith, pos, refl}
use Rattle.std.proofs.lemmas.Int.{ints}
use Rattle.st_flow.specs.Network.{FitsEdge}
use Rattle.st_flow.specs.Residual.{no_edge}
use Rattle.st_flow.proofs.Closed.{AllZip-length, AllZip-at, AllZip-from}
use Rattle.st_flow.proofs.flow.fits_edges.Goals as goal
use Rattle.st_flow.proofs.flow.fits_edges.Goals.{then-amounts-i-via-then-amounts-i, then-amounts-i-via-else-amounts-i+then-amounts-i-2}

pub returns-then-amounts-edges : goal.returns-then-amounts-edges
returns-then-amounts-edges c = (λ is. absurd (cc), λ fits. absurd (omega (arith, AllZip-length FitsEdge c.args.edges.now c.args.amounts.now fits, c.if-amounts-edges.true)))

pub returns-then-amounts-i : goal.returns-then-amounts-i
returns-then-amounts-i c = (
  λ is. absurd (cc),
  λ fits.
      let at = AllZip-at FitsEdge c.args.edges.now c.args.amounts.now c.loop-i.i no_edge (pos 0) fits c.loop-i-test.true in
      elim c.then-amounts-i.branch [
        | then-amounts-i-via-then-amounts-i w ↦ absurd (omega (arith, ints, at.low, w.if-amounts-i.true, c.from-capacity.ensures))
        | then-amounts-i-via-else-amounts-i+then-amounts-i-2 w ↦ absurd (omega (arith, ints, at.high, w.if-amounts-i-2.true, c.from-capacity.ensures))
      ],
)

pub returns : goal.returns
returns c = (λ is. AllZip-from FitsEdge c.args.edges.now c.args.amounts.now no_edge (pos 0) (omega (arith, c.if-amounts-edges.false)) (λ i lt. c.loop-i.invariant i (omega (arith, lt, c.loop-i-test.false))), λ fits. refl)
