use Rattle.std.proofs.Common.{rules, arith, get_or, pos, w64, FitsSigned, ◌∙◌}
use Rattle.std.proofs.lemmas.List.{take_all}
use Rattle.std.proofs.lemmas.Int.{ints, to_z-of_z}
use Rattle.st_flow.specs.Network.{FitsEdge}
use Rattle.st_flow.specs.Residual.{no_edge, amount_at}
use Rattle.st_flow.proofs.Closed.{AllZip-length, AllZip-at}
use Rattle.st_flow.proofs.Rows.{row_out-more}
use Rattle.st_flow.proofs.flow.row_out.Goals as goal

pub bounds-amounts-i : goal.bounds-amounts-i
bounds-amounts-i c =
    let at = c.requires.row.fits c.loop-i.i-index 0 c.loop-i-test.true in
    omega (arith, at.0, AllZip-length FitsEdge c.args.edges.now c.args.amounts.now c.requires.fits)

pub out_of-sum-requires-clause-fits : goal.out_of-sum-requires-clause-fits
out_of-sum-requires-clause-fits c =
    let i = get_or c.args.row.now c.loop-i.i-index 0 in
    let at = c.requires.row.fits c.loop-i.i-index 0 c.loop-i-test.true in
    let f : FitsSigned w64 (amount_at c.args.amounts.now i) = search rules in
    rw (to_z-of_z w64 (amount_at c.args.amounts.now i) f) (AllZip-at FitsEdge c.args.edges.now c.args.amounts.now i no_edge (pos 0) c.requires.fits at.0)

pub loop-i-preserved : goal.loop-i-preserved
loop-i-preserved c =
    let i = get_or c.args.row.now c.loop-i.i-index 0 in
    let f : FitsSigned w64 (amount_at c.args.amounts.now i) = search rules in
    let part = rw (to_z-of_z w64 (amount_at c.args.amounts.now i) f) at c.out_of-sum.ensures.value in
    let more = row_out-more c.args.edges.now c.args.amounts.now c.args.x c.args.row.now c.loop-i.i-index c.loop-i-test.true in
    let low = c.loop-i.invariant.low in
    let high = c.loop-i.invariant.high in
    let short = c.requires.row.short in
    record {
      so_far = omega (arith, ints, c.loop-i.invariant.so_far, part, more, low, high, c.out_of-sum.ensures.low, c.out_of-sum.ensures.high, short);
      low = omega (arith, ints, low, high, c.out_of-sum.ensures.low, c.out_of-sum.ensures.high, short);
      high = omega (arith, ints, low, high, c.out_of-sum.ensures.low, c.out_of-sum.ensures.high, short);
    }

pub returns : goal.returns
returns c =
    let was = rw (take_all c.loop-i.i-index c.args.row.now c.loop-i-test.false) at c.loop-i.invariant.so_far in
    was ∙ c.requires.row.sums c.args.amounts.now (AllZip-length FitsEdge c.args.edges.now c.args.amounts.now c.requires.fits)
