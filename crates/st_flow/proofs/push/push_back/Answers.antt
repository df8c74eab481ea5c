use Rattle.std.proofs.Common.{rules, arith, ◌≡◌, w64, FitsSigned, pos, sym, ◌∙◌}
use Rattle.std.proofs.lemmas.Int.{to_z-of_z}
use Rattle.st_flow.specs.Network.{FitsEdge}
use Rattle.st_flow.specs.Residual.{turn, turned, pushed, edge_at, amount_at, no_edge}
use Rattle.st_flow.specs.Search.{mark_at}
use Rattle.st_flow.proofs.Closed.{AllZip-length, AllZip-at}
use Rattle.st_flow.proofs.Turned.{AllZip-turned, AllZip-unturned, amount_at-turned, set-turned, turn-same}
use Rattle.st_flow.proofs.Pushing.{IsPushing-start, IsPushing-next, IsPushing-room}
use Rattle.st_flow.proofs.push.push_back.Goals as goal

pub loop-y-init : goal.loop-y-init
loop-y-init c =
    IsPushing-start c.args.edges.now (turned c.args.direction c.args.amounts.now) c.as_slice-marks.result.now c.args.end c.args.more
    (AllZip-turned c.args.direction c.args.edges.now c.args.amounts.now c.requires.fits) (rw c.as_slice-marks.ensures.value c.requires.reached) (rw c.as_slice-marks.ensures.value c.requires.wide)

pub bounds-amounts-i : goal.bounds-amounts-i
bounds-amounts-i c =
    let tree = rw (← c.as_slice-marks.ensures.value) at c.requires.tree in
    let step = tree.steps c.loop-y.y c.loop-y.invariant.is_reached c.loop-y-test.true in
    omega (arith, step.edge_in, AllZip-length FitsEdge c.args.edges.now c.loop-y.amounts (AllZip-unturned c.args.direction c.args.edges.now c.loop-y.amounts c.loop-y.invariant.fits))

pub pushed_to-requires-clause-fits : goal.pushed_to-requires-clause-fits
pushed_to-requires-clause-fits c =
    let tree = rw (← c.as_slice-marks.ensures.value) at c.requires.tree in
    let step = tree.steps c.loop-y.y c.loop-y.invariant.is_reached c.loop-y-test.true in
    let i = (mark_at c.as_slice-marks.result.now c.loop-y.y).edge in
    let fits = AllZip-at FitsEdge c.args.edges.now c.loop-y.amounts i no_edge (pos 0) (AllZip-unturned c.args.direction c.args.edges.now c.loop-y.amounts c.loop-y.invariant.fits) step.edge_in in
    let f : FitsSigned w64 (amount_at c.loop-y.amounts i) = search rules in
    rw (to_z-of_z w64 (amount_at c.loop-y.amounts i) f) fits

pub pushed_to-requires-clause-in_room : goal.pushed_to-requires-clause-in_room
pushed_to-requires-clause-in_room c =
    let d = c.args.direction in
    let tree = rw (← c.as_slice-marks.ensures.value) at c.requires.tree in
    let step = tree.steps c.loop-y.y c.loop-y.invariant.is_reached c.loop-y-test.true in
    let i = (mark_at c.as_slice-marks.result.now c.loop-y.y).edge in
    let wide = IsPushing-room c.args.edges.now (turned d c.args.amounts.now) (turned d c.loop-y.amounts) c.as_slice-marks.result.now c.args.end c.loop-y.y c.args.more c.loop-y.invariant step in
    let f : FitsSigned w64 (amount_at c.loop-y.amounts i) = search rules in
    rw (to_z-of_z w64 (amount_at c.loop-y.amounts i) f) (rw (amount_at-turned d c.loop-y.amounts i) at wide)

pub loop-y-preserved : goal.loop-y-preserved
loop-y-preserved c =
    let d = c.args.direction in
    let gs = c.loop-y.amounts in
    let y = c.loop-y.y in
    let tree = rw (← c.as_slice-marks.ensures.value) at c.requires.tree in
    let step = tree.steps y c.loop-y.invariant.is_reached c.loop-y-test.true in
    let next = IsPushing-next c.args.edges.now (turned d c.args.amounts.now) (turned d gs) c.as_slice-marks.result.now c.args.end y c.args.more c.loop-y.invariant step in
    let i = (mark_at c.as_slice-marks.result.now y).edge in
    let f : FitsSigned w64 (amount_at gs i) = search rules in
    let g : FitsSigned w64 c.pushed_to.result = search rules in
    let is : turn d c.pushed_to.result ≡ pushed (edge_at c.args.edges.now i) (amount_at (turned d gs) i) y (pos c.args.more) = rw (amount_at-turned d gs i) (rw (to_z-of_z w64 (amount_at gs i) f) at c.pushed_to.ensures) in
    rw (to_z-of_z w64 c.pushed_to.result g, set-turned d gs i c.pushed_to.result, is, c.other-y.ensures) next

pub returns-clause-fits : goal.returns-clause-fits
returns-clause-fits c = AllZip-unturned c.args.direction c.args.edges.now c.loop-y.amounts c.loop-y.invariant.fits

pub returns-clause-kept : goal.returns-clause-kept
returns-clause-kept c = λ i out.
    let d = c.args.direction in
    turn-same d (amount_at c.loop-y.amounts i) (amount_at c.args.amounts.now i)
    (sym (amount_at-turned d c.loop-y.amounts i) ∙ (c.loop-y.invariant.outside i (rw c.as_slice-marks.ensures.value out) ∙ amount_at-turned d c.args.amounts.now i))
