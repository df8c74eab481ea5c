use Rattle.std.proofs.Common.{arith, ◌==◌, length}
use Rattle.st_flow.proofs.Checks.{cut_value-le}
use Rattle.st_flow.proofs.Rounds.{alone_cut}
use Rattle.st_flow.proofs.maximum.least_cut.Goals as goal

pub unreachable-requires : goal.unreachable-requires
unreachable-requires c =
    let answer = rw (c.in-Enough.is, ← c.g.view_is) at c.in_ok-cut.ensures in
    let small = cut_value-le (length c.g.inside.rows.items) c.g.inside.edges.items (λ y. y == c.args.a) c.g.invariant.edges_fit c.g.invariant.few_edges in
    omega (arith, small, answer.every_cut (λ y. y == c.args.a) (alone_cut c.args.a c.args.b c.requires.apart))
