use Rattle.std.proofs.Common.{◌≡◌, ◌<◌, length, subst, sym, arith}
use Rattle.st_net.specs.Groups.{Group}
use Rattle.st_overlay.specs.Values.{IsTableOf}
use Rattle.st_board.specs.Posts.{group_in}
use Rattle.st_board.proofs.Fronts.{group_same, shape_of}
use Rattle.st_board.proofs.reader.advance.Goals as goal

pub fill-requires : goal.fill-requires
fill-requires c =
    let some : 0 < length c.args.front.now.seen.log = omega (arith, c.args.front.now.counted) in
    let same : group_in c.args.front.now.seen.log ≡ group_in c.args.other.now.seen.log = group_same c.args.front.now.seen.log c.args.other.now.seen.log (c.is_behind.ensures.mine c.if-is_behind.true) some in
    shape_of (group_in c.args.front.now.seen.log) c.args.table.now c.args.target.now c.requires.mine.of (subst (λ (g : Group). IsTableOf g c.args.target.now) (sym same) c.requires.other.of)
