use Rattle.std.proofs.Common.{◌≡◌, ◌<◌, ◌≤◌, length, ap, subst, sym, ◌∙◌, arith}
use Rattle.st_net.specs.Groups.{Group}
use Rattle.st_overlay.specs.Values.{overlaid}
use Rattle.st_board.specs.Posts.{group_in, proposals_in}
use Rattle.st_board.specs.Published.{IsMergeOf}
use Rattle.st_board.proofs.Fronts.{group_same, prefix_proposals}
use Rattle.st_board.proofs.Recents.{merge_again}
use Rattle.st_board.proofs.reader.renew.Goals as goal

pub returns-then-since-front : goal.returns-then-since-front
returns-then-since-front c =
    let mine = c.args.front.now in
    let shown = c.args.shown.now in
    let some : 0 < length mine.seen.log = omega (arith, mine.counted) in
    let same : group_in mine.seen.log ≡ group_in shown.front.seen.log = group_same mine.seen.log shown.front.seen.log c.requires.earlier some in
    let was : IsMergeOf (group_in shown.front.seen.log) (proposals_in mine.seen.log) c.args.table.now = subst (λ (g : Group). IsMergeOf g (proposals_in mine.seen.log) c.args.table.now) same c.requires.mine in
    let since : shown.recent.since ≤ length (proposals_in mine.seen.log) = omega (arith, c.since.ensures, c.if-since-front.true, mine.merges) in
    let merged = merge_again (group_in shown.front.seen.log) (proposals_in mine.seen.log) (proposals_in shown.front.seen.log) c.args.table.now shown.recent was (prefix_proposals _ _ c.requires.earlier) c.requires.shown.1 since in
    subst (IsMergeOf (group_in shown.front.seen.log) (proposals_in shown.front.seen.log)) (sym (c.overlay.ensures.overlaid ∙ ap (overlaid c.args.table.now) c.as_slice.ensures)) merged
