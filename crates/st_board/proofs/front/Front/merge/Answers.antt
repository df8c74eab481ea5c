use Rattle.std.proofs.Common.{◌≡◌, ◌++◌, ◌∷◌, [], ap, subst, sym, ◌∙◌}
use Rattle.st_board.specs.declared.post.Post.TheVariants.{Merge}
use Rattle.st_board.specs.Posts.{MarkIsLast}
use Rattle.st_board.proofs.Fronts.{counts_more, mark_more}
use Rattle.st_board.proofs.front.Front.merge.Goals as goal

pub invariant_of-self : goal.invariant_of-self
invariant_of-self c =
    let old = c.args.self.now in
    let post = Merge c.args.rows.now in
    let added : c.log.result.log ≡ old.seen.log ++ post ∷ [] = ap (λ s. s.log) c.log.ensures ∙ (c.add.ensures.log ∙ ap (λ s. s.log ++ post ∷ []) c.requires.whole) in
    let counts = counts_more old.version old.ended old.seen.log c.log.result.log c.args.rows.now old.merges old.marked old.counted added in
    record { merges = counts.0; marked = counts.1; counted = counts.2; last = subst MarkIsLast (sym added) (mark_more old.seen.log post c.requires.going) }
