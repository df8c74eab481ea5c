use Rattle.std.proofs.Common.{◌≡◌, ◌++◌, ◌∷◌, [], ap, subst, sym, ◌∙◌}
use Rattle.st_board.specs.declared.post.Post.TheVariants.{End}
use Rattle.st_board.specs.Posts.{MarkIsLast}
use Rattle.st_board.proofs.Fronts.{counts_end, mark_more}
use Rattle.st_board.proofs.front.Front.end.Goals as goal

pub invariant_of-self : goal.invariant_of-self
invariant_of-self c =
    let old = c.args.self.now in
    let added : c.log.result.log ≡ old.seen.log ++ End ∷ [] = ap (λ s. s.log) c.log.ensures ∙ (c.add.ensures.log ∙ ap (λ s. s.log ++ End ∷ []) c.requires.whole) in
    let counts = counts_end old.version old.ended old.seen.log c.log.result.log old.merges old.marked c.requires.going old.counted added in
    record { merges = counts.0; marked = counts.1; counted = counts.2; last = subst MarkIsLast (sym added) (mark_more old.seen.log End c.requires.going) }
