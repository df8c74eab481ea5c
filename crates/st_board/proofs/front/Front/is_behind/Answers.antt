use Rattle.std.proofs.Common.{◌≤◌, List, length, ap, subst, sym, arith}
use Rattle.std.proofs.lemmas.Bool.{ltb-true, ltb-false}
use mathlib.Core.List.{IsPrefix}
use Rattle.st_board.specs.declared.post.Post.{Post}
use Rattle.st_event.proofs.Prefixes.{prefix_shorter}
use Rattle.st_board.proofs.Fronts.{ended_whole}
use Rattle.st_board.proofs.front.Front.is_behind.Goals as goal

pub returns-clause-mine : goal.returns-clause-mine
returns-clause-mine c is =
    let mine : IsPrefix c.args.self.now.seen.log c.learn.new.self.log = subst (λ (l : List Post). IsPrefix l c.learn.new.self.log) (ap (λ s. s.log) c.again-both.ensures) c.learn.ensures.mine in
    let less : length c.args.self.now.seen.log ≤ length c.args.other.now.seen.log = omega (arith, c.posts.ensures.count, c.posts-2.ensures.count, ltb-true c.posts.result c.posts-2.result is) in
    prefix_shorter c.args.self.now.seen.log c.args.other.now.seen.log c.learn.new.self.log mine c.learn.ensures.other less

pub returns-clause-other : goal.returns-clause-other
returns-clause-other c is =
    let mine : IsPrefix c.args.self.now.seen.log c.learn.new.self.log = subst (λ (l : List Post). IsPrefix l c.learn.new.self.log) (ap (λ s. s.log) c.again-both.ensures) c.learn.ensures.mine in
    let less : length c.args.other.now.seen.log ≤ length c.args.self.now.seen.log = omega (arith, c.posts.ensures.count, c.posts-2.ensures.count, ltb-false c.posts.result c.posts-2.result is) in
    prefix_shorter c.args.other.now.seen.log c.args.self.now.seen.log c.learn.new.self.log c.learn.ensures.other mine less

pub returns-clause-ended : goal.returns-clause-ended
returns-clause-ended c is ended =
    let mine : IsPrefix c.args.self.now.seen.log c.learn.new.self.log = subst (λ (l : List Post). IsPrefix l c.learn.new.self.log) (ap (λ s. s.log) c.again-both.ensures) c.learn.ensures.mine in
    let less : length c.args.other.now.seen.log ≤ length c.args.self.now.seen.log = omega (arith, c.posts.ensures.count, c.posts-2.ensures.count, ltb-false c.posts.result c.posts-2.result is) in
    sym (ended_whole c.args.other.now.seen.log c.args.self.now.seen.log (prefix_shorter c.args.other.now.seen.log c.args.self.now.seen.log c.learn.new.self.log c.learn.ensures.other mine less) ended c.args.self.now.last)
