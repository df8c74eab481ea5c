use Rattle.std.proofs.Common.{◌≡◌, ◌<◌, ◌++◌, ◌∷◌, [], All, length, sym, ap, subst, ◌∙◌, List, arith}
use Rattle.st_line.specs.Lines.{LineName}
use Rattle.st_net.specs.declared.entity.Row.{Row}
use Rattle.st_net.specs.Ranges.{RowFits}
use Rattle.st_board.specs.declared.front.Front.{Front}
use Rattle.st_board.specs.declared.post.Post.TheVariants.{Merge}
use Rattle.st_board.specs.declared.target.Target.{Target}
use Rattle.st_board.specs.Posts.{group_in}
use Rattle.st_board.specs.ShownInside.{IsShown}
use Rattle.st_board.specs.Published.{Published, published_in}
use Rattle.st_board.proofs.Fronts.{published_more}
use Rattle.st_board.proofs.Recents.{shows_more}
use Rattle.st_board.proofs.board.Board.publish.Goals as goal

pub show-requires-clause-ready : goal.show-requires-clause-ready
show-requires-clause-ready g c =
    let old = c.self.inside.desk.desk.shown.value in
    let rows = c.in_ok-rows.rows in
    let front : c.again-front.result ≡ old.front = c.again-front.ensures ∙ ap (λ (t : Target). t.front) c.published.ensures in
    let more : c.merge.new.self.seen.log ≡ old.front.seen.log ++ Merge rows ∷ [] = c.merge.ensures.log ∙ ap (λ (f : Front). f.seen.log ++ Merge rows ∷ []) front in
    let some : 0 < length old.front.seen.log = omega (arith, old.front.counted) in
    let group : All (RowFits (group_in old.front.seen.log)) c.args.rows.now = subst (λ (p : Published). All (RowFits p.group) c.args.rows.now) (sym c.self.view_is) c.requires.fits in
    let fits : All (RowFits (group_in old.front.seen.log)) rows = subst (All (RowFits (group_in old.front.seen.log))) (sym c.in_ok-rows.ensures) group in
    (shows_more old.front.seen.log c.merge.new.self.seen.log rows old.table old.recent c.merge.new.self.version some more c.self.invariant.shown fits c.merge.new.self.merges, c.merge.ensures.book ∙ ap (λ (f : Front). f.seen.book) front)

pub invariant_of-self-2 : goal.invariant_of-self-2
invariant_of-self-2 g c =
    let old = c.self.inside.desk.desk.shown.value in
    let rows = c.in_ok-rows.rows in
    let front : c.again-front.result ≡ old.front = c.again-front.ensures ∙ ap (λ (t : Target). t.front) c.published.ensures in
    let more : c.merge.new.self.seen.log ≡ old.front.seen.log ++ Merge rows ∷ [] = c.merge.ensures.log ∙ ap (λ (f : Front). f.seen.log ++ Merge rows ∷ []) front in
    let some : 0 < length old.front.seen.log = omega (arith, old.front.counted) in
    let group : All (RowFits (group_in old.front.seen.log)) c.args.rows.now = subst (λ (p : Published). All (RowFits p.group) c.args.rows.now) (sym c.self.view_is) c.requires.fits in
    let fits : All (RowFits (group_in old.front.seen.log)) rows = subst (All (RowFits (group_in old.front.seen.log))) (sym c.in_ok-rows.ensures) group in
    let book : c.merge.new.self.seen.book ≡ old.front.seen.book = c.merge.ensures.book ∙ ap (λ (f : Front). f.seen.book) front in
    record {
      idle = c.in_ok-show.ensures.idle;
      shown = subst IsShown (sym c.in_ok-show.ensures.shown) (shows_more old.front.seen.log c.merge.new.self.seen.log rows old.table old.recent c.merge.new.self.version some more c.self.invariant.shown fits c.merge.new.self.merges);
      bound = c.in_ok-show.ensures.bound;
      whole = λ e. c.merge.ensures.whole ∙ sym (ap (λ (t : Target). t.front.seen) c.in_ok-show.ensures.shown);
    }

pub returns-clause-ok : goal.returns-clause-ok
returns-clause-ok g c =
    let old = c.self.inside.desk.desk.shown.value in
    let rows = c.in_ok-rows.rows in
    let front : c.again-front.result ≡ old.front = c.again-front.ensures ∙ ap (λ (t : Target). t.front) c.published.ensures in
    let more : c.merge.new.self.seen.log ≡ old.front.seen.log ++ Merge rows ∷ [] = c.merge.ensures.log ∙ ap (λ (f : Front). f.seen.log ++ Merge rows ∷ []) front in
    let some : 0 < length old.front.seen.log = omega (arith, old.front.counted) in
    let book : c.merge.new.self.seen.book ≡ old.front.seen.book = c.merge.ensures.book ∙ ap (λ (f : Front). f.seen.book) front in
    ap (λ (t : Target). published_in t.front.seen.book t.front.seen.log) c.in_ok-show.ensures.shown
    ∙ (ap (λ (b : LineName). published_in b c.merge.new.self.seen.log) book
    ∙ (published_more old.front.seen.book old.front.seen.log c.merge.new.self.seen.log rows some more
    ∙ (ap (λ (p : Published). record p { proposals = p.proposals ++ rows ∷ [] }) c.self.view_is
    ∙ ap (λ (rs : List Row). record c.args.self.now { proposals = c.args.self.now.proposals ++ rs ∷ [] }) c.in_ok-rows.ensures)))
