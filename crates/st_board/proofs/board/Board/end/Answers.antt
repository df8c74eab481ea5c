use Rattle.std.proofs.Common.{◌≡◌, ◌<◌, ◌++◌, ◌∷◌, [], true, length, sym, ap, subst, ◌∙◌, List, arith}
use Rattle.st_line.specs.Lines.{LineName}
use Rattle.st_net.specs.declared.entity.Row.{Row}
use Rattle.st_overlay.specs.Values.{overlaid}
use Rattle.st_board.specs.declared.front.Front.{Front}
use Rattle.st_board.specs.declared.post.Post.TheVariants.{End}
use Rattle.st_board.specs.declared.target.Target.{Target}
use Rattle.st_board.specs.Posts.{group_in, proposals_in}
use Rattle.st_board.specs.ShownInside.{IsShown}
use Rattle.st_board.specs.Published.{Published, published_in, IsMergeOf}
use Rattle.st_board.specs.Recent.{merges_with, AreLatestOf}
use Rattle.st_board.proofs.Fronts.{published_end}
use Rattle.st_board.proofs.Recents.{shows_end}
use Rattle.st_board.proofs.board.Board.end.Goals as goal

pub show-requires-clause-ready : goal.show-requires-clause-ready
show-requires-clause-ready g c =
    let old = c.self.inside.desk.desk.shown.value in
    let none : c.new-rows.result ≡ [] = c.new-rows.ensures ∙ c.new.ensures.items in
    let front : c.again-front.result ≡ old.front = c.again-front.ensures ∙ ap (λ (t : Target). t.front) c.published.ensures in
    let more : c.end.new.self.seen.log ≡ old.front.seen.log ++ End ∷ [] = c.end.ensures.log ∙ ap (λ (f : Front). f.seen.log ++ End ∷ []) front in
    let some : 0 < length old.front.seen.log = omega (arith, old.front.counted) in
    let same = shows_end old.front.seen.log c.end.new.self.seen.log old.table old.recent c.end.new.self.version some more c.self.invariant.shown c.end.new.self.merges in
    (subst (λ (rows : List Row). IsMergeOf (group_in c.end.new.self.seen.log) (proposals_in c.end.new.self.seen.log) (overlaid old.table rows) × AreLatestOf (group_in c.end.new.self.seen.log) (proposals_in c.end.new.self.seen.log) (merges_with old.recent rows c.end.new.self.version)) (sym none) same, c.end.ensures.book ∙ ap (λ (f : Front). f.seen.book) front)

pub invariant_of-self-2 : goal.invariant_of-self-2
invariant_of-self-2 g c =
    let old = c.self.inside.desk.desk.shown.value in
    let none : c.new-rows.result ≡ [] = c.new-rows.ensures ∙ c.new.ensures.items in
    let front : c.again-front.result ≡ old.front = c.again-front.ensures ∙ ap (λ (t : Target). t.front) c.published.ensures in
    let more : c.end.new.self.seen.log ≡ old.front.seen.log ++ End ∷ [] = c.end.ensures.log ∙ ap (λ (f : Front). f.seen.log ++ End ∷ []) front in
    let some : 0 < length old.front.seen.log = omega (arith, old.front.counted) in
    let same = shows_end old.front.seen.log c.end.new.self.seen.log old.table old.recent c.end.new.self.version some more c.self.invariant.shown c.end.new.self.merges in
    let book : c.end.new.self.seen.book ≡ old.front.seen.book = c.end.ensures.book ∙ ap (λ (f : Front). f.seen.book) front in
    record {
      idle = c.in_ok-show.ensures.idle;
      shown = subst IsShown (sym c.in_ok-show.ensures.shown) (subst (λ (rows : List Row). IsMergeOf (group_in c.end.new.self.seen.log) (proposals_in c.end.new.self.seen.log) (overlaid old.table rows) × AreLatestOf (group_in c.end.new.self.seen.log) (proposals_in c.end.new.self.seen.log) (merges_with old.recent rows c.end.new.self.version)) (sym none) same);
      bound = c.in_ok-show.ensures.bound;
      whole = λ e. c.end.ensures.whole ∙ sym (ap (λ (t : Target). t.front.seen) c.in_ok-show.ensures.shown);
    }

pub returns-clause-ok : goal.returns-clause-ok
returns-clause-ok g c =
    let old = c.self.inside.desk.desk.shown.value in
    let front : c.again-front.result ≡ old.front = c.again-front.ensures ∙ ap (λ (t : Target). t.front) c.published.ensures in
    let more : c.end.new.self.seen.log ≡ old.front.seen.log ++ End ∷ [] = c.end.ensures.log ∙ ap (λ (f : Front). f.seen.log ++ End ∷ []) front in
    let some : 0 < length old.front.seen.log = omega (arith, old.front.counted) in
    let book : c.end.new.self.seen.book ≡ old.front.seen.book = c.end.ensures.book ∙ ap (λ (f : Front). f.seen.book) front in
    ap (λ (t : Target). published_in t.front.seen.book t.front.seen.log) c.in_ok-show.ensures.shown
    ∙ (ap (λ (b : LineName). published_in b c.end.new.self.seen.log) book
    ∙ (published_end old.front.seen.book old.front.seen.log c.end.new.self.seen.log some more
    ∙ ap (λ (p : Published). record p { ended = true }) c.self.view_is))
