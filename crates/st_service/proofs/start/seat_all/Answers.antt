-- Each round of the loop gives the next pass its place, by the next reader.
use Rattle.std.proofs.Common.{◌≡◌, ◌+◌, ◌<◌, ◌∷◌, List, All, length, get_or, ap, subst, ◌∙◌, arith, length-set}
use Rattle.std.proofs.lemmas.List.Elements.{All-head, All-tail}
use Rattle.st_board.specs.Published.{Published, opening_on}
use Rattle.st_service.specs.Opened.{IsFresh}
use Rattle.st_service.specs.Passes.{Holder}
use Rattle.st_service.proofs.FreshLaws.{fresh_next, seated_more, waiting_less}
use Rattle.st_service.proofs.start.seat_all.Goals as goal

pub loop-reader-preserved : goal.loop-reader-preserved
loop-reader-preserved g c =
    let left = c.next.new.self.rest.items in
    let reader = c.in-Some.reader in
    let all = c.loop-reader.passes in
    let next = c.loop-reader.next in
    let group = c.args.group in
    let inv = c.loop-reader.invariant in
    let old : Holder = get_or all next c.index-passes-next.result in
    let new : Holder = c.seat.new.self in
    let opening : Published = opening_on (g.J.Naming.board group) (g.J.Naming.group group) in
    let first = c.in-Some.ensures.steps.0 in
    let readers : All (λ (r : Published). r ≡ opening) (reader ∷ left) = subst (λ (rs : List Published). All (λ (r : Published). r ≡ opening) rs) first inv.readers in
    let is : reader ≡ opening = All-head (λ (r : Published). r ≡ opening) reader left readers in
    let none = ap (λ (r : Published). r.proposals) (c.new-place.ensures.reader ∙ is) in
    let less = ap length first in
    let inside : next < length all = omega (arith, inv.count, inv.same, less) in
    let waits : IsFresh next group old = inv.waiting next c.index-passes-next.result (omega arith) inside in
    let sits : IsFresh next (group + 1) new = fresh_next next group old new c.new-place.result.reader waits none c.in_ok-seat.ensures.ok in
    record {
      count = omega (arith, inv.count, less);
      same = length-set all next new ∙ inv.same;
      readers = All-tail (λ (r : Published). r ≡ opening) reader left readers;
      seated = seated_more group next all new inside sits inv.seated;
      waiting = waiting_less group next all new inv.waiting;
    }
