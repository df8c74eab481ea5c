-- Each pass has awaited on each group, and the first full journal at which one stopped is known.
use Rattle.std.proofs.Common.{◌≡◌, ℕ, ◌<◌, List, ◌∷◌, ◌++◌, [], length, get_or, ap, sym, subst, ◌∙◌, arith, length-append}
use Rattle.std.specs.Prelude.{All}
use Rattle.std.proofs.lemmas.List.Elements.{All-push}
use Rattle.std.proofs.lemmas.Option.{IfSome_then}
use Rattle.st_event.specs.declared.act.Act.{Act}
use Rattle.st_service.specs.Acts.{CanDo}
use Rattle.st_service.specs.Passes.{Holder}
use Rattle.st_run.specs.declared.application.Left.{Left}
use Rattle.st_run.specs.Chores.{awaits_for}
use Rattle.st_run.specs.Finished.{CameThrough, MetFull, NamesLowest, StaysBehind}
use Rattle.st_run.specs.Jobs.{Did}
use Rattle.st_run.specs.Went.{Went}
use Rattle.st_service.proofs.ClosingLaws.{next_all, next_low, none_left}
use Rattle.st_run.proofs.FinishLaws.{at_seam, awaits_all, awaits_none, awaits_some, both_pushed, first_fits, lowest_on, pushed_length}
use Rattle.st_run.proofs.playing.finish_all.Goals as goal

pub finish-requires-clause-app : goal.finish-requires-clause-app
finish-requires-clause-app g c =
    let lefts = c.args.lefts.items in
    let ys = c.loop-left.yielded in
    let left = c.in-Some.left in
    let rest = c.next.new.self.rest.items in
    let inv = c.loop-left.invariant in
    let next : lefts ≡ ys ++ left ∷ rest = inv.all ∙ ap (λ (l : List (Left g.row.J.Denot g.row.L.Denot)). ys ++ l) c.in-Some.ensures.steps.0 in
    let number : c.len.result ≡ length ys = omega (arith, c.len.ensures, inv.count) in
    let own : c.awaits_for-own.result.now ≡ awaits_for c.args.apps (length ys) c.args.awaits.now = c.awaits_for-own.ensures ∙ ap (λ (k : ℕ). awaits_for c.args.apps k c.args.awaits.now) number in
    λ κs lives some. subst (λ (l : Left g.row.J.Denot g.row.L.Denot). l.pass.number < c.args.service.now.apps) (at_seam lefts ys rest left left next)
    (c.requires.apps (length ys) left (next_low lefts ys rest left next) (awaits_some c.args.apps (length ys) c.args.awaits.now (subst (λ (xs : List Act). 0 < length xs) own some)))

pub finish-requires-clause-rooms : goal.finish-requires-clause-rooms
finish-requires-clause-rooms g c =
    let lefts = c.args.lefts.items in
    let ys = c.loop-left.yielded in
    let left = c.in-Some.left in
    let rest = c.next.new.self.rest.items in
    let next : lefts ≡ ys ++ left ∷ rest = c.loop-left.invariant.all ∙ ap (λ (l : List (Left g.row.J.Denot g.row.L.Denot)). ys ++ l) c.in-Some.ensures.steps.0 in
    λ κs lives. subst (λ (l : Left g.row.J.Denot g.row.L.Denot). length l.pass.fronts ≡ length c.args.service.now.rooms.items) (at_seam lefts ys rest left left next)
    (c.requires.rooms (length ys) left (next_low lefts ys rest left next))

pub finish-requires-clause-awaits : goal.finish-requires-clause-awaits
finish-requires-clause-awaits g c =
    let rooms = length c.args.service.now.rooms.items in
    λ κs lives. subst (All (CanDo g.J.Naming.group rooms)) (sym c.awaits_for-own.ensures) (awaits_all (CanDo g.J.Naming.group rooms) c.args.apps c.len.result c.args.awaits.now c.requires.awaits)

pub loop-left-preserved : goal.loop-left-preserved
loop-left-preserved g c =
    let lefts = c.args.lefts.items in
    let awaits = c.args.awaits.now in
    let ys = c.loop-left.yielded in
    let left = c.in-Some.left in
    let rest = c.next.new.self.rest.items in
    let passes = c.loop-left.passes.items in
    let new = c.push.new.self.items in
    let pass = c.in_ok-pass.pass in
    let inv = c.loop-left.invariant in
    let items : new ≡ passes ++ pass ∷ [] = c.in_ok-push.ensures.items in
    let apps = c.args.apps in
    let number : c.len.result ≡ length ys = omega (arith, c.len.ensures, inv.count) in
    let own : c.awaits_for-own.result.now ≡ awaits_for apps (length ys) awaits = c.awaits_for-own.ensures ∙ ap (λ (k : ℕ). awaits_for apps k awaits) number in
    let here : Went g.J.Naming.group g.J.Naming.lines (awaits_for apps (length ys) awaits) left.pass pass =
    subst (λ (xs : List Act). Went g.J.Naming.group g.J.Naming.lines xs left.pass pass) own c.in_ok-pass.ensures.went in
    record {
      all = next_all lefts ys c.loop-left.left-iterator.rest.items rest left inv.all c.in-Some.ensures.steps.0;
      count = omega (arith, inv.count, pushed_length passes new pass items, length-append ys (left ∷ []));
      went = both_pushed (λ (k : ℕ) (l : Left g.row.J.Denot g.row.L.Denot) (p : Holder). Went g.J.Naming.group g.J.Naming.lines (awaits_for apps k awaits) l.pass p) ys passes new left pass items inv.count inv.went here;
      none = λ none. let both = c.first_of-full.ensures.none none in
          let done = c.in_ok-pass.ensures.none both.1 in
          both_pushed (λ (k : ℕ) (l : Left g.row.J.Denot g.row.L.Denot) (p : Holder). CameThrough g.J.Naming.group g.J.Naming.lines (awaits_for apps k awaits) l.came l.pass p)
          ys passes new left pass items inv.count (inv.none both.0) (done.0, subst (λ (xs : List Act). Did g.J.Naming.group g.J.Naming.lines xs left.pass pass) own done.1);
      one = first_fits (λ (m : ℕ) (l : Left g.row.J.Denot g.row.L.Denot) (p : Holder). MetFull m l.came p)
          ys passes new left pass c.loop-left.full c.in_ok-pass.here c.first_of-full.result items inv.count c.first_of-full.ensures.one inv.one c.in_ok-pass.ensures.one;
      lowest = All-push (λ (l : Left g.row.J.Denot g.row.L.Denot). NamesLowest c.first_of-full.result l.came) ys left
          (λ k d lt. lowest_on c.loop-left.full c.first_of-full.result (get_or ys k d).came c.first_of-full.ensures.first (inv.lowest k d lt))
          (lowest_on c.in_ok-pass.here c.first_of-full.result left.came c.first_of-full.ensures.second c.in_ok-pass.ensures.lowest);
      still = both_pushed (λ (k : ℕ) (l : Left g.row.J.Denot g.row.L.Denot) (p : Holder). StaysBehind apps k l.came l.pass p) ys passes new left pass items inv.count inv.still
          (c.in_ok-pass.ensures.still.0, λ le. c.in_ok-pass.ensures.still.1 (ap length (own ∙ awaits_none apps (length ys) awaits le)));
    }

pub returns-clause-count : goal.returns-clause-count
returns-clause-count g c =
    let none : length c.loop-left.left-iterator.rest.items ≡ 0 = omega (arith, c.in-None.ensures.steps.0) in
    let done = none_left c.args.lefts.items c.loop-left.yielded c.loop-left.left-iterator.rest.items c.loop-left.invariant.all none in
    omega (arith, c.loop-left.invariant.count, ap length done)

pub returns-clause-went : goal.returns-clause-went
returns-clause-went g c =
    let none : length c.loop-left.left-iterator.rest.items ≡ 0 = omega (arith, c.in-None.ensures.steps.0) in
    let done = none_left c.args.lefts.items c.loop-left.yielded c.loop-left.left-iterator.rest.items c.loop-left.invariant.all none in
    λ n d p lt. subst (λ (ls : List (Left g.row.J.Denot g.row.L.Denot)). Went g.J.Naming.group g.J.Naming.lines (awaits_for c.args.apps n c.args.awaits.now) (get_or ls n d).pass (get_or c.loop-left.passes.items n p)) done
    (c.loop-left.invariant.went n d p (omega (arith, lt, ap length done)))

pub returns-clause-still : goal.returns-clause-still
returns-clause-still g c =
    let none : length c.loop-left.left-iterator.rest.items ≡ 0 = omega (arith, c.in-None.ensures.steps.0) in
    let done = none_left c.args.lefts.items c.loop-left.yielded c.loop-left.left-iterator.rest.items c.loop-left.invariant.all none in
    λ n d p lt. subst (λ (ls : List (Left g.row.J.Denot g.row.L.Denot)). StaysBehind c.args.apps n (get_or ls n d).came (get_or ls n d).pass (get_or c.loop-left.passes.items n p)) done
    (c.loop-left.invariant.still n d p (omega (arith, lt, ap length done)))

pub returns-clause-none : goal.returns-clause-none
returns-clause-none g c =
    let none : length c.loop-left.left-iterator.rest.items ≡ 0 = omega (arith, c.in-None.ensures.steps.0) in
    let done = none_left c.args.lefts.items c.loop-left.yielded c.loop-left.left-iterator.rest.items c.loop-left.invariant.all none in
    λ through n d p lt. subst (λ (ls : List (Left g.row.J.Denot g.row.L.Denot)). CameThrough g.J.Naming.group g.J.Naming.lines (awaits_for c.args.apps n c.args.awaits.now) (get_or ls n d).came (get_or ls n d).pass (get_or c.loop-left.passes.items n p)) done
    (c.loop-left.invariant.none through n d p (omega (arith, lt, ap length done)))

pub returns-clause-lowest : goal.returns-clause-lowest
returns-clause-lowest g c =
    let none : length c.loop-left.left-iterator.rest.items ≡ 0 = omega (arith, c.in-None.ensures.steps.0) in
    let done = none_left c.args.lefts.items c.loop-left.yielded c.loop-left.left-iterator.rest.items c.loop-left.invariant.all none in
    subst (λ (ls : List (Left g.row.J.Denot g.row.L.Denot)). All (λ l. NamesLowest c.loop-left.full l.came) ls) done c.loop-left.invariant.lowest

pub returns-clause-one : goal.returns-clause-one
returns-clause-one g c =
    let none : length c.loop-left.left-iterator.rest.items ≡ 0 = omega (arith, c.in-None.ensures.steps.0) in
    let done = none_left c.args.lefts.items c.loop-left.yielded c.loop-left.left-iterator.rest.items c.loop-left.invariant.all none in
    IfSome_then c.loop-left.full c.loop-left.invariant.one (λ m s. (
      s.0,
      omega (arith, s.1, ap length done),
      λ d p. subst
          (λ (ls : List (Left g.row.J.Denot g.row.L.Denot)). MetFull m (get_or ls s.0 d).came (get_or c.loop-left.passes.items s.0 p)) done (s.2 d p),
    ))
