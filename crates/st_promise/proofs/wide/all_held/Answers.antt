use Rattle.std.proofs.Common.{◌≡◌, ◌<◌, ◌-◌, ◌+◌, length, ap, ◌∙◌, arith}
use Rattle.std.specs.List.{range_with_len}
use Rattle.st_net.specs.Asks.{ask_count}
use Rattle.rayon.specs.Numbers.{nat_range}
use Rattle.rayon.proofs.ToStd.{nat_range-All}
use Rattle.st_promise.specs.Wide.{held_at}
use Rattle.st_promise.proofs.WideLaws.{of_all, each_held}
use Rattle.st_promise.proofs.wide.all_held.Goals as goal

pub collect-requires-clause-ready : goal.collect-requires-clause-ready
collect-requires-clause-ready g c = λ κs lives.
    let ends = c.into_par_iter.ensures in
    let n = ask_count c.args.topo.now in
    let inside = nat_range-All (λ i. i < n + n) 0 (c.ask_count-count.result + c.ask_count-count.result) (λ i low high. omega (arith, c.ask_count-count.ensures, high)) in
    rw (c.with_min_len.ensures.base, c.map.ensures.base, c.map.ensures.f, ends.0, ends.1) (λ k d lt. ((c.requires.needs, c.requires.before, c.requires.after, inside k d lt), λ y p. tt))

pub returns : goal.returns
returns g c = λ up down before after.
    let topo = c.args.topo.now in
    let ends = c.into_par_iter.ensures in
    let n = ask_count topo in
    let made = c.in_ok-collect.ensures in
    let f = ap (λ b. b.f) c.with_min_len.ensures.base ∙ c.map.ensures.f in
    let range = ap (λ b. b.base) c.with_min_len.ensures.base ∙ c.map.ensures.base in
    let whole : (c.ask_count-count.result + c.ask_count-count.result) - 0 ≡ n + n = omega (arith, c.ask_count-count.ensures) in
    let places = made.1.1 ∙ ap (λ it. nat_range it.start it.end) range ∙ (λ i. nat_range (ends.0 i) (ends.1 i)) ∙ ap (range_with_len 0) whole in
    let each = each_held topo _ _ _ c.args.before.now c.args.after.now up down made.1.0 made.0 (ap (λ x. x.1.now) f) (ap (λ x. x.3.now) f) (ap (λ x. x.4.now) f) before after made.1.2 in
    rw (← places) (of_all _ (held_at topo up down) made.1.0 made.0 c.in_ok-collect.field-0 each made.2)
