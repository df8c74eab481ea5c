use Rattle.std.proofs.Common.{ap, ◌∙◌}
use Rattle.st_promise.specs.Change.{IsChange}
use Rattle.st_promise.proofs.ToFirstLaws.{all_met, all_as_many, each_change}
use Rattle.st_promise.proofs.to_first.changes_of.Goals as goal

pub returns-clause-count : goal.returns-clause-count
returns-clause-count g c =
    let made = c.in_ok-collect.ensures in
    let base = ap (λ b. b.base) c.with_min_len.ensures.base ∙ c.map.ensures.base in
    let listed = made.1.1.2 ∙ made.1.1.1 ∙ ap (λ it. it.slice.now) (ap (λ b. b.base) base ∙ c.copied.ensures) ∙ c.par_iter.ensures in
    rw (← listed) (all_as_many _ _ made.1.0 made.0 c.in_ok-collect.field-0 made.1.2 made.2)

pub returns-clause-each : goal.returns-clause-each
returns-clause-each g c = λ up down these.
    let topo = c.args.topo.now in
    let made = c.in_ok-collect.ensures in
    let f = ap (λ b. b.f) c.with_min_len.ensures.base ∙ c.map.ensures.f in
    let base = ap (λ b. b.base) c.with_min_len.ensures.base ∙ c.map.ensures.base in
    let listed = made.1.1.2 ∙ made.1.1.1 ∙ ap (λ it. it.slice.now) (ap (λ b. b.base) base ∙ c.copied.ensures) ∙ c.par_iter.ensures in
    let each = each_change topo _ _ _ c.args.networks.now.before c.args.networks.now.after up down made.1.0 made.0 (ap (λ x. x.1.now) f) (ap (λ x. x.2.now) f) (ap (λ x. x.3.now) f) these.before these.after made.1.2 in
    rw (← listed) (all_met _ (IsChange topo up down) made.1.0 made.0 c.in_ok-collect.field-0 each made.2)
