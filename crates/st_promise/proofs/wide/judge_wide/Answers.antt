use Rattle.std.proofs.Common.{length, take, ap, ◌∙◌}
use Rattle.st_net.specs.Asks.{ask_count}
use Rattle.st_net.specs.Sets.{is_in}
use Rattle.st_promise.proofs.WideLaws.{two_each, front_after}
use Rattle.st_promise.proofs.wide.judge_wide.Goals as goal

pub first_lost-requires-clause-answers : goal.first_lost-requires-clause-answers
first_lost-requires-clause-answers g c =
    let before = is_in c.args.before.now in
    let after = is_in c.args.after.now in
    ap length (c.as_slice.ensures.value ∙ c.in_ok-held.ensures before after c.in_ok-before.ensures c.in_ok-after.ensures) ∙ two_each c.args.topo.now before after

pub returns-clause-holds : goal.returns-clause-holds
returns-clause-holds g c =
    let before = is_in c.args.before.now in
    let after = is_in c.args.after.now in
    c.demands_held-holds.ensures after (ap (take (ask_count c.args.topo.now)) (c.in_ok-held.ensures before after c.in_ok-before.ensures c.in_ok-after.ensures) ∙ front_after c.args.topo.now before after)
