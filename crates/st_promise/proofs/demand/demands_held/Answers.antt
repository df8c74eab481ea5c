use Rattle.std.proofs.Common.{take, ap, ◌∙◌}
use Rattle.st_promise.proofs.demand.demands_held.Goals as goal

pub returns : goal.returns
returns c = λ up are. c.truncate.ensures.items ∙ ap (λ n. take n c.args.answers.items) c.promise_count.ensures ∙ are
