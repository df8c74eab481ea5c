use Rattle.st_control.proofs.CheckLemmas.{judged_barred, judged_by}
use Rattle.st_control.proofs.control.Control.weigh.Goals as goal

pub returns-in-Some-clause-judged : goal.returns-in-Some-clause-judged
returns-in-Some-clause-judged c = λ p are. judged_barred c.args.self.now p c.args.rows c.in-Some.cause are c.in-Some.is

pub returns-in_ok-broken-in-None-clause-judged : goal.returns-in_ok-broken-in-None-clause-judged
returns-in_ok-broken-in-None-clause-judged c = λ p are. judged_by c.args.self.now p c.args.rows c.in_ok-broken-in-None.field-0 are c.in-None.is c.in_ok-broken-in-None.ensures.broken
