use Rattle.std.proofs.Common.{refl, sym}
use Rattle.st_net.specs.Sets.{is_in}
use Rattle.st_promise.proofs.JudgeLaws.{none_from}
use Rattle.st_promise.proofs.book.Book.judge_rest.Goals as goal

pub returns-then-are_all_marked-clause-broken : goal.returns-then-are_all_marked-clause-broken
returns-then-are_all_marked-clause-broken c =
    let all = c.if-are_all_marked.ensures refl in
    sym (none_from c.args.topo.now (is_in c.args.before.now) (is_in c.args.after.now) 0 c.args.topo.now.promises (λ k low. c.requires.known k low (all k low)))
