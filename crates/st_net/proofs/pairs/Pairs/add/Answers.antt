use Rattle.std.proofs.Common.{◌≡◌, List, false, subst, sym}
use Rattle.st_net.specs.declared.pairs.Pair.{Pair}
use Rattle.st_net.specs.Pairs.{has_pair}
use Rattle.st_net.proofs.PairSteps.{pair_added}
use Rattle.st_net.proofs.pairs.Pairs.add.Goals as goal

pub returns-clause-ok : goal.returns-clause-ok
returns-clause-ok c = rw (← c.self.view_is) (pair_added c.self.inside.keys.keys c.insert.new.self.keys c.args.pair c.in_ok-insert.ensures.keys
    (subst (λ (pairs : List Pair). has_pair c.args.pair.a c.args.pair.b pairs ≡ false) (sym c.self.view_is) c.requires))
