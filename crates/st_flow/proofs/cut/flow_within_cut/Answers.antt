use Rattle.std.proofs.Common.{arith}
use Rattle.std.proofs.lemmas.Int.{ints}
use Rattle.st_flow.proofs.Duality.{flow-le-cut}
use Rattle.st_flow.proofs.cut.flow_within_cut.Goals as goal

pub returns-clause-amount : goal.returns-clause-amount
returns-clause-amount c = λ g flow a b s edges a_in is cut. flow-le-cut g.nodes g.edges flow a b s edges a_in is cut

pub returns-clause-need : goal.returns-clause-need
returns-clause-need c = λ g flow a b need s edges a_in sends cut.
    omega (arith, ints, flow-le-cut g.nodes g.edges flow a b s edges a_in sends.flow cut, sends.enough)
