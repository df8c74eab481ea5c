use Rattle.std.proofs.Common.{◌≡◌, ℕ, List, false, subst, sym}
use Rattle.st_grammar.specs.Draft.{is_told}
use Rattle.st_draft.proofs.NumberLemmas.{number_added}
use Rattle.st_draft.proofs.numbers.Numbers.add.Goals as goal

pub returns-clause-ok : goal.returns-clause-ok
returns-clause-ok c = rw (← c.self.view_is) (number_added c.self.inside.keys.keys c.insert.new.self.keys c.args.n c.in_ok-insert.ensures.keys
    (subst (λ (ns : List ℕ). is_told c.args.n ns ≡ false) (sym c.self.view_is) c.requires))
