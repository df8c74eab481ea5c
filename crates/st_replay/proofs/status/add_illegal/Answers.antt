use Rattle.std.proofs.Common.{◌≡◌, ℕ, [], ◌∷◌, ◌++◌, subst}
use Rattle.std.specs.Prelude.{OnOk, codes, decimal}
use Rattle.st_text.specs.Words.{line}
use Rattle.st_replay.proofs.status.add_illegal.Goals as goal

pub returns : goal.returns
returns c = subst (λ (n : ℕ). OnOk c.add_fault.result (c.add_fault.new.out ≡ c.args.out.now ++ line (codes "fault") (codes "illegal" ∷ c.args.name.now ∷ decimal n ∷ []))) c.from.ensures c.add_fault.ensures
