use Rattle.std.proofs.Common.{sym, ◌≡◌, ◌∙◌, subst, List, ℕ, false, true, map}
use Rattle.st_net.specs.Names.{is_among, is_name}
use Rattle.st_net.proofs.NamePlaces.{added}
use Rattle.st_net.proofs.NameLemmas.{names_added}
use Rattle.st_net.proofs.name_index.NameIndex.add.Goals as goal

pub returns-clause-ok : goal.returns-clause-ok
returns-clause-ok c = rw (← c.self.view_is) (added (λ k. k.items) c.args.name.now c.self.inside.keys.keys c.insert.new.self.keys c.in_ok-key.key c.in_ok-insert.ensures.keys (c.in_ok-key.ensures.items ∙ c.bytes.ensures.bytes)
    (subst (λ (ns : List (List ℕ)). is_among c.args.name.now ns ≡ false) (sym c.self.view_is) c.requires))

pub invariant_of-self-2 : goal.invariant_of-self-2
invariant_of-self-2 c = rw (added (λ k. k.items) c.args.name.now c.self.inside.keys.keys c.insert.new.self.keys c.in_ok-key.key c.in_ok-insert.ensures.keys (c.in_ok-key.ensures.items ∙ c.bytes.ensures.bytes)
    (subst (λ (ns : List (List ℕ)). is_among c.args.name.now ns ≡ false) (sym c.self.view_is) c.requires))
    (names_added (map (λ key. key.items) c.self.inside.keys.keys) c.args.name.now c.self.invariant (subst (λ (n : List ℕ). is_name n ≡ true) c.bytes.ensures.bytes c.bytes.ensures.spelling))
