use Rattle.std.proofs.Common.{◌≡◌, ◌∙◌, sym, subst, vec_len, List, ℕ, true}
use Rattle.st_net.specs.Groups.{are_names}
use Rattle.st_net.proofs.SameLists.{cloned_keys}
use Rattle.st_net.proofs.name_index.NameIndex.copy.Goals as goal

pub invariant_of-result : goal.invariant_of-result
invariant_of-result c =
    subst (λ (ns : List (List ℕ)). are_names ns ≡ true) (sym (cloned_keys (λ k. k.items) _ (λ v w. vec_len w ≡ vec_len v) (λ x y e. e) c.self.inside.keys.keys c.in_ok-keys.keys.keys c.in_ok-keys.ensures.cases)) c.self.invariant

pub returns : goal.returns
returns c = cloned_keys (λ k. k.items) _ (λ v w. vec_len w ≡ vec_len v) (λ x y e. e) c.self.inside.keys.keys c.in_ok-keys.keys.keys c.in_ok-keys.ensures.cases ∙ c.self.view_is
