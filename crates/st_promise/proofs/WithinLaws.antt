-- Marks that are pushed one by one, and sets of entities that are within each other.
use Rattle.std.proofs.Common.{◌≡◌, ℕ, ◌<◌, List, [], ◌∷◌, ◌++◌, ◌+◌, length, arith, ap, refl, subst, inl, inr, ◌∙◌, sym}
use Rattle.std.proofs.lemmas.Bool.{cases_lt}
use Rattle.std.proofs.lemmas.List.{get_or_push, get_or_append_left}
use Rattle.std.specs.Prelude.{Bool, true, false, slice_index_or}
use Rattle.st_net.specs.declared.entity.Entity.{Entity}
use Rattle.st_net.specs.Sets.{IsWithin}

-- marks with one more: what is marked has the fact
pub marked_more : (P : ℕ → Type 0) (marks : List Bool) (i : ℕ) (b : Bool) → length marks ≡ i → ((k : ℕ) → k < i → slice_index_or marks k false ≡ true → P k) → (b ≡ true → P i) → (k : ℕ) → k < i + 1 → slice_index_or (marks ++ b ∷ []) k false ≡ true → P k
marked_more P marks i b count before here k low marked = elim (cases_lt k i) [
  | inl less ↦ before k less (sym (get_or_append_left marks (b ∷ []) false k (omega (arith, less, count))) ∙ marked)
  | inr more ↦ (let at : i ≡ k = omega arith in subst P at (here (sym (get_or_push marks b false k (count ∙ at)) ∙ marked)))
]

-- two sets of which each is within the other are the same
same_mark : (a b : Bool) → (a ≡ true → b ≡ true) → (b ≡ true → a ≡ true) → a ≡ b
same_mark true b there back = sym (there refl)
same_mark false true there back = back refl
same_mark false false there back = refl

pub same_sets : (set other : Entity → Bool) → IsWithin set other → IsWithin other set → set ≡ other
same_sets set other there back = λ i. λ e. same_mark (set e) (other e) (there e) (back e) i

pub within_itself : (set other : Entity → Bool) → set ≡ other → IsWithin set other × IsWithin other set
within_itself set other same = (λ e inside. sym (ap (λ (s : Entity → Bool). s e) same) ∙ inside, λ e inside. ap (λ (s : Entity → Bool). s e) same ∙ inside)
