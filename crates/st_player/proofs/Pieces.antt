-- Texts that are written piece by piece.
use Rattle.std.proofs.Common.{◌≡◌, ◌∙◌, ℕ, List, ◌++◌, ap, append_assoc}

-- the first piece behind a beginning
pub first_piece : (base new word a : List ℕ) → new ≡ base ++ word → word ≡ a → new ≡ base ++ a
first_piece base new word a new_is word_is = new_is ∙ ap (λ (t : List ℕ). base ++ t) word_is

-- one more, behind what stands behind it
pub piece_behind : (base old new a word b : List ℕ) → old ≡ base ++ a → new ≡ old ++ word → word ≡ b → new ≡ base ++ (a ++ b)
piece_behind base old new a word b old_is new_is word_is =
    new_is ∙ ap (λ (t : List ℕ). old ++ t) word_is ∙ ap (λ (t : List ℕ). t ++ b) old_is ∙ append_assoc base a b
