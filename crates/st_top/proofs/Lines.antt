-- A line of counts, word by word.
use Rattle.std.proofs.Common.{◌≡◌, ℕ, List, [], ◌∷◌, ◌++◌, append_assoc, ap, ◌∙◌, sym}
use Rattle.std.specs.Prelude.{decimal}
use Rattle.std.proofs.lemmas.List.{append-nil}
use Rattle.st_text.specs.Words.{spaced, line}

-- one more word with its number behind a text, before the words that are left
one_count : (h a i : List ℕ) (more : List (List ℕ)) → (h ++ (32 ∷ a ++ 32 ∷ i)) ++ spaced more ≡ h ++ spaced (a ∷ i ∷ more)
one_count h a i more = append_assoc h (32 ∷ a ++ 32 ∷ i) (spaced more) ∙ ap (λ t. h ++ t) (append_assoc (32 ∷ a) (32 ∷ i) (spaced more))

-- six words, each with its number, that were added one after another
six_counts : (h a b c d e f i j k l m n : List ℕ) → ((((((h ++ (32 ∷ a ++ 32 ∷ i)) ++ (32 ∷ b ++ 32 ∷ j)) ++ (32 ∷ c ++ 32 ∷ k)) ++ (32 ∷ d ++ 32 ∷ l)) ++ (32 ∷ e ++ 32 ∷ m)) ++ (32 ∷ f ++ 32 ∷ n)) ++ 10 ∷ [] ≡ line h (a ∷ i ∷ b ∷ j ∷ c ∷ k ∷ d ∷ l ∷ e ∷ m ∷ f ∷ n ∷ [])
six_counts h a b c d e f i j k l m n =
    let one = h ++ (32 ∷ a ++ 32 ∷ i) in
    let two = one ++ (32 ∷ b ++ 32 ∷ j) in
    let three = two ++ (32 ∷ c ++ 32 ∷ k) in
    let four = three ++ (32 ∷ d ++ 32 ∷ l) in
    let five = four ++ (32 ∷ e ++ 32 ∷ m) in
    let six = five ++ (32 ∷ f ++ 32 ∷ n) in
    ap (λ t. t ++ 10 ∷ []) (sym (append-nil six) ∙ one_count five f n [] ∙ one_count four e m (f ∷ n ∷ []) ∙ one_count three d l (e ∷ m ∷ f ∷ n ∷ []) ∙ one_count two c k (d ∷ l ∷ e ∷ m ∷ f ∷ n ∷ []) ∙ one_count one b j (c ∷ k ∷ d ∷ l ∷ e ∷ m ∷ f ∷ n ∷ []) ∙ one_count h a i (b ∷ j ∷ c ∷ k ∷ d ∷ l ∷ e ∷ m ∷ f ∷ n ∷ []))

-- the same, of numbers that are known by other names
pub counted_line : (h a b c d e f : List ℕ) (i j k l m n p q r s t u : ℕ) (start w0 w1 w2 w3 w4 w5 end : List ℕ) → i ≡ p → j ≡ q → k ≡ r → l ≡ s → m ≡ t → n ≡ u → start ≡ h → w0 ≡ start ++ (32 ∷ a ++ 32 ∷ decimal i) → w1 ≡ w0 ++ (32 ∷ b ++ 32 ∷ decimal j) → w2 ≡ w1 ++ (32 ∷ c ++ 32 ∷ decimal k) → w3 ≡ w2 ++ (32 ∷ d ++ 32 ∷ decimal l) → w4 ≡ w3 ++ (32 ∷ e ++ 32 ∷ decimal m) → w5 ≡ w4 ++ (32 ∷ f ++ 32 ∷ decimal n) → end ≡ w5 ++ 10 ∷ [] → end ≡ line h (a ∷ decimal p ∷ b ∷ decimal q ∷ c ∷ decimal r ∷ d ∷ decimal s ∷ e ∷ decimal t ∷ f ∷ decimal u ∷ [])
counted_line h a b c d e f i j k l m n p q r s t u start w0 w1 w2 w3 w4 w5 end ni nj nk nl nm nn begun ea eb ec ed ee ef done =
    rw (done, ef, ee, ed, ec, eb, ea, begun, ni, nj, nk, nl, nm, nn) (six_counts h a b c d e f (decimal p) (decimal q) (decimal r) (decimal s) (decimal t) (decimal u))
