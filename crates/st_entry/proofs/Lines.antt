-- The words of a line, and the line of an entry, as its pieces are added.
use Rattle.std.proofs.Common.{◌≡◌, ◌∙◌, ℕ, List, [], ◌∷◌, ◌++◌, drop, refl, sym, ap, append_assoc}
use Rattle.std.proofs.lemmas.List.{append-nil}
use Rattle.st_text.specs.Words.{spaced, line_text, text_of}
use Rattle.st_text.proofs.PrintLemmas.{IsByElement, by_append, line_bytes}

spaced_by : IsByElement spaced (λ word. 32 ∷ word)
spaced_by = record { none = refl; more = λ word words. refl }

-- words behind words
pub spaced_both : (first second : List (List ℕ)) → spaced (first ++ second) ≡ spaced first ++ spaced second
spaced_both first second = by_append spaced _ spaced_by first second

-- words with a space between them: each behind a space, without the first
pub unspaced : (words : List (List ℕ)) → drop 1 (spaced words) ≡ line_text words
unspaced [] = refl
unspaced (w ∷ []) = append-nil w
unspaced (w ∷ v ∷ words) = ap (λ t. w ++ 32 ∷ t) (unspaced (v ∷ words))

in_line : (old w event mark reply end : List ℕ) → ((((old ++ w) ++ event) ++ 32 ∷ mark) ++ reply) ++ end ≡ old ++ ((w ++ (event ++ 32 ∷ (mark ++ reply))) ++ end)
in_line old w event mark reply end = simp append_assoc

-- a first word, words, a mark, words and LF are the line of all these
pub line_added : (old one two three four new w mark : List ℕ) (event reply : List (List ℕ)) → one ≡ old ++ w → two ≡ one ++ spaced event → three ≡ two ++ 32 ∷ mark → four ≡ three ++ spaced reply → new ≡ four ++ 10 ∷ []
    → new ≡ old ++ text_of ((w ∷ (event ++ mark ∷ reply)) ∷ [])
line_added old one two three four new w mark event reply a b c d e =
    e ∙ (ap (λ t. t ++ 10 ∷ []) (d ∙ ap (λ t. t ++ spaced reply) (c ∙ ap (λ t. t ++ 32 ∷ mark) (b ∙ ap (λ t. t ++ spaced event) a)))
    ∙ (in_line old w (spaced event) mark (spaced reply) (10 ∷ [])
    ∙ ap (λ t. old ++ t) (ap (λ t. (w ++ t) ++ 10 ∷ []) (sym (spaced_both event (mark ∷ reply))) ∙ sym (line_bytes w (event ++ mark ∷ reply)))))
