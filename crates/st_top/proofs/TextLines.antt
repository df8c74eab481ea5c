-- Lines of words that are printed one behind another.
use Rattle.std.proofs.Common.{◌≡◌, ℕ, ◌+◌, ◌<◌, List, [], ◌∷◌, ◌++◌, length, map, get_or, take, refl, sym, ◌∙◌, ap, append_assoc}
use Rattle.std.specs.Prelude.{flat_map}
use Rattle.std.proofs.lemmas.Grind.{flat_map-append}
use Rattle.std.proofs.lemmas.List.{map-append}
use Rattle.st_text.specs.Words.{ended, line, line_text, spaced, text_of}
use Rattle.st_text.proofs.PrintLemmas.{IsByElement, by_next, line_bytes}
use Rattle.st_entry.specs.Words.{Words}
use Rattle.st_entry.proofs.Lines.{spaced_both}

-- the text of lines behind lines
pub text_both : (xs ys : List Words) → text_of (xs ++ ys) ≡ text_of xs ++ text_of ys
text_both xs ys = ap (flat_map ended) (map-append line_text xs ys) ∙ flat_map-append ended (map line_text xs) (map line_text ys)

-- a line for each item of a list
by_line : {X : Type 0} (f : X → Words) → IsByElement (λ xs. text_of (map f xs)) (λ x. text_of (f x ∷ []))
by_line f = record { none = refl; more = λ x xs. text_both (f x ∷ []) (map f xs) }

-- the lines of one item more
pub line_next : {X : Type 0} (f : X → Words) (xs : List X) (i : ℕ) (x d : X) (old mid new : List ℕ) → i < length xs → x ≡ get_or xs i d → mid ≡ old ++ text_of (map f (take i xs)) → new ≡ mid ++ text_of (f x ∷ []) → new ≡ old ++ text_of (map f (take (i + 1) xs))
line_next f xs i x d old mid new low is before added = by_next (λ ys. text_of (map f ys)) (λ y. text_of (f y ∷ [])) (by_line f) xs i x d old mid new low is before added

-- a line that is printed in pieces: its beginning, more words, and LF
in_pieces : (old w a b end : List ℕ) → ((old ++ (w ++ a)) ++ b) ++ end ≡ old ++ (w ++ ((a ++ b) ++ end))
in_pieces old w a b end = simp append_assoc

in_line : (w a end : List ℕ) → w ++ (a ++ end) ≡ (w ++ a) ++ end
in_line w a end = sym (append_assoc w a end)

pub line_added : (old one two new w : List ℕ) (begun rest : Words) → one ≡ old ++ (w ++ spaced begun) → two ≡ one ++ spaced rest → new ≡ two ++ 10 ∷ [] → new ≡ old ++ text_of ((w ∷ (begun ++ rest)) ∷ [])
line_added old one two new w begun rest first second last =
    last ∙ ap (λ t. t ++ 10 ∷ []) (second ∙ ap (λ t. t ++ spaced rest) first)
    ∙ in_pieces old w (spaced begun) (spaced rest) (10 ∷ [])
    ∙ ap (λ t. old ++ t) (ap (λ t. w ++ (t ++ 10 ∷ [])) (sym (spaced_both begun rest)) ∙ in_line w (spaced (begun ++ rest)) (10 ∷ []) ∙ sym (line_bytes w (begun ++ rest)))

-- texts one behind another
pub two_added : (old mid new : List ℕ) (a b : List Words) → mid ≡ old ++ text_of a → new ≡ mid ++ text_of b → new ≡ old ++ text_of (a ++ b)
two_added old mid new a b first second = second ∙ ap (λ t. t ++ text_of b) first ∙ append_assoc old (text_of a) (text_of b) ∙ ap (λ t. old ++ t) (sym (text_both a b))

pub four_added : (old one two three new : List ℕ) (a b c d : List Words) → one ≡ old ++ text_of a → two ≡ one ++ text_of b → three ≡ two ++ text_of c → new ≡ three ++ text_of d → new ≡ old ++ text_of (a ++ b ++ c ++ d)
four_added old one two three new a b c d first second third last =
    two_added old three new (a ++ b ++ c) d (two_added old two three (a ++ b) c (two_added old one two a b first second) third) last

-- a line that is printed whole
pub whole_added : (old new w : List ℕ) (words : Words) → new ≡ old ++ line w words → new ≡ old ++ text_of ((w ∷ words) ∷ [])
whole_added old new w words is = is ∙ ap (λ t. old ++ t) (sym (line_bytes w words))
