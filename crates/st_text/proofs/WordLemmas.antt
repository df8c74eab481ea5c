-- A text of lines of words is read as these words.
use Rattle.std.proofs.Common.{◌≡◌, ℕ, ◌<◌, ◌≤◌, List, [], ◌∷◌, ◌++◌, length, Bool, true, false, map, decimal, nat_le, ◌&&◌, ap, refl, arith}
use Rattle.std.specs.Char.{is_ascii_digit, is_ascii_graphic}
use Rattle.std.specs.List.{AllByRecursion}
use Rattle.std.specs.Str.{all_ascii_digits}
use Rattle.std.proofs.lemmas.Bool.{le-leb, ne_eqb}
use Rattle.std.proofs.lemmas.Bool.Decides.{nat_tests}
use Rattle.std.proofs.lemmas.Fmt.{digits_decimal, decimal_nonempty}
use Rattle.st_text.specs.AllowedBytes.{has_allowed_bytes}
use Rattle.st_text.specs.Lines.{is_line_feed, without_cr}
use Rattle.st_text.specs.Tokens.{is_blank, is_filled}
use Rattle.st_text.specs.Words.{IsWord, line_text}
use Rattle.st_text.specs.ReadingBack.{IsToken, IsLine, CutsWordLinesAgain, CutsWordsAgain, AllowsWords, PrintsNumbersAsWords}
use Rattle.st_text.proofs.NumberLemmas.{numerals}
use Rattle.st_text.proofs.ReadingBackLemmas.{tokens_cut_again, lines_cut_again}

-- a byte of a line of words: a visible one or a space
abbrev is_printed : ℕ → Bool
is_printed b = nat_le 32 b && nat_le b 126

-- each byte is one of a line of words
abbrev ArePrinted : List ℕ → Type 0
ArePrinted bytes = AllByRecursion (λ b. is_printed b ≡ true) bytes

-- each byte is one of a word
abbrev AreVisible : List ℕ → Type 0
AreVisible bytes = AllByRecursion (λ b. is_ascii_graphic b ≡ true) bytes

printed_range : (b : ℕ) → is_printed b ≡ true → (32 ≤ b) × (b ≤ 126)
printed_range b e = grind (arith, nat_tests)

visible_range : (b : ℕ) → is_ascii_graphic b ≡ true → (33 ≤ b) × (b ≤ 126)
visible_range b e = grind (arith, nat_tests)

digit_visible : (b : ℕ) → is_ascii_digit b ≡ true → is_ascii_graphic b ≡ true
digit_visible b e = grind (arith, nat_tests)

printed_from : (b : ℕ) → 32 ≤ b → b ≤ 126 → is_printed b ≡ true
printed_from b low high = rw (le-leb 32 b low, le-leb b 126 high) refl

unblank : (b : ℕ) → is_ascii_graphic b ≡ true → is_blank b ≡ false
unblank b e =
    let range : (33 ≤ b) × (b ≤ 126) = visible_range b e in
    rw (ne_eqb b 32 (λ same. absurd (omega (arith, range.0))), ne_eqb b 9 (λ same. absurd (omega (arith, range.0)))) refl

bytes_unblank : (bs : List ℕ) → AreVisible bs → AllByRecursion (λ b. is_blank b ≡ false) bs
bytes_unblank [] all = tt
bytes_unblank (b ∷ bs) all = (unblank b all.0, bytes_unblank bs all.1)

-- a word is a token
pub word_token : (bytes : List ℕ) → IsWord bytes → IsToken bytes
word_token bytes word = record { filled = word.filled; unbroken = bytes_unblank bytes word.visible }

word_tokens : (words : List (List ℕ)) → AllByRecursion IsWord words → AllByRecursion IsToken words
word_tokens [] all = tt
word_tokens (w ∷ ws) all = (word_token w all.0, word_tokens ws all.1)

word_printed : (bs : List ℕ) → AreVisible bs → ArePrinted bs
word_printed [] all = tt
word_printed (b ∷ bs) all =
    let range : (33 ≤ b) × (b ≤ 126) = visible_range b all.0 in
    (printed_from b (omega (arith, range.0)) range.1, word_printed bs all.1)

both : (xs ys : List ℕ) → ArePrinted xs → ArePrinted ys → ArePrinted (xs ++ ys)
both [] ys a b = b
both (x ∷ xs) ys a b = (a.0, both xs ys a.1 b)

line_printed : (words : List (List ℕ)) → AllByRecursion IsWord words → ArePrinted (line_text words)
line_printed [] all = tt
line_printed (w ∷ []) all = word_printed w all.0.visible
line_printed (w ∷ v ∷ ws) all = both w (32 ∷ line_text (v ∷ ws)) (word_printed w all.0.visible) (refl, line_printed (v ∷ ws) all.1)

printed_allowed : (bs : List ℕ) → ArePrinted bs → has_allowed_bytes bs ≡ true
printed_allowed [] all = refl
printed_allowed (b ∷ bs) all = rw (all.0, printed_allowed bs all.1) refl

printed_unbroken : (bs : List ℕ) → ArePrinted bs → AllByRecursion (λ b. is_line_feed b ≡ false) bs
printed_unbroken [] all = tt
printed_unbroken (b ∷ bs) all =
    let range : (32 ≤ b) × (b ≤ 126) = printed_range b all.0 in
    (ne_eqb b 10 (λ same. absurd (omega (arith, range.0))), printed_unbroken bs all.1)

printed_plain : (bs : List ℕ) → ArePrinted bs → without_cr bs ≡ bs
printed_plain [] all = refl
printed_plain (b ∷ []) all =
    let range : (32 ≤ b) × (b ≤ 126) = printed_range b all.0 in
    rw (ne_eqb b 13 (λ same. absurd (omega (arith, range.0)))) refl
printed_plain (b ∷ c ∷ bs) all = ap (λ (rest : List ℕ). b ∷ rest) (printed_plain (c ∷ bs) all.1)

word_lines : (lines : List (List (List ℕ))) → AllByRecursion (AllByRecursion IsWord) lines
    → AllByRecursion IsLine (map line_text lines)
word_lines [] all = tt
word_lines (ws ∷ lines) all =
    let printed : ArePrinted (line_text ws) = line_printed ws all.0 in
    let line : IsLine (line_text ws) =
    record { unbroken = printed_unbroken (line_text ws) printed; plain = printed_plain (line_text ws) printed } in
    (line, word_lines lines all.1)

pub word_lines_cut_again : CutsWordLinesAgain
word_lines_cut_again lines all = lines_cut_again (map line_text lines) (word_lines lines all)

pub words_cut_again : CutsWordsAgain
words_cut_again words all = tokens_cut_again words (word_tokens words all)

pub words_allowed : AllowsWords
words_allowed words all = printed_allowed (line_text words) (line_printed words all)

digits_visible : (bs : List ℕ) → all_ascii_digits bs ≡ true → AreVisible bs
digits_visible [] e = tt
digits_visible (b ∷ bs) e =
    let first : is_ascii_digit b ≡ true = grind arith in
    let rest : all_ascii_digits bs ≡ true = grind arith in
    (digit_visible b first, digits_visible bs rest)

filled : (bs : List ℕ) → 0 < length bs → is_filled bs ≡ true
filled [] some = absurd (omega arith)
filled (b ∷ bs) some = refl

pub number_word : PrintsNumbersAsWords
number_word n small = record {
  filled = filled (decimal n) (decimal_nonempty n small);
  visible = digits_visible (decimal n) (digits_decimal numerals n small);
}
