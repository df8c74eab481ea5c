-- What is printed is read back.
use Rattle.std.specs.Prelude.{◌≡◌, ◌<◌, ◌^◌, ℕ, List, Some, decimal, flat_map, map, false, true}
use Rattle.std.specs.List.{AllByRecursion, join_with_byte}
use Rattle.st_text.specs.AllowedBytes.{has_allowed_bytes}
use Rattle.st_text.specs.Lines.{lines_of, is_line_feed, without_cr}
use Rattle.st_text.specs.Numbers.{number_of}
use Rattle.st_text.specs.Tokens.{tokens_of, is_blank, is_filled}
use Rattle.st_text.specs.Words.{IsWord, ended, line_text, text_of}

-- bytes that can stand as one token: some, and none of them a blank
pub record IsToken (bytes : List ℕ) : Type 0 where
  pub filled : is_filled bytes ≡ true
  pub unbroken : AllByRecursion (λ b. is_blank b ≡ false) bytes

-- bytes that can stand as one line: no LF, and no CR at the end
pub record IsLine (bytes : List ℕ) : Type 0 where
  pub unbroken : AllByRecursion (λ b. is_line_feed b ≡ false) bytes
  pub plain : without_cr bytes ≡ bytes

-- lines with an LF behind each are cut again as they were
abbrev pub CutsLinesAgain : Type 0
CutsLinesAgain = (lines : List (List ℕ)) → AllByRecursion IsLine lines
    → lines_of (flat_map ended lines) ≡ lines

-- tokens with a space between each two are cut again as they were
abbrev pub CutsTokensAgain : Type 0
CutsTokensAgain = (tokens : List (List ℕ)) → AllByRecursion IsToken tokens
    → tokens_of (join_with_byte 32 tokens) ≡ tokens

-- a number that is printed is read back
abbrev pub ReadsNumbersAgain : Type 0
ReadsNumbersAgain = (n : ℕ) → n < 2 ^ 32 → number_of (decimal n) ≡ Some n

-- only the printing of a number is read as it
abbrev pub ReadsPrintedAlone : Type 0
ReadsPrintedAlone = (token : List ℕ) (n : ℕ) → number_of token ≡ Some n → token ≡ decimal n

-- a number that is printed is a word
abbrev pub PrintsNumbersAsWords : Type 0
PrintsNumbersAsWords = (n : ℕ) → n < 2 ^ 64 → IsWord (decimal n)

-- the text of lines of words is cut into these lines
abbrev pub CutsWordLinesAgain : Type 0
CutsWordLinesAgain = (lines : List (List (List ℕ))) → AllByRecursion (AllByRecursion IsWord) lines
    → lines_of (text_of lines) ≡ map line_text lines

-- a line of words is cut into these words
abbrev pub CutsWordsAgain : Type 0
CutsWordsAgain = (words : List (List ℕ)) → AllByRecursion IsWord words
    → tokens_of (line_text words) ≡ words

-- a line of words holds no byte that a line may not
abbrev pub AllowsWords : Type 0
AllowsWords = (words : List (List ℕ)) → AllByRecursion IsWord words
    → has_allowed_bytes (line_text words) ≡ true
