-- A text that is printed as lines of words.
use Rattle.std.specs.Prelude.{◌≡◌, ℕ, List, [], ◌∷◌, ◌++◌, map, flat_map, true}
use Rattle.std.specs.Char.{is_ascii_graphic}
use Rattle.std.specs.List.{AllByRecursion, join_with_byte}
use Rattle.st_text.specs.Tokens.{is_filled}

-- bytes that can stand as a token of an allowed line: some, and each of them of 33 to 126
pub record IsWord (bytes : List ℕ) : Type 0 where
  pub filled : is_filled bytes ≡ true
  pub visible : AllByRecursion (λ b. is_ascii_graphic b ≡ true) bytes

-- a line with an LF behind it
abbrev pub ended : List ℕ → List ℕ
ended line = line ++ 10 ∷ []

-- the words of a line, with a space between each two
abbrev pub line_text : List (List ℕ) → List ℕ
line_text words = join_with_byte 32 words

-- the lines of a text, each of words, with an LF behind each
abbrev pub text_of : List (List (List ℕ)) → List ℕ
text_of lines = flat_map ended (map line_text lines)

-- words, each behind a space
abbrev pub spaced : List (List ℕ) → List ℕ
spaced [] = []
spaced (word ∷ words) = 32 ∷ word ++ spaced words

-- a line: a word, more words, each behind a space, and LF
abbrev pub line : List ℕ → List (List ℕ) → List ℕ
line word words = word ++ spaced words ++ 10 ∷ []
