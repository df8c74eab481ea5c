-- The tokens of a line, and where they stand.
use Rattle.std.specs.Prelude.{◌≡◌, ℕ, ◌+◌, ◌<◌, ◌≤◌, List, [], ◌∷◌, ◌==◌, ◌||◌, if◌then◌else◌, length, filter, map, All, slice_range, Bool, true, false}
use Rattle.std.specs.List.{slice_split}
use Rattle.st_text.specs.declared.token_places.Token.{Token}

-- a space or a tab
abbrev pub is_blank : ℕ → Bool
is_blank b = b == 32 || b == 9

-- there is a byte
abbrev pub is_filled : List ℕ → Bool
is_filled [] = false
is_filled (b ∷ bs) = true

-- the longest runs of bytes other than space and tab: what stands between blanks, where that is not nothing
abbrev pub tokens_of : List ℕ → List (List ℕ)
tokens_of line = filter is_filled (slice_split is_blank line)

-- where the parts that are filled stand, the first of all of which begins at a place: each next one begins behind the blank
abbrev pub filled_places : ℕ → List (List ℕ) → List Token
filled_places at [] = []
filled_places at (part ∷ parts) = if is_filled part
    then record { start = at; end = at + length part } ∷ filled_places (at + length part + 1) parts
    else filled_places (at + length part + 1) parts

-- the bytes of a token
abbrev pub token_in : List ℕ → Token → List ℕ
token_in line token = slice_range line token.start token.end

-- the token stands within the line, and has a byte
pub record IsTokenOf (line : List ℕ) (token : Token) : Type 0 where
  pub filled : token.start < token.end
  pub within : token.end ≤ length line

-- these are the tokens of the line, in order, by their places and by their bytes
pub record AreTokensOf (line : List ℕ) (tokens : List Token) : Type 0 where
  pub places : tokens ≡ filled_places 0 (slice_split is_blank line)
  pub texts : map (token_in line) tokens ≡ tokens_of line
  pub within : All (IsTokenOf line) tokens
