-- The lines of a text, and where they stand.
use Rattle.std.specs.Prelude.{ℕ, ◌≡◌, ◌+◌, ◌≤◌, List, [], ◌∷◌, ◌==◌, if◌then◌else◌, length, map, slice_range, Bool, All}
use Rattle.std.specs.List.{onto_first}
use Rattle.st_text.specs.declared.line_places.Line.{Line}

-- LF
abbrev pub is_line_feed : ℕ → Bool
is_line_feed b = b == 10

-- the bytes cut after each LF, without it. A rest that is not empty is a line too
abbrev pub raw_lines : List ℕ → List (List ℕ)
raw_lines [] = []
raw_lines (b ∷ bs) = if is_line_feed b then [] ∷ raw_lines bs else onto_first b (raw_lines bs)

-- one CR at the end is dropped
abbrev pub without_cr : List ℕ → List ℕ
without_cr [] = []
without_cr (b ∷ []) = if b == 13 then [] else b ∷ []
without_cr (b ∷ c ∷ bs) = b ∷ without_cr (c ∷ bs)

-- the lines of a text
abbrev pub lines_of : List ℕ → List (List ℕ)
lines_of bytes = map without_cr (raw_lines bytes)

-- where these lines stand, the first of which begins at a place: each next one begins behind the LF
abbrev pub places_from : ℕ → List (List ℕ) → List Line
places_from at [] = []
places_from at (line ∷ lines) = record { start = at; end = at + length (without_cr line) }
    ∷ places_from (at + length line + 1) lines

-- the bytes of a line
abbrev pub line_in : List ℕ → Line → List ℕ
line_in bytes line = slice_range bytes line.start line.end

-- the line stands within the text
abbrev pub IsLineWithin : List ℕ → Line → Type 0
IsLineWithin bytes line = (line.start ≤ line.end) × (line.end ≤ length bytes)

-- the line that the bytes from start to a cut make
pub record CutsLine (bytes : List ℕ) (start cut : ℕ) (line : Line) : Type 0 where
  pub start_is : line.start ≡ start
  pub text : line_in bytes line ≡ without_cr (slice_range bytes start cut)
  pub end_is : line.end ≡ start + length (without_cr (slice_range bytes start cut))
  pub within : line.end ≤ length bytes

-- these are the lines of the text, in order, by their places and by their bytes
pub record AreLinesOf (bytes : List ℕ) (lines : List Line) : Type 0 where
  pub places : lines ≡ places_from 0 (raw_lines bytes)
  pub texts : map (line_in bytes) lines ≡ lines_of bytes
  pub within : All (IsLineWithin bytes) lines
  pub few : length lines ≤ length bytes
