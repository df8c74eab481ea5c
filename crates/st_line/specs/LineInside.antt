-- Of no concern to callers: the rule of a book of lines, and what the steps of a book tell. Each line is a chain: it begins with a word that is not at home, of which the
-- line's writer has the pen; each link with an entry brings home the word that comes next, and names the word that comes next then. So a writer whose word is not at home
-- knows each link of the line.
use Rattle.std.specs.Prelude.{ℕ, ◌≡◌, ◌==◌, ◌&&◌, true, List, [], ◌∷◌, ◌++◌, filter, filter_map, is_some}
use mathlib.Core.List.{IsPrefix}
use Rattle.logbook.specs.Pages.{Cell, cell, Step, View, Book, Named, may_make}
use Rattle.st_line.specs.declared.link.Link.{Link}
use Rattle.st_line.specs.Lines.{Reached}

module _ {E : Type 0} where
  -- the links of one line that have an entry, in order
  abbrev pub links_of : ℕ → List (Link E) → List (Link E)
  links_of k links = filter (λ l. is_some l.entry && (l.line == k)) links

  -- their entries
  abbrev pub entries_of : ℕ → List (Link E) → List E
  entries_of k links = filter_map (λ l. l.entry) (links_of k links)

  -- the line of the last of these links, or this line where there is no link
  abbrev pub last_line_or : ℕ → List (Link E) → ℕ
  last_line_or k [] = k
  last_line_or k (l ∷ links) = last_line_or l.line links

  abbrev pub last_line : List (Link E) → ℕ
  last_line links = last_line_or 0 links

  -- the key that the last of these links names, or this key where there is no link
  abbrev pub last_next_or : ℕ → List (Link E) → ℕ
  last_next_or k [] = k
  last_next_or k (l ∷ links) = last_next_or l.next links

  -- the word that the next link of a line brings home
  abbrev pub right_of : ℕ → List (Link E) → ℕ
  right_of k links = last_next_or k (links_of k links)

  -- what these links show of a line, where the other links end with the one that names the line
  abbrev pub reached : Book → List (Link E) → List (Link E) → Reached E
  reached b named links = record { book = record { book = b; key = last_line named }; log = entries_of (last_line named) links }

  -- the word of all steps is at home; and for each link with an entry so is the word that came next on its line
  pub record IsKept (cells : List Cell) (links : List (Link E)) : Type 0 where
    pub home : (cell cells 0).1 ≡ true
    pub used : (xs ys : List (Link E)) (l : Link E) → links ≡ xs ++ l ∷ ys → is_some l.entry ≡ true → (cell cells (right_of l.line xs)).1 ≡ true

  -- the pen is the right to make a word; the last link names a line by this word, and that line has no entry
  abbrev pub Deals : Step (Link E) → View (Link E) ℕ → ℕ → View (Link E) ℕ → Type 0
  Deals s v found w = (w.1.0.right ≡ may_make) × (last_line w.0 ≡ w.1.0.key) × (links_of w.1.0.key w.0 ≡ [])

  -- where by a beginning of the known links the pen's word comes next on the line, this beginning has all links of the line, and the new link is the next
  abbrev pub Adds : Step (Link E) → View (Link E) ℕ → ℕ → View (Link E) ℕ → Type 0
  Adds s v found w = (links : List (Link E)) → IsPrefix links v.0 → right_of s.ask.line links ≡ v.1.0.key → links_of s.ask.line w.0 ≡ links_of s.ask.line links ++ s.ask ∷ []

  -- nothing is added, and the pen stays as it is. Where by a beginning of the known links the pen's word comes next on a line, this beginning has all links
  -- of the line
  abbrev pub Looks : Step (Link E) → View (Link E) ℕ → ℕ → View (Link E) ℕ → Type 0
  Looks s v found w = (w.1.0 ≡ v.1.0) × ((k : ℕ) (links : List (Link E)) → IsPrefix links v.0 → right_of k links ≡ v.1.0.key → links_of k w.0 ≡ links_of k links)

abbrev pub head_of : Book → Named
head_of b = record { tracked = true; key = 0; book = b }
