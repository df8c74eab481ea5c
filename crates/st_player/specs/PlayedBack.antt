-- A group's data, read back: what its opening and its entries tell, as a reader of the page takes them, by their keys alone.
use Rattle.std.specs.Prelude.{ℕ, ◌==◌, ◌||◌, not, Bool, true, false, List, [], ◌∷◌, Option, Some, None, codes, if◌then◌else◌, option_and_then}
use Rattle.std.specs.Option.{option_or}
use Rattle.serde_json.specs.Data.{Data, number, unsigned, array, Items, no_items, item}
use Rattle.serde_json.specs.Find.{get, at}

abbrev pub is_number : ℕ → Option Data → Bool
is_number n (Some (number (unsigned m))) = m == n
is_number n _ = false

-- a number that stands somewhere; 0 where none does
abbrev pub number_in : Option Data → ℕ
number_in (Some (number (unsigned n))) = n
number_in _ = 0

-- the values of a list; none where no list stands
abbrev pub listed : Items → List Data
listed no_items = []
listed (item d ds) = d ∷ listed ds

abbrev pub list_in : Option Data → List Data
list_in (Some (array ds)) = listed ds
list_in _ = []

-- of a group: its entries, how many stand before them, and how many its journal has
abbrev pub entries_in : Data → List Data
entries_in group = list_in (get (codes "entries") group)

abbrev pub first_in : Data → ℕ
first_in group = number_in (get (codes "first") group)

abbrev pub total_in : Data → ℕ
total_in group = number_in (get (codes "total") group)

-- what stands at a key of its opening
abbrev pub at_opening : List ℕ → Data → Option Data
at_opening key group = option_and_then (get key) (get (codes "opening") group)

-- of changes, what the first of the entity of this number tells of a key
abbrev pub in_changes : List ℕ → ℕ → Items → Option Data
in_changes k n no_items = None
in_changes k n (item d ds) = if is_number n (get (codes "entity") d) then get k d else in_changes k n ds

abbrev pub in_set : List ℕ → ℕ → Option Data → Option Data
in_set k n (Some (array changes)) = in_changes k n changes
in_set k n _ = None

-- what an entry tells of a key of the entity of this number
abbrev pub told_by_entry : List ℕ → ℕ → Data → Option Data
told_by_entry k n entry = in_set k n (get (codes "set") entry)

-- what entries told last, and where none of them told it, what stood there before
abbrev pub last_told : List ℕ → ℕ → List Data → Option Data → Option Data
last_told k n [] before = before
last_told k n (d ∷ ds) before = last_told k n ds (option_or (told_by_entry k n d) before)

-- what stands at a key of the state at this place among these
abbrev pub at_place : List ℕ → Option Data → Option Data → Option Data
at_place k (Some states) (Some (number (unsigned place))) = option_and_then (get k) (at place states)
at_place k _ _ = None

-- what a group's opening tells of a key of the entity of this number
abbrev pub told_by_opening : List ℕ → ℕ → Data → Option Data
told_by_opening k n group = at_place k (at_opening (codes "states") group) (option_and_then (at n) (at_opening (codes "of") group))

-- what stands last at a key of these entries, and where it stands at none of them, what stood there before
abbrev pub last_at : List ℕ → List Data → Option Data → Option Data
last_at k [] before = before
last_at k (d ∷ ds) before = last_at k ds (option_or (get k d) before)

-- whether a number is among these
abbrev pub is_among : ℕ → Items → Bool
is_among i no_items = false
is_among i (item d ds) = is_number i (Some d) || is_among i ds

abbrev pub is_listed : ℕ → Option Data → Bool
is_listed i (Some (array ds)) = is_among i ds
is_listed i _ = false

-- whether the promise of this number is listed as lost, or as back
abbrev pub is_lost : ℕ → Option Data → Bool
is_lost i told = is_listed i (option_and_then (get (codes "lost")) told)

abbrev pub is_back : ℕ → Option Data → Bool
is_back i told = is_listed i (option_and_then (get (codes "back")) told)

-- whether a promise holds in the set of this key after entries, by the last of them that names it
abbrev pub holds_after : List ℕ → ℕ → List Data → Bool → Bool
holds_after key i [] before = before
holds_after key i (d ∷ ds) before = holds_after key i ds (if is_lost i (get key d) then false else (if is_back i (get key d) then true else before))

-- whether it holds at a group's opening
abbrev pub holds_at_opening : List ℕ → ℕ → Data → Bool
holds_at_opening key i group = not (is_lost i (at_opening key group))
