-- Inside: what is left to push on each edge, into either of its ends. No public clause speaks of it.
use Rattle.std.specs.Prelude.{◌≡◌, ℕ, ◌==◌, Bool, if◌then◌else◌, List, map, ℤ, pos, ◌+ℤ◌, ◌-ℤ◌, neg_ℤ, ◌⊎◌, slice_index_or}
use Rattle.std.specs.List.{AllZip}
use Rattle.st_flow.specs.declared.direction.Direction.{Direction}
use Rattle.st_flow.specs.declared.direction.Direction.TheVariants.{Along, Against}
use Rattle.st_flow.specs.declared.edge.Edge.{Edge}
use Rattle.st_flow.specs.Network.{part_out, cut_part}

-- the end of an edge across from y
abbrev pub other : Edge → ℕ → ℕ
other e y = if e.v == y then e.u else e.v

-- how much more an edge that carries f can take into its end y
abbrev pub room : Edge → ℤ → ℕ → ℤ
room e f y = if e.v == y then pos e.capacity -ℤ f else pos e.capacity +ℤ f

-- what an edge carries after d more went into its end y
abbrev pub pushed : Edge → ℤ → ℕ → ℤ → ℤ
pushed e f y d = if e.v == y then f +ℤ d else f -ℤ d

-- d where the test holds
abbrev pub only_if : Bool → ℤ → ℤ
only_if b d = if b then d else pos 0

-- y is an end of the edge
abbrev pub IsEnd : Edge → ℕ → Type 0
IsEnd e y = (e.u ≡ y) ⊎ (e.v ≡ y)

-- the edge that is read past the end of a list
abbrev pub no_edge : Edge
no_edge = record { u = 0; v = 0; capacity = 0 }

-- the edge of this number
abbrev pub edge_at : List Edge → ℕ → Edge
edge_at es i = slice_index_or es i no_edge

-- the amount of the edge of this number
abbrev pub amount_at : List ℤ → ℕ → ℤ
amount_at fs i = slice_index_or fs i (pos 0)

-- the edge carries all that it can out of the set
abbrev pub IsFull : (ℕ → Bool) → Edge → ℤ → Type 0
IsFull s e f = part_out e f s ≡ pos (cut_part s e)

-- no edge has room out of the set
abbrev pub IsClosed : List Edge → List ℤ → (ℕ → Bool) → Type 0
IsClosed es fs s = AllZip (IsFull s) es fs

-- an amount as a search meets it: turned round where the search goes against the flow
abbrev pub turn : Direction → ℤ → ℤ
turn Along f = f
turn Against f = neg_ℤ f

-- each amount so
abbrev pub turned : Direction → List ℤ → List ℤ
turned Along fs = fs
turned Against fs = map neg_ℤ fs
