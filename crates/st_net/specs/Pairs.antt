-- What an index of pairs holds.
use Rattle.std.specs.Prelude.{ℕ, List, Bool, ◌==◌, ◌&&◌, ◌||◌}
use Rattle.std.specs.List.{list_any}
use Rattle.st_net.specs.declared.pairs.Pair.{Pair}

-- the pair is among these, in this order
abbrev pub has_pair : ℕ → ℕ → List Pair → Bool
has_pair a b pairs = list_any (λ pair. a == pair.a && b == pair.b) pairs

-- and in either order
abbrev pub is_paired : ℕ → ℕ → List Pair → Bool
is_paired a b pairs = has_pair a b pairs || has_pair b a pairs
