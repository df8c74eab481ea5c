-- Items of a list that are numbered from 1.
use Rattle.std.specs.Prelude.{ℕ, ◌==◌, pred, List, Option, None, slice_get, if◌then◌else◌}

-- item n of a list, counted from 1
abbrev pub nth : {X : Type 0} → List X → ℕ → Option X
nth xs n = if n == 0 then None else slice_get xs (pred n)
