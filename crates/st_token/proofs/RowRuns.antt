-- The rows of a line, of which a loop has read some, and then one more.
use Rattle.std.proofs.Common.{◌≡◌, ℕ, ◌+◌, ◌<◌, List, [], ◌∷◌, ◌++◌, length, get_or, drop, map, ap, sym, ◌∙◌, arith}
use Rattle.std.specs.Prelude.{Option, Result, Ok, All}
use Rattle.std.proofs.lemmas.Grind.{common_steps}
use Rattle.std.proofs.lemmas.List.{drop_more}
use Rattle.st_net.specs.declared.entity.Entity.{Entity}
use Rattle.st_net.specs.declared.entity.Row.{Row}
use Rattle.st_token.specs.declared.fault.FaultKind.{FaultKind}
use Rattle.st_token.specs.Steps.{◌>>=◌}
use Rattle.st_token.specs.Variables.{new_assignment_in, rows_in}

module _ {T : Type 0} (find : List ℕ → Option Entity) (word : T → List ℕ) (tokens : List T) (i : ℕ) (none : T) (set : List Row) (all : Result (List Row) FaultKind) (less : i < length tokens) (so_far : rows_in find set (map word (drop i tokens)) ≡ all) where
  -- the first token that is left, and the others
  one_left : (new_assignment_in find set (word (get_or tokens i none)) >>= (λ row. rows_in find (set ++ row ∷ []) (map word (drop (i + 1) tokens)))) ≡ all
  unfolding rows_in
  one_left = sym (ap (λ (rest : List T). rows_in find set (map word rest)) (drop_more tokens i none less)) ∙ so_far

  -- the first is a row: what comes of the others behind it
  pub rows_next : (row : Row) (next : List Row) → new_assignment_in find set (word (get_or tokens i none)) ≡ Ok row → next ≡ set ++ row ∷ [] → rows_in find next (map word (drop (i + 1) tokens)) ≡ all
  rows_next row next is added = rw added (sym (ap (λ (read : Result Row FaultKind). read >>= (λ row. rows_in find (set ++ row ∷ []) (map word (drop (i + 1) tokens)))) is) ∙ one_left)

-- what is true of each row, and of one more
pub within_next : (P : Row → Type 0) (set next : List Row) (row : Row) → next ≡ set ++ row ∷ [] → All P set → P row → All P next
within_next P set next row added all one = rw added (grind (arith, common_steps, all, one))
