-- The rows that lead a target back to one of its versions, and the answer to who asks for them.
use Rattle.std.specs.Prelude.{ℕ, ◌==◌, nat_lt, List, [], ◌∷◌, length, flat_map, if◌then◌else◌}
use Rattle.st_net.specs.declared.entity.Entity.{Entity}
use Rattle.st_net.specs.declared.entity.Row.{Row}
use Rattle.st_net.specs.declared.entity.Var.{Var}
use Rattle.st_net.specs.declared.topo.TheConstants.{MAX_ROWS}
use Rattle.st_net.specs.Entities.{vars_of}
use Rattle.st_net.specs.Groups.{Group}
use Rattle.st_net.specs.InOrder.{entities_of}
use Rattle.st_event.specs.declared.journal.Entry.{Entry}
use Rattle.st_event.specs.Proposals.{target, version}
use Rattle.st_event.specs.Versions.{value_at}
use Rattle.st_overlay.specs.Values.{value_in}
use Rattle.st_control.specs.Control.{ControlView, versions_in}
use Rattle.st_revert.specs.declared.back.Revert.{Revert}
use Rattle.st_revert.specs.declared.back.Revert.TheVariants.{Rows, NoVersion, Same, TooMany}

-- the row that gives a variable another value; none where the values are one
abbrev pub row_to : Entity → Var → ℕ → ℕ → List Row
row_to e v from to = if from == to then [] else record { entity = e; var = v; value = to } ∷ []

-- the rows that lead an entity's variables from one target to another, in order
abbrev pub rows_at : (Entity → Var → ℕ) → (Entity → Var → ℕ) → Entity → List Row
rows_at from to e = flat_map (λ v. row_to e v (from e v) (to e v)) (vars_of e)

-- the rows that lead a group from one target to another: one for each variable in which they differ, in order of entities and variables
abbrev pub rows_between : Group → (Entity → Var → ℕ) → (Entity → Var → ℕ) → List Row
rows_between g from to = flat_map (rows_at from to) (entities_of g)

-- the rows that lead the target behind a journal back to the merge of its first v overlays
abbrev pub back : Group → List Entry → ℕ → List Row
back g past v = rows_between g (target g past) (value_at g past v)

-- the answer by the rows that lead back: a proposal holds some, and no more than MAX_ROWS
abbrev pub answer_of : List Row → Revert
answer_of [] = Same
answer_of (row ∷ rows) = if nat_lt MAX_ROWS (length (row ∷ rows)) then TooMany (length (row ∷ rows)) else Rows (row ∷ rows)

-- the answer for a version, behind a journal
abbrev pub revert_after : Group → List Entry → ℕ → Revert
revert_after g past v = if nat_lt (version past) v then NoVersion (version past) else answer_of (back g past v)

-- the rows and the answer by what a checker keeps
abbrev pub back_in : ControlView → ℕ → List Row
back_in k v = rows_between k.group (value_in k.store.target) (versions_in k v)

abbrev pub revert_of : ControlView → ℕ → Revert
revert_of k v = if nat_lt k.store.version v then NoVersion k.store.version else answer_of (back_in k v)
