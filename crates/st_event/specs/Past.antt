-- The journal's beginnings, and whether an agent's values are still those of a command.
use Rattle.std.specs.Prelude.{ℕ, ◌&&◌, ◌||◌, not, nat_le, Bool, false, List, [], ◌∷◌, length, if◌then◌else◌}
use Rattle.st_net.specs.declared.entity.Entity.{Entity}
use Rattle.st_net.specs.declared.entity.Vals.{Vals}
use Rattle.st_event.specs.declared.journal.Entry.{Entry}
use Rattle.st_net.specs.Groups.{Group}
use Rattle.st_event.specs.Proposals.{target}
use Rattle.st_net.specs.Merge.{vals_in}
use Rattle.st_event.specs.Moments.{busy, is_fail_of, is_finish_of}

-- the first s entries of a journal
abbrev pub first_entries : ℕ → List Entry → List Entry
first_entries s [] = []
first_entries s (entry ∷ past) = if nat_le s (length past) then first_entries s past else entry ∷ past

-- the values that an entity had in the target after the first s entries
abbrev pub target_at : Group → List Entry → ℕ → Entity → Vals
target_at g past s e = vals_in g (target g (first_entries s past)) e

-- whether a failure of the entity stands after its last finish of a command
abbrev pub is_spoiled : Group → List Entry → Entity → Bool
is_spoiled g [] = λ e. false
is_spoiled g (entry ∷ past) = λ e. is_fail_of e entry.event || (is_spoiled g past e && not (is_finish_of e entry.event && busy g past e))
