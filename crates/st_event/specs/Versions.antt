-- A group's target at each of its versions: version 0 is the opening, and each overlay makes the next one.
use Rattle.std.specs.Prelude.{ℕ, nat_le, List, take, Option, Some, None, if◌then◌else◌}
use Rattle.st_net.specs.declared.entity.Entity.{Entity}
use Rattle.st_net.specs.declared.entity.Row.{Row}
use Rattle.st_net.specs.declared.entity.Var.{Var}
use Rattle.st_net.specs.Groups.{Group}
use Rattle.st_net.specs.Merge.{merge_of, target_with}
use Rattle.st_event.specs.declared.event.Event.{Event}
use Rattle.st_event.specs.declared.journal.Entry.{Entry}
use Rattle.st_event.specs.declared.reply.Reply.{Reply}
use Rattle.st_event.specs.Proposals.{overlays, first_rows, overlay_in}
use Rattle.st_event.specs.Standing.{Standing}

-- the values at a version, which are those of its first so many overlays; beyond the last version, of all of them
abbrev pub value_at : Group → List Entry → ℕ → Entity → Var → ℕ
value_at g past v = merge_of g (take v (overlays past))

-- the values at each version, with what the target is overlaid with as the next one, where there is an overlay
abbrev pub versions_with : Option (List Row) → Standing → (ℕ → Entity → Var → ℕ) → ℕ → Entity → Var → ℕ
versions_with None s values = values
versions_with (Some rows) s values = λ v. if nat_le v s.version then values v else target_with s.target rows

-- the values at each version after an entry, from those before it: what the entry overlays makes the next version
abbrev pub versions_after : Standing → Event → Reply → (ℕ → Entity → Var → ℕ) → ℕ → Entity → Var → ℕ
versions_after s event reply before = versions_with (overlay_in event reply (first_rows s.pending)) s before
