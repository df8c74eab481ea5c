-- A target with one overlay more, where there is one.
use Rattle.std.specs.Prelude.{ℕ, List, Option, Some, None}
use Rattle.st_net.specs.declared.entity.Entity.{Entity}
use Rattle.st_net.specs.declared.entity.Row.{Row}
use Rattle.st_net.specs.declared.entity.Var.{Var}
use Rattle.st_net.specs.Merge.{target_with}

abbrev pub overlaid_by : Option (List Row) → (Entity → Var → ℕ) → Entity → Var → ℕ
overlaid_by None target = target
overlaid_by (Some rows) target = target_with target rows
