-- The entities that are not settled, by tables.
use Rattle.std.specs.Prelude.{◌≡◌, ℕ, ◌+◌, Bool, not, List, length}
use Rattle.std.specs.List.{filter}
use Rattle.st_net.specs.declared.entity.Entity.{Entity}
use Rattle.st_net.specs.declared.message.Report.{Report}
use Rattle.st_net.specs.Groups.{Group}
use Rattle.st_net.specs.InOrder.{entities_of, report_in, stamp_in}
use Rattle.st_net.specs.Merge.{vals_in}
use Rattle.st_net.specs.Reports.{is_settled_by}
use Rattle.st_overlay.specs.Values.{Values, value_in}

-- whether an entity is settled, by its kept report, its target values and its stamp
abbrev pub is_settled_in : Group → List Report → Values → List ℕ → Entity → Bool
is_settled_in g observed target stamps e = is_settled_by (report_in g observed e) (stamp_in g stamps e) (vals_in g (value_in target) e)

-- the entities that are not, in order
abbrev pub unsettled_in : Group → List Report → Values → List ℕ → List Entity
unsettled_in g observed target stamps = filter (λ e. not (is_settled_in g observed target stamps e)) (entities_of g)

-- a report and a stamp for each entity of the table
pub record AreForTable (observed : List Report) (t : Values) (stamps : List ℕ) : Type 0 where
  pub report_count : length observed ≡ length t.devices + length t.links
  pub stamp_count : length stamps ≡ length t.devices + length t.links
