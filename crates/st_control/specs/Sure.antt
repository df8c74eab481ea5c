-- The sure entities, by tables.
use Rattle.std.specs.Prelude.{◌≡◌, ℕ, Bool, ◌&&◌, List}
use Rattle.st_net.specs.declared.entity.Entity.{Entity}
use Rattle.st_net.specs.declared.entity.Vals.{Vals}
use Rattle.st_net.specs.declared.message.Report.{Report}
use Rattle.st_net.specs.Groups.{Group}
use Rattle.st_net.specs.Merge.{vals_in}
use Rattle.st_net.specs.Sets.{Marks, MarksOf, is_in, is_of}
use Rattle.st_net.specs.Reports.{is_sure_by, is_settled_by}
use Rattle.st_overlay.specs.Values.{Values, value_in}
use Rattle.st_net.specs.InOrder.{report_in, stamp_in}
use Rattle.st_control.specs.declared.settled.Shown.{Shown}
use Rattle.st_control.specs.declared.settled.Shown.TheVariants.{Settled, Sure}

-- whether an entity is settled, or sure, by its report, its stamp and its target values
abbrev pub is_shown_by : Shown → Entity → Report → ℕ → Vals → Bool
is_shown_by Settled e r stamp target = is_settled_by r stamp target
is_shown_by Sure e r stamp target = is_sure_by e r stamp target

-- the entities that are settled, or sure, by tables
abbrev pub shown_by : Shown → Group → List Report → List ℕ → Values → Entity → Bool
shown_by shown g observed stamps values = λ e. is_shown_by shown e (report_in g observed e) (stamp_in g stamps e) (vals_in g (value_in values) e)

-- a mark for each entity of the group: just those are marked that are settled, or sure
pub record MarksShown (shown : Shown) (g : Group) (observed : List Report) (stamps : List ℕ) (values : Values) (set : Marks) : Type 0 where
  pub marks : MarksOf g set
  pub shown_is : (e : Entity) → is_in set e ≡ (is_of g e && shown_by shown g observed stamps values e)
