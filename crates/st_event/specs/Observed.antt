-- What is known of each entity by its reports, and which entities are surely as the target has them.
use Rattle.std.specs.Prelude.{ℕ, Bool, false, ◌&&◌, ◌||◌, not, nat_lt, nat_le, List, [], ◌∷◌}
use Rattle.st_net.specs.declared.entity.Entity.{Entity}
use Rattle.st_net.specs.declared.entity.Row.{Row}
use Rattle.st_net.specs.declared.message.Report.{Report}
use Rattle.st_event.specs.declared.journal.Entry.{Entry}
use Rattle.st_net.specs.Levels.{carries, level_of}
use Rattle.st_net.specs.Groups.{Group}
use Rattle.st_event.specs.Proposals.{target}
use Rattle.st_net.specs.Merge.{vals_in, without_altered}
use Rattle.st_net.specs.Numbered.{nth}
use Rattle.st_net.specs.Reports.{opening_report, later_report, is_settled_by, is_sure_by}
use Rattle.st_event.specs.Moments.{heard, stamp, reports, busy, vals, health, number, is_fail_of}

-- the report with the greatest number among those that were heard of an entity
abbrev pub observed : Group → List Entry → Entity → Report
observed g [] = λ e. opening_report g e
observed g (entry ∷ past) = λ e. later_report e (heard entry.event (nth (reports g past))) (observed g past e)

abbrev pub is_settled : Group → List Entry → Entity → Bool
is_settled g past e = is_settled_by (observed g past e) (stamp g past e) (vals_in g (target g past) e)

-- the settled entities that were seen to carry
abbrev pub sure : Group → List Entry → Entity → Bool
sure g past = λ e. is_sure_by e (observed g past e) (stamp g past e) (vals_in g (target g past) e)

-- the sure entities that stay as they are when rows are accepted
abbrev pub sure_after : Group → List Entry → List Row → Entity → Bool
sure_after g past rows = without_altered g (sure g past) (target g past) rows

-- the entities that carry in the network
abbrev pub actual : Group → List Entry → Entity → Bool
actual g past = λ e. not (busy g past e) && carries e (vals g past e) (level_of e (vals g past e) (health g past e) (busy g past e))

-- a failure of the entity stands after the making of its report of one number and before that of another
abbrev pub failed_between : List Entry → Entity → ℕ → ℕ → Bool
failed_between [] e from to = false
failed_between (entry ∷ past) e from to = (is_fail_of e entry.event && nat_le from (number past e) && nat_lt (number past e) to) || failed_between past e from to

-- a failure of the entity stands after the making of its report of this number
abbrev pub failed_since : List Entry → Entity → ℕ → Bool
failed_since [] e from = false
failed_since (entry ∷ past) e from = (is_fail_of e entry.event && nat_le from (number past e)) || failed_since past e from

-- the entities that failed since the report by which they are known
abbrev pub untold : Group → List Entry → Entity → Bool
untold g past e = failed_since past e (observed g past e).number
