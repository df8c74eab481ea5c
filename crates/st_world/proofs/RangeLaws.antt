-- Values in range in a legal journal: those of a target, and those that a failure gives.
use Rattle.std.proofs.Common.{◌≡◌, ℕ, List}
use Rattle.std.specs.Prelude.{true, unwrap_or}
use Rattle.st_net.specs.declared.entity.Entity.{Entity}
use Rattle.st_net.specs.declared.entity.Row.{Row}
use Rattle.st_net.specs.Entities.{value_of}
use Rattle.st_net.specs.Groups.{Group, IsSound, IsEntityOf}
use Rattle.st_net.specs.Merge.{row_on, vals_in}
use Rattle.st_net.specs.Ranges.{are_in_range, IsChangeOf}
use Rattle.st_net.proofs.RangeLaws.{value_in_range, by_in_range, rows_may, written_in_range}
use Rattle.st_event.specs.declared.journal.Entry.{Entry}
use Rattle.st_event.specs.Legal.{FailFits, IsLegal}
use Rattle.st_event.specs.Moments.{vals}
use Rattle.st_event.specs.Proposals.{target}
use Rattle.st_event.proofs.Ranges.{all_in_range}
use Rattle.st_world.specs.Acts.{failed_vals}

pub target_in_range : (g : Group) (past : List Entry) (e : Entity) → IsSound g → IsLegal g past → IsEntityOf g e → are_in_range e (vals_in g (target g past) e) ≡ true
target_in_range g past e sound legal own = (all_in_range g past sound legal).targets e own

-- a failure of the values that rows name, and of a health, may be entered
pub fail_fits : (g : Group) (past : List Entry) (e : Entity) (health : ℕ) (rows : List Row) → IsSound g → IsLegal g past → IsChangeOf e health rows g → FailFits g e (failed_vals e (vals g past e) rows) health
fail_fits g past e health rows sound legal change =
    let before = (all_in_range g past sound legal).values e change.entity_in in
    record {
      entity = change.entity_in;
      range = by_in_range e (vals g past e) (λ v. unwrap_or (row_on rows e v) (value_of e (vals g past e) v)) before
          (λ v has. written_in_range e v (row_on rows e v) (value_of e (vals g past e) v) (rows_may g rows e v change.each) (value_in_range e (vals g past e) v before has));
      level = change.health_range;
    }
