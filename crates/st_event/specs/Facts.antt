-- What holds of commands, reports and agents at each moment of a legal journal.
use Rattle.std.specs.Prelude.{◌≡◌, ℕ, ◌<◌, ◌≤◌, true, false, List, Some}
use Rattle.st_net.specs.declared.entity.Entity.{Entity}
use Rattle.st_net.specs.declared.message.Command.{Command}
use Rattle.st_net.specs.declared.message.Report.{Report}
use Rattle.st_event.specs.declared.journal.Entry.{Entry}
use Rattle.st_net.specs.Levels.{level_of}
use Rattle.st_net.specs.Groups.{Group}
use Rattle.st_net.specs.Numbered.{nth}
use Rattle.st_event.specs.Moments.{stamp, commands, fence, busy, work, vals, health, number, reports}
use Rattle.st_net.specs.Reports.{opening_report}
use Rattle.st_event.specs.Observed.{failed_since, failed_between}
use Rattle.st_event.specs.Past.{target_at, is_spoiled}

-- a command is not from the future, and has what its entity's target was at its stamp
pub record IsOfTarget (g : Group) (past : List Entry) (c : Command) : Type 0 where
  pub behind : c.stamp ≤ stamp g past c.entity
  pub values : c.vals ≡ target_at g past c.stamp c.entity

-- the agent is in the state that a report shows, which is not busy
pub record IsShown (g : Group) (past : List Entry) (r : Report) : Type 0 where
  pub idle : busy g past r.entity ≡ false
  pub values : vals g past r.entity ≡ r.vals
  pub level : level_of r.entity (vals g past r.entity) (health g past r.entity) false ≡ r.level

-- a report is not from the future; and where it is not busy, then while its fence is the agent's and the entity has not failed since, the agent is as it shows
pub record IsTrueOf (g : Group) (past : List Entry) (r : Report) : Type 0 where
  pub behind : r.fence ≤ fence g past r.entity
  pub counted : r.number ≤ number past r.entity
  pub shows : r.busy ≡ false → r.fence ≡ fence g past r.entity → failed_since past r.entity r.number ≡ false → IsShown g past r

-- what a later report shows after an earlier one that was not busy
pub record IsSameView (o r : Report) : Type 0 where
  pub idle : r.busy ≡ false
  pub values : r.vals ≡ o.vals
  pub level : r.level ≡ o.level

-- a later report has no lower fence; where it has the same one and the entity did not fail in between, it shows the same
pub record IsLaterThan (past : List Entry) (o r : Report) : Type 0 where
  pub behind : o.fence ≤ r.fence
  pub shows : o.busy ≡ false → o.fence ≡ r.fence → failed_between past o.entity o.number r.number ≡ false → IsSameView o r

-- an agent has in work, and once it has finished has, what the target was at its fence
pub record IsInStep (g : Group) (past : List Entry) (e : Entity) : Type 0 where
  pub working : busy g past e ≡ true → work g past e ≡ target_at g past (fence g past e) e
  pub done : busy g past e ≡ false → is_spoiled g past e ≡ false → vals g past e ≡ target_at g past (fence g past e) e

pub record AgentsAgree (g : Group) (past : List Entry) : Type 0 where
  pub sent : (n : ℕ) (c : Command) → nth (commands g past) n ≡ Some c → IsOfTarget g past c
  pub fences : (e : Entity) → fence g past e ≤ stamp g past e
  pub opening : (e : Entity) → IsTrueOf g past (opening_report g e)
  pub made : (n : ℕ) (r : Report) → nth (reports g past) n ≡ Some r → IsTrueOf g past r
  pub first : (n : ℕ) (r : Report) → nth (reports g past) n ≡ Some r → IsLaterThan past (opening_report g r.entity) r
  pub later : (m n : ℕ) (o r : Report) → nth (reports g past) m ≡ Some o → nth (reports g past) n ≡ Some r → o.entity ≡ r.entity → o.number < r.number → IsLaterThan past o r
  pub agents : (e : Entity) → IsInStep g past e
