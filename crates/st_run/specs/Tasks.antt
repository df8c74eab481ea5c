-- The tasks of a run's workers, by the commands of all scripts.
use Rattle.std.specs.Prelude.{ℕ, zero, suc, ◌*◌, ◌==◌, Bool, false, List, [], ◌∷◌, ◌++◌, nat_lt, map, sum_by, count_by, if◌then◌else◌}
use Rattle.st_net.specs.Groups.{Group}
use Rattle.st_event.specs.declared.act.Act.{Act}
use Rattle.st_event.specs.declared.act.Act.TheVariants.{Propose, Settle}
use Rattle.st_grammar.specs.declared.doc.Script.{Script}
use Rattle.st_wire.specs.declared.line.WireLine.{WireLine}
use Rattle.st_run.specs.declared.workers.Duty.{Duty}
use Rattle.st_run.specs.declared.workers.Duty.TheVariants.{Check, Update, Monitor}
use Rattle.st_run.specs.declared.workers.Task.{Task}
use Rattle.st_run.specs.Duties.{duty_share}

-- a command settles this group
abbrev pub is_settle_of : ℕ → Act → Bool
is_settle_of n (Settle m rounds) = m == n
is_settle_of n _ = false

-- a command proposes to this group
abbrev pub is_propose_of : ℕ → Act → Bool
is_propose_of n (Propose m rows) = m == n
is_propose_of n _ = false

-- how many commands of all scripts do
abbrev pub settles_of : ℕ → List Script → ℕ
settles_of n apps = sum_by (λ app. count_by (is_settle_of n) app.acts) apps

abbrev pub proposes_of : ℕ → List Script → ℕ
proposes_of n apps = sum_by (λ app. count_by (is_propose_of n) app.acts) apps

-- the tasks of these duties for a group, each to be done so many times, if at all
abbrev pub tasks_for : ℕ → ℕ → List Duty → List Task
tasks_for n times duties = if nat_lt 0 times then map (λ duty. record { group = n; duty = duty; times = times }) duties else []

-- the tasks of a group: where commands propose to it a check for each of them, and where commands settle it an update half and a monitor half for each
abbrev pub tasks_on : List Script → ℕ → List Task
tasks_on apps n = tasks_for n (proposes_of n apps) (Check ∷ []) ++ tasks_for n (settles_of n apps) (Update ∷ Monitor ∷ [])

-- those of so many groups, in order
abbrev pub tasks_by : List Script → ℕ → List Task
tasks_by apps zero = []
tasks_by apps (suc n) = tasks_by apps n ++ tasks_on apps n

-- how many entries a task adds on group n at the most
abbrev pub task_share_on : ℕ → Group → List WireLine → Task → ℕ
task_share_on n g lines task = if task.group == n then task.times * duty_share task.duty g lines else 0
