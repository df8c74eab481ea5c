-- What the jobs of a run are to do, and what that leaves with their passes.
use Rattle.std.specs.Prelude.{ℕ, ◌≡◌, ◌≤◌, ◌<◌, ◌-◌, ◌*◌, List, [], All, length, nat_lt, slice_index_or, if◌then◌else◌}
use Rattle.st_net.specs.Groups.{Group}
use Rattle.st_event.specs.declared.act.Act.{Act}
use Rattle.st_grammar.specs.declared.doc.Script.{Script}
use Rattle.st_wire.specs.declared.line.WireLine.{WireLine}
use Rattle.st_service.specs.Acts.{CanDo}
use Rattle.st_service.specs.Kept.{Kept}
use Rattle.st_service.specs.Passes.{Holder}
use Rattle.st_run.specs.declared.application.Came.{Came}
use Rattle.st_run.specs.declared.jobs.Chore.{Chore}
use Rattle.st_run.specs.declared.jobs.Chore.TheVariants.{Acts, Task as task_chore}
use Rattle.st_run.specs.declared.workers.Task.{Task}
use Rattle.st_run.specs.Duties.{WorkedTo, duty_share}
use Rattle.st_run.specs.Went.{CameTo, Went}

-- a pass can do a chore on a service of so many applications and rooms
abbrev pub CanDoChore : (ℕ → Group) → ℕ → ℕ → Chore → Holder → Type 0
CanDoChore groups apps rooms (Acts acts) p = (p.number < apps) × (length p.fronts ≡ rooms) × All (CanDo groups rooms) acts.now
CanDoChore groups apps rooms (task_chore task) p = (task.group < rooms) × (length p.fronts ≡ rooms)

-- what a chore leaves with its pass, whatever became of it
abbrev pub WentThrough : (ℕ → Group) → (ℕ → List WireLine) → Chore → Holder → Holder → Type 0
WentThrough groups lines (Acts acts) old new = Went groups lines acts.now old new
WentThrough groups lines (task_chore task) old new = Kept old new task.group (task.times * duty_share task.duty (groups task.group) (lines task.group))

-- and of how far the pass came
abbrev pub ChoreTo : Came → (ℕ → Group) → (ℕ → List WireLine) → Chore → Holder → Holder → Type 0
ChoreTo came groups lines (Acts acts) old new = CameTo came groups lines acts.now old new
ChoreTo came groups lines (task_chore task) old new = WorkedTo came task.times task.duty task.group (groups task.group) (lines task.group) old new

-- the chore of the pass of this number: the script of an application, or a worker's task behind those
abbrev pub IsChore : List Script → List Task → ℕ → Chore → Type 0
IsChore apps tasks number (Acts acts) = (number < length apps) × ((s : Script) → acts.now ≡ (slice_index_or apps number s).acts)
IsChore apps tasks number (task_chore task) = (length apps ≤ number) × ((t : Task) → task ≡ slice_index_or tasks (number - length apps) t)

-- the awaits behind the jobs for the pass of this number: a worker's has none
abbrev pub awaits_for : ℕ → ℕ → List Act → List Act
awaits_for apps number awaits = if nat_lt number apps then awaits else []
