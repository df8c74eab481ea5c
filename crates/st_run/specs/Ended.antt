-- What is left of the jobs of a run, in order: the passes of applications, and those of workers behind them.
use Rattle.std.specs.Prelude.{ℕ, ◌≡◌, ◌+◌, ◌≤◌, ◌<◌, List, length, slice_index_or}
use Rattle.st_net.specs.Groups.{Group}
use Rattle.st_grammar.specs.declared.doc.Script.{Script}
use Rattle.st_wire.specs.declared.line.WireLine.{WireLine}
use Rattle.st_service.specs.Opened.{IsFresh}
use Rattle.st_service.specs.Passes.{Holder, mine_at}
use Rattle.st_run.specs.declared.workers.Task.{Task}
use Rattle.st_run.specs.Duties.{DoesTimes}
use Rattle.st_run.specs.Jobs.{HasDone}
use Rattle.st_run.specs.Played.{IsFinished}
use Rattle.st_run.specs.Tasks.{task_share_on}
use Rattle.st_run.specs.Workers.{MadeByWorker}

-- there is a pass for each application, which is finished, and for each task, which made what workers make and no more entries than the task's share
pub record AreEnded (groups : ℕ → Group) (lines : ℕ → List WireLine) (rooms : ℕ) (apps : List Script) (tasks : List Task) (passes : List Holder) : Type 0 where
  pub count : length passes ≡ length apps + length tasks
  pub numbers : (n : ℕ) (p : Holder) → n < length passes → (slice_index_or passes n p).number ≡ n
  pub rooms_are : (n : ℕ) (p : Holder) → n < length passes → length (slice_index_or passes n p).fronts ≡ rooms
  pub finished : (n : ℕ) (s : Script) (p : Holder) → n < length apps → IsFinished groups lines rooms n (slice_index_or apps n s).acts (slice_index_or passes n p)
  pub few : (k n : ℕ) (t : Task) (p : Holder) → k < length tasks → length (mine_at (slice_index_or passes (length apps + k) p).mines n) ≤ task_share_on n (groups n) (lines n) (slice_index_or tasks k t)
  pub made : (n : ℕ) (p : Holder) → length apps ≤ n → n < length passes → MadeByWorker (slice_index_or passes n p)

-- a fresh pass of this number did a task
pub record HasDoneTask (groups : ℕ → Group) (lines : ℕ → List WireLine) (rooms number : ℕ) (task : Task) (p : Holder) : Type 0 where
  pub start : Holder
  pub fresh : IsFresh number rooms start
  pub did : DoesTimes task.times task.duty task.group (groups task.group) (lines task.group) start p

-- where none met a full journal each application has done its script, and each worker its task
pub record AreDone (groups : ℕ → Group) (lines : ℕ → List WireLine) (rooms : ℕ) (apps : List Script) (tasks : List Task) (passes : List Holder) : Type 0 where
  pub done : (n : ℕ) (s : Script) (p : Holder) → n < length apps → HasDone groups lines rooms n (slice_index_or apps n s).acts (slice_index_or passes n p)
  pub worked : (k : ℕ) (t : Task) (p : Holder) → k < length tasks → HasDoneTask groups lines rooms (length apps + k) (slice_index_or tasks k t) (slice_index_or passes (length apps + k) p)
