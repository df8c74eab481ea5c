-- What scripts that passes have played on a service leave, once it is closed.
use Rattle.std.specs.Prelude.{ℕ, ◌≡◌, ◌+◌, ◌≤◌, ◌<◌, List, All, drop, length, map, sum_by, slice_get, slice_index_or, Option, Some, None, IfSome}
use Rattle.st_net.specs.Groups.{Group}
use Rattle.st_event.specs.declared.act.Act.{Act}
use Rattle.st_event.specs.declared.act.Log.{Log}
use Rattle.st_event.specs.declared.journal.Journal.{Journal}
use Rattle.st_event.specs.declared.journal.TheConstants.{MAX_PENDING}
use Rattle.st_grammar.specs.declared.doc.Script.{Script}
use Rattle.st_wire.specs.declared.line.WireLine.{WireLine}
use Rattle.st_service.specs.Acts.{CanDo}
use Rattle.st_service.specs.Closed.{IsWhole}
use Rattle.st_service.specs.Made.{Made}
use Rattle.st_service.specs.Passes.{Holder, mine_at}
use Rattle.st_run.specs.Jobs.{HaveRun}
use Rattle.st_run.specs.Went.{HasFull, shares_on}
use Rattle.st_run.specs.Workers.{MadeByWorker, worker_shares_on}

abbrev pub acts_of : List Script → List (List Act)
acts_of apps = map (λ app. app.acts) apps

-- each command can be done on a service of these groups
abbrev pub AllCanBeDone : (ℕ → Group) → ℕ → List Script → Type 0
AllCanBeDone groups rooms apps = All (λ app. All (CanDo groups rooms) app.acts) apps

-- some pass has seen the journal of group n full
pub record WasFull (passes : List Holder) (n : ℕ) : Type 0 where
  pub number : ℕ
  pub pass : Holder
  pub is : slice_get passes number ≡ Some pass
  pub full : HasFull pass n

-- the pass of this number, of so many rooms, has made no more entries than a script and the awaits behind it can
pub record IsFinished (groups : ℕ → Group) (lines : ℕ → List WireLine) (rooms number : ℕ) (acts : List Act) (p : Holder) : Type 0 where
  pub number_is : p.number ≡ number
  pub rooms_are : (length p.fronts ≡ rooms) × (length p.mines ≡ rooms)
  pub few : (n : ℕ) → n < rooms → length (mine_at p.mines n) ≤ shares_on n (groups n) (lines n) acts + MAX_PENDING

-- what a closed service hands out of these passes, the first of which are the applications'
pub record AreClosed (groups : ℕ → Group) (rooms apps : ℕ) (passes : List Holder) (journals : List Journal) (logs : List Log) : Type 0 where
  pub journal_count : length journals ≡ rooms
  pub numbered : (k : ℕ) (j : Journal) → k < rooms → (slice_index_or journals k j).group ≡ k
  pub whole : (k : ℕ) (j : Journal) → k < rooms → (front : List Made) × IsWhole (groups k) passes k (slice_index_or journals k j).entries front
  pub log_count : length logs ≡ apps
  pub logged : (a : ℕ) (l : Log) (p : Holder) → a < apps → ((slice_index_or logs a l).app.0 ≡ a) × ((slice_index_or logs a l).entries ≡ (slice_index_or passes a p).log)

-- how many entries these passes made on group n
abbrev pub made_on : ℕ → List Holder → ℕ
made_on n passes = sum_by (λ p. length (mine_at p.mines n)) passes

-- the journals and logs of a closed service on which each script was done by its pass, up to a full journal if one was met. The passes behind those
-- of the scripts are workers'; they made what workers make, and no more entries on a group than the shares of workers for the scripts
pub record IsPlayed (groups : ℕ → Group) (lines : ℕ → List WireLine) (rooms : ℕ) (scripts : List (List Act)) (full : Option ℕ) (journals : List Journal) (logs : List Log) (passes : List Holder) : Type 0 where
  pub count : length scripts ≤ length passes
  pub rooms_are : (a : ℕ) (p : Holder) → slice_get passes a ≡ Some p → length p.fronts ≡ rooms
  pub finished : (a : ℕ) (acts : List Act) (p : Holder) → slice_get scripts a ≡ Some acts → slice_get passes a ≡ Some p → IsFinished groups lines rooms a acts p
  pub workers : (a : ℕ) (p : Holder) → length scripts ≤ a → slice_get passes a ≡ Some p → MadeByWorker p
  pub worked : (n : ℕ) → n < rooms → made_on n (drop (length scripts) passes) ≤ sum_by (worker_shares_on n (groups n) (lines n)) scripts
  pub run : full ≡ None → HaveRun groups lines rooms scripts passes
  pub full_is : IfSome full (λ n. WasFull passes n)
  pub closed : AreClosed groups rooms (length scripts) passes journals logs
