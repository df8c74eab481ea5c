-- What a pass has come to by the commands of a script.
use Rattle.std.specs.Prelude.{ℕ, zero, suc, ◌≡◌, ◌≤◌, List, [], ◌∷◌, ◌++◌, All, length, slice_get, Some}
use Rattle.st_net.specs.Groups.{Group}
use Rattle.st_event.specs.declared.act.Act.{Act}
use Rattle.st_event.specs.declared.act.Act.TheVariants.{Await}
use Rattle.st_wire.specs.declared.line.WireLine.{WireLine}
use Rattle.st_world.specs.Acts.{group_number}
use Rattle.st_service.specs.Acts.{ActDone, CanDo}
use Rattle.st_service.specs.Kept.{Kept}
use Rattle.st_service.specs.Opened.{IsFresh}
use Rattle.st_service.specs.Passes.{Holder}
use Rattle.st_service.specs.Shares.{act_share}
use Rattle.st_run.specs.Workers.{MadeByWorker}

-- a command was done: what every call keeps was kept, and what is left is what such an act leaves
pub record Does (groups : ℕ → Group) (lines : ℕ → List WireLine) (act : Act) (old new : Holder) : Type 0 where
  pub kept : Kept old new (group_number act) (act_share act (groups (group_number act)) (lines (group_number act)))
  pub done : ActDone act (groups (group_number act)) (lines (group_number act)) old new

-- these commands were done, one after another
abbrev pub Did : (ℕ → Group) → (ℕ → List WireLine) → List Act → Holder → Holder → Type 0
Did groups lines [] old new = new ≡ old
Did groups lines (act ∷ acts) old new = (mid : Holder) × Does groups lines act old mid × Did groups lines acts mid new

-- an await on each of so many groups
abbrev pub awaits_on : ℕ → List Act
awaits_on zero = []
awaits_on (suc n) = awaits_on n ++ Await n ∷ []

-- a fresh pass of this number did the commands of its script, and then an await on each group
pub record HasDone (groups : ℕ → Group) (lines : ℕ → List WireLine) (rooms number : ℕ) (acts : List Act) (p : Holder) : Type 0 where
  pub start : Holder
  pub fresh : IsFresh number rooms start
  pub did : Did groups lines (acts ++ awaits_on rooms) start p

-- each script was done by the pass of its number, and the passes behind those of the scripts made what workers make
pub record HaveRun (groups : ℕ → Group) (lines : ℕ → List WireLine) (rooms : ℕ) (scripts : List (List Act)) (passes : List Holder) : Type 0 where
  pub count : length scripts ≤ length passes
  pub fit : All (All (CanDo groups rooms)) scripts
  pub each : (a : ℕ) (acts : List Act) (p : Holder) → slice_get scripts a ≡ Some acts → slice_get passes a ≡ Some p → HasDone groups lines rooms a acts p
  pub workers : (a : ℕ) (p : Holder) → length scripts ≤ a → slice_get passes a ≡ Some p → MadeByWorker p
