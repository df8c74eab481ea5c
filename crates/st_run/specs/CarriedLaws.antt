-- Scripts that passes have done on a service were carried out.
use Rattle.std.specs.Prelude.{ℕ, ◌≡◌, ◌<◌, List, reverse, slice_get, Some}
use Rattle.st_net.specs.Groups.{Group}
use Rattle.st_event.specs.declared.act.Act.{Act}
use Rattle.st_event.specs.declared.journal.Entry.{Entry}
use Rattle.st_event.specs.History.{History}
use Rattle.st_wire.specs.declared.line.WireLine.{WireLine}
use Rattle.st_run.specs.CarriedOn.{IsDoneBy, IsDoneOn, IsLogged}
use Rattle.st_service.specs.Closed.{IsWhole}
use Rattle.st_run.specs.Jobs.{HaveRun}
use Rattle.st_service.specs.Made.{Made}
use Rattle.st_service.specs.Passes.{Holder}

-- the group with its journal, whose oldest entry stands first here
abbrev pub history_of : Group → List Entry → History
history_of g entries = record { group = g; past = reverse entries }

-- what each application logged is what its script reads
abbrev pub ScriptsAreLogged : Type 0
ScriptsAreLogged = (groups : ℕ → Group) (lines : ℕ → List WireLine) (rooms : ℕ) (scripts : List (List Act)) (passes : List Holder) (a : ℕ) (acts : List Act) (p : Holder) →
    HaveRun groups lines rooms scripts passes → slice_get scripts a ≡ Some acts → slice_get passes a ≡ Some p → IsLogged acts p.log

-- each script was carried out on each group, by the group's journal with its makers
abbrev pub EachIsCarriedOut : Type 0
EachIsCarriedOut = (groups : ℕ → Group) (lines : ℕ → List WireLine) (rooms : ℕ) (scripts : List (List Act)) (passes : List Holder) (n : ℕ) (entries : List Entry) (front : List Made) (a : ℕ) (acts : List Act) (p : Holder) →
    HaveRun groups lines rooms scripts passes → n < rooms → IsWhole (groups n) passes n entries front → slice_get scripts a ≡ Some acts → slice_get passes a ≡ Some p →
    IsDoneBy (record { 0 = a }) acts p.log n (history_of (groups n) entries) (lines n)

-- and all of them together
abbrev pub AllAreCarriedOut : Type 0
AllAreCarriedOut = (groups : ℕ → Group) (lines : ℕ → List WireLine) (rooms : ℕ) (scripts : List (List Act)) (passes : List Holder) (n : ℕ) (entries : List Entry) (front : List Made) →
    HaveRun groups lines rooms scripts passes → n < rooms → IsWhole (groups n) passes n entries front → IsDoneOn scripts n (history_of (groups n) entries) (lines n)
