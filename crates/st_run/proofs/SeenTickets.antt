-- A pass's latest tickets by the journal are its own, so its log has seen what it awaited.
use Rattle.std.proofs.Common.{◌≡◌, ℕ, ◌<◌, List, ap, ◌∙◌}
use Rattle.std.specs.Prelude.{Some, reverse, slice_get}
use Rattle.st_net.specs.declared.entity.AppId.{AppId}
use Rattle.st_net.specs.Groups.{Group}
use Rattle.st_event.specs.declared.act.Act.{Act}
use Rattle.st_event.specs.declared.journal.Entry.{Entry}
use Rattle.st_wire.specs.declared.line.WireLine.{WireLine}
use Rattle.st_event.proofs.Prefixes.{prefix_trans}
use Rattle.st_run.specs.CarriedLaws.{history_of}
use Rattle.st_run.specs.CarriedOn.{SeesAwaited}
use Rattle.st_service.specs.Closed.{IsWhole}
use Rattle.st_run.specs.Jobs.{HaveRun}
use Rattle.st_service.specs.Made.{Made}
use Rattle.st_service.specs.Passes.{Holder, front_at, mine_at}
use Rattle.st_run.specs.Requests.{latest_ticket}
use Rattle.st_run.proofs.DidLaws.{Ended, did_goes, ended, front_entries, goes_front}
use Rattle.st_run.proofs.LatestTickets.{latest_told}
use Rattle.st_run.proofs.OrderInTime.{AtEach}
use Rattle.st_run.proofs.ScriptsInTime.{at_each}
use Rattle.st_run.proofs.SeenAwaited.{TellsLatest, sees_awaited_by}

tells_latest : (groups : ℕ → Group) (lines : ℕ → List WireLine) (rooms : ℕ) (passes : List Holder) (n : ℕ) (entries : List Entry) (front : List Made) (a : ℕ) (acts : List Act) (p : Holder)
    → IsWhole (groups n) passes n entries front → (e : Ended groups lines rooms a n acts front p) → TellsLatest groups lines (record { 0 = a }) n entries e.start p
tells_latest groups lines rooms passes n entries front a acts p whole e before behind old t d rest told =
    let app : AppId = record { 0 = a } in
    let each : AtEach groups lines app n e.start p front = at_each groups lines rooms passes n entries front a acts p whole e in
    latest_told app n before (front_at old.fronts n) (mine_at old.mines n) front t (each.asked (reverse before) behind old d rest)
    (prefix_trans (front_at old.fronts n) (front_at p.fronts n) front (goes_front n old p (did_goes groups lines n behind old p rest)) each.begins)
    (ap (λ (es : List Entry). latest_ticket app n es before) (front_entries (groups n) passes n entries front whole) ∙ told)

pub sees_awaited : (groups : ℕ → Group) (lines : ℕ → List WireLine) (rooms : ℕ) (scripts : List (List Act)) (passes : List Holder) (n : ℕ) (entries : List Entry) (front : List Made) (a : ℕ) (acts : List Act) (p : Holder)
    → HaveRun groups lines rooms scripts passes → n < rooms → IsWhole (groups n) passes n entries front → slice_get scripts a ≡ Some acts → slice_get passes a ≡ Some p → SeesAwaited (record { 0 = a }) n acts p.log (history_of (groups n) entries)
sees_awaited groups lines rooms scripts passes n entries front a acts p run low whole script pass =
    let e = ended groups lines rooms scripts passes n entries front a acts p run whole script pass in
    sees_awaited_by groups lines rooms passes n entries front a acts p whole e (tells_latest groups lines rooms passes n entries front a acts p whole e)
