use Rattle.std.proofs.Common.{◌≡◌, ◌-◌, List, ap, get_or, length, sym, subst, ◌∙◌}
use Rattle.std.specs.Prelude.{Some, slice_get}
use Rattle.st_net.specs.Entities.{value_of}
use Rattle.st_net.specs.Groups.{Group, IsEntityOf}
use Rattle.st_net.specs.InOrder.{place_in}
use Rattle.st_net.specs.declared.message.Report.{Report}
use Rattle.st_event.specs.declared.journal.Entry.{Entry}
use Rattle.st_store.specs.Store.{StoreView, IsStoreOf}
use Rattle.st_control.specs.Control.{ControlView}
use Rattle.st_world.specs.World.{WorldView}
use Rattle.st_world.proofs.RoundLaws.{seen_newest}
use Rattle.st_world.proofs.world.World.is_called_back.Goals as goal

pub returns : goal.returns
returns c =
    let m = c.self.inside.machine in
    let items = c.self.inside.journal.items in
    let e = c.args.entity in
    let last = subst (λ (es : List Entry). slice_get es (length es - 1) ≡ Some c.in-Some.newest.now) c.as_slice.ensures.value (sym c.in-Some.ensures.value) in
    let place = c.place-place.ensures.place ∙ ap (λ (h : Group). place_in h e) (c.topo.ensures.topo ∙ ap (λ (k : ControlView). k.group) c.control-control.ensures) in
    let of : IsStoreOf m.checker.group m.checker.store = subst (λ (k : ControlView). IsStoreOf k.group k.store) c.control-control.ensures (subst (λ (s : StoreView). IsStoreOf c.control-control.result.now.group s) c.store.ensures.store c.store.ensures.of) in
    let seen = c.observed.ensures ∙ ap (λ (s : StoreView). s.observed) c.store.ensures.store ∙ ap (λ (k : ControlView). k.store.observed) c.control-control.ensures in
    let value = c.get.ensures ∙ ap (λ (rs : List Report). value_of e (get_or rs c.place-place.result _).vals c.in-Blocked.row.var) seen in
    let here = subst (λ (w : WorldView). IsEntityOf w.history.group e) (sym c.self.view_is) c.requires in
    rw (← c.self.view_is) (seen_newest m items c.in-Some.newest.now c.in-Blocked.row e _ c.place-place.result c.get.result c.self.invariant of last c.in-Blocked.is place here value)
