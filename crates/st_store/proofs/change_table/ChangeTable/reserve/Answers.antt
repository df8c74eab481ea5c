use Rattle.std.proofs.Common.{◌≤◌, List, ap, ◌∙◌, refl, subst}
use Rattle.std.specs.Vec.{with_item}
use Rattle.st_store.specs.declared.change.Change.{Change}
use Rattle.st_store.specs.declared.change.EntityChanges.{EntityChanges}
use Rattle.st_store.specs.Changes.{ChangeLists}
use Rattle.st_store.specs.Rooms.{changes_in, room_in, lists_of}
use Rattle.st_store.proofs.RoomLaws.{within, map-set_same, get_or-map-set, grown_devices, grown_links}
use Rattle.st_store.proofs.change_table.ChangeTable.reserve.Goals as goal

pub returns-in-Device-clause-same : goal.returns-in-Device-clause-same
returns-in-Device-clause-same c =
    let here = within changes_in c.args.self.now.devices.items c.in-Device.i (rw c.in-Device.is at c.requires) in
    ap (λ (devices : List (List Change)). let lists : ChangeLists = record (lists_of c.args.self.now) { devices = devices } in lists)
    (map-set_same changes_in c.args.self.now.devices.items c.in-Device.i c.reserve.new.self c.index_mut.result.now here (c.reserve.ensures.same ∙ ap changes_in c.index_mut.ensures.value))

pub returns-in-Device-clause-room : goal.returns-in-Device-clause-room
returns-in-Device-clause-room c =
    let here = within changes_in c.args.self.now.devices.items c.in-Device.i (rw c.in-Device.is at c.requires) in
    rw (c.in-Device.is, get_or-map-set room_in c.args.self.now.devices.items c.in-Device.i c.reserve.new.self here) c.reserve.ensures.room

pub returns-in-Device-clause-grown : goal.returns-in-Device-clause-grown
returns-in-Device-clause-grown c =
    let here = within changes_in c.args.self.now.devices.items c.in-Device.i (rw c.in-Device.is at c.requires) in
    grown_devices c.args.self.now (record c.args.self.now { devices = with_item c.args.self.now.devices c.in-Device.i c.reserve.new.self }) c.in-Device.i c.reserve.new.self c.index_mut.result.now here (subst (λ (one : EntityChanges). room_in one ≤ room_in c.reserve.new.self) c.index_mut.ensures.value c.reserve.ensures.grown) refl refl

pub returns-in-Link-clause-same : goal.returns-in-Link-clause-same
returns-in-Link-clause-same c =
    let here = within changes_in c.args.self.now.links.items c.in-Link.i (rw c.in-Link.is at c.requires) in
    ap (λ (links : List (List Change)). let lists : ChangeLists = record (lists_of c.args.self.now) { links = links } in lists)
    (map-set_same changes_in c.args.self.now.links.items c.in-Link.i c.reserve-in-Link.new.self c.index_mut-in-Link.result.now here (c.reserve-in-Link.ensures.same ∙ ap changes_in c.index_mut-in-Link.ensures.value))

pub returns-in-Link-clause-room : goal.returns-in-Link-clause-room
returns-in-Link-clause-room c =
    let here = within changes_in c.args.self.now.links.items c.in-Link.i (rw c.in-Link.is at c.requires) in
    rw (c.in-Link.is, get_or-map-set room_in c.args.self.now.links.items c.in-Link.i c.reserve-in-Link.new.self here) c.reserve-in-Link.ensures.room

pub returns-in-Link-clause-grown : goal.returns-in-Link-clause-grown
returns-in-Link-clause-grown c =
    let here = within changes_in c.args.self.now.links.items c.in-Link.i (rw c.in-Link.is at c.requires) in
    grown_links c.args.self.now (record c.args.self.now { links = with_item c.args.self.now.links c.in-Link.i c.reserve-in-Link.new.self }) c.in-Link.i c.reserve-in-Link.new.self c.index_mut-in-Link.result.now here (subst (λ (one : EntityChanges). room_in one ≤ room_in c.reserve-in-Link.new.self) c.index_mut-in-Link.ensures.value c.reserve-in-Link.ensures.grown) refl refl
