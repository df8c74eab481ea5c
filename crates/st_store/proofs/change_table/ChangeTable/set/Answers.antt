use Rattle.std.proofs.Common.{List, ap, ◌∙◌, refl}
use Rattle.std.specs.Vec.{with_item}
use Rattle.st_store.specs.declared.change.Change.{Change}
use Rattle.st_store.specs.declared.change.EntityChanges.{EntityChanges}
use Rattle.st_store.specs.Changes.{ChangeLists, with_change}
use Rattle.st_store.specs.Rooms.{changes_in, lists_of}
use Rattle.st_store.proofs.RoomLaws.{within, map-set_changed, ready_devices, ready_links, entered_last}
use Rattle.st_store.proofs.change_table.ChangeTable.set.Goals as goal

pub returns-in-Device-clause-lists : goal.returns-in-Device-clause-lists
returns-in-Device-clause-lists c =
    let here = within changes_in c.args.self.now.devices.items c.in-Device.i (rw c.in-Device.is at c.requires.entity) in
    rw c.in-Device.is
    (ap (λ (devices : List (List Change)). let lists : ChangeLists = record (lists_of c.args.self.now) { devices = devices } in lists)
    (map-set_changed c.args.self.now.devices.items c.in-Device.i c.set.new.self c.index_mut.result.now c.args.change here (c.set.ensures ∙ ap (λ (one : EntityChanges). with_change (changes_in one) c.args.change) c.index_mut.ensures.value)))

pub returns-in-Device-clause-ready : goal.returns-in-Device-clause-ready
returns-in-Device-clause-ready c =
    let here = within changes_in c.args.self.now.devices.items c.in-Device.i (rw c.in-Device.is at c.requires.entity) in
    let last = entered_last c.set.new.self (changes_in c.index_mut.result.now) c.args.change c.set.ensures in
    ready_devices c.args.self.now (record c.args.self.now { devices = with_item c.args.self.now.devices c.in-Device.i c.set.new.self }) c.in-Device.i c.args.change.version c.set.new.self here last refl refl

pub returns-in-Link-clause-lists : goal.returns-in-Link-clause-lists
returns-in-Link-clause-lists c =
    let here = within changes_in c.args.self.now.links.items c.in-Link.i (rw c.in-Link.is at c.requires.entity) in
    rw c.in-Link.is
    (ap (λ (links : List (List Change)). let lists : ChangeLists = record (lists_of c.args.self.now) { links = links } in lists)
    (map-set_changed c.args.self.now.links.items c.in-Link.i c.set-in-Link.new.self c.index_mut-in-Link.result.now c.args.change here (c.set-in-Link.ensures ∙ ap (λ (one : EntityChanges). with_change (changes_in one) c.args.change) c.index_mut-in-Link.ensures.value)))

pub returns-in-Link-clause-ready : goal.returns-in-Link-clause-ready
returns-in-Link-clause-ready c =
    let here = within changes_in c.args.self.now.links.items c.in-Link.i (rw c.in-Link.is at c.requires.entity) in
    let last = entered_last c.set-in-Link.new.self (changes_in c.index_mut-in-Link.result.now) c.args.change c.set-in-Link.ensures in
    ready_links c.args.self.now (record c.args.self.now { links = with_item c.args.self.now.links c.in-Link.i c.set-in-Link.new.self }) c.in-Link.i c.args.change.version c.set-in-Link.new.self here last refl refl
