use Rattle.st_draft.specs.GroupInside.{draft_of}
use Rattle.st_draft.proofs.OpenLemmas.{device_written, device_after, device_reset, pairs_reset, link_written, link_after, link_reset}
use Rattle.st_draft.proofs.group.Group.set_opening.Goals as goal

pub invariant_of-self : goal.invariant_of-self
invariant_of-self c =
    let written = device_written c.args.self.now (draft_of c.self.inside) c.args.row.entity c.in-Device.i c.index_mut-device.result.now c.with-device.result c.args.row.var c.args.row.value c.self.view_is c.in-Device.is c.requires c.index_mut-device.ensures.value c.with-device.ensures in (
      device_reset c.self.inside.devices.items _ c.self.inside.device_names c.self.inside.tors c.self.inside.links.items c.self.inside.link_names c.in-Device.i c.args.row.var c.args.row.value c.self.invariant.0 written,
      pairs_reset c.self.inside.devices.items _ c.self.inside.promises.items c.self.inside.pairs c.in-Device.i c.args.row.var c.args.row.value c.self.invariant.1 written,
    )

pub invariant_of-self-in-Link : goal.invariant_of-self-in-Link
invariant_of-self-in-Link c =
    let written = link_written c.args.self.now (draft_of c.self.inside) c.args.row.entity c.in-Link.i c.index_mut-link.result.now c.with-link.result c.args.row.var c.args.row.value c.self.view_is c.in-Link.is c.requires c.index_mut-link.ensures.value c.with-link.ensures in (
      link_reset c.self.inside.devices.items c.self.inside.device_names c.self.inside.tors c.self.inside.links.items _ c.self.inside.link_names c.in-Link.i c.args.row.var c.args.row.value c.self.invariant.0 written,
      c.self.invariant.1,
    )

pub returns-in-Device : goal.returns-in-Device
returns-in-Device c = device_after c.args.self.now (draft_of c.self.inside) c.args.row.entity c.in-Device.i c.index_mut-device.result.now c.with-device.result c.args.row.var c.args.row.value c.self.view_is c.in-Device.is c.requires c.index_mut-device.ensures.value c.with-device.ensures

pub returns-in-Link : goal.returns-in-Link
returns-in-Link c = link_after c.args.self.now (draft_of c.self.inside) c.args.row.entity c.in-Link.i c.index_mut-link.result.now c.with-link.result c.args.row.var c.args.row.value c.self.view_is c.in-Link.is c.requires c.index_mut-link.ensures.value c.with-link.ensures
