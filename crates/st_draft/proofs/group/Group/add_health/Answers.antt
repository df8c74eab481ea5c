use Rattle.st_draft.specs.GroupInside.{draft_of}
use Rattle.st_draft.proofs.HealthLemmas.{device_health_written, device_health_after, device_told_index, device_told_pairs, link_health_written, link_health_after, link_told_index}
use Rattle.st_draft.proofs.group.Group.add_health.Goals as goal

pub invariant_of-self-in-Device : goal.invariant_of-self-in-Device
invariant_of-self-in-Device c =
    let written = device_health_written c.args.self.now (draft_of c.self.inside) c.args.entity c.in-Device.i c.index_mut.result.now c.args.health c.self.view_is c.in-Device.is c.requires.within c.index_mut.ensures.value in (
      device_told_index c.self.inside.devices.items _ c.self.inside.device_names c.self.inside.tors c.self.inside.links.items c.self.inside.link_names c.in-Device.i c.args.health c.self.invariant.0 written,
      device_told_pairs c.self.inside.devices.items _ c.self.inside.promises.items c.self.inside.pairs c.in-Device.i c.args.health c.self.invariant.1 written,
    )

pub invariant_of-self-in-Link : goal.invariant_of-self-in-Link
invariant_of-self-in-Link c =
    let written = link_health_written c.args.self.now (draft_of c.self.inside) c.args.entity c.in-Link.i c.index_mut-in-Link.result.now c.args.health c.self.view_is c.in-Link.is c.requires.within c.index_mut-in-Link.ensures.value in (
      link_told_index c.self.inside.devices.items c.self.inside.device_names c.self.inside.tors c.self.inside.links.items _ c.self.inside.link_names c.in-Link.i c.args.health c.self.invariant.0 written,
      c.self.invariant.1,
    )

pub returns-in_ok-add-in-Device-clause-ok : goal.returns-in_ok-add-in-Device-clause-ok
returns-in_ok-add-in-Device-clause-ok c = device_health_after c.args.self.now (draft_of c.self.inside) c.args.entity c.in-Device.i c.index_mut.result.now c.args.health c.add.new.self c.self.view_is c.in-Device.is c.requires.within c.index_mut.ensures.value c.in_ok-add-in-Device.ensures.ok

pub returns-in_ok-add-in-Link-clause-ok : goal.returns-in_ok-add-in-Link-clause-ok
returns-in_ok-add-in-Link-clause-ok c = link_health_after c.args.self.now (draft_of c.self.inside) c.args.entity c.in-Link.i c.index_mut-in-Link.result.now c.args.health c.add-in-Link.new.self c.self.view_is c.in-Link.is c.requires.within c.index_mut-in-Link.ensures.value c.in_ok-add-in-Link.ensures.ok
