use Rattle.std.proofs.Common.{refl, sym, ◌∙◌}
use Rattle.st_net.specs.declared.build.Indexed.TheVariants.{Names}
use Rattle.st_net.proofs.NameSteps.{named_links, twice_link, all_named, fault_is_later}
use Rattle.st_net.proofs.build.links_or_fault.Goals as goal

pub returns-in-Twice : goal.returns-in-Twice
returns-in-Twice c =
    let parts = c.args.parts.now in
    let devices = c.args.devices.now in
    twice_link parts parts.devices (Names devices) devices refl c.requires.names refl c.as_slice.result.now c.in_ok-links.field-0 c.as_slice.ensures c.in_ok-links.ensures c.in-Twice.place c.in-Twice.is

pub returns-in-Some : goal.returns-in-Some
returns-in-Some c =
    let parts = c.args.parts.now in
    let devices = c.args.devices.now in
    fault_is_later parts parts.devices (Names devices) devices refl c.requires.names refl c.as_slice.result.now c.in_ok-links.field-0 c.as_slice.ensures c.in_ok-links.ensures c.in-Names.links c.in-Names.is ∙ (sym c.in_ok-fault-in-Names.ensures ∙ c.in-Some.is)

pub returns-in-None : goal.returns-in-None
returns-in-None c =
    let parts = c.args.parts.now in
    let devices = c.args.devices.now in (
      (named_links parts parts.devices (Names devices) devices refl c.requires.names refl c.as_slice.result.now c.in_ok-links.field-0 c.as_slice.ensures c.in_ok-links.ensures c.in-Names.links c.in-Names.is).1,
      all_named parts parts.devices (Names devices) devices refl c.requires.names refl c.as_slice.result.now c.in_ok-links.field-0 c.as_slice.ensures c.in_ok-links.ensures c.in-Names.links c.in-Names.is,
      fault_is_later parts parts.devices (Names devices) devices refl c.requires.names refl c.as_slice.result.now c.in_ok-links.field-0 c.as_slice.ensures c.in_ok-links.ensures c.in-Names.links c.in-Names.is ∙ (sym c.in_ok-fault-in-Names.ensures ∙ c.in-None.is),
    )
