use Rattle.std.proofs.Common.{◌≤◌, length, arith}
use Rattle.st_net.specs.declared.topo.TheConstants.{MAX_DEVICES, MAX_LINKS, MAX_PROMISES}
use Rattle.st_grammar.proofs.SoundParts.{sound_parts}
use Rattle.st_serial.proofs.running.topo_of.Goals as goal

pub build-requires : goal.build-requires
build-requires c =
    let few = sound_parts c.args.parts.now c.requires in
    let devices : length c.args.parts.now.devices ≤ MAX_DEVICES = few.few_devices in
    let links : length c.args.parts.now.links ≤ MAX_LINKS = few.few_links in
    let promises : length c.args.parts.now.promises ≤ MAX_PROMISES = few.few_promises in
    omega (arith, devices, links, promises)
