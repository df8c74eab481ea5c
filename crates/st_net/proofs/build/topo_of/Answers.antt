use Rattle.st_net.proofs.Sound.{sound_made}
use Rattle.st_net.proofs.build.topo_of.Goals as goal

pub from_names-requires : goal.from_names-requires
from_names-requires c = sound_made c.args.parts.now c.in_ok-openings.openings.name c.args.device_names c.args.link_names c.in_ok-openings.openings.devices.items c.in_ok-openings.openings.links.items c.in_ok-openings.openings.promises.items
    c.in_ok-openings.ensures.name c.requires.devices c.requires.links c.in_ok-openings.ensures.devices c.in_ok-openings.ensures.links c.in_ok-openings.ensures.promises
    (rw c.bytes-spelling.ensures.bytes at c.bytes-spelling.ensures.spelling)
    c.requires.names c.requires.right
