use Rattle.st_net.proofs.EntityOrder.{device_among, link_among}
use Rattle.st_net.proofs.entity.Entity.at_place.Goals as goal

pub returns-then-place-devices : goal.returns-then-place-devices
returns-then-place-devices c = λ links low. device_among c.args.devices links c.args.place _ c.if-place-devices.true

pub returns-else-place-devices : goal.returns-else-place-devices
returns-else-place-devices c = λ links low. link_among c.args.devices links c.args.place _ c.if-place-devices.false low
