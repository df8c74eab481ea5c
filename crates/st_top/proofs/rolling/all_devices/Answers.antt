use Rattle.st_top.proofs.PlanLines.{device_next}
use Rattle.st_top.proofs.rolling.all_devices.Goals as goal

pub loop-device-preserved : goal.loop-device-preserved
loop-device-preserved c = device_next c.loop-device.device c.loop-device.devices.items c.push.new.self.items c.loop-device.invariant c.in_ok-push.ensures.items
