use Rattle.st_player.specs.Pictures.{device_data}
use Rattle.st_player.proofs.PictureLemmas.{part_next}
use Rattle.st_player.proofs.parts.devices_json.Goals as goal

pub loop-i-preserved : goal.loop-i-preserved
loop-i-preserved c = part_next (device_data c.args.topo.now) c.loop-i.list _ _ c.loop-i.i c.loop-i.invariant c.in_ok-device_json.ensures c.in_ok-push.ensures
