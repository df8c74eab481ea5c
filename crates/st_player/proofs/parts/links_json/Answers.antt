use Rattle.st_player.specs.Pictures.{link_data}
use Rattle.st_player.proofs.PictureLemmas.{part_next}
use Rattle.st_player.proofs.parts.links_json.Goals as goal

pub loop-i-preserved : goal.loop-i-preserved
loop-i-preserved c = part_next (link_data c.args.topo.now) c.loop-i.list _ _ c.loop-i.i c.loop-i.invariant c.in_ok-link_json.ensures c.in_ok-push.ensures
