use Rattle.std.proofs.Common.{arith}
use Rattle.st_net.proofs.WalkLaws.{is_link_at}
use Rattle.st_player.proofs.cuts.is_across.Goals as goal

pub bounds-marks-a : goal.bounds-marks-a
bounds-marks-a c = let link = is_link_at _ _ c.args.link c.is_sound.ensures.links c.requires.link in omega (arith, link.a_in, c.ends-a.ensures.a, c.requires.count)

pub bounds-marks-b : goal.bounds-marks-b
bounds-marks-b c = let link = is_link_at _ _ c.args.link c.is_sound.ensures.links c.requires.link in omega (arith, link.b_in, c.ends-a.ensures.b, c.requires.count)
