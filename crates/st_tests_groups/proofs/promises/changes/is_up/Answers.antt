use Rattle.std.proofs.Common.{arith}
use Rattle.st_net.proofs.WalkLaws.{is_link_at}
use Rattle.st_tests_groups.proofs.promises.changes.is_up.Goals as goal

pub has-requires-then-has : goal.has-requires-then-has
has-requires-then-has c = let link = is_link_at _ _ c.args.link c.is_sound.ensures.links c.requires.link in omega (arith, link.a_in, link.b_in, c.ends-a.ensures.a, c.ends-a.ensures.b, c.requires.marks.devices)

pub has-requires-then-has-2 : goal.has-requires-then-has-2
has-requires-then-has-2 c = let link = is_link_at _ _ c.args.link c.is_sound.ensures.links c.requires.link in omega (arith, link.a_in, link.b_in, c.ends-a.ensures.a, c.ends-a.ensures.b, c.requires.marks.devices)
