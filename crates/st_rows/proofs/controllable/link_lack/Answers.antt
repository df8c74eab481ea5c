use Rattle.st_rows.proofs.LinkEnds.{is_link_at}
use Rattle.st_rows.proofs.controllable.link_lack.Goals as goal

pub level_lack-first-requires-clause-entity : goal.level_lack-first-requires-clause-entity
level_lack-first-requires-clause-entity c = rw c.ends-a.ensures.a (is_link_at _ _ c.args.link c.is_sound.ensures.links c.requires.link).a_in

pub level_lack-second-requires-clause-entity : goal.level_lack-second-requires-clause-entity
level_lack-second-requires-clause-entity c = rw c.ends-a.ensures.b (is_link_at _ _ c.args.link c.is_sound.ensures.links c.requires.link).b_in
