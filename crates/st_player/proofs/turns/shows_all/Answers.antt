use Rattle.st_net.specs.Sets.{is_in}
use Rattle.st_player.proofs.ChangeLemmas.{all_within}
use Rattle.st_player.proofs.turns.shows_all.Goals as goal

pub returns-then-within : goal.returns-then-within
returns-then-within c is =
    all_within c.args.topo.now (is_in c.args.within.now.up) (is_in c.args.up.now) c.is_sound.ensures (c.is_within.ensures.0 is) (c.requires.within.whole c.if-within.true)
