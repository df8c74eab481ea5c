use Rattle.std.proofs.Common.{ap, length, arith}
use Rattle.st_player.proofs.PictureLemmas.{kinds_few}
use Rattle.st_player.proofs.openings.put_states.Goals as goal

pub places_in-requires : goal.places_in-requires
places_in-requires c = omega (arith, kinds_few c.args.states.now, c.requires, ap length c.in_ok-kinds.ensures, ap length c.as_slice-2.ensures.value)
