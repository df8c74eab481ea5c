use Rattle.std.proofs.Common.{subst}
use Rattle.st_player.specs.declared.touched.Touched.{Touched}
use Rattle.st_player.specs.Touched.{HasMark}
use Rattle.st_player.proofs.touched.Touched.may_move.Goals as goal

pub has-requires : goal.has-requires
has-requires c = subst (λ (t : Touched). HasMark t c.args.entity) c.in-Altered.is c.requires
