use Rattle.std.proofs.Common.{rules}
use Rattle.st_player.specs.PictureTexts.{with_beginning}
use Rattle.st_player.proofs.pictures.put_beginning.Goals as goal

pub returns : goal.returns
unfolding with_beginning
returns c = search rules
