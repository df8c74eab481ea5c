use Rattle.std.proofs.Common.{rules}
use Rattle.st_player.specs.Pictures.{opening_data}
use Rattle.st_player.proofs.openings.opening_json.Goals as goal

pub returns : goal.returns
unfolding opening_data
returns c = search rules
