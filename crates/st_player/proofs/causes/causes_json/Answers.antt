use Rattle.std.proofs.Common.{◌∙◌, ap₂}
use Rattle.st_player.specs.Causes.{causes_data, causes_of}
use Rattle.st_player.proofs.causes.causes_json.Goals as goal

pub returns : goal.returns
unfolding causes_of
returns c = c.in_ok-causes.ensures ∙ ap₂ causes_data c.in_ok-sets.ensures c.in_ok-failed.ensures
