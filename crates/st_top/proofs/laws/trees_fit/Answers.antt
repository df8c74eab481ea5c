use Rattle.st_top.proofs.Trees.{trees_fit, trees_have_room}
use Rattle.st_top.proofs.laws.trees_fit.Goals as goal

pub returns-clause-room : goal.returns-clause-room
returns-clause-room c = trees_have_room

pub returns-clause-trees : goal.returns-clause-trees
returns-clause-trees c = trees_fit
