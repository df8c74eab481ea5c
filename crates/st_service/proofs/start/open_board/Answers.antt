-- The board is of the group that the world's control has.
use Rattle.std.proofs.Common.{◌≡◌, ◌∙◌}
use Rattle.st_service.proofs.start.open_board.Goals as goal

pub start-requires : goal.start-requires
start-requires g c = c.requires

pub returns-clause-board : goal.returns-clause-board
returns-clause-board g c = let same : c.topo.result.now ≡ c.args.world.now.history.group = c.topo.ensures.topo ∙ c.control.ensures.group in rw (← same) c.start.ensures.board

pub returns-clause-count : goal.returns-clause-count
returns-clause-count g c = c.start.ensures.count

pub returns-clause-readers : goal.returns-clause-readers
returns-clause-readers g c = let same : c.topo.result.now ≡ c.args.world.now.history.group = c.topo.ensures.topo ∙ c.control.ensures.group in rw (← same) c.start.ensures.readers
