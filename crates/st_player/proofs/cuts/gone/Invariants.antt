use Rattle.std.proofs.Common.{◌≡◌, map, take}
use Rattle.std.specs.Prelude.{◌&&◌, not}
use Rattle.std.specs.List.{filter}
use Rattle.st_net.specs.InOrder.{entities_of, place_in}
use Rattle.st_net.specs.Sets.{is_in}
use Rattle.st_player.specs.Cuts.{is_part_of}
use Rattle.st_player.proofs.cuts.gone.Given as goal

-- the entities so far
abbrev pub invariant-loop-place : goal.invariant-loop-place
invariant-loop-place l = l.numbers.items ≡ map (place_in l.topo) (filter (λ e. is_part_of l.topo l.links e && not (is_in l.sure e)) (take l.place (entities_of l.topo)))
