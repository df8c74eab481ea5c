use Rattle.std.proofs.Common.{◌≡◌, false, take}
use Rattle.std.specs.List.{list_any}
use Rattle.st_player.specs.Cuts.{is_end_of}
use Rattle.st_player.proofs.cuts.is_end_of_one.Given as goal

-- none so far has it as an end
abbrev pub invariant-loop-link : goal.invariant-loop-link
invariant-loop-link l = list_any (is_end_of l.topo l.device) (take l.link-index l.links) ≡ false
