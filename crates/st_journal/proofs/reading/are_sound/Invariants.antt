use Rattle.std.proofs.Common.{drop}
use Rattle.std.specs.List.{AllByRecursion}
use Rattle.st_net.specs.Groups.{IsSound}
use Rattle.st_journal.proofs.reading.are_sound.Given as goal

-- where those that are left are sound, all are
abbrev pub invariant-loop-topo : goal.invariant-loop-topo
invariant-loop-topo l = AllByRecursion IsSound (drop l.topo-index l.topos) → AllByRecursion IsSound l.topos
