use Rattle.std.proofs.Common.{◌≡◌, ◌++◌}
use Rattle.st_replay.proofs.Replays.{AreAgain}
use Rattle.st_replay.proofs.replaying.replay_all.Given as goal

-- worlds went through the journals of the groups so far, and these groups are left
abbrev pub invariant-loop-topo : goal.invariant-loop-topo
invariant-loop-topo l = record {
  again : AreAgain l.yielded l.journals l.worlds.items;
  all : l.fn.topos.items ≡ l.yielded ++ l.topo-iterator.rest.items;
}
