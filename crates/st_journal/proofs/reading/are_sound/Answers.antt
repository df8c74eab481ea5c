use Rattle.std.proofs.Common.{arith}
use Rattle.std.proofs.lemmas.List.{drop_all}
use Rattle.st_journal.proofs.SoundGroups.{one_more}
use Rattle.st_journal.proofs.reading.are_sound.Goals as goal

pub loop-topo-preserved : goal.loop-topo-preserved
loop-topo-preserved c = λ rest. c.loop-topo.invariant (one_more c.args.topos.now c.loop-topo.topo-index c.topo-item.result c.loop-topo-test.true c.topo-item.is c.is_sound.ensures rest)

pub returns : goal.returns
returns c = c.loop-topo.invariant (rw (drop_all c.loop-topo.topo-index c.args.topos.now (omega arith)) tt)
