use Rattle.st_gen.specs.FatTrees.{tor_name}
use Rattle.st_gen.proofs.Growing.{mapped}
use Rattle.st_gen.proofs.promises.add_tor_names.Goals as goal

pub loop-i-preserved : goal.loop-i-preserved
loop-i-preserved c = mapped (tor_name c.args.pod) c.args.names.now.items c.loop-i.names.items c.push.new.self.items c.in_ok-name.name c.loop-i.i c.loop-i.invariant c.in_ok-push.ensures.items c.in_ok-name.ensures
