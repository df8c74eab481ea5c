use Rattle.st_gen.specs.FatTrees.{tor_link}
use Rattle.st_gen.proofs.Growing.{mapped}
use Rattle.st_gen.proofs.links.add_tor_links.Goals as goal

pub loop-j-preserved : goal.loop-j-preserved
loop-j-preserved c = mapped (tor_link c.args.pod c.args.tor) c.args.parts.now.items c.loop-j.parts.items c.push.new.self.items c.in_ok-part.part c.loop-j.j c.loop-j.invariant c.in_ok-push.ensures.items c.in_ok-part.ensures
