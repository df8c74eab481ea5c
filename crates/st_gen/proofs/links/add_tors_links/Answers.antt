use Rattle.st_gen.specs.FatTrees.{tor_links}
use Rattle.st_gen.proofs.Growing.{joined}
use Rattle.st_gen.proofs.links.add_tors_links.Goals as goal

pub loop-tor-preserved : goal.loop-tor-preserved
loop-tor-preserved c = joined (tor_links c.args.half c.args.pod) c.args.parts.now.items c.loop-tor.parts.items c.add_tor_links.new.parts.items c.loop-tor.tor c.loop-tor.invariant c.in_ok-add_tor_links.ensures
