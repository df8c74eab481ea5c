use Rattle.std.proofs.Common.{◌∙◌}
use Rattle.st_net.proofs.NamePlaces.{position_place}
use Rattle.st_net.proofs.NameLemmas.{when_found}
use Rattle.st_net.proofs.name_index.NameIndex.find.Goals as goal

pub returns-clause-found : goal.returns-clause-found
returns-clause-found c = rw (← c.self.view_is) (c.get_index_of.ensures.index ∙ position_place (λ k. k.items) c.args.name.now c.self.inside.keys.keys)

pub returns-clause-spelled : goal.returns-clause-spelled
returns-clause-spelled c = when_found c.args.name.now _ c.get_index_of.result c.self.invariant (c.get_index_of.ensures.index ∙ position_place (λ k. k.items) c.args.name.now c.self.inside.keys.keys)
