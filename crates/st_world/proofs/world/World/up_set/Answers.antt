use Rattle.std.proofs.Common.{◌≡◌, ◌∙◌, rules}
use Rattle.st_event.specs.Observed.{actual}
use Rattle.st_control.proofs.Ups.{ups_are}
use Rattle.st_world.proofs.world.World.up_set.Goals as goal

pub returns-clause-up : goal.returns-clause-up
returns-clause-up c =
    let g = c.args.self.now.history.group in
    let past = c.args.self.now.history.past in
    let same : c.topo.result.now ≡ g = c.topo.ensures.topo ∙ c.control.ensures.group in
    ups_are g c.topo.result.now past c.passing.result same c.is_legal.ensures.legal (c.passing.ensures.passing (actual g past) (λ e b own post. search rules))
