use Rattle.std.proofs.Common.{ap, sym, ◌∙◌}
use Rattle.std.specs.Prelude.{is_some}
use Rattle.st_promise.proofs.ReachLaws.{found_closed}
use Rattle.st_promise.proofs.reaching.reach.Goals as goal

pub returns : goal.returns
returns c =
    found_closed c.args.topo.now _ c.args.a c.args.b c.in_ok-found.found c.in_ok-side-in-None.field-0 c.is_sound.ensures c.in_ok-found.ensures.search c.in_ok-found.ensures.root c.requires.a c.in_ok-found.ensures.settled (sym c.in_ok-walk.ensures.none ∙ ap is_some c.in-None.is) c.in_ok-side-in-None.ensures
