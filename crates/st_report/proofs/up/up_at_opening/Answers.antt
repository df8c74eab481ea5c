use Rattle.std.proofs.Common.{[], refl, rules}
use Rattle.st_event.specs.Observed.{actual}
use Rattle.st_control.proofs.Ups.{ups_are}
use Rattle.st_report.proofs.up.up_at_opening.Goals as goal

pub returns-clause-up : goal.returns-clause-up
returns-clause-up c =
    let g = c.args.topo.now in
    ups_are g g [] c.passing.result refl tt (c.passing.ensures.passing (actual g []) (λ e b own post. search rules))
