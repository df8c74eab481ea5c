use Rattle.std.proofs.Common.{◌∙◌, ◌++◌, ap}
use Rattle.st_net.specs.Groups.{Group}
use Rattle.st_report.specs.Sums.{parts_line, sums_text}
use Rattle.st_report.proofs.Adding.{four_added}
use Rattle.st_report.proofs.sums.sums.Goals as goal

pub returns : goal.returns
returns c =
    let parts = c.in_ok-print_parts.ensures ∙ ap (λ (g : Group). c.new-text.result ++ parts_line g) (c.topo.ensures.topo ∙ c.control.ensures.group) in
    four_added c.new-text.result _ _ _ _ _ _ _ _ parts c.in_ok-print_receipts.ensures c.in_ok-print_sent.ensures c.in_ok-print_held.ensures
    ∙ ap (λ t. t ++ sums_text c.args.world.now.history.group c.args.world.now.history.past) c.new-text.ensures
