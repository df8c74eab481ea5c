use Rattle.std.proofs.Common.{◌≡◌, map, take}
use Rattle.std.specs.Prelude.{flat_map}
use Rattle.st_text.specs.Words.{spaced}
use Rattle.st_net.specs.InOrder.{entities_of}
use Rattle.st_overlay.specs.Values.{value_in}
use Rattle.st_report.specs.Lines.{changed_words}
use Rattle.st_report.proofs.state.target_lines.Given as goal

abbrev pub invariant-loop-place : goal.invariant-loop-place
invariant-loop-place l = l.lines ≡ flat_map (λ e. map spaced (changed_words l.topo (value_in l.target) e)) (take l.place (entities_of l.topo))
