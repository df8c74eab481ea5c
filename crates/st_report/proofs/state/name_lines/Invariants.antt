use Rattle.std.proofs.Common.{◌≡◌, ◌∷◌, [], take}
use Rattle.std.specs.Prelude.{flat_map}
use Rattle.st_text.specs.Words.{spaced}
use Rattle.st_net.specs.Groups.{name_of}
use Rattle.st_report.proofs.state.name_lines.Given as goal

abbrev pub invariant-loop-entity : goal.invariant-loop-entity
invariant-loop-entity l = l.lines ≡ flat_map (λ e. spaced (name_of l.topo e ∷ []) ∷ []) (take l.entity-index l.entities)
