use Rattle.std.proofs.Common.{◌≡◌, take}
use Rattle.std.specs.Prelude.{flat_map}
use Rattle.st_gen.specs.TreeNames.{step_text}
use Rattle.st_gen.proofs.names.name_at.Given as goal

abbrev pub invariant-loop-step : goal.invariant-loop-step
invariant-loop-step l = l.text ≡ flat_map step_text (take l.step-index l.steps)
