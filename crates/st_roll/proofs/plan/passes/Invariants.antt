use Rattle.std.proofs.Common.{◌≡◌, ◌<◌, length, All}
use Rattle.st_control.specs.Control.{standing_in}
use Rattle.st_roll.specs.Judging.{AreGroundsOf}
use Rattle.st_roll.specs.Passes.{all_passes}
use Rattle.st_roll.specs.Refusal.{device_refusal}
use Rattle.st_roll.proofs.PlanLaws.{behind_plan}
use Rattle.st_roll.proofs.plan.passes.Given as goal

-- what passes came to so far, with what comes of the rest, is what comes of all devices
abbrev pub invariant-passes : goal.invariant-passes
invariant-passes l =
    (behind_plan l.plan (all_passes (device_refusal l.control.group (standing_in l.control) l.app l.firmware) l.rest.items) ≡ all_passes (device_refusal l.control.group (standing_in l.control) l.app l.firmware) l.initial.rest.items)
    × AreGroundsOf l.control l.grounds
    × All (λ d. d < length l.control.group.devices) l.rest.items

abbrev pub decreases-passes : goal.decreases-passes
decreases-passes l = length l.rest.items
