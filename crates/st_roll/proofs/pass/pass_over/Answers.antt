use Rattle.std.proofs.Common.{◌<◌, ℕ, length, take, ap, sym, subst, ◌∙◌, get_or}
use Rattle.std.specs.Prelude.{All}
use Rattle.std.proofs.lemmas.List.Elements.{All-take}
use Rattle.std.proofs.lemmas.List.Sums.{fold_more}
use Rattle.st_control.specs.Control.{standing_in}
use Rattle.st_roll.specs.Passes.{PassView, no_pass, passed}
use Rattle.st_roll.specs.Refusal.{device_refusal}
use Rattle.st_roll.proofs.PassLaws.{pass_in}
use Rattle.st_roll.proofs.pass.pass_over.Goals as goal

pub take-requires-clause-batch : goal.take-requires-clause-batch
take-requires-clause-batch c =
    let k = c.args.control.now in
    let low : ℕ → Type 0 = λ d. d < length k.group.devices in
    let some = take c.loop-device.device-index c.args.devices.now in
    subst (λ (p : PassView). All low p.batch) (sym c.loop-device.invariant.0) (pass_in low (device_refusal k.group (standing_in k) c.args.app c.args.firmware) some (All-take low c.loop-device.device-index c.args.devices.now c.requires.devices)).batch

pub loop-device-preserved : goal.loop-device-preserved
loop-device-preserved c =
    let r = device_refusal c.args.control.now.group (standing_in c.args.control.now) c.args.app c.args.firmware in
    let d = get_or c.args.devices.now c.loop-device.device-index 0 in
    (c.in_ok-take.ensures.passed ∙ ap (λ (p : PassView). passed r p d) c.loop-device.invariant.0 ∙ sym (fold_more (passed r) no_pass c.args.devices.now c.loop-device.device-index 0 c.loop-device-test.true), c.take.ensures.grounds)
