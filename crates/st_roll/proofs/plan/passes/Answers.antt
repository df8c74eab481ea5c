use Rattle.std.proofs.Common.{◌≡◌, ◌<◌, ℕ, List, length, ap, sym, subst, ◌∙◌, arith}
use Rattle.std.specs.Prelude.{All}
use Rattle.std.proofs.lemmas.Bool.Decides.{nat_tests}
use Rattle.std.proofs.lemmas.Grind.{common_steps}
use Rattle.st_control.specs.Control.{standing_in}
use Rattle.st_roll.specs.Passes.{PassView, PlanView, all_passes, left_devices, pass_over, plan_with}
use Rattle.st_roll.specs.Refusal.{device_refusal}
use Rattle.st_roll.proofs.PassLaws.{pass_in, fewer_of}
use Rattle.st_roll.proofs.PlanLaws.{behind_plan, pass_more}
use Rattle.st_roll.proofs.plan.passes.Goals as goal

pub passes-init : goal.passes-init
passes-init c =
    let all = all_passes (device_refusal c.args.control.now.group (standing_in c.args.control.now) c.args.app c.args.firmware) c.args.devices.items in
    (ap (λ (plan : PlanView). behind_plan plan all) c.new-plan.ensures, c.in_ok-grounds.ensures, c.requires)

pub passes-smaller : goal.passes-smaller
passes-smaller c =
    let r = device_refusal c.args.control.now.group (standing_in c.args.control.now) c.args.app c.args.firmware in
    let rest = c.passes.rest.items in
    let some : 0 < length rest = grind (arith, common_steps, nat_tests) in
    let passed : c.in_ok-pass.pass ≡ pass_over r rest = c.in_ok-pass.ensures.pass ∙ ap (pass_over r) c.as_slice.ensures.value in
    let left : c.in_ok-rest.rest.items ≡ left_devices (pass_over r rest).left = c.in_ok-rest.ensures ∙ ap (λ (p : PassView). left_devices p.left) passed in
    subst (λ (ds : List ℕ). length ds < length rest) (sym left) (fewer_of r rest some)

pub passes-preserved : goal.passes-preserved
passes-preserved c =
    let k = c.args.control.now in
    let low : ℕ → Type 0 = λ d. d < length k.group.devices in
    let r = device_refusal k.group (standing_in k) c.args.app c.args.firmware in
    let rest = c.passes.rest.items in
    let all = all_passes r c.args.devices.items in
    let some : 0 < length rest = grind (arith, common_steps, nat_tests) in
    let passed : c.in_ok-pass.pass ≡ pass_over r rest = c.in_ok-pass.ensures.pass ∙ ap (pass_over r) c.as_slice.ensures.value in
    let left : c.in_ok-rest.rest.items ≡ left_devices (pass_over r rest).left = c.in_ok-rest.ensures ∙ ap (λ (p : PassView). left_devices p.left) passed in
    let plan : c.add.new.self ≡ plan_with c.passes.plan (pass_over r rest) = c.in_ok-add.ensures ∙ ap (plan_with c.passes.plan) passed in (
      ap (λ (p : PlanView). behind_plan p (all_passes r c.in_ok-rest.rest.items)) plan
          ∙ ap (λ (ds : List ℕ). behind_plan (plan_with c.passes.plan (pass_over r rest)) (all_passes r ds)) left
          ∙ pass_more r all c.passes.plan rest some c.passes.invariant.0,
      c.pass_over.ensures.grounds,
      subst (All low) (sym left) (pass_in low r rest c.passes.invariant.2).left,
    )
