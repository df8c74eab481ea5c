use Rattle.std.proofs.Common.{◌≡◌, ◌<◌, ℕ, length, sym, subst, rules}
use Rattle.std.specs.Prelude.{All, not}
use Rattle.std.proofs.lemmas.List.Elements.{All-filter}
use Rattle.st_control.specs.Control.{standing_in}
use Rattle.st_roll.specs.declared.plan.Roll.{Roll}
use Rattle.st_roll.specs.Kept.{IsRoll}
use Rattle.st_roll.specs.Roll.{is_at, roll_of}
use Rattle.st_roll.proofs.RollLaws.{HasLaws, is_roll}
use Rattle.st_roll.proofs.plan.plan_roll.Goals as goal

pub passes-requires : goal.passes-requires
passes-requires c =
    let k = c.args.control.now in
    let low : ℕ → Type 0 = λ d. d < length k.group.devices in
    subst (All low) (sym c.in_ok-same.ensures.others) (All-filter (λ d. not (is_at (standing_in k) c.args.firmware d)) low c.args.devices.now c.requires)

pub returns-clause-kept : goal.returns-clause-kept
returns-clause-kept c =
    let k = c.args.control.now in
    let roll : Roll = record { batches = c.new.result; stuck = c.new-2.result; same = c.new-3.result } in
    let is : roll ≡ roll_of k.group (standing_in k) c.args.app c.args.devices.now c.args.firmware = search rules in
    let laws : HasLaws k.group = subst HasLaws c.topo.ensures.topo (record { more = c.demands_are_judged.ensures.more; tells = c.demands_are_judged.ensures.tells; none_breaks = c.demands_are_judged.ensures.none_breaks }) in
    subst (IsRoll k.group (standing_in k) c.args.app c.args.devices.now c.args.firmware) (sym is) (is_roll k.group (standing_in k) c.args.app c.args.devices.now c.args.firmware laws)
