use Rattle.std.proofs.Common.{◌≡◌, ℕ, ◌<◌, List, [], ◌∷◌, ◌++◌, length, ap, sym, subst, ◌∙◌, OnOk}
use Rattle.std.specs.Prelude.{All}
use Rattle.std.proofs.lemmas.List.Elements.{All-push}
use Rattle.st_net.specs.declared.entity.Row.{Row}
use Rattle.st_net.specs.Ranges.{RowFits}
use Rattle.st_control.specs.Control.{standing_in}
use Rattle.st_roll.specs.Firmware.{firmware_rows}
use Rattle.st_roll.specs.Passes.{PassView}
use Rattle.st_roll.specs.Refusal.{refusal_in, device_refusal}
use Rattle.st_roll.proofs.JudgingLaws.{rows_fit}
use Rattle.st_roll.proofs.PassLaws.{with_room}
use Rattle.st_roll.proofs.pass.Pass.take.Goals as goal

pub refusal-requires-clause-rows : goal.refusal-requires-clause-rows
refusal-requires-clause-rows c =
    let g = c.args.control.now.group in
    let low : ℕ → Type 0 = λ d. d < length g.devices in
    let batch_is : c.as_slice.result.now ≡ c.args.self.now.batch = c.as_slice.ensures.value ∙ ap (λ (p : PassView). p.batch) c.self.view_is in
    let rows_are : c.as_slice-2.result.now ≡ firmware_rows c.args.firmware (c.args.self.now.batch ++ c.args.device ∷ []) = c.as_slice-2.ensures.value ∙ c.in_ok-rows.ensures ∙ ap (λ (batch : List ℕ). firmware_rows c.args.firmware (batch ++ c.args.device ∷ [])) batch_is in
    subst (All (RowFits g)) (sym rows_are) (rows_fit g c.args.firmware (c.args.self.now.batch ++ c.args.device ∷ []) c.ranges.firmware.fits (All-push low c.args.self.now.batch c.args.device c.requires.batch c.requires.device))

pub returns-clause-passed : goal.returns-clause-passed
returns-clause-passed c =
    let k = c.args.control.now in
    let batch_is : c.as_slice.result.now ≡ c.args.self.now.batch = c.as_slice.ensures.value ∙ ap (λ (p : PassView). p.batch) c.self.view_is in
    let rows_are : c.as_slice-2.result.now ≡ firmware_rows c.args.firmware (c.args.self.now.batch ++ c.args.device ∷ []) = c.as_slice-2.ensures.value ∙ c.in_ok-rows.ensures ∙ ap (λ (batch : List ℕ). firmware_rows c.args.firmware (batch ++ c.args.device ∷ [])) batch_is in
    let refused = c.in_ok-refusal.ensures.cause ∙ ap (λ (rows : List Row). refusal_in k.group (standing_in k) c.args.app rows) rows_are in
    let placed_is = with_room (device_refusal k.group (standing_in k) c.args.app c.args.firmware) c.args.self.now c.args.device c.in_ok-refusal.refusal (sym c.has_room.ensures ∙ c.if-not-has_room.false) refused in
    subst (λ (p : PassView). OnOk c.place.result (c.place.new.self ≡ p)) placed_is c.place.ensures
