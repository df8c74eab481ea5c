use Rattle.std.proofs.Common.{◌≡◌, ◌∙◌, ◌++◌, ◌∷◌, [], ◌+◌, Option, Some, None, length, refl, ap, sym}
use Rattle.std.specs.Prelude.{slice_get}
use Rattle.std.proofs.lemmas.List.{append-nil}
use Rattle.std.proofs.lemmas.Option.{slice_get_past, slice_get_read}
use Rattle.st_text.proofs.PrintLemmas.{ok_by}
use Rattle.st_net.specs.declared.entity.AppId.{AppId}
use Rattle.st_report.specs.Inside.{texts_where}
use Rattle.st_entry.specs.Plain.{is_plain}
use Rattle.st_report.proofs.Plain.{receipt_plain}
use Rattle.st_report.proofs.receipts.add_decided.Goals as goal

pub add-requires : goal.add-requires
add-requires c = ap is_plain c.in_ok-receipt_text-in-Some.ensures ∙ receipt_plain c.args.topo.now c.args.apps.now (c.args.decided + 1) c.in-Some.app.now c.args.verdict.now c.is_sound.ensures c.requires

pub returns-in_ok-receipt_text-in-Some : goal.returns-in_ok-receipt_text-in-Some
returns-in_ok-receipt_text-in-Some c =
    let before = c.args.lines.now in
    let given : slice_get c.args.proposers.now c.args.decided ≡ Some c.in-Some.app.now = slice_get_read c.args.proposers.now (length c.args.proposers.now) c.args.decided c.in-Some.app.now refl c.in-Some.ensures.lookup.3.0 c.in-Some.ensures.lookup.1 in
    ok_by c.add.result (λ added. added ∙ (ap (λ t. before ++ t ∷ []) c.in_ok-receipt_text-in-Some.ensures ∙ ap (λ (o : Option AppId). before ++ texts_where c.args.topo.now c.args.apps.now (c.args.decided + 1) o c.args.verdict.now) (sym given))) c.add.ensures

pub returns-in-None : goal.returns-in-None
returns-in-None c =
    let before = c.args.lines.now in
    let none : slice_get c.args.proposers.now c.args.decided ≡ None = slice_get_past c.args.proposers.now c.args.decided c.in-None.ensures.lookup.3 in
    sym (append-nil before) ∙ ap (λ (o : Option AppId). before ++ texts_where c.args.topo.now c.args.apps.now (c.args.decided + 1) o c.args.verdict.now) (sym none)
