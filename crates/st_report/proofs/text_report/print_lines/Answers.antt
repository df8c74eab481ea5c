use Rattle.std.proofs.Common.{◌∙◌, ◌++◌, ◌∷◌, [], List, ℕ, ap, sym}
use Rattle.std.proofs.lemmas.List.{append-nil, take_all}
use Rattle.st_report.specs.Inside.{lines_behind}
use Rattle.st_report.proofs.Adding.{flat_next}
use Rattle.st_report.proofs.text_report.print_lines.Goals as goal

pub loop-text-init : goal.loop-text-init
loop-text-init c = sym (append-nil c.args.out.now)

pub loop-text-preserved : goal.loop-text-preserved
loop-text-preserved c =
    flat_next (λ (text : List ℕ). c.args.word.now ++ text ++ 10 ∷ []) c.as_slice-text-items.result.now c.loop-text.text-index c.text-item.result c.text-item.result c.args.out.now c.loop-text.out c.print_behind.new.out c.loop-text-test.true c.text-item.is c.loop-text.invariant
    (c.in_ok-print_behind.ensures ∙ ap (λ t. c.loop-text.out ++ (c.args.word.now ++ t ++ 10 ∷ [])) c.bytes.ensures)

pub returns : goal.returns
returns c = c.loop-text.invariant ∙ ap (λ (texts : List (List ℕ)). c.args.out.now ++ lines_behind c.args.word.now texts) (take_all c.loop-text.text-index c.as_slice-text-items.result.now c.loop-text-test.false ∙ c.as_slice-text-items.ensures.value)
