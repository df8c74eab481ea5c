use Rattle.std.proofs.Common.{◌≡◌, ◌∙◌, ◌∷◌, ap, sym, refl}
use Rattle.std.proofs.lemmas.List.{append-nil}
use Rattle.st_entry.specs.Words.{assignment}
use Rattle.st_entry.specs.Plain.{is_plain}
use Rattle.st_report.proofs.Plain.{change_plain}
use Rattle.st_report.proofs.state.add_change.Goals as goal

pub add-requires : goal.add-requires
add-requires c =
    let word = assignment c.args.topo.now (record { entity = c.args.entity; var = c.args.var; value = c.args.target }) in
    let printed : c.print_word.new.out ≡ 32 ∷ word = c.in_ok-print_word.ensures.ok ∙ rw (c.new-text.ensures, c.entity_name-name.ensures, c.var_word.ensures) refl in
    ap is_plain (printed ∙ ap (λ t. 32 ∷ t) (sym (append-nil word))) ∙ change_plain c.args.topo.now (record { entity = c.args.entity; var = c.args.var; value = c.args.target }) c.is_sound.ensures
