use Rattle.std.proofs.Common.{◌≡◌, ◌∙◌, ◌∷◌, refl, ap, sym}
use Rattle.std.proofs.lemmas.List.{append-nil}
use Rattle.st_net.specs.Groups.{name_of}
use Rattle.st_entry.specs.Plain.{is_plain}
use Rattle.st_report.proofs.Plain.{named_plain}
use Rattle.st_report.proofs.state.add_name.Goals as goal

pub add-requires : goal.add-requires
add-requires c =
    let name = name_of c.args.topo.now c.args.entity in
    let printed : c.print_word.new.out ≡ 32 ∷ name = c.in_ok-print_word.ensures.ok ∙ rw (c.new-text.ensures, c.entity_name-name.ensures) refl in
    ap is_plain (printed ∙ ap (λ t. 32 ∷ t) (sym (append-nil name))) ∙ named_plain c.args.topo.now c.args.entity c.is_sound.ensures
