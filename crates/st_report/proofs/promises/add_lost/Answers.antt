use Rattle.std.proofs.Common.{◌≡◌, ◌∙◌, ap, refl}
use Rattle.st_report.specs.Inside.{lost_text}
use Rattle.st_entry.specs.Plain.{is_plain}
use Rattle.st_report.proofs.Plain.{lost_plain}
use Rattle.st_report.proofs.promises.add_lost.Goals as goal

pub add-requires : goal.add-requires
add-requires c =
    let same : c.print_words.new.out ≡ lost_text c.args.topo.now c.promise-promise.result = c.in_ok-print_words.ensures.ok ∙ rw (c.new-text.ensures, c.entity_name-a.ensures, c.entity_name-b.ensures) refl in
    ap is_plain same ∙ lost_plain c.args.topo.now c.promise-promise.result c.is_sound.ensures
