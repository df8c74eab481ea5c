use Rattle.std.proofs.Common.{◌≡◌, ◌∙◌, ◌++◌, ◌∷◌, [], refl, ap, sym}
use Rattle.st_text.specs.Printed.{variable_word}
use Rattle.st_text.specs.Words.{spaced}
use Rattle.st_token.specs.Words.{var_word}
use Rattle.st_entry.proofs.Lines.{spaced_both}
use Rattle.st_entry.specs.Saws.{saw_words}
use Rattle.st_entry.specs.Words.{Words, app_word}
use Rattle.st_entry.specs.Plain.{is_plain}
use Rattle.st_report.proofs.Plain.{seen_plain}
use Rattle.st_report.proofs.logs.add_seen.Goals as goal

pub add-requires : goal.add-requires
add-requires c =
    let entry = c.args.entry.now in
    let group = c.group_name-group.result.now in
    let name = c.name_in.result.now in
    let head : Words = app_word c.args.apps.now c.args.app ∷ group ∷ variable_word name (var_word entry.var) ∷ [] in
    let printed : c.print_words.new.out ≡ spaced head = c.in_ok-print_words.ensures.ok ∙ rw (c.new-text.ensures, c.app_name.ensures, c.var_word.ensures) refl in
    let whole : c.print_saw.new.out ≡ spaced (head ++ saw_words entry.saw) = c.in_ok-print_saw.ensures ∙ (ap (λ t. t ++ spaced (saw_words entry.saw)) printed ∙ sym (spaced_both head (saw_words entry.saw))) in
    ap is_plain whole ∙ seen_plain c.args.apps.now c.args.app group name entry.var entry.saw c.requires c.group_name-group.ensures.plain c.name_in.ensures.plain
