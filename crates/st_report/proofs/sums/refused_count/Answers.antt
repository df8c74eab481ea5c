use Rattle.std.proofs.Common.{◌≡◌, ◌∙◌, rules, ap, sym}
use Rattle.st_event.specs.declared.journal.Entry.{Entry}
use Rattle.st_report.specs.Sums.{is_refusing, refused_count}
use Rattle.st_report.proofs.Counting.{count_reverse}
use Rattle.st_report.proofs.sums.refused_count.Goals as goal

pub returns : goal.returns
returns c =
    let entries = c.journal-entries.result.now in
    let counted : c.count.result ≡ refused_count entries = search rules in
    counted ∙ (sym (count_reverse (λ (entry : Entry). is_refusing entry.reply) entries) ∙ ap refused_count c.journal-entries.ensures)
