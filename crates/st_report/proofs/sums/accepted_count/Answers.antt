use Rattle.std.proofs.Common.{◌≡◌, ◌∙◌, rules, ap, sym}
use Rattle.st_event.specs.declared.journal.Entry.{Entry}
use Rattle.st_event.specs.Proposals.{is_accepting}
use Rattle.st_report.specs.Sums.{accepted_count}
use Rattle.st_report.proofs.Counting.{count_reverse}
use Rattle.st_report.proofs.sums.accepted_count.Goals as goal

pub returns : goal.returns
returns c =
    let entries = c.journal-entries.result.now in
    let counted : c.count.result ≡ accepted_count entries = search rules in
    counted ∙ (sym (count_reverse (λ (entry : Entry). is_accepting entry.reply) entries) ∙ ap accepted_count c.journal-entries.ensures)
