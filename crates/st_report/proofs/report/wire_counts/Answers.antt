use Rattle.std.proofs.Common.{◌≡◌, ◌∙◌, length, refl, ap, sym}
use Rattle.st_event.specs.declared.journal.Entry.{Entry}
use Rattle.st_event.specs.Moments.{commands, reports}
use Rattle.st_report.specs.Counts.{is_stale, is_old, stale_count, old_count}
use Rattle.st_report.proofs.Counting.{count_reverse}
use Rattle.st_report.proofs.report.wire_counts.Goals as goal

pub returns : goal.returns
returns c =
    let g = c.args.world.now.history.group in
    let past = c.args.world.now.history.past in
    let entries = c.journal-entries.result.now in
    let sent : c.from.result ≡ length (commands g past) = c.from.ensures ∙ (c.command_count.ensures ∙ ap length c.wire-wire.ensures.commands) in
    let made : c.from-2.result ≡ length (reports g past) = c.from-2.ensures ∙ (c.report_count.ensures ∙ ap length c.wire-wire.ensures.reports) in
    let stale : c.stale_count.result ≡ stale_count past = c.stale_count.ensures ∙ (sym (count_reverse (λ (entry : Entry). is_stale entry.reply) entries) ∙ ap stale_count c.journal-entries.ensures) in
    let old : c.old_count.result ≡ old_count past = c.old_count.ensures ∙ (sym (count_reverse (λ (entry : Entry). is_old entry.reply) entries) ∙ ap old_count c.journal-entries.ensures) in
    rw (sent, made, stale, old) refl
