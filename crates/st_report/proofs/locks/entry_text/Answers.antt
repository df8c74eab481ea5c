use Rattle.std.proofs.Common.{◌∙◌, ◌++◌, ap, sym}
use Rattle.st_text.specs.Words.{spaced}
use Rattle.st_entry.specs.Entries.{event_words, reply_words}
use Rattle.st_entry.proofs.Lines.{spaced_both}
use Rattle.st_report.proofs.locks.entry_text.Goals as goal

pub returns : goal.returns
returns c =
    let event = event_words c.args.topo.now c.args.apps.now c.args.entry.now.event in
    let reply = reply_words c.args.topo.now c.args.apps.now c.args.entry.now.reply in
    c.in_ok-print_reply.ensures ∙ (ap (λ t. t ++ spaced reply) (c.in_ok-print_event.ensures ∙ ap (λ t. t ++ spaced event) c.new-text.ensures) ∙ sym (spaced_both event reply))
