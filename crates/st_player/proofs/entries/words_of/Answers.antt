use Rattle.std.proofs.Common.{◌∙◌, ap, sym, [], ◌∷◌, ◌++◌, append_assoc}
use Rattle.st_text.specs.Words.{spaced}
use Rattle.st_entry.specs.Entries.{event_words, reply_words}
use Rattle.st_entry.specs.Keywords.{reply_mark}
use Rattle.st_entry.proofs.Lines.{spaced_both}
use Rattle.st_player.proofs.entries.words_of.Goals as goal

pub returns : goal.returns
returns c =
    let event = event_words c.args.topo.now c.args.apps.now c.args.entry.now.event in
    let reply = reply_words c.args.topo.now c.args.apps.now c.args.entry.now.reply in
    let first = c.in_ok-print_event.ensures ∙ ap (λ t. t ++ spaced event) c.new-text.ensures in
    let second = c.in_ok-print_word.ensures.ok ∙ ap (λ t. t ++ 32 ∷ 58 ∷ []) first in
    c.in_ok-print_reply.ensures ∙ (ap (λ t. t ++ spaced reply) second ∙ (append_assoc (spaced event) (32 ∷ 58 ∷ []) (spaced reply) ∙ sym (spaced_both event (reply_mark ∷ reply))))
