use Rattle.std.proofs.Common.{◌≡◌, ◌∙◌, ◌++◌, ◌∷◌, [], Bool, List, ℕ, cond, ap, sym}
use Rattle.std.specs.Prelude.{flat_map}
use Rattle.std.proofs.lemmas.List.{append-nil, take_all}
use Rattle.st_text.specs.Words.{spaced}
use Rattle.st_entry.specs.Entries.{event_words, reply_words}
use Rattle.st_entry.specs.Plain.{is_plain}
use Rattle.st_report.proofs.Adding.{flat_next}
use Rattle.st_report.proofs.Gathered.{lock_texts, locks_are}
use Rattle.st_report.proofs.Plain.{lock_plain}
use Rattle.st_report.proofs.locks.lock_lines.Goals as goal
use Rattle.st_report.proofs.locks.lock_lines.Goals.{then-is_of_lock+in_ok-entry_text+in_ok-add, else-is_of_lock}

pub loop-entry-init : goal.loop-entry-init
loop-entry-init c = c.new-lines.ensures

pub add-requires : goal.add-requires
add-requires c =
    let event = c.entry-item.result.event in
    let reply = c.entry-item.result.reply in
    ap is_plain c.in_ok-entry_text.ensures ∙ lock_plain c.args.topo.now c.args.apps.now event reply c.is_sound.ensures c.requires

pub loop-entry-preserved : goal.loop-entry-preserved
loop-entry-preserved c =
    let x = c.entry-item.result in
    let before = c.loop-entry.lines in
    let text : List ℕ = spaced (event_words c.args.topo.now c.args.apps.now x.event ++ reply_words c.args.topo.now c.args.apps.now x.reply) in
    let added : c.if-is_of_lock.lines ≡ before ++ lock_texts c.args.topo.now c.args.apps.now x = elim c.if-is_of_lock.branch [
      | then-is_of_lock+in_ok-entry_text+in_ok-add w ↦
          w.lines-is ∙ (w.in_ok-add.ensures ∙ (ap (λ t. before ++ t ∷ []) w.in_ok-entry_text.ensures ∙ ap (λ (b : Bool). before ++ cond b (text ∷ []) []) (sym (sym c.is_of_lock.ensures ∙ w.if-is_of_lock.true))))
      | else-is_of_lock w ↦
          w.lines-is ∙ (sym (append-nil before) ∙ ap (λ (b : Bool). before ++ cond b (text ∷ []) []) (sym (sym c.is_of_lock.ensures ∙ w.if-is_of_lock.false)))
    ] in
    flat_next (lock_texts c.args.topo.now c.args.apps.now) c.args.entries.now c.loop-entry.entry-index x x [] before c.if-is_of_lock.lines c.loop-entry-test.true c.entry-item.is c.loop-entry.invariant added

pub returns : goal.returns
returns c = c.loop-entry.invariant ∙ (ap (flat_map (lock_texts c.args.topo.now c.args.apps.now)) (take_all c.loop-entry.entry-index c.args.entries.now c.loop-entry-test.false) ∙ sym (locks_are c.args.topo.now c.args.apps.now c.args.entries.now))
