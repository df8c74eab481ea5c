use Rattle.std.proofs.Common.{◌∙◌, List, ap, sym, subst}
use Rattle.std.specs.Prelude.{reverse}
use Rattle.std.proofs.lemmas.List.{take_all}
use Rattle.st_event.specs.declared.journal.Entry.{Entry}
use Rattle.st_event.specs.History.{History, with_entry}
use Rattle.st_event.specs.Legal.{IsNext}
use Rattle.st_player.proofs.PlayLemmas.{first_more, first_next}
use Rattle.st_player.proofs.courses.gone_through.Goals as goal

pub enter-requires : goal.enter-requires
enter-requires c =
    let e = c.entry-item.result in
    subst (λ (h : History). IsNext h.group h.past e) (sym c.loop-entry.invariant) (first_next c.args.opened.group c.args.entries.now c.loop-entry.entry-index e c.loop-entry-test.true c.entry-item.is c.requires.legal)

pub loop-entry-init : goal.loop-entry-init
loop-entry-init c = ap (λ (es : List Entry). record { group = c.args.opened.group; past = es }) c.requires.opening

pub loop-entry-preserved : goal.loop-entry-preserved
loop-entry-preserved c =
    let e = c.entry-item.result in
    c.in_ok-playback.ensures ∙ (ap (λ (h : History). with_entry h e) c.loop-entry.invariant ∙ ap (λ (es : List Entry). record { group = c.args.opened.group; past = es }) (sym (first_more c.args.entries.now c.loop-entry.entry-index e c.loop-entry-test.true c.entry-item.is)))

pub returns : goal.returns
returns c = c.loop-entry.invariant ∙ ap (λ (es : List Entry). record { group = c.args.opened.group; past = reverse es }) (take_all c.loop-entry.entry-index c.args.entries.now c.loop-entry-test.false)
