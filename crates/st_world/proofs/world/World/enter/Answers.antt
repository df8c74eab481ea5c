use Rattle.std.proofs.Common.{◌≡◌, List, [], ◌∷◌, ◌++◌, ap, refl, sym, subst, ◌∙◌}
use Rattle.std.specs.Prelude.{reverse}
use Rattle.st_event.specs.Legal.{Fits}
use Rattle.st_net.specs.Groups.{Group}
use Rattle.st_control.specs.Control.{ControlView}
use Rattle.st_event.specs.declared.journal.Entry.{Entry}
use Rattle.st_world.specs.Rounds.{enter, course_from}
use Rattle.st_world.specs.World.{WorldView}
use Rattle.st_world.proofs.RunLaws.{enter-grows}
use Rattle.st_world.proofs.RoundLaws.{none_entered, enters_next}
use Rattle.st_world.proofs.WorldLaws.{below_number, answered_next, agrees_next, enters, history_of}
use Rattle.st_world.proofs.world.World.enter.Goals as goal

pub returns-in_err-entry-clause-err : goal.returns-in_err-entry-clause-err
returns-in_err-entry-clause-err c =
    let same : history_of c.self.inside.machine.checker.group (reverse c.next_entry.new.journal.items) ≡ c.args.self.now.history = ap (λ (items : List Entry). history_of c.self.inside.machine.checker.group (reverse items)) c.next_entry.ensures.items ∙ ap (λ (w : WorldView). w.history) c.self.view_is in
    none_entered c.from_residual.result c.args.self.now _ (enter c.args.self.now.history.group (course_from c.args.self.now.history.past) c.args.event) (enter-grows c.args.self.now.history.group (course_from c.args.self.now.history.past) c.args.event) same

pub answer-requires-clause-below : goal.answer-requires-clause-below
answer-requires-clause-below c = below_number c.self.inside.machine c.self.inside.journal.items _ c.in-Some.entry c.self.invariant c.in-Some.is c.in_ok-entry.ensures.number

pub returns-in_err-reply-clause-err : goal.returns-in_err-reply-clause-err
returns-in_err-reply-clause-err c =
    let group = ap (λ (k : ControlView). k.group) c.in_err-reply.ensures.err.checker in
    let same : history_of c.answer.new.self.checker.group (reverse c.next_entry.new.journal.items) ≡ c.args.self.now.history = ap (λ (g : Group). history_of g (reverse c.next_entry.new.journal.items)) group ∙ ap (λ (items : List Entry). history_of c.self.inside.machine.checker.group (reverse items)) c.next_entry.ensures.items ∙ ap (λ (w : WorldView). w.history) c.self.view_is in
    none_entered c.from_residual-in_err-reply.result c.args.self.now _ (enter c.args.self.now.history.group (course_from c.args.self.now.history.past) c.args.event) (enter-grows c.args.self.now.history.group (course_from c.args.self.now.history.past) c.args.event) same

pub invariant_of-self-2 : goal.invariant_of-self-2
invariant_of-self-2 c =
    let fits : Fits c.self.inside.machine.checker.group c.args.event = subst (λ (w : WorldView). Fits w.history.group c.args.event) (sym c.self.view_is) c.requires in
    let made = answered_next c.self.inside.machine c.answer.new.self c.self.inside.journal.items _ c.in-Some.entry c.args.event c.in_ok-reply.reply c.in-Some.is c.in_ok-entry.ensures.number c.in_ok-entry.ensures.few c.in_ok-reply.ensures.ok in
    let pushed : c.enter_last.new.journal.items ≡ c.self.inside.journal.items ++ record { event = c.args.event; reply = c.in_ok-reply.reply } ∷ [] = rw (c.enter_last.ensures.entry, c.next_entry.ensures.items) refl in
    agrees_next c.self.inside.machine c.answer.new.self c.self.inside.journal.items c.enter_last.new.journal.items c.args.event c.in_ok-reply.reply c.self.invariant made.0 fits made.1 pushed

pub returns-clause-ok : goal.returns-clause-ok
returns-clause-ok c =
    let fits : Fits c.self.inside.machine.checker.group c.args.event = subst (λ (w : WorldView). Fits w.history.group c.args.event) (sym c.self.view_is) c.requires in
    let made = answered_next c.self.inside.machine c.answer.new.self c.self.inside.journal.items _ c.in-Some.entry c.args.event c.in_ok-reply.reply c.in-Some.is c.in_ok-entry.ensures.number c.in_ok-entry.ensures.few c.in_ok-reply.ensures.ok in
    let pushed : c.enter_last.new.journal.items ≡ c.self.inside.journal.items ++ record { event = c.args.event; reply = c.in_ok-reply.reply } ∷ [] = rw (c.enter_last.ensures.entry, c.next_entry.ensures.items) refl in
    let steps = enters c.self.inside.machine c.answer.new.self c.self.inside.journal.items c.enter_last.new.journal.items c.args.event c.in_ok-reply.reply c.self.invariant made.0 fits made.1 pushed in
    rw (← c.self.view_is) (enters_next (history_of c.self.inside.machine.checker.group (reverse c.self.inside.journal.items)) (history_of c.answer.new.self.checker.group (reverse c.enter_last.new.journal.items)) c.args.event c.in_ok-reply.reply steps)
