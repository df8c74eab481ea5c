use Rattle.std.proofs.Common.{◌≡◌, ◌≤◌, [], ◌∷◌, ◌++◌, length, refl, rules, sym, subst}
use Rattle.st_event.specs.declared.journal.TheConstants.{MAX_ENTRIES}
use Rattle.st_event.specs.Legal.{Fits}
use Rattle.st_world.specs.World.{WorldView}
use Rattle.st_world.proofs.WorldLaws.{below_number, answered_next, agrees_next, enters, is_full}
use Rattle.st_world.proofs.world.World.step.Goals as goal

pub returns-in_default-clause-ok : goal.returns-in_default-clause-ok
returns-in_default-clause-ok c =
    let many : MAX_ENTRIES ≤ length c.self.inside.journal.items = search rules in
    rw (← c.self.view_is, c.next_entry.ensures.items) (is_full c.self.inside.machine c.self.inside.journal.items c.self.invariant many, refl, refl)

pub answer_twice-requires-clause-below : goal.answer_twice-requires-clause-below
answer_twice-requires-clause-below c = below_number c.self.inside.machine c.self.inside.journal.items _ c.in-Some.entry c.self.invariant c.in-Some.is c.in_ok-entry.ensures.number

pub invariant_of-self-2 : goal.invariant_of-self-2
invariant_of-self-2 c =
    let fits : Fits c.self.inside.machine.checker.group c.args.event = subst (λ (w : WorldView). Fits w.history.group c.args.event) (sym c.self.view_is) c.requires in
    let made = answered_next c.self.inside.machine c.answer_twice.new.self c.self.inside.journal.items _ c.in-Some.entry c.args.event c.in_ok-told.field-0.told c.in-Some.is c.in_ok-entry.ensures.number c.in_ok-entry.ensures.few c.in_ok-told.ensures.ok in
    let pushed : c.enter_last.new.journal.items ≡ c.self.inside.journal.items ++ record { event = c.args.event; reply = c.in_ok-told.field-0.told } ∷ [] = rw (c.enter_last.ensures.entry, c.next_entry.ensures.items, c.in_ok-told.ensures.kept) refl in
    agrees_next c.self.inside.machine c.answer_twice.new.self c.self.inside.journal.items c.enter_last.new.journal.items c.args.event c.in_ok-told.field-0.told c.self.invariant made.0 fits made.1 pushed

pub returns-clause-ok : goal.returns-clause-ok
returns-clause-ok c =
    let fits : Fits c.self.inside.machine.checker.group c.args.event = subst (λ (w : WorldView). Fits w.history.group c.args.event) (sym c.self.view_is) c.requires in
    let made = answered_next c.self.inside.machine c.answer_twice.new.self c.self.inside.journal.items _ c.in-Some.entry c.args.event c.in_ok-told.field-0.told c.in-Some.is c.in_ok-entry.ensures.number c.in_ok-entry.ensures.few c.in_ok-told.ensures.ok in
    let pushed : c.enter_last.new.journal.items ≡ c.self.inside.journal.items ++ record { event = c.args.event; reply = c.in_ok-told.field-0.told } ∷ [] = rw (c.enter_last.ensures.entry, c.next_entry.ensures.items, c.in_ok-told.ensures.kept) refl in
    rw (← c.self.view_is) (enters c.self.inside.machine c.answer_twice.new.self c.self.inside.journal.items c.enter_last.new.journal.items c.args.event c.in_ok-told.field-0.told c.self.invariant made.0 fits made.1 pushed)
