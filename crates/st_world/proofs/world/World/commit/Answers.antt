use Rattle.std.proofs.Common.{◌≡◌, ℕ, ◌<◌, ◌≤◌, [], ◌∷◌, ◌++◌, length, ap, refl, rules, subst, sym, ◌∙◌}
use Rattle.std.specs.Prelude.{reverse, ◌⊎◌}
use Rattle.st_event.specs.declared.event.Event.TheVariants.{Check}
use Rattle.st_event.specs.declared.reply.Reply.TheVariants.{Decided}
use Rattle.st_event.specs.declared.journal.TheConstants.{MAX_ENTRIES}
use Rattle.st_event.specs.Proposals.{deciders}
use Rattle.st_control.specs.Control.{ControlView}
use Rattle.st_store.specs.Store.{IsWaiting, IsNeverGiven}
use Rattle.st_world.specs.Commits.{MayCommit}
use Rattle.st_world.specs.World.{WorldView}
use Rattle.st_world.proofs.CommitLaws.{still_open}
use Rattle.st_world.proofs.WorldLaws.{answered_next, agrees_next, enters, is_full, version_fits}
use Rattle.st_world.proofs.world.World.commit.Goals as goal

pub returns-in_default-2-clause-ok : goal.returns-in_default-2-clause-ok
returns-in_default-2-clause-ok c =
    let m = c.self.inside.machine in
    let items = c.self.inside.journal.items in
    let waits : IsWaiting c.store.result.now c.ticket.result ⊎ IsNeverGiven c.store.result.now c.ticket.result = search rules in
    let may : MayCommit (reverse items) c.ticket.result = rw c.ticket.ensures.ticket (subst (λ (w : WorldView). MayCommit w.history.past c.args.judged.now.ticket) (sym c.self.view_is) c.requires) in
    let open_yet : length (deciders (reverse items)) < c.args.judged.now.ticket = subst (λ (t : ℕ). length (deciders (reverse items)) < t) c.ticket.ensures.ticket (still_open m items c.store.result.now c.ticket.result c.self.invariant (c.store.ensures.store ∙ ap (λ (k : ControlView). k.store) c.control.ensures) may c.ticket.ensures.given waits) in
    let many : MAX_ENTRIES ≤ length c.self.inside.journal.items = search rules in
    rw (← c.self.view_is, c.next_entry.ensures.items) (open_yet, is_full m items c.self.invariant many, refl, refl)

pub invariant_of-self-2 : goal.invariant_of-self-2
invariant_of-self-2 c =
    let made = answered_next c.self.inside.machine c.commit.new.self c.self.inside.journal.items _ c.in-Some-2.entry Check (Decided c.in_ok-told.field-0.told) c.in-Some-2.is c.in_ok-entry.ensures.number c.in_ok-entry.ensures.few c.in_ok-told.ensures.ok in
    let pushed : c.enter_last.new.journal.items ≡ c.self.inside.journal.items ++ record { event = Check; reply = Decided c.in_ok-told.field-0.told } ∷ [] = rw (c.enter_last.ensures.entry, c.next_entry.ensures.items, c.in_ok-told.ensures.kept) refl in
    agrees_next c.self.inside.machine c.commit.new.self c.self.inside.journal.items c.enter_last.new.journal.items Check (Decided c.in_ok-told.field-0.told) c.self.invariant made.0 tt made.1 pushed

pub returns-clause-ok : goal.returns-clause-ok
returns-clause-ok c =
    let made = answered_next c.self.inside.machine c.commit.new.self c.self.inside.journal.items _ c.in-Some-2.entry Check (Decided c.in_ok-told.field-0.told) c.in-Some-2.is c.in_ok-entry.ensures.number c.in_ok-entry.ensures.few c.in_ok-told.ensures.ok in
    let pushed : c.enter_last.new.journal.items ≡ c.self.inside.journal.items ++ record { event = Check; reply = Decided c.in_ok-told.field-0.told } ∷ [] = rw (c.enter_last.ensures.entry, c.next_entry.ensures.items, c.in_ok-told.ensures.kept) refl in
    (c.in_ok-told.ensures.ticket, rw (← c.self.view_is) (enters c.self.inside.machine c.commit.new.self c.self.inside.journal.items c.enter_last.new.journal.items Check (Decided c.in_ok-told.field-0.told) c.self.invariant made.0 tt made.1 pushed))

pub commit-requires-clause-version : goal.commit-requires-clause-version
commit-requires-clause-version c = version_fits c.self.inside.machine c.self.inside.journal.items _ c.in-Some-2.entry c.self.invariant c.in-Some-2.is c.in_ok-entry.ensures.number c.in_ok-entry.ensures.few
