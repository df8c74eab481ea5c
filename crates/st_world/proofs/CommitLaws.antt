-- Tickets that may be committed, and what a commit comes to over the journal that a world keeps.
use Rattle.std.proofs.Common.{◌≡◌, ℕ, ◌+◌, ◌<◌, ◌≤◌, List, [], ◌∷◌, ◌++◌, length, ap, sym, ◌∙◌, inl, inr, arith, length-append}
use Rattle.std.specs.Prelude.{reverse, ◌⊎◌}
use Rattle.st_net.specs.Merge.{without_altered}
use Rattle.st_event.specs.declared.event.Event.{Event}
use Rattle.st_event.specs.declared.event.Event.TheVariants.{Submit, Check}
use Rattle.st_event.specs.declared.event.Proposal.{Proposal}
use Rattle.st_event.specs.declared.reply.Reply.{Reply}
use Rattle.st_event.specs.declared.reply.Reply.TheVariants.{Queued, Decided}
use Rattle.st_event.specs.declared.journal.Entry.{Entry}
use Rattle.st_event.specs.Proposals.{proposals, proposals_after, deciders, deciders_after, first_rows}
use Rattle.st_event.specs.Standing.{Standing, sure_in}
use Rattle.st_store.specs.Store.{StoreView, IsWaiting, IsNeverGiven}
use Rattle.st_control.specs.declared.control.commits.Begin.{Begin}
use Rattle.st_control.specs.declared.control.commits.Begin.TheVariants.{Basis, Idle}
use Rattle.st_control.specs.Commits.{Begins as ControlBegins}
use Rattle.st_world.specs.Machine.{MachineView}
use Rattle.st_world.specs.World.{Agrees}
use Rattle.st_world.proofs.WorldLaws.{history_of}
use Rattle.st_world.specs.Commits.{Begins, MayCommit, TicketsStay, BasesMayCommit}

-- no entry takes a proposal back, or a decision
more_proposals : (event : Event) (answer : Reply) (before : List Proposal) → length before ≤ length (proposals_after event answer before)
more_proposals (Submit app rows) (Queued ticket) before = rw length-append (omega arith)
more_proposals (Submit app rows) _ before = omega arith
more_proposals _ answer before = omega arith

more_deciders : (event : Event) (answer : Reply) (n : ℕ) (before : List ℕ) → length before ≤ length (deciders_after event answer n before)
more_deciders Check (Decided receipt) n before = rw length-append (omega arith)
more_deciders Check _ n before = omega arith
more_deciders _ answer n before = omega arith

stays : (past more : List Entry) (ticket : ℕ) → MayCommit past ticket → MayCommit (more ++ past) ticket
stays past [] ticket may = may
stays past (entry ∷ more) ticket may =
    let later = stays past more ticket may in
    record {
      given = omega (arith, later.given, more_proposals entry.event entry.reply (proposals (more ++ past)));
      lower = omega (arith, later.lower, more_deciders entry.event entry.reply (length (more ++ past) + 1) (deciders (more ++ past)));
    }

pub tickets_stay : TicketsStay
tickets_stay past more ticket may = stays past more ticket may

pub bases_may : BasesMayCommit
bases_may g past b of = record { given = of.given; lower = omega (arith, of.oldest) }

-- what the checker gives is a basis of the world's journal
pub begins_at : (m : MachineView) (items : List Entry) (begin : Begin) → Agrees m items → ControlBegins m.checker begin → Begins (history_of m.checker.group (reverse items)) begin
begins_at m items (Basis b) agrees of = record {
  group = of.group;
  oldest = of.oldest ∙ ap (λ (s : Standing). length s.decided + 1) agrees.standing;
  given = (let tickets : m.checker.store.tickets ≡ length (proposals (reverse items)) = ap (λ (s : Standing). s.tickets) agrees.standing in omega (arith, tickets, of.given));
  sure_is = of.sure ∙ ap (sure_in m.checker.group) agrees.standing;
  after = of.after ∙ ap (λ (s : Standing). without_altered m.checker.group (sure_in m.checker.group s) s.target (first_rows s.pending)) agrees.standing;
}
begins_at m items Idle agrees none = sym (ap (λ (s : Standing). s.pending) agrees.standing) ∙ none

-- a ticket that may be committed and was not decided is above those that were decided
pub still_open : (m : MachineView) (items : List Entry) (s : StoreView) (ticket : ℕ) → Agrees m items → s ≡ m.checker.store → MayCommit (reverse items) ticket → 0 < ticket → IsWaiting s ticket ⊎ IsNeverGiven s ticket → length (deciders (reverse items)) < ticket
still_open m items s ticket agrees same may positive (inl waits) =
    let decided : length s.decided ≡ length (deciders (reverse items)) = ap (λ (s : StoreView). length s.decided) same ∙ ap (λ (s : Standing). length s.decided) agrees.standing in
    omega (arith, decided, waits.undecided)
still_open m items s ticket agrees same may positive (inr (inl none)) = absurd (omega (arith, none, positive))
still_open m items s ticket agrees same may positive (inr (inr above)) =
    let tickets : s.tickets ≡ length (proposals (reverse items)) = ap (λ (s : StoreView). s.tickets) same ∙ ap (λ (s : Standing). s.tickets) agrees.standing in
    absurd (omega (arith, tickets, above, may.given))
