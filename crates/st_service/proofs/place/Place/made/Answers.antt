use Rattle.std.proofs.Common.{◌≡◌, ℕ, List, ◌++◌, ◌∷◌, [], length, ap, sym, subst, ◌∙◌}
use Rattle.std.specs.Option.{option_or}
use Rattle.st_event.proofs.Prefixes.{prefix_trans}
use Rattle.st_service.specs.declared.line.Batch.{Batch}
use Rattle.st_service.specs.Made.{IsMine}
use Rattle.st_service.specs.Lines.{flat, numbers}
use Rattle.st_service.specs.Tickets.{last_ticket, latest_in}
use Rattle.st_service.proofs.Lines.{made_all}
use Rattle.st_service.proofs.TicketLaws.{made_latest}
use Rattle.st_service.proofs.place.Place.made.Goals as goal

pub look-requires-clause-later : goal.look-requires-clause-later
look-requires-clause-later g c =
    let r = c.requires.made in
    let b : Batch = record { by = c.args.self.now.number; entries = c.args.entries.now } in
    prefix_trans c.args.self.now.seen.log r.0 c.args.seen.now.log r.1.0 (b ∷ [], sym r.1.2)

pub invariant_of-self : goal.invariant_of-self
invariant_of-self g c =
    let old = c.args.self.now in
    let new = c.look.new.self in
    let values = c.args.entries.now in
    let r = c.requires.made in
    let all : IsMine old.number (flat c.args.seen.now.log) (old.mine.items ++ numbers c.args.from (length values)) = made_all old.number old.seen.log r.0 c.args.seen.now.log old.mine.items values c.args.from r.1.0 r.1.1 r.1.2 old.made in
    let mine : old.mine.items ++ numbers c.args.from (length values) ≡ c.push_numbers.new.mine.items = sym (c.push_numbers.ensures ∙ ap (λ v. v.items ++ numbers c.args.from (length values)) c.look.ensures.same.2) in
    let latest : latest_in (flat c.args.seen.now.log) (old.mine.items ++ numbers c.args.from (length values)) ≡ option_or (last_ticket values) (latest_in (flat c.args.seen.now.log) old.mine.items) =
    made_latest old.number old.seen.log r.0 c.args.seen.now.log old.mine.items values c.args.from r.1.0 r.1.1 r.1.2 old.made.within in
    let before : new.latest ≡ latest_in (flat c.args.seen.now.log) old.mine.items = new.asked ∙ (ap (λ (l : List Batch). latest_in (flat l) new.mine.items) c.look.ensures.seen ∙ ap (λ v. latest_in (flat c.args.seen.now.log) v.items) c.look.ensures.same.2) in
    record {
      named = new.named;
      reads = new.reads;
      reads_group = new.reads_group;
      made = subst (λ (n : ℕ). IsMine n (flat new.seen.log) c.push_numbers.new.mine.items) (sym c.look.ensures.same.1) (subst (λ (l : List Batch). IsMine old.number (flat l) c.push_numbers.new.mine.items) (sym c.look.ensures.seen) (subst (λ (l : List ℕ). IsMine old.number (flat c.args.seen.now.log) l) mine all));
      asked = c.or-self.ensures ∙ (ap (λ o. option_or o new.latest) c.last_ticket.ensures ∙ (ap (λ o. option_or (last_ticket values) o) before
          ∙ (sym latest ∙ (ap (λ (l : List ℕ). latest_in (flat c.args.seen.now.log) l) mine ∙ ap (λ (l : List Batch). latest_in (flat l) c.push_numbers.new.mine.items) (sym c.look.ensures.seen)))));
    }
