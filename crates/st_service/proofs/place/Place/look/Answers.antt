use Rattle.std.proofs.Common.{ap, sym, subst, ◌∙◌}
use mathlib.Core.List.{IsPrefix}
use Rattle.st_line.specs.Lines.{Reached}
use Rattle.st_service.specs.declared.line.Batch.{Batch}
use Rattle.st_service.specs.Made.{IsMine}
use Rattle.st_service.specs.Lines.{flat}
use Rattle.st_service.specs.Tickets.{latest_in}
use Rattle.st_service.proofs.Lines.{flat_prefix}
use Rattle.st_service.proofs.Mines.{mine_longer}
use Rattle.st_service.proofs.TicketLaws.{latest_longer}
use Rattle.st_service.proofs.place.Place.look.Goals as goal

pub invariant_of-self : goal.invariant_of-self
invariant_of-self g c =
    let old = c.args.self.now in
    let all = c.args.seen.now.log in
    let later : IsPrefix (flat old.seen.log) (flat all) = flat_prefix old.seen.log all c.requires.later in
    record {
      named = ap (λ (s : Reached Batch). s.book) c.again.ensures ∙ (c.requires.line ∙ old.named);
      made = subst (λ (s : Reached Batch). IsMine old.number (flat s.log) old.mine.items) (sym c.again.ensures) (mine_longer old.number (flat old.seen.log) (flat all) old.mine.items later old.made);
      asked = old.asked ∙ (sym (latest_longer (flat old.seen.log) (flat all) old.mine.items later old.made.within) ∙ ap (λ (s : Reached Batch). latest_in (flat s.log) old.mine.items) (sym c.again.ensures));
      reads = old.reads;
      reads_group = old.reads_group;
    }

pub returns-clause-seen : goal.returns-clause-seen
returns-clause-seen g c = ap (λ (s : Reached Batch). s.log) c.again.ensures
