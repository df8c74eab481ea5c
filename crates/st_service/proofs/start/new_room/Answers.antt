-- The line is empty, and so is the world's journal.
use Rattle.std.proofs.Common.{◌≡◌, List, length, refl, sym, ap, ◌∙◌, arith}
use Rattle.st_line.specs.Lines.{Reached}
use Rattle.st_event.specs.History.{History}
use Rattle.st_service.specs.declared.line.Batch.{Batch}
use Rattle.st_service.specs.Lines.{flat}
use Rattle.st_service.specs.Made.{past_in}
use Rattle.st_service.proofs.start.new_room.Goals as goal

pub new-makers-requires-clause-line : goal.new-makers-requires-clause-line
new-makers-requires-clause-line g c =
    (c.begin-line.ensures.book ∙ c.requires.line, c.begin-line.ensures.log)

pub new-makers-requires-clause-units : goal.new-makers-requires-clause-units
new-makers-requires-clause-units g c = c.requires.units.0

pub invariant_of-room : goal.invariant_of-room
invariant_of-room g c =
    let none : length c.args.room.history.past ≡ 0 = ap (λ (h : History). length h.past) c.requires.room.0 in
    let amount : c.new-makers.result.units.amount ≡ 200000 = ap (λ s. s.amount) c.new-makers.ensures.units ∙ c.requires.units.1 in
    record {
      of_group = c.new-makers.ensures.group;
      group_is = ap (λ (h : History). h.group) c.requires.room.0;
      lines_are = c.requires.room.1;
      board_is = c.requires.room.2;
      kept = ap (λ (l : List Batch). past_in (flat l)) c.new-makers.ensures.log ∙ sym (ap (λ (h : History). h.past) c.requires.room.0);
      left = omega arith;
    }

pub returns-clause-group : goal.returns-clause-group
returns-clause-group g c = refl

pub returns-clause-line : goal.returns-clause-line
returns-clause-line g c = (ap (λ (s : Reached Batch). s.book) c.log-seen.ensures ∙ (c.begin-line.ensures.book ∙ c.requires.line), ap (λ (s : Reached Batch). s.log) c.log-seen.ensures ∙ c.begin-line.ensures.log)
