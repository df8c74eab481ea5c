use Rattle.std.proofs.Common.{◌≡◌, List, true, subst, ◌++◌, ◌∷◌, [], ap, sym, ◌∙◌}
use Rattle.st_line.specs.Lines.{Reached}
use Rattle.st_service.specs.declared.line.Batch.{Batch}
use Rattle.st_service.specs.Lines.{flat, tagged}
use Rattle.st_service.specs.Asked.{all_asked}
use Rattle.st_service.specs.Made.{Made}
use Rattle.st_service.proofs.AskedLaws.{asked_more}
use Rattle.st_service.proofs.Lines.{flat_one, puts_all}
use Rattle.st_service.proofs.makers.Makers.take_in.Goals as goal

pub invariant_of-self : goal.invariant_of-self
invariant_of-self g c =
    let old = c.args.self.now in
    let es = c.args.entries.now in
    let b : Batch = record { by = c.args.place.now.number; entries = es } in
    let grown : flat c.add.new.self.log ≡ flat old.line.log ++ tagged c.args.place.now.number es = ap flat c.add.ensures.log ∙ flat_one old.line.log b in
    record {
      named = c.add.ensures.book ∙ old.named;
      asked = subst (λ (l : List Made). all_asked l ≡ true) (sym grown) (asked_more (flat old.line.log) c.args.place.now.number es old.asked c.requires.own);
      part = c.transfer.ensures.parts_left ∙ old.part;
    }

pub returns-clause-puts : goal.returns-clause-puts
returns-clause-puts g c =
    let room = c.args.self.now in
    let old = c.args.place.now in
    let new = c.made-2.new.self in
    let es = c.args.entries.now in
    let added = ap (λ (s : Reached Batch). s.log) c.log.ensures ∙ c.add.ensures.log in
    puts_all old.number es old.seen.log room.line.log new.seen.log old.mine.items new.mine.items c.args.from c.requires.behind c.requires.from (c.made-2.ensures.seen ∙ added) c.made-2.ensures.mine
