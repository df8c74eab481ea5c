use Rattle.std.proofs.Common.{List, ap, subst, sym, ◌∙◌}
use mathlib.Core.List.{IsPrefix}
use Rattle.st_line.specs.Lines.{Reached}
use Rattle.st_service.specs.declared.line.Batch.{Batch}
use Rattle.st_service.specs.Lines.{flat}
use Rattle.st_service.proofs.Lines.{flat_prefix}
use Rattle.st_service.proofs.locked.Locked.look.Goals as goal

pub returns-clause-seen : goal.returns-clause-seen
returns-clause-seen g c =
    let before = c.args.place.now.seen.log in
    let line = c.args.self.now.makers.line in
    subst (λ (front : List Batch). IsPrefix (flat before) (flat front)) (sym (c.show.ensures.journal ∙ ap (λ (s : Reached Batch). s.log) c.has_all.ensures.same.1)) (flat_prefix before line.log c.has_all.ensures.begins)
