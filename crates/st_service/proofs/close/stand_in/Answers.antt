-- The writer has all that the place has seen, so the places in its list stay right there.
use Rattle.std.proofs.Common.{subst, sym, ap, ◌∙◌}
use mathlib.Core.List.{IsPrefix}
use Rattle.st_service.specs.Lines.{flat}
use Rattle.st_service.proofs.Lines.{flat_prefix}
use Rattle.st_service.proofs.Mines.{mine_longer}
use Rattle.st_service.proofs.close.stand_in.Goals as goal

pub returns-clause-begins : goal.returns-clause-begins
returns-clause-begins g c = flat_prefix c.args.place.now.seen.log c.args.shut.now.line.log (subst (λ s. IsPrefix c.args.place.now.seen.log s.log) c.has_all.ensures.same c.has_all.ensures.all)

pub returns-clause-mine : goal.returns-clause-mine
returns-clause-mine g c =
    let old = c.args.place.now in
    let all = c.args.shut.now.line.log in
    mine_longer old.number (flat old.seen.log) (flat all) old.mine.items
    (flat_prefix old.seen.log all (subst (λ s. IsPrefix old.seen.log s.log) c.has_all.ensures.same c.has_all.ensures.all)) old.made
