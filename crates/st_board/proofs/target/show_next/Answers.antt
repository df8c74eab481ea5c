use Rattle.std.proofs.Common.{sym, subst, ap, ◌∙◌}
use Rattle.st_board.specs.declared.target.Target.{Target}
use Rattle.st_board.specs.ShownInside.{IsShown}
use Rattle.st_board.proofs.Showing.{turns}
use Rattle.st_board.proofs.target.show_next.Goals as goal

pub publish_as-desk-requires : goal.publish_as-desk-requires
publish_as-desk-requires g c next is = turns _ _ c.args.desk.desk.shown.value next (λ _. subst IsShown (sym is) c.requires.0) (ap (λ (t : Target). t.front.seen.book) is ∙ c.requires.1)
