use Rattle.std.proofs.Common.{All, refl, sym, ◌∙◌, subst}
use Rattle.st_net.specs.Groups.{Group}
use Rattle.st_journal.specs.Replaying.{EventFits}
use Rattle.st_tests_texts.proofs.journals.replayed.Goals as goal

pub replay-requires-clause-fits : goal.replay-requires-clause-fits
replay-requires-clause-fits c = subst (λ (topo : Group). All (EventFits topo) c.args.entries.now) (c.in_ok-opened.ensures ∙ sym c.in_ok-copy.ensures) (c.if-fit_once.ensures.0 refl)
