use Rattle.std.proofs.Common.{◌∙◌, List, ap}
use Rattle.std.proofs.lemmas.List.{take_all}
use Rattle.st_world.specs.World.{WorldView}
use Rattle.st_report.specs.Inside.{summaries_of}
use Rattle.st_report.specs.Lines.{histories}
use Rattle.st_report.proofs.Gathered.{summaries_next}
use Rattle.st_report.proofs.report.summarize_all.Goals as goal

pub loop-world-preserved : goal.loop-world-preserved
loop-world-preserved c =
    c.in_ok-push.ensures.items ∙ summaries_next c.args.apps.now c.args.worlds.now c.loop-world.world-index c.world-item.result c.world-item.result _ c.loop-world.groups.items c.loop-world-test.true c.world-item.is c.in_ok-summarize.ensures c.loop-world.invariant

pub returns : goal.returns
returns c = c.loop-world.invariant ∙ ap (λ (ws : List WorldView). summaries_of c.args.apps.now (histories ws)) (take_all c.loop-world.world-index c.args.worlds.now c.loop-world-test.false)
