use Rattle.std.proofs.Common.{◌∙◌, [], map, ap, sym}
use Rattle.std.specs.Prelude.{flat_map}
use Rattle.std.proofs.lemmas.List.{take_all}
use Rattle.st_text.specs.Words.{spaced}
use Rattle.st_event.specs.declared.act.Log.{Log}
use Rattle.st_report.specs.Lines.{histories, seen_words}
use Rattle.st_report.proofs.Adding.{flat_next}
use Rattle.st_report.proofs.Gathered.{reads_are}
use Rattle.st_report.proofs.logs.read_lines.Goals as goal

pub loop-log-init : goal.loop-log-init
loop-log-init c = c.new-lines.ensures

pub loop-log-preserved : goal.loop-log-preserved
loop-log-preserved c =
    flat_next (λ (log : Log). map spaced (map (seen_words (histories c.args.worlds.now) c.args.apps.now log.app) log.entries)) c.args.logs.now c.loop-log.log-index c.log-item.result c.log-item.result [] c.loop-log.lines c.add_log.new.lines c.loop-log-test.true c.log-item.is c.loop-log.invariant c.in_ok-add_log.ensures

pub returns : goal.returns
returns c =
    let groups = histories c.args.worlds.now in
    c.loop-log.invariant ∙ (ap (flat_map (λ (log : Log). map spaced (map (seen_words groups c.args.apps.now log.app) log.entries))) (take_all c.loop-log.log-index c.args.logs.now c.loop-log-test.false) ∙ sym (reads_are groups c.args.apps.now c.args.logs.now))
