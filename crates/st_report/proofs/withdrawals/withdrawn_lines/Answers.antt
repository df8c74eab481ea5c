use Rattle.std.proofs.Common.{◌∙◌, [], ap, sym}
use Rattle.std.specs.Prelude.{flat_map}
use Rattle.std.proofs.lemmas.List.{take_all}
use Rattle.st_report.proofs.Adding.{flat_next}
use Rattle.st_report.proofs.Gathered.{withdrawn_texts, withdrawn_are}
use Rattle.st_report.proofs.withdrawals.withdrawn_lines.Goals as goal

pub loop-entry-init : goal.loop-entry-init
loop-entry-init c = c.new-lines.ensures

pub loop-entry-preserved : goal.loop-entry-preserved
loop-entry-preserved c =
    flat_next (withdrawn_texts c.args.topo.now) c.args.entries.now c.loop-entry.entry-index c.entry-item.result c.entry-item.result [] c.loop-entry.lines c.add_withdrawn.new.lines c.loop-entry-test.true c.entry-item.is c.loop-entry.invariant c.in_ok-add_withdrawn.ensures

pub returns : goal.returns
returns c = c.loop-entry.invariant ∙ (ap (flat_map (withdrawn_texts c.args.topo.now)) (take_all c.loop-entry.entry-index c.args.entries.now c.loop-entry-test.false) ∙ sym (withdrawn_are c.args.topo.now c.args.entries.now))
