use Rattle.std.proofs.Common.{◌∙◌, ◌<◌, ◌≤◌, [], map, length, ap, sym, arith}
use Rattle.std.specs.Prelude.{flat_map}
use Rattle.std.proofs.lemmas.List.{take_all}
use Rattle.st_text.specs.Words.{spaced}
use Rattle.st_net.specs.declared.entity.Entity.{Entity}
use Rattle.st_net.specs.InOrder.{entities_of}
use Rattle.st_overlay.specs.Values.{value_in}
use Rattle.st_report.specs.Lines.{changed_words}
use Rattle.st_report.proofs.Adding.{flat_next}
use Rattle.st_report.proofs.Gathered.{targets_are, valued}
use Rattle.st_report.proofs.state.target_lines.Goals as goal

pub loop-place-init : goal.loop-place-init
loop-place-init c = c.new-lines.ensures

pub add_changes-requires-clause-target : goal.add_changes-requires-clause-target
add_changes-requires-clause-target c = valued c.args.topo.now c.args.target.now _ c.requires c.entity_at-entity.ensures.of

pub loop-place-preserved : goal.loop-place-preserved
loop-place-preserved c =
    let low : c.loop-place.place < length (entities_of c.args.topo.now) = omega (arith, c.loop-place-test.true, c.entity_count-place-end.ensures) in
    flat_next (λ (e : Entity). map spaced (changed_words c.args.topo.now (value_in c.args.target.now) e)) (entities_of c.args.topo.now) c.loop-place.place c.entity_at-entity.result c.entity_at-entity.result [] c.loop-place.lines c.add_changes.new.lines low c.entity_at-entity.ensures.at c.loop-place.invariant c.in_ok-add_changes.ensures

pub returns : goal.returns
returns c =
    let past : length (entities_of c.args.topo.now) ≤ c.loop-place.place = omega (arith, c.loop-place-test.false, c.entity_count-place-end.ensures) in
    c.loop-place.invariant ∙ (ap (flat_map (λ (e : Entity). map spaced (changed_words c.args.topo.now (value_in c.args.target.now) e))) (take_all c.loop-place.place (entities_of c.args.topo.now) past) ∙ sym (targets_are c.args.topo.now (value_in c.args.target.now) (entities_of c.args.topo.now)))
