use Rattle.std.proofs.Common.{◌∙◌, ◌++◌, ◌<◌, ◌≤◌, length, ap, sym, refl, arith}
use Rattle.std.specs.Prelude.{flat_map}
use Rattle.std.proofs.lemmas.List.{append-nil, take_all}
use Rattle.st_net.specs.Entities.{vars_of}
use Rattle.st_overlay.specs.Values.{value_in}
use Rattle.st_report.proofs.Adding.{flat_next}
use Rattle.st_report.proofs.Gathered.{change_texts, changes_are}
use Rattle.st_report.proofs.state.add_changes.Goals as goal

pub loop-var-init : goal.loop-var-init
loop-var-init c = sym (append-nil c.args.lines.now)

pub loop-var-preserved : goal.loop-var-preserved
loop-var-preserved c =
    let all = ap length c.vars_of-var-items.ensures in
    let within : c.loop-var.var-index < length (vars_of c.args.entity) = omega (arith, c.loop-var-test.true, all) in
    flat_next (change_texts c.args.topo.now (value_in c.args.target.now) c.args.entity) (vars_of c.args.entity) c.loop-var.var-index _ _ c.args.lines.now c.loop-var.lines _ within refl c.loop-var.invariant
    (rw (c.get.ensures, c.get-in-loop-var.ensures, c.opening-opening.ensures, c.get-vals.ensures, c.vars_of-var-items.ensures) at c.in_ok-add_change.ensures)

pub returns : goal.returns
returns c =
    let f = change_texts c.args.topo.now (value_in c.args.target.now) c.args.entity in
    let all = ap length c.vars_of-var-items.ensures in
    let past : length (vars_of c.args.entity) ≤ c.loop-var.var-index = omega (arith, c.loop-var-test.false, all) in
    c.loop-var.invariant ∙ ap (λ t. c.args.lines.now ++ t) (ap (flat_map f) (take_all c.loop-var.var-index (vars_of c.args.entity) past) ∙ sym (changes_are c.args.topo.now (value_in c.args.target.now) c.args.entity))
