use Rattle.std.proofs.Common.{◌≡◌, ◌<◌, List, ap, get_or, length, refl, arith, ◌∙◌}
use Rattle.st_net.specs.declared.entity.Var.{Var}
use Rattle.st_net.specs.Entities.{value_of, vars_of}
use Rattle.st_control.proofs.WithdrawLemmas.{rows_passed, rows_pushed}
use Rattle.st_control.proofs.back.rows_back.Goals.{then-value-get+in_ok-push, else-value-get}
use Rattle.st_control.proofs.back.rows_back.Goals as goal

pub loop-var-preserved : goal.loop-var-preserved
loop-var-preserved c =
    let all = ap length c.vars_of-var-items.ensures in
    let within : c.loop-var.var-index < length (vars_of c.args.entity) = omega (arith, c.loop-var-test.true, all) in
    let e = c.args.entity in
    let value = value_of e c.args.observed in
    let goal = value_of e c.args.target in
    let here = c.get-value.ensures ∙ ap (λ (vs : List Var). value (get_or vs c.loop-var.var-index _)) c.vars_of-var-items.ensures in
    let there = c.get.ensures ∙ ap (λ (vs : List Var). goal (get_or vs c.loop-var.var-index _)) c.vars_of-var-items.ensures in
    elim c.if-value-get.branch [
      | then-value-get+in_ok-push w ↦ rw w.rows-is (rows_pushed e value goal (vars_of e) c.loop-var.var-index _ _ c.loop-var.rows.items w.push.new.self.items c.get-value.result c.get.result within refl c.loop-var.invariant here there w.if-value-get.true (rw c.vars_of-var-items.ensures at w.in_ok-push.ensures.items))
      | else-value-get w ↦ rw w.rows-is (rows_passed e value goal (vars_of e) c.loop-var.var-index _ _ c.loop-var.rows.items c.get-value.result c.get.result within refl c.loop-var.invariant here there w.if-value-get.false)
    ]
