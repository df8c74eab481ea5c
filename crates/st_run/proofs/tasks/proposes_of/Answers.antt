-- The proposes of the scripts so far are no more than their commands.
use Rattle.std.proofs.Common.{◌≤◌, length, get_or, ap, arith}
use Rattle.std.specs.Prelude.{count_by}
use Rattle.std.proofs.lemmas.List.Sums.{count_by-le-length, sum_by_more_le_part}
use Rattle.st_grammar.specs.declared.doc.Script.{Script}
use Rattle.st_run.specs.Tasks.{is_propose_of}
use Rattle.st_run.proofs.tasks.proposes_of.Goals as goal

pub overflow_add-count : goal.overflow_add-count
overflow_add-count c =
    let proposes = is_propose_of c.args.group in
    let apps = c.args.apps.now in
    let k = c.loop-app.app-index in
    let app = c.app-item.result in
    let here = (get_or apps k app).acts in
    let all = sum_by_more_le_part (λ (x : Script). count_by proposes x.acts) (λ (x : Script). length x.acts) apps k app c.loop-app-test.true (λ x. count_by-le-length proposes x.acts) in
    let one : c.proposes_in-count.result ≤ length here =
    omega (arith, c.proposes_in-count.ensures, ap (count_by proposes) c.as_slice.ensures, ap (λ (x : Script). count_by proposes x.acts) c.app-item.is, count_by-le-length proposes here) in
    omega (arith, all, one, c.loop-app.invariant, c.requires)
