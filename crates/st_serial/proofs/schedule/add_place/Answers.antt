use Rattle.std.proofs.Common.{◌≡◌, ◌≤◌, ◌++◌, length, sym, ◌∙◌, ap, arith}
use Rattle.std.proofs.lemmas.List.{append-nil}
use Rattle.st_grammar.specs.declared.doc.Script.{Script}
use Rattle.st_serial.proofs.Schedules.{none_at}
use Rattle.st_serial.proofs.schedule.add_place.Goals as goal

pub returns-else-k-as_slice : goal.returns-else-k-as_slice
returns-else-k-as_slice c =
    let count : length c.as_slice.result.now ≡ length c.index-apps-app.result.acts = ap length c.as_slice.ensures ∙ ap (λ (app : Script). length app.acts) (sym c.index-apps-app.is) in
    let few : length c.index-apps-app.result.acts ≤ c.args.k = omega (arith, count, c.if-k-as_slice.false) in
    let none = none_at c.args.apps.now c.args.app c.args.k c.index-apps-app.result c.requires.app c.index-apps-app.is few in
    sym (append-nil c.args.places.now.items) ∙ ap (λ ps. c.args.places.now.items ++ ps) (sym none)
