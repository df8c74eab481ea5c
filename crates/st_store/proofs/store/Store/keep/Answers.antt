use Rattle.std.proofs.Common.{ℕ, ◌∙◌, ap, sym, subst, refl, set, arith}
use Rattle.st_overlay.specs.Values.{IsIn}
use Rattle.st_net.specs.Groups.{Group}
use Rattle.st_net.specs.declared.message.Report.{Report}
use Rattle.st_store.specs.declared.reports.Keep.TheVariants.{Taken, Old}
use Rattle.st_net.specs.InOrder.{place_behind}
use Rattle.st_store.specs.Reports.{keep_answer}
use Rattle.st_store.specs.Store.{StoreView, IsStoreOf, Keeps}
use Rattle.st_store.specs.Inside.{store_of}
use Rattle.st_store.proofs.ReportLaws.{keeps, keep_old, keep_taken}
use Rattle.st_store.proofs.store.Store.keep.Goals as goal

pub returns-then-report-kept-clause-keeps : goal.returns-then-report-kept-clause-keeps
returns-then-report-kept-clause-keeps c =
    let here = subst (λ (s : StoreView). IsIn s.target c.args.report.entity) (sym c.self.view_is) c.requires in
    let answer = keep_old c.index.result.now c.args.report (omega arith) ∙ ap (λ (kept : Report). keep_answer kept c.args.report) c.index.ensures in
    subst (λ (s : StoreView). (g : Group) → IsStoreOf g s → Keeps g s s c.args.report (Old c.index.result.now.number)) c.self.view_is
    (λ g of. keeps g (store_of c.self.inside) c.self.inside.observed.items c.place_behind-place.result c.args.report (Old c.index.result.now.number) c.index.result.now of here (c.place_behind-place.ensures ∙ ap (λ (n : ℕ). place_behind n c.args.report.entity) c.device_count.ensures) answer refl)

pub returns-clause-keeps : goal.returns-clause-keeps
returns-clause-keeps c =
    let here = subst (λ (s : StoreView). IsIn s.target c.args.report.entity) (sym c.self.view_is) c.requires in
    let answer = keep_taken c.index.result.now c.args.report (omega arith) ∙ ap (λ (kept : Report). keep_answer kept c.args.report) c.index.ensures in
    subst (λ (s : StoreView). (g : Group) → IsStoreOf g s → Keeps g s (record (store_of c.self.inside) { observed = set c.self.inside.observed.items c.place_behind-place.result c.args.report }) c.args.report Taken) c.self.view_is
    (λ g of. keeps g (store_of c.self.inside) (set c.self.inside.observed.items c.place_behind-place.result c.args.report) c.place_behind-place.result c.args.report Taken c.index.result.now of here (c.place_behind-place.ensures ∙ ap (λ (n : ℕ). place_behind n c.args.report.entity) c.device_count.ensures) answer refl)
