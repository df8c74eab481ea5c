-- One report replaced among those that are kept.
use Rattle.std.proofs.Common.{◌≡◌, ℕ, ◌<◌, ◌≤◌, List, length, get_or, set, Some, refl, sym, ap, ◌∙◌, subst, arith, length-set}
use Rattle.std.specs.Prelude.{Bool, true, false, ◌&&◌, nat_lt, if◌then◌else◌}
use Rattle.std.proofs.lemmas.Bool.Decides.{nat_tests}
use mathlib.Core.Path.{fun_ext}
use Rattle.st_net.specs.declared.entity.Entity.{Entity}
use Rattle.st_net.specs.declared.entity.Entity.TheVariants.{Device, Link}
use Rattle.st_net.specs.declared.message.Report.{Report}
use Rattle.st_net.specs.Entities.{is_same_entity}
use Rattle.st_net.specs.Groups.{Group, IsEntityOf}
use Rattle.st_net.proofs.Tests.{same_entity}
use Rattle.st_net.specs.Reports.{opening_report, later_report}
use Rattle.st_overlay.specs.Values.{Values, IsIn, IsTableOf}
use Rattle.st_store.specs.declared.reports.Keep.{Keep}
use Rattle.st_store.specs.declared.reports.Keep.TheVariants.{Taken, Old}
use Rattle.st_net.specs.InOrder.{report_in, place_in, place_behind, entity_count}
use Rattle.st_net.proofs.InOrder.{item_in_at, item_in-set}
use Rattle.st_store.specs.Reports.{keep_answer}
use Rattle.st_store.specs.Store.{StoreView, IsStoreOf, Keeps}

-- the reports after the answer to one more
abbrev pub reports_with : Keep → List Report → ℕ → Report → List Report
reports_with Taken reports place report = set reports place report
reports_with (Old number) reports place report = reports

-- a report in the place of its entity's; the others stay
report_in-set : (g : Group) (reports : List Report) (at e : Entity) (r : Report) → IsEntityOf g at → length reports ≡ entity_count g → report_in g (set reports (place_in g at) r) e ≡ (if is_same_entity at e then r else report_in g reports e)
report_in-set g reports at e r here count = item_in-set g reports (opening_report g) at e r here count

-- what is answered to a report whose number is no higher, and to one whose number is
answer_at : (kept report : Report) (later : Bool) → nat_lt kept.number report.number ≡ later → keep_answer kept report ≡ (if later then Taken else Old kept.number)
answer_at kept report later is = ap (λ (later : Bool). if later then Taken else Old kept.number) is

not_later : (m n : ℕ) → n ≤ m → nat_lt m n ≡ false
not_later m n le = grind (arith, nat_tests)

is_later : (m n : ℕ) → m < n → nat_lt m n ≡ true
is_later m n lt = grind (arith, nat_tests)

pub keep_old : (kept report : Report) → report.number ≤ kept.number → Old kept.number ≡ keep_answer kept report
keep_old kept report le = sym (answer_at kept report false (not_later kept.number report.number le))

pub keep_taken : (kept report : Report) → kept.number < report.number → Taken ≡ keep_answer kept report
keep_taken kept report lt = sym (answer_at kept report true (is_later kept.number report.number lt))

-- the later of two reports is kept of the one's entity, and all others stay
later_reports : (g : Group) (reports : List Report) (r : Report) (later : Bool) → IsEntityOf g r.entity → length reports ≡ entity_count g → nat_lt (report_in g reports r.entity).number r.number ≡ later → (e : Entity) → report_in g (reports_with (if later then Taken else Old (report_in g reports r.entity).number) reports (place_in g r.entity) r) e ≡ later_report e (Some r) (report_in g reports e)
later_reports g reports r true here count is e = report_in-set g reports r.entity e r here count ∙ by_entity (is_same_entity r.entity e) refl
  where
    by_entity : (same : Bool) → is_same_entity r.entity e ≡ same → (if same then r else report_in g reports e) ≡ (if same && nat_lt (report_in g reports e).number r.number then r else report_in g reports e)
    by_entity false other = refl
    by_entity true same = sym (ap (λ (later : Bool). if later then r else report_in g reports e) (subst (λ (x : Entity). nat_lt (report_in g reports x).number r.number ≡ true) (same_entity r.entity e same) is))
later_reports g reports r false here count is e = by_entity (is_same_entity r.entity e) refl
  where
    by_entity : (same : Bool) → is_same_entity r.entity e ≡ same → report_in g reports e ≡ (if same && nat_lt (report_in g reports e).number r.number then r else report_in g reports e)
    by_entity false other = refl
    by_entity true same = sym (ap (λ (later : Bool). if later then r else report_in g reports e) (subst (λ (x : Entity). nat_lt (report_in g reports x).number r.number ≡ false) (same_entity r.entity e same) is))

length-reports_with : (keep : Keep) (reports : List Report) (place : ℕ) (r : Report) → length (reports_with keep reports place r) ≡ length reports
length-reports_with Taken reports place r = length-set reports place r
length-reports_with (Old number) reports place r = refl

pub IsEntityOf-table : (g : Group) (t : Values) (e : Entity) → IsTableOf g t → IsIn t e → IsEntityOf g e
IsEntityOf-table g t (Device i) of here = let d = of.devices in omega (arith, d)
IsEntityOf-table g t (Link i) of here = let l = of.links in omega (arith, l)

-- what a store keeps of a report that it is handed
pub keeps : (g : Group) (old : StoreView) (observed : List Report) (place : ℕ) (report : Report) (keep : Keep) (d : Report) → IsStoreOf g old → IsIn old.target report.entity → place ≡ place_behind (length old.target.devices) report.entity → keep ≡ keep_answer (get_or old.observed place d) report → observed ≡ reports_with keep old.observed place report → Keeps g old (record old { observed = observed }) report keep
keeps g old observed place report keep d of here at answer after =
    let entity = IsEntityOf-table g old.target report.entity of.table here in
    let at_place : place ≡ place_in g report.entity = at ∙ ap (λ (n : ℕ). place_behind n report.entity) of.table.devices in
    let kept : get_or old.observed place d ≡ report_in g old.observed report.entity = ap (λ (k : ℕ). get_or old.observed k d) at_place ∙ sym (item_in_at g old.observed (opening_report g) report.entity d entity of.reports) in
    let answers : keep ≡ keep_answer (report_in g old.observed report.entity) report = answer ∙ ap (λ (r : Report). keep_answer r report) kept in
    record {
      answer = answers;
      observed = fun_ext (λ e.
          ap (λ (reports : List Report). report_in g reports e) (after ∙ ap (λ (k : ℕ). reports_with keep old.observed k report) at_place ∙ ap (λ (k : Keep). reports_with k old.observed (place_in g report.entity) report) answers)
          ∙ later_reports g old.observed report (nat_lt (report_in g old.observed report.entity).number report.number) entity of.reports refl e);
      of = record { table = of.table; reports = ap length after ∙ length-reports_with keep old.observed place report ∙ of.reports };
    }
