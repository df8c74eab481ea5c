-- Values in range, by one induction over a legal journal: what entries overlay fits, so what is to be, what is sent, worked on, had,
-- reported and observed is in range, and with that what a withdrawal overlays.
use Rattle.std.proofs.Common.{◌≡◌, ℕ, List, [], ◌∷◌, Option, Some, None, refl, sym, subst, inl, inr}
use Rattle.std.specs.Prelude.{Bool, true, false, ◌&&◌, ◌==◌, nat_lt, All, if◌then◌else◌, ◌⊎◌}
use Rattle.std.proofs.lemmas.List.Elements.{All-nil, All-cons, All-push}
use Rattle.st_net.specs.declared.entity.Entity.{Entity}
use Rattle.st_net.specs.declared.entity.Entity.TheVariants.{Device, Link}
use Rattle.st_net.specs.declared.entity.Row.{Row}
use Rattle.st_net.specs.declared.entity.Vals.{Vals}
use Rattle.st_net.specs.declared.entity.Var.{Var}
use Rattle.st_net.specs.declared.message.Command.{Command}
use Rattle.st_net.specs.declared.message.Report.{Report}
use Rattle.st_net.specs.Entities.{is_same_entity, is_var_of, value_of, vars_of}
use Rattle.st_net.specs.Groups.{Group, IsSound, IsEntityOf, opening_of}
use Rattle.st_net.specs.Merge.{last_write, vals_in}
use Rattle.st_net.specs.Numbered.{nth}
use Rattle.st_net.specs.Ranges.{RowFits, are_in_range, is_in_range}
use Rattle.st_net.specs.Reports.{later_report}
use Rattle.st_net.proofs.RangeLaws.{value_in_range, by_in_range, last_may, written_in_range, opening_in_range}
use Rattle.st_net.proofs.Tests.{both, same_entity}
use Rattle.st_event.specs.declared.event.Event.{Event}
use Rattle.st_event.specs.declared.event.Event.TheVariants.{Check, Send, Deliver, Finish, Report as make_report, Hear, Fail, Withdraw}
use Rattle.st_event.specs.declared.reply.Lack.{Lack}
use Rattle.st_event.specs.declared.reply.Reply.{Reply}
use Rattle.st_event.specs.declared.journal.Entry.{Entry}
use Rattle.st_event.specs.Legal.{Fits, IsLegal, IsNext}
use Rattle.st_event.specs.Judge.{lack_at}
use Rattle.st_event.specs.Moments.{command_of, heard, told, work_after, vals_after, commands, fence, busy, work, vals, reports}
use Rattle.st_event.specs.Observed.{observed}
use Rattle.st_event.specs.Proposals.{first_rows, is_accepting, overlay_in, overlays, pending, target, version, with_overlay}
use Rattle.st_event.specs.Receipts.{rows_withdrawn}
use Rattle.st_event.specs.Replies.{governing, kept_or_withdrawn, reply, row_to, rows_back}
use Rattle.st_event.specs.Laws.{IsInRange, AllInRange}
use Rattle.st_event.proofs.Accepting.{next_fits}
use Rattle.st_event.proofs.Made.{Makes, Sends, command_now, report_now, makes_last, sends_last, names_none}

-- what an entry overlays fits

abbrev IfRowsFit : Group → Option (List Row) → Type 0
IfRowsFit g None = Unit {0}
IfRowsFit g (Some rows) = All (RowFits g) rows

-- rows that go back to values in range fit

AreOf : Entity → List Var → Type 0
AreOf e [] = Unit {0}
AreOf e (v ∷ vs) = (is_var_of e v ≡ true) × AreOf e vs

own_variables : (e : Entity) → AreOf e (vars_of e)
unfolding AreOf
own_variables (Device i) = (refl, (refl, (refl, (refl, tt))))
own_variables (Link i) = (refl, (refl, tt))

one_back : (g : Group) (e : Entity) (v : Var) (value : Var → ℕ) (same : Bool) (rest : List Row) → RowFits g (row_to e v value) → All (RowFits g) rest → All (RowFits g) (if same then rest else row_to e v value ∷ rest)
one_back g e v value true rest fits all = all
one_back g e v value false rest fits all = All-cons (RowFits g) (row_to e v value) rest fits all

back_fit : (g : Group) (e : Entity) (value goal : Var → ℕ) (vs : List Var) → IsEntityOf g e → ((v : Var) → is_var_of e v ≡ true → is_in_range e v (value v) ≡ true) → AreOf e vs → All (RowFits g) (rows_back e value goal vs)
unfolding AreOf
back_fit g e value goal [] own ranged are = All-nil (RowFits g)
back_fit g e value goal (v ∷ vs) own ranged are = one_back g e v value (value v == goal v) (rows_back e value goal vs) (record { entity = own; range = ranged v are.0 }) (back_fit g e value goal vs own ranged are.1)

kept_or_fit : (g : Group) (lack : Option Lack) (rows : List Row) (version : ℕ) → All (RowFits g) rows → IfRowsFit g (rows_withdrawn (kept_or_withdrawn lack rows version))
kept_or_fit g None rows version fit = tt
kept_or_fit g (Some lack) [] version fit = tt
kept_or_fit g (Some lack) (row ∷ rows) version fit = fit

rows_fit : (g : Group) (past : List Entry) (at : Entity) → IsEntityOf g at → AllInRange g past → All (RowFits g) (rows_back at (value_of at (observed g past at).vals) (target g past at) (vars_of at))
rows_fit g past at own all =
    let ranged = all.seen at own in
    back_fit g at (value_of at (observed g past at).vals) (target g past at) (vars_of at) own (λ v has. value_in_range at (observed g past at).vals v ranged has) (own_variables at)

withdrawn_fit : (g : Group) (past : List Entry) (at : Entity) (answer : Reply) → IsEntityOf g at → answer ≡ reply g past (Withdraw at) → AllInRange g past → IfRowsFit g (rows_withdrawn answer)
withdrawn_fit g past at answer own is all =
    let lack = lack_at g (observed g past) (target g past) at (governing at (observed g past at).vals (target g past at)) in
    let rows = rows_back at (value_of at (observed g past at).vals) (target g past at) (vars_of at) in
    subst (λ (r : Reply). IfRowsFit g (rows_withdrawn r)) (sym is) (kept_or_fit g lack rows (version past) (rows_fit g past at own all))

overlay_fits : (g : Group) (past : List Entry) (event : Event) (answer : Reply) → IsLegal g past → Fits g event → answer ≡ reply g past event → AllInRange g past → IfRowsFit g (overlay_in event answer (first_rows (pending past)))
overlay_fits g past Check answer legal fits is all = accepting (is_accepting answer)
  where
    accepting : (b : Bool) → IfRowsFit g (if b then Some (first_rows (pending past)) else None)
    accepting true = next_fits g past legal
    accepting false = tt
overlay_fits g past (Withdraw at) answer legal fits is all = withdrawn_fit g past at answer fits is all
overlay_fits g past _ answer legal fits is all = tt

more_fit : (g : Group) (o : Option (List Row)) (before : List (List Row)) → IfRowsFit g o → All (All (RowFits g)) before → All (All (RowFits g)) (with_overlay o before)
more_fit g None before fit all = all
more_fit g (Some rows) before fit all = All-push (All (RowFits g)) before rows all fit

target_in_range : (g : Group) (past : List Entry) (e : Entity) → IsSound g → All (All (RowFits g)) (overlays past) → IsEntityOf g e → are_in_range e (vals_in g (target g past) e) ≡ true
target_in_range g past e sound fit own =
    let opens = opening_in_range g e sound own in
    by_in_range e (opening_of g e) (target g past e) opens
    (λ v has. written_in_range e v (last_write (overlays past) e v) (value_of e (opening_of g e) v) (last_may g (overlays past) e v fit) (value_in_range e (opening_of g e) v opens has))

-- messages

sends_in_range : (g : Group) (past : List Entry) (event : Event) (c : Command) → Fits g event → AllInRange g past → Sends event (command_now g past) c → IsInRange g c.entity c.vals
sends_in_range g past (Send e) c fits all sends = subst (λ (x : Command). IsInRange g x.entity x.vals) (sym sends) (record { entity = fits; range = all.targets e fits })
sends_in_range g past _ c fits all sends = absurd sends

makes_in_range : (g : Group) (past : List Entry) (event : Event) (r : Report) → Fits g event → AllInRange g past → Makes event (report_now g past) r → IsInRange g r.entity r.vals
makes_in_range g past (make_report e) r fits all makes = subst (λ (x : Report). IsInRange g x.entity x.vals) (sym makes) (record { entity = fits; range = all.values e fits })
makes_in_range g past _ r fits all makes = absurd makes

-- what is observed

heard_in_range : (g : Group) (past : List Entry) (event : Event) (r : Report) → AllInRange g past → heard event (nth (reports g past)) ≡ Some r → IsInRange g r.entity r.vals
heard_in_range g past (Hear n) r all is = all.made n r is
heard_in_range g past _ r all is = cc

later_in_range : (g : Group) (e : Entity) (o : Option Report) (kept : Report) → ((r : Report) → o ≡ Some r → IsInRange g r.entity r.vals) → are_in_range e kept.vals ≡ true → are_in_range e (later_report e o kept).vals ≡ true
later_in_range g e None kept made old = old
later_in_range g e (Some r) kept made old = by (is_same_entity r.entity e && nat_lt kept.number r.number) refl
  where
    by : (b : Bool) → (is_same_entity r.entity e && nat_lt kept.number r.number) ≡ b → are_in_range e (if b then r else kept).vals ≡ true
    by true is = subst (λ (x : Entity). are_in_range x r.vals ≡ true) (same_entity r.entity e (both (is_same_entity r.entity e) (nat_lt kept.number r.number) is).0) (made r refl).range
    by false is = old

-- agents

if_in_range : (e : Entity) (new before : Vals) (b : Bool) → are_in_range e new ≡ true → are_in_range e before ≡ true → are_in_range e (if b then new else before) ≡ true
if_in_range e new before true ranged old = ranged
if_in_range e new before false ranged old = old

failed_in_range : (at e : Entity) (new before : Vals) (b : Bool) → is_same_entity at e ≡ b → are_in_range at new ≡ true → are_in_range e before ≡ true → are_in_range e (if b then new else before) ≡ true
failed_in_range at e new before true same ranged old = subst (λ (x : Entity). are_in_range x new ≡ true) (same_entity at e same) ranged
failed_in_range at e new before false same ranged old = old

vals_after_in_range : (g : Group) (event : Event) (e : Entity) (is_busy : Bool) (done before : Vals) → Fits g event → are_in_range e done ≡ true → are_in_range e before ≡ true → are_in_range e (vals_after event e is_busy done before) ≡ true
vals_after_in_range g (Finish at) e is_busy done before fits ranged old = if_in_range e done before (is_same_entity at e && is_busy) ranged old
vals_after_in_range g (Fail at new health) e is_busy done before fits ranged old = failed_in_range at e new before (is_same_entity at e) refl fits.range old
vals_after_in_range g _ e is_busy done before fits ranged old = old

work_after_in_range : (e : Entity) (o : Option Command) (fence : ℕ) (before : Vals) → ((c : Command) → o ≡ Some c → are_in_range e c.vals ≡ true) → are_in_range e before ≡ true → are_in_range e (work_after o fence before) ≡ true
work_after_in_range e None fence before told_ranged old = old
work_after_in_range e (Some c) fence before told_ranged old = if_in_range e c.vals before (nat_lt fence c.stamp) (told_ranged c refl) old

told_of_in_range : (g : Group) (e : Entity) (o : Option Command) (c : Command) → ((c : Command) → o ≡ Some c → IsInRange g c.entity c.vals) → command_of e o ≡ Some c → are_in_range e c.vals ≡ true
told_of_in_range g e None c sent is = cc
told_of_in_range g e (Some d) c sent is = own (is_same_entity d.entity e) refl is
  where
    own : (b : Bool) → is_same_entity d.entity e ≡ b → (if b then Some d else None) ≡ Some c → are_in_range e c.vals ≡ true
    own true same is = let it : d ≡ c = cc in subst (λ (x : Command). are_in_range e x.vals ≡ true) it (subst (λ (x : Entity). are_in_range x d.vals ≡ true) (same_entity d.entity e same) (sent d refl).range)
    own false same is = cc

told_in_range : (g : Group) (past : List Entry) (e : Entity) (event : Event) (c : Command) → AllInRange g past → told e event (nth (commands g past)) ≡ Some c → are_in_range e c.vals ≡ true
told_in_range g past e (Deliver n) c all is = told_of_in_range g e (nth (commands g past) n) c (all.sent n) is
told_in_range g past e _ c all is = cc

-- one entry more

opens_in_range : (g : Group) → IsSound g → AllInRange g []
opens_in_range g sound = record {
  overlaid = All-nil (All (RowFits g));
  targets = λ e own. target_in_range g [] e sound (All-nil (All (RowFits g))) own;
  sent = λ n c is. absurd (names_none n c is);
  working = λ e own. opening_in_range g e sound own;
  values = λ e own. opening_in_range g e sound own;
  made = λ n r is. absurd (names_none n r is);
  seen = λ e own. opening_in_range g e sound own;
}

goes_on : (g : Group) (past : List Entry) (entry : Entry) → IsSound g → IsLegal g past → IsNext g past entry → AllInRange g past → AllInRange g (entry ∷ past)
goes_on g past entry sound legal next all =
    let fit = more_fit g (overlay_in entry.event entry.reply (first_rows (pending past))) (overlays past) (overlay_fits g past entry.event entry.reply legal next.fits next.answer all) all.overlaid in
    record {
      overlaid = fit;
      targets = λ e own. target_in_range g (entry ∷ past) e sound fit own;
      sent = λ n c is. sent_by n c (sends_last entry.event entry.reply (command_now g past) (commands g past) n c is);
      working = λ e own. work_after_in_range e (told e entry.event (nth (commands g past))) (fence g past e) (work g past e) (λ c is. told_in_range g past e entry.event c all is) (all.working e own);
      values = λ e own. vals_after_in_range g entry.event e (busy g past e) (work g past e) (vals g past e) next.fits (all.working e own) (all.values e own);
      made = λ n r is. made_by n r (makes_last entry.event (report_now g past) (reports g past) n r is);
      seen = λ e own. later_in_range g e (heard entry.event (nth (reports g past))) (observed g past e) (λ r is. heard_in_range g past entry.event r all is) (all.seen e own);
    }
  where
    sent_by : (n : ℕ) (c : Command) → ((nth (commands g past) n ≡ Some c) ⊎ Sends entry.event (command_now g past) c) → IsInRange g c.entity c.vals
    sent_by n c (inl is) = all.sent n c is
    sent_by n c (inr sends) = sends_in_range g past entry.event c next.fits all sends

    made_by : (n : ℕ) (r : Report) → ((nth (reports g past) n ≡ Some r) ⊎ Makes entry.event (report_now g past) r) → IsInRange g r.entity r.vals
    made_by n r (inl is) = all.made n r is
    made_by n r (inr makes) = makes_in_range g past entry.event r next.fits all makes

pub all_in_range : (g : Group) (past : List Entry) → IsSound g → IsLegal g past → AllInRange g past
all_in_range g [] sound legal = opens_in_range g sound
all_in_range g (entry ∷ past) sound legal = goes_on g past entry sound legal.1 legal.0 (all_in_range g past sound legal.1)

-- so the rows that would lead an entity's target back to what was observed fit
pub back_in_range : (g : Group) (past : List Entry) (at : Entity) → IsSound g → IsLegal g past → IsEntityOf g at → All (RowFits g) (rows_back at (value_of at (observed g past at).vals) (target g past at) (vars_of at))
back_in_range g past at sound legal own = rows_fit g past at own (all_in_range g past sound legal)
