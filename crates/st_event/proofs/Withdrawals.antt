-- What a withdrawal makes of the target, of the stamps and of the sure set.
use Rattle.std.proofs.Common.{◌≡◌, ℕ, ◌+◌, ◌≤◌, List, [], ◌∷◌, length, Option, Some, None, refl, ap, sym, ◌∙◌, subst, inl, inr, arith}
use Rattle.std.specs.Prelude.{Bool, true, false, ◌&&◌, ◌||◌, ◌==◌, not, is_some, unwrap_or, if◌then◌else◌, ◌⊎◌, ◌↔◌}
use Rattle.std.proofs.lemmas.Bool.Decides.{nat_tests}
use Rattle.std.proofs.Math.Bool.{and-false}
use mathlib.Core.Path.{fun_ext}
use Rattle.st_net.specs.declared.entity.Entity.{Entity}
use Rattle.st_net.specs.declared.entity.Entity.TheVariants.{Device, Link}
use Rattle.st_net.specs.declared.entity.Row.{Row}
use Rattle.st_net.specs.declared.entity.Vals.{Vals}
use Rattle.st_net.specs.declared.entity.Var.{Var}
use Rattle.st_net.specs.declared.entity.Var.TheVariants.{Power, Firmware, Config, Routing, LinkPower, Iface}
use Rattle.st_net.specs.Entities.{is_same_entity, is_same_var, is_same_vals, is_var_of, value_of, vals_by, vars_of}
use Rattle.st_net.specs.Groups.{Group, opening_of}
use Rattle.st_net.specs.Merge.{alters, first_of_two, is_on, row_on, target_with, vals_in}
use Rattle.st_net.specs.Sets.{IsWithin}
use Rattle.st_net.proofs.Tests.{both, equal_numbers, equal_self, same_entity, same_self, same_vals, same_vals_self}
use Rattle.st_event.specs.declared.event.Event.{Event}
use Rattle.st_event.specs.declared.event.Event.TheVariants.{Check, Withdraw}
use Rattle.st_event.specs.declared.journal.Entry.{Entry}
use Rattle.st_event.specs.declared.reply.Lack.{Lack}
use Rattle.st_event.specs.declared.reply.Reply.{Reply}
use Rattle.st_event.specs.declared.reply.Reply.TheVariants.{Kept}
use Rattle.st_event.specs.Judge.{lack_at}
use Rattle.st_event.specs.Laws.{WithdrawsOne}
use Rattle.st_event.specs.Legal.{IsNext}
use Rattle.st_event.specs.Moments.{fence, is_taken, stamp}
use Rattle.st_event.specs.Observed.{is_settled, observed, sure}
use Rattle.st_event.specs.Overlaid.{overlaid_by}
use Rattle.st_event.specs.Proposals.{is_acceptance, makes_version, target, version}
use Rattle.st_event.specs.Receipts.{rows_withdrawn}
use Rattle.st_event.specs.Replies.{governing, kept_or_withdrawn, reply, row_to, rows_back}
use Rattle.st_event.proofs.Made.{observed_own}
use Rattle.st_event.proofs.Shown.{made_is_true}
use Rattle.st_event.proofs.Stamps.{fence_small, stamp_small}
use Rattle.st_event.proofs.Targets.{target_overlaid}

-- variables

same_var : (v w : Var) → is_same_var v w ≡ true → v ≡ w
same_var Power Power same = refl
same_var Firmware Firmware same = refl
same_var Config Config same = refl
same_var Routing Routing same = refl
same_var LinkPower LinkPower same = refl
same_var Iface Iface same = refl
same_var _ _ same = cc

is_among : Var → List Var → Bool
is_among v [] = false
is_among v (w ∷ ws) = is_same_var w v || is_among v ws

-- the variables of an entity are listed
listed : (e : Entity) (v : Var) → is_var_of e v ≡ true → is_among v (vars_of e) ≡ true
unfolding is_among
listed (Device i) Power is = refl
listed (Device i) Firmware is = refl
listed (Device i) Config is = refl
listed (Device i) Routing is = refl
listed (Link i) LinkPower is = refl
listed (Link i) Iface is = refl
listed (Device i) LinkPower is = cc
listed (Device i) Iface is = cc
listed (Link i) Power is = cc
listed (Link i) Firmware is = cc
listed (Link i) Config is = cc
listed (Link i) Routing is = cc

listed_is : (e : Entity) (v : Var) → is_among v (vars_of e) ≡ true → is_var_of e v ≡ true
unfolding is_among
listed_is (Device i) Power is = refl
listed_is (Device i) Firmware is = refl
listed_is (Device i) Config is = refl
listed_is (Device i) Routing is = refl
listed_is (Link i) LinkPower is = refl
listed_is (Link i) Iface is = refl
listed_is (Device i) LinkPower is = cc
listed_is (Device i) Iface is = cc
listed_is (Link i) Power is = cc
listed_is (Link i) Firmware is = cc
listed_is (Link i) Config is = cc
listed_is (Link i) Routing is = cc

-- an entity's variable has the value that its values come from
by_value : (e : Entity) (opening : Vals) (value : Var → ℕ) (v : Var) → is_var_of e v ≡ true → value_of e (vals_by e opening value) v ≡ value v
by_value (Device i) opening value Power is = refl
by_value (Device i) opening value Firmware is = refl
by_value (Device i) opening value Config is = refl
by_value (Device i) opening value Routing is = refl
by_value (Link i) opening value LinkPower is = refl
by_value (Link i) opening value Iface is = refl
by_value (Device i) opening value LinkPower is = cc
by_value (Device i) opening value Iface is = cc
by_value (Link i) opening value Power is = cc
by_value (Link i) opening value Firmware is = cc
by_value (Link i) opening value Config is = cc
by_value (Link i) opening value Routing is = cc

-- what the rows give each variable of the entity: its own value

on_other : (e other : Entity) (v w : Var) (n : ℕ) → is_same_entity e other ≡ false → (if is_on (record { entity = e; var = w; value = n }) other v then Some n else None) ≡ None
on_other e other v w n is = rw is refl

none_by : (a b : Option ℕ) → a ≡ None → b ≡ None → first_of_two a b ≡ None
none_by a b x y = rw (x, y) refl

no_row : (e other : Entity) (value goal : Var → ℕ) (vs : List Var) (v : Var) → is_same_entity e other ≡ false → row_on (rows_back e value goal vs) other v ≡ None
no_row e other value goal [] v is = refl
no_row e other value goal (w ∷ ws) v is = by (value w == goal w) (no_row e other value goal ws v is)
  where
    by : (b : Bool) → row_on (rows_back e value goal ws) other v ≡ None → row_on (if b then rows_back e value goal ws else row_to e w value ∷ rows_back e value goal ws) other v ≡ None
    by true rest = rest
    by false rest = none_by (row_on (rows_back e value goal ws) other v) _ rest (on_other e other v w (value w) is)

-- a row on a variable has its value
row_value : (e : Entity) (value goal : Var → ℕ) (vs : List Var) (v : Var) (n : ℕ) → row_on (rows_back e value goal vs) e v ≡ Some n → n ≡ value v
row_value e value goal [] v n is = cc
row_value e value goal (w ∷ ws) v n is = by (value w == goal w) (row_value e value goal ws v n) is
  where
    here : (b : Bool) → is_on (row_to e w value) e v ≡ b → (if b then Some (value w) else None) ≡ Some n → n ≡ value v
    here true on is = let at : w ≡ v = same_var w v (both (is_same_entity e e) (is_same_var w v) on).1 in let same : value w ≡ value v = ap value at in cc
    here false on is = cc

    joined : (o : Option ℕ) → row_on (rows_back e value goal ws) e v ≡ o → (row_on (rows_back e value goal ws) e v ≡ Some n → n ≡ value v) → first_of_two o (if is_on (row_to e w value) e v then Some (value w) else None) ≡ Some n → n ≡ value v
    joined None none rest is = here (is_on (row_to e w value) e v) refl is
    joined (Some m) some rest is = rest (some ∙ is)

    by : (b : Bool) → (row_on (rows_back e value goal ws) e v ≡ Some n → n ≡ value v) → row_on (if b then rows_back e value goal ws else row_to e w value ∷ rows_back e value goal ws) e v ≡ Some n → n ≡ value v
    by true rest is = rest is
    by false rest is = joined (row_on (rows_back e value goal ws) e v) refl rest is

-- and a listed variable without a row has that value in the target
no_row_same : (e : Entity) (value goal : Var → ℕ) (vs : List Var) (v : Var) → is_among v vs ≡ true → row_on (rows_back e value goal vs) e v ≡ None → goal v ≡ value v
unfolding is_among
no_row_same e value goal [] v among none = cc
no_row_same e value goal (w ∷ ws) v among none = by (value w == goal w) refl (λ later missing. no_row_same e value goal ws v later missing) none
  where
    first : (b : Bool) → is_same_var w v ≡ b → (value w == goal w) ≡ true → (is_among v ws ≡ true → row_on (rows_back e value goal ws) e v ≡ None → goal v ≡ value v) → row_on (rows_back e value goal ws) e v ≡ None → goal v ≡ value v
    first true same equal rest none = let at : w ≡ v = same_var w v same in let values : value w ≡ goal w = equal_numbers (value w) (goal w) equal in subst (λ (x : Var). goal x ≡ value x) at (sym values)
    first false other equal rest none = rest (rw other at among) none

    some : (o : Option ℕ) → is_same_var w v ≡ true → first_of_two o (if is_on (row_to e w value) e v then Some (value w) else None) ≡ None → ⊥
    some None same is = let on : is_on (row_to e w value) e v ≡ true = rw (same_self e, same) refl in let it = rw on at is in cc
    some (Some m) same is = cc

    missing : (o other : Option ℕ) → first_of_two o other ≡ None → o ≡ None
    missing None other is = refl
    missing (Some m) other is = cc

    on_first : (b : Bool) → is_same_var w v ≡ b → (is_among v ws ≡ true → row_on (rows_back e value goal ws) e v ≡ None → goal v ≡ value v) → first_of_two (row_on (rows_back e value goal ws) e v) (if is_on (row_to e w value) e v then Some (value w) else None) ≡ None → goal v ≡ value v
    on_first true same rest none = absurd (some (row_on (rows_back e value goal ws) e v) same none)
    on_first false other rest none = rest (rw other at among) (missing (row_on (rows_back e value goal ws) e v) (if is_on (row_to e w value) e v then Some (value w) else None) none)

    by : (b : Bool) → (value w == goal w) ≡ b → (is_among v ws ≡ true → row_on (rows_back e value goal ws) e v ≡ None → goal v ≡ value v) → row_on (if b then rows_back e value goal ws else row_to e w value ∷ rows_back e value goal ws) e v ≡ None → goal v ≡ value v
    by true equal rest none = first (is_same_var w v) refl equal rest none
    by false other rest none = on_first (is_same_var w v) refl rest none

back_at : (e : Entity) (value goal : Var → ℕ) (v : Var) → is_var_of e v ≡ true → unwrap_or (row_on (rows_back e value goal (vars_of e)) e v) (goal v) ≡ value v
back_at e value goal v is = by (row_on (rows_back e value goal (vars_of e)) e v) refl
  where
    by : (o : Option ℕ) → row_on (rows_back e value goal (vars_of e)) e v ≡ o → unwrap_or o (goal v) ≡ value v
    by None none = no_row_same e value goal (vars_of e) v (listed e v is) none
    by (Some n) some = row_value e value goal (vars_of e) v n some

-- where no listed variable differs there are no rows
no_rows : (e : Entity) (value goal : Var → ℕ) (vs : List Var) → ((v : Var) → is_among v vs ≡ true → value v ≡ goal v) → rows_back e value goal vs ≡ []
unfolding is_among
no_rows e value goal [] same = refl
no_rows e value goal (w ∷ ws) same =
    let here : value w ≡ goal w = same w (rw (equal_var w) refl) in
    let test : (value w == goal w) ≡ true = rw here (equal_self (goal w)) in
    rw test (no_rows e value goal ws (λ v among. same v (or_true (is_same_var w v) (is_among v ws) among)))
  where
    equal_var : (w : Var) → is_same_var w w ≡ true
    equal_var Power = refl
    equal_var Firmware = refl
    equal_var Config = refl
    equal_var Routing = refl
    equal_var LinkPower = refl
    equal_var Iface = refl

    or_true : (p q : Bool) → q ≡ true → (p || q) ≡ true
    or_true true q is = refl
    or_true false q is = is

-- and where there are none, none differs
none_differs : (e : Entity) (value goal : Var → ℕ) (v : Var) → rows_back e value goal (vars_of e) ≡ [] → is_var_of e v ≡ true → value v ≡ goal v
none_differs e value goal v none is = sym (no_row_same e value goal (vars_of e) v (listed e v is) (rw none refl))

-- the target with the rows

back_in_target : (e : Entity) (goal : Entity → Var → ℕ) (value : Var → ℕ) (v : Var) → is_var_of e v ≡ true → target_with goal (rows_back e value (goal e) (vars_of e)) e v ≡ value v
back_in_target e goal value v is = back_at e value (goal e) v is

others_stay : (e other : Entity) (goal : Entity → Var → ℕ) (value : Var → ℕ) → is_same_entity e other ≡ false → target_with goal (rows_back e value (goal e) (vars_of e)) other ≡ goal other
others_stay e other goal value apart = fun_ext (λ v. rw (no_row e other value (goal e) (vars_of e) v apart) refl)

pub alters_no_other : (g : Group) (e other : Entity) (goal : Entity → Var → ℕ) (value : Var → ℕ) → is_same_entity e other ≡ false → alters g goal (rows_back e value (goal e) (vars_of e)) other ≡ false
alters_no_other g e other goal value apart = rw (others_stay e other goal value apart, same_vals_self (vals_in g goal other)) refl

-- values that are the target's differ in no variable
same_values : (g : Group) (e : Entity) (goal : Entity → Var → ℕ) (vals : Vals) (value : Var → ℕ) → ((v : Var) → is_var_of e v ≡ true → value_of e vals v ≡ value v) → is_same_vals vals (vals_in g goal e) ≡ true → rows_back e value (goal e) (vars_of e) ≡ []
same_values g e goal vals value shows same =
    let equal : vals ≡ vals_in g goal e = same_vals vals (vals_in g goal e) same in
    no_rows e value (goal e) (vars_of e) (λ v among.
    let own = listed_is e v among in
    sym (shows v own) ∙ ap (λ (x : Vals). value_of e x v) equal ∙ by_value e (opening_of g e) (goal e) v own)

pub alters_own : (g : Group) (e : Entity) (goal : Entity → Var → ℕ) (value : Var → ℕ) (row : Row) (rest : List Row) → rows_back e value (goal e) (vars_of e) ≡ row ∷ rest → alters g goal (rows_back e value (goal e) (vars_of e)) e ≡ true
alters_own g e goal value row rest some = by (is_same_vals (vals_in g (target_with goal (rows_back e value (goal e) (vars_of e))) e) (vals_in g goal e)) refl
  where
    by : (b : Bool) → is_same_vals (vals_in g (target_with goal (rows_back e value (goal e) (vars_of e))) e) (vals_in g goal e) ≡ b → not b ≡ true
    by true same =
        let none = same_values g e goal (vals_in g (target_with goal (rows_back e value (goal e) (vars_of e))) e) value
        (λ v own. by_value e (opening_of g e) (target_with goal (rows_back e value (goal e) (vars_of e)) e) v own ∙ back_in_target e goal value v own) same in
        cc
    by false other = refl

-- what a withdrawal is: its reply has such rows, and at least one
pub record IsWithdrawn (g : Group) (past : List Entry) (at : Entity) (answer : Reply) : Type 0 where
  pub row : Row
  pub rest : List Row
  pub some : rows_back at (value_of at (observed g past at).vals) (target g past at) (vars_of at) ≡ row ∷ rest
  pub rows : rows_withdrawn answer ≡ Some (rows_back at (value_of at (observed g past at).vals) (target g past at) (vars_of at))
  pub takes : is_taken answer ≡ false

withdrawn_by : (o : Option Lack) (rows : List Row) (n : ℕ) → is_some (rows_withdrawn (kept_or_withdrawn o rows n)) ≡ true → rows_withdrawn (kept_or_withdrawn o rows n) ≡ Some rows
withdrawn_by None rows n is = cc
withdrawn_by (Some lack) [] n is = cc
withdrawn_by (Some lack) (row ∷ rest) n is = refl

one_of : (o : Option Lack) (rows : List Row) (n : ℕ) → is_some (rows_withdrawn (kept_or_withdrawn o rows n)) ≡ true → (row : Row) × (rest : List Row) × (rows ≡ row ∷ rest)
one_of None rows n is = absurd cc
one_of (Some lack) [] n is = absurd cc
one_of (Some lack) (row ∷ rest) n is = (row, rest, refl)

not_taken : (o : Option Lack) (rows : List Row) (n : ℕ) → is_taken (kept_or_withdrawn o rows n) ≡ false
not_taken None rows n = refl
not_taken (Some lack) [] n = refl
not_taken (Some lack) (row ∷ rest) n = refl

pub withdrawal : (g : Group) (past : List Entry) (at : Entity) (answer : Reply) → answer ≡ reply g past (Withdraw at) → is_some (rows_withdrawn answer) ≡ true → IsWithdrawn g past at answer
withdrawal g past at answer is some =
    let lack = lack_at g (observed g past) (target g past) at (governing at (observed g past at).vals (target g past at)) in
    let rows = rows_back at (value_of at (observed g past at).vals) (target g past at) (vars_of at) in
    let here : is_some (rows_withdrawn (kept_or_withdrawn lack rows (version past))) ≡ true = subst (λ (r : Reply). is_some (rows_withdrawn r) ≡ true) is some in
    let one = one_of lack rows (version past) here in
    record {
      row = one.0;
      rest = one.1;
      some = one.2;
      rows = ap rows_withdrawn is ∙ withdrawn_by lack rows (version past) here;
      takes = ap is_taken is ∙ not_taken lack rows (version past);
    }

-- how it moves one entity

abbrev pub entry_by : Entity → Reply → Entry
entry_by at answer = record { event = Withdraw at; reply = answer }

moved_target : (g : Group) (past : List Entry) (at : Entity) (answer : Reply) → IsWithdrawn g past at answer → target g (entry_by at answer ∷ past) ≡ target_with (target g past) (rows_back at (value_of at (observed g past at).vals) (target g past at) (vars_of at))
moved_target g past at answer is = target_overlaid g past (entry_by at answer) ∙ ap (λ (o : Option (List Row)). overlaid_by o (target g past)) is.rows

own_stamp : (g : Group) (past : List Entry) (at : Entity) (answer : Reply) → IsWithdrawn g past at answer → stamp g (entry_by at answer ∷ past) at ≡ length past + 1
own_stamp g past at answer is = rw (is.rows, alters_own g at (target g past) (value_of at (observed g past at).vals) is.row is.rest is.some) refl

pub other_stamp : (g : Group) (past : List Entry) (at e : Entity) (answer : Reply) → IsWithdrawn g past at answer → is_same_entity at e ≡ false → stamp g (entry_by at answer ∷ past) e ≡ stamp g past e
other_stamp g past at e answer is apart = rw (is.rows, alters_no_other g at e (target g past) (value_of at (observed g past at).vals) apart, is.takes) refl

pub other_target : (g : Group) (past : List Entry) (at e : Entity) (answer : Reply) → IsWithdrawn g past at answer → is_same_entity at e ≡ false → target g (entry_by at answer ∷ past) e ≡ target g past e
other_target g past at e answer is apart = ap (λ (t : Entity → Var → ℕ). t e) (moved_target g past at answer is) ∙ others_stay at e (target g past) (value_of at (observed g past at).vals) apart

own_target : (g : Group) (past : List Entry) (at : Entity) (answer : Reply) (v : Var) → IsWithdrawn g past at answer → is_var_of at v ≡ true → target g (entry_by at answer ∷ past) at v ≡ value_of at (observed g past at).vals v
own_target g past at answer v is own = ap (λ (t : Entity → Var → ℕ). t at v) (moved_target g past at answer is) ∙ back_in_target at (target g past) (value_of at (observed g past at).vals) v own

withdraws_at : (g : Group) (past : List Entry) (event : Event) (answer : Reply) (at : Entity) → event ≡ Withdraw at → is_some (rows_withdrawn answer) ≡ true → answer ≡ reply g past event → WithdrawsOne g past (record { event = event; reply = answer }) at
withdraws_at g past event answer at is some answers =
    let it = withdrawal g past at answer (answers ∙ ap (reply g past) is) some in
    subst (λ (x : Event). WithdrawsOne g past (record { event = x; reply = answer }) at) (sym is) (record {
      stamped = own_stamp g past at answer it;
      back = λ v own. own_target g past at answer v it own;
      stamps_stay = λ e apart. other_stamp g past at e answer it apart;
      targets_stay = λ e apart. other_target g past at e answer it apart;
    })

pub withdraws_one : (g : Group) (past : List Entry) (entry : Entry) (at : Entity) → entry.event ≡ Withdraw at → is_some (rows_withdrawn entry.reply) ≡ true → IsNext g past entry → WithdrawsOne g past entry at
withdraws_one g past entry at is some next = withdraws_at g past entry.event entry.reply at is some next.answer

-- the sure set

-- the entity was not settled: its report shows other values than the target's
own_before : (g : Group) (past : List Entry) (at : Entity) (answer : Reply) → IsWithdrawn g past at answer → is_settled g past at ≡ false
own_before g past at answer is = by (is_same_vals (observed g past at).vals (vals_in g (target g past) at)) refl
  where
    by : (b : Bool) → is_same_vals (observed g past at).vals (vals_in g (target g past) at) ≡ b → is_settled g past at ≡ false
    by true same =
        let none = same_values g at (target g past) (observed g past at).vals (value_of at (observed g past at).vals) (λ v own. refl) same in
        let some = is.some in
        absurd (cc (none, some))
    by false other = rw other (and-false _)

-- and its new stamp is above each fence
own_after : (g : Group) (past : List Entry) (at : Entity) (answer : Reply) → IsWithdrawn g past at answer → is_settled g (entry_by at answer ∷ past) at ≡ false
own_after g past at answer is =
    let own = observed_own g past at in
    let behind : (observed g past at).fence ≤ fence g past at = subst (λ (x : Entity). (observed g past at).fence ≤ fence g past x) own.own (made_is_true g past (observed g past at) own.made).behind in
    let low = fence_small g past at in
    let small = stamp_small g past at in
    let apart : ((observed g past at).fence == (length past + 1)) ≡ false = differ (observed g past at).fence (length past + 1) (omega (arith, behind, low, small)) in
    rw (own_stamp g past at answer is, apart) (false_between (not (observed g past at).busy) _)
  where
    differ : (m n : ℕ) → m + 1 ≤ n → (m == n) ≡ false
    differ m n less = grind (arith, nat_tests)

    false_between : (p q : Bool) → ((p && false) && q) ≡ false
    false_between true q = refl
    false_between false q = refl

sure_at : (g : Group) (past : List Entry) (at e : Entity) (answer : Reply) (b : Bool) → is_same_entity at e ≡ b → IsWithdrawn g past at answer → sure g (entry_by at answer ∷ past) e ≡ sure g past e
sure_at g past at e answer true same is =
    let here : at ≡ e = same_entity at e same in
    let before : is_settled g past e ≡ false = subst (λ (x : Entity). is_settled g past x ≡ false) here (own_before g past at answer is) in
    let after : is_settled g (entry_by at answer ∷ past) e ≡ false = subst (λ (x : Entity). is_settled g (entry_by at answer ∷ past) x ≡ false) here (own_after g past at answer is) in
    rw (before, after) refl
sure_at g past at e answer false apart is =
    let goal : vals_in g (target g (entry_by at answer ∷ past)) e ≡ vals_in g (target g past) e = ap (vals_by e (opening_of g e)) (other_target g past at e answer is apart) in
    rw (other_stamp g past at e answer is apart, goal) refl

leaves_at : (g : Group) (past : List Entry) (event : Event) (answer : Reply) (at : Entity) (b : Bool) → is_some (rows_withdrawn answer) ≡ b → event ≡ Withdraw at → answer ≡ reply g past event → sure g (record { event = event; reply = answer } ∷ past) ≡ sure g past
leaves_at g past event answer at true some is answers =
    let it = withdrawal g past at answer (answers ∙ ap (reply g past) is) some in
    ap (λ (x : Event). sure g (record { event = x; reply = answer } ∷ past)) is ∙ fun_ext (λ e. sure_at g past at e answer (is_same_entity at e) refl it)
leaves_at g past event answer at false none is answers =
    ap (λ (x : Event). sure g (record { event = x; reply = answer } ∷ past)) is ∙ fun_ext (λ e. nothing (rows_withdrawn answer) refl none e)
  where
    nothing : (o : Option (List Row)) → rows_withdrawn answer ≡ o → is_some o ≡ false → (e : Entity) → sure g (entry_by at answer ∷ past) e ≡ sure g past e
    nothing None is_none none e =
        let moved : target g (entry_by at answer ∷ past) ≡ target g past = target_overlaid g past (entry_by at answer) ∙ ap (λ (o : Option (List Row)). overlaid_by o (target g past)) is_none in
        let stamps : stamp g (entry_by at answer ∷ past) e ≡ stamp g past e = rw (is_none, and-false (is_taken answer)) refl in
        rw (moved, stamps) refl
    nothing (Some rows) is_some none e = cc

pub leaves_sure : (g : Group) (past : List Entry) (entry : Entry) (at : Entity) → entry.event ≡ Withdraw at → IsNext g past entry → sure g (entry ∷ past) ≡ sure g past
leaves_sure g past entry at is next = leaves_at g past entry.event entry.reply at (is_some (rows_withdrawn entry.reply)) refl is next.answer

-- what makes a version and accepts nothing is a withdrawal
withdraws_of : (event : Event) (answer : Reply) → makes_version event answer ≡ true → is_acceptance event answer ≡ false → (at : Entity) × (event ≡ Withdraw at)
withdraws_of (Withdraw at) answer makes none = (at, refl)
withdraws_of Check answer makes none = absurd cc
withdraws_of _ answer makes none = absurd cc

pub withdrawal_within : (g : Group) (past : List Entry) (entry : Entry) → IsNext g past entry → makes_version entry.event entry.reply ≡ true → is_acceptance entry.event entry.reply ≡ false → IsWithin (sure g past) (sure g (entry ∷ past))
withdrawal_within g past entry next makes none e is =
    let at = withdraws_of entry.event entry.reply makes none in
    ap (λ (up : Entity → Bool). up e) (leaves_sure g past entry at.0 at.1 next) ∙ is

-- when nothing is withdrawn

kept_by : (o : Option Lack) (rows : List Row) (n : ℕ) → kept_or_withdrawn o rows n ≡ Kept → (rows ≡ []) ⊎ (o ≡ None)
kept_by None rows n is = inr refl
kept_by (Some lack) [] n is = inl refl
kept_by (Some lack) (row ∷ rest) n is = cc

keeps_by : (o : Option Lack) (rows : List Row) (n : ℕ) → ((rows ≡ []) ⊎ (o ≡ None)) → kept_or_withdrawn o rows n ≡ Kept
keeps_by None rows n is = refl
keeps_by (Some lack) rows n (inl none) = rw none refl
keeps_by (Some lack) rows n (inr none) = cc

pub kept_tells : (g : Group) (past : List Entry) (e : Entity) → (reply g past (Withdraw e) ≡ Kept) ↔ (((v : Var) → is_var_of e v ≡ true → value_of e (observed g past e).vals v ≡ target g past e v) ⊎ (lack_at g (observed g past) (target g past) e (governing e (observed g past e).vals (target g past e)) ≡ None))
kept_tells g past e =
    let lack = lack_at g (observed g past) (target g past) e (governing e (observed g past e).vals (target g past e)) in
    let value = value_of e (observed g past e).vals in
    let rows = rows_back e value (target g past e) (vars_of e) in
    ((λ is. there (kept_by lack rows (version past) is)), (λ either. keeps_by lack rows (version past) (back either)))
  where
    there : ((rows_back e (value_of e (observed g past e).vals) (target g past e) (vars_of e) ≡ []) ⊎ (lack_at g (observed g past) (target g past) e (governing e (observed g past e).vals (target g past e)) ≡ None)) → ((v : Var) → is_var_of e v ≡ true → value_of e (observed g past e).vals v ≡ target g past e v) ⊎ (lack_at g (observed g past) (target g past) e (governing e (observed g past e).vals (target g past e)) ≡ None)
    there (inl none) = inl (λ v own. none_differs e (value_of e (observed g past e).vals) (target g past e) v none own)
    there (inr free) = inr free

    back : (((v : Var) → is_var_of e v ≡ true → value_of e (observed g past e).vals v ≡ target g past e v) ⊎ (lack_at g (observed g past) (target g past) e (governing e (observed g past e).vals (target g past e)) ≡ None)) → (rows_back e (value_of e (observed g past e).vals) (target g past e) (vars_of e) ≡ []) ⊎ (lack_at g (observed g past) (target g past) e (governing e (observed g past e).vals (target g past e)) ≡ None)
    back (inl same) = inl (no_rows e (value_of e (observed g past e).vals) (target g past e) (vars_of e) (λ v among. same v (listed_is e v among)))
    back (inr free) = inr free
