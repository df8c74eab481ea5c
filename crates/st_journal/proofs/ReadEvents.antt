-- An event that was read fits its group.
use Rattle.std.proofs.Common.{◌≡◌, ℕ, suc, ◌+◌, ◌<◌, ◌≤◌, List, [], ◌∷◌, ◌++◌, length, sym, subst, refl, arith}
use Rattle.std.specs.Prelude.{true, false, nat_le, Option, Some, None, option_map, Ok}
use Rattle.std.specs.List.{AllByRecursion}
use Rattle.std.proofs.lemmas.Bool.{leb-true}
use Rattle.std.proofs.lemmas.List.{length_push}
use Rattle.std.proofs.lemmas.List.Elements.{All-from_recursion}
use Rattle.st_net.specs.declared.entity.Entity.{Entity}
use Rattle.st_net.specs.declared.entity.Entity.TheVariants.{Device, Link}
use Rattle.st_net.specs.declared.entity.Var.{Var}
use Rattle.st_net.specs.declared.entity.Var.TheVariants.{Power, Firmware, Config, Routing, LinkPower, Iface}
use Rattle.st_net.specs.declared.entity.Vals.{Vals}
use Rattle.st_net.specs.declared.entity.Row.{Row}
use Rattle.st_net.specs.declared.topo.TheConstants.{MAX_ROWS}
use Rattle.st_net.specs.Names.{place_of}
use Rattle.st_net.specs.Entities.{vars_of, value_set}
use Rattle.st_net.specs.Groups.{Group, IsSound, IsEntityOf, entity_or, find_in, no_vals, are_device_vals, are_link_vals}
use Rattle.st_net.specs.Ranges.{RowFits, is_in_range, are_in_range, are_apart, is_free_of, most_health}
use Rattle.st_net.proofs.Tests.{both}
use Rattle.st_event.specs.declared.event.Event.{Event}
use Rattle.st_event.specs.declared.event.Event.TheVariants.{Submit, Check, Lock, Unlock, Send, Deliver, Finish, Report as make_report, Hear, Fail, Withdraw}
use Rattle.st_event.specs.Legal.{Fits}
use Rattle.st_entry.specs.declared.keyword.EventWord.{EventWord}
use Rattle.st_entry.specs.declared.keyword.EventWord.TheVariants as events
use Rattle.st_token.specs.declared.fault.FaultKind.TheVariants as kinds
use Rattle.st_token.specs.Places.{cut_at}
use Rattle.st_token.specs.Counts.{none_of, one_of, three_of, one_and_some_of, two_and_some_of}
use Rattle.st_token.specs.Spelling.{name_in, entity_in, number_in, number_within, prio_in}
use Rattle.st_token.specs.Variables.{dotted_in, undotted_in, assignment_by, assignment_in, new_assignment_in, rows_in, number_of_var_in, value_by, value_in}
use Rattle.st_token.proofs.ReadTokens.{came_from, chose, chosen, was_some, number_range, place_below, assigned_range, some_tokens}
use Rattle.st_token.proofs.RowLemmas.{apart_last}
use Rattle.st_journal.specs.EventReading.{app_in, vals_in, submit_of, check_of, lock_of, unlock_of, send_of, finish_of, report_of, deliver_of, hear_of, fail_of, withdraw_of, event_of, has_few_rows}

-- what a name finds is of the group
found_within : (g : Group) (devices links : Option ℕ) (e : Entity) → IsSound g → ((k : ℕ) → devices ≡ Some k → k < length g.device_names) → ((k : ℕ) → links ≡ Some k → k < length g.link_names)
    → entity_or (option_map Device devices) (option_map Link links) ≡ Some e → IsEntityOf g e
found_within g (Some k) links e s below low is =
    let same : Device k ≡ e = cc in
    let less : k < length g.device_names = below k refl in
    let count : length g.device_names ≡ length g.devices = s.device_names in
    subst (IsEntityOf g) same (omega (arith, count))
found_within g None (Some k) e s below low is =
    let same : Link k ≡ e = cc in
    let less : k < length g.link_names = low k refl in
    let count : length g.link_names ≡ length g.links = s.link_names in
    subst (IsEntityOf g) same (omega (arith, count))
found_within g None None e s below low is = absurd (cc)

pub entity_within : (g : Group) (token : List ℕ) (e : Entity) → IsSound g → entity_in (find_in g) token ≡ Ok e → IsEntityOf g e
unfolding entity_in
entity_within g token e s is =
    let name = came_from (name_in token) _ e is in
    let found = was_some (find_in g name.0) e kinds.Unknown name.2 in
    found_within g (place_of name.0 g.device_names) (place_of name.0 g.link_names) e s (place_below name.0 g.device_names) (place_below name.0 g.link_names) found

-- a row of an assignment fits
assigned_fits : (g : Group) (token : List ℕ) (row : Row) (o : Option (List ℕ × List ℕ)) → IsSound g → assignment_by (find_in g) token o ≡ Ok row → RowFits g row
unfolding dotted_in undotted_in
assigned_fits g token row None s is =
    let e = came_from (entity_in (find_in g) token) _ row is in
    absurd (let no = (chosen false (Ok row) row kinds.Value e.2).0 in cc)
assigned_fits g token row (Some parts) s is =
    let e = came_from (entity_in (find_in g) parts.0) _ row is in
    let range = assigned_range e.0 parts.1 row (cut_at 61 parts.1) e.2 in
    record { entity = subst (IsEntityOf g) (sym range.on) (entity_within g parts.0 e.0 s e.1); range = range.range }

-- one more at the end
pushed : {X : Type 0} (P : X → Type 0) (xs : List X) (x : X) → AllByRecursion P xs → P x → AllByRecursion P (xs ++ x ∷ [])
pushed P [] x all p = (p, tt)
pushed P (y ∷ ys) x all p = (all.0, pushed P ys x all.1 p)

-- the rows of a line fit their group, and there are as many as tokens
record AreRowsOf (g : Group) (count : ℕ) (rows : List Row) : Type 0 where
  each : AllByRecursion (RowFits g) rows
  apart : are_apart rows ≡ true
  count_is : length rows ≡ count

rows_read : (g : Group) (tokens : List (List ℕ)) (set rows : List Row) (count : ℕ) → IsSound g → AreRowsOf g count set → rows_in (find_in g) set tokens ≡ Ok rows → AreRowsOf g (count + length tokens) rows
unfolding rows_in new_assignment_in
rows_read g [] set rows count s had is =
    let same : set ≡ rows = cc in
    subst (AreRowsOf g (count + 0)) same (record { each = had.each; apart = had.apart; count_is = let n : length set ≡ count = had.count_is in omega arith })
rows_read g (token ∷ tokens) set rows count s had is =
    let row = came_from (new_assignment_in (find_in g) set token) _ rows is in
    let first = came_from (assignment_in (find_in g) token) _ row.0 row.1 in
    let free = chose (is_free_of first.0.entity first.0.var set) first.0 row.0 kinds.Twice first.2 in
    let fits : RowFits g row.0 = subst (RowFits g) free.1 (assigned_fits g token first.0 (cut_at 46 token) s first.1) in
    let fresh : is_free_of row.0.entity row.0.var set ≡ true = subst (λ (r : Row). is_free_of r.entity r.var set ≡ true) free.1 free.0 in
    let more : AreRowsOf g (count + 1) (set ++ row.0 ∷ []) = record { each = pushed (RowFits g) set row.0 had.each fits; apart = apart_last set row.0 had.apart fresh; count_is = let n : length set ≡ count = had.count_is in rw (length_push set row.0) (omega arith) } in
    let number : (count + 1) + length tokens ≡ count + suc (length tokens) = omega arith in
    subst (λ (n : ℕ). AreRowsOf g n rows) number (rows_read g tokens (set ++ row.0 ∷ []) rows (count + 1) s more row.2)

-- an event that fits, but for how many rows it has
abbrev pub FitsIfFew : Group → Event → Type 0
FitsIfFew g event = has_few_rows event ≡ true → Fits g event

submit_fits : (g : Group) (apps args : List (List ℕ)) (event : Event) → IsSound g → submit_of g apps args ≡ Ok event → FitsIfFew g event
unfolding submit_of
submit_fits g apps args event s is =
    let words = came_from (one_and_some_of args) _ event is in
    let app = came_from (app_in apps words.0.0) _ event words.2 in
    let rows = came_from (rows_in (find_in g) [] words.0.1) _ event app.2 in
    let made : Submit app.0 rows.0 ≡ event = cc in
    let none : AreRowsOf g 0 [] = record { each = tt; apart = refl; count_is = refl } in
    let read = rows_read g words.0.1 [] rows.0 0 s none rows.1 in
    let some : 1 ≤ length words.0.1 = some_tokens args words.0 words.1 in
    let count : length rows.0 ≡ 0 + length words.0.1 = read.count_is in
    subst (FitsIfFew g) made (λ few. record { some = omega arith; few = leb-true (length rows.0) MAX_ROWS few; each = All-from_recursion (RowFits g) rows.0 read.each; apart = read.apart })

check_fits : (g : Group) (args : List (List ℕ)) (event : Event) → check_of args ≡ Ok event → FitsIfFew g event
unfolding check_of
check_fits g args event is =
    let none = came_from (none_of args) _ event is in
    let made : Check ≡ event = cc in
    subst (FitsIfFew g) made (λ few. tt)

lock_fits : (g : Group) (apps args : List (List ℕ)) (event : Event) → IsSound g → lock_of g apps args ≡ Ok event → FitsIfFew g event
unfolding lock_of
lock_fits g apps args event s is =
    let words = came_from (three_of args) _ event is in
    let app = came_from (app_in apps words.0.0) _ event words.2 in
    let e = came_from (entity_in (find_in g) words.0.1) _ event app.2 in
    let prio = came_from (prio_in words.0.2) _ event e.2 in
    let made : Lock app.0 e.0 prio.0 ≡ event = cc in
    subst (FitsIfFew g) made (λ few. entity_within g words.0.1 e.0 s e.1)

unlock_fits : (g : Group) (apps args : List (List ℕ)) (event : Event) → IsSound g → unlock_of g apps args ≡ Ok event → FitsIfFew g event
unfolding unlock_of
unlock_fits g apps args event s is =
    let words = came_from (three_of args) _ event is in
    let app = came_from (app_in apps words.0.0) _ event words.2 in
    let e = came_from (entity_in (find_in g) words.0.1) _ event app.2 in
    let prio = came_from (prio_in words.0.2) _ event e.2 in
    let made : Unlock app.0 e.0 prio.0 ≡ event = cc in
    subst (FitsIfFew g) made (λ few. entity_within g words.0.1 e.0 s e.1)

send_fits : (g : Group) (args : List (List ℕ)) (event : Event) → IsSound g → send_of g args ≡ Ok event → FitsIfFew g event
unfolding send_of
send_fits g args event s is =
    let word = came_from (one_of args) _ event is in
    let e = came_from (entity_in (find_in g) word.0) _ event word.2 in
    let made : Send e.0 ≡ event = cc in
    subst (FitsIfFew g) made (λ few. entity_within g word.0 e.0 s e.1)

finish_fits : (g : Group) (args : List (List ℕ)) (event : Event) → IsSound g → finish_of g args ≡ Ok event → FitsIfFew g event
unfolding finish_of
finish_fits g args event s is =
    let word = came_from (one_of args) _ event is in
    let e = came_from (entity_in (find_in g) word.0) _ event word.2 in
    let made : Finish e.0 ≡ event = cc in
    subst (FitsIfFew g) made (λ few. entity_within g word.0 e.0 s e.1)

report_fits : (g : Group) (args : List (List ℕ)) (event : Event) → IsSound g → report_of g args ≡ Ok event → FitsIfFew g event
unfolding report_of
report_fits g args event s is =
    let word = came_from (one_of args) _ event is in
    let e = came_from (entity_in (find_in g) word.0) _ event word.2 in
    let made : make_report e.0 ≡ event = cc in
    subst (FitsIfFew g) made (λ few. entity_within g word.0 e.0 s e.1)

withdraw_fits : (g : Group) (args : List (List ℕ)) (event : Event) → IsSound g → withdraw_of g args ≡ Ok event → FitsIfFew g event
unfolding withdraw_of
withdraw_fits g args event s is =
    let word = came_from (one_of args) _ event is in
    let e = came_from (entity_in (find_in g) word.0) _ event word.2 in
    let made : Withdraw e.0 ≡ event = cc in
    subst (FitsIfFew g) made (λ few. entity_within g word.0 e.0 s e.1)

deliver_fits : (g : Group) (args : List (List ℕ)) (event : Event) → deliver_of args ≡ Ok event → FitsIfFew g event
unfolding deliver_of
deliver_fits g args event is =
    let word = came_from (one_of args) _ event is in
    let n = came_from (number_in word.0) _ event word.2 in
    let made : Deliver n.0 ≡ event = cc in
    subst (FitsIfFew g) made (λ few. tt)

hear_fits : (g : Group) (args : List (List ℕ)) (event : Event) → hear_of args ≡ Ok event → FitsIfFew g event
unfolding hear_of
hear_fits g args event is =
    let word = came_from (one_of args) _ event is in
    let n = came_from (number_in word.0) _ event word.2 in
    let made : Hear n.0 ≡ event = cc in
    subst (FitsIfFew g) made (λ few. tt)

-- a value that was read is in range
value_range : (e : Entity) (v : Var) (n : ℕ) (o : Option (List ℕ × List ℕ)) → value_by e v o ≡ Ok n → is_in_range e v n ≡ true
unfolding number_of_var_in
value_range e v n None is = absurd (cc)
value_range e v n (Some parts) is =
    let own = chosen _ (number_of_var_in e v parts.1) n kinds.Value is in
    let m = came_from (number_in parts.1) _ n own.1 in
    let range = chose (is_in_range e v m.0) m.0 n kinds.Value m.2 in
    subst (λ (k : ℕ). is_in_range e v k ≡ true) range.1 range.0

-- one variable's value after another's
one_read : (e : Entity) (vals : Vals) (v : Var) (vars : List Var) (tokens : List (List ℕ)) (all : Vals) → vals_in e vals (v ∷ vars) tokens ≡ Ok all
    → (n : ℕ) × (rest : List (List ℕ)) × (is_in_range e v n ≡ true) × (vals_in e (value_set e vals v n) vars rest ≡ Ok all)
unfolding vals_in
one_read e vals v vars [] all is = absurd (cc)
one_read e vals v vars (token ∷ tokens) all is =
    let n = came_from (value_in e v token) _ all is in
    (n.0, tokens, value_range e v n.0 (cut_at 61 token) n.1, n.2)

none_left : (e : Entity) (vals all : Vals) (tokens : List (List ℕ)) → vals_in e vals [] tokens ≡ Ok all → vals ≡ all
unfolding vals_in
none_left e vals all [] is = cc
none_left e vals all (token ∷ tokens) is = absurd (cc)

vals_range : (e : Entity) (tokens : List (List ℕ)) (all : Vals) → vals_in e no_vals (vars_of e) tokens ≡ Ok all → are_in_range e all ≡ true
vals_range (Device i) tokens all is =
    let a = one_read (Device i) no_vals Power (Firmware ∷ Config ∷ Routing ∷ []) tokens all is in
    let b = one_read (Device i) _ Firmware (Config ∷ Routing ∷ []) a.1 all a.3 in
    let c = one_read (Device i) _ Config (Routing ∷ []) b.1 all b.3 in
    let d = one_read (Device i) _ Routing [] c.1 all c.3 in
    subst (λ (v : Vals). are_device_vals v ≡ true) (none_left (Device i) _ all d.1 d.3) (rw (a.2, b.2, c.2, d.2) refl)
vals_range (Link i) tokens all is =
    let a = one_read (Link i) no_vals LinkPower (Iface ∷ []) tokens all is in
    let b = one_read (Link i) _ Iface [] a.1 all a.3 in
    subst (λ (v : Vals). are_link_vals v ≡ true) (none_left (Link i) _ all b.1 b.3) (rw (a.2, b.2) refl)

fail_fits : (g : Group) (args : List (List ℕ)) (event : Event) → IsSound g → fail_of g args ≡ Ok event → FitsIfFew g event
unfolding fail_of
fail_fits g args event s is =
    let words = came_from (two_and_some_of args) _ event is in
    let e = came_from (entity_in (find_in g) words.0.0) _ event words.2 in
    let health = came_from (number_within 0 (most_health e.0) words.0.1) _ event e.2 in
    let vals = came_from (vals_in e.0 no_vals (vars_of e.0) words.0.2) _ event health.2 in
    let made : Fail e.0 vals.0 health.0 ≡ event = cc in
    let level = both (nat_le 0 health.0) (nat_le health.0 (most_health e.0)) (number_range 0 (most_health e.0) health.0 words.0.1 health.1) in
    subst (FitsIfFew g) made (λ few. record { entity = entity_within g words.0.0 e.0 s e.1; range = vals_range e.0 words.0.2 vals.0 vals.1; level = level.1 })

-- the event of any word
pub event_fits : (g : Group) (apps args : List (List ℕ)) (word : EventWord) (event : Event) → IsSound g → event_of g apps word args ≡ Ok event → FitsIfFew g event
event_fits g apps args events.Submit event s is = submit_fits g apps args event s is
event_fits g apps args events.Check event s is = check_fits g args event is
event_fits g apps args events.Lock event s is = lock_fits g apps args event s is
event_fits g apps args events.Unlock event s is = unlock_fits g apps args event s is
event_fits g apps args events.Send event s is = send_fits g args event s is
event_fits g apps args events.Deliver event s is = deliver_fits g args event is
event_fits g apps args events.Finish event s is = finish_fits g args event s is
event_fits g apps args events.Report event s is = report_fits g args event s is
event_fits g apps args events.Hear event s is = hear_fits g args event is
event_fits g apps args events.Fail event s is = fail_fits g args event s is
event_fits g apps args events.Withdraw event s is = withdraw_fits g args event s is
