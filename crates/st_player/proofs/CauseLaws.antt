-- The version by which a variable is told to be set gives it the value that it has in the target; and a failure that is told left the health.
use Rattle.std.proofs.Common.{◌≡◌, ◌∙◌, ℕ, ◌+◌, ◌≤◌, true, false, true≢false, Bool, Some, None, Option, List, [], ◌∷◌, ◌++◌, length, take, refl, sym, ap, ap₂, subst, arith, length-append}
use Rattle.std.specs.Prelude.{◌&&◌, ◌||◌, ◌==◌, unwrap_or, if◌then◌else◌}
use Rattle.std.proofs.lemmas.Bool.Decides.{nat_tests}
use Rattle.std.proofs.lemmas.List.{take-append-le, take_all}
use Rattle.st_net.specs.declared.entity.Entity.{Entity}
use Rattle.st_net.specs.declared.entity.Row.{Row}
use Rattle.st_net.specs.declared.entity.Var.{Var}
use Rattle.st_net.specs.declared.entity.Var.TheVariants.{Power, Firmware, Config, Routing, LinkPower, Iface}
use Rattle.st_net.specs.Entities.{is_same_entity, is_same_var, value_of}
use Rattle.st_net.specs.Groups.{Group, opening_of}
use Rattle.st_net.specs.Merge.{first_of_two, is_on, merge_of, row_on}
use Rattle.st_event.specs.declared.event.Event.{Event}
use Rattle.st_event.specs.declared.event.Event.TheVariants.{Fail}
use Rattle.st_event.specs.declared.journal.Entry.{Entry}
use Rattle.st_event.specs.Moments.{health, health_after}
use Rattle.st_event.specs.Overlaid.{overlaid_by}
use Rattle.st_event.specs.Proposals.{overlays, target, version, with_overlay}
use Rattle.st_event.specs.Versions.{value_at}
use Rattle.st_event.proofs.Targets.{target_overlaid}
use Rattle.st_player.specs.declared.origins.Failure.{Failure}
use Rattle.st_player.specs.declared.origins.Setter.{Setter}
use Rattle.st_player.specs.Causes.{failure_after, failure_of, is_set_by, is_set_in, next_setter, overlay_of, setter_of, var_place}
use Rattle.st_player.specs.Laws.{FailuresLeftHealth, SettersSet, UnsetAreOpening}

-- a row on a variable is one on its place
self : (n : ℕ) → (n == n) ≡ true
self n = grind (arith, nat_tests)

on_place : (v w : Var) → is_same_var v w ≡ true → (var_place v == var_place w) ≡ true
on_place Power Power is = refl
on_place Firmware Firmware is = refl
on_place Config Config is = refl
on_place Routing Routing is = refl
on_place LinkPower LinkPower is = refl
on_place Iface Iface is = refl
on_place _ _ is = cc

not_on : (a b c : Bool) → (b ≡ true → c ≡ true) → (a && c) ≡ false → (a && b) ≡ false
not_on false b c up none = refl
not_on true true c up none = absurd (true≢false (sym (up refl) ∙ none))
not_on true false c up none = refl

neither : (a b : Bool) → (a || b) ≡ false → (a ≡ false) × (b ≡ false)
neither true b is = absurd (true≢false is)
neither false b is = (refl, is)

unset_rows : (rows : List Row) (e : Entity) (v : Var) → is_set_by rows e (var_place v) ≡ false → row_on rows e v ≡ None
unset_rows [] e v none = refl
unset_rows (row ∷ rows) e v none =
    let parts = neither (is_same_entity row.entity e && var_place row.var == var_place v) (is_set_by rows e (var_place v)) none in
    let here : is_on row e v ≡ false = not_on (is_same_entity row.entity e) (is_same_var row.var v) (var_place row.var == var_place v) (on_place row.var v) parts.0 in
    ap₂ (λ (o : Option ℕ) (b : Bool). first_of_two o (if b then Some row.value else None)) (unset_rows rows e v parts.1) here

-- an entry that does not set a variable leaves its value in the target, and there are no fewer overlays
record LeavesValue (g : Group) (past : List Entry) (entry : Entry) (e : Entity) (v : Var) : Type 0 where
  value : target g (entry ∷ past) e v ≡ target g past e v
  front : (n : ℕ) → n ≤ length (overlays past) → take n (overlays (entry ∷ past)) ≡ take n (overlays past)
  grown : length (overlays past) ≤ length (overlays (entry ∷ past))

left_alone : (g : Group) (past : List Entry) (entry : Entry) (e : Entity) (v : Var) → is_set_in (overlay_of past entry) e (var_place v) ≡ false → LeavesValue g past entry e v
left_alone g past entry e v none = by_overlay (overlay_of past entry) refl none
  where
    by_overlay : (o : Option (List Row)) → overlay_of past entry ≡ o → is_set_in o e (var_place v) ≡ false → LeavesValue g past entry e v
    by_overlay None is none =
        let same : overlays (entry ∷ past) ≡ overlays past = ap (λ (o : Option (List Row)). with_overlay o (overlays past)) is in
        record {
          value = ap (λ (t : Entity → Var → ℕ). t e v) (target_overlaid g past entry ∙ ap (λ (o : Option (List Row)). overlaid_by o (target g past)) is);
          front = λ n low. ap (take n) same;
          grown = omega (arith, ap length same);
        }
    by_overlay (Some rows) is none =
        let next : overlays (entry ∷ past) ≡ overlays past ++ rows ∷ [] = ap (λ (o : Option (List Row)). with_overlay o (overlays past)) is in
        record {
          value =
              ap (λ (t : Entity → Var → ℕ). t e v) (target_overlaid g past entry ∙ ap (λ (o : Option (List Row)). overlaid_by o (target g past)) is)
              ∙ ap (λ (o : Option ℕ). unwrap_or o (target g past e v)) (unset_rows rows e v none);
          front = λ n low. ap (take n) next ∙ take-append-le n (overlays past) (rows ∷ []) low;
          grown = omega (arith, ap length next, length-append (overlays past) (rows ∷ []));
        }

abbrev IsSet : Group → List Entry → Entity → Var → Setter → Type 0
IsSet g past e v setter = (setter.version ≤ version past) × (value_at g past setter.version e v ≡ target g past e v)

set_now : (g : Group) (past : List Entry) (entry : Entry) (e : Entity) (v : Var) (o : Option (List Row)) → overlay_of past entry ≡ o → is_set_in o e (var_place v) ≡ true → IsSet g (entry ∷ past) e v (next_setter past entry.event)
set_now g past entry e v None is sets = absurd (true≢false (sym sets))
set_now g past entry e v (Some rows) is sets =
    let next : overlays (entry ∷ past) ≡ overlays past ++ rows ∷ [] = ap (λ (o : Option (List Row)). with_overlay o (overlays past)) is in
    let long : length (overlays (entry ∷ past)) ≡ version past + 1 = omega (arith, ap length next, length-append (overlays past) (rows ∷ [])) in (
      omega (arith, long),
      ap (λ (rows : List (List Row)). merge_of g rows e v) (take_all (version past + 1) (overlays (entry ∷ past)) (omega (arith, long))),
    )

set_still : (g : Group) (past : List Entry) (entry : Entry) (e : Entity) (v : Var) (setter : Setter) → LeavesValue g past entry e v → IsSet g past e v setter → IsSet g (entry ∷ past) e v setter
set_still g past entry e v setter left set = (
  let low = set.0 in let more = left.grown in omega (arith, low, more),
  ap (λ (rows : List (List Row)). merge_of g rows e v) (left.front setter.version set.0) ∙ (set.1 ∙ sym left.value),
)

pub setters_set : SettersSet
setters_set g [] e v setter is = absurd cc
setters_set g (entry ∷ past) e v setter is = by_test (is_set_in (overlay_of past entry) e (var_place v)) refl (setters_set g past e v setter) is
  where
    by_test : (b : Bool) → is_set_in (overlay_of past entry) e (var_place v) ≡ b → (setter_of past e (var_place v) ≡ Some setter → IsSet g past e v setter) → (if b then Some (next_setter past entry.event) else setter_of past e (var_place v)) ≡ Some setter → IsSet g (entry ∷ past) e v setter
    by_test true sets before is =
        let same : next_setter past entry.event ≡ setter = cc in
        subst (λ (s : Setter). IsSet g (entry ∷ past) e v s) same (set_now g past entry e v (overlay_of past entry) refl sets)
    by_test false other before is = set_still g past entry e v setter (left_alone g past entry e v other) (before is)

pub unset_are_opening : UnsetAreOpening
unset_are_opening g [] e v none = refl
unset_are_opening g (entry ∷ past) e v none = by_test (is_set_in (overlay_of past entry) e (var_place v)) refl (unset_are_opening g past e v) none
  where
    by_test : (b : Bool) → is_set_in (overlay_of past entry) e (var_place v) ≡ b → (setter_of past e (var_place v) ≡ None → target g past e v ≡ value_of e (opening_of g e) v) → (if b then Some (next_setter past entry.event) else setter_of past e (var_place v)) ≡ None → target g (entry ∷ past) e v ≡ value_of e (opening_of g e) v
    by_test true sets before none = absurd cc
    by_test false other before none = (left_alone g past entry e v other).value ∙ before none

left_if : (same : Bool) (n now before : ℕ) (last : Option Failure) (failure : Failure) → (if same then Some (record { entry = n; health = now }) else last) ≡ Some failure → (last ≡ Some failure → before ≡ failure.health) → (if same then now else before) ≡ failure.health
left_if true n now before last failure is was = let one : record { entry = n; health = now } ≡ failure = cc in ap (λ (f : Failure). f.health) one
left_if false n now before last failure is was = was is

left_by : (g : Group) (past : List Entry) (event : Event) (e : Entity) (failure : Failure) → failure_after event (length past + 1) e (failure_of past e) ≡ Some failure → (failure_of past e ≡ Some failure → health g past e ≡ failure.health)
    → health_after event e (health g past e) ≡ failure.health
left_by g past (Fail at vals now) e failure is was = left_if (is_same_entity at e) (length past + 1) now (health g past e) (failure_of past e) failure is was
left_by g past _ e failure is was = was is

pub failures_left : FailuresLeftHealth
failures_left g [] e failure is = absurd cc
failures_left g (entry ∷ past) e failure is = left_by g past entry.event e failure is (failures_left g past e failure)
