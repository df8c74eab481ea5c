-- What the rows between two targets do: they write each variable in which the targets differ, and no other.
use Rattle.std.proofs.Common.{◌≡◌, ℕ, zero, suc, ◌<◌, ◌⊎◌, List, [], ◌∷◌, ◌++◌, length, get_or, Option, Some, None, refl, sym, ap, subst, inl, inr, ◌∙◌, arith}
use Rattle.std.specs.Prelude.{Bool, true, false, ◌==◌, ◌&&◌, nat_lt, flat_map, if◌then◌else◌, unwrap_or}
use Rattle.st_net.specs.declared.entity.Entity.{Entity}
use Rattle.st_net.specs.declared.entity.Entity.TheVariants.{Device, Link}
use Rattle.st_net.specs.declared.entity.Row.{Row}
use Rattle.st_net.specs.declared.entity.Var.{Var}
use Rattle.st_net.specs.declared.entity.Var.TheVariants.{Power, Firmware, Config, Routing, LinkPower, Iface}
use Rattle.st_net.specs.Entities.{is_same_entity, is_same_var, is_var_of, vars_of}
use Rattle.st_net.specs.Groups.{Group, IsEntityOf}
use Rattle.st_net.specs.InOrder.{entities_of, place_in}
use Rattle.st_net.specs.Merge.{first_of_two, row_on, target_with}
use Rattle.st_net.specs.Ranges.{IsVariableOf}
use Rattle.st_net.proofs.EntityOrder.{at_place, entities_count}
use Rattle.st_net.proofs.MergeLaws.{first_of_two-assoc, first_of_two-none}
use Rattle.st_net.proofs.Tests.{same_entity, same_self, equal_numbers}
use Rattle.st_event.specs.declared.journal.Entry.{Entry}
use Rattle.st_event.specs.Proposals.{target, version}
use Rattle.st_event.specs.Standing.{Standing, standing_of}
use Rattle.st_event.specs.Versions.{value_at}
use Rattle.st_control.specs.Control.{ControlView, standing_in, versions_in}
use Rattle.st_revert.specs.declared.back.Revert.TheVariants.{NoVersion}
use Rattle.st_revert.specs.Back.{row_to, rows_at, rows_between, back, back_in, answer_of, revert_after, revert_of}
use Rattle.st_revert.specs.Laws.{AnswersAs}

-- what is written to a variable: the other value, where the two differ
abbrev write : ℕ → ℕ → Option ℕ
write from to = if from == to then None else Some to

-- the last row of two lists
row_on-append : (xs ys : List Row) (e : Entity) (v : Var) → row_on (xs ++ ys) e v ≡ first_of_two (row_on ys e v) (row_on xs e v)
row_on-append [] ys e v = sym (first_of_two-none (row_on ys e v))
row_on-append (x ∷ xs) ys e v = rw (row_on-append xs ys e v) (first_of_two-assoc (row_on ys e v) (row_on xs e v) _)

-- the row of one variable, looked at by another
row_of_one : (f e : Entity) (w v : Var) (from to : ℕ) → row_on (row_to f w from to) e v ≡ (if is_same_entity f e && is_same_var w v then write from to else None)
row_of_one f e w v from to = by_tests (from == to) (is_same_entity f e && is_same_var w v) refl
  where
    by_tests : (same on : Bool) → (is_same_entity f e && is_same_var w v) ≡ on → row_on (if same then [] else record { entity = f; var = w; value = to } ∷ []) e v ≡ (if on then (if same then None else Some to) else None)
    by_tests true true is = refl
    by_tests true false is = refl
    by_tests false true is = rw is refl
    by_tests false false is = rw is refl

-- rows of another entity write nothing here
of_another : (from to : Entity → Var → ℕ) (f e : Entity) (v : Var) (vars : List Var) → is_same_entity f e ≡ false → row_on (flat_map (λ w. row_to f w (from f w) (to f w)) vars) e v ≡ None
of_another from to f e v [] other = refl
of_another from to f e v (w ∷ ws) other =
    row_on-append (row_to f w (from f w) (to f w)) (flat_map (λ w. row_to f w (from f w) (to f w)) ws) e v
    ∙ rw (of_another from to f e v ws other, row_of_one f e w v (from f w) (to f w), other) refl

-- the rows of an entity, looked at by its own variable
own_one : (e : Entity) (w v : Var) (from to : ℕ) → row_on (row_to e w from to) e v ≡ (if is_same_var w v then write from to else None)
own_one e w v from to = row_of_one e e w v from to ∙ rw (same_self e) refl

push_last : (e : Entity) (v w : Var) (from to : ℕ) → row_on (row_to e w from to ++ []) e v ≡ (if is_same_var w v then write from to else None)
push_last e v w from to = row_on-append (row_to e w from to) [] e v ∙ own_one e w v from to

push_one : (e : Entity) (v w : Var) (from to : ℕ) (rows : List Row) (rest : Option ℕ) → row_on rows e v ≡ rest → row_on (row_to e w from to ++ rows) e v ≡ first_of_two rest (if is_same_var w v then write from to else None)
push_one e v w from to rows rest is = row_on-append (row_to e w from to) rows e v ∙ rw (is, own_one e w v from to) refl

of_device : (from to : Entity → Var → ℕ) (i : ℕ) (v : Var) → is_var_of (Device i) v ≡ true → row_on (rows_at from to (Device i)) (Device i) v ≡ write (from (Device i) v) (to (Device i) v)
of_device from to i v own = four v own
  where
    e : Entity
    e = Device i

    all : (v : Var) → row_on (rows_at from to (Device i)) (Device i) v ≡ first_of_two (first_of_two (first_of_two (if is_same_var Routing v then write (from (Device i) Routing) (to (Device i) Routing) else None) (if is_same_var Config v then write (from (Device i) Config) (to (Device i) Config) else None)) (if is_same_var Firmware v then write (from (Device i) Firmware) (to (Device i) Firmware) else None)) (if is_same_var Power v then write (from (Device i) Power) (to (Device i) Power) else None)
    all v = push_one (Device i) v Power _ _ _ _ (push_one (Device i) v Firmware _ _ _ _ (push_one (Device i) v Config _ _ _ _ (push_last (Device i) v Routing _ _)))

    four : (v : Var) → is_var_of (Device i) v ≡ true → row_on (rows_at from to (Device i)) (Device i) v ≡ write (from (Device i) v) (to (Device i) v)
    four Power own = all Power
    four Firmware own = all Firmware ∙ first_of_two-none _
    four Config own = all Config ∙ first_of_two-none _ ∙ first_of_two-none _
    four Routing own = all Routing ∙ first_of_two-none _ ∙ first_of_two-none _ ∙ first_of_two-none _
    four LinkPower own = cc
    four Iface own = cc

of_link : (from to : Entity → Var → ℕ) (i : ℕ) (v : Var) → is_var_of (Link i) v ≡ true → row_on (rows_at from to (Link i)) (Link i) v ≡ write (from (Link i) v) (to (Link i) v)
of_link from to i v own = two v own
  where
    all : (v : Var) → row_on (rows_at from to (Link i)) (Link i) v ≡ first_of_two (if is_same_var Iface v then write (from (Link i) Iface) (to (Link i) Iface) else None) (if is_same_var LinkPower v then write (from (Link i) LinkPower) (to (Link i) LinkPower) else None)
    all v = push_one (Link i) v LinkPower _ _ _ _ (push_last (Link i) v Iface _ _)

    two : (v : Var) → is_var_of (Link i) v ≡ true → row_on (rows_at from to (Link i)) (Link i) v ≡ write (from (Link i) v) (to (Link i) v)
    two LinkPower own = all LinkPower
    two Iface own = all Iface ∙ first_of_two-none _
    two Power own = cc
    two Firmware own = cc
    two Config own = cc
    two Routing own = cc

of_itself : (from to : Entity → Var → ℕ) (e : Entity) (v : Var) → is_var_of e v ≡ true → row_on (rows_at from to e) e v ≡ write (from e v) (to e v)
of_itself from to (Device i) v own = of_device from to i v own
of_itself from to (Link i) v own = of_link from to i v own

-- the rows of any entity write nothing here, or what is to be written
abbrev NoneOr : Option ℕ → Option ℕ → Type 0
NoneOr what is = (is ≡ None) ⊎ (is ≡ what)

of_any : (from to : Entity → Var → ℕ) (f e : Entity) (v : Var) (b : Bool) → is_same_entity f e ≡ b → is_var_of e v ≡ true → NoneOr (write (from e v) (to e v)) (row_on (rows_at from to f) e v)
of_any from to f e v true same own = inr (subst (λ (x : Entity). row_on (rows_at from to x) e v ≡ write (from e v) (to e v)) (sym (same_entity f e same)) (of_itself from to e v own))
of_any from to f e v false other own = inl (of_another from to f e v (vars_of f) other)

two_of : (what a b : Option ℕ) → NoneOr what a → NoneOr what b → NoneOr what (first_of_two a b)
two_of what a b (inl none) second = rw none second
two_of what a b (inr is) second = inr (rw is (same_twice what b second))
  where
    same_twice : (what b : Option ℕ) → NoneOr what b → first_of_two what b ≡ what
    same_twice (Some x) b is = refl
    same_twice None b (inl none) = none
    same_twice None b (inr is) = is

of_all : (from to : Entity → Var → ℕ) (es : List Entity) (e : Entity) (v : Var) → is_var_of e v ≡ true → NoneOr (write (from e v) (to e v)) (row_on (flat_map (rows_at from to) es) e v)
of_all from to [] e v own = inl refl
of_all from to (f ∷ fs) e v own = rw (row_on-append (rows_at from to f) (flat_map (rows_at from to) fs) e v) (two_of (write (from e v) (to e v)) (row_on (flat_map (rows_at from to) fs) e v) (row_on (rows_at from to f) e v) (of_all from to fs e v own) (of_any from to f e v (is_same_entity f e) refl own))

-- once the entity was met, it is written
first_is : (what a b : Option ℕ) → a ≡ what → NoneOr what b → first_of_two a b ≡ what
first_is (Some x) a b is second = rw is refl
first_is None a b is (inl none) = rw is none
first_is None a b is (inr second) = rw is second

second_is : (what a b : Option ℕ) → NoneOr what a → b ≡ what → first_of_two a b ≡ what
second_is what a b (inl none) is = rw none is
second_is (Some x) a b (inr first) is = rw first refl
second_is None a b (inr first) is = rw first is

of_met : (from to : Entity → Var → ℕ) (es : List Entity) (k : ℕ) (e : Entity) (v : Var) → is_var_of e v ≡ true → k < length es → get_or es k e ≡ e → row_on (flat_map (rows_at from to) es) e v ≡ write (from e v) (to e v)
of_met from to [] k e v own low is = absurd (omega (arith, low))
of_met from to (f ∷ fs) zero e v own low is =
    row_on-append (rows_at from to f) (flat_map (rows_at from to) fs) e v
    ∙ second_is (write (from e v) (to e v)) (row_on (flat_map (rows_at from to) fs) e v) (row_on (rows_at from to f) e v) (of_all from to fs e v own)
    (subst (λ (x : Entity). row_on (rows_at from to x) e v ≡ write (from e v) (to e v)) (sym is) (of_itself from to e v own))
of_met from to (f ∷ fs) (suc k) e v own low is =
    row_on-append (rows_at from to f) (flat_map (rows_at from to) fs) e v
    ∙ first_is (write (from e v) (to e v)) (row_on (flat_map (rows_at from to) fs) e v) (row_on (rows_at from to f) e v) (of_met from to fs k e v own (omega (arith, low)) is)
    (of_any from to f e v (is_same_entity f e) refl own)

-- an entity of the group stands below their number
place_within : (g : Group) (e : Entity) → IsEntityOf g e → place_in g e < length (entities_of g)
place_within g (Device i) low = let all = entities_count g in omega (arith, all, low)
place_within g (Link i) low = let all = entities_count g in omega (arith, all, low)

-- what is written leads from the one value to the other
written : (from to : ℕ) (b : Bool) → (from == to) ≡ b → unwrap_or (if b then None else Some to) from ≡ to
written from to true same = equal_numbers from to same
written from to false other = refl

pub leads_between : (g : Group) (from to : Entity → Var → ℕ) (e : Entity) (v : Var) → IsVariableOf e v g → target_with from (rows_between g from to) e v ≡ to e v
leads_between g from to e v is =
    ap (λ (o : Option ℕ). unwrap_or o (from e v)) (of_met from to (entities_of g) (place_in g e) e v is.variable (place_within g e is.entity_in) (at_place g e is.entity_in))
    ∙ written (from e v) (to e v) (from e v == to e v) refl

pub leads_back : (g : Group) (past : List Entry) (n : ℕ) (e : Entity) (v : Var) → IsVariableOf e v g → target_with (target g past) (back g past n) e v ≡ value_at g past n e v
leads_back g past n e v is = leads_between g (target g past) (value_at g past n) e v is

answer_is : (k : ControlView) (past : List Entry) (n : ℕ) → standing_in k ≡ standing_of k.group past → back_in k n ≡ back k.group past n → revert_of k n ≡ revert_after k.group past n
answer_is k past n stands same =
    ap (λ (st : Standing). if nat_lt st.version n then NoVersion st.version else answer_of (back_in k n)) stands
    ∙ ap (λ (rows : List Row). if nat_lt (version past) n then NoVersion (version past) else answer_of rows) same

pub of_journal : (k : ControlView) (past : List Entry) (n : ℕ) → standing_in k ≡ standing_of k.group past → versions_in k ≡ value_at k.group past → AnswersAs k past n
of_journal k past n stands versions =
    let same : back_in k n ≡ back k.group past n =
    ap (λ (from : Entity → Var → ℕ). rows_between k.group from (versions_in k n)) (ap (λ (st : Standing). st.target) stands)
    ∙ ap (λ (values : ℕ → Entity → Var → ℕ). rows_between k.group (target k.group past) (values n)) versions in
    record { rows = same; answer = answer_is k past n stands same }
