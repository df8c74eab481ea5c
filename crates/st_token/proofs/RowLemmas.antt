-- Whether a variable is set, by the index of variables.
use Rattle.std.proofs.Common.{◌≡◌, ℕ, List, [], ◌∷◌, ◌++◌, map, refl, arith, ◌∙◌}
use Rattle.std.specs.Prelude.{Bool, true, false, not, ◌&&◌, ◌||◌, ◌==◌}
use Rattle.std.specs.List.{AllByRecursion}
use Rattle.std.specs.Prelude.{All}
use Rattle.std.proofs.lemmas.List.{map_push}
use Rattle.std.proofs.lemmas.Bool.Decides.{nat_tests}
use Rattle.std.proofs.lemmas.List.Elements.{All-from_recursion}
use Rattle.st_net.proofs.Tests.{both, turned}
use Rattle.st_net.specs.declared.entity.Entity.{Entity}
use Rattle.st_net.specs.declared.entity.Entity.TheVariants.{Device, Link}
use Rattle.st_net.specs.declared.entity.Var.{Var}
use Rattle.st_net.specs.declared.entity.Var.TheVariants.{Power, Firmware, Config, Routing, LinkPower, Iface}
use Rattle.st_net.specs.declared.entity.Row.{Row}
use Rattle.st_net.specs.declared.pairs.Pair.{Pair}
use Rattle.st_net.specs.Pairs.{has_pair}
use Rattle.st_net.specs.Entities.{place_of, is_same_entity, is_same_var}
use Rattle.st_net.specs.Groups.{Group, IsEntityOf}
use Rattle.st_net.specs.Ranges.{is_in_range, is_free_of, are_apart, RowFits}
use Rattle.st_token.specs.RowsInside.{number_of, variable_of, HasVariables}
use Rattle.st_token.specs.Variables.{IsInRange}

and_false : (b : Bool) → (b && false) ≡ false
and_false true = refl
and_false false = refl

pub swapped : (a b : ℕ) → (a == b) ≡ (b == a)
swapped a b = grind (arith, nat_tests)

same_variable : (e f : Entity) (v w : Var) (x y : ℕ) → is_in_range e v x ≡ true → is_in_range f w y ≡ true
    → (number_of e == number_of f && place_of v == place_of w) ≡ (is_same_entity f e && is_same_var w v)
same_variable (Device i) (Device j) v w x y p q = rw (swapped i j, swapped (place_of v) (place_of w)) refl
same_variable (Link i) (Link j) v w x y p q = rw (swapped i j, swapped (place_of v) (place_of w)) refl
same_variable (Device i) (Link j) Power LinkPower x y p q = and_false (i == j)
same_variable (Device i) (Link j) Power Iface x y p q = and_false (i == j)
same_variable (Device i) (Link j) Firmware LinkPower x y p q = and_false (i == j)
same_variable (Device i) (Link j) Firmware Iface x y p q = and_false (i == j)
same_variable (Device i) (Link j) Config LinkPower x y p q = and_false (i == j)
same_variable (Device i) (Link j) Config Iface x y p q = and_false (i == j)
same_variable (Device i) (Link j) Routing LinkPower x y p q = and_false (i == j)
same_variable (Device i) (Link j) Routing Iface x y p q = and_false (i == j)
same_variable (Device i) (Link j) LinkPower w x y p q = absurd (cc)
same_variable (Device i) (Link j) Iface w x y p q = absurd (cc)
same_variable (Device i) (Link j) v Power x y p q = absurd (cc)
same_variable (Device i) (Link j) v Firmware x y p q = absurd (cc)
same_variable (Device i) (Link j) v Config x y p q = absurd (cc)
same_variable (Device i) (Link j) v Routing x y p q = absurd (cc)
same_variable (Link i) (Device j) LinkPower Power x y p q = and_false (i == j)
same_variable (Link i) (Device j) LinkPower Firmware x y p q = and_false (i == j)
same_variable (Link i) (Device j) LinkPower Config x y p q = and_false (i == j)
same_variable (Link i) (Device j) LinkPower Routing x y p q = and_false (i == j)
same_variable (Link i) (Device j) Iface Power x y p q = and_false (i == j)
same_variable (Link i) (Device j) Iface Firmware x y p q = and_false (i == j)
same_variable (Link i) (Device j) Iface Config x y p q = and_false (i == j)
same_variable (Link i) (Device j) Iface Routing x y p q = and_false (i == j)
same_variable (Link i) (Device j) v LinkPower x y p q = absurd (cc)
same_variable (Link i) (Device j) v Iface x y p q = absurd (cc)
same_variable (Link i) (Device j) Power w x y p q = absurd (cc)
same_variable (Link i) (Device j) Firmware w x y p q = absurd (cc)
same_variable (Link i) (Device j) Config w x y p q = absurd (cc)
same_variable (Link i) (Device j) Routing w x y p q = absurd (cc)

neither : (a b : Bool) → not (a || b) ≡ (not a && not b)
neither true b = refl
neither false b = refl

pub free_by_index : (row : Row) (rows : List Row) → IsInRange row → AllByRecursion IsInRange rows
    → not (has_pair (number_of row.entity) (place_of row.var) (map variable_of rows)) ≡ is_free_of row.entity row.var rows
free_by_index row [] p all = refl
free_by_index row (other ∷ rows) p all =
    neither (number_of row.entity == number_of other.entity && place_of row.var == place_of other.var) (has_pair (number_of row.entity) (place_of row.var) (map variable_of rows))
    ∙ rw (same_variable row.entity other.entity row.var other.var row.value other.value p all.0, free_by_index row rows p all.1) refl

all_added : (rows : List Row) (row : Row) → AllByRecursion IsInRange rows → IsInRange row → AllByRecursion IsInRange (rows ++ row ∷ [])
all_added [] row all p = (p, tt)
all_added (r ∷ rows) row all p = (all.0, all_added rows row all.1 p)

-- one more row on another variable
pub same_flipped : (e f : Entity) → is_same_entity e f ≡ is_same_entity f e
same_flipped (Device i) (Device j) = swapped i j
same_flipped (Link i) (Link j) = swapped i j
same_flipped (Device i) (Link j) = refl
same_flipped (Link i) (Device j) = refl

pub free_last : (e : Entity) (v : Var) (rows : List Row) (row : Row) → is_free_of e v rows ≡ true → not (is_same_entity row.entity e && is_same_var row.var v) ≡ true → is_free_of e v (rows ++ row ∷ []) ≡ true
free_last e v [] row free apart = rw apart refl
free_last e v (r ∷ rows) row free apart =
    let parts = both (not (is_same_entity r.entity e && is_same_var r.var v)) (is_free_of e v rows) free in
    rw (parts.0, free_last e v rows row parts.1 apart) refl

pub apart_last : (rows : List Row) (row : Row) → are_apart rows ≡ true → is_free_of row.entity row.var rows ≡ true → are_apart (rows ++ row ∷ []) ≡ true
apart_last [] row apart free = refl
apart_last (r ∷ rows) row apart free =
    let parts = both (is_free_of r.entity r.var rows) (are_apart rows) apart in
    let first = both (not (is_same_entity r.entity row.entity && is_same_var r.var row.var)) (is_free_of row.entity row.var rows) free in
    let other : not (is_same_entity row.entity r.entity && is_same_var row.var r.var) ≡ true = rw (same_flipped row.entity r.entity, swapped (place_of row.var) (place_of r.var)) first.0 in
    rw (free_last r.entity r.var rows row parts.0 other, apart_last rows row parts.1 first.1) refl

pub row_added : (rows more : List Row) (variables now : List Pair) (row : Row) → HasVariables rows variables → more ≡ rows ++ row ∷ [] → now ≡ variables ++ variable_of row ∷ [] → IsInRange row → is_free_of row.entity row.var rows ≡ true → HasVariables more now
row_added rows more variables now row had m n p free = record {
  index = rw (n, m, map_push variable_of rows row, had.index) refl;
  range = rw m (all_added rows row had.range p);
  apart = rw m (apart_last rows row had.apart free);
}

-- what the index answers, by the pair that it is asked for
pub free_is : (row : Row) (rows now : List Row) (variables : List Pair) (pair : Pair) (has : Bool) → HasVariables rows variables → rows ≡ now → pair ≡ variable_of row
    → has ≡ has_pair pair.a pair.b variables → IsInRange row → not has ≡ is_free_of row.entity row.var now
free_is row rows now variables pair has had r e h range = rw (h, e, had.index, ← r) (free_by_index row rows range had.range)

pub not_set : (row : Row) (rows now : List Row) (variables : List Pair) (pair : Pair) → HasVariables rows variables → rows ≡ now → pair ≡ variable_of row
    → IsInRange row → is_free_of row.entity row.var now ≡ true → has_pair pair.a pair.b variables ≡ false
not_set row rows now variables pair had r e range free = turned (has_pair pair.a pair.b variables) (free_is row rows now variables pair (has_pair pair.a pair.b variables) had r e refl range ∙ free)

-- what the rows of a set keep
pub all_in_range : (rows now : List Row) (variables : List Pair) → HasVariables rows variables → rows ≡ now → All IsInRange now
all_in_range rows now variables had r = rw (← r) (All-from_recursion IsInRange rows had.range)

-- rows on entities of a group, in range, fit it
pub each_fits : (g : Group) (rows : List Row) → All (λ row. IsEntityOf g row.entity) rows → All IsInRange rows → All (RowFits g) rows
each_fits g rows within range = λ k d less. record { entity = within k d less; range = range k d less }
