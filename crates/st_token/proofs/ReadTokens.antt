-- What is known of a token that was read.
use Rattle.std.proofs.Common.{◌≡◌, ℕ, suc, ◌<◌, ◌≤◌, List, [], ◌∷◌, length, ap, sym, ◌∙◌, subst, refl, arith}
use Rattle.std.specs.Prelude.{Bool, true, false, not, cond, ◌&&◌, nat_le, nat_lt, Option, Some, None, option_map, Result, Ok, Err, ok_or, bytes_eq, codes, ◌^◌}
use Rattle.std.specs.Str.{all_ascii_digits}
use Rattle.std.specs.Str.Parse.{digits_value}
use Rattle.std.proofs.lemmas.Bool.{leb-true}
use Rattle.st_text.specs.Numbers.{has_leading_zero, is_number, number_of}
use Rattle.st_net.proofs.Tests.{both, less_is}
use Rattle.st_net.specs.declared.entity.Entity.{Entity}
use Rattle.st_net.specs.declared.entity.Entity.TheVariants.{Device, Link}
use Rattle.st_net.specs.declared.entity.Var.{Var}
use Rattle.st_net.specs.declared.entity.Var.TheVariants.{Power, Firmware, Config, Routing, LinkPower, Iface}
use Rattle.st_net.specs.declared.entity.Row.{Row}
use Rattle.st_net.specs.Names.{is_name, place_of}
use Rattle.st_net.specs.Entities.{is_var_of}
use Rattle.st_net.specs.Ranges.{is_in_range}
use Rattle.st_token.specs.declared.fault.FaultKind.TheVariants as kinds
use Rattle.st_token.specs.Steps.{◌>>=◌}
use Rattle.st_token.specs.Counts.{one_and_some_of}
use Rattle.st_token.specs.Spelling.{name_in, new_name_in, number_in, number_within, number_from, number_above}
use Rattle.st_token.specs.Variables.{var_named, var_in, set_in, unset_in, assigned_by}

-- a step that came to a value came from one
pub came_from : {A B E : Type 0} (r : Result A E) (f : A → Result B E) (y : B) → (r >>= f) ≡ Ok y → (x : A) × (r ≡ Ok x) × (f x ≡ Ok y)
came_from (Ok x) f y e = (x, refl, e)
came_from (Err x) f y e = absurd (cc)

-- a choice that came to a value
pub chose : {A E : Type 0} (b : Bool) (x y : A) (bad : E) → cond b (Ok x) (Err bad) ≡ Ok y → (b ≡ true) × (x ≡ y)
chose true x y bad e = (refl, (cc))
chose false x y bad e = absurd (cc)

pub refused : {A E : Type 0} (b : Bool) (r : Result A E) (y : A) (bad : E) → cond b (Err bad) r ≡ Ok y → (b ≡ false) × (r ≡ Ok y)
refused true r y bad e = absurd (cc)
refused false r y bad e = (refl, e)

pub chosen : {A E : Type 0} (b : Bool) (r : Result A E) (y : A) (bad : E) → cond b r (Err bad) ≡ Ok y → (b ≡ true) × (r ≡ Ok y)
chosen true r y bad e = (refl, e)
chosen false r y bad e = absurd (cc)

-- an option that came to a value
pub was_some : {A E : Type 0} (o : Option A) (y : A) (bad : E) → ok_or o bad ≡ Ok y → o ≡ Some y
was_some None y bad e = absurd (cc)
was_some (Some x) y bad e = ap Some (let same : x ≡ y = cc in same)

-- a new name
pub record IsNewName (taken : Bool) (token name : List ℕ) : Type 0 where
  pub spelled : is_name name ≡ true
  pub same : name ≡ token
  pub fresh : taken ≡ false

pub new_name : (taken : Bool) (token name : List ℕ) → new_name_in taken token ≡ Ok name → IsNewName taken token name
unfolding new_name_in
new_name taken token name e =
    let first = came_from (name_in token) _ name e in
    let spelled = chose (is_name token) token first.0 kinds.Name first.1 in
    let fresh = refused taken (Ok first.0) name kinds.Twice first.2 in
    let same : first.0 ≡ name = cc in
    record { spelled = subst (λ (n : List ℕ). is_name n ≡ true) (spelled.1 ∙ same) spelled.0; same = sym same ∙ sym spelled.1; fresh = fresh.0 }

pub number_range : (low high n : ℕ) (token : List ℕ) → number_within low high token ≡ Ok n → (nat_le low n && nat_le n high) ≡ true
unfolding number_within
number_range low high n token e =
    let first = came_from (number_in token) _ n e in
    let within = chose (nat_le low first.0 && nat_le first.0 high) first.0 n kinds.Number first.2 in
    subst (λ (m : ℕ). (nat_le low m && nat_le m high) ≡ true) within.1 within.0

-- a NUMBER has 32 bits
number_small : (token : List ℕ) (n : ℕ) (b : Bool) → is_number token ≡ b → cond b (Some (digits_value 10 token)) None ≡ Some n → n < 2 ^ 32
number_small token n true e is =
    let bound = both (nat_le 1 (length token) && nat_le (length token) 10 && all_ascii_digits token && not (has_leading_zero token)) (nat_le (digits_value 10 token) 4294967295) e in
    let less : digits_value 10 token ≤ 4294967295 = leb-true (digits_value 10 token) 4294967295 bound.1 in
    let same : digits_value 10 token ≡ n = cc in
    subst (λ (m : ℕ). m < 2 ^ 32) same (omega arith)
number_small token n false e is = absurd (cc)

pub number_bound : (token : List ℕ) (n : ℕ) → number_in token ≡ Ok n → n < 2 ^ 32
number_bound token n e = number_small token n (is_number token) refl (was_some (number_of token) n kinds.Number e)

pub number_from_is : (low n : ℕ) (token : List ℕ) → number_from low token ≡ Ok n → (low ≤ n) × (n < 2 ^ 32)
unfolding number_from
number_from_is low n token e =
    let first = came_from (number_in token) _ n e in
    let within = chose (nat_le low first.0) first.0 n kinds.Number first.2 in
    subst (λ (m : ℕ). (low ≤ m) × (m < 2 ^ 32)) within.1 (leb-true low first.0 within.0, number_bound token first.0 first.1)

pub number_above_is : (low n : ℕ) (token : List ℕ) → number_above low token ≡ Ok n → (low < n) × (n < 2 ^ 32)
unfolding number_above
number_above_is low n token e =
    let first = came_from (number_in token) _ n e in
    let within = chose (nat_lt low first.0) first.0 n kinds.Number first.2 in
    subst (λ (m : ℕ). (low < m) × (m < 2 ^ 32)) within.1 (less_is low first.0 within.0, number_bound token first.0 first.1)

-- the place of a name is one of theirs
pub place_below : (name : List ℕ) (ns : List (List ℕ)) (k : ℕ) → place_of name ns ≡ Some k → k < length ns
place_below name [] k e = absurd (cc)
place_below name (n ∷ ns) k e = step (bytes_eq name n) (place_of name ns) e (place_below name ns)
  where
    step : (b : Bool) (o : Option ℕ) → cond b (Some 0) (option_map suc o) ≡ Some k → ((j : ℕ) → o ≡ Some j → j < length ns) → k < suc (length ns)
    step true o e rest = let zero_is : k ≡ 0 = cc in omega arith
    step false None e rest = absurd (cc)
    step false (Some j) e rest = let suc_is : k ≡ suc j = cc in let less : j < length ns = rest j refl in omega arith

abbrev row_made : Entity → Var → ℕ → Row
row_made e v x = record { entity = e; var = v; value = x }

-- a row of an assignment
pub record IsRowOf (e : Entity) (row : Row) : Type 0 where
  pub on : row.entity ≡ e
  pub range : is_in_range row.entity row.var row.value ≡ true

pub assigned_range : (e : Entity) (rest : List ℕ) (row : Row) (o : Option (List ℕ × List ℕ)) → assigned_by e rest o ≡ Ok row → IsRowOf e row
unfolding unset_in set_in
assigned_range e rest row None is =
    let v = came_from (var_in e rest) _ row is in
    absurd (let no = (chosen false (Ok row) row kinds.Value v.2).0 in cc)
assigned_range e rest row (Some parts) is =
    let v = came_from (var_in e parts.0) _ row is in
    let n = came_from (number_in parts.1) _ row v.2 in
    let within = chose (is_in_range e v.0 n.0) (row_made e v.0 n.0) row kinds.Value n.2 in
    subst (IsRowOf e) within.1 (record { on = refl; range = within.0 })

-- a variable that is named is one of the entity
device_var : (i : ℕ) (a b c d : Bool) (v : Var) → cond a (Some Power) (cond b (Some Firmware) (cond c (Some Config) (cond d (Some Routing) None))) ≡ Some v → is_var_of (Device i) v ≡ true
device_var i true b c d v e = ap (is_var_of (Device i)) (let same : v ≡ Power = cc in same)
device_var i false true c d v e = ap (is_var_of (Device i)) (let same : v ≡ Firmware = cc in same)
device_var i false false true d v e = ap (is_var_of (Device i)) (let same : v ≡ Config = cc in same)
device_var i false false false true v e = ap (is_var_of (Device i)) (let same : v ≡ Routing = cc in same)
device_var i false false false false v e = absurd (cc)

link_var : (i : ℕ) (a b : Bool) (v : Var) → cond a (Some LinkPower) (cond b (Some Iface) None) ≡ Some v → is_var_of (Link i) v ≡ true
link_var i true b v e = ap (is_var_of (Link i)) (let same : v ≡ LinkPower = cc in same)
link_var i false true v e = ap (is_var_of (Link i)) (let same : v ≡ Iface = cc in same)
link_var i false false v e = absurd (cc)

pub var_known : (e : Entity) (text : List ℕ) (v : Var) → var_named e text ≡ Some v → is_var_of e v ≡ true
var_known (Device i) text v is = device_var i (bytes_eq text (codes "power")) (bytes_eq text (codes "firmware")) (bytes_eq text (codes "config")) (bytes_eq text (codes "routing")) v is
var_known (Link i) text v is = link_var i (bytes_eq text (codes "power")) (bytes_eq text (codes "iface")) v is

-- one word and some more are two words at least
pub some_tokens : (args : List (List ℕ)) (words : List ℕ × List (List ℕ)) → one_and_some_of args ≡ Ok words → 1 ≤ length words.1
some_tokens [] words is = absurd (cc)
some_tokens (a ∷ []) words is = absurd (cc)
some_tokens (a ∷ b ∷ more) words is = let same : b ∷ more ≡ words.1 = cc in subst (λ (ws : List (List ℕ)). 1 ≤ length ws) same (omega arith)
