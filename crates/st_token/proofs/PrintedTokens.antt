-- The words of a line: each can stand in one, and is read as what it was printed for.
use Rattle.std.proofs.Common.{◌≡◌, ℕ, ◌<◌, List, [], ◌∷◌, ◌++◌, length, refl, arith}
use Rattle.std.specs.Prelude.{Bool, true, false, ◌&&◌, ◌==◌, nat_le, nat_lt, ◌^◌, Option, Some, None, Ok, bytes_eq, codes, decimal}
use Rattle.std.specs.Char.{is_ascii_graphic}
use Rattle.std.specs.List.{AllByRecursion}
use Rattle.std.proofs.lemmas.Bool.Decides.{nat_tests}
use Rattle.std.proofs.lemmas.Slice.Eq.{bytes_eq-Decides}
use Rattle.st_text.specs.Tokens.{is_filled}
use Rattle.st_text.specs.Words.{IsWord}
use Rattle.st_text.proofs.NumberLemmas.{numbers_again}
use Rattle.st_text.proofs.WordLemmas.{number_word}
use Rattle.st_net.proofs.Tests.{both}
use Rattle.st_net.specs.declared.entity.Entity.{Entity}
use Rattle.st_net.specs.declared.entity.Entity.TheVariants.{Device, Link}
use Rattle.st_net.specs.declared.entity.Prio.{Prio}
use Rattle.st_net.specs.declared.entity.Prio.TheVariants.{Low, High}
use Rattle.st_net.specs.declared.entity.Row.{Row}
use Rattle.st_net.specs.declared.entity.Var.{Var}
use Rattle.st_net.specs.declared.entity.Var.TheVariants.{Power, Firmware, Config, Routing, LinkPower, Iface}
use Rattle.st_net.specs.Names.{is_name_byte, are_name_bytes, begins_with_letter, is_name, place_of}
use Rattle.st_net.specs.Entities.{is_var_of}
use Rattle.st_net.specs.Ranges.{is_in_range, is_free_of}
use Rattle.st_token.specs.Places.{cut_at}
use Rattle.st_token.specs.Spelling.{new_name_in, known_name_in, entity_in, number_in, number_within, number_from, number_above, prio_in, word_in}
use Rattle.st_token.specs.Variables.{var_in, set_in, assigned_in, value_in, number_of_var_in, dotted_in, assignment_in, new_assignment_in, dotted_variable_in, variable_in, new_value_in}
use Rattle.st_token.specs.Words.{var_word, prio_word, value_word, assignment_word, variable_word}

-- facts of each item, from others
pub each : {X : Type 0} (P Q : X → Type 0) → ((x : X) → P x → Q x) → (xs : List X) → AllByRecursion P xs → AllByRecursion Q xs
each P Q f [] all = tt
each P Q f (x ∷ xs) all = (f x all.0, each P Q f xs all.1)

-- bytes of a name are visible, and none of them cuts a token
abbrev AreNameBytes : List ℕ → Type 0
AreNameBytes bytes = AllByRecursion (λ b. is_name_byte b ≡ true) bytes

abbrev AreVisible : List ℕ → Type 0
AreVisible bytes = AllByRecursion (λ b. is_ascii_graphic b ≡ true) bytes

name_byte_visible : (b : ℕ) → is_name_byte b ≡ true → is_ascii_graphic b ≡ true
name_byte_visible b e = grind (arith, nat_tests)

no_dot : (b : ℕ) → is_name_byte b ≡ true → (b == 46) ≡ false
no_dot b e = grind (arith, nat_tests)

bytes_named : (bytes : List ℕ) → are_name_bytes bytes ≡ true → AreNameBytes bytes
bytes_named [] e = tt
bytes_named (b ∷ bs) e = let parts = both (is_name_byte b) (are_name_bytes bs) e in (parts.0, bytes_named bs parts.1)

pub name_bytes : (name : List ℕ) → is_name name ≡ true → AreNameBytes name
name_bytes name e = bytes_named name (both (begins_with_letter name && nat_le (length name) 32) (are_name_bytes name) e).1

name_filled : (name : List ℕ) → begins_with_letter name ≡ true → is_filled name ≡ true
name_filled [] e = absurd (cc)
name_filled (b ∷ bs) e = refl

-- a name is a word
pub name_word : (name : List ℕ) → is_name name ≡ true → IsWord name
name_word name e =
    let first = both (begins_with_letter name && nat_le (length name) 32) (are_name_bytes name) e in
    let begins = both (begins_with_letter name) (nat_le (length name) 32) first.0 in
    record { filled = name_filled name begins.0; visible = each (λ b. is_name_byte b ≡ true) (λ b. is_ascii_graphic b ≡ true) name_byte_visible name (name_bytes name e) }

pub number_is_word : (n : ℕ) → n < 2 ^ 32 → IsWord (decimal n)
number_is_word n less = number_word n (omega arith)

visible_both : (xs ys : List ℕ) → AreVisible xs → AreVisible ys → AreVisible (xs ++ ys)
visible_both [] ys a b = b
visible_both (x ∷ xs) ys a b = (a.0, visible_both xs ys a.1 b)

filled_both : (xs ys : List ℕ) → is_filled xs ≡ true → is_filled (xs ++ ys) ≡ true
filled_both [] ys e = absurd (cc)
filled_both (x ∷ xs) ys e = refl

word_both : (xs ys : List ℕ) → IsWord xs → AreVisible ys → IsWord (xs ++ ys)
word_both xs ys w v = record { filled = filled_both xs ys w.filled; visible = visible_both xs ys w.visible v }

pub prio_is_word : (p : Prio) → IsWord (prio_word p)
prio_is_word Low = record { filled = refl; visible = (refl, (refl, (refl, tt))) }
prio_is_word High = record { filled = refl; visible = (refl, (refl, (refl, (refl, tt)))) }

-- a word that is written out, by a test that computes
abbrev are_visible : List ℕ → Bool
are_visible [] = true
are_visible (b ∷ bs) = is_ascii_graphic b && are_visible bs

visible_by : (bytes : List ℕ) → are_visible bytes ≡ true → AreVisible bytes
visible_by [] e = tt
visible_by (b ∷ bs) e = let parts = both (is_ascii_graphic b) (are_visible bs) e in (parts.0, visible_by bs parts.1)

pub literal : (bytes : List ℕ) → is_filled bytes ≡ true → are_visible bytes ≡ true → IsWord bytes
literal bytes f v = record { filled = f; visible = visible_by bytes v }

pub var_is_word : (v : Var) → IsWord (var_word v)
var_is_word Power = literal (codes "power") refl refl
var_is_word Firmware = literal (codes "firmware") refl refl
var_is_word Config = literal (codes "config") refl refl
var_is_word Routing = literal (codes "routing") refl refl
var_is_word LinkPower = literal (codes "power") refl refl
var_is_word Iface = literal (codes "iface") refl refl

pub value_is_word : (v : Var) (x : ℕ) → x < 2 ^ 32 → IsWord (value_word v x)
value_is_word v x less = word_both (var_word v) (61 ∷ decimal x) (var_is_word v) (refl, (number_is_word x less).visible)

pub assignment_is_word : (name : List ℕ) (v : Var) (x : ℕ) → is_name name ≡ true → x < 2 ^ 32 → IsWord (assignment_word name v x)
assignment_is_word name v x e less = word_both name (46 ∷ value_word v x) (name_word name e) (refl, (value_is_word v x less).visible)

pub variable_is_word : (name : List ℕ) (v : Var) → is_name name ≡ true → IsWord (variable_word name v)
variable_is_word name v e = word_both name (46 ∷ var_word v) (name_word name e) (refl, (var_is_word v).visible)

-- where a token is cut
cut_behind : (c : ℕ) (bytes rest : List ℕ) → AllByRecursion (λ b. (b == c) ≡ false) bytes → (c == c) ≡ true → cut_at c (bytes ++ c ∷ rest) ≡ Some (bytes, rest)
cut_behind c [] rest all same = rw same refl
cut_behind c (b ∷ bs) rest all same = rw (all.0, cut_behind c bs rest all.1 same) refl

pub uncut : (c : ℕ) (bytes : List ℕ) → AllByRecursion (λ b. (b == c) ≡ false) bytes → cut_at c bytes ≡ None
uncut c [] all = refl
uncut c (b ∷ bs) all = rw (all.0, uncut c bs all.1) refl

pub dot_cut : (name rest : List ℕ) → is_name name ≡ true → cut_at 46 (name ++ 46 ∷ rest) ≡ Some (name, rest)
dot_cut name rest e = cut_behind 46 name rest (each (λ b. is_name_byte b ≡ true) (λ b. (b == 46) ≡ false) no_dot name (name_bytes name e)) refl

-- names
pub new_name_again : (taken : Bool) (name : List ℕ) → is_name name ≡ true → taken ≡ false → new_name_in taken name ≡ Ok name
unfolding new_name_in
new_name_again taken name e fresh = rw (e, fresh) refl

pub known_name_again : (names : List (List ℕ)) (name : List ℕ) (k : ℕ) → is_name name ≡ true → place_of name names ≡ Some k → known_name_in names name ≡ Ok k
unfolding known_name_in
known_name_again names name k e at = rw (e, at) refl

pub entity_again : (find : List ℕ → Option Entity) (name : List ℕ) (entity : Entity) → is_name name ≡ true → find name ≡ Some entity → entity_in find name ≡ Ok entity
unfolding entity_in
entity_again find name entity e at = rw (e, at) refl

-- numbers
pub number_again : (n : ℕ) → n < 2 ^ 32 → number_in (decimal n) ≡ Ok n
number_again n less = rw (numbers_again n less) refl

pub within_again : (low high n : ℕ) → n < 2 ^ 32 → (nat_le low n && nat_le n high) ≡ true → number_within low high (decimal n) ≡ Ok n
unfolding number_within
within_again low high n less e = rw (number_again n less, e) refl

pub from_again : (low n : ℕ) → n < 2 ^ 32 → nat_le low n ≡ true → number_from low (decimal n) ≡ Ok n
unfolding number_from
from_again low n less e = rw (number_again n less, e) refl

pub above_again : (low n : ℕ) → n < 2 ^ 32 → nat_lt low n ≡ true → number_above low (decimal n) ≡ Ok n
unfolding number_above
above_again low n less e = rw (number_again n less, e) refl

-- fixed words
pub same_word : (word : List ℕ) → bytes_eq word word ≡ true
same_word word = (bytes_eq-Decides word word).1 refl

pub word_again : (word : List ℕ) → word_in word word ≡ Ok tt
word_again word = rw (same_word word) refl

pub prio_again : (p : Prio) → prio_in (prio_word p) ≡ Ok p
prio_again Low = refl
prio_again High = refl

pub var_again : (e : Entity) (v : Var) → is_var_of e v ≡ true → var_in e (var_word v) ≡ Ok v
var_again (Device i) Power is = refl
var_again (Device i) Firmware is = refl
var_again (Device i) Config is = refl
var_again (Device i) Routing is = refl
var_again (Device i) LinkPower is = absurd (cc)
var_again (Device i) Iface is = absurd (cc)
var_again (Link i) Power is = absurd (cc)
var_again (Link i) Firmware is = absurd (cc)
var_again (Link i) Config is = absurd (cc)
var_again (Link i) Routing is = absurd (cc)
var_again (Link i) LinkPower is = refl
var_again (Link i) Iface is = refl

-- a value in range is one of a variable of the entity, and has 32 bits
pub ranged : (e : Entity) (v : Var) (x : ℕ) → is_in_range e v x ≡ true → (is_var_of e v ≡ true) × (x < 2 ^ 32)
ranged (Device i) Power x is = (refl, grind (arith, nat_tests))
ranged (Device i) Firmware x is = (refl, grind (arith, nat_tests))
ranged (Device i) Config x is = (refl, grind (arith, nat_tests))
ranged (Device i) Routing x is = (refl, grind (arith, nat_tests))
ranged (Device i) LinkPower x is = absurd (cc)
ranged (Device i) Iface x is = absurd (cc)
ranged (Link i) Power x is = absurd (cc)
ranged (Link i) Firmware x is = absurd (cc)
ranged (Link i) Config x is = absurd (cc)
ranged (Link i) Routing x is = absurd (cc)
ranged (Link i) LinkPower x is = (refl, grind (arith, nat_tests))
ranged (Link i) Iface x is = (refl, grind (arith, nat_tests))

-- assignments and variables
abbrev pub row_of : Entity → Var → ℕ → Row
row_of e v x = record { entity = e; var = v; value = x }

value_cut : (v : Var) (x : ℕ) → cut_at 61 (value_word v x) ≡ Some (var_word v, decimal x)
value_cut Power x = refl
value_cut Firmware x = refl
value_cut Config x = refl
value_cut Routing x = refl
value_cut LinkPower x = refl
value_cut Iface x = refl

set_again : (e : Entity) (v : Var) (x : ℕ) → is_in_range e v x ≡ true → set_in e (var_word v) (decimal x) ≡ Ok (row_of e v x)
unfolding set_in
set_again e v x range = let fits = ranged e v x range in rw (var_again e v fits.0, number_again x fits.1, range) refl

pub assigned_again : (e : Entity) (v : Var) (x : ℕ) → is_in_range e v x ≡ true → assigned_in e (value_word v x) ≡ Ok (row_of e v x)
assigned_again e v x range = rw (value_cut v x) (set_again e v x range)

pub assignment_again : (find : List ℕ → Option Entity) (name : List ℕ) (e : Entity) (v : Var) (x : ℕ) → is_name name ≡ true → find name ≡ Some e → is_in_range e v x ≡ true → assignment_in find (assignment_word name v x) ≡ Ok (row_of e v x)
unfolding dotted_in
assignment_again find name e v x spelled at range = rw (dot_cut name (value_word v x) spelled, entity_again find name e spelled at) (assigned_again e v x range)

pub new_assignment_again : (find : List ℕ → Option Entity) (set : List Row) (name : List ℕ) (e : Entity) (v : Var) (x : ℕ) → is_name name ≡ true → find name ≡ Some e → is_in_range e v x ≡ true → is_free_of e v set ≡ true
    → new_assignment_in find set (assignment_word name v x) ≡ Ok (row_of e v x)
unfolding new_assignment_in
new_assignment_again find set name e v x spelled at range free = rw (assignment_again find name e v x spelled at range, free) refl

pub value_again : (e : Entity) (v : Var) (x : ℕ) → is_in_range e v x ≡ true → value_in e v (value_word v x) ≡ Ok x
unfolding number_of_var_in
value_again e v x range = let fits = ranged e v x range in rw (value_cut v x, same_word (var_word v), number_again x fits.1, range) refl

pub new_value_again : (e : Entity) (set : List Row) (v : Var) (x : ℕ) → is_in_range e v x ≡ true → is_free_of e v set ≡ true → new_value_in e set (value_word v x) ≡ Ok (row_of e v x)
unfolding new_value_in
new_value_again e set v x range free = rw (assigned_again e v x range, free) refl

pub variable_again : (find : List ℕ → Option Entity) (name : List ℕ) (e : Entity) (v : Var) → is_name name ≡ true → find name ≡ Some e → is_var_of e v ≡ true → variable_in find (variable_word name v) ≡ Ok (e, v)
unfolding dotted_variable_in
variable_again find name e v spelled at is = rw (dot_cut name (var_word v) spelled, entity_again find name e spelled at, var_again e v is) refl
