-- Values of JSON stay safe where one is put to others.
use Rattle.std.proofs.Common.{◌≡◌, ◌∙◌, ℕ, true, false, Bool, List, [], ◌∷◌, ◌++◌, refl, sym, ap, arith, Ordering, Less, Equal, Greater, nat_cmp, subst, String, Global, Result, Ok, Err, OnOk, OnErr}
use Rattle.std.specs.Prelude.{◌&&◌, ◌||◌, decimal}
use Rattle.std.specs.Cmp.Lexicographic.{slice_cmp}
use Rattle.std.specs.Ordering.{match_ordering}
use Rattle.std.proofs.lemmas.Bool.Decides.{nat_tests}
use Rattle.std.proofs.lemmas.List.Folds.{list_all-append}
use Rattle.json.specs.Print.{escape, escape_byte, quoted}
use Rattle.serde_json.specs.Data.{Data, Items, Members, object, string, no_items, item, no_members, member, put}
use Rattle.std.specs.declared.alloc.AllocError.{AllocError}
use Rattle.serde_json.specs.declared.value.Value.{Value}
use Rattle.serde_json.specs.View.{items_of, items_view, members_view, view}
use Rattle.serde_json.specs.Written.{compact_text, items_text, members_text, has_float, items_have_float, members_have_float, comma_if}
use Rattle.st_entry.specs.Plain.{is_plain_byte, is_plain}
use Rattle.st_entry.proofs.Plain.{number_plain}
use Rattle.st_player.specs.Json.{number_data, list_data}
use Rattle.st_player.specs.Shown.{is_shown_byte, is_shown}
use Rattle.st_player.specs.Safe.{IsSafe, are_items_shown, are_members_shown, AreSafeItems, AreSafeMembers}

pub both : (a b : Bool) → (a && b) ≡ true → (a ≡ true) × (b ≡ true)
both true b h = (refl, h)
both false b h = (h, grind arith)

neither : (a b : Bool) → (a || b) ≡ false → (a ≡ false) × (b ≡ false)
neither true b h = (h, grind arith)
neither false b h = (refl, h)

pub shown_join : (xs ys : List ℕ) → is_shown xs ≡ true → is_shown ys ≡ true → is_shown (xs ++ ys) ≡ true
shown_join xs ys first second = list_all-append is_shown_byte xs ys ∙ rw (first, second) refl

-- texts
byte_escape : (b : ℕ) → is_plain_byte b ≡ true → escape_byte b ≡ b ∷ []
unfolding escape_byte
byte_escape b h = grind (arith, nat_tests)

escape_plain : (text : List ℕ) → is_plain text ≡ true → escape text ≡ text
escape_plain [] h = refl
escape_plain (b ∷ more) h = let parts = both (is_plain_byte b) (is_plain more) h in rw (byte_escape b parts.0) (ap (λ xs. b ∷ xs) (escape_plain more parts.1))

byte_shown : (b : ℕ) → is_plain_byte b ≡ true → is_shown_byte b ≡ true
byte_shown b h = rw h refl

plain_shown : (text : List ℕ) → is_plain text ≡ true → is_shown text ≡ true
plain_shown [] h = refl
plain_shown (b ∷ more) h =
    let parts = both (is_plain_byte b) (is_plain more) h in
    rw (byte_shown b parts.0) (plain_shown more parts.1)

pub quoted_plain : (text : List ℕ) → is_plain text ≡ true → quoted text ≡ 34 ∷ (text ++ 34 ∷ [])
quoted_plain text h = ap (λ e. 34 ∷ (e ++ 34 ∷ [])) (escape_plain text h)

pub quoted_shown : (text : List ℕ) → is_plain text ≡ true → is_shown (quoted text) ≡ true
quoted_shown text h = ap is_shown (quoted_plain text h) ∙ shown_join text (34 ∷ []) (plain_shown text h) refl

pub text_safe : (text : List ℕ) → is_plain text ≡ true → IsSafe (string text)
text_safe text h = record { exact = refl; shown = quoted_shown text h }

-- numbers
pub number_safe : (n : ℕ) → IsSafe (number_data n)
number_safe n = record { exact = refl; shown = plain_shown (decimal n) (number_plain n) }

-- lists
pub comma_shown : (b : Bool) → is_shown (comma_if b) ≡ true
comma_shown true = refl
comma_shown false = refl

items_shown : (later : Bool) (ds : Items) → are_items_shown ds ≡ true → is_shown (items_text later ds) ≡ true
items_shown later no_items h = refl
items_shown later (item d ds) h =
    let parts = both (is_shown (compact_text d)) (are_items_shown ds) h in
    shown_join (comma_if later) _ (comma_shown later) (shown_join (compact_text d) _ parts.0 (items_shown true ds parts.1))

pub list_safe : (ds : List Data) → AreSafeItems (items_of ds) → IsSafe (list_data ds)
list_safe ds h = record { exact = h.exact; shown = items_shown false (items_of ds) h.shown }

pub values_push : (vs : List Value) (v : Value) → AreSafeItems (items_view vs) → IsSafe (view v) → AreSafeItems (items_view (vs ++ v ∷ []))
values_push [] v h safe = record { exact = rw safe.exact refl; shown = rw safe.shown refl }
values_push (x ∷ xs) v h safe =
    let shown = both (is_shown (compact_text (view x))) (are_items_shown (items_view xs)) h.shown in
    let exact = neither (has_float (view x)) (items_have_float (items_view xs)) h.exact in
    let rest = values_push xs v (record { exact = exact.1; shown = shown.1 }) safe in
    record { exact = rw (exact.0, rest.exact) refl; shown = rw (shown.0, rest.shown) refl }

-- objects
members_shown : (later : Bool) (ms : Members) → are_members_shown ms ≡ true → is_shown (members_text later ms) ≡ true
members_shown later no_members h = refl
members_shown later (member k d ms) h =
    let first = both (is_shown (quoted k)) (is_shown (compact_text d) && are_members_shown ms) h in
    let second = both (is_shown (compact_text d)) (are_members_shown ms) first.1 in
    shown_join (comma_if later) _ (comma_shown later) (shown_join (quoted k) _ first.0 (shown_join (compact_text d) _ second.0 (members_shown true ms second.1)))

pub object_safe : (ms : Members) → AreSafeMembers ms → IsSafe (object ms)
object_safe ms h = record { exact = h.exact; shown = members_shown false ms h.shown }

put_cases : (o : Ordering) (a b c : Members) → AreSafeMembers a → AreSafeMembers b → AreSafeMembers c → AreSafeMembers (match_ordering o a b c)
put_cases Less a b c x y z = x
put_cases Equal a b c x y z = y
put_cases Greater a b c x y z = z

add_safe : (k : List ℕ) (d : Data) (ms : Members) → is_shown (quoted k) ≡ true → IsSafe d → AreSafeMembers ms → AreSafeMembers (member k d ms)
add_safe k d ms key safe rest = record { exact = rw (safe.exact, rest.exact) refl; shown = rw (key, safe.shown, rest.shown) refl }

pub put_safe : (k : List ℕ) (d : Data) (ms : Members) → is_plain k ≡ true → IsSafe d → AreSafeMembers ms → AreSafeMembers (put k d ms)
put_safe k d no_members key safe h = add_safe k d no_members (quoted_shown k key) safe h
put_safe k d (member l e ms) key safe h =
    let first = both (is_shown (quoted l)) (is_shown (compact_text e) && are_members_shown ms) h.shown in
    let second = both (is_shown (compact_text e)) (are_members_shown ms) first.1 in
    let exact = neither (has_float e) (members_have_float ms) h.exact in
    let one : IsSafe e = record { exact = exact.0; shown = second.0 } in
    let rest : AreSafeMembers ms = record { exact = exact.1; shown = second.1 } in
    put_cases (slice_cmp nat_cmp k l) (member k d (member l e ms)) (member l d ms) (member l e (put k d ms))
    (add_safe k d (member l e ms) (quoted_shown k key) safe h)
    (add_safe l d ms first.0 safe rest)
    (add_safe l e (put k d ms) first.0 one (put_safe k d ms key safe rest))

-- a member was put, or nothing has changed
pub put_or_not : (r : Result (Unit {0}) AllocError) (old new : List (String Global × Value)) (k : List ℕ) (d : Data) → is_plain k ≡ true → IsSafe d → AreSafeMembers (members_view old)
    → OnOk r (members_view new ≡ put k d (members_view old)) → OnErr r (new ≡ old) → AreSafeMembers (members_view new)
put_or_not (Ok u) old new k d key safe h ok err = subst (λ (ms : Members). AreSafeMembers ms) (sym ok) (put_safe k d (members_view old) key safe h)
put_or_not (Err e) old new k d key safe h ok err = subst (λ (es : List (String Global × Value)). AreSafeMembers (members_view es)) (sym err) h
