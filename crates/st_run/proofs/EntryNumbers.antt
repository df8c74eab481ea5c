-- The numbers of entries in a journal, by a beginning of it, and its first so many entries.
use Rattle.std.proofs.Common.{◌≡◌, ℕ, zero, suc, ◌+◌, ◌-◌, ◌<◌, ◌≤◌, Bool, true, false, List, [], ◌∷◌, ◌++◌, length, map, take, drop, refl, ap, sym, subst, ◌∙◌, arith, length-append, take-append-drop, append_assoc}
use Rattle.std.specs.Prelude.{All, reverse}
use Rattle.std.specs.List.{filter}
use Rattle.std.proofs.Math.Seq.{drop-append-add}
use Rattle.std.proofs.lemmas.List.{map-append, reverse-append}
use Rattle.std.proofs.lemmas.List.Elements.{All-head, All-tail}
use mathlib.Core.List.{IsPrefix}
use Rattle.st_event.specs.declared.journal.Entry.{Entry}
use Rattle.st_world.specs.World.{IsBeginning}
use Rattle.st_run.specs.CarriedOn.{first_of, greatest}
use Rattle.st_service.specs.Made.{Made, past_in}
use Rattle.st_run.specs.Requests.{number_of}

pub begins_then : (xs ys zs : List Entry) → IsBeginning xs ys → IsBeginning ys zs → IsBeginning xs zs
begins_then xs ys zs p q = (q.0 ++ p.0, q.1 ∙ (ap (λ (es : List Entry). q.0 ++ es) p.1 ∙ sym (append_assoc q.0 p.0 xs)))

-- of a front that goes on, the journal goes on
pub past_begins : (xs ys : List Made) → IsPrefix xs ys → IsBeginning (past_in xs) (past_in ys)
past_begins xs ys p = (
  past_in p.0,
  ap past_in (sym p.1) ∙ (ap reverse (map-append (λ (m : Made). m.entry) xs p.0) ∙ reverse-append (map (λ (m : Made). m.entry) xs) (map (λ (m : Made). m.entry) p.0)),
)

-- an entry of a kind of which a beginning has so many is within it

reaches_one : (kind : Entry → Bool) (m : ℕ) (e : Entry) (xs ys : List Entry) (b : Bool) → kind e ≡ b → suc m ≤ length (filter kind (e ∷ xs))
    → (m ≤ length (filter kind xs) → number_of kind m (xs ++ ys) ≤ length xs) → (suc m ≤ length (filter kind xs) → number_of kind (suc m) (xs ++ ys) ≤ length xs)
    → number_of kind (suc m) (e ∷ xs ++ ys) ≤ suc (length xs)
reaches_one kind m e xs ys true is le low high =
    let few : suc m ≤ suc (length (filter kind xs)) = rw is at le in
    let r = low (omega (arith, few)) in
    rw is (omega (arith, r))
reaches_one kind m e xs ys false is le low high =
    let few : suc m ≤ length (filter kind xs) = rw is at le in
    let r = high few in
    rw is (omega (arith, r))

pub number_reaches : (kind : Entry → Bool) (m : ℕ) (xs ys : List Entry) → m ≤ length (filter kind xs) → number_of kind m (xs ++ ys) ≤ length xs
number_reaches kind zero xs ys le = omega arith
number_reaches kind (suc m) [] ys le = absurd (omega (arith, le))
number_reaches kind (suc m) (e ∷ xs) ys le = reaches_one kind m e xs ys (kind e) refl le (number_reaches kind m xs ys) (number_reaches kind (suc m) xs ys)

-- an entry of a kind, by a number above how many of the kind a beginning has, is behind the beginning

passes_one : (kind : Entry → Bool) (m : ℕ) (e : Entry) (xs ys : List Entry) (b : Bool) → kind e ≡ b → length (filter kind (e ∷ xs)) < suc m
    → (length (filter kind xs) < m → length xs < number_of kind m (xs ++ ys)) → (length (filter kind xs) < suc m → length xs < number_of kind (suc m) (xs ++ ys))
    → suc (length xs) < number_of kind (suc m) (e ∷ xs ++ ys)
passes_one kind m e xs ys true is lt low high =
    let few : suc (length (filter kind xs)) < suc m = rw is at lt in
    let r = low (omega (arith, few)) in
    rw is (omega (arith, r))
passes_one kind m e xs ys false is lt low high =
    let few : length (filter kind xs) < suc m = rw is at lt in
    let r = high few in
    rw is (omega (arith, r))

number_starts : (kind : Entry → Bool) (m : ℕ) (ys : List Entry) → 0 < number_of kind (suc m) ys
number_starts kind m [] = omega arith
number_starts kind m (e ∷ ys) = omega arith

pub number_passes : (kind : Entry → Bool) (m : ℕ) (xs ys : List Entry) → length (filter kind xs) < m → length xs < number_of kind m (xs ++ ys)
number_passes kind zero xs ys lt = absurd (omega (arith, lt))
number_passes kind (suc m) [] ys lt = number_starts kind m ys
number_passes kind (suc m) (e ∷ xs) ys lt = passes_one kind m e xs ys (kind e) refl lt (number_passes kind m xs ys) (number_passes kind (suc m) xs ys)

-- the greatest of numbers that are all within
pub greatest_within : (f : ℕ → ℕ) (hi : ℕ) (ts : List ℕ) → All (λ t. f t ≤ hi) ts → greatest (map f ts) ≤ hi
greatest_within f hi [] all = omega arith
greatest_within f hi (t ∷ ts) all =
    let here : f t ≤ hi = All-head (λ (n : ℕ). f n ≤ hi) t ts all in
    let rest = greatest_within f hi ts (All-tail (λ (n : ℕ). f n ≤ hi) t ts all) in
    omega (arith, here, rest)

-- the first so many entries begin a beginning that has as many
drop_begins : (k : ℕ) (past : List Entry) → IsBeginning (drop k past) past
drop_begins k past = (take k past, sym (take-append-drop k past))

pub first_begins : (count : ℕ) (xs ys : List Entry) → IsBeginning xs ys → count ≤ length xs → IsBeginning (first_of count ys) xs
first_begins count xs ys p le =
    let all : length ys ≡ length p.0 + length xs = ap length p.1 ∙ length-append p.0 xs in
    let n : length ys - count ≡ length p.0 + (length xs - count) = omega (arith, all, le) in
    let is : first_of count ys ≡ drop (length xs - count) xs =
    ap (λ (k : ℕ). drop k ys) n ∙ (ap (λ (es : List Entry). drop (length p.0 + (length xs - count)) es) p.1 ∙ drop-append-add p.0 xs (length xs - count)) in
    subst (λ (es : List Entry). IsBeginning es xs) (sym is) (drop_begins (length xs - count) xs)
