-- Few small steps spell a name.
use Rattle.std.proofs.Common.{◌≡◌, ◌∙◌, ap, take, ℕ, ◌+◌, ◌*◌, ◌<◌, ◌≤◌, List, [], ◌∷◌, ◌++◌, length, refl, arith, length-append}
use Rattle.std.proofs.lemmas.List.{take_all}
use Rattle.std.specs.Prelude.{true, Bool, ◌&&◌, nat_le, decimal, flat_map}
use Rattle.std.specs.Fmt.{digits}
use Rattle.std.specs.List.{list_all, AllByRecursion}
use Rattle.st_net.proofs.Tests.{both, at_most_is, at_most}
use Rattle.st_net.specs.Names.{is_name, is_letter, is_name_byte, are_name_bytes}
use Rattle.st_gen.specs.declared.step.Step.{Step}
use Rattle.st_gen.specs.declared.step.Step.TheVariants.{Pod, Tor, Aggregation, Core}
use Rattle.st_gen.specs.TreeNames.{step_text, name_at, IsSmall}
use Rattle.st_gen.specs.FatTrees.{numbers}
use Rattle.st_gen.proofs.Numbers.{passes}

-- a number's digits are bytes of names, and at most two
abbrev is_short : ℕ → Bool
is_short n = are_name_bytes (decimal n) && nat_le (length (decimal n)) 2

all_short : list_all is_short (numbers 100) ≡ true
unfolding digits
all_short = refl

record IsShort (n : ℕ) : Type 0 where
  bytes : are_name_bytes (decimal n) ≡ true
  few : length (decimal n) ≤ 2

short : (n : ℕ) → n < 100 → IsShort n
short n small =
    let parts : (are_name_bytes (decimal n) ≡ true) × (nat_le (length (decimal n)) 2 ≡ true) = both (are_name_bytes (decimal n)) (nat_le (length (decimal n)) 2) (passes is_short 100 n all_short small) in
    record { bytes = parts.0; few = at_most_is (length (decimal n)) 2 (parts.1) }

and_both : (p q : Bool) → p ≡ true → q ≡ true → (p && q) ≡ true
and_both p q hp hq = rw (hp, hq) refl

bytes-append : (xs ys : List ℕ) → are_name_bytes xs ≡ true → are_name_bytes ys ≡ true → are_name_bytes (xs ++ ys) ≡ true
bytes-append [] ys hx hy = hy
bytes-append (x ∷ xs) ys hx hy =
    let parts : (is_name_byte x ≡ true) × (are_name_bytes xs ≡ true) = both (is_name_byte x) (are_name_bytes xs) hx in
    and_both (is_name_byte x) (are_name_bytes (xs ++ ys)) (parts.0) (bytes-append xs ys (parts.1) hy)

record IsStepText (bytes : List ℕ) : Type 0 where
  spelled : are_name_bytes bytes ≡ true
  few : length bytes ≤ 3

-- a letter of names and a short number
lettered : (letter n : ℕ) → is_name_byte letter ≡ true → IsShort n → IsStepText (letter ∷ decimal n)
lettered letter n is s = record {
  spelled = and_both (is_name_byte letter) (are_name_bytes (decimal n)) is s.bytes;
  few = omega (arith, s.few);
}

step_spelled : (s : Step) → IsSmall s → IsStepText (step_text s)
step_spelled (Pod p) small = lettered 112 p refl (short p small)
step_spelled (Tor i) small = lettered 101 i refl (short i small)
step_spelled (Aggregation j) small = lettered 97 j refl (short j small)
step_spelled (Core n) small = lettered 99 n refl (short n small)

bytes_spelled : (steps : List Step) → AllByRecursion IsSmall steps → are_name_bytes (name_at steps) ≡ true
bytes_spelled [] small = refl
bytes_spelled (s ∷ ss) small = bytes-append (step_text s) (name_at ss) (step_spelled s (small.0)).spelled (bytes_spelled ss (small.1))

few_bytes : (steps : List Step) → AllByRecursion IsSmall steps → length (name_at steps) ≤ 3 * length steps
few_bytes [] small = omega arith
few_bytes (s ∷ ss) small =
    let one : length (step_text s) ≤ 3 = (step_spelled s (small.0)).few in
    let more : length (name_at ss) ≤ 3 * length ss = few_bytes ss (small.1) in
    let sum : length (step_text s ++ name_at ss) ≡ length (step_text s) + length (name_at ss) = length-append (step_text s) (name_at ss) in
    omega (arith, one, more, sum)

-- a name: a letter first, then bytes of names, and few of them
all_three : (p q r : Bool) → p ≡ true → q ≡ true → r ≡ true → (p && q && r) ≡ true
all_three p q r hp hq hr = rw (hp, hq, hr) refl

named : (b : ℕ) (bs : List ℕ) → is_letter b ≡ true → are_name_bytes (b ∷ bs) ≡ true → length (b ∷ bs) ≤ 32 → is_name (b ∷ bs) ≡ true
named b bs letter bytes few = all_three (is_letter b) (nat_le (length (b ∷ bs)) 32) (are_name_bytes (b ∷ bs)) letter (at_most (length (b ∷ bs)) 32 few) bytes

begun : (s : Step) (ss : List Step) → are_name_bytes (name_at (s ∷ ss)) ≡ true → length (name_at (s ∷ ss)) ≤ 32 → is_name (name_at (s ∷ ss)) ≡ true
begun (Pod p) ss bytes few = named 112 (decimal p ++ name_at ss) refl bytes few
begun (Tor i) ss bytes few = named 101 (decimal i ++ name_at ss) refl bytes few
begun (Aggregation j) ss bytes few = named 97 (decimal j ++ name_at ss) refl bytes few
begun (Core n) ss bytes few = named 99 (decimal n ++ name_at ss) refl bytes few

pub spelled : (steps : List Step) → 1 ≤ length steps → length steps ≤ 3 → AllByRecursion IsSmall steps → is_name (name_at steps) ≡ true
spelled [] some few small = absurd (omega arith)
spelled (s ∷ ss) some few small =
    let bound : length (name_at (s ∷ ss)) ≤ 32 = omega (arith, few_bytes (s ∷ ss) small) in
    begun s ss (bytes_spelled (s ∷ ss) small) bound

-- the text of all steps is a name
pub spelled_text : (steps : List Step) (i : ℕ) (text bytes : List ℕ) → 1 ≤ length steps → length steps ≤ 3 → AllByRecursion IsSmall steps → length steps ≤ i → text ≡ flat_map step_text (take i steps) → bytes ≡ text → is_name bytes ≡ true
spelled_text steps i text bytes some few small all is same =
    let whole : bytes ≡ name_at steps = same ∙ is ∙ ap name_at (take_all i steps all) in
    ap is_name whole ∙ spelled steps some few small
