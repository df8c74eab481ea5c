-- Chains with one link more.
use Rattle.std.proofs.Common.{◌≡◌, ◌≢◌, ℕ, ◌+◌, ◌<◌, List, [], ◌∷◌, ◌++◌, length, refl, ap, ◌∙◌, sym, arith, add-one, length-append}
use Rattle.std.specs.Prelude.{Bool, true, false, ◌||◌, ◌==◌, Option, Some, None, slice_index_or, slice_set, if◌then◌else◌}
use Rattle.std.proofs.lemmas.Bool.Decides.{nat_tests}
use Rattle.std.proofs.lemmas.List.{get_or_read, get_or-set_same, get_or-set_other, get_or_append_left}
use Rattle.std.proofs.Math.Seq.{get_or-append_seam}
use Rattle.std.proofs.Math.ListN.{length-set}
use Rattle.st_net.specs.declared.topo.LinkOpening.{LinkOpening}
use Rattle.st_net.specs.Groups.{no_link}
use Rattle.st_promise.specs.declared.incidence.Earlier.{Earlier}
use Rattle.st_promise.specs.Incidence.{no_earlier, last_at, AreChains}

either : (p : Bool) (x y : Option ℕ) → x ≡ (if p || true then x else y)
either true x y = refl
either false x y = refl

-- the last links of all devices, with one link more
last_set : (last : List (Option ℕ)) (a b d i : ℕ) (old : Option ℕ) (p q : Bool) → (a == d) ≡ p → (b == d) ≡ q → a < length last → b < length last → slice_index_or last d None ≡ old → slice_index_or (slice_set (slice_set last a (Some i)) b (Some i)) d None ≡ (if p || q then Some i else old)
last_set last a b d i old p true at_a at_b a_in b_in was =
    let same : d ≡ b = grind (arith, nat_tests) in
    let small : b < length (slice_set last a (Some i)) = omega (arith, length-set last a (Some i)) in
    rw same (get_or-set_same (slice_set last a (Some i)) b (Some i) None small ∙ either p (Some i) old)
last_set last a b d i old true false at_a at_b a_in b_in was =
    let same : d ≡ a = grind (arith, nat_tests) in
    let other : d ≢ b = grind (arith, nat_tests) in
    get_or-set_other (slice_set last a (Some i)) b d (Some i) None other ∙ rw same (get_or-set_same last a (Some i) None a_in)
last_set last a b d i old false false at_a at_b a_in b_in was =
    let first : d ≢ a = grind (arith, nat_tests) in
    let second : d ≢ b = grind (arith, nat_tests) in
    get_or-set_other (slice_set last a (Some i)) b d (Some i) None second ∙ (get_or-set_other last a d (Some i) None first ∙ was)

earlier_at : (earlier more : List Earlier) (x : Earlier) (i j : ℕ) → more ≡ earlier ++ x ∷ [] → length earlier ≡ i → j ≡ i → slice_index_or more j no_earlier ≡ x
earlier_at earlier more x i j is count same = rw (is, same, sym count) (get_or-append_seam earlier x [] no_earlier)

earlier_kept : (earlier more : List Earlier) (x : Earlier) (j : ℕ) → more ≡ earlier ++ x ∷ [] → j < length earlier → slice_index_or more j no_earlier ≡ slice_index_or earlier j no_earlier
earlier_kept earlier more x j is low = rw is (get_or_append_left earlier (x ∷ []) no_earlier j low)

a_at : (links : List LinkOpening) (n i a : ℕ) (last : List (Option ℕ)) (earlier more : List Earlier) (x : Earlier) → AreChains n links i last earlier → more ≡ earlier ++ x ∷ [] → x.a ≡ last_at links i (slice_index_or links i no_link).a → (j : ℕ) (p : Bool) → (j == i) ≡ p → j < i + 1 → (slice_index_or more j no_earlier).a ≡ last_at links j (slice_index_or links j no_link).a
a_at links n i a last earlier more x are is here j true same low =
    let at : j ≡ i = grind (arith, nat_tests) in
    rw at (ap (λ (e : Earlier). e.a) (earlier_at earlier more x i i is are.one_each refl) ∙ here)
a_at links n i a last earlier more x are is here j false same low =
    let small : j < i = grind (arith, nat_tests) in
    ap (λ (e : Earlier). e.a) (earlier_kept earlier more x j is (omega (arith, small, are.one_each))) ∙ are.a_is j small

b_at : (links : List LinkOpening) (n i b : ℕ) (last : List (Option ℕ)) (earlier more : List Earlier) (x : Earlier) → AreChains n links i last earlier → more ≡ earlier ++ x ∷ [] → x.b ≡ last_at links i (slice_index_or links i no_link).b → (j : ℕ) (p : Bool) → (j == i) ≡ p → j < i + 1 → (slice_index_or more j no_earlier).b ≡ last_at links j (slice_index_or links j no_link).b
b_at links n i b last earlier more x are is here j true same low =
    let at : j ≡ i = grind (arith, nat_tests) in
    rw at (ap (λ (e : Earlier). e.b) (earlier_at earlier more x i i is are.one_each refl) ∙ here)
b_at links n i b last earlier more x are is here j false same low =
    let small : j < i = grind (arith, nat_tests) in
    ap (λ (e : Earlier). e.b) (earlier_kept earlier more x j is (omega (arith, small, are.one_each))) ∙ are.b_is j small

-- what was read of the last links
last_read : (links : List LinkOpening) (n i d e : ℕ) (last : List (Option ℕ)) (earlier : List Earlier) (x : Option ℕ) → AreChains n links i last earlier → d < n → d ≡ e → x ≡ slice_index_or last d x → x ≡ last_at links i e
last_read links n i d e last earlier x are low same read =
    get_or_read last d x (omega (arith, low, are.devices)) read None ∙ (are.last_is d low ∙ ap (λ k. last_at links i k) same)

pub chains_more : (n : ℕ) (links : List LinkOpening) (i a b : ℕ) (last : List (Option ℕ)) (earlier more : List Earlier) (x y : Option ℕ) → AreChains n links i last earlier → a ≡ (slice_index_or links i no_link).a → b ≡ (slice_index_or links i no_link).b → a < n → b < n → x ≡ slice_index_or last a x → y ≡ slice_index_or last b y → more ≡ earlier ++ record { a = x; b = y } ∷ [] → AreChains n links (i + 1) (slice_set (slice_set last a (Some i)) b (Some i)) more
chains_more n links i a b last earlier more x y are at_a at_b a_in b_in read_a read_b is = record {
  devices = length-set (slice_set last a (Some i)) b (Some i) ∙ (length-set last a (Some i) ∙ are.devices);
  one_each = ap (λ (es : List Earlier). length es) is ∙ (length-append earlier (record { a = x; b = y } ∷ []) ∙ ap (λ k. k + 1) are.one_each);
  last_is = λ d low. rw (add-one, sym at_a, sym at_b) (last_set last a b d i (last_at links i d) (a == d) (b == d) refl refl (omega (arith, a_in, are.devices)) (omega (arith, b_in, are.devices)) (are.last_is d low));
  a_is = λ j. a_at links n i a last earlier more (record { a = x; b = y }) are is (last_read links n i a _ last earlier x are a_in at_a read_a) j (j == i) refl;
  b_is = λ j. b_at links n i b last earlier more (record { a = x; b = y }) are is (last_read links n i b _ last earlier y are b_in at_b read_b) j (j == i) refl;
}
