-- The parts of a picture, as loops make them.
use Rattle.std.proofs.Common.{◌≡◌, ◌∙◌, ℕ, suc, ◌+◌, ◌<◌, ◌≤◌, true, false, Bool, List, [], ◌∷◌, ◌++◌, length, map, get_or, take, drop, refl, sym, ap, subst, arith, replicate}
use Rattle.std.specs.Prelude.{None, ◌||◌, ◌==◌, flat_map, not, if◌then◌else◌}
use Rattle.std.specs.List.{list_any, position_or_len, range_with_len}
use Rattle.std.proofs.lemmas.Bool.Decides.{nat_tests}
use Rattle.std.proofs.lemmas.List.Sums.{position_or_len_is, prefix_len-le-length}
use Rattle.std.proofs.lemmas.List.{append-nil, get_or_default, drop_more, length-append, map-append, take_more}
use Rattle.std.proofs.lemmas.List.Concat.{flat_map-append}
use Rattle.std.proofs.lemmas.List.FromFn.{map-range_with_len_more}
use Rattle.serde_json.specs.Data.{Data}
use Rattle.serde_json.specs.View.{view}
use Rattle.serde_json.specs.declared.value.Value.{Value}
use Rattle.st_net.specs.Groups.{no_vals}
use Rattle.st_player.specs.declared.state.Carriage.TheVariants.{Busy}
use Rattle.st_player.specs.declared.state.Knowledge.TheVariants.{Sure}
use Rattle.st_player.specs.declared.state.State.{State}
use Rattle.st_player.specs.Pictures.{is_known, is_same_state, kind_in, kinds_of, kinds_on, kinds_with}

-- one more part, by its number
pub part_next : (f : ℕ → Data) (list more : List Value) (json : Value) (i : ℕ) → map view list ≡ map f (range_with_len 0 i) → view json ≡ f i → more ≡ list ++ json ∷ [] → map view more ≡ map f (range_with_len 0 (i + 1))
part_next f list more json i was is pushed =
    ap (map view) pushed ∙ (map-append view list (json ∷ []) ∙ (ap (λ ds. ds ++ view json ∷ []) was ∙ (ap (λ (d : Data). map f (range_with_len 0 i) ++ d ∷ []) is ∙ sym (map-range_with_len_more f 0 i i (omega arith)))))

-- what a list of parts is, one entity further
pub flat_more : {X : Type 0} (f : X → List Data) (xs : List X) (i : ℕ) (x : X) → i < length xs → x ≡ get_or xs i x → flat_map f (take i xs) ++ f x ≡ flat_map f (take (i + 1) xs)
flat_more f xs i x low at =
    sym (ap (flat_map f) (take_more xs i x low ∙ ap (λ (y : _). take i xs ++ y ∷ []) (sym at))
    ∙ (flat_map-append f (take i xs) (x ∷ []) ∙ ap (λ (ds : List Data). flat_map f (take i xs) ++ ds) (append-nil (f x))))

-- the first place that passes is within a list exactly where one passes
pub place_low : {X : Type 0} (test : X → Bool) (xs : List X) → position_or_len test xs ≤ length xs
place_low test xs = prefix_len-le-length (λ x. not (test x)) xs

nowhere : {X : Type 0} (test : X → Bool) (xs : List X) → list_any test xs ≡ not (position_or_len test xs == length xs)
nowhere test [] = refl
nowhere {X} test (x ∷ xs) = by_test (test x) (nowhere test xs)
  where
    one : (m n : ℕ) → (m == n) ≡ (1 + m == suc n)
    one m n = grind (arith, nat_tests)

    never : (n : ℕ) → true ≡ not (0 == suc n)
    never n = grind (arith, nat_tests)

    by_test : (is : Bool) → list_any test xs ≡ not (position_or_len test xs == length xs) → (is || list_any test xs) ≡ not ((if not is then 1 + position_or_len test xs else 0) == suc (length xs))
    by_test true rest = never (length xs)
    by_test false rest = rest ∙ ap not (one (position_or_len test xs) (length xs))

pub other_numbers : (m n a b : ℕ) → (a ≡ b → ⊥) → a ≡ m → b ≡ n → (m == n) ≡ false
other_numbers m n a b apart first second = grind (arith, nat_tests)

-- what a list of states has past its end
abbrev pub no_state : State
no_state = record { carriage = Busy; knowledge = Sure; untold = false; target = no_vals; seen = no_vals; real = no_vals; level = 0; works = 0; stamp = 0; fence = 0; told = 0; health = None; low = None; high = None; is_open = None }

-- a state that is the same, behind others that are not
pub found_at : (kinds : List State) (s : State) (i : ℕ) → i < length kinds → is_same_state (get_or kinds i no_state) s ≡ true → ((k : ℕ) (d : State) → k < i → is_same_state (get_or kinds k d) s ≡ false) → i ≡ kind_in kinds s
found_at kinds s i low here before = sym (position_or_len_is (λ (kind : State). is_same_state kind s) kinds i no_state (omega (arith, low)) (λ k under. before k no_state under) (λ within. here))

pub not_at : (kinds : List State) (s : State) (i : ℕ) → i < length kinds → is_same_state (get_or kinds i no_state) s ≡ false → ((k : ℕ) (d : State) → k < i → is_same_state (get_or kinds k d) s ≡ false)
    → (k : ℕ) (d : State) → k < i + 1 → is_same_state (get_or kinds k d) s ≡ false
not_at kinds s i low here before k d under = by_place (k == i) refl
  where
    by_place : (same : Bool) → (k == i) ≡ same → is_same_state (get_or kinds k d) s ≡ false
    by_place true is =
        let at : i ≡ k = grind (arith, nat_tests) in
        subst (λ (j : ℕ). is_same_state (get_or kinds j d) s ≡ false) at (ap (λ (x : State). is_same_state x s) (get_or_default kinds i d no_state low) ∙ here)
    by_place false is = let less : k < i = grind (arith, nat_tests) in before k d less

-- one state more among the kinds
kinds_at : (kinds : List State) (i : ℕ) (states : List State) → i < length states → kinds_on kinds (drop i states) ≡ kinds_on (kinds_with kinds (get_or states i no_state)) (drop (i + 1) states)
kinds_at kinds i states low = ap (kinds_on kinds) (drop_more states i no_state low)

pub kinds_put : (kinds more whole : List State) (i : ℕ) (states : List State) → i < length states → (kind_in kinds (get_or states i no_state) == length kinds) ≡ true → more ≡ kinds ++ get_or states i no_state ∷ []
    → kinds_on kinds (drop i states) ≡ whole → kinds_on more (drop (i + 1) states) ≡ whole
kinds_put kinds more whole i states low is pushed was =
    let s = get_or states i no_state in
    let new : is_known kinds s ≡ false = nowhere (λ (kind : State). is_same_state kind s) kinds ∙ ap not is in
    let step : kinds_with kinds s ≡ kinds ++ s ∷ [] = ap (λ (b : Bool). if b then kinds else kinds ++ s ∷ []) new in
    ap (λ (ks : List State). kinds_on ks (drop (i + 1) states)) (pushed ∙ sym step) ∙ (sym (kinds_at kinds i states low) ∙ was)

pub kinds_skip : (kinds whole : List State) (i : ℕ) (states : List State) → i < length states → (kind_in kinds (get_or states i no_state) == length kinds) ≡ false
    → kinds_on kinds (drop i states) ≡ whole → kinds_on kinds (drop (i + 1) states) ≡ whole
kinds_skip kinds whole i states low is was =
    let s = get_or states i no_state in
    let old : is_known kinds s ≡ true = nowhere (λ (kind : State). is_same_state kind s) kinds ∙ ap not is in
    let step : kinds_with kinds s ≡ kinds = ap (λ (b : Bool). if b then kinds else kinds ++ s ∷ []) old in
    ap (λ (ks : List State). kinds_on ks (drop (i + 1) states)) (sym step) ∙ (sym (kinds_at kinds i states low) ∙ was)

-- there are no more kinds than states
kinds_one : (kinds : List State) (s : State) (is : Bool) → length (if is then kinds else kinds ++ s ∷ []) ≤ length kinds + 1
kinds_one kinds s true = omega arith
kinds_one kinds s false = omega (arith, length-append kinds (s ∷ []))

kinds_low : (kinds states : List State) → length (kinds_on kinds states) ≤ length kinds + length states
kinds_low kinds [] = omega arith
kinds_low kinds (s ∷ states) = omega (arith, kinds_low (kinds_with kinds s) states, kinds_one kinds s (is_known kinds s))

pub kinds_few : (states : List State) → length (kinds_of states) ≤ length states
kinds_few states = omega (arith, kinds_low [] states)

-- as many marks that are set
pub all_set : (marks : List Bool) (n : ℕ) → n ≡ length marks → replicate n true ≡ map (λ (b : Bool). true) marks
all_set marks n is = ap (λ (k : ℕ). replicate k true) is ∙ made marks
  where
    made : (marks : List Bool) → replicate (length marks) true ≡ map (λ (b : Bool). true) marks
    made [] = refl
    made (m ∷ marks) = ap (λ rest. true ∷ rest) (made marks)
