-- The asks judged at once in two sets: what the list of all answers says of each ask.
use Rattle.std.proofs.Common.{◌≡◌, ℕ, ◌+◌, ◌-◌, ◌<◌, List, [], ◌∷◌, length, map, take, drop, zero, suc, Vec, Global, refl, ap, ap₂, subst, ◌∙◌, sym, arith}
use Rattle.std.specs.Prelude.{Bool, true, false, nat_lt, Option, Some, None, Result, Ok, Err, IfOk, MatchResult, slice_index_or, if◌then◌else◌}
use Rattle.std.specs.List.{AllZip, Contains}
use Rattle.std.proofs.lemmas.Bool.Decides.{nat_tests}
use Rattle.std.proofs.lemmas.List.{get_or-map, get_or-take, get_or-drop, length-map, length-take, same_lists}
use Rattle.std.proofs.lemmas.List.FromFn.{get_or-map-range_with_len, length-map-range_with_len}
use Rattle.st_net.specs.declared.entity.Entity.{Entity}
use Rattle.st_net.specs.declared.promise.Broken.{Broken}
use Rattle.st_net.specs.Groups.{Group, no_promise}
use Rattle.st_net.specs.Promises.{is_kept, is_broken, broken_at, first_broken}
use Rattle.st_net.specs.Asks.{asks, ask_count, ask_of}
use Rattle.st_flow.specs.Network.{Network}
use Rattle.rayon.proofs.ListFacts.{AllZip-weaken}
use Rattle.st_promise.specs.UpNetwork.{up_network}
use Rattle.st_promise.specs.Wide.{held_at, held_in_both}
use Rattle.st_promise.proofs.JudgeLaws.{broken_here}

-- where each answer is f's if it came, and all came, they are f's
of_each : {X : Type 0} (E : Type 0) (f : X → Bool) (xs : List X) (ys : List Bool) → AllZip (λ x (r : Result Bool E). IfOk r (λ y. y ≡ f x)) xs (map Ok ys) → ys ≡ map f xs
of_each E f [] [] each = refl
of_each E f (x ∷ xs) (y ∷ ys) each = ap₂ (λ z zs. z ∷ zs) each.0 (of_each E f xs ys each.1)
of_each E f [] (y ∷ ys) each = absurd each
of_each E f (x ∷ xs) [] each = absurd each

pub of_all : {X : Type 0} (E : Type 0) (f : X → Bool) (xs : List X) (rs : List (Result Bool E)) (r : Result (Vec Bool Global) E)
    → AllZip (λ x (y : Result Bool E). IfOk y (λ a. a ≡ f x)) xs rs
    → MatchResult r (λ v. (ys : List Bool) × (rs ≡ map Ok ys) × (v.items ≡ ys)) (λ e. Contains rs (Err e))
    → IfOk r (λ v. v.items ≡ map f xs)
of_all E f xs rs (Ok v) each all = all.2 ∙ of_each E f xs all.0 (subst (λ ys. AllZip (λ x y. IfOk y (λ a. a ≡ f x)) xs ys) all.1 each)
of_all E f xs rs (Err e) each all = tt

-- there are two answers for each ask
pub two_each : (g : Group) (up down : Entity → Bool) → length (held_in_both g up down) ≡ ask_count g + ask_count g
two_each g up down = length-map-range_with_len (held_at g up down) 0 (ask_count g + ask_count g)

-- the answer for an ask after, and the one before
pub told_after : (g : Group) (up down : Entity → Bool) (i : ℕ) → i < ask_count g → slice_index_or (take (ask_count g) (held_in_both g up down)) i false ≡ is_kept g down (ask_of g i)
told_after g up down i low =
    let here : nat_lt i (ask_count g) ≡ true = grind (arith, nat_tests) in
    get_or-take (ask_count g) (held_in_both g up down) i false low
    ∙ get_or-map-range_with_len (held_at g up down) 0 (ask_count g + ask_count g) i i false (omega arith) (omega arith)
    ∙ rw here refl

pub told_before : (g : Group) (up down : Entity → Bool) (i : ℕ) → i < ask_count g → slice_index_or (drop (ask_count g) (held_in_both g up down)) i false ≡ is_kept g up (ask_of g i)
told_before g up down i low =
    let past : nat_lt (ask_count g + i) (ask_count g) ≡ false = grind (arith, nat_tests) in
    let back : ask_count g + i - ask_count g ≡ i = omega arith in
    get_or-drop (ask_count g) (held_in_both g up down) i false
    ∙ get_or-map-range_with_len (held_at g up down) 0 (ask_count g + ask_count g) (ask_count g + i) (ask_count g + i) false (omega arith) (omega arith)
    ∙ rw (past, back) refl

-- the first half of the answers is of the second set
pub front_after : (g : Group) (up down : Entity → Bool) → take (ask_count g) (held_in_both g up down) ≡ map (is_kept g down) (asks g)
front_after g up down =
    let all = two_each g up down in
    let front = length-take (ask_count g) (held_in_both g up down) in
    let kept = length-map (asks g) (is_kept g down) in
    let count : length (take (ask_count g) (held_in_both g up down)) ≡ length (map (is_kept g down) (asks g)) = omega (arith, all, front, kept) in
    same_lists (take (ask_count g) (held_in_both g up down)) (map (is_kept g down) (asks g)) count (λ k d low.
    let here : k < ask_count g = omega (arith, count, kept, low) in
    get_or_any (take (ask_count g) (held_in_both g up down)) k d low
    ∙ told_after g up down k here ∙ sym (get_or-map (is_kept g down) (asks g) k no_promise d here))
  where
    get_or_any : (xs : List Bool) (k : ℕ) (d : Bool) → k < length xs → slice_index_or xs k d ≡ slice_index_or xs k false
    get_or_any [] k d low = absurd (omega arith)
    get_or_any (x ∷ xs) zero d low = refl
    get_or_any (x ∷ xs) (suc k) d low = get_or_any xs k d (omega arith)

-- each item told its answer of these networks, whatever names the threads had for them
pub each_held : {E : Type 0} (g there : Group) (one two before after : Network) (up down : Entity → Bool) (ks : List ℕ) (rs : List (Result Bool E))
    → there ≡ g → one ≡ before → two ≡ after → before ≡ up_network g up → after ≡ up_network g down
    → AllZip (λ k (r : Result Bool E). (up down : Entity → Bool) → one ≡ up_network there up → two ≡ up_network there down → IfOk r (λ held. held ≡ held_at there up down k)) ks rs
    → AllZip (λ k (r : Result Bool E). IfOk r (λ held. held ≡ held_at g up down k)) ks rs
each_held {E} g there one two before after up down ks rs same first second is_before is_after each =
    AllZip-weaken _ _ (λ k r told. subst (λ (t : Group). IfOk r (λ held. held ≡ held_at t up down k)) same
    (told up down (first ∙ is_before ∙ ap (λ (t : Group). up_network t up) (sym same)) (second ∙ is_after ∙ ap (λ (t : Group). up_network t down) (sym same)))) ks rs each

-- the first that is left is the first
pub lost_here : {E : Type 0} (g : Group) (up down : Entity → Bool) (i : ℕ) (r : Result (Option Broken) E) → i < ask_count g → is_kept g up (ask_of g i) ≡ true → is_kept g down (ask_of g i) ≡ false
    → IfOk r (λ broken. broken ≡ (if is_broken g up down (ask_of g i) then Some (broken_at g down i (ask_of g i)) else None))
    → first_broken g up down i (drop i (asks g)) ≡ first_broken g up down 0 (asks g) → IfOk r (λ broken. broken ≡ first_broken g up down 0 (asks g))
lost_here g up down i (Ok broken) low held fails judged first =
    let here : Some (broken_at g down i (ask_of g i)) ≡ (if is_broken g up down (ask_of g i) then Some (broken_at g down i (ask_of g i)) else None) = rw (held, fails) refl in
    judged ∙ sym here ∙ sym (broken_here g up down i (broken_at g down i (ask_of g i)) low here) ∙ first
lost_here g up down i (Err e) low held fails judged first = tt
