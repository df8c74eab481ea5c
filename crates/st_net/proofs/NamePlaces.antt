-- The place of a name, by what the index says of it.
use Rattle.std.proofs.Common.{◌≡◌, ℕ, suc, ◌+◌, List, [], ◌∷◌, ◌++◌, Bool, true, false, cond, length, map, nat_lt, Option, Some, None, option_map, is_some, position, bytes_eq, ◌∙◌, ap, refl, arith}
use Rattle.std.specs.List.{position_or_len, list_any}
use Rattle.std.proofs.lemmas.List.{map-append}
use Rattle.std.proofs.lemmas.Bool.{lt-ltb}
use Prim.Native.Nat.compare
use Rattle.st_net.specs.Names.{place_of, is_among}

step_back : (b : Bool) (n : ℕ) → (cond b (Some (suc n)) None) ≡ option_map suc (cond b (Some n) None)
step_back true n = refl
step_back false n = refl

first_here : (len : ℕ) → (cond {A = Option ℕ} (nat_lt 0 (suc len)) (Some 0) None) ≡ Some 0
first_here len = rw (lt-ltb 0 (suc len) (omega arith)) refl

one_further : (p len : ℕ) → (cond (nat_lt (1 + p) (suc len)) (Some (1 + p)) None) ≡ option_map suc (cond (nat_lt p len) (Some p) None)
one_further p len =
    let one : 1 + p ≡ suc p = omega arith in
    rw (one, compare.suc-suc (suc p) len) (step_back (nat_lt p len) p)

pub some_too : (o : Option ℕ) → is_some o ≡ is_some (option_map suc o)
some_too None = refl
some_too (Some n) = refl

module _ {X : Type 0} (f : X → List ℕ) (name : List ℕ) where
  position_step : (x : X) (xs : List X) (b : Bool) → bytes_eq name (f x) ≡ b → position (λ x. bytes_eq name (f x)) xs ≡ place_of name (map f xs) → position (λ x. bytes_eq name (f x)) (x ∷ xs) ≡ place_of name (map f (x ∷ xs))
  position_step x xs true e rest = rw e (first_here (length xs))
  position_step x xs false e rest = rw e (one_further (position_or_len (λ x. bytes_eq name (f x)) xs) (length xs) ∙ ap (option_map suc) rest)

  pub position_place : (xs : List X) → position (λ x. bytes_eq name (f x)) xs ≡ place_of name (map f xs)
  position_place [] = refl
  position_place (x ∷ xs) = position_step x xs (bytes_eq name (f x)) refl (position_place xs)

  any_step : (x : X) (xs : List X) (b : Bool) → bytes_eq name (f x) ≡ b → list_any (λ x. bytes_eq name (f x)) xs ≡ is_some (place_of name (map f xs)) → list_any (λ x. bytes_eq name (f x)) (x ∷ xs) ≡ is_some (place_of name (map f (x ∷ xs)))
  any_step x xs true e rest = rw e refl
  any_step x xs false e rest = rw e (rest ∙ some_too (place_of name (map f xs)))

  pub any_place : (xs : List X) → list_any (λ x. bytes_eq name (f x)) xs ≡ is_some (place_of name (map f xs))
  any_place [] = refl
  any_place (x ∷ xs) = any_step x xs (bytes_eq name (f x)) refl (any_place xs)

  -- a key that is new goes last
  pub added : (keys more : List X) (key : X) → more ≡ cond (list_any (λ x. bytes_eq (f key) (f x)) keys) keys (keys ++ key ∷ []) → f key ≡ name → is_among name (map f keys) ≡ false → map f more ≡ map f keys ++ name ∷ []
  added keys more key m n new = rw (m, n, any_place keys, new, map-append f keys (key ∷ [])) (ap (λ (k : List ℕ). map f keys ++ k ∷ []) n)
