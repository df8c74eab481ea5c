-- Loops over the entities of a group, place by place: what one more place means, and what all of them come to.
use Rattle.std.proofs.Common.{◌≡◌, ℕ, ◌+◌, ◌<◌, length, get_or, refl, sym, subst, ◌∙◌, arith}
use Rattle.std.specs.Prelude.{Bool, true, false, ◌&&◌, ◌||◌, nat_lt, if◌then◌else◌}
use Rattle.std.proofs.lemmas.Bool.Decides.{nat_tests}
use mathlib.Core.Path.{fun_ext}
use Rattle.st_net.specs.declared.entity.Entity.{Entity}
use Rattle.st_net.specs.declared.entity.Entity.TheVariants.{Device, Link}
use Rattle.st_net.specs.Entities.{is_same_entity}
use Rattle.st_net.specs.Groups.{Group, IsEntityOf}
use Rattle.st_net.specs.Sets.{is_of}
use Rattle.st_net.specs.InOrder.{entities_of, place_in}
use Rattle.st_net.proofs.EntityOrder.{entities_count, place_at}
use Rattle.st_net.proofs.Tests.{same_entity}

-- whether an entity of the group stands before this place
abbrev pub is_before : Group → ℕ → Entity → Bool
is_before g n e = is_of g e && nat_lt (place_in g e) n

-- one place more
more_at : (g : Group) (at e : Entity) → IsEntityOf g at → is_before g (place_in g at + 1) e ≡ (is_before g (place_in g at) e || is_same_entity at e)
more_at g (Device i) (Device j) own = grind (arith, nat_tests)
more_at g (Device i) (Link j) own = grind (arith, nat_tests)
more_at g (Link i) (Device j) own = grind (arith, nat_tests)
more_at g (Link i) (Link j) own = grind (arith, nat_tests)

before_more : (g : Group) (n : ℕ) (at e : Entity) → IsEntityOf g at → place_in g at ≡ n → is_before g (n + 1) e ≡ (is_before g n e || is_same_entity at e)
before_more g n at e own is = rw (← is) (more_at g at e own)

-- nothing stands before the first place, and all entities of the group before the last
before_none : (g : Group) (e : Entity) → is_before g 0 e ≡ false
before_none g (Device j) = grind (arith, nat_tests)
before_none g (Link j) = grind (arith, nat_tests)

before_all : (g : Group) (n : ℕ) (e : Entity) → n ≡ length (entities_of g) → is_before g n e ≡ is_of g e
before_all g n (Device j) all = let count = entities_count g in grind (arith, nat_tests, all, count)
before_all g n (Link j) all = let count = entities_count g in grind (arith, nat_tests, all, count)

-- what is true of the entities before a place, and of the one that stands there, is true of those before the next
pub before_next : (g : Group) (n : ℕ) (at : Entity) (P : Entity → Type 0) → n < length (entities_of g) → IsEntityOf g at → at ≡ get_or (entities_of g) n at → P at → ((e : Entity) → is_before g n e ≡ true → P e) → (e : Entity) → is_before g (n + 1) e ≡ true → P e
before_next g n at P low own is here before e inside =
    by_place (is_before g n e) (is_same_entity at e) refl refl (sym (before_more g n at e own (place_at g n at low is)) ∙ inside)
  where
    by_place : (b same : Bool) → is_before g n e ≡ b → is_same_entity at e ≡ same → (b || same) ≡ true → P e
    by_place true same earlier is_at either = before e earlier
    by_place false true earlier is_at either = subst P (same_entity at e is_at) here
    by_place false false earlier is_at either = cc

pub before_end : (g : Group) (n : ℕ) (P : Entity → Type 0) → n ≡ length (entities_of g) → ((e : Entity) → is_before g n e ≡ true → P e) → (e : Entity) → is_of g e ≡ true → P e
before_end g n P all before e own = before e (before_all g n e all ∙ own)

-- entities before a place that pass a test have this item, and all else has what it had
pub record AreSetBefore {X : Type 0} (g : Group) (n : ℕ) (p : Entity → Bool) (x : X) (old new : Entity → X) : Type 0 where
  pub items : (e : Entity) → new e ≡ (if is_before g n e && p e then x else old e)

pub set_none : {X : Type 0} (g : Group) (p : Entity → Bool) (x : X) (old : Entity → X) → AreSetBefore g 0 p x old old
set_none g p x old = record { items = λ e. rw (before_none g e) refl }

there : (p : Entity → Bool) (at e : Entity) (b : Bool) → p at ≡ b → is_same_entity at e ≡ true → p e ≡ b
there p at e b is same = rw (← same_entity at e same) is

set_case : {X : Type 0} (x was old : X) (p before here : Bool) → (here ≡ true → p ≡ true) → was ≡ (if before && p then x else old) → (if here then x else was) ≡ (if (before || here) && p then x else old)
set_case x was old p true true passes is = rw (passes refl) refl
set_case x was old p false true passes is = rw (passes refl) refl
set_case x was old p true false passes is = is
set_case x was old p false false passes is = is

leave_case : {X : Type 0} (x was old : X) (p before here : Bool) → (here ≡ true → p ≡ false) → was ≡ (if before && p then x else old) → was ≡ (if (before || here) && p then x else old)
leave_case x was old p true here fails is = is
leave_case x was old p false false fails is = is
leave_case x was old p false true fails is = rw (fails refl) is

-- what stands at the next place passes, and gets the item
pub set_next : {X : Type 0} (g : Group) (n : ℕ) (at : Entity) (p : Entity → Bool) (x : X) (old was new : Entity → X) → n < length (entities_of g) → IsEntityOf g at → at ≡ get_or (entities_of g) n at → p at ≡ true → ((e : Entity) → new e ≡ (if is_same_entity at e then x else was e)) → AreSetBefore g n p x old was → AreSetBefore g (n + 1) p x old new
set_next g n at p x old was new low own is passes put known = record {
  items = λ e. rw (put e, before_more g n at e own (place_at g n at low is))
      (set_case x (was e) (old e) (p e) (is_before g n e) (is_same_entity at e) (there p at e true passes) (known.items e));
}

-- it does not pass, and all is left
pub leave_next : {X : Type 0} (g : Group) (n : ℕ) (at : Entity) (p : Entity → Bool) (x : X) (old was : Entity → X) → n < length (entities_of g) → IsEntityOf g at → at ≡ get_or (entities_of g) n at → p at ≡ false → AreSetBefore g n p x old was → AreSetBefore g (n + 1) p x old was
leave_next g n at p x old was low own is fails known = record {
  items = λ e. rw (before_more g n at e own (place_at g n at low is))
      (leave_case x (was e) (old e) (p e) (is_before g n e) (is_same_entity at e) (there p at e false fails) (known.items e));
}

-- before the last place stand all entities of the group
pub set_all : {X : Type 0} (g : Group) (n : ℕ) (p : Entity → Bool) (x : X) (old new : Entity → X) → n ≡ length (entities_of g) → AreSetBefore g n p x old new → (e : Entity) → new e ≡ (if is_of g e && p e then x else old e)
set_all g n p x old new all known e = known.items e ∙ rw (before_all g n e all) refl

-- so the set of those that pass is that of the group's entities that do
true_where : (b : Bool) → (if b then true else false) ≡ b
true_where true = refl
true_where false = refl

pub set_over : (g : Group) (n : ℕ) (p set : Entity → Bool) → n ≡ length (entities_of g) → AreSetBefore g n p true (λ e. false) set → set ≡ (λ e. is_of g e && p e)
set_over g n p set all known = fun_ext (λ e. set_all g n p true (λ at. false) set all known e ∙ true_where (is_of g e && p e))
