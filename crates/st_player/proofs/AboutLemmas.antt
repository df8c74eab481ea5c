-- The entities that an entry is about: one that is named, by its own number, or those of its rows.
use Rattle.std.proofs.Common.{◌≡◌, ◌∙◌, ℕ, zero, suc, ◌+◌, ◌<◌, ◌≤◌, true, false, Bool, List, [], ◌∷◌, length, map, get_or, take, Some, None, refl, sym, ap, subst, arith}
use Rattle.std.specs.Prelude.{◌||◌, nat_lt, if◌then◌else◌}
use Rattle.std.specs.List.{filter}
use Rattle.std.proofs.lemmas.Bool.Decides.{nat_tests}
use Rattle.std.proofs.lemmas.List.{get_or_default, take_all}
use mathlib.Core.Path.{fun_ext}
use Rattle.st_net.specs.declared.entity.Entity.{Entity}
use Rattle.st_net.specs.declared.entity.Entity.TheVariants.{Device, Link}
use Rattle.st_net.specs.declared.entity.Row.{Row}
use Rattle.st_net.specs.Entities.{is_same_entity}
use Rattle.st_net.specs.Groups.{Group, IsEntityOf}
use Rattle.st_net.specs.InOrder.{entities_of, place_in}
use Rattle.st_net.proofs.EntityOrder.{at_place, entities_count, own_at, place_at}
use Rattle.st_net.proofs.Tests.{same_entity, same_self}
use Rattle.st_event.specs.declared.event.Event.{Event}
use Rattle.st_event.specs.declared.event.Event.TheVariants.{Submit, Check, Lock, Unlock, Send, Deliver, Finish, Report, Hear, Fail, Withdraw}
use Rattle.st_event.specs.declared.journal.Entry.{Entry}
use Rattle.st_event.specs.declared.reply.Reply.{Reply}
use Rattle.st_player.specs.Cuts.{numbers_of}
use Rattle.st_player.specs.Entries.{has_row_on, is_about, named_by, rows_about}
use Rattle.st_player.proofs.CutLemmas.{numbers_put, numbers_skip}

-- a place, once it is among the first
abbrev once_below : ℕ → ℕ → List ℕ
once_below place n = if nat_lt place n then place ∷ [] else []

none_below : (place : ℕ) → once_below place 0 ≡ []
none_below place = let high : nat_lt place 0 ≡ false = grind (arith, nat_tests) in rw high refl

here_before : (place n : ℕ) → place ≡ n → once_below place n ≡ []
here_before place n at = let high : nat_lt place n ≡ false = grind (arith, nat_tests) in rw high refl

here_behind : (place n : ℕ) → place ≡ n → once_below place (n + 1) ≡ n ∷ []
here_behind place n at = let low : nat_lt place (n + 1) ≡ true = grind (arith, nat_tests) in rw low (ap (λ (k : ℕ). k ∷ []) at)

not_here : (place n : ℕ) → (place ≡ n → ⊥) → once_below place (n + 1) ≡ once_below place n
not_here place n apart =
    let same : nat_lt place (n + 1) ≡ nat_lt place n = grind (arith, nat_tests) in
    ap (λ (b : Bool). if b then place ∷ [] else []) same

-- what stands at a place
abbrev stands_at : Group → ℕ → Entity → Entity
stands_at g n at = get_or (entities_of g) n at

stands : (g : Group) (n : ℕ) (at : Entity) → n < length (entities_of g) → stands_at g n at ≡ get_or (entities_of g) n (stands_at g n at)
stands g n at low = get_or_default (entities_of g) n at (stands_at g n at) low

-- one entity more is looked at, of those among which an entity is to be found
found_more : (g : Group) (at : Entity) (n : ℕ) → IsEntityOf g at → n < length (entities_of g) → once_below (place_in g at) n ≡ map (place_in g) (filter (is_same_entity at) (take n (entities_of g)))
    → once_below (place_in g at) (n + 1) ≡ map (place_in g) (filter (is_same_entity at) (take (n + 1) (entities_of g)))
found_more g at n own low was = by_test (is_same_entity at (stands_at g n at)) refl
  where
    elsewhere : is_same_entity at (stands_at g n at) ≡ false → place_in g at ≡ n → ⊥
    elsewhere other here =
        let it : stands_at g n at ≡ at = ap (λ (k : ℕ). get_or (entities_of g) k at) (sym here) ∙ at_place g at own in
        let same : is_same_entity at (stands_at g n at) ≡ true = ap (is_same_entity at) it ∙ same_self at in
        cc

    by_test : (same : Bool) → is_same_entity at (stands_at g n at) ≡ same → once_below (place_in g at) (n + 1) ≡ map (place_in g) (filter (is_same_entity at) (take (n + 1) (entities_of g)))
    by_test true is =
        let here : place_in g at ≡ n = ap (place_in g) (same_entity at (stands_at g n at) is) ∙ place_at g n (stands_at g n at) low (stands g n at low) in
        here_behind (place_in g at) n here ∙ numbers_put g (is_same_entity at) n (stands_at g n at) [] (n ∷ []) low (stands g n at low) is (sym (here_before (place_in g at) n here) ∙ was) refl
    by_test false other =
        not_here (place_in g at) n (elsewhere other) ∙ numbers_skip g (is_same_entity at) n (stands_at g n at) (once_below (place_in g at) n) low (stands g n at low) other was

found_among : (g : Group) (at : Entity) (n : ℕ) → IsEntityOf g at → n ≤ length (entities_of g) → once_below (place_in g at) n ≡ map (place_in g) (filter (is_same_entity at) (take n (entities_of g)))
found_among g at zero own few = none_below (place_in g at)
found_among g at (suc n) own few =
    let next : n + 1 ≡ suc n = omega arith in
    sym (ap (once_below (place_in g at)) next)
    ∙ (found_more g at n own (omega (arith, few)) (found_among g at n own (omega (arith, few)))
    ∙ ap (λ (k : ℕ). map (place_in g) (filter (is_same_entity at) (take k (entities_of g)))) next)

place_low : (g : Group) (at : Entity) → IsEntityOf g at → place_in g at < length (entities_of g)
place_low g (Device i) own = let all = entities_count g in omega (arith, own, all)
place_low g (Link i) own = let all = entities_count g in omega (arith, own, all)

pub found_alone : (g : Group) (at : Entity) → IsEntityOf g at → place_in g at ∷ [] ≡ numbers_of g (is_same_entity at)
found_alone g at own =
    let all = length (entities_of g) in
    let low : nat_lt (place_in g at) all ≡ true = let under = place_low g at own in grind (arith, nat_tests) in
    sym (ap (λ (b : Bool). if b then place_in g at ∷ [] else []) low)
    ∙ (found_among g at all own (omega arith) ∙ ap (λ (es : List Entity). map (place_in g) (filter (is_same_entity at) es)) (take_all all (entities_of g) (omega arith)))

-- an entity that the group does not have is not found
missed_more : (g : Group) (at : Entity) (n : ℕ) → (IsEntityOf g at → ⊥) → n < length (entities_of g) → [] ≡ map (place_in g) (filter (is_same_entity at) (take n (entities_of g)))
    → [] ≡ map (place_in g) (filter (is_same_entity at) (take (n + 1) (entities_of g)))
missed_more g at n none low was = by_test (is_same_entity at (stands_at g n at)) refl
  where
    by_test : (same : Bool) → is_same_entity at (stands_at g n at) ≡ same → [] ≡ map (place_in g) (filter (is_same_entity at) (take (n + 1) (entities_of g)))
    by_test true is = absurd (none (subst (IsEntityOf g) (sym (same_entity at (stands_at g n at) is)) (own_at g n (stands_at g n at) low (stands g n at low))))
    by_test false other = numbers_skip g (is_same_entity at) n (stands_at g n at) [] low (stands g n at low) other was

missed : (g : Group) (at : Entity) (n : ℕ) → (IsEntityOf g at → ⊥) → n ≤ length (entities_of g) → [] ≡ map (place_in g) (filter (is_same_entity at) (take n (entities_of g)))
missed g at zero none few = refl
missed g at (suc n) none few =
    let next : n + 1 ≡ suc n = omega arith in
    missed_more g at n none (omega (arith, few)) (missed g at n none (omega (arith, few)))
    ∙ ap (λ (k : ℕ). map (place_in g) (filter (is_same_entity at) (take k (entities_of g)))) next

pub not_found : (g : Group) (at : Entity) → (IsEntityOf g at → ⊥) → [] ≡ numbers_of g (is_same_entity at)
not_found g at none =
    let all = length (entities_of g) in
    missed g at all none (omega arith) ∙ ap (λ (es : List Entity). map (place_in g) (filter (is_same_entity at) es)) (take_all all (entities_of g) (omega arith))

-- an entry that names an entity has no rows that it is about
named_has_no_rows : (g : Group) (past : List Entry) (event : Event) (answer : Reply) (at : Entity) → named_by g past event ≡ Some at → rows_about past event answer ≡ []
named_has_no_rows g past (Submit app rows) answer at is = absurd cc
named_has_no_rows g past Check answer at is = absurd cc
named_has_no_rows g past (Lock app e prio) answer at is = refl
named_has_no_rows g past (Unlock app e prio) answer at is = refl
named_has_no_rows g past (Send e) answer at is = refl
named_has_no_rows g past (Deliver n) answer at is = refl
named_has_no_rows g past (Finish e) answer at is = refl
named_has_no_rows g past (Report e) answer at is = refl
named_has_no_rows g past (Hear n) answer at is = refl
named_has_no_rows g past (Fail e vals health) answer at is = refl
named_has_no_rows g past (Withdraw e) answer at is = refl

pub about_named : (g : Group) (past : List Entry) (event : Event) (answer : Reply) (at : Entity) → named_by g past event ≡ Some at → is_same_entity at ≡ is_about (rows_about past event answer) (named_by g past event)
about_named g past event answer at is =
    sym (ap (λ (rows : List Row). is_about rows (named_by g past event)) (named_has_no_rows g past event answer at is) ∙ ap (is_about []) is)

without : (b : Bool) → b ≡ (b || false)
without true = refl
without false = refl

pub about_rows : (g : Group) (past : List Entry) (event : Event) (answer : Reply) → named_by g past event ≡ None → has_row_on (rows_about past event answer) ≡ is_about (rows_about past event answer) (named_by g past event)
about_rows g past event answer is =
    let rows = rows_about past event answer in
    fun_ext (λ e. without (has_row_on rows e)) ∙ sym (ap (is_about rows) is)
