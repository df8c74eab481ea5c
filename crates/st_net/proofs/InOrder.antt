-- Lists with an item for each entity: one item replaced, and lists that are made place by place.
use Rattle.std.proofs.Common.{◌≡◌, ℕ, zero, suc, ◌+◌, ◌<◌, List, [], ◌∷◌, length, get_or, map, set, take, drop, refl, ap, ◌∙◌, subst, arith}
use Rattle.std.specs.Prelude.{Bool, true, false, ◌==◌, ◌≢◌, if◌then◌else◌}
use Rattle.std.proofs.lemmas.Bool.Decides.{nat_tests}
use Rattle.std.proofs.lemmas.List.{get_or-set_same, get_or-set_other, get_or-map, get_or_default, get_or_past, take-set-le, take_all, drop-set-lt, drop-set-add, length-map, length-take, length-drop}
use Rattle.st_net.specs.declared.entity.Entity.{Entity}
use Rattle.st_net.specs.declared.entity.Entity.TheVariants.{Device, Link}
use Rattle.st_net.specs.Entities.{is_same_entity}
use Rattle.st_net.specs.Groups.{Group, IsEntityOf}
use Rattle.st_net.specs.Sets.{is_of}
use Rattle.st_net.specs.InOrder.{entities_of, entity_count, place_in, item_in}
use Rattle.st_net.proofs.EntityOrder.{entities_count, at_place}
use Rattle.st_net.proofs.SetLaws.{own_is}
use Rattle.st_net.proofs.Tests.{not_less}

take_at : {X : Type 0} (n : ℕ) (xs : List X) (i : ℕ) (d : X) → i < n → get_or (take n xs) i d ≡ get_or xs i d
take_at zero xs i d lt = absurd (omega arith)
take_at (suc n) [] i d lt = refl
take_at (suc n) (x ∷ xs) zero d lt = refl
take_at (suc n) (x ∷ xs) (suc i) d lt = take_at n xs i d (omega arith)

drop_at : {X : Type 0} (n : ℕ) (xs : List X) (i : ℕ) (d : X) → get_or (drop n xs) i d ≡ get_or xs (n + i) d
drop_at zero xs i d = ap (λ (k : ℕ). get_or xs k d) (let e : i ≡ 0 + i = omega arith in e)
drop_at (suc n) [] i d = refl
drop_at (suc n) (x ∷ xs) i d =
    let e : suc n + i ≡ suc (n + i) = omega arith in
    rw e (drop_at n xs i d)

-- an entity of the group has its item in its place
pub item_in_at : {X : Type 0} (g : Group) (items : List X) (default : Entity → X) (e : Entity) (d : X) → IsEntityOf g e → length items ≡ entity_count g → item_in g items default e ≡ get_or items (place_in g e) d
item_in_at g items default (Device i) d here count =
    take_at (length g.devices) items i (default (Device i)) here
    ∙ get_or_default items i (default (Device i)) d (omega arith)
item_in_at g items default (Link i) d here count =
    drop_at (length g.devices) items i (default (Link i))
    ∙ get_or_default items (length g.devices + i) (default (Link i)) d (omega arith)

pub place_within : (g : Group) (e : Entity) → IsEntityOf g e → place_in g e < entity_count g
place_within g (Device i) here = omega arith
place_within g (Link i) here = omega arith

take_set_same : {X : Type 0} (n : ℕ) (xs : List X) (i : ℕ) (y d : X) → i < n → i < length xs → get_or (take n (set xs i y)) i d ≡ y
take_set_same n xs i y d lt within = take_at n (set xs i y) i d lt ∙ get_or-set_same xs i y d within

take_set_other : {X : Type 0} (n : ℕ) (xs : List X) (i j : ℕ) (y d : X) → j ≢ i → get_or (take n (set xs i y)) j d ≡ get_or (take n xs) j d
take_set_other zero xs i j y d other = refl
take_set_other (suc n) [] i j y d other = refl
take_set_other (suc n) (x ∷ xs) zero zero y d other = absurd (other refl)
take_set_other (suc n) (x ∷ xs) zero (suc j) y d other = refl
take_set_other (suc n) (x ∷ xs) (suc i) zero y d other = refl
take_set_other (suc n) (x ∷ xs) (suc i) (suc j) y d other = take_set_other n xs i j y d (λ same. other (ap suc same))

differ : (i j : ℕ) → (i == j) ≡ false → j ≢ i
differ i j other = grind (arith, nat_tests, other)

same_number : (i j : ℕ) → (i == j) ≡ true → i ≡ j
same_number i j same = grind (arith, nat_tests, same)

drop_set_same : {X : Type 0} (n : ℕ) (xs : List X) (i : ℕ) (y d : X) → n + i < length xs → get_or (drop n (set xs (n + i) y)) i d ≡ y
drop_set_same n xs i y d within = drop_at n (set xs (n + i) y) i d ∙ get_or-set_same xs (n + i) y d within

drop_set_other : {X : Type 0} (n : ℕ) (xs : List X) (i j : ℕ) (y d : X) → (i == j) ≡ false → get_or (drop n (set xs (n + i) y)) j d ≡ get_or (drop n xs) j d
drop_set_other n xs i j y d other =
    ap (λ rest. get_or rest j d) (drop-set-add n xs i y)
    ∙ get_or-set_other (drop n xs) i j y d (differ i j other)

-- an item in the place of its entity's; the others stay
pub item_in-set : {X : Type 0} (g : Group) (items : List X) (default : Entity → X) (at e : Entity) (x : X) → IsEntityOf g at → length items ≡ entity_count g → item_in g (set items (place_in g at) x) default e ≡ (if is_same_entity at e then x else item_in g items default e)
item_in-set {X} g items default (Device i) (Device j) x here count = by_number (i == j) refl
  where
    by_number : (same : Bool) → (i == j) ≡ same → get_or (take (length g.devices) (set items i x)) j (default (Device j)) ≡ (if same then x else get_or (take (length g.devices) items) j (default (Device j)))
    by_number false other = take_set_other (length g.devices) items i j x (default (Device j)) (differ i j other)
    by_number true is = subst (λ (k : ℕ). get_or (take (length g.devices) (set items i x)) k (default (Device j)) ≡ x) (same_number i j is) (take_set_same (length g.devices) items i x (default (Device j)) here (omega arith))
item_in-set g items default (Device i) (Link j) x here count = ap (λ rest. get_or rest j (default (Link j))) (drop-set-lt (length g.devices) items i x here)
item_in-set g items default (Link i) (Device j) x here count = ap (λ rest. get_or rest j (default (Device j))) (take-set-le (length g.devices) items (length g.devices + i) x (omega arith))
item_in-set {X} g items default (Link i) (Link j) x here count = by_number (i == j) refl
  where
    by_number : (same : Bool) → (i == j) ≡ same → get_or (drop (length g.devices) (set items (length g.devices + i) x)) j (default (Link j)) ≡ (if same then x else get_or (drop (length g.devices) items) j (default (Link j)))
    by_number false other = drop_set_other (length g.devices) items i j x (default (Link j)) other
    by_number true is = subst (λ (k : ℕ). get_or (drop (length g.devices) (set items (length g.devices + i) x)) k (default (Link j)) ≡ x) (same_number i j is) (drop_set_same (length g.devices) items i x (default (Link j)) (omega arith))

-- an entity that the group does not have has no item
pub item_beyond : {X : Type 0} (g : Group) (items : List X) (default : Entity → X) (e : Entity) → length items ≡ entity_count g → is_of g e ≡ false → item_in g items default e ≡ default e
item_beyond g items default (Device i) count beyond =
    let far = not_less i (length g.devices) beyond in
    let n = length-take (length g.devices) items in
    get_or_past (take (length g.devices) items) i (default (Device i)) (omega (arith, far, n))
item_beyond g items default (Link i) count beyond =
    let far = not_less i (length g.links) beyond in
    let n = length-drop (length g.devices) items in
    get_or_past (drop (length g.devices) items) i (default (Link i)) (omega (arith, far, n, count))

-- a list that has of each entity of the group what the default says has the default of every entity
items_count : {X : Type 0} (g : Group) (default : Entity → X) → length (map default (entities_of g)) ≡ entity_count g
items_count g default = length-map (entities_of g) default ∙ entities_count g

items_default : {X : Type 0} (g : Group) (default : Entity → X) (e : Entity) → item_in g (map default (entities_of g)) default e ≡ default e
items_default {X} g default e = by_own (is_of g e) refl
  where
    within : (here : IsEntityOf g e) → place_in g e < length (entities_of g)
    within here = let all = entities_count g in let low = place_within g e here in omega (arith, all, low)

    in_place : (here : IsEntityOf g e) → get_or (map default (entities_of g)) (place_in g e) (default e) ≡ default e
    in_place here = get_or-map default (entities_of g) (place_in g e) e (default e) (within here) ∙ ap default (at_place g e here)

    by_own : (own : Bool) → is_of g e ≡ own → item_in g (map default (entities_of g)) default e ≡ default e
    by_own true is = item_in_at g (map default (entities_of g)) default e (default e) (own_is g e is) (items_count g default) ∙ in_place (own_is g e is)
    by_own false is = item_beyond g (map default (entities_of g)) default e (items_count g default) is

-- a list with an item for each entity of the group, each as the default says
pub record AreDefaults {X : Type 0} (g : Group) (default : Entity → X) (items : List X) : Type 0 where
  pub count : length items ≡ entity_count g
  pub each : (e : Entity) → item_in g items default e ≡ default e

-- a list that is made place by place has an item for each once the place is behind all entities
pub all_default : {X : Type 0} (g : Group) (default : Entity → X) (n : ℕ) (items : List X) → n ≡ length (entities_of g) → items ≡ map default (take n (entities_of g)) → AreDefaults g default items
all_default g default n items all made =
    let whole : items ≡ map default (entities_of g) = made ∙ ap (map default) (take_all n (entities_of g) (omega arith)) in
    rw whole (record { count = items_count g default; each = items_default g default })
