-- What derived tests of equality decide, and lists that are walked together.
use Rattle.std.proofs.Common.{◌≡◌, ℕ, ◌+◌, ◌<◌, List, [], ◌∷◌, length, map, take, get_or, Bool, true, false, ◌&&◌, ◌==◌, refl, ◌∙◌, subst, ◌≤◌}
use Rattle.std.specs.Bool.{Decides}
use Rattle.std.specs.List.{AllZip}
use mathlib.Core.Bool.{beq}
use Rattle.std.proofs.lemmas.List.{take_more, take_all}
use Rattle.st_net.specs.declared.entity.Vals.{Vals}
use Rattle.st_net.specs.declared.topo.DeviceOpening.{DeviceOpening}
use Rattle.st_net.specs.declared.topo.LinkOpening.{LinkOpening}
use Rattle.st_net.specs.declared.promise.Promise.{Promise}
use Rattle.st_net.proofs.Tests.{both, equal_numbers, equal_self}

abbrev vals_test : Vals → Vals → Bool
vals_test x y = x.v0 == y.v0 && (x.v1 == y.v1 && (x.v2 == y.v2 && x.v3 == y.v3))

abbrev device_test : DeviceOpening → DeviceOpening → Bool
device_test x y = beq x.tor y.tor && (vals_test x.vals y.vals && x.health == y.health)

abbrev link_test : LinkOpening → LinkOpening → Bool
link_test x y = x.a == y.a && (x.b == y.b && (x.capacity == y.capacity && (vals_test x.vals y.vals && x.health == y.health)))

abbrev promise_test : Promise → Promise → Bool
promise_test x y = x.a == y.a && (x.b == y.b && x.percent == y.percent)

abbrev vals_of : ℕ → ℕ → ℕ → ℕ → Vals
vals_of a b c d = record { v0 = a; v1 = b; v2 = c; v3 = d }

abbrev device_of : Bool → Vals → ℕ → DeviceOpening
device_of tor vals health = record { tor = tor; vals = vals; health = health }

abbrev link_of : ℕ → ℕ → ℕ → Vals → ℕ → LinkOpening
link_of a b capacity vals health = record { a = a; b = b; capacity = capacity; vals = vals; health = health }

abbrev promise_of : ℕ → ℕ → ℕ → Promise
promise_of a b percent = record { a = a; b = b; percent = percent }

made_vals : (a b c d e f g h : ℕ) → a ≡ e → b ≡ f → c ≡ g → d ≡ h → vals_of a b c d ≡ vals_of e f g h
made_vals a b c d e f g h p q r s = rw (p, q, r, s) refl

made_device : (a : Bool) (b : Vals) (c : ℕ) (d : Bool) (e : Vals) (f : ℕ) → a ≡ d → b ≡ e → c ≡ f → device_of a b c ≡ device_of d e f
made_device a b c d e f p q r = rw (p, q, r) refl

made_link : (a b c : ℕ) (d : Vals) (e f g h : ℕ) (i : Vals) (j : ℕ) → a ≡ f → b ≡ g → c ≡ h → d ≡ i → e ≡ j → link_of a b c d e ≡ link_of f g h i j
made_link a b c d e f g h i j p q r s t = rw (p, q, r, s, t) refl

made_promise : (a b c d e f : ℕ) → a ≡ d → b ≡ e → c ≡ f → promise_of a b c ≡ promise_of d e f
made_promise a b c d e f p q r = rw (p, q, r) refl

same_bools : (p q : Bool) → beq p q ≡ true → p ≡ q
same_bools true true is = refl
same_bools true false is = cc
same_bools false true is = cc
same_bools false false is = refl

same_bool_self : (p : Bool) → beq p p ≡ true
same_bool_self true = refl
same_bool_self false = refl

vals_same : (x y : Vals) → vals_test x y ≡ true → x ≡ y
vals_same x y is =
    let p = both (x.v0 == y.v0) (x.v1 == y.v1 && (x.v2 == y.v2 && x.v3 == y.v3)) is in
    let q = both (x.v1 == y.v1) (x.v2 == y.v2 && x.v3 == y.v3) p.1 in
    let r = both (x.v2 == y.v2) (x.v3 == y.v3) q.1 in
    made_vals x.v0 x.v1 x.v2 x.v3 y.v0 y.v1 y.v2 y.v3 (equal_numbers x.v0 y.v0 p.0) (equal_numbers x.v1 y.v1 q.0) (equal_numbers x.v2 y.v2 r.0) (equal_numbers x.v3 y.v3 r.1)

vals_self : (x : Vals) → vals_test x x ≡ true
vals_self x = rw (equal_self x.v0, equal_self x.v1, equal_self x.v2, equal_self x.v3) refl

device_same : (x y : DeviceOpening) → device_test x y ≡ true → x ≡ y
device_same x y is =
    let p = both (beq x.tor y.tor) (vals_test x.vals y.vals && x.health == y.health) is in
    let q = both (vals_test x.vals y.vals) (x.health == y.health) p.1 in
    made_device x.tor x.vals x.health y.tor y.vals y.health (same_bools x.tor y.tor p.0) (vals_same x.vals y.vals q.0) (equal_numbers x.health y.health q.1)

device_self : (x : DeviceOpening) → device_test x x ≡ true
device_self x = rw (same_bool_self x.tor, vals_self x.vals, equal_self x.health) refl

link_same : (x y : LinkOpening) → link_test x y ≡ true → x ≡ y
link_same x y is =
    let p = both (x.a == y.a) (x.b == y.b && (x.capacity == y.capacity && (vals_test x.vals y.vals && x.health == y.health))) is in
    let q = both (x.b == y.b) (x.capacity == y.capacity && (vals_test x.vals y.vals && x.health == y.health)) p.1 in
    let r = both (x.capacity == y.capacity) (vals_test x.vals y.vals && x.health == y.health) q.1 in
    let s = both (vals_test x.vals y.vals) (x.health == y.health) r.1 in
    made_link x.a x.b x.capacity x.vals x.health y.a y.b y.capacity y.vals y.health (equal_numbers x.a y.a p.0) (equal_numbers x.b y.b q.0) (equal_numbers x.capacity y.capacity r.0) (vals_same x.vals y.vals s.0) (equal_numbers x.health y.health s.1)

link_self : (x : LinkOpening) → link_test x x ≡ true
link_self x = rw (equal_self x.a, equal_self x.b, equal_self x.capacity, vals_self x.vals, equal_self x.health) refl

promise_same : (x y : Promise) → promise_test x y ≡ true → x ≡ y
promise_same x y is =
    let p = both (x.a == y.a) (x.b == y.b && x.percent == y.percent) is in
    let q = both (x.b == y.b) (x.percent == y.percent) p.1 in
    made_promise x.a x.b x.percent y.a y.b y.percent (equal_numbers x.a y.a p.0) (equal_numbers x.b y.b q.0) (equal_numbers x.percent y.percent q.1)

promise_self : (x : Promise) → promise_test x x ≡ true
promise_self x = rw (equal_self x.a, equal_self x.b, equal_self x.percent) refl

-- the derived tests hold exactly where two values are one
pub device_decides : (x y : DeviceOpening) → Decides (device_test x y) (x ≡ y)
device_decides x y = (device_same x y, λ e. subst (λ (z : DeviceOpening). device_test x z ≡ true) e (device_self x))

pub link_decides : (x y : LinkOpening) → Decides (link_test x y) (x ≡ y)
link_decides x y = (link_same x y, λ e. subst (λ (z : LinkOpening). link_test x z ≡ true) e (link_self x))

pub promise_decides : (x y : Promise) → Decides (promise_test x y) (x ≡ y)
promise_decides x y = (promise_same x y, λ e. subst (λ (z : Promise). promise_test x z ≡ true) e (promise_self x))

-- two lists that agree up to an item, and there
pub same_one_more : {X : Type 0} (xs ys : List X) (i : ℕ) (x y : X) → i < length xs → i < length ys → x ≡ get_or xs i x → y ≡ get_or ys i y → x ≡ y → take i xs ≡ take i ys → take (i + 1) xs ≡ take (i + 1) ys
same_one_more xs ys i x y low_x low_y at_x at_y same before = rw (take_more xs i x low_x, take_more ys i y low_y, ← at_x, ← at_y, before, same) refl

cloned_items : (R : ℕ → ℕ → Type 0) → ((x y : ℕ) → R x y → y ≡ x) → (xs ys : List ℕ) → AllZip R xs ys → ys ≡ xs
cloned_items R same [] [] all = refl
cloned_items R same [] (y ∷ ys) all = absurd all
cloned_items R same (x ∷ xs) [] all = absurd all
cloned_items R same (x ∷ xs) (y ∷ ys) all = rw (same x y all.0, cloned_items R same xs ys all.1) refl

-- keys that are clones show the same
pub cloned_keys : {V : Type 0} (f : V → List ℕ) (R : ℕ → ℕ → Type 0) (P : V → V → Type 0) → ((x y : ℕ) → R x y → y ≡ x) → (keys more : List V) → AllZip (λ v w. AllZip R (f v) (f w) × P v w) keys more → map f more ≡ map f keys
cloned_keys f R P same [] [] all = refl
cloned_keys f R P same [] (w ∷ more) all = absurd all
cloned_keys f R P same (v ∷ keys) [] all = absurd all
cloned_keys f R P same (v ∷ keys) (w ∷ more) all = rw (cloned_items R same (f v) (f w) all.0.0, cloned_keys f R P same keys more all.1) refl

-- what was copied up to the end is all
pub copied_all : {X : Type 0} (ys xs : List X) (n : ℕ) → ys ≡ take n xs → length xs ≤ n → ys ≡ xs
copied_all ys xs n is end = is ∙ take_all n xs end
