-- The entities of a group in order: how many there are, which stands where, and that each is the group's own.
use Rattle.std.proofs.Common.{◌≡◌, ℕ, ◌+◌, ◌-◌, ◌<◌, ◌≤◌, zero, suc, length, get_or, map, refl, sym, ap, subst, inl, inr, ◌∙◌, arith}
use Rattle.std.specs.Prelude.{All}
use Rattle.std.specs.List.{range_with_len}
use Rattle.std.proofs.lemmas.Bool.{cases_lt}
use Rattle.std.proofs.lemmas.List.{length-append, get_or_append_left, get_or-append_right}
use Rattle.std.proofs.lemmas.List.Elements.{All-nil, All-cons, All-append, All-map, All-weaker}
use Rattle.std.proofs.lemmas.List.FromFn.{length-map-range_with_len, get_or-map-range_with_len}
use Rattle.st_net.specs.declared.entity.Entity.{Entity}
use Rattle.st_net.specs.declared.entity.Entity.TheVariants.{Device, Link}
use Rattle.st_net.specs.Groups.{Group, IsEntityOf}
use Rattle.st_net.specs.InOrder.{entities_among, entities_of, place_in}

-- as many as the devices and the links
pub among_count : (devices links : ℕ) → length (entities_among devices links) ≡ devices + links
among_count devices links = rw (length-append, length-map-range_with_len Device 0, length-map-range_with_len Link 0) refl

pub entities_count : (g : Group) → length (entities_of g) ≡ length g.devices + length g.links
entities_count g = among_count (length g.devices) (length g.links)

-- a device stands at its number, and a link behind all devices
pub device_among : (devices links i : ℕ) (d : Entity) → i < devices → Device i ≡ get_or (entities_among devices links) i d
device_among devices links i d low =
    let first = map Device (range_with_len 0 devices) in
    let count : length first ≡ devices = length-map-range_with_len Device 0 devices in
    sym (get_or_append_left first (map Link (range_with_len 0 links)) d i (omega (arith, count, low)) ∙ get_or-map-range_with_len Device 0 devices i i d low (omega arith))

pub link_among : (devices links i : ℕ) (d : Entity) → devices ≤ i → i < devices + links → Link (i - devices) ≡ get_or (entities_among devices links) i d
link_among devices links i d high low =
    let first = map Device (range_with_len 0 devices) in
    let count : length first ≡ devices = length-map-range_with_len Device 0 devices in
    sym (get_or-append_right first (map Link (range_with_len 0 links)) devices i d count high ∙ get_or-map-range_with_len Link 0 links (i - devices) (i - devices) d (omega (arith, high, low)) (omega arith))

pub device_at : (g : Group) (i : ℕ) (d : Entity) → i < length g.devices → Device i ≡ get_or (entities_of g) i d
device_at g i d low = device_among (length g.devices) (length g.links) i d low

pub link_at : (g : Group) (i n : ℕ) (d : Entity) → n ≡ length g.devices → n ≤ i → i < length (entities_of g) → Link (i - n) ≡ get_or (entities_of g) i d
link_at g i n d is high low =
    let all = entities_count g in
    ap (λ (k : ℕ). Link (i - k)) is ∙ link_among (length g.devices) (length g.links) i d (omega (arith, is, high)) (omega (arith, all, low))

-- what stands at a place behind so many devices, whatever the links, stands there where the devices are these
pub stands_among : (some devices links n : ℕ) (e : Entity) → some ≡ devices → n < devices + links → ((more : ℕ) → n < some + more → e ≡ get_or (entities_among some more) n e) → e ≡ get_or (entities_among devices links) n e
stands_among some devices links n e is low stands = subst (λ (k : ℕ). e ≡ get_or (entities_among k links) n e) is (stands links (omega arith))

-- what is true of these devices and of these links is true of what stands at a place
pub among_at : (P : Entity → Type 0) (devices links n : ℕ) (e : Entity) → n < devices + links → e ≡ get_or (entities_among devices links) n e → ((i : ℕ) → i < devices → P (Device i)) → ((i : ℕ) → i < links → P (Link i)) → P e
among_at P devices links n e low is device link = elim (cases_lt n devices) [
  | inl before ↦ subst P (device_among devices links n e before ∙ sym is) (device n before)
  | inr behind ↦ subst P (link_among devices links n e behind low ∙ sym is) (link (n - devices) (omega arith))
]

-- what stands at a place is an entity of the group, and has this place
pub own_at : (g : Group) (n : ℕ) (e : Entity) → n < length (entities_of g) → e ≡ get_or (entities_of g) n e → IsEntityOf g e
own_at g n e low is =
    let all = entities_count g in
    among_at (IsEntityOf g) (length g.devices) (length g.links) n e (omega (arith, all)) is (λ i within. within) (λ i within. within)

pub place_at : (g : Group) (n : ℕ) (e : Entity) → n < length (entities_of g) → e ≡ get_or (entities_of g) n e → place_in g e ≡ n
place_at g n e low is = elim (cases_lt n (length g.devices)) [
  | inl device ↦ ap (place_in g) (is ∙ sym (device_at g n e device))
  | inr link ↦ (ap (place_in g) (is ∙ sym (link_at g n (length g.devices) e refl link low)) ∙ behind n (length g.devices) link)
]
  where
    behind : (n devices : ℕ) → devices ≤ n → devices + (n - devices) ≡ n
    behind n devices past = omega arith

-- each entity of the group stands at its place
pub at_place : (g : Group) (e : Entity) → IsEntityOf g e → get_or (entities_of g) (place_in g e) e ≡ e
at_place g (Device i) here = sym (device_at g i (Device i) here)
at_place g (Link i) here =
    let all = entities_count g in
    sym (link_at g (length g.devices + i) (length g.devices) (Link i) refl (omega arith) (omega (arith, all))) ∙ ap Link (behind (length g.devices) i)
  where
    behind : (n i : ℕ) → n + i - n ≡ i
    behind n i = omega arith

-- each is an entity of the group
range_low : (a n : ℕ) → All (λ i. i < a + n) (range_with_len a n)
range_low a zero = All-nil (λ i. i < a + zero)
range_low a (suc n) = All-cons (λ i. i < a + suc n) a (range_with_len (a + 1) n) (omega arith)
    (All-weaker (λ i. i < a + 1 + n) (λ i. i < a + suc n) (λ i low. omega arith) (range_with_len (a + 1) n) (range_low (a + 1) n))

pub entities_fit : (g : Group) → All (IsEntityOf g) (entities_of g)
entities_fit g =
    let devices = length g.devices in
    let links = length g.links in
    All-append (IsEntityOf g) (map Device (range_with_len 0 devices)) (map Link (range_with_len 0 links))
    (All-map (IsEntityOf g) Device (range_with_len 0 devices) (All-weaker (λ i. i < 0 + devices) (λ i. i < devices) (λ i low. omega arith) (range_with_len 0 devices) (range_low 0 devices)))
    (All-map (IsEntityOf g) Link (range_with_len 0 links) (All-weaker (λ i. i < 0 + links) (λ i. i < links) (λ i low. omega arith) (range_with_len 0 links) (range_low 0 links)))
