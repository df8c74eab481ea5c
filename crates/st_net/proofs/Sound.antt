-- Parts without a fault give a sound group.
use Rattle.std.proofs.Common.{◌≡◌, ◌≢◌, ℕ, zero, suc, ◌+◌, ◌<◌, ◌≤◌, List, [], ◌∷◌, ◌++◌, length, map, Bool, true, false, not, ◌&&◌, ◌||◌, ◌==◌, Option, Some, None, option_map, is_some, refl, sym, ◌∙◌, ap, subst, arith}
use Rattle.std.specs.Prelude.{if◌then◌else◌, bytes_eq, nat_le, slice_get, slice_index_or, unwrap_or}
use Rattle.std.proofs.lemmas.Bool.Decides.{nat_tests}
use Rattle.st_net.specs.declared.parts.Parts.{Parts}
use Rattle.st_net.specs.declared.parts.DevicePart.{DevicePart}
use Rattle.st_net.specs.declared.parts.LinkPart.{LinkPart}
use Rattle.st_net.specs.declared.parts.PromisePart.{PromisePart}
use Rattle.st_net.specs.declared.parts.Limit.{Limit}
use Rattle.st_net.specs.declared.parts.Limit.TheVariants.{Devices, Tors, Links, Promises, Capacity, Percent, Opening}
use Rattle.st_net.specs.declared.parts.TopoFault.{TopoFault}
use Rattle.st_net.specs.declared.parts.TopoFault.TheVariants.{TwiceName, UnknownName, LoopLink, CrossGroup, BadPair}
use Rattle.st_net.specs.declared.topo.DeviceOpening.{DeviceOpening}
use Rattle.st_net.specs.declared.topo.LinkOpening.{LinkOpening}
use Rattle.st_net.specs.declared.promise.Promise.{Promise}
use Rattle.st_net.specs.declared.topo.TheConstants.{MAX_DEVICES, MAX_LINKS, MAX_TORS, MAX_PROMISES, MAX_CAPACITY, MAX_PERCENT}
use Rattle.st_net.specs.declared.range.TheConstants.{DEVICE_HEALTH, LINK_HEALTH}
use Rattle.st_net.specs.Names.{place_of, is_among, is_name}
use Rattle.st_net.specs.Groups.{are_names, are_device_vals, are_link_vals, no_device, tor_count, IsDevice, IsLink, AreDevices, AreLinks, IsPromiseAmong, ArePromises, is_on_pair, is_promised, are_other_pairs, IsSound, plain_group}
use Rattle.std.proofs.lemmas.List.{length-map}
use Rattle.st_net.specs.Faults.{device_names, link_names, first_twice, first_link, first_promise, is_own, is_unknown_end, has_unknown_end, has_unknown_tor, is_loop, is_cross, device_limit, link_limit, promise_limit, limit_or, tors_with, first_device_limit, first_link_limit, first_promise_limit, is_tor, is_tor_name, is_on_names, was_promised, is_bad_pair, first_bad_pair, place_or, fault_or, promises_at, number_of, device_opening, link_opening, promise_opening, twice_of, unknown_of, loop_of, cross_of, limit_of, pair_of, fault_of, group_of}
use Rattle.st_net.proofs.NameSteps.{all_new}
use Rattle.st_net.proofs.PairSteps.{at_place, one_place, was_promised_last, or_none, or_assoc}
use Rattle.st_net.proofs.Tests.{at_most_is, both, more_is, neither}

-- nothing of two is nothing of each
pub fault_none : (a b : Option TopoFault) → fault_or a b ≡ None → (a ≡ None) × (b ≡ None)
fault_none None b is = (refl, is)
fault_none (Some f) b is = cc

pub place_none : (a b : Option ℕ) → place_or a b ≡ None → (a ≡ None) × (b ≡ None)
place_none None b is = (refl, is)
place_none (Some f) b is = cc

mapped_none : {A B : Type 0} (f : A → B) (o : Option A) → option_map f o ≡ None → o ≡ None
mapped_none f None is = refl
mapped_none f (Some x) is = cc

-- nothing of a part's limit and of what follows it
pub limit_none : (o : Option Limit) (place : ℕ) (later : Option TopoFault) → limit_or o place later ≡ None → (o ≡ None) × (later ≡ None)
limit_none None place later is = (refl, is)
limit_none (Some l) place later is = cc

found_none : (p : Bool) (at : ℕ) (rest : Option ℕ) → (if p then Some at else rest) ≡ None → (p ≡ false) × (rest ≡ None)
found_none true at rest is = cc
found_none false at rest is = (refl, is)

turned : (p : Bool) → not p ≡ false → p ≡ true
turned true is = refl
turned false is = cc

-- devices

record IsFineDevice (at tors : ℕ) (d : DevicePart) : Type 0 where
  few : at < MAX_DEVICES
  tors_fit : (d.tor && nat_le MAX_TORS tors) ≡ false
  opens : IsDevice (device_opening d)

device_choice : (p q r : Bool) → (if p then Some Devices else (if q then Some Tors else (if r then None else Some Opening))) ≡ None → (p ≡ false) × (q ≡ false) × (r ≡ true)
device_choice true q r is = cc
device_choice false true r is = cc
device_choice false false true is = (refl, refl, refl)
device_choice false false false is = cc

fine_device : (at tors : ℕ) (d : DevicePart) → device_limit at tors d ≡ None → IsFineDevice at tors d
fine_device at tors d is =
    let parts = device_choice (nat_le MAX_DEVICES at) (d.tor && nat_le MAX_TORS tors) (are_device_vals d.vals && nat_le d.health DEVICE_HEALTH) is in
    let opens = both (are_device_vals d.vals) (nat_le d.health DEVICE_HEALTH) parts.2 in
    record { few = more_is MAX_DEVICES at parts.0; tors_fit = parts.1; opens = record { vals = opens.0; health = at_most_is d.health DEVICE_HEALTH opens.1 } }

fine_devices : (at tors : ℕ) (ds : List DevicePart) → first_device_limit at tors ds ≡ None → AreDevices (map device_opening ds)
fine_devices at tors [] is = tt
fine_devices at tors (d ∷ ds) is =
    let parts = limit_none (device_limit at tors d) at (first_device_limit (at + 1) (tors_with tors d) ds) is in
    ((fine_device at tors d parts.0).opens, fine_devices (at + 1) (tors_with tors d) ds parts.1)

few_devices : (at tors : ℕ) (ds : List DevicePart) → at ≤ MAX_DEVICES → first_device_limit at tors ds ≡ None → at + length ds ≤ MAX_DEVICES
few_devices at tors [] low is = omega arith
few_devices at tors (d ∷ ds) low is =
    let parts = limit_none (device_limit at tors d) at (first_device_limit (at + 1) (tors_with tors d) ds) is in
    let fine = fine_device at tors d parts.0 in
    let rest = few_devices (at + 1) (tors_with tors d) ds (omega (arith, fine.few)) parts.1 in
    omega (arith, rest)

tors_step : (tors rest : ℕ) (b : Bool) → (b && nat_le MAX_TORS tors) ≡ false → tors ≤ MAX_TORS → ((if b then tors + 1 else tors) ≤ MAX_TORS → (if b then tors + 1 else tors) + rest ≤ MAX_TORS) → tors + ((if b then 1 else 0) + rest) ≤ MAX_TORS
tors_step tors rest true fit low later = let under = more_is MAX_TORS tors fit in let most = later (omega (arith, under)) in omega (arith, most)
tors_step tors rest false fit low later = let most = later low in omega (arith, most)

few_tors : (at tors : ℕ) (ds : List DevicePart) → tors ≤ MAX_TORS → first_device_limit at tors ds ≡ None → tors + tor_count (map device_opening ds) ≤ MAX_TORS
few_tors at tors [] low is = omega arith
few_tors at tors (d ∷ ds) low is =
    let parts = limit_none (device_limit at tors d) at (first_device_limit (at + 1) (tors_with tors d) ds) is in
    tors_step tors (tor_count (map device_opening ds)) d.tor (fine_device at tors d parts.0).tors_fit low (λ less. few_tors (at + 1) (tors_with tors d) ds less parts.1)

-- names that are known

known_some : (o : Option ℕ) → is_some o ≡ true → o ≡ Some (unwrap_or o 0)
known_some None is = cc
known_some (Some n) is = refl

known : (names : List (List ℕ)) (name : List ℕ) → is_among name names ≡ true → place_of name names ≡ Some (number_of names name)
known names name is = known_some (place_of name names) is

get_low : {X : Type 0} (xs : List X) (k : ℕ) (x : X) → slice_get xs k ≡ Some x → k < length xs
get_low [] k x is = cc
get_low (y ∷ xs) zero x is = omega arith
get_low (y ∷ xs) (suc k) x is = let low = get_low xs k x is in omega (arith, low)

known_low : (names : List (List ℕ)) (name : List ℕ) → is_among name names ≡ true → number_of names name < length names
known_low names name is = get_low names (number_of names name) name (at_place name names (number_of names name) (known names name is))

numbers_differ : (names : List (List ℕ)) (a b : List ℕ) → is_among a names ≡ true → is_among b names ≡ true → bytes_eq a b ≡ false → number_of names a ≢ number_of names b
numbers_differ names a b in_a in_b other same =
    let one = one_place a b names (number_of names a) (number_of names b) (known names a in_a) (known names b in_b) in
    let no_match : (number_of names a == number_of names b) ≡ false = sym one ∙ other in
    grind (arith, nat_tests)

-- links

own_known : (own among : Bool) → (own && not among) ≡ false → not own ≡ false → among ≡ true
own_known true among is own = turned among is
own_known false among is own = cc

not_loop : (own_a own_b same : Bool) → (own_a && own_b && same) ≡ false → not own_a ≡ false → not own_b ≡ false → same ≡ false
not_loop true true same is a b = is
not_loop true false same is a b = cc
not_loop false own_b same is a b = cc

link_choice : (p low high r : Bool) → (if p then Some Links else (if low && high then (if r then None else Some Opening) else Some Capacity)) ≡ None → (p ≡ false) × (low ≡ true) × (high ≡ true) × (r ≡ true)
link_choice true low high r is = cc
link_choice false true true true is = (refl, refl, refl, refl)
link_choice false true true false is = cc
link_choice false true false r is = cc
link_choice false false high r is = cc

fine_link : (group : List ℕ) (names : List (List ℕ)) (number : ℕ) (l : LinkPart) → has_unknown_end group names l ≡ false → is_loop group l ≡ false → is_cross group l ≡ false → link_limit number l ≡ None → (number < MAX_LINKS) × IsLink (length names) (link_opening names l)
fine_link group names number l unknown loops cross limit =
    let ends = neither (is_unknown_end group names l.a) (is_unknown_end group names l.b) unknown in
    let owns = neither (not (is_own group l.a)) (not (is_own group l.b)) cross in
    let in_a : is_among l.a.name names ≡ true = own_known (is_own group l.a) (is_among l.a.name names) ends.0 owns.0 in
    let in_b : is_among l.b.name names ≡ true = own_known (is_own group l.b) (is_among l.b.name names) ends.1 owns.1 in
    let other : bytes_eq l.a.name l.b.name ≡ false = not_loop (is_own group l.a) (is_own group l.b) (bytes_eq l.a.name l.b.name) loops owns.0 owns.1 in
    let fits = link_choice (nat_le MAX_LINKS number) (nat_le 1 l.capacity) (nat_le l.capacity MAX_CAPACITY) (are_link_vals l.vals && nat_le l.health LINK_HEALTH) limit in
    let opens = both (are_link_vals l.vals) (nat_le l.health LINK_HEALTH) fits.3 in (
      more_is MAX_LINKS number fits.0,
      record {
        a_in = known_low names l.a.name in_a;
        b_in = known_low names l.b.name in_b;
        apart = numbers_differ names l.a.name l.b.name in_a in_b other;
        carries = at_most_is 1 l.capacity fits.1;
        bounded = at_most_is l.capacity MAX_CAPACITY fits.2;
        vals = opens.0;
        health = at_most_is l.health LINK_HEALTH opens.1;
      },
    )

fine_links : (group : List ℕ) (names : List (List ℕ)) (at before number : ℕ) (ls : List LinkPart) → number ≤ MAX_LINKS → first_link (has_unknown_end group names) at ls ≡ None → first_link (is_loop group) at ls ≡ None → first_link (is_cross group) at ls ≡ None → first_link_limit before number ls ≡ None → (number + length ls ≤ MAX_LINKS) × AreLinks (length names) (map (link_opening names) ls)
fine_links group names at before number [] low unknown loops cross limit = (omega arith, tt)
fine_links group names at before number (l ∷ ls) low unknown loops cross limit =
    let u = found_none (has_unknown_end group names l) at (first_link (has_unknown_end group names) (at + 1) ls) unknown in
    let o = found_none (is_loop group l) at (first_link (is_loop group) (at + 1) ls) loops in
    let c = found_none (is_cross group l) at (first_link (is_cross group) (at + 1) ls) cross in
    let m = limit_none (link_limit number l) (before + number) (first_link_limit before (number + 1) ls) limit in
    let fine = fine_link group names number l u.0 o.0 c.0 m.0 in
    let rest = fine_links group names (at + 1) before (number + 1) ls (omega (arith, fine.0)) u.1 o.1 c.1 m.1 in
    (omega (arith, rest.0), (fine.1, rest.1))

-- promises

tor_at : (devices : List DevicePart) (k : ℕ) → is_tor (slice_get devices k) ≡ true → (slice_index_or (map device_opening devices) k no_device).tor ≡ true
tor_at [] k is = cc
tor_at (d ∷ ds) zero is = is
tor_at (d ∷ ds) (suc k) is = tor_at ds k is

tor_named : (devices : List DevicePart) (name : List ℕ) → is_among name (device_names devices) ≡ true → is_tor_name devices name ≡ true → (slice_index_or (map device_opening devices) (number_of (device_names devices) name) no_device).tor ≡ true
tor_named devices name in_names is =
    let there = known (device_names devices) name in_names in
    tor_at devices (number_of (device_names devices) name) (subst (λ (o : Option ℕ). is_tor (slice_get devices (unwrap_or o (length devices))) ≡ true) there is)

not_bad : (s t same was : Bool) → (not s || not t || same || was) ≡ false → (s ≡ true) × (t ≡ true) × (same ≡ false) × (was ≡ false)
not_bad true true false false is = (refl, refl, refl, refl)
not_bad true true false true is = cc
not_bad true true true was is = cc
not_bad true false same was is = cc
not_bad false t same was is = cc

promise_choice : (p q : Bool) → (if p then Some Promises else (if q then None else Some Percent)) ≡ None → (p ≡ false) × (q ≡ true)
promise_choice true q is = cc
promise_choice false true is = (refl, refl)
promise_choice false false is = cc

is_promised_last : (i j : ℕ) (ps : List Promise) (p : Promise) → is_promised i j (ps ++ p ∷ []) ≡ (is_promised i j ps || is_on_pair i j p)
is_promised_last i j [] p = or_none (is_on_pair i j p)
is_promised_last i j (q ∷ ps) p = rw (is_promised_last i j ps p) (or_assoc (is_on_pair i j q) (is_promised i j ps) (is_on_pair i j p))

-- the promises that were made tell of any two names whether they were promised
abbrev TellMade : List (List ℕ) → List PromisePart → List Promise → Type 0
TellMade names before made = (a b : List ℕ) (i j : ℕ) → place_of a names ≡ Some i → place_of b names ≡ Some j → was_promised a b before ≡ is_promised i j made

on_pair : (names : List (List ℕ)) (p : PromisePart) (a b : List ℕ) (i j : ℕ) → is_among p.a names ≡ true → is_among p.b names ≡ true → place_of a names ≡ Some i → place_of b names ≡ Some j → is_on_names a b p ≡ is_on_pair i j (promise_opening names p)
on_pair names p a b i j in_a in_b is_a is_b =
    let at_a = known names p.a in_a in
    let at_b = known names p.b in_b in
    rw (one_place p.a a names (number_of names p.a) i at_a is_a, one_place p.b b names (number_of names p.b) j at_b is_b, one_place p.a b names (number_of names p.a) j at_a is_b, one_place p.b a names (number_of names p.b) i at_b is_a) refl

tell_made : (names : List (List ℕ)) (before : List PromisePart) (made : List Promise) (p : PromisePart) → is_among p.a names ≡ true → is_among p.b names ≡ true → TellMade names before made → TellMade names (before ++ p ∷ []) (made ++ promise_opening names p ∷ [])
tell_made names before made p in_a in_b tell a b i j is_a is_b =
    rw (was_promised_last a b before p, tell a b i j is_a is_b, on_pair names p a b i j in_a in_b is_a is_b, is_promised_last i j made (promise_opening names p)) refl

-- the ends of a promise, which are known
record HasKnownEnds (names : List (List ℕ)) (p : PromisePart) : Type 0 where
  a : is_among p.a names ≡ true
  b : is_among p.b names ≡ true

known_ends : (names : List (List ℕ)) (p : PromisePart) → has_unknown_tor names p ≡ false → HasKnownEnds names p
known_ends names p is =
    let ends = neither (not (is_among p.a names)) (not (is_among p.b names)) is in
    record { a = turned (is_among p.a names) ends.0; b = turned (is_among p.b names) ends.1 }

many_devices : (devices : List DevicePart) → length (device_names devices) ≡ length (map device_opening devices)
many_devices [] = refl
many_devices (d ∷ ds) = ap suc (many_devices ds)

fine_promise : (devices : List DevicePart) (number : ℕ) (p : PromisePart) → HasKnownEnds (device_names devices) p → is_tor_name devices p.a ≡ true → is_tor_name devices p.b ≡ true → bytes_eq p.a p.b ≡ false → promise_limit number p ≡ None → (number < MAX_PROMISES) × IsPromiseAmong (map device_opening devices) (promise_opening (device_names devices) p)
fine_promise devices number p ends tor_a tor_b other limit =
    let fits = promise_choice (nat_le MAX_PROMISES number) (nat_le p.percent MAX_PERCENT) limit in
    let many = many_devices devices in
    let low_a = known_low (device_names devices) p.a ends.a in
    let low_b = known_low (device_names devices) p.b ends.b in (
      more_is MAX_PROMISES number fits.0,
      record {
        a_in = omega (arith, many, low_a);
        b_in = omega (arith, many, low_b);
        apart = numbers_differ (device_names devices) p.a p.b ends.a ends.b other;
        a_tor = tor_named devices p.a ends.a tor_a;
        b_tor = tor_named devices p.b ends.b tor_b;
        share = at_most_is p.percent MAX_PERCENT fits.1;
      },
    )

record AreFine (devices : List DevicePart) (made : List Promise) (number : ℕ) (ps : List PromisePart) : Type 0 where
  few : number + length ps ≤ MAX_PROMISES
  are : ArePromises (map device_opening devices) (map (promise_opening (device_names devices)) ps)
  pairs : are_other_pairs made (map (promise_opening (device_names devices)) ps) ≡ true

fine_promises : (devices : List DevicePart) (before : List PromisePart) (made : List Promise) (at start number : ℕ) (ps : List PromisePart) → number ≤ MAX_PROMISES → TellMade (device_names devices) before made → first_promise (has_unknown_tor (device_names devices)) at ps ≡ None → first_bad_pair devices before at ps ≡ None → first_promise_limit start number ps ≡ None → AreFine devices made number ps
fine_promises devices before made at start number [] low tell unknown bad limit = record { few = omega arith; are = tt; pairs = refl }
fine_promises devices before made at start number (p ∷ ps) low tell unknown bad limit =
    let u = found_none (has_unknown_tor (device_names devices) p) at (first_promise (has_unknown_tor (device_names devices)) (at + 1) ps) unknown in
    let b = found_none (is_bad_pair devices before p) at (first_bad_pair devices (before ++ p ∷ []) (at + 1) ps) bad in
    let m = limit_none (promise_limit number p) (start + number) (first_promise_limit start (number + 1) ps) limit in
    let ends = known_ends (device_names devices) p u.0 in
    let good = not_bad (is_tor_name devices p.a) (is_tor_name devices p.b) (bytes_eq p.a p.b) (was_promised p.a p.b before) b.0 in
    let fine = fine_promise devices number p ends good.0 good.1 good.2 m.0 in
    let rest = fine_promises devices (before ++ p ∷ []) (made ++ promise_opening (device_names devices) p ∷ []) (at + 1) start (number + 1) ps (omega (arith, fine.0)) (tell_made (device_names devices) before made p ends.a ends.b tell) u.1 b.1 m.1 in
    let new : is_promised (number_of (device_names devices) p.a) (number_of (device_names devices) p.b) made ≡ false = sym (tell p.a p.b (number_of (device_names devices) p.a) (number_of (device_names devices) p.b) (known (device_names devices) p.a ends.a) (known (device_names devices) p.b ends.b)) ∙ good.3 in
    record { few = omega (arith, rest.few); are = (fine.1, rest.are); pairs = rw new rest.pairs }

-- nothing of each fault
pub record IsFaultless (parts : Parts) : Type 0 where
  pub twice : first_twice [] 0 (device_names parts.devices ++ link_names parts.links) ≡ None
  pub unknown_link : first_link (has_unknown_end parts.name (device_names parts.devices)) (length parts.devices) parts.links ≡ None
  pub unknown_tor : first_promise (has_unknown_tor (device_names parts.devices)) (promises_at parts) parts.promises ≡ None
  pub loops : first_link (is_loop parts.name) (length parts.devices) parts.links ≡ None
  pub cross : first_link (is_cross parts.name) (length parts.devices) parts.links ≡ None
  pub device_limits : first_device_limit 0 0 parts.devices ≡ None
  pub link_limits : first_link_limit (length parts.devices) 0 parts.links ≡ None
  pub promise_limits : first_promise_limit (promises_at parts) 0 parts.promises ≡ None
  pub bad : first_bad_pair parts.devices [] (promises_at parts) parts.promises ≡ None

pub faultless : (parts : Parts) → fault_of parts ≡ None → IsFaultless parts
faultless parts is =
    let one = fault_none (twice_of parts) (fault_or (unknown_of parts) (fault_or (loop_of parts) (fault_or (cross_of parts) (fault_or (limit_of parts) (pair_of parts))))) is in
    let two = fault_none (unknown_of parts) (fault_or (loop_of parts) (fault_or (cross_of parts) (fault_or (limit_of parts) (pair_of parts)))) one.1 in
    let three = fault_none (loop_of parts) (fault_or (cross_of parts) (fault_or (limit_of parts) (pair_of parts))) two.1 in
    let four = fault_none (cross_of parts) (fault_or (limit_of parts) (pair_of parts)) three.1 in
    let five = fault_none (limit_of parts) (pair_of parts) four.1 in
    let limits = fault_none (first_device_limit 0 0 parts.devices) (fault_or (first_link_limit (length parts.devices) 0 parts.links) (first_promise_limit (promises_at parts) 0 parts.promises)) five.0 in
    let others = fault_none (first_link_limit (length parts.devices) 0 parts.links) (first_promise_limit (promises_at parts) 0 parts.promises) limits.1 in
    let names = place_none (first_link (has_unknown_end parts.name (device_names parts.devices)) (length parts.devices) parts.links) (first_promise (has_unknown_tor (device_names parts.devices)) (promises_at parts) parts.promises) (mapped_none UnknownName _ two.0) in
    record {
      twice = mapped_none TwiceName _ one.0;
      unknown_link = names.0;
      unknown_tor = names.1;
      loops = mapped_none LoopLink _ three.0;
      cross = mapped_none CrossGroup _ four.0;
      device_limits = limits.0;
      link_limits = others.0;
      promise_limits = others.1;
      bad = mapped_none BadPair _ five.1;
    }

many_links : (names : List (List ℕ)) (links : List LinkPart) → length (link_names links) ≡ length (map (link_opening names) links)
many_links names [] = refl
many_links names (l ∷ ls) = ap suc (many_links names ls)

-- parts without a fault, whose names are names, give a sound group
pub sound : (parts : Parts) → is_name parts.name ≡ true → are_names (device_names parts.devices ++ link_names parts.links) ≡ true → fault_of parts ≡ None → IsSound (group_of parts)
sound parts name names right =
    let free = faultless parts right in
    let few = few_devices 0 0 parts.devices (omega arith) free.device_limits in
    let tors = few_tors 0 0 parts.devices (omega arith) free.device_limits in
    let links = fine_links parts.name (device_names parts.devices) (length parts.devices) (length parts.devices) 0 parts.links (omega arith) free.unknown_link free.loops free.cross free.link_limits in
    let promises = fine_promises parts.devices [] [] (promises_at parts) (promises_at parts) 0 parts.promises (omega arith) (λ a b i j at_a at_b. refl) free.unknown_tor free.bad free.promise_limits in
    let named_devices = many_devices parts.devices in
    let named_links = many_links (device_names parts.devices) parts.links in
    let all_devices = length-map parts.devices device_opening in
    let all_links = length-map parts.links (link_opening (device_names parts.devices)) in
    let all_promises = length-map parts.promises (promise_opening (device_names parts.devices)) in
    record {
      name = name;
      device_names = named_devices;
      link_names = named_links;
      names = names;
      new = all_new [] 0 (device_names parts.devices ++ link_names parts.links) free.twice;
      few_devices = omega (arith, few, all_devices);
      few_tors = omega (arith, tors);
      few_links = omega (arith, links.0, all_links);
      few_promises = omega (arith, promises.few, all_promises);
      devices = fine_devices 0 0 parts.devices free.device_limits;
      links = subst (λ (n : ℕ). AreLinks n (map (link_opening (device_names parts.devices)) parts.links)) named_devices links.1;
      promises = promises.are;
      pairs = promises.pairs;
    }

-- so what is made of them, field by field, is sound
pub sound_made : (parts : Parts) (name : List ℕ) (names more : List (List ℕ)) (devices : List DeviceOpening) (links : List LinkOpening) (promises : List Promise) → name ≡ parts.name → names ≡ device_names parts.devices → more ≡ link_names parts.links → devices ≡ map device_opening parts.devices → links ≡ map (link_opening names) parts.links → promises ≡ map (promise_opening names) parts.promises → is_name parts.name ≡ true → are_names (names ++ more) ≡ true → fault_of parts ≡ None → IsSound (plain_group name names more devices links promises)
sound_made parts name names more devices links promises n a b d l p spelled named right =
    let all : are_names (device_names parts.devices ++ link_names parts.links) ≡ true = rw (a, b) at named in
    rw (l, p, n, a, b, d) (sound parts spelled all right)
