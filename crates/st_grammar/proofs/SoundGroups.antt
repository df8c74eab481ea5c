-- What every group that lines declare keeps, and that such a group can be built.
use Rattle.std.proofs.Common.{◌≡◌, ℕ, ◌+◌, ◌<◌, ◌≤◌, List, [], ◌∷◌, ◌++◌, length, ap, refl, arith}
use Rattle.std.specs.Prelude.{Bool, true, false, not, ◌&&◌, nat_le, Option, Some, None, is_some, unwrap_or, slice_get, bytes_eq}
use Rattle.std.specs.List.{AllByRecursion}
use Rattle.std.proofs.lemmas.Bool.Decides.{nat_tests}
use Rattle.st_net.proofs.Tests.{both, turned}
use Rattle.st_net.specs.declared.parts.DevicePart.{DevicePart}
use Rattle.st_net.specs.declared.parts.LinkPart.{LinkPart}
use Rattle.st_net.specs.declared.parts.PromisePart.{PromisePart}
use Rattle.st_net.specs.declared.parts.TopoFault.{TopoFault}
use Rattle.st_net.specs.declared.topo.TheConstants.{MAX_DEVICES, MAX_TORS, MAX_LINKS, MAX_PROMISES, MAX_CAPACITY, MAX_PERCENT}
use Rattle.st_net.specs.declared.range.TheConstants.{DEVICE_HEALTH, LINK_HEALTH}
use Rattle.st_net.specs.Names.{place_of, is_among, is_name}
use Rattle.st_net.specs.Groups.{are_new, are_names, are_device_vals, are_link_vals}
use Rattle.st_net.specs.Faults.{device_names, link_names, first_twice, first_link, first_promise, has_unknown_end, has_unknown_tor, is_loop, is_cross, device_limit, limit_or, tors_with, first_device_limit, first_link_limit, first_promise_limit, is_tor, is_tor_name, was_promised, first_bad_pair, fault_of}
use Rattle.st_grammar.specs.declared.limits.TheConstants.{MAX_WIRE_LINES}
use Rattle.st_grammar.specs.Draft.{GroupDraft, tors, parts_of}
use Rattle.st_grammar.specs.Sound.{IsSoundWire}

pub record IsSoundDevice (d : DevicePart) : Type 0 where
  pub vals : are_device_vals d.vals ≡ true
  pub health : nat_le d.health DEVICE_HEALTH ≡ true

pub record IsSoundLink (names : List (List ℕ)) (l : LinkPart) : Type 0 where
  pub a_own : l.a.group ≡ None
  pub b_own : l.b.group ≡ None
  pub a_known : is_among l.a.name names ≡ true
  pub b_known : is_among l.b.name names ≡ true
  pub apart : bytes_eq l.a.name l.b.name ≡ false
  pub capacity : (nat_le 1 l.capacity && nat_le l.capacity MAX_CAPACITY) ≡ true
  pub vals : are_link_vals l.vals ≡ true
  pub health : nat_le l.health LINK_HEALTH ≡ true

pub record IsSoundPromise (devices : List DevicePart) (p : PromisePart) : Type 0 where
  pub a_tor : is_tor_name devices p.a ≡ true
  pub b_tor : is_tor_name devices p.b ≡ true
  pub apart : bytes_eq p.a p.b ≡ false
  pub share : nat_le p.percent MAX_PERCENT ≡ true

-- no pair is promised that was promised before
abbrev pub AreOtherPairs : List PromisePart → List PromisePart → Type 0
AreOtherPairs before [] = Unit {0}
AreOtherPairs before (p ∷ ps) = (was_promised p.a p.b before ≡ false) × AreOtherPairs (before ++ p ∷ []) ps

pub record IsSoundDraftGroup (g : GroupDraft) : Type 0 where
  pub spelled : is_name g.name ≡ true
  pub spelled_devices : are_names (device_names g.devices) ≡ true
  pub spelled_links : are_names (link_names g.links) ≡ true
  pub named : are_new [] (device_names g.devices ++ link_names g.links) ≡ true
  pub few_devices : length g.devices ≤ MAX_DEVICES
  pub few_tors : length (tors g.devices) ≤ MAX_TORS
  pub few_links : length g.links ≤ MAX_LINKS
  pub few_promises : length g.promises ≤ MAX_PROMISES
  pub devices : AllByRecursion IsSoundDevice g.devices
  pub links : AllByRecursion (IsSoundLink (device_names g.devices)) g.links
  pub promises : AllByRecursion (IsSoundPromise g.devices) g.promises
  pub pairs : AreOtherPairs [] g.promises
  pub few_wires : length g.wires ≤ MAX_WIRE_LINES
  pub wires : AllByRecursion IsSoundWire g.wires

-- facts of each item, from others
pub each : {X : Type 0} (P Q : X → Type 0) → ((x : X) → P x → Q x) → (xs : List X) → AllByRecursion P xs → AllByRecursion Q xs
each P Q f [] all = tt
each P Q f (x ∷ xs) all = (f x all.0, each P Q f xs all.1)

over : (m n : ℕ) → n < m → nat_le m n ≡ false
over m n less = grind (arith, nat_tests)

not_twice : (before : List (List ℕ)) (at : ℕ) (names : List (List ℕ)) → are_new before names ≡ true → first_twice before at names ≡ None
not_twice before at [] new = refl
not_twice before at (n ∷ ns) new =
    let parts : (not (is_among n before) ≡ true) × (are_new (before ++ n ∷ []) ns ≡ true) = both (not (is_among n before)) (are_new (before ++ n ∷ []) ns) new in
    rw (turned (is_among n before) parts.0) (not_twice (before ++ n ∷ []) (at + 1) ns parts.1)

no_link : (test : LinkPart → Bool) (at : ℕ) (ls : List LinkPart) → AllByRecursion (λ l. test l ≡ false) ls → first_link test at ls ≡ None
no_link test at [] all = refl
no_link test at (l ∷ ls) all = rw all.0 (no_link test (at + 1) ls all.1)

no_promise : (test : PromisePart → Bool) (at : ℕ) (ps : List PromisePart) → AllByRecursion (λ p. test p ≡ false) ps → first_promise test at ps ≡ None
no_promise test at [] all = refl
no_promise test at (p ∷ ps) all = rw all.0 (no_promise test (at + 1) ps all.1)

-- the device of a name that is a ToR is one of the devices
none_at_end : (ds : List DevicePart) → slice_get ds (length ds) ≡ None
none_at_end [] = refl
none_at_end (d ∷ ds) = none_at_end ds

tor_placed : (ds : List DevicePart) (o : Option ℕ) → is_tor (slice_get ds (unwrap_or o (length ds))) ≡ true → is_some o ≡ true
tor_placed ds None t = absurd (let none : is_tor (slice_get ds (length ds)) ≡ false = ap is_tor (none_at_end ds) in cc)
tor_placed ds (Some k) t = refl

pub tor_known : (ds : List DevicePart) (name : List ℕ) → is_tor_name ds name ≡ true → is_among name (device_names ds) ≡ true
tor_known ds name t = tor_placed ds (place_of name (device_names ds)) t

device_step : (d : DevicePart) (at t : ℕ) (rest : Option TopoFault) (b : Bool) → d.tor ≡ b → nat_le MAX_DEVICES at ≡ false → (b && nat_le MAX_TORS t) ≡ false → IsSoundDevice d → rest ≡ None → limit_or (device_limit at t d) at rest ≡ None
device_step d at t rest b e few full sound none = rw (e, few, full, sound.vals, sound.health) none

-- what is known of the devices behind one
abbrev AreFew : List DevicePart → Type 0
AreFew ds = (at t : ℕ) → at + length ds ≤ MAX_DEVICES → t + length (tors ds) ≤ MAX_TORS → first_device_limit at t ds ≡ None

few_with : (d : DevicePart) (ds : List DevicePart) (b : Bool) → d.tor ≡ b → IsSoundDevice d → AreFew ds → AreFew (d ∷ ds)
few_with d ds true e sound rest at t few full =
    let more : t + length (tors (d ∷ ds)) ≡ (t + 1) + length (tors ds) = rw e (omega arith) in
    let after : tors_with t d ≡ t + 1 = rw e refl in
    device_step d at t (first_device_limit (at + 1) (tors_with t d) ds) true e (over MAX_DEVICES at (omega arith)) (over MAX_TORS t (omega arith)) sound
    (rw after (rest (at + 1) (t + 1) (omega arith) (omega arith)))
few_with d ds false e sound rest at t few full =
    let more : t + length (tors (d ∷ ds)) ≡ t + length (tors ds) = rw e refl in
    let after : tors_with t d ≡ t = rw e refl in
    device_step d at t (first_device_limit (at + 1) (tors_with t d) ds) false e (over MAX_DEVICES at (omega arith)) refl sound
    (rw after (rest (at + 1) t (omega arith) (omega arith)))

few_devices : (ds : List DevicePart) → AllByRecursion IsSoundDevice ds → AreFew ds
few_devices [] all = λ at t few full. refl
few_devices (d ∷ ds) all = few_with d ds d.tor refl all.0 (few_devices ds all.1)

few_links : (names : List (List ℕ)) (ls : List LinkPart) (before number : ℕ) → number + length ls ≤ MAX_LINKS → AllByRecursion (IsSoundLink names) ls → first_link_limit before number ls ≡ None
few_links names [] before number few all = refl
few_links names (l ∷ ls) before number few all =
    rw (over MAX_LINKS number (omega arith), all.0.capacity, all.0.vals, all.0.health) (few_links names ls before (number + 1) (omega arith) all.1)

few_promises : (devices : List DevicePart) (ps : List PromisePart) (before number : ℕ) → number + length ps ≤ MAX_PROMISES → AllByRecursion (IsSoundPromise devices) ps → first_promise_limit before number ps ≡ None
few_promises devices [] before number few all = refl
few_promises devices (p ∷ ps) before number few all =
    rw (over MAX_PROMISES number (omega arith), all.0.share) (few_promises devices ps before (number + 1) (omega arith) all.1)

good_pairs : (devices : List DevicePart) (ps before : List PromisePart) (at : ℕ) → AllByRecursion (IsSoundPromise devices) ps → AreOtherPairs before ps → first_bad_pair devices before at ps ≡ None
good_pairs devices [] before at all other = refl
good_pairs devices (p ∷ ps) before at all other =
    rw (all.0.a_tor, all.0.b_tor, all.0.apart, other.0) (good_pairs devices ps (before ++ p ∷ []) (at + 1) all.1 other.1)

known_ends : (group : List ℕ) (names : List (List ℕ)) (l : LinkPart) → IsSoundLink names l → has_unknown_end group names l ≡ false
known_ends group names l s = rw (s.a_own, s.b_own, s.a_known, s.b_known) refl

no_loop : (group : List ℕ) (names : List (List ℕ)) (l : LinkPart) → IsSoundLink names l → is_loop group l ≡ false
no_loop group names l s = rw (s.a_own, s.b_own, s.apart) refl

no_cross : (group : List ℕ) (names : List (List ℕ)) (l : LinkPart) → IsSoundLink names l → is_cross group l ≡ false
no_cross group names l s = rw (s.a_own, s.b_own) refl

known_tors : (devices : List DevicePart) (p : PromisePart) → IsSoundPromise devices p → has_unknown_tor (device_names devices) p ≡ false
known_tors devices p s = rw (tor_known devices p.a s.a_tor, tor_known devices p.b s.b_tor) refl

-- a group that is sound can be built
pub can_be_built : (g : GroupDraft) → IsSoundDraftGroup g → fault_of (parts_of g) ≡ None
can_be_built g s =
    rw (
      not_twice [] 0 (device_names g.devices ++ link_names g.links) s.named,
      no_link (has_unknown_end g.name (device_names g.devices)) (length g.devices) g.links (each (IsSoundLink (device_names g.devices)) (λ l. has_unknown_end g.name (device_names g.devices) l ≡ false) (known_ends g.name (device_names g.devices)) g.links s.links),
      no_promise (has_unknown_tor (device_names g.devices)) (length g.devices + length g.links) g.promises (each (IsSoundPromise g.devices) (λ p. has_unknown_tor (device_names g.devices) p ≡ false) (known_tors g.devices) g.promises s.promises),
      no_link (is_loop g.name) (length g.devices) g.links (each (IsSoundLink (device_names g.devices)) (λ l. is_loop g.name l ≡ false) (no_loop g.name (device_names g.devices)) g.links s.links),
      no_link (is_cross g.name) (length g.devices) g.links (each (IsSoundLink (device_names g.devices)) (λ l. is_cross g.name l ≡ false) (no_cross g.name (device_names g.devices)) g.links s.links),
      few_devices g.devices s.devices 0 0 (omega (arith, s.few_devices)) (omega (arith, s.few_tors)),
      few_links (device_names g.devices) g.links (length g.devices) 0 (omega (arith, s.few_links)) s.links,
      few_promises g.devices g.promises (length g.devices + length g.links) 0 (omega (arith, s.few_promises)) s.promises,
      good_pairs g.devices g.promises [] (length g.devices + length g.links) s.promises s.pairs,
    ) refl
