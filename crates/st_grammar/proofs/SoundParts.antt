-- What a group's parts keep where the group is sound, part by part.
use Rattle.std.proofs.Common.{◌≡◌, ℕ, suc, ◌+◌, ◌<◌, ◌≤◌, List, [], ◌∷◌, ◌++◌, length, refl, arith}
use Rattle.std.specs.Prelude.{Bool, true, false, not, cond, if◌then◌else◌, ◌&&◌, ◌||◌, nat_le, Option, Some, None, bytes_eq}
use Rattle.std.specs.List.{AllByRecursion}
use Rattle.std.proofs.lemmas.List.Elements.{recursion_from_All}
use Rattle.std.proofs.lemmas.Bool.Decides.{nat_tests}
use Rattle.st_net.proofs.Tests.{both, neither}
use Rattle.st_net.proofs.Sound.{faultless, limit_none}
use Rattle.st_net.proofs.NameSteps.{all_new}
use Rattle.st_net.specs.declared.entity.Row.{Row}
use Rattle.st_net.specs.declared.parts.Parts.{Parts}
use Rattle.st_net.specs.declared.parts.DevicePart.{DevicePart}
use Rattle.st_net.specs.declared.parts.LinkPart.{LinkPart}
use Rattle.st_net.specs.declared.parts.PromisePart.{PromisePart}
use Rattle.st_net.specs.declared.parts.Limit.TheVariants.{Devices, Tors, Links, Promises, Capacity, Percent, Opening}
use Rattle.st_net.specs.declared.topo.TheConstants.{MAX_DEVICES, MAX_TORS, MAX_LINKS, MAX_PROMISES, MAX_CAPACITY, MAX_PERCENT}
use Rattle.st_net.specs.declared.range.TheConstants.{DEVICE_HEALTH, LINK_HEALTH}
use Rattle.st_net.specs.Names.{is_among}
use Rattle.st_net.specs.Groups.{are_device_vals, are_link_vals}
use Rattle.st_net.specs.Faults.{device_names, link_names, first_link, first_promise, has_unknown_end, is_loop, device_limit, link_limit, promise_limit, tors_with, first_device_limit, first_link_limit, first_promise_limit, is_tor_name, is_bad_pair, was_promised, first_bad_pair, promises_at}
use Rattle.st_grammar.specs.Draft.{GroupDraft, empty_group, tors}
use Rattle.st_grammar.specs.Sound.{HasOwnEnds, IsSoundGroup}
use Rattle.st_grammar.proofs.SoundGroups.{IsSoundDevice, IsSoundLink, IsSoundPromise, AreOtherPairs, IsSoundDraftGroup}

-- what lines of a group's section note beside its parts: the rows that are set, and the devices and the links whose health is given
pub record Noted : Type 0 where
  pub opens : List Row
  pub devices : List ℕ
  pub links : List ℕ

abbrev pub nothing_noted : Noted
nothing_noted = record { opens = []; devices = []; links = [] }

-- a group of parts that is being declared
abbrev pub group_with : List ℕ → List DevicePart → List LinkPart → List PromisePart → Noted → GroupDraft
group_with name devices links promises noted = record (empty_group name) {
  devices = devices;
  links = links;
  promises = promises;
  opens = noted.opens;
  told_devices = noted.devices;
  told_links = noted.links;
}

abbrev pub drafted : Parts → GroupDraft
drafted p = group_with p.name p.devices p.links p.promises nothing_noted

-- what is no fault was not found
found_none : (p : Bool) (at : ℕ) (rest : Option ℕ) → cond p (Some at) rest ≡ None → (p ≡ false) × (rest ≡ None)
found_none true at rest is = absurd (cc)
found_none false at rest is = (refl, is)

each_link : (test : LinkPart → Bool) (at : ℕ) (ls : List LinkPart) → first_link test at ls ≡ None → AllByRecursion (λ l. test l ≡ false) ls
each_link test at [] is = tt
each_link test at (l ∷ ls) is = let parts = found_none (test l) at (first_link test (at + 1) ls) is in (parts.0, each_link test (at + 1) ls parts.1)

each_promise : (test : PromisePart → Bool) (at : ℕ) (ps : List PromisePart) → first_promise test at ps ≡ None → AllByRecursion (λ p. test p ≡ false) ps
each_promise test at [] is = tt
each_promise test at (p ∷ ps) is = let parts = found_none (test p) at (first_promise test (at + 1) ps) is in (parts.0, each_promise test (at + 1) ps parts.1)

was_true : (b : Bool) → not b ≡ false → b ≡ true
was_true true e = refl
was_true false e = absurd (cc)

each_pair : (devices : List DevicePart) (before : List PromisePart) (at : ℕ) (ps : List PromisePart) → first_bad_pair devices before at ps ≡ None → AllByRecursion (λ p. (is_tor_name devices p.a ≡ true) × (is_tor_name devices p.b ≡ true) × (bytes_eq p.a p.b ≡ false)) ps × AreOtherPairs before ps
each_pair devices before at [] is = (tt, tt)
each_pair devices before at (p ∷ ps) is =
    let parts = found_none (is_bad_pair devices before p) at (first_bad_pair devices (before ++ p ∷ []) (at + 1) ps) is in
    let last = neither (not (is_tor_name devices p.a) || not (is_tor_name devices p.b) || bytes_eq p.a p.b) (was_promised p.a p.b before) parts.0 in
    let third = neither (not (is_tor_name devices p.a) || not (is_tor_name devices p.b)) (bytes_eq p.a p.b) last.0 in
    let two = neither (not (is_tor_name devices p.a)) (not (is_tor_name devices p.b)) third.0 in
    let rest = each_pair devices (before ++ p ∷ []) (at + 1) ps parts.1 in
    (((was_true (is_tor_name devices p.a) two.0, was_true (is_tor_name devices p.b) two.1, third.1), rest.0), (last.1, rest.1))

under : (m n : ℕ) → nat_le m n ≡ false → n < m
under m n e = grind (arith, nat_tests)

-- limits
device_choice : (p q r : Bool) → cond p (Some Devices) (cond q (Some Tors) (cond r None (Some Opening))) ≡ None → (p ≡ false) × (q ≡ false) × (r ≡ true)
device_choice true q r is = absurd (cc)
device_choice false true r is = absurd (cc)
device_choice false false true is = (refl, refl, refl)
device_choice false false false is = absurd (cc)

tors_step : (t rest : ℕ) (ds : List DevicePart) (d : DevicePart) (b : Bool) → d.tor ≡ b → (b && nat_le MAX_TORS t) ≡ false → ((if b then t + 1 else t) ≤ MAX_TORS → (if b then t + 1 else t) + length (tors ds) ≤ MAX_TORS) → t ≤ MAX_TORS → t + length (tors (d ∷ ds)) ≤ MAX_TORS
tors_step t rest ds d true e full later low =
    let more : length (tors (d ∷ ds)) ≡ suc (length (tors ds)) = rw e refl in
    let less : t < MAX_TORS = under MAX_TORS t full in
    let most : t + 1 + length (tors ds) ≤ MAX_TORS = later (omega arith) in
    omega arith
tors_step t rest ds d false e full later low =
    let more : length (tors (d ∷ ds)) ≡ length (tors ds) = rw e refl in
    let most : t + length (tors ds) ≤ MAX_TORS = later low in
    omega arith

pub record AreFewDevices (at t : ℕ) (ds : List DevicePart) : Type 0 where
  pub sound : AllByRecursion IsSoundDevice ds
  pub few : at ≤ MAX_DEVICES → at + length ds ≤ MAX_DEVICES
  pub few_tors : t ≤ MAX_TORS → t + length (tors ds) ≤ MAX_TORS

few_devices : (at t : ℕ) (ds : List DevicePart) → first_device_limit at t ds ≡ None → AreFewDevices at t ds
few_devices at t [] is = record { sound = tt; few = λ low. omega arith; few_tors = λ low. omega arith }
few_devices at t (d ∷ ds) is =
    let parts = limit_none (device_limit at t d) at (first_device_limit (at + 1) (tors_with t d) ds) is in
    let one = device_choice (nat_le MAX_DEVICES at) (d.tor && nat_le MAX_TORS t) (are_device_vals d.vals && nat_le d.health DEVICE_HEALTH) parts.0 in
    let opens = both (are_device_vals d.vals) (nat_le d.health DEVICE_HEALTH) one.2 in
    let rest = few_devices (at + 1) (tors_with t d) ds parts.1 in
    let less : at < MAX_DEVICES = under MAX_DEVICES at one.0 in
    record {
      sound = (record { vals = opens.0; health = opens.1 }, rest.sound);
      few = λ low. let most : at + 1 + length ds ≤ MAX_DEVICES = rest.few (omega arith) in omega arith;
      few_tors = tors_step t 0 ds d d.tor refl one.1 rest.few_tors;
    }

link_choice : (p q r : Bool) → cond p (Some Links) (cond q (cond r None (Some Opening)) (Some Capacity)) ≡ None → (p ≡ false) × (q ≡ true) × (r ≡ true)
link_choice true q r is = absurd (cc)
link_choice false false r is = absurd (cc)
link_choice false true true is = (refl, refl, refl)
link_choice false true false is = absurd (cc)

pub record HasFineLimits (l : LinkPart) : Type 0 where
  pub capacity : (nat_le 1 l.capacity && nat_le l.capacity MAX_CAPACITY) ≡ true
  pub vals : are_link_vals l.vals ≡ true
  pub health : nat_le l.health LINK_HEALTH ≡ true

pub record AreFewLinks (number : ℕ) (ls : List LinkPart) : Type 0 where
  pub fine : AllByRecursion HasFineLimits ls
  pub few : number ≤ MAX_LINKS → number + length ls ≤ MAX_LINKS

few_links : (before number : ℕ) (ls : List LinkPart) → first_link_limit before number ls ≡ None → AreFewLinks number ls
few_links before number [] is = record { fine = tt; few = λ low. omega arith }
few_links before number (l ∷ ls) is =
    let parts = limit_none (link_limit number l) (before + number) (first_link_limit before (number + 1) ls) is in
    let one = link_choice (nat_le MAX_LINKS number) (nat_le 1 l.capacity && nat_le l.capacity MAX_CAPACITY) (are_link_vals l.vals && nat_le l.health LINK_HEALTH) parts.0 in
    let opens = both (are_link_vals l.vals) (nat_le l.health LINK_HEALTH) one.2 in
    let rest = few_links before (number + 1) ls parts.1 in
    let less : number < MAX_LINKS = under MAX_LINKS number one.0 in
    record {
      fine = (record { capacity = one.1; vals = opens.0; health = opens.1 }, rest.fine);
      few = λ low. let most : number + 1 + length ls ≤ MAX_LINKS = rest.few (omega arith) in omega arith;
    }

promise_choice : (p q : Bool) → cond p (Some Promises) (cond q None (Some Percent)) ≡ None → (p ≡ false) × (q ≡ true)
promise_choice true q is = absurd (cc)
promise_choice false true is = (refl, refl)
promise_choice false false is = absurd (cc)

pub record AreFewPromises (number : ℕ) (ps : List PromisePart) : Type 0 where
  pub shares : AllByRecursion (λ p. nat_le p.percent MAX_PERCENT ≡ true) ps
  pub few : number ≤ MAX_PROMISES → number + length ps ≤ MAX_PROMISES

few_promises : (before number : ℕ) (ps : List PromisePart) → first_promise_limit before number ps ≡ None → AreFewPromises number ps
few_promises before number [] is = record { shares = tt; few = λ low. omega arith }
few_promises before number (p ∷ ps) is =
    let parts = limit_none (promise_limit number p) (before + number) (first_promise_limit before (number + 1) ps) is in
    let one = promise_choice (nat_le MAX_PROMISES number) (nat_le p.percent MAX_PERCENT) parts.0 in
    let rest = few_promises before (number + 1) ps parts.1 in
    let less : number < MAX_PROMISES = under MAX_PROMISES number one.0 in
    record {
      shares = (one.1, rest.shares);
      few = λ low. let most : number + 1 + length ps ≤ MAX_PROMISES = rest.few (omega arith) in omega arith;
    }

-- a link of a group that has no fault
known_end : (known : Bool) → (true && not known) ≡ false → known ≡ true
known_end true e = refl
known_end false e = absurd (cc)

sound_link : (group : List ℕ) (names : List (List ℕ)) (l : LinkPart) → HasOwnEnds l → has_unknown_end group names l ≡ false → is_loop group l ≡ false → HasFineLimits l → IsSoundLink names l
sound_link group names l own known apart fine =
    let ends : ((true && not (is_among l.a.name names)) || (true && not (is_among l.b.name names))) ≡ false = rw (own.a, own.b) at known in
    let two = neither (true && not (is_among l.a.name names)) (true && not (is_among l.b.name names)) ends in
    let others : (true && true && bytes_eq l.a.name l.b.name) ≡ false = rw (own.a, own.b) at apart in
    record {
      a_own = own.a;
      b_own = own.b;
      a_known = known_end (is_among l.a.name names) two.0;
      b_known = known_end (is_among l.b.name names) two.1;
      apart = others;
      capacity = fine.capacity;
      vals = fine.vals;
      health = fine.health;
    }

sound_links : (group : List ℕ) (names : List (List ℕ)) (ls : List LinkPart) → AllByRecursion HasOwnEnds ls → AllByRecursion (λ l. has_unknown_end group names l ≡ false) ls → AllByRecursion (λ l. is_loop group l ≡ false) ls → AllByRecursion HasFineLimits ls → AllByRecursion (IsSoundLink names) ls
sound_links group names [] own known apart fine = tt
sound_links group names (l ∷ ls) own known apart fine = (sound_link group names l own.0 known.0 apart.0 fine.0, sound_links group names ls own.1 known.1 apart.1 fine.1)

sound_promises : (devices : List DevicePart) (ps : List PromisePart) → AllByRecursion (λ p. (is_tor_name devices p.a ≡ true) × (is_tor_name devices p.b ≡ true) × (bytes_eq p.a p.b ≡ false)) ps → AllByRecursion (λ p. nat_le p.percent MAX_PERCENT ≡ true) ps → AllByRecursion (IsSoundPromise devices) ps
sound_promises devices [] pairs shares = tt
sound_promises devices (p ∷ ps) pairs shares = (record { a_tor = pairs.0.0; b_tor = pairs.0.1; apart = pairs.0.2; share = shares.0 }, sound_promises devices ps pairs.1 shares.1)

-- a sound group is one that lines can declare
pub sound_parts : (p : Parts) → IsSoundGroup p → IsSoundDraftGroup (drafted p)
sound_parts p s =
    let none = faultless p s.built in
    let devices = few_devices 0 0 p.devices none.device_limits in
    let links = few_links (length p.devices) 0 p.links none.link_limits in
    let promises = few_promises (promises_at p) 0 p.promises none.promise_limits in
    let pairs = each_pair p.devices [] (promises_at p) p.promises none.bad in
    let few : 0 + length p.devices ≤ MAX_DEVICES = devices.few (omega arith) in
    let few_t : 0 + length (tors p.devices) ≤ MAX_TORS = devices.few_tors (omega arith) in
    let few_l : 0 + length p.links ≤ MAX_LINKS = links.few (omega arith) in
    let few_p : 0 + length p.promises ≤ MAX_PROMISES = promises.few (omega arith) in
    record {
      spelled = s.name;
      spelled_devices = s.named_devices;
      spelled_links = s.named_links;
      named = all_new [] 0 (device_names p.devices ++ link_names p.links) none.twice;
      few_devices = omega arith;
      few_tors = omega arith;
      few_links = omega arith;
      few_promises = omega arith;
      devices = devices.sound;
      links = sound_links p.name (device_names p.devices) p.links (recursion_from_All HasOwnEnds p.links s.ends)
          (each_link (has_unknown_end p.name (device_names p.devices)) (length p.devices) p.links none.unknown_link)
          (each_link (is_loop p.name) (length p.devices) p.links none.loops) links.fine;
      promises = sound_promises p.devices p.promises pairs.0 promises.shares;
      pairs = pairs.1;
      few_wires = omega arith;
      wires = tt;
    }
