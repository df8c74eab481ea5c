-- What one more line makes of a sound group.
use Rattle.std.proofs.Common.{◌≡◌, ℕ, zero, suc, ◌+◌, ◌<◌, ◌≤◌, List, [], ◌∷◌, ◌++◌, length, ap, sym, ◌∙◌, subst, refl, arith}
use Rattle.std.specs.Prelude.{Bool, true, false, not, cond, if◌then◌else◌, ◌||◌, ◌==◌, nat_le, nat_lt, Option, Some, None, option_map, is_some, unwrap_or, slice_get, bytes_eq, ◌^◌}
use Rattle.std.specs.List.{AllByRecursion}
use Rattle.std.proofs.lemmas.List.{append_assoc, append-nil, map_push, length_push}
use Rattle.std.proofs.lemmas.Slice.Eq.{bytes_eq-Decides}
use Rattle.st_net.proofs.Tests.{both, four_true, neither, turned, less_is}
use Rattle.st_net.specs.declared.entity.Entity.{Entity}
use Rattle.st_net.specs.declared.entity.Entity.TheVariants.{Device, Link}
use Rattle.st_net.specs.declared.entity.Var.{Var}
use Rattle.st_net.specs.declared.entity.Var.TheVariants.{Power, Firmware, Config, Routing, LinkPower, Iface}
use Rattle.st_net.specs.declared.entity.Vals.{Vals}
use Rattle.st_net.specs.declared.parts.DevicePart.{DevicePart}
use Rattle.st_net.specs.declared.parts.LinkPart.{LinkPart}
use Rattle.st_net.specs.declared.parts.PromisePart.{PromisePart}
use Rattle.st_net.specs.declared.topo.TheConstants.{MAX_DEVICES, MAX_TORS, MAX_LINKS, MAX_PROMISES, MAX_PERCENT}
use Rattle.st_net.specs.declared.range.TheConstants.{DEVICE_HEALTH, LINK_HEALTH}
use Rattle.st_net.specs.Entities.{device_value_set, link_value_set}
use Rattle.st_net.specs.Ranges.{is_device_value, is_link_value, is_in_range, most_health}
use Rattle.st_net.specs.Names.{place_of, is_among, is_name}
use Rattle.st_net.specs.Groups.{are_new, are_device_vals, are_link_vals}
use Rattle.st_net.specs.Faults.{device_names, link_names, is_tor, is_tor_name, was_promised, is_bad_pair}
use Rattle.st_net.proofs.NameLemmas.{names_added, among_kept, not_first, place_kept}
use Rattle.st_token.proofs.PrintedTokens.{each}
use Rattle.st_grammar.specs.Draft.{GroupDraft, is_entity_name, empty_group, with_device, with_link, with_promise, opened, device_opened, link_opened, with_health, device_told, link_told, with_wire, tors}
use Rattle.st_wire.specs.declared.line.WireLine.{WireLine}
use Rattle.st_grammar.specs.declared.limits.TheConstants.{MAX_WIRE_LINES}
use Rattle.st_grammar.specs.Sections.{has_device_room}
use Rattle.st_grammar.specs.Sound.{IsSoundWire}
use Rattle.st_grammar.proofs.HealthLemmas.{told_device_names, told_link_names, told_devices_count, told_links_count, told_tors}
use Rattle.st_grammar.proofs.TorLemmas.{tors_push}
use Rattle.st_grammar.proofs.OpenLemmas.{device_names_kept, link_names_kept, devices_kept, links_kept, tors_kept}
use Rattle.st_grammar.proofs.SoundGroups.{IsSoundDevice, IsSoundLink, IsSoundPromise, AreOtherPairs, IsSoundDraftGroup, tor_known}

pub pushed_all : {X : Type 0} (P : X → Type 0) (xs : List X) (x : X) → AllByRecursion P xs → P x → AllByRecursion P (xs ++ x ∷ [])
pushed_all P [] x all p = (p, tt)
pushed_all P (y ∷ ys) x all p = (all.0, pushed_all P ys x all.1 p)

-- names
other_way : (m n : List ℕ) → bytes_eq m n ≡ false → bytes_eq n m ≡ false
other_way m n e = no (bytes_eq n m) refl
  where
    no : (b : Bool) → bytes_eq n m ≡ b → b ≡ false
    no false h = refl
    no true h = absurd (let same : bytes_eq m n ≡ true = (bytes_eq-Decides m n).1 (sym ((bytes_eq-Decides n m).0 h)) in cc)

later_too : (o : Option ℕ) → is_some (option_map suc o) ≡ is_some o
later_too None = refl
later_too (Some n) = refl

among_step : (b : Bool) (o : Option ℕ) → b ≡ false → is_some (cond b (Some 0) (option_map suc o)) ≡ is_some o
among_step true o e = absurd (cc)
among_step false o e = later_too o

-- another name in between changes nothing
among_past : (m n : List ℕ) (before after : List (List ℕ)) → bytes_eq m n ≡ false → is_among m (before ++ n ∷ after) ≡ is_among m (before ++ after)
among_past m n [] after e = among_step (bytes_eq m n) (place_of m after) e
among_past m n (b ∷ before) after e = step (bytes_eq m b) (among_past m n before after e)
  where
    step : (t : Bool) → is_among m (before ++ n ∷ after) ≡ is_among m (before ++ after)
        → is_some (cond t (Some 0) (option_map suc (place_of m (before ++ n ∷ after)))) ≡ is_some (cond t (Some 0) (option_map suc (place_of m (before ++ after))))
    step true rest = refl
    step false rest = later_too (place_of m (before ++ n ∷ after)) ∙ rest ∙ sym (later_too (place_of m (before ++ after)))

new_behind : (before after names : List (List ℕ)) (n : List ℕ) → are_new (before ++ after) names ≡ true → is_among n names ≡ false → are_new (before ++ n ∷ after) names ≡ true
new_behind before after [] n new fresh = refl
new_behind before after (m ∷ ms) n new fresh =
    let parts : (not (is_among m (before ++ after)) ≡ true) × (are_new ((before ++ after) ++ m ∷ []) ms ≡ true) = both (not (is_among m (before ++ after))) (are_new ((before ++ after) ++ m ∷ []) ms) new in
    let apart : (bytes_eq n m ≡ false) × (is_among n ms ≡ false) = not_first (bytes_eq n m) (place_of n ms) fresh in
    let wide : are_new (before ++ n ∷ (after ++ m ∷ [])) ms ≡ true = new_behind before (after ++ m ∷ []) ms n (subst (λ (ns : List (List ℕ)). are_new ns ms ≡ true) (append_assoc before after (m ∷ [])) parts.1) apart.1 in
    rw (among_past m n before after (other_way n m apart.0), turned (is_among m (before ++ after)) parts.0)
    (subst (λ (ns : List (List ℕ)). are_new ns ms ≡ true) (sym (append_assoc before (n ∷ after) (m ∷ []))) wide)

among_last : (n m : List ℕ) (before : List (List ℕ)) → is_among n before ≡ false → bytes_eq n m ≡ false → is_among n (before ++ m ∷ []) ≡ false
among_last n m before fresh e = among_past n m before [] e ∙ ap (λ (ns : List (List ℕ)). is_among n ns) (append-nil before) ∙ fresh

-- a new name, in between
pub new_amid : (before xs ys : List (List ℕ)) (n : List ℕ) → are_new before (xs ++ ys) ≡ true → is_among n before ≡ false → is_among n xs ≡ false → is_among n ys ≡ false → are_new before (xs ++ n ∷ ys) ≡ true
new_amid before [] ys n new b x y =
    rw b (new_behind before [] ys n (subst (λ (ns : List (List ℕ)). are_new ns ys ≡ true) (sym (append-nil before)) new) y)
new_amid before (m ∷ xs) ys n new b x y =
    let parts : (not (is_among m before) ≡ true) × (are_new (before ++ m ∷ []) (xs ++ ys) ≡ true) = both (not (is_among m before)) (are_new (before ++ m ∷ []) (xs ++ ys)) new in
    let apart : (bytes_eq n m ≡ false) × (is_among n xs ≡ false) = not_first (bytes_eq n m) (place_of n xs) x in
    rw parts.0 (new_amid (before ++ m ∷ []) xs ys n parts.1 (among_last n m before b apart.0) apart.1 y)

among_two : (n : List ℕ) (xs ys : List (List ℕ)) → is_among n xs ≡ false → is_among n ys ≡ false → is_among n (xs ++ ys) ≡ false
among_two n [] ys x y = y
among_two n (m ∷ xs) ys x y =
    let apart : (bytes_eq n m ≡ false) × (is_among n xs ≡ false) = not_first (bytes_eq n m) (place_of n xs) x in
    among_step (bytes_eq n m) (place_of n (xs ++ ys)) apart.0 ∙ among_two n xs ys apart.1 y

pub new_last : (xs : List (List ℕ)) (n : List ℕ) → are_new [] xs ≡ true → is_among n xs ≡ false → are_new [] (xs ++ n ∷ []) ≡ true
new_last xs n new fresh = new_amid [] xs [] n (subst (λ (ns : List (List ℕ)). are_new [] ns ≡ true) (sym (append-nil xs)) new) refl fresh refl

-- the device of a name, with one more device
get_kept : (ds : List DevicePart) (d : DevicePart) (k : ℕ) → is_tor (slice_get ds k) ≡ true → is_tor (slice_get (ds ++ d ∷ []) k) ≡ true
get_kept [] d k t = absurd (cc)
get_kept (e ∷ ds) d zero t = t
get_kept (e ∷ ds) d (suc k) t = get_kept ds d k t

placed : (o : Option ℕ) → is_some o ≡ true → (k : ℕ) × (o ≡ Some k)
placed None e = absurd (cc)
placed (Some k) e = (k, refl)

tor_kept : (ds : List DevicePart) (d : DevicePart) (name : List ℕ) → is_tor_name ds name ≡ true → is_tor_name (ds ++ d ∷ []) name ≡ true
tor_kept ds d name t =
    let known : is_among name (device_names ds) ≡ true = tor_known ds name t in
    let at : (k : ℕ) × (place_of name (device_names ds) ≡ Some k) = placed (place_of name (device_names ds)) known in
    let same : place_of name (device_names (ds ++ d ∷ [])) ≡ Some at.0 = ap (place_of name) (map_push (λ (d : DevicePart). d.name) ds d) ∙ place_kept name d.name (device_names ds) known ∙ at.1 in
    let here : is_tor (slice_get ds at.0) ≡ true = rw at.1 at t in
    rw same (get_kept ds d at.0 here)

promise_with_device : (ds : List DevicePart) (d : DevicePart) (p : PromisePart) → IsSoundPromise ds p → IsSoundPromise (ds ++ d ∷ []) p
promise_with_device ds d p s = record { a_tor = tor_kept ds d p.a s.a_tor; b_tor = tor_kept ds d p.b s.b_tor; apart = s.apart; share = s.share }

link_among : (names : List (List ℕ)) (n : List ℕ) (l : LinkPart) → IsSoundLink names l → IsSoundLink (names ++ n ∷ []) l
link_among names n l s = record { a_own = s.a_own; b_own = s.b_own; a_known = among_kept l.a.name n names s.a_known; b_known = among_kept l.b.name n names s.b_known; apart = s.apart; capacity = s.capacity; vals = s.vals; health = s.health }

pub begun_sound : (name : List ℕ) → is_name name ≡ true → IsSoundDraftGroup (empty_group name)
begun_sound name spelled = record { spelled = spelled; spelled_devices = refl; spelled_links = refl; named = refl; few_devices = omega arith; few_tors = omega arith; few_links = omega arith; few_promises = omega arith; devices = tt; links = tt; promises = tt; pairs = tt; few_wires = omega arith; wires = tt }

tors_room : (t : ℕ) (b : Bool) → (not b || nat_lt t MAX_TORS) ≡ true → t ≤ MAX_TORS → t + (if b then 1 else 0) ≤ MAX_TORS
tors_room t true e few = let less : t < MAX_TORS = less_is t MAX_TORS e in omega arith
tors_room t false e few = omega arith

pub device_sound : (g : GroupDraft) (d : DevicePart) → IsSoundDraftGroup g → is_name d.name ≡ true → is_entity_name g d.name ≡ false → has_device_room g d.tor ≡ true → IsSoundDevice d → IsSoundDraftGroup (with_device g d)
device_sound g d s spelled fresh room sound =
    let names : (is_among d.name (device_names g.devices) ≡ false) × (is_among d.name (link_names g.links) ≡ false) = neither (is_among d.name (device_names g.devices)) (is_among d.name (link_names g.links)) fresh in
    let rooms : (nat_lt (length g.devices) MAX_DEVICES ≡ true) × ((not d.tor || nat_lt (length (tors g.devices)) MAX_TORS) ≡ true) = both (nat_lt (length g.devices) MAX_DEVICES) (not d.tor || nat_lt (length (tors g.devices)) MAX_TORS) room in
    let less : length g.devices < MAX_DEVICES = less_is (length g.devices) MAX_DEVICES rooms.0 in
    let few : length (tors g.devices) + (if d.tor then 1 else 0) ≤ MAX_TORS = tors_room (length (tors g.devices)) d.tor rooms.1 s.few_tors in
    let more : device_names (g.devices ++ d ∷ []) ≡ device_names g.devices ++ d.name ∷ [] = map_push (λ (d : DevicePart). d.name) g.devices d in
    record {
      spelled = s.spelled;
      spelled_devices = rw more (names_added (device_names g.devices) d.name s.spelled_devices spelled);
      spelled_links = s.spelled_links;
      named = rw (more, append_assoc (device_names g.devices) (d.name ∷ []) (link_names g.links)) (new_amid [] (device_names g.devices) (link_names g.links) d.name s.named refl names.0 names.1);
      few_devices = rw (length_push g.devices d) (omega arith);
      few_tors = rw (tors_push g.devices d) few;
      few_links = s.few_links;
      few_promises = s.few_promises;
      devices = pushed_all IsSoundDevice g.devices d s.devices sound;
      links = subst (λ (ns : List (List ℕ)). AllByRecursion (IsSoundLink ns) g.links) (sym more) (each (IsSoundLink (device_names g.devices)) (IsSoundLink (device_names g.devices ++ d.name ∷ [])) (link_among (device_names g.devices) d.name) g.links s.links);
      promises = each (IsSoundPromise g.devices) (IsSoundPromise (g.devices ++ d ∷ [])) (promise_with_device g.devices d) g.promises s.promises;
      pairs = s.pairs;
      few_wires = s.few_wires;
      wires = s.wires;
    }

pub link_sound : (g : GroupDraft) (l : LinkPart) → IsSoundDraftGroup g → is_name l.name ≡ true → is_entity_name g l.name ≡ false → nat_lt (length g.links) MAX_LINKS ≡ true → IsSoundLink (device_names g.devices) l → IsSoundDraftGroup (with_link g l)
link_sound g l s spelled fresh room sound =
    let names : (is_among l.name (device_names g.devices) ≡ false) × (is_among l.name (link_names g.links) ≡ false) = neither (is_among l.name (device_names g.devices)) (is_among l.name (link_names g.links)) fresh in
    let less : length g.links < MAX_LINKS = less_is (length g.links) MAX_LINKS room in
    let more : link_names (g.links ++ l ∷ []) ≡ link_names g.links ++ l.name ∷ [] = map_push (λ (l : LinkPart). l.name) g.links l in
    record {
      spelled = s.spelled;
      spelled_devices = s.spelled_devices;
      spelled_links = rw more (names_added (link_names g.links) l.name s.spelled_links spelled);
      named = rw (more, ← append_assoc (device_names g.devices) (link_names g.links) (l.name ∷ [])) (new_last (device_names g.devices ++ link_names g.links) l.name s.named (among_two l.name (device_names g.devices) (link_names g.links) names.0 names.1));
      few_devices = s.few_devices;
      few_tors = s.few_tors;
      few_links = rw (length_push g.links l) (omega arith);
      few_promises = s.few_promises;
      devices = s.devices;
      links = pushed_all (IsSoundLink (device_names g.devices)) g.links l s.links sound;
      promises = s.promises;
      pairs = s.pairs;
      few_wires = s.few_wires;
      wires = s.wires;
    }

other_last : (ps before : List PromisePart) (p : PromisePart) → AreOtherPairs before ps → was_promised p.a p.b (before ++ ps) ≡ false → AreOtherPairs before (ps ++ p ∷ [])
other_last [] before p other fresh = (subst (λ (qs : List PromisePart). was_promised p.a p.b qs ≡ false) (append-nil before) fresh, tt)
other_last (q ∷ ps) before p other fresh = (other.0, other_last ps (before ++ q ∷ []) p other.1 (subst (λ (qs : List PromisePart). was_promised p.a p.b qs ≡ false) (sym (append_assoc before (q ∷ []) ps)) fresh))

pub promise_sound : (g : GroupDraft) (p : PromisePart) → IsSoundDraftGroup g → is_bad_pair g.devices g.promises p ≡ false → nat_le p.percent MAX_PERCENT ≡ true → nat_lt (length g.promises) MAX_PROMISES ≡ true → IsSoundDraftGroup (with_promise g p)
promise_sound g p s good share room =
    let last = neither (not (is_tor_name g.devices p.a) || not (is_tor_name g.devices p.b) || bytes_eq p.a p.b) (was_promised p.a p.b g.promises) good in
    let third = neither (not (is_tor_name g.devices p.a) || not (is_tor_name g.devices p.b)) (bytes_eq p.a p.b) last.0 in
    let two = neither (not (is_tor_name g.devices p.a)) (not (is_tor_name g.devices p.b)) third.0 in
    let less : length g.promises < MAX_PROMISES = less_is (length g.promises) MAX_PROMISES room in
    record {
      spelled = s.spelled;
      spelled_devices = s.spelled_devices;
      spelled_links = s.spelled_links;
      named = s.named;
      few_devices = s.few_devices;
      few_tors = s.few_tors;
      few_links = s.few_links;
      devices = s.devices;
      links = s.links;
      few_promises = rw (length_push g.promises p) (omega arith);
      promises = pushed_all (IsSoundPromise g.devices) g.promises p s.promises (record { a_tor = not_false (is_tor_name g.devices p.a) two.0; b_tor = not_false (is_tor_name g.devices p.b) two.1; apart = third.1; share = share });
      pairs = other_last g.promises [] p s.pairs last.1;
      few_wires = s.few_wires;
      wires = s.wires;
    }
  where
    not_false : (b : Bool) → not b ≡ false → b ≡ true
    not_false true e = refl
    not_false false e = absurd (cc)

-- one opening value

device_vals_kept : (vals : Vals) (v : Var) (x : ℕ) → is_device_value v x ≡ true → are_device_vals vals ≡ true → are_device_vals (device_value_set vals v x) ≡ true
device_vals_kept vals v x r s = by_var v r (four_true (nat_le vals.v0 1) (nat_lt vals.v1 (2 ^ 32)) (nat_lt vals.v2 (2 ^ 32)) (nat_le vals.v3 1) s)
  where
    by_var : (v : Var) → is_device_value v x ≡ true → (nat_le vals.v0 1 ≡ true) × (nat_lt vals.v1 (2 ^ 32) ≡ true) × (nat_lt vals.v2 (2 ^ 32) ≡ true) × (nat_le vals.v3 1 ≡ true) → are_device_vals (device_value_set vals v x) ≡ true
    by_var Power r f = rw (r, f.1, f.2, f.3) refl
    by_var Firmware r f = rw (f.0, r, f.2, f.3) refl
    by_var Config r f = rw (f.0, f.1, r, f.3) refl
    by_var Routing r f = rw (f.0, f.1, f.2, r) refl
    by_var LinkPower r f = absurd (cc)
    by_var Iface r f = absurd (cc)

link_vals_kept : (vals : Vals) (v : Var) (x : ℕ) → is_link_value v x ≡ true → are_link_vals vals ≡ true → are_link_vals (link_value_set vals v x) ≡ true
link_vals_kept vals v x r s = by_var v r (four_true (nat_le vals.v0 1) (nat_lt vals.v1 (2 ^ 32)) (vals.v2 == 0) (vals.v3 == 0) s)
  where
    by_var : (v : Var) → is_link_value v x ≡ true → (nat_le vals.v0 1 ≡ true) × (nat_lt vals.v1 (2 ^ 32) ≡ true) × ((vals.v2 == 0) ≡ true) × ((vals.v3 == 0) ≡ true) → are_link_vals (link_value_set vals v x) ≡ true
    by_var LinkPower r f = rw (r, f.1, f.2, f.3) refl
    by_var Iface r f = rw (f.0, r, f.2, f.3) refl
    by_var Power r f = absurd (cc)
    by_var Firmware r f = absurd (cc)
    by_var Config r f = absurd (cc)
    by_var Routing r f = absurd (cc)

devices_opened : (ds : List DevicePart) (i : ℕ) (v : Var) (x : ℕ) → is_device_value v x ≡ true → AllByRecursion IsSoundDevice ds → AllByRecursion IsSoundDevice (device_opened ds i v x)
devices_opened [] i v x r all = tt
devices_opened (d ∷ ds) zero v x r all = (record { vals = device_vals_kept d.vals v x r all.0.vals; health = all.0.health }, all.1)
devices_opened (d ∷ ds) (suc i) v x r all = (all.0, devices_opened ds i v x r all.1)

links_opened : (names : List (List ℕ)) (ls : List LinkPart) (i : ℕ) (v : Var) (x : ℕ) → is_link_value v x ≡ true → AllByRecursion (IsSoundLink names) ls → AllByRecursion (IsSoundLink names) (link_opened ls i v x)
links_opened names [] i v x r all = tt
links_opened names (l ∷ ls) zero v x r all = (record { a_own = all.0.a_own; b_own = all.0.b_own; a_known = all.0.a_known; b_known = all.0.b_known; apart = all.0.apart; capacity = all.0.capacity; vals = link_vals_kept l.vals v x r all.0.vals; health = all.0.health }, all.1)
links_opened names (l ∷ ls) (suc i) v x r all = (all.0, links_opened names ls i v x r all.1)

tor_at : (ds : List DevicePart) (i : ℕ) (v : Var) (x k : ℕ) → is_tor (slice_get (device_opened ds i v x) k) ≡ is_tor (slice_get ds k)
tor_at [] i v x k = refl
tor_at (d ∷ ds) zero v x zero = refl
tor_at (d ∷ ds) zero v x (suc k) = refl
tor_at (d ∷ ds) (suc i) v x zero = refl
tor_at (d ∷ ds) (suc i) v x (suc k) = tor_at ds i v x k

tor_name_kept : (ds : List DevicePart) (i : ℕ) (v : Var) (x : ℕ) (name : List ℕ) → is_tor_name (device_opened ds i v x) name ≡ is_tor_name ds name
tor_name_kept ds i v x name = rw (device_names_kept ds i v x, devices_kept ds i v x) (tor_at ds i v x (unwrap_or (place_of name (device_names ds)) (length ds)))

promise_opened : (ds : List DevicePart) (i : ℕ) (v : Var) (x : ℕ) (p : PromisePart) → IsSoundPromise ds p → IsSoundPromise (device_opened ds i v x) p
promise_opened ds i v x p s = record { a_tor = tor_name_kept ds i v x p.a ∙ s.a_tor; b_tor = tor_name_kept ds i v x p.b ∙ s.b_tor; apart = s.apart; share = s.share }

pub opened_sound : (g : GroupDraft) (e : Entity) (v : Var) (x : ℕ) → is_in_range e v x ≡ true → IsSoundDraftGroup g → IsSoundDraftGroup (opened g e v x)
opened_sound g (Device i) v x r s = record {
  spelled = s.spelled;
  spelled_devices = rw (device_names_kept g.devices i v x) s.spelled_devices;
  spelled_links = s.spelled_links;
  named = rw (device_names_kept g.devices i v x) s.named;
  few_devices = rw (devices_kept g.devices i v x) s.few_devices;
  few_tors = rw (tors_kept g.devices i v x) s.few_tors;
  few_links = s.few_links;
  few_promises = s.few_promises;
  devices = devices_opened g.devices i v x r s.devices;
  links = subst (λ (ns : List (List ℕ)). AllByRecursion (IsSoundLink ns) g.links) (sym (device_names_kept g.devices i v x)) s.links;
  promises = each (IsSoundPromise g.devices) (IsSoundPromise (device_opened g.devices i v x)) (promise_opened g.devices i v x) g.promises s.promises;
  pairs = s.pairs;
  few_wires = s.few_wires;
  wires = s.wires;
}
opened_sound g (Link i) v x r s = record {
  spelled = s.spelled;
  spelled_devices = s.spelled_devices;
  spelled_links = rw (link_names_kept g.links i v x) s.spelled_links;
  named = rw (link_names_kept g.links i v x) s.named;
  few_devices = s.few_devices;
  few_tors = s.few_tors;
  few_links = rw (links_kept g.links i v x) s.few_links;
  few_promises = s.few_promises;
  devices = s.devices;
  links = links_opened (device_names g.devices) g.links i v x r s.links;
  promises = s.promises;
  pairs = s.pairs;
  few_wires = s.few_wires;
  wires = s.wires;
}

-- one health
devices_told : (ds : List DevicePart) (i h : ℕ) → nat_le h DEVICE_HEALTH ≡ true → AllByRecursion IsSoundDevice ds → AllByRecursion IsSoundDevice (device_told ds i h)
devices_told [] i h r all = tt
devices_told (d ∷ ds) zero h r all = (record { vals = all.0.vals; health = r }, all.1)
devices_told (d ∷ ds) (suc i) h r all = (all.0, devices_told ds i h r all.1)

links_told : (names : List (List ℕ)) (ls : List LinkPart) (i h : ℕ) → nat_le h LINK_HEALTH ≡ true → AllByRecursion (IsSoundLink names) ls → AllByRecursion (IsSoundLink names) (link_told ls i h)
links_told names [] i h r all = tt
links_told names (l ∷ ls) zero h r all = (record { a_own = all.0.a_own; b_own = all.0.b_own; a_known = all.0.a_known; b_known = all.0.b_known; apart = all.0.apart; capacity = all.0.capacity; vals = all.0.vals; health = r }, all.1)
links_told names (l ∷ ls) (suc i) h r all = (all.0, links_told names ls i h r all.1)

told_tor_at : (ds : List DevicePart) (i h k : ℕ) → is_tor (slice_get (device_told ds i h) k) ≡ is_tor (slice_get ds k)
told_tor_at [] i h k = refl
told_tor_at (d ∷ ds) zero h zero = refl
told_tor_at (d ∷ ds) zero h (suc k) = refl
told_tor_at (d ∷ ds) (suc i) h zero = refl
told_tor_at (d ∷ ds) (suc i) h (suc k) = told_tor_at ds i h k

told_tor_name : (ds : List DevicePart) (i h : ℕ) (name : List ℕ) → is_tor_name (device_told ds i h) name ≡ is_tor_name ds name
told_tor_name ds i h name = rw (told_device_names ds i h, told_devices_count ds i h) (told_tor_at ds i h (unwrap_or (place_of name (device_names ds)) (length ds)))

promise_told : (ds : List DevicePart) (i h : ℕ) (p : PromisePart) → IsSoundPromise ds p → IsSoundPromise (device_told ds i h) p
promise_told ds i h p s = record { a_tor = told_tor_name ds i h p.a ∙ s.a_tor; b_tor = told_tor_name ds i h p.b ∙ s.b_tor; apart = s.apart; share = s.share }

pub health_sound : (g : GroupDraft) (e : Entity) (h : ℕ) → nat_le h (most_health e) ≡ true → IsSoundDraftGroup g → IsSoundDraftGroup (with_health g e h)
health_sound g (Device i) h r s = record {
  spelled = s.spelled;
  spelled_devices = rw (told_device_names g.devices i h) s.spelled_devices;
  spelled_links = s.spelled_links;
  named = rw (told_device_names g.devices i h) s.named;
  few_devices = rw (told_devices_count g.devices i h) s.few_devices;
  few_tors = rw (told_tors g.devices i h) s.few_tors;
  few_links = s.few_links;
  few_promises = s.few_promises;
  devices = devices_told g.devices i h r s.devices;
  links = subst (λ (ns : List (List ℕ)). AllByRecursion (IsSoundLink ns) g.links) (sym (told_device_names g.devices i h)) s.links;
  promises = each (IsSoundPromise g.devices) (IsSoundPromise (device_told g.devices i h)) (promise_told g.devices i h) g.promises s.promises;
  pairs = s.pairs;
  few_wires = s.few_wires;
  wires = s.wires;
}
health_sound g (Link i) h r s = record {
  spelled = s.spelled;
  spelled_devices = s.spelled_devices;
  spelled_links = rw (told_link_names g.links i h) s.spelled_links;
  named = rw (told_link_names g.links i h) s.named;
  few_devices = s.few_devices;
  few_tors = s.few_tors;
  few_links = rw (told_links_count g.links i h) s.few_links;
  few_promises = s.few_promises;
  devices = s.devices;
  links = links_told (device_names g.devices) g.links i h r s.links;
  promises = s.promises;
  pairs = s.pairs;
  few_wires = s.few_wires;
  wires = s.wires;
}

-- one wire line
pub wire_sound : (g : GroupDraft) (line : WireLine) → nat_lt (length g.wires) MAX_WIRE_LINES ≡ true → IsSoundWire line → IsSoundDraftGroup g → IsSoundDraftGroup (with_wire g line)
wire_sound g line room sound s =
    let less : length g.wires < MAX_WIRE_LINES = less_is (length g.wires) MAX_WIRE_LINES room in
    record {
      spelled = s.spelled;
      spelled_devices = s.spelled_devices;
      spelled_links = s.spelled_links;
      named = s.named;
      few_devices = s.few_devices;
      few_tors = s.few_tors;
      few_links = s.few_links;
      few_promises = s.few_promises;
      devices = s.devices;
      links = s.links;
      promises = s.promises;
      pairs = s.pairs;
      few_wires = rw (length_push g.wires line) (omega arith);
      wires = pushed_all IsSoundWire g.wires line s.wires sound;
    }
