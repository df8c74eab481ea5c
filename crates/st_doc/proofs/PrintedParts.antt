-- The lines of a group's devices, links and promises are taken as what they were printed for.
use Rattle.std.proofs.Common.{◌≡◌, ℕ, zero, suc, ◌+◌, ◌<◌, ◌≤◌, List, [], ◌∷◌, ◌++◌, length, map, ap, sym, ◌∙◌, subst, refl, arith}
use Rattle.std.specs.Prelude.{Bool, true, false, not, cond, if◌then◌else◌, ◌&&◌, ◌||◌, nat_le, nat_lt, ◌^◌, Some, None, unwrap_or, slice_get, Ok, codes, decimal}
use Rattle.std.specs.List.{AllByRecursion}
use Rattle.std.proofs.lemmas.Bool.{leb-true}
use Rattle.std.proofs.lemmas.List.{append-nil, append_assoc, length-map, length-append, map_push, map-append}
use Rattle.st_net.proofs.Tests.{both, neither, at_most, less}
use Rattle.st_net.proofs.NameSteps.{among_both}
use Rattle.st_net.specs.declared.parts.Parts.{Parts}
use Rattle.st_net.specs.declared.parts.DevicePart.{DevicePart}
use Rattle.st_net.specs.declared.parts.LinkPart.{LinkPart}
use Rattle.st_net.specs.declared.parts.PromisePart.{PromisePart}
use Rattle.st_net.specs.declared.topo.TheConstants.{MAX_DEVICES, MAX_TORS, MAX_LINKS, MAX_PROMISES, MAX_CAPACITY, MAX_PERCENT}
use Rattle.st_net.specs.Names.{is_name, place_of, is_among}
use Rattle.st_net.specs.Groups.{are_new, are_names}
use Rattle.st_net.specs.Faults.{device_names, link_names, is_tor, is_tor_name, is_bad_pair, was_promised}
use Rattle.st_net.proofs.NameLemmas.{found_spelled}
use Rattle.st_token.proofs.PrintedTokens.{name_word, number_is_word, literal, new_name_again, within_again}
use Rattle.st_grammar.specs.Draft.{GroupDraft, Draft, is_entity_name, tors, with_device, with_link, with_promise}
use Rattle.st_grammar.specs.Sections.{has_device_room, new_device, device_of, device_line, new_link, link_of, link_line, promise_of, promise_line}
use Rattle.st_grammar.specs.Lines.{tokens_line, keyword_line, phased_line}
use Rattle.st_grammar.proofs.TorLemmas.{tors_push}
use Rattle.st_grammar.proofs.SoundGroups.{IsSoundLink, IsSoundPromise, AreOtherPairs, IsSoundDraftGroup, tor_known}
use Rattle.st_grammar.proofs.SoundParts.{nothing_noted, group_with, drafted}
use Rattle.st_doc.specs.Printed.{Words, tor_word, device_words, link_words, promise_words}
use Rattle.st_doc.proofs.PrintSteps.{Prints, prints_line, lined, amid, new_before}
use Rattle.st_doc.proofs.PrintedTokens.{tor_is_word, device_again, end_again, tor_again}

-- a draft within the section of a group, behind others
-- a version that a header may name
pub record Version : Type 0 where
  pub number : ℕ
  pub first : nat_le 1 number ≡ true

-- the version that the header names, and the groups that are ended
pub record Ended : Type 0 where
  pub version : Version
  pub groups : List GroupDraft

abbrev pub sections : Ended → GroupDraft → Draft
sections gs g = record { version = gs.version.number; phase = 1; groups = gs.groups; group = Some g; apps = []; app = None; order = [] }

-- parts as their lines declare them, before opening values and healths
abbrev pub plain_device : DevicePart → DevicePart
plain_device d = new_device d.name d.tor

abbrev pub plain_link : LinkPart → LinkPart
plain_link l = new_link l.name l.a.name l.b.name l.capacity

-- the line of a keyword within a section
device_taken : (gs : Ended) (g h : GroupDraft) (args : Words) → device_line g args ≡ Ok h → tokens_line (sections gs g) (codes "device" ∷ args) ≡ Ok (sections gs h)
unfolding keyword_line phased_line
device_taken gs g h args e = rw (gs.version.first, e) refl

link_taken : (gs : Ended) (g h : GroupDraft) (args : Words) → link_line g args ≡ Ok h → tokens_line (sections gs g) (codes "link" ∷ args) ≡ Ok (sections gs h)
unfolding keyword_line phased_line
link_taken gs g h args e = rw (gs.version.first, e) refl

promise_taken : (gs : Ended) (g h : GroupDraft) (args : Words) → promise_line g args ≡ Ok h → tokens_line (sections gs g) (codes "promise" ∷ args) ≡ Ok (sections gs h)
unfolding keyword_line phased_line
promise_taken gs g h args e = rw (gs.version.first, e) refl

-- the line of a part
device_line_again : (g : GroupDraft) (d : DevicePart) → is_name d.name ≡ true → is_entity_name g d.name ≡ false → has_device_room g d.tor ≡ true → device_line g (d.name ∷ tor_word d.tor ∷ []) ≡ Ok (with_device g (plain_device d))
unfolding device_line device_of
device_line_again g d spelled fresh room = rw (new_name_again (is_entity_name g d.name) d.name spelled fresh, tor_again d.tor, room) refl

link_line_again : (g : GroupDraft) (l : LinkPart) → is_name l.name ≡ true → is_entity_name g l.name ≡ false → is_name l.a.name ≡ true → is_name l.b.name ≡ true → IsSoundLink (device_names g.devices) l → l.capacity < 2 ^ 32 → nat_lt (length g.links) MAX_LINKS ≡ true
    → link_line g (l.name ∷ l.a.name ∷ l.b.name ∷ decimal l.capacity ∷ []) ≡ Ok (with_link g (plain_link l))
unfolding link_line link_of
link_line_again g l spelled fresh a b s small room =
    rw (new_name_again (is_entity_name g l.name) l.name spelled fresh, end_again g l.a.name a s.a_known, end_again g l.b.name b s.b_known, within_again 1 MAX_CAPACITY l.capacity small s.capacity, s.apart, room) refl

promise_line_again : (g : GroupDraft) (p : PromisePart) → is_name p.a ≡ true → is_name p.b ≡ true → is_among p.a (device_names g.devices) ≡ true → is_among p.b (device_names g.devices) ≡ true → (nat_le 0 p.percent && nat_le p.percent MAX_PERCENT) ≡ true → p.percent < 2 ^ 32
    → is_bad_pair g.devices g.promises p ≡ false → nat_lt (length g.promises) MAX_PROMISES ≡ true → promise_line g (p.a ∷ p.b ∷ decimal p.percent ∷ []) ≡ Ok (with_promise g p)
unfolding promise_line promise_of
promise_line_again g p a b a_known b_known share small good room =
    rw (device_again g p.a a a_known, device_again g p.b b b_known, within_again 0 MAX_PERCENT p.percent small share, good, room) refl

-- names
pub each_spelled : {X : Type 0} (f : X → List ℕ) (xs : List X) → are_names (map f xs) ≡ true → AllByRecursion (λ x. is_name (f x) ≡ true) xs
each_spelled f [] e = tt
each_spelled f (x ∷ xs) e = let parts = both (is_name (f x)) (are_names (map f xs)) e in (parts.0, each_spelled f xs parts.1)

pub plain_device_names : (ds : List DevicePart) → device_names (map plain_device ds) ≡ device_names ds
plain_device_names [] = refl
plain_device_names (d ∷ ds) = ap (λ (ns : List (List ℕ)). d.name ∷ ns) (plain_device_names ds)

pub plain_link_names : (ls : List LinkPart) → link_names (map plain_link ls) ≡ link_names ls
plain_link_names [] = refl
plain_link_names (l ∷ ls) = ap (λ (ns : List (List ℕ)). l.name ∷ ns) (plain_link_names ls)

-- names amid others
pub names_amid : {X : Type 0} (f : X → List ℕ) (whole front : List X) (x : X) (behind : List X) → front ++ x ∷ behind ≡ whole → map f front ++ f x ∷ map f behind ≡ map f whole
names_amid f whole front x behind is = sym (map-append f front (x ∷ behind)) ∙ ap (map f) is

pub device_new : (ds : List DevicePart) (names : List (List ℕ)) (front : List DevicePart) (d : DevicePart) (behind : List DevicePart) → front ++ d ∷ behind ≡ ds → are_new [] (device_names ds ++ names) ≡ true → is_among d.name (device_names front) ≡ false
device_new ds names front d behind is new =
    new_before (device_names ds ++ names) (device_names front) d.name (device_names behind ++ names)
    (sym (append_assoc (device_names front) (d.name ∷ device_names behind) names) ∙ ap (λ (ns : List (List ℕ)). ns ++ names) (names_amid (λ (d : DevicePart). d.name) ds front d behind is)) new

pub record IsNewLink (devices : List (List ℕ)) (front : List LinkPart) (l : LinkPart) : Type 0 where
  pub no_device : is_among l.name devices ≡ false
  pub no_link : is_among l.name (link_names front) ≡ false

pub link_new : (devices : List (List ℕ)) (ls front : List LinkPart) (l : LinkPart) (behind : List LinkPart) → front ++ l ∷ behind ≡ ls → are_new [] (devices ++ link_names ls) ≡ true → IsNewLink devices front l
link_new devices ls front l behind is new =
    let none : is_among l.name (devices ++ link_names front) ≡ false = new_before (devices ++ link_names ls) (devices ++ link_names front) l.name (link_names behind)
    (append_assoc devices (link_names front) (l.name ∷ link_names behind) ∙ ap (λ (ns : List (List ℕ)). devices ++ ns) (names_amid (λ (l : LinkPart). l.name) ls front l behind is)) new in
    let two = neither (is_among l.name devices) (is_among l.name (link_names front)) (sym (among_both l.name devices (link_names front)) ∙ none) in
    record { no_device = two.0; no_link = two.1 }

-- rooms
pub length_amid : {X : Type 0} (whole front : List X) (x : X) (behind : List X) → front ++ x ∷ behind ≡ whole → length front < length whole
length_amid whole front x behind is = let long : length front + suc (length behind) ≡ length whole = sym (length-append front (x ∷ behind)) ∙ ap length is in omega arith

tors_at_least : (xs ys : List DevicePart) → length (tors xs) ≤ length (tors (xs ++ ys))
tors_at_least [] ys = omega arith
tors_at_least (x ∷ xs) ys = step x.tor (tors_at_least xs ys)
  where
    step : (b : Bool) → length (tors xs) ≤ length (tors (xs ++ ys)) → length (cond b (x ∷ tors xs) (tors xs)) ≤ length (cond b (x ∷ tors (xs ++ ys)) (tors (xs ++ ys)))
    step true less = omega arith
    step false less = less

tors_plain : (ds : List DevicePart) → length (tors (map plain_device ds)) ≡ length (tors ds)
tors_plain [] = refl
tors_plain (d ∷ ds) = step d.tor (tors_plain ds)
  where
    step : (b : Bool) → length (tors (map plain_device ds)) ≡ length (tors ds) → length (cond b (plain_device d ∷ tors (map plain_device ds)) (tors (map plain_device ds))) ≡ length (cond b (d ∷ tors ds) (tors ds))
    step true same = ap suc same
    step false same = same

room_by : (n t : ℕ) (b : Bool) → n < MAX_DEVICES → t + (if b then 1 else 0) ≤ MAX_TORS → (nat_lt n MAX_DEVICES && (not b || nat_lt t MAX_TORS)) ≡ true
room_by n t true low few = rw (less n MAX_DEVICES low, less t MAX_TORS (omega arith)) refl
room_by n t false low few = rw (less n MAX_DEVICES low) refl

device_room : (ds front : List DevicePart) (d : DevicePart) (behind : List DevicePart) → front ++ d ∷ behind ≡ ds → length ds ≤ MAX_DEVICES → length (tors ds) ≤ MAX_TORS → (nat_lt (length (map plain_device front)) MAX_DEVICES && (not d.tor || nat_lt (length (tors (map plain_device front))) MAX_TORS)) ≡ true
device_room ds front d behind is few few_tors =
    let low : length front < length ds = length_amid ds front d behind is in
    let long : length (map plain_device front) ≡ length front = length-map front plain_device in
    let same : length (tors (map plain_device front)) ≡ length (tors front) = tors_plain front in
    let push : length (tors (front ++ d ∷ [])) ≡ length (tors front) + (if d.tor then 1 else 0) = tors_push front d in
    let more : length (tors (front ++ d ∷ [])) ≤ length (tors ((front ++ d ∷ []) ++ behind)) = tors_at_least (front ++ d ∷ []) behind in
    let all : length (tors ((front ++ d ∷ []) ++ behind)) ≡ length (tors ds) = ap (λ (xs : List DevicePart). length (tors xs)) (append_assoc front (d ∷ []) behind ∙ is) in
    rw (long, same) (room_by (length front) (length (tors front)) d.tor (omega arith) (omega arith))

-- pairs
other_behind : (before front : List PromisePart) (p : PromisePart) (behind : List PromisePart) → AreOtherPairs before (front ++ p ∷ behind) → was_promised p.a p.b (before ++ front) ≡ false
other_behind before [] p behind other = ap (was_promised p.a p.b) (append-nil before) ∙ other.0
other_behind before (q ∷ front) p behind other = ap (was_promised p.a p.b) (sym (append_assoc before (q ∷ []) front)) ∙ other_behind (before ++ q ∷ []) front p behind other.1

plain_tor_at : (ds : List DevicePart) (k : ℕ) → is_tor (slice_get (map plain_device ds) k) ≡ is_tor (slice_get ds k)
plain_tor_at [] k = refl
plain_tor_at (d ∷ ds) zero = refl
plain_tor_at (d ∷ ds) (suc k) = plain_tor_at ds k

plain_tor_name : (ds : List DevicePart) (name : List ℕ) → is_tor_name (map plain_device ds) name ≡ is_tor_name ds name
plain_tor_name ds name = rw (plain_device_names ds, length-map ds plain_device) (plain_tor_at ds (unwrap_or (place_of name (device_names ds)) (length ds)))

good_pair : (ds : List DevicePart) (front : List PromisePart) (p : PromisePart) → IsSoundPromise ds p → was_promised p.a p.b front ≡ false → is_bad_pair (map plain_device ds) front p ≡ false
good_pair ds front p s fresh = rw (plain_tor_name ds p.a, plain_tor_name ds p.b, s.a_tor, s.b_tor, s.apart, fresh) refl

-- the devices, then the links, then the promises of a group
module _ (gs : Ended) (p : Parts) (s : IsSoundDraftGroup (drafted p)) where
  abbrev pub with_devices : List DevicePart → Draft
  with_devices front = sections gs (group_with p.name (map plain_device front) [] [] nothing_noted)

  abbrev pub with_links : List LinkPart → Draft
  with_links front = sections gs (group_with p.name (map plain_device p.devices) (map plain_link front) [] nothing_noted)

  abbrev pub with_promises : List PromisePart → Draft
  with_promises front = sections gs (group_with p.name (map plain_device p.devices) (map plain_link p.links) front nothing_noted)

  device_printed : (front : List DevicePart) (d : DevicePart) (behind : List DevicePart) → front ++ d ∷ behind ≡ p.devices → Prints (with_devices front) (device_words d ∷ []) (with_devices (front ++ d ∷ []))
  device_printed front d behind is =
      let spelled : is_name d.name ≡ true = amid (λ (d : DevicePart). is_name d.name ≡ true) p.devices front d behind is (each_spelled (λ (d : DevicePart). d.name) p.devices s.spelled_devices) in
      let new : is_among d.name (device_names (map plain_device front)) ≡ false = ap (is_among d.name) (plain_device_names front) ∙ device_new p.devices (link_names p.links) front d behind is s.named in
      let fresh : (is_among d.name (device_names (map plain_device front)) || false) ≡ false = rw new refl in
      let line = device_line_again (group_with p.name (map plain_device front) [] [] nothing_noted) d spelled fresh (device_room p.devices front d behind is s.few_devices s.few_tors) in
      subst (λ (ds : List DevicePart). Prints (with_devices front) (device_words d ∷ []) (sections gs (group_with p.name ds [] [] nothing_noted))) (sym (map_push plain_device front d))
      (prints_line (with_devices front) (device_words d) _ (device_taken gs _ _ _ line) (literal (codes "device") refl refl, (name_word d.name spelled, (tor_is_word d.tor, tt))))

  pub devices_printed : Prints (with_devices []) (map device_words p.devices) (with_devices p.devices)
  devices_printed = lined p.devices (λ front left. with_devices front) device_words device_printed

  known_names : device_names (map plain_device p.devices) ≡ device_names p.devices
  known_names = plain_device_names p.devices

  end_spelled : (name : List ℕ) → is_among name (device_names p.devices) ≡ true → is_name name ≡ true
  end_spelled name known = found_spelled name (device_names p.devices) s.spelled_devices known

  link_printed : (front : List LinkPart) (l : LinkPart) (behind : List LinkPart) → front ++ l ∷ behind ≡ p.links → Prints (with_links front) (link_words l ∷ []) (with_links (front ++ l ∷ []))
  link_printed front l behind is =
      let spelled : is_name l.name ≡ true = amid (λ (l : LinkPart). is_name l.name ≡ true) p.links front l behind is (each_spelled (λ (l : LinkPart). l.name) p.links s.spelled_links) in
      let sound : IsSoundLink (device_names p.devices) l = amid (IsSoundLink (device_names p.devices)) p.links front l behind is s.links in
      let new = link_new (device_names p.devices) p.links front l behind is s.named in
      let fresh : (is_among l.name (device_names (map plain_device p.devices)) || is_among l.name (link_names (map plain_link front))) ≡ false = rw (known_names, plain_link_names front, new.no_device, new.no_link) refl in
      let most = leb-true l.capacity MAX_CAPACITY (both (nat_le 1 l.capacity) (nat_le l.capacity MAX_CAPACITY) sound.capacity).1 in
      let small : l.capacity < 2 ^ 32 = omega arith in
      let low : length front < length p.links = length_amid p.links front l behind is in
      let few = s.few_links in
      let room : nat_lt (length (map plain_link front)) MAX_LINKS ≡ true = rw (length-map front plain_link) (less (length front) MAX_LINKS (omega arith)) in
      let a = end_spelled l.a.name sound.a_known in
      let b = end_spelled l.b.name sound.b_known in
      let line = link_line_again (group_with p.name (map plain_device p.devices) (map plain_link front) [] nothing_noted) l spelled fresh a b (subst (λ (ns : List (List ℕ)). IsSoundLink ns l) (sym known_names) sound) small room in
      subst (λ (ls : List LinkPart). Prints (with_links front) (link_words l ∷ []) (sections gs (group_with p.name (map plain_device p.devices) ls [] nothing_noted))) (sym (map_push plain_link front l))
      (prints_line (with_links front) (link_words l) _ (link_taken gs _ _ _ line) (literal (codes "link") refl refl, (name_word l.name spelled, (name_word l.a.name a, (name_word l.b.name b, (number_is_word l.capacity small, tt))))))

  pub links_printed : Prints (with_links []) (map link_words p.links) (with_links p.links)
  links_printed = lined p.links (λ front left. with_links front) link_words link_printed

  promise_printed : (front : List PromisePart) (q : PromisePart) (behind : List PromisePart) → front ++ q ∷ behind ≡ p.promises → Prints (with_promises front) (promise_words q ∷ []) (with_promises (front ++ q ∷ []))
  promise_printed front q behind is =
      let sound : IsSoundPromise p.devices q = amid (IsSoundPromise p.devices) p.promises front q behind is s.promises in
      let a_known = tor_known p.devices q.a sound.a_tor in
      let b_known = tor_known p.devices q.b sound.b_tor in
      let a = end_spelled q.a a_known in
      let b = end_spelled q.b b_known in
      let other : was_promised q.a q.b front ≡ false = other_behind [] front q behind (subst (AreOtherPairs []) (sym is) s.pairs) in
      let most = leb-true q.percent MAX_PERCENT sound.share in
      let small : q.percent < 2 ^ 32 = omega arith in
      let low : length front < length p.promises = length_amid p.promises front q behind is in
      let few = s.few_promises in
      let share : (nat_le 0 q.percent && nat_le q.percent MAX_PERCENT) ≡ true = rw (at_most 0 q.percent (omega arith), sound.share) refl in
      let line = promise_line_again (group_with p.name (map plain_device p.devices) (map plain_link p.links) front nothing_noted) q a b (ap (is_among q.a) known_names ∙ a_known) (ap (is_among q.b) known_names ∙ b_known) share small (good_pair p.devices front q sound other) (less (length front) MAX_PROMISES (omega arith)) in
      prints_line (with_promises front) (promise_words q) _ (promise_taken gs _ _ _ line) (literal (codes "promise") refl refl, (name_word q.a a, (name_word q.b b, (number_is_word q.percent small, tt))))

  pub promises_printed : Prints (with_promises []) (map promise_words p.promises) (with_promises p.promises)
  promises_printed = lined p.promises (λ front left. with_promises front) promise_words promise_printed
