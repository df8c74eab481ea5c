-- The data of a page, read back: entry by entry what is told of an entity is its state.
use Rattle.std.proofs.Common.{append_assoc, ◌≡◌, ◌∙◌, ◌+◌, ◌-◌, ◌<◌, ◌≤◌, ℕ, zero, suc, List, [], ◌∷◌, ◌++◌, true, false, Bool, true≢false, refl, sym, ap, ap₂, subst, codes, length, map, get_or, take, drop, arith}
use Rattle.std.specs.Prelude.{Option, Some, None, bytes_eq, is_some, nat_le, not, option_and_then, option_map, ◌||◌, ◌==◌, reverse, if◌then◌else◌}
use Rattle.std.specs.List.{list_any, position_or_len}
use Rattle.std.specs.Option.{option_or}
use Rattle.std.proofs.lemmas.Bool.Decides.{nat_tests}
use Rattle.std.proofs.lemmas.List.{get_or-map, length-append, length-drop, length-map, reverse-append, take-append-le, take_min, drop_min}
use Rattle.std.proofs.lemmas.List.Sums.{sum_by-cons}
use Rattle.std.proofs.Math.Seq.{take-add}
use Rattle.serde_json.specs.Data.{Data, Members, no_members, put, string}
use Rattle.serde_json.specs.Find.{at, get, get_item, get_member}
use Rattle.serde_json.specs.View.{items_of}
use Rattle.serde_json.proofs.Views.{get_member-put, get_member-put_other}
use Rattle.st_net.specs.declared.entity.Entity.{Entity}
use Rattle.st_net.specs.declared.entity.Entity.TheVariants.{Device, Link}
use Rattle.st_net.specs.Groups.{Group, IsEntityOf}
use Rattle.st_net.specs.InOrder.{entities_of, place_in}
use Rattle.st_net.proofs.EntityOrder.{device_at, entities_count, link_at}
use Rattle.st_event.specs.declared.journal.Entry.{Entry}
use Rattle.st_player.specs.declared.state.State.{State}
use Rattle.st_player.specs.Causes.{causes_of}
use Rattle.st_player.specs.Entries.{about, asked_of, entry_data, entry_words, line_of, told_data, turned_of}
use Rattle.st_player.specs.Fields.{change_data, changes_from, fields_between, has_field, state_data}
use Rattle.st_player.specs.Json.{list_data, number_data, numbers_data, put_list, put_some, put_where}
use Rattle.st_player.specs.Laws.{LongestFits, NoEntryIsLost, StatesPlayBack}
use Rattle.st_player.specs.Pictures.{after, begun_data, bytes_of, entries_data, first_of, fitting, group_data, is_known, is_same_state, kind_in, kinds_of, kinds_on, kinds_with, lost_data, opening_data, shown_entries, size_of, with_shown}
use Rattle.st_player.specs.PlayedBack.{at_place, entries_in, first_in, in_changes, in_set, is_number, last_told, told_by_entry, told_by_opening}
use Rattle.st_player.specs.Refusals.{refused_of}
use Rattle.st_player.specs.Snapshots.{Shown, shown_of, states_of}
use Rattle.st_player.specs.States.{state_of}
use Rattle.st_player.proofs.GroupParts.{after_first, behind_first, entries_told, first_told, opening_told, total_told}
use Rattle.st_player.proofs.PartLemmas.{not_same, not_so, other_key}
use Rattle.st_player.proofs.StateParts.{change_of, change_over, same_as_itself, same_state}

pub equal_number : (n m : ℕ) → m ≡ n → is_number n (Some (number_data m)) ≡ true
equal_number n m is = grind (arith, nat_tests)

pub other_number : (n m : ℕ) → (m ≡ n → ⊥) → is_number n (Some (number_data m)) ≡ false
other_number n m apart = grind (arith, nat_tests)

-- changes of entities behind tell nothing of one before them
none_before : (k : List ℕ) (n m : ℕ) (olds news : List State) → n < m → in_changes k n (items_of (changes_from m olds news)) ≡ None
none_before k n m [] news low = refl
none_before k n m (old ∷ olds) [] low = refl
none_before k n m (old ∷ olds) (new ∷ news) low = by_change (has_field (fields_between old new)) (none_before k n (suc m) olds news (omega (arith, low)))
  where
    other : is_number n (get (codes "entity") (change_data m old new)) ≡ false
    other = ap (is_number n) (change_of m old new) ∙ other_number n m (λ is. omega (arith, is, low))

    by_change : (differs : Bool) → in_changes k n (items_of (changes_from (suc m) olds news)) ≡ None
        → in_changes k n (items_of (if differs then change_data m old new ∷ changes_from (suc m) olds news else changes_from (suc m) olds news)) ≡ None
    by_change true rest = ap (λ (is : Bool). if is then get k (change_data m old new) else in_changes k n (items_of (changes_from (suc m) olds news))) other ∙ rest
    by_change false rest = rest

-- what changes tell of an entity: what its own change tells, where it has one
abbrev change_tells : List ℕ → ℕ → State → State → Option Data
change_tells k n old new = if has_field (fields_between old new) then get k (change_data n old new) else None

its_change : (k : List ℕ) (n m i : ℕ) (olds news : List State) (d : State) → length olds ≡ length news → n ≡ m + i → i < length olds
    → in_changes k n (items_of (changes_from m olds news)) ≡ change_tells k n (get_or olds i d) (get_or news i d)
its_change k n m i [] news d count at low = absurd (omega (arith, low))
its_change k n m i (old ∷ olds) [] d count at low = absurd (omega (arith, count))
its_change k n m zero (old ∷ olds) (new ∷ news) d count at low = by_change (has_field (fields_between old new))
  where
    same : m ≡ n
    same = omega (arith, at)

    here : is_number n (get (codes "entity") (change_data m old new)) ≡ true
    here = ap (is_number n) (change_of m old new) ∙ equal_number n m same

    by_change : (differs : Bool) → in_changes k n (items_of (if differs then change_data m old new ∷ changes_from (suc m) olds news else changes_from (suc m) olds news)) ≡ (if differs then get k (change_data n old new) else None)
    by_change true =
        ap (λ (is : Bool). if is then get k (change_data m old new) else in_changes k n (items_of (changes_from (suc m) olds news))) here
        ∙ ap (λ (j : ℕ). get k (change_data j old new)) same
    by_change false = none_before k n (suc m) olds news (omega (arith, same))
its_change k n m (suc i) (old ∷ olds) (new ∷ news) d count at low = by_change (has_field (fields_between old new)) (its_change k n (suc m) i olds news d (omega (arith, count)) (omega (arith, at)) (omega (arith, low)))
  where
    other : is_number n (get (codes "entity") (change_data m old new)) ≡ false
    other = ap (is_number n) (change_of m old new) ∙ other_number n m (λ is. omega (arith, is, at))

    by_change : (differs : Bool) → in_changes k n (items_of (changes_from (suc m) olds news)) ≡ change_tells k n (get_or olds i d) (get_or news i d)
        → in_changes k n (items_of (if differs then change_data m old new ∷ changes_from (suc m) olds news else changes_from (suc m) olds news)) ≡ change_tells k n (get_or olds i d) (get_or news i d)
    by_change true rest = ap (λ (is : Bool). if is then get k (change_data m old new) else in_changes k n (items_of (changes_from (suc m) olds news))) other ∙ rest
    by_change false rest = rest

-- what is put at other keys is passed by
pub apart_where : (k l : List ℕ) (b : Bool) (d : Data) (ms : Members) → bytes_eq k l ≡ false → get_member k (put_where b l d ms) ≡ get_member k ms
apart_where k l true d ms other = get_member-put_other k l d ms (not_same k l other)
apart_where k l false d ms other = refl

pub apart_some : (k l : List ℕ) (o : Option Data) (ms : Members) → bytes_eq k l ≡ false → get_member k (put_some l o ms) ≡ get_member k ms
apart_some k l None ms other = refl
apart_some k l (Some d) ms other = get_member-put_other k l d ms (not_same k l other)

pub apart_list : (k l : List ℕ) (ds : List Data) (ms : Members) → bytes_eq k l ≡ false → get_member k (put_list l ds ms) ≡ get_member k ms
apart_list k l [] ms other = refl
apart_list k l (d ∷ ds) ms other = get_member-put_other k l (list_data (d ∷ ds)) ms (not_same k l other)

-- the words of an entry have no other keys
pub not_in_words : (k : List ℕ) (g : Group) (apps : List (List ℕ)) (past : List Entry) (entry : Entry) → bytes_eq k (codes "line") ≡ false → bytes_eq k (codes "on") ≡ false → bytes_eq k (codes "asked") ≡ false → bytes_eq k (codes "refused") ≡ false
    → get_member k (entry_words g apps past entry) ≡ None
unfolding entry_words
not_in_words k g apps past entry no_line no_on no_asked no_refused =
    let line = put (codes "line") (string (line_of g apps (length past + 1) entry)) no_members in
    let on = put_list (codes "on") (map number_data (about g past entry)) line in
    let asked = put_some (codes "asked") (option_map number_data (asked_of past entry.event entry.reply)) on in
    apart_some k (codes "refused") (refused_of g past entry.event entry.reply) asked no_refused
    ∙ (apart_some k (codes "asked") (option_map number_data (asked_of past entry.event entry.reply)) on no_asked
    ∙ (apart_list k (codes "on") (map number_data (about g past entry)) line no_on
    ∙ get_member-put_other k (codes "line") (string (line_of g apps (length past + 1) entry)) no_members (not_same k (codes "line") no_line)))

set_of : (old new : Shown) (ms : Members) → get (codes "set") (told_data old new ms) ≡ get_member (codes "set") (put_list (codes "set") (changes_from 0 old.states new.states) ms)
unfolding told_data
set_of old new ms =
    let set = put_list (codes "set") (changes_from 0 old.states new.states) ms in
    let network = put_some (codes "network") (turned_of old.network new.network) set in
    let known = put_some (codes "sure") (turned_of old.sure new.sure) network in
    let version = put_where (not (old.version == new.version)) (codes "version") (number_data new.version) known in
    apart_where (codes "set") (codes "pending") (not (old.pending == new.pending)) (number_data new.pending) version refl
    ∙ (apart_where (codes "set") (codes "version") (not (old.version == new.version)) (number_data new.version) known refl
    ∙ (apart_some (codes "set") (codes "sure") (turned_of old.sure new.sure) network refl
    ∙ apart_some (codes "set") (codes "network") (turned_of old.network new.network) set refl))

set_tells : (k : List ℕ) (n : ℕ) (ds : List Data) (ms : Members) → get_member (codes "set") ms ≡ None → in_set k n (get_member (codes "set") (put_list (codes "set") ds ms)) ≡ in_changes k n (items_of ds)
set_tells k n [] ms none = ap (in_set k n) none
set_tells k n (d ∷ ds) ms none = ap (in_set k n) (get_member-put (codes "set") (list_data (d ∷ ds)) ms)

-- what an entry tells is what the changes of its states tell
entry_tells : (k : List ℕ) (n : ℕ) (g : Group) (apps : List (List ℕ)) (past : List Entry) (entry : Entry)
    → told_by_entry k n (entry_data g apps past entry) ≡ in_changes k n (items_of (changes_from 0 (states_of g past) (states_of g (entry ∷ past))))
unfolding entry_data shown_of
entry_tells k n g apps past entry =
    let words = entry_words g apps past entry in
    let changes = changes_from 0 (states_of g past) (states_of g (entry ∷ past)) in
    ap (in_set k n) (set_of (shown_of g past) (shown_of g (entry ∷ past)) words) ∙ set_tells k n changes words (not_in_words (codes "set") g apps past entry refl refl refl refl)

-- the state of an entity stands at its number
entity_at : (g : Group) (e d : Entity) → IsEntityOf g e → get_or (entities_of g) (place_in g e) d ≡ e
entity_at g (Device i) d here = sym (device_at g i d here)
entity_at g (Link i) d here =
    let n = length g.devices in
    let less : (n + i) - n ≡ i = omega arith in
    sym (link_at g (n + i) n d refl (omega arith) (omega (arith, here, entities_count g))) ∙ ap Link less

place_low : (g : Group) (e : Entity) → IsEntityOf g e → place_in g e < length (entities_of g)
place_low g (Device i) here = omega (arith, here, entities_count g)
place_low g (Link i) here = omega (arith, here, entities_count g)

state_at : (g : Group) (past : List Entry) (e : Entity) (d : State) → IsEntityOf g e → get_or (states_of g past) (place_in g e) d ≡ state_of g past e
state_at g past e d here = get_or-map (state_of g past) (entities_of g) (place_in g e) e d (place_low g e here) ∙ ap (state_of g past) (entity_at g e e here)

states_long : (g : Group) (past : List Entry) → length (states_of g past) ≡ length (entities_of g)
states_long g past = length-map (entities_of g) (state_of g past)

-- whether a state is of a link is the same after all entries
alike : (g : Group) (past more : List Entry) (e : Entity) → is_some (state_of g past e).is_open ≡ is_some (state_of g more e).is_open
unfolding state_of
alike g past more (Device i) = refl
alike g past more (Link i) = refl

change_tells_all : (k : List ℕ) (n : ℕ) (old new : State) → bytes_eq k (codes "entity") ≡ false → is_some old.is_open ≡ is_some new.is_open
    → option_or (change_tells k n old new) (get k (state_data old)) ≡ get k (state_data new)
change_tells_all k n old new other same = by_change (has_field (fields_between old new)) refl
  where
    by_change : (differs : Bool) → has_field (fields_between old new) ≡ differs → option_or (if differs then get k (change_data n old new) else None) (get k (state_data old)) ≡ get k (state_data new)
    by_change true is = change_over k n old new other same
    by_change false is = ap (λ (s : State). get k (state_data s)) (same_state old new is)

-- one entry
step_told : (k : List ℕ) (g : Group) (apps : List (List ℕ)) (past : List Entry) (entry : Entry) (e : Entity) → bytes_eq k (codes "entity") ≡ false → IsEntityOf g e
    → option_or (told_by_entry k (place_in g e) (entry_data g apps past entry)) (get k (state_data (state_of g past e))) ≡ get k (state_data (state_of g (entry ∷ past) e))
step_told k g apps past entry e other here =
    let n = place_in g e in
    let olds = states_of g past in
    let news = states_of g (entry ∷ past) in
    let old = state_of g past e in
    let new = state_of g (entry ∷ past) e in
    let count : length olds ≡ length news = states_long g past ∙ sym (states_long g (entry ∷ past)) in
    let low : n < length olds = omega (arith, place_low g e here, states_long g past) in
    let told : told_by_entry k n (entry_data g apps past entry) ≡ change_tells k n old new =
    entry_tells k n g apps past entry ∙ (its_change k n 0 n olds news old count (omega arith) low ∙ ap₂ (change_tells k n) (state_at g past e old here) (state_at g (entry ∷ past) e old here)) in
    ap (λ (o : Option Data). option_or o (get k (state_data old))) told ∙ change_tells_all k n old new other (alike g past (entry ∷ past) e)

pub back_more : (entry : Entry) (entries past : List Entry) → reverse (entry ∷ entries) ++ past ≡ reverse entries ++ (entry ∷ past)
back_more entry entries past = ap (λ (es : List Entry). es ++ past) (reverse-append (entry ∷ []) entries) ∙ append_assoc (reverse entries) (entry ∷ []) past

-- all entries
all_told : (k : List ℕ) (g : Group) (apps : List (List ℕ)) (past entries : List Entry) (e : Entity) → bytes_eq k (codes "entity") ≡ false → IsEntityOf g e
    → last_told k (place_in g e) (entries_data g apps past entries) (get k (state_data (state_of g past e))) ≡ get k (state_data (state_of g (reverse entries ++ past) e))
all_told k g apps past [] e other here = refl
all_told k g apps past (entry ∷ entries) e other here =
    ap (last_told k (place_in g e) (entries_data g apps (entry ∷ past) entries)) (step_told k g apps past entry e other here)
    ∙ (all_told k g apps (entry ∷ past) entries e other here
    ∙ ap (λ (es : List Entry). get k (state_data (state_of g es e))) (sym (back_more entry entries past)))

-- of a list in which some pass, the first that passes
first_place : {X : Type 0} (test : X → Bool) (xs : List X) (d : X) → list_any test xs ≡ true → (position_or_len test xs < length xs) × (test (get_or xs (position_or_len test xs) d) ≡ true)
first_place test [] d some = absurd (true≢false (sym some))
first_place {X} test (x ∷ xs) d some = by_test (test x) refl some (first_place test xs d)
  where
    by_test : (is : Bool) → test x ≡ is → (is || list_any test xs) ≡ true → (list_any test xs ≡ true → (position_or_len test xs < length xs) × (test (get_or xs (position_or_len test xs) d) ≡ true))
        → ((if not is then 1 + position_or_len test xs else 0) < length (x ∷ xs)) × (test (get_or (x ∷ xs) (if not is then 1 + position_or_len test xs else 0) d) ≡ true)
    by_test true is some rest = (omega arith, is)
    by_test false is some rest =
        let here = rest some in
        let next : 1 + position_or_len test xs ≡ suc (position_or_len test xs) = omega arith in
        (omega (arith, here.0), ap (λ (i : ℕ). test (get_or (x ∷ xs) i d)) next ∙ here.1)

-- each state is among the kinds
any_more : {X : Type 0} (test : X → Bool) (xs ys : List X) → list_any test xs ≡ true → list_any test (xs ++ ys) ≡ true
any_more test [] ys some = absurd (true≢false (sym some))
any_more {X} test (x ∷ xs) ys some = by_test (test x) some (any_more test xs ys)
  where
    by_test : (is : Bool) → (is || list_any test xs) ≡ true → (list_any test xs ≡ true → list_any test (xs ++ ys) ≡ true) → (is || list_any test (xs ++ ys)) ≡ true
    by_test true some rest = refl
    by_test false some rest = rest some

any_last : {X : Type 0} (test : X → Bool) (xs : List X) (x : X) → test x ≡ true → list_any test (xs ++ x ∷ []) ≡ true
any_last test [] x is = ap (λ (b : Bool). b || false) is
any_last {X} test (y ∷ xs) x is = by_test (test y) (any_last test xs x is)
  where
    by_test : (first : Bool) → list_any test (xs ++ x ∷ []) ≡ true → (first || list_any test (xs ++ x ∷ [])) ≡ true
    by_test true rest = refl
    by_test false rest = rest

kept_known : (kinds : List State) (t s : State) → is_known kinds s ≡ true → is_known (kinds_with kinds t) s ≡ true
kept_known kinds t s is = by_known (is_known kinds t)
  where
    by_known : (known : Bool) → is_known (if known then kinds else kinds ++ t ∷ []) s ≡ true
    by_known true = is
    by_known false = any_more (λ (kind : State). is_same_state kind s) kinds (t ∷ []) is

now_known : (kinds : List State) (s : State) → is_known (kinds_with kinds s) s ≡ true
now_known kinds s = by_known (is_known kinds s) refl
  where
    by_known : (known : Bool) → is_known kinds s ≡ known → is_known (if known then kinds else kinds ++ s ∷ []) s ≡ true
    by_known true is = is
    by_known false is = any_last (λ (kind : State). is_same_state kind s) kinds s (same_as_itself s)

still_known : (kinds states : List State) (s : State) → is_known kinds s ≡ true → is_known (kinds_on kinds states) s ≡ true
still_known kinds [] s is = is
still_known kinds (t ∷ states) s is = still_known (kinds_with kinds t) states s (kept_known kinds t s is)

each_known : (kinds states : List State) (i : ℕ) (d : State) → i < length states → is_known (kinds_on kinds states) (get_or states i d) ≡ true
each_known kinds [] i d low = absurd (omega (arith, low))
each_known kinds (s ∷ states) zero d low = still_known (kinds_with kinds s) states s (now_known kinds s)
each_known kinds (s ∷ states) (suc i) d low = each_known (kinds_with kinds s) states i d (omega (arith, low))

-- what there is room for is the beginning of a list
pub what_is_left : (room : ℕ) (ds : List Data) → (left : List Data) × (ds ≡ fitting room ds ++ left)
what_is_left room [] = ([], refl)
what_is_left room (d ∷ ds) = by_room (nat_le (size_of d) room) (what_is_left (room - size_of d) ds)
  where
    by_room : (fits : Bool) → (left : List Data) × (ds ≡ fitting (room - size_of d) ds ++ left) → (left : List Data) × (d ∷ ds ≡ (if fits then d ∷ fitting (room - size_of d) ds else []) ++ left)
    by_room true rest = (rest.0, ap (λ (xs : List Data). d ∷ xs) rest.1)
    by_room false rest = (d ∷ ds, refl)

data_count : (g : Group) (apps : List (List ℕ)) (past entries : List Entry) → length (entries_data g apps past entries) ≡ length entries
data_count g apps past [] = refl
data_count g apps past (entry ∷ entries) = ap suc (data_count g apps (entry ∷ past) entries)

data_front : (g : Group) (apps : List (List ℕ)) (past entries : List Entry) (m : ℕ) → take m (entries_data g apps past entries) ≡ entries_data g apps past (take m entries)
data_front g apps past [] zero = refl
data_front g apps past [] (suc m) = refl
data_front g apps past (entry ∷ entries) zero = refl
data_front g apps past (entry ∷ entries) (suc m) = ap (λ (ds : List Data). entry_data g apps past entry ∷ ds) (data_front g apps (entry ∷ past) entries m)

bytes_more : (d : Data) (ds : List Data) → bytes_of (d ∷ ds) ≡ size_of d + bytes_of ds
bytes_more d ds = sum_by-cons size_of d ds

-- what fits takes no more than the room, and the next is larger than what is left of it
pub fits_within : (room : ℕ) (ds : List Data) → bytes_of (fitting room ds) ≤ room
fits_within room [] = omega arith
fits_within room (d ∷ ds) = by_room (nat_le (size_of d) room) refl (fits_within (room - size_of d) ds)
  where
    by_room : (fits : Bool) → nat_le (size_of d) room ≡ fits → bytes_of (fitting (room - size_of d) ds) ≤ room - size_of d → bytes_of (if fits then d ∷ fitting (room - size_of d) ds else []) ≤ room
    by_room true is rest =
        let low : size_of d ≤ room = grind (arith, nat_tests) in
        subst (λ (n : ℕ). n ≤ room) (sym (bytes_more d (fitting (room - size_of d) ds))) (omega (arith, low, rest))
    by_room false is rest = omega arith

pub fits_longest : (room : ℕ) (ds : List Data) (next : Data) (later : List Data) → ds ≡ fitting room ds ++ next ∷ later → room < bytes_of (fitting room ds ++ next ∷ [])
fits_longest room [] next later is = absurd (nil_not_cons is)
  where
    nil_not_cons : {X : Type 0} {x : X} {xs : List X} → [] ≡ x ∷ xs → ⊥
    nil_not_cons is = cc
fits_longest room (d ∷ ds) next later is = by_room (nat_le (size_of d) room) refl (fits_longest (room - size_of d) ds next later) is
  where
    same_tail : {xs ys : List Data} → d ∷ xs ≡ d ∷ ys → xs ≡ ys
    same_tail is = cc

    same_head : {e : Data} {xs ys : List Data} → d ∷ xs ≡ e ∷ ys → d ≡ e
    same_head is = cc

    by_room : (fits : Bool) → nat_le (size_of d) room ≡ fits
        → (ds ≡ fitting (room - size_of d) ds ++ next ∷ later → room - size_of d < bytes_of (fitting (room - size_of d) ds ++ next ∷ []))
        → d ∷ ds ≡ (if fits then d ∷ fitting (room - size_of d) ds else []) ++ next ∷ later
        → room < bytes_of ((if fits then d ∷ fitting (room - size_of d) ds else []) ++ next ∷ [])
    by_room true is rest whole =
        let high = rest (same_tail whole) in
        subst (λ (n : ℕ). room < n) (sym (bytes_more d (fitting (room - size_of d) ds ++ next ∷ []))) (omega (arith, high))
    by_room false is rest whole =
        let high : room < size_of d = grind (arith, nat_tests) in
        let same = ap size_of (same_head whole) in
        subst (λ (n : ℕ). room < n) (sym (bytes_more next [])) (omega (arith, high, same))

behind_told : (apps : List (List ℕ)) (from room : ℕ) (g : Group) (entries : List Entry)
    → entries_data g apps (after (first_in (group_data apps from room g entries)) entries) (drop (first_in (group_data apps from room g entries)) entries) ≡ entries_data g apps (after from entries) (drop from entries)
behind_told apps from room g entries =
    ap (λ (first : ℕ). entries_data g apps (after first entries) (drop first entries)) (first_told apps from room g entries)
    ∙ ap₂ (entries_data g apps) (after_first from entries) (behind_first from entries)

pub no_entry_lost : NoEntryIsLost
unfolding shown_entries
no_entry_lost apps from room g entries =
    let ds = entries_data g apps (after from entries) (drop from entries) in
    let rest = what_is_left room ds in
    let shown = entries_told apps from room g entries in
    let first = first_told apps from room g entries in
    let whole : length ds ≡ length (fitting room ds) + length rest.0 = ap length rest.1 ∙ length-append (fitting room ds) rest.0 in
    record {
      left = rest.0;
      behind = behind_told apps from room g entries ∙ (rest.1 ∙ ap (λ (xs : List Data). xs ++ rest.0) (sym shown));
      count = omega (arith, first, ap length shown, whole, data_count g apps (after from entries) (drop from entries), length-drop from entries);
      total = total_told apps from room g entries;
    }

pub longest_fits : LongestFits
unfolding shown_entries
longest_fits apps from room g entries =
    let ds = entries_data g apps (after from entries) (drop from entries) in
    let shown : entries_in (group_data apps from room g entries) ≡ fitting room ds = entries_told apps from room g entries in
    record {
      within = subst (λ (xs : List Data). bytes_of xs ≤ room) (sym shown) (fits_within room ds);
      longest = λ next later is.
          subst (λ (xs : List Data). room < bytes_of (xs ++ next ∷ [])) (sym shown)
          (fits_longest room ds next later (sym (behind_told apps from room g entries) ∙ (is ∙ ap (λ (xs : List Data). xs ++ next ∷ later) shown)));
    }

-- an item of a list of data
item_at : (ds : List Data) (i : ℕ) (d : Data) → i < length ds → get_item i (items_of ds) ≡ Some (get_or ds i d)
item_at [] i d low = absurd (omega (arith, low))
item_at (x ∷ ds) zero d low = refl
item_at (x ∷ ds) (suc i) d low = item_at ds i d (omega (arith, low))

-- the causes of an opening stand at a key of their own
pub past_causes : (k : List ℕ) (shown : Shown) (causes : Option Data) → bytes_eq k (codes "causes") ≡ false → get k (opening_data shown causes) ≡ get_member k (with_shown shown)
unfolding opening_data
past_causes k shown causes other = apart_some k (codes "causes") causes (with_shown shown) other

-- the states of an opening, and the places among them
states_in : (shown : Shown) (causes : Option Data) → get (codes "states") (opening_data shown causes) ≡ Some (list_data (map state_data (kinds_of shown.states)))
states_in shown causes =
    let places = numbers_data (map (kind_in (kinds_of shown.states)) shown.states) in
    let kinds = list_data (map state_data (kinds_of shown.states)) in
    let states = put (codes "states") kinds no_members in
    let of = put (codes "of") places states in
    let network = put (codes "network") (lost_data shown.network) of in
    let known = put (codes "sure") (lost_data shown.sure) network in
    let version = put (codes "version") (number_data shown.version) known in
    let key = codes "states" in
    past_causes key shown causes refl
    ∙ get_member-put_other key (codes "pending") (number_data shown.pending) version (not_same key (codes "pending") refl)
    ∙ (get_member-put_other key (codes "version") (number_data shown.version) known (not_same key (codes "version") refl)
    ∙ (get_member-put_other key (codes "sure") (lost_data shown.sure) network (not_same key (codes "sure") refl)
    ∙ (get_member-put_other key (codes "network") (lost_data shown.network) of (not_same key (codes "network") refl)
    ∙ (get_member-put_other key (codes "of") places states (not_same key (codes "of") refl)
    ∙ get_member-put key kinds no_members))))

places_in : (shown : Shown) (causes : Option Data) → get (codes "of") (opening_data shown causes) ≡ Some (numbers_data (map (kind_in (kinds_of shown.states)) shown.states))
places_in shown causes =
    let places = numbers_data (map (kind_in (kinds_of shown.states)) shown.states) in
    let states = put (codes "states") (list_data (map state_data (kinds_of shown.states))) no_members in
    let of = put (codes "of") places states in
    let network = put (codes "network") (lost_data shown.network) of in
    let known = put (codes "sure") (lost_data shown.sure) network in
    let version = put (codes "version") (number_data shown.version) known in
    let key = codes "of" in
    past_causes key shown causes refl
    ∙ get_member-put_other key (codes "pending") (number_data shown.pending) version (not_same key (codes "pending") refl)
    ∙ (get_member-put_other key (codes "version") (number_data shown.version) known (not_same key (codes "version") refl)
    ∙ (get_member-put_other key (codes "sure") (lost_data shown.sure) network (not_same key (codes "sure") refl)
    ∙ (get_member-put_other key (codes "network") (lost_data shown.network) of (not_same key (codes "network") refl)
    ∙ get_member-put key places states)))

-- the state that stands for another is the same
kind_is : (states : List State) (i : ℕ) (s : State) → i < length states → get_or states i s ≡ s
    → (kind_in (kinds_of states) s < length (kinds_of states)) × (get_or (kinds_of states) (kind_in (kinds_of states) s) s ≡ s)
kind_is states i s low at =
    let known : is_known (kinds_of states) s ≡ true = ap (is_known (kinds_of states)) (sym at) ∙ each_known [] states i s low in
    let first = first_place (λ (kind : State). is_same_state kind s) (kinds_of states) s known in
    (first.0, same_state (get_or (kinds_of states) (kind_in (kinds_of states) s) s) s (not_so first.1))

-- what an opening tells of an entity is its state
state_opens : (k : List ℕ) (g : Group) (past : List Entry) (e : Entity) → IsEntityOf g e
    → at_place k (get (codes "states") (begun_data g past)) (option_and_then (at (place_in g e)) (get (codes "of") (begun_data g past))) ≡ get k (state_data (state_of g past e))
unfolding shown_of
state_opens k g past e here =
    let n = place_in g e in
    let s = state_of g past e in
    let states = states_of g past in
    let kinds = kinds_of states in
    let low : n < length states = omega (arith, place_low g e here, states_long g past) in
    let kind = kind_is states n s low (state_at g past e s here) in
    let place : get_item n (items_of (map number_data (map (kind_in kinds) states))) ≡ Some (number_data (kind_in kinds s)) =
    item_at (map number_data (map (kind_in kinds) states)) n (number_data 0) (omega (arith, low, length-map states (kind_in kinds), length-map (map (kind_in kinds) states) number_data))
    ∙ ap (λ (d : Data). Some d) (get_or-map number_data (map (kind_in kinds) states) n 0 (number_data 0) (omega (arith, low, length-map states (kind_in kinds)))
    ∙ ap number_data (get_or-map (kind_in kinds) states n s 0 low ∙ ap (kind_in kinds) (state_at g past e s here))) in
    let state : get_item (kind_in kinds s) (items_of (map state_data kinds)) ≡ Some (state_data s) =
    item_at (map state_data kinds) (kind_in kinds s) (state_data s) (omega (arith, kind.0, length-map kinds state_data))
    ∙ ap (λ (d : Data). Some d) (get_or-map state_data kinds (kind_in kinds s) s (state_data s) kind.0 ∙ ap state_data kind.1) in
    ap₂ (λ (a b : Option Data). at_place k a (option_and_then (at n) b)) (states_in (shown_of g past) (causes_of g past)) (places_in (shown_of g past) (causes_of g past))
    ∙ (ap (at_place k (Some (list_data (map state_data kinds)))) place
    ∙ ap (option_and_then (get k)) state)

-- the entries that are shown are those from the first on
pub shown_front : (g : Group) (apps : List (List ℕ)) (from room m : ℕ) (entries : List Entry) → m ≤ length (shown_entries g apps from room entries)
    → take m (shown_entries g apps from room entries) ≡ entries_data g apps (after from entries) (take m (drop from entries))
unfolding shown_entries
shown_front g apps from room m entries within =
    let ds = entries_data g apps (after from entries) (drop from entries) in
    let rest = what_is_left room ds in
    sym (take-append-le m (fitting room ds) rest.0 within) ∙ (ap (take m) (sym rest.1) ∙ data_front g apps (after from entries) (drop from entries) m)

pub shown_past : (from m : ℕ) (entries : List Entry) → reverse (take m (drop from entries)) ++ after from entries ≡ after (first_of from entries + m) entries
shown_past from m entries =
    let first : take (first_of from entries + m) entries ≡ take from entries ++ take m (drop from entries) =
    take-add (first_of from entries) m entries ∙ ap₂ (λ (xs ys : List Entry). xs ++ take m ys) (take_min from entries) (drop_min from entries) in
    sym (ap reverse first ∙ reverse-append (take from entries) (take m (drop from entries)))

-- of a group's data
pub shown_within : (apps : List (List ℕ)) (from room m : ℕ) (g : Group) (entries : List Entry) → m ≤ length (entries_in (group_data apps from room g entries)) → m ≤ length (shown_entries g apps from room entries)
shown_within apps from room m g entries within = subst (λ (ds : List Data). m ≤ length ds) (entries_told apps from room g entries) within

pub told_front : (apps : List (List ℕ)) (from room m : ℕ) (g : Group) (entries : List Entry) → m ≤ length (entries_in (group_data apps from room g entries))
    → take m (entries_in (group_data apps from room g entries)) ≡ entries_data g apps (after from entries) (take m (drop from entries))
told_front apps from room m g entries within = ap (take m) (entries_told apps from room g entries) ∙ shown_front g apps from room m entries (shown_within apps from room m g entries within)

pub told_past : (apps : List (List ℕ)) (from room m : ℕ) (g : Group) (entries : List Entry) → reverse (take m (drop from entries)) ++ after from entries ≡ after (first_in (group_data apps from room g entries) + m) entries
told_past apps from room m g entries = shown_past from m entries ∙ ap (λ (first : ℕ). after (first + m) entries) (sym (first_told apps from room g entries))

pub states_back : StatesPlayBack
states_back apps from room g entries k e m other here within =
    let told = group_data apps from room g entries in
    let opens : told_by_opening k (place_in g e) told ≡ get k (state_data (state_of g (after from entries) e)) =
    ap₂ (λ (a b : Option Data). at_place k a (option_and_then (at (place_in g e)) b)) (opening_told (codes "states") apps from room g entries) (opening_told (codes "of") apps from room g entries)
    ∙ state_opens k g (after from entries) e here in
    ap₂ (last_told k (place_in g e)) (told_front apps from room m g entries within) opens
    ∙ (all_told k g apps (after from entries) (take m (drop from entries)) e (other_key k (codes "entity") other) here
    ∙ ap (λ (es : List Entry). get k (state_data (state_of g es e))) (told_past apps from room m g entries))
