-- The data of a page, read back: the version, what waits, and which promises hold.
use Rattle.std.proofs.Common.{◌≡◌, ◌∙◌, ◌+◌, ◌<◌, ℕ, zero, suc, List, [], ◌∷◌, ◌++◌, true, false, Bool, refl, sym, ap, ap₂, codes, length, map, get_or, take, drop, arith}
use Rattle.std.specs.Prelude.{Option, Some, None, not, ◌&&◌, ◌||◌, ◌==◌, reverse, if◌then◌else◌}
use Rattle.std.specs.Option.{option_or}
use Rattle.std.proofs.lemmas.Bool.Decides.{nat_tests}
use Rattle.std.proofs.lemmas.List.{get_or-map, length-map}
use Rattle.serde_json.specs.Data.{Data, Members, no_members, put}
use Rattle.serde_json.specs.Find.{get, get_member}
use Rattle.serde_json.specs.View.{items_of}
use Rattle.serde_json.proofs.Views.{get_member-put, get_member-put_other}
use Rattle.st_net.specs.declared.entity.Entity.{Entity}
use Rattle.st_net.specs.Groups.{Group, no_promise, promise_of}
use Rattle.st_net.specs.Promises.{is_kept}
use Rattle.st_event.specs.declared.journal.Entry.{Entry}
use Rattle.st_event.specs.Observed.{actual, sure}
use Rattle.st_event.specs.Proposals.{pending, version}
use Rattle.st_player.specs.Causes.{causes_of}
use Rattle.st_player.specs.Entries.{entry_data, entry_words, lost_from, told_data, turned_data, turned_of}
use Rattle.st_player.specs.Fields.{changes_from}
use Rattle.st_player.specs.Json.{list_data, number_data, numbers_data, put_list, put_some, put_where}
use Rattle.st_player.specs.Laws.{CountsPlayBack, PromisesPlayBack}
use Rattle.st_player.specs.Pictures.{after, begun_data, entries_data, group_data, lost_data, opening_data, unkept, with_states}
use Rattle.st_player.specs.PlayedBack.{holds_after, holds_at_opening, is_among, is_back, is_listed, is_lost, is_number, last_at}
use Rattle.st_player.specs.Snapshots.{Shown, held_of, shown_of}
use Rattle.st_player.proofs.GroupParts.{opening_told}
use Rattle.st_player.proofs.PartLemmas.{not_same}
use Rattle.st_player.proofs.PlayedBack.{apart_list, apart_some, apart_where, back_more, equal_number, not_in_words, other_number, past_causes, told_front, told_past}

-- what an entry puts, from the words on
abbrev pub with_set : Shown → Shown → Members → Members
with_set old new ms = put_list (codes "set") (changes_from 0 old.states new.states) ms

abbrev pub with_network : Shown → Shown → Members → Members
with_network old new ms = put_some (codes "network") (turned_of old.network new.network) (with_set old new ms)

abbrev pub with_sure : Shown → Shown → Members → Members
with_sure old new ms = put_some (codes "sure") (turned_of old.sure new.sure) (with_network old new ms)

abbrev pub with_version : Shown → Shown → Members → Members
with_version old new ms = put_where (not (old.version == new.version)) (codes "version") (number_data new.version) (with_sure old new ms)

pub told_all : (k : List ℕ) (old new : Shown) (ms : Members) → get k (told_data old new ms) ≡ get_member k (put_where (not (old.pending == new.pending)) (codes "pending") (number_data new.pending) (with_version old new ms))
unfolding told_data
told_all k old new ms = refl

-- a number that is put where it differs
count_put : (k : List ℕ) (old new : ℕ) (ms : Members) → get_member k ms ≡ None → option_or (get_member k (put_where (not (old == new)) k (number_data new) ms)) (Some (number_data old)) ≡ Some (number_data new)
count_put k old new ms none = by_same (old == new) refl
  where
    by_same : (same : Bool) → (old == new) ≡ same → option_or (get_member k (put_where (not same) k (number_data new) ms)) (Some (number_data old)) ≡ Some (number_data new)
    by_same true is =
        let equal : old ≡ new = grind (arith, nat_tests) in
        ap (λ (o : Option Data). option_or o (Some (number_data old))) none ∙ ap (λ (n : ℕ). Some (number_data n)) equal
    by_same false is = ap (λ (o : Option Data). option_or o (Some (number_data old))) (get_member-put k (number_data new) ms)

no_version : (old new : Shown) (ms : Members) → get_member (codes "version") ms ≡ None → get_member (codes "version") (with_sure old new ms) ≡ None
no_version old new ms none =
    apart_some (codes "version") (codes "sure") (turned_of old.sure new.sure) (with_network old new ms) refl
    ∙ (apart_some (codes "version") (codes "network") (turned_of old.network new.network) (with_set old new ms) refl
    ∙ (apart_list (codes "version") (codes "set") (changes_from 0 old.states new.states) ms refl ∙ none))

no_pending : (old new : Shown) (ms : Members) → get_member (codes "pending") ms ≡ None → get_member (codes "pending") (with_version old new ms) ≡ None
no_pending old new ms none =
    apart_where (codes "pending") (codes "version") (not (old.version == new.version)) (number_data new.version) (with_sure old new ms) refl
    ∙ (apart_some (codes "pending") (codes "sure") (turned_of old.sure new.sure) (with_network old new ms) refl
    ∙ (apart_some (codes "pending") (codes "network") (turned_of old.network new.network) (with_set old new ms) refl
    ∙ (apart_list (codes "pending") (codes "set") (changes_from 0 old.states new.states) ms refl ∙ none)))

version_step : (g : Group) (apps : List (List ℕ)) (past : List Entry) (entry : Entry) → option_or (get (codes "version") (entry_data g apps past entry)) (Some (number_data (version past))) ≡ Some (number_data (version (entry ∷ past)))
unfolding entry_data shown_of
version_step g apps past entry =
    let old = shown_of g past in
    let new = shown_of g (entry ∷ past) in
    let words = entry_words g apps past entry in
    ap (λ (o : Option Data). option_or o (Some (number_data (version past))))
    (told_all (codes "version") old new words ∙ apart_where (codes "version") (codes "pending") (not (old.pending == new.pending)) (number_data new.pending) (with_version old new words) refl)
    ∙ count_put (codes "version") (version past) (version (entry ∷ past)) (with_sure old new words) (no_version old new words (not_in_words (codes "version") g apps past entry refl refl refl refl))

pending_step : (g : Group) (apps : List (List ℕ)) (past : List Entry) (entry : Entry) → option_or (get (codes "pending") (entry_data g apps past entry)) (Some (number_data (length (pending past)))) ≡ Some (number_data (length (pending (entry ∷ past))))
unfolding entry_data shown_of
pending_step g apps past entry =
    let old = shown_of g past in
    let new = shown_of g (entry ∷ past) in
    let words = entry_words g apps past entry in
    ap (λ (o : Option Data). option_or o (Some (number_data (length (pending past))))) (told_all (codes "pending") old new words)
    ∙ count_put (codes "pending") (length (pending past)) (length (pending (entry ∷ past))) (with_version old new words) (no_pending old new words (not_in_words (codes "pending") g apps past entry refl refl refl refl))

-- all entries
counts_told : (k : List ℕ) (count : List Entry → ℕ) (g : Group) (apps : List (List ℕ)) (past entries : List Entry)
    → ((past : List Entry) (entry : Entry) → option_or (get k (entry_data g apps past entry)) (Some (number_data (count past))) ≡ Some (number_data (count (entry ∷ past))))
    → last_at k (entries_data g apps past entries) (Some (number_data (count past))) ≡ Some (number_data (count (reverse entries ++ past)))
counts_told k count g apps past [] step = refl
counts_told k count g apps past (entry ∷ entries) step =
    ap (last_at k (entries_data g apps (entry ∷ past) entries)) (step past entry)
    ∙ (counts_told k count g apps (entry ∷ past) entries step ∙ ap (λ (es : List Entry). Some (number_data (count es))) (sym (back_more entry entries past)))

-- what stands in an opening
abbrev to_sure : Shown → Members
to_sure shown = put (codes "sure") (lost_data shown.sure) (put (codes "network") (lost_data shown.network) (with_states shown.states no_members))

opening_version : (g : Group) (past : List Entry) → get (codes "version") (begun_data g past) ≡ Some (number_data (version past))
unfolding shown_of
opening_version g past =
    let shown = shown_of g past in
    past_causes (codes "version") shown (causes_of g past) refl
    ∙ get_member-put_other (codes "version") (codes "pending") (number_data shown.pending) (put (codes "version") (number_data shown.version) (to_sure shown)) (not_same (codes "version") (codes "pending") refl)
    ∙ get_member-put (codes "version") (number_data shown.version) (to_sure shown)

opening_pending : (g : Group) (past : List Entry) → get (codes "pending") (begun_data g past) ≡ Some (number_data (length (pending past)))
unfolding shown_of
opening_pending g past =
    let shown = shown_of g past in
    past_causes (codes "pending") shown (causes_of g past) refl
    ∙ get_member-put (codes "pending") (number_data shown.pending) (put (codes "version") (number_data shown.version) (to_sure shown))

pub counts_back : CountsPlayBack
counts_back apps from room g entries m within =
    let front = told_front apps from room m g entries within in
    let whole = told_past apps from room m g entries in
    let past = after from entries in
    let more = take m (drop from entries) in (
      ap₂ (last_at (codes "version")) front (opening_told (codes "version") apps from room g entries ∙ opening_version g past)
          ∙ (counts_told (codes "version") version g apps past more (version_step g apps) ∙ ap (λ (es : List Entry). Some (number_data (version es))) whole),
      ap₂ (last_at (codes "pending")) front (opening_told (codes "pending") apps from room g entries ∙ opening_pending g past)
          ∙ (counts_told (codes "pending") (λ (es : List Entry). length (pending es)) g apps past more (pending_step g apps) ∙ ap (λ (es : List Entry). Some (number_data (length (pending es)))) whole),
    )

-- promises behind are not listed
none_below : (i n : ℕ) (before after : List Bool) → i < n → is_among i (items_of (map number_data (lost_from n before after))) ≡ false
none_below i n [] after low = refl
none_below i n (b ∷ before) [] low = refl
none_below i n (b ∷ before) (a ∷ after) low = by_lost (b && not a) (none_below i (suc n) before after (omega (arith, low)))
  where
    other : is_number i (Some (number_data n)) ≡ false
    other = other_number i n (λ is. omega (arith, is, low))

    by_lost : (lost : Bool) → is_among i (items_of (map number_data (lost_from (suc n) before after))) ≡ false
        → is_among i (items_of (map number_data (if lost then n ∷ lost_from (suc n) before after else lost_from (suc n) before after))) ≡ false
    by_lost true rest = ap (λ (is : Bool). is || is_among i (items_of (map number_data (lost_from (suc n) before after)))) other ∙ rest
    by_lost false rest = rest

-- a promise is listed where it holds before and not after
listed : (i n j : ℕ) (before after : List Bool) → length before ≡ length after → i ≡ n + j → j < length before
    → is_among i (items_of (map number_data (lost_from n before after))) ≡ (get_or before j false && not (get_or after j false))
listed i n j [] after count at low = absurd (omega (arith, low))
listed i n j (b ∷ before) [] count at low = absurd (omega (arith, count))
listed i n zero (b ∷ before) (a ∷ after) count at low = by_lost (b && not a)
  where
    same : n ≡ i
    same = omega (arith, at)

    by_lost : (lost : Bool) → is_among i (items_of (map number_data (if lost then n ∷ lost_from (suc n) before after else lost_from (suc n) before after))) ≡ lost
    by_lost true = ap (λ (is : Bool). is || is_among i (items_of (map number_data (lost_from (suc n) before after)))) (equal_number i n same)
    by_lost false = none_below i (suc n) before after (omega (arith, same))
listed i n (suc j) (b ∷ before) (a ∷ after) count at low = by_lost (b && not a) (listed i (suc n) j before after (omega (arith, count)) (omega (arith, at)) (omega (arith, low)))
  where
    other : is_number i (Some (number_data n)) ≡ false
    other = other_number i n (λ is. omega (arith, is, at))

    by_lost : (lost : Bool) → is_among i (items_of (map number_data (lost_from (suc n) before after))) ≡ (get_or before j false && not (get_or after j false))
        → is_among i (items_of (map number_data (if lost then n ∷ lost_from (suc n) before after else lost_from (suc n) before after))) ≡ (get_or before j false && not (get_or after j false))
    by_lost true rest = ap (λ (is : Bool). is || is_among i (items_of (map number_data (lost_from (suc n) before after)))) other ∙ rest
    by_lost false rest = rest

-- what is told of promises that turned
list_in : (i : ℕ) (k : List ℕ) (ns : List ℕ) (ms : Members) → get_member k ms ≡ None → is_listed i (get_member k (put_list k (map number_data ns) ms)) ≡ is_among i (items_of (map number_data ns))
list_in i k [] ms none = ap (is_listed i) none
list_in i k (n ∷ ns) ms none = ap (is_listed i) (get_member-put k (list_data (map number_data (n ∷ ns))) ms)

lost_here : (i : ℕ) (lost back : List ℕ) → is_listed i (get_member (codes "lost") (put_list (codes "back") (map number_data back) (put_list (codes "lost") (map number_data lost) no_members))) ≡ is_among i (items_of (map number_data lost))
lost_here i lost back =
    ap (is_listed i) (apart_list (codes "lost") (codes "back") (map number_data back) (put_list (codes "lost") (map number_data lost) no_members) refl)
    ∙ list_in i (codes "lost") lost no_members refl

back_here : (i : ℕ) (lost back : List ℕ) → is_listed i (get_member (codes "back") (put_list (codes "back") (map number_data back) (put_list (codes "lost") (map number_data lost) no_members))) ≡ is_among i (items_of (map number_data back))
back_here i lost back =
    list_in i (codes "back") back (put_list (codes "lost") (map number_data lost) no_members) (apart_list (codes "back") (codes "lost") (map number_data lost) no_members refl)

lost_told : (i : ℕ) (lost back : List ℕ) → is_lost i (turned_data lost back) ≡ is_among i (items_of (map number_data lost))
lost_told i [] [] = refl
lost_told i [] (n ∷ back) = lost_here i [] (n ∷ back)
lost_told i (m ∷ lost) [] = lost_here i (m ∷ lost) []
lost_told i (m ∷ lost) (n ∷ back) = lost_here i (m ∷ lost) (n ∷ back)

back_told : (i : ℕ) (lost back : List ℕ) → is_back i (turned_data lost back) ≡ is_among i (items_of (map number_data back))
back_told i [] [] = refl
back_told i [] (n ∷ back) = back_here i [] (n ∷ back)
back_told i (m ∷ lost) [] = back_here i (m ∷ lost) []
back_told i (m ∷ lost) (n ∷ back) = back_here i (m ∷ lost) (n ∷ back)

-- so it holds after an entry exactly where it does
turn_is : (b a : Bool) → (if b && not a then false else (if a && not b then true else b)) ≡ a
turn_is true true = refl
turn_is true false = refl
turn_is false true = refl
turn_is false false = refl

abbrev turned_by : ℕ → Option Data → Bool → Bool
turned_by i told before = if is_lost i told then false else (if is_back i told then true else before)

turned_told : (i : ℕ) (before after : List Bool) → length before ≡ length after → i < length before → turned_by i (turned_of before after) (get_or before i false) ≡ get_or after i false
turned_told i before after count low =
    let lost = lost_told i (lost_from 0 before after) (lost_from 0 after before) ∙ listed i 0 i before after count (omega arith) low in
    let back = back_told i (lost_from 0 before after) (lost_from 0 after before) ∙ listed i 0 i after before (sym count) (omega arith) (omega (arith, count, low)) in
    ap₂ (λ (l k : Bool). if l then false else (if k then true else get_or before i false)) lost back ∙ turn_is (get_or before i false) (get_or after i false)

-- what an entry tells of the network and of the sure set
pub some_put : (k : List ℕ) (o : Option Data) (ms : Members) → get_member k ms ≡ None → get_member k (put_some k o ms) ≡ o
some_put k None ms none = none
some_put k (Some d) ms none = get_member-put k d ms

network_in : (g : Group) (apps : List (List ℕ)) (past : List Entry) (entry : Entry) → get (codes "network") (entry_data g apps past entry) ≡ turned_of (held_of g past actual) (held_of g (entry ∷ past) actual)
unfolding entry_data shown_of
network_in g apps past entry =
    let old = shown_of g past in
    let new = shown_of g (entry ∷ past) in
    let words = entry_words g apps past entry in
    told_all (codes "network") old new words
    ∙ (apart_where (codes "network") (codes "pending") (not (old.pending == new.pending)) (number_data new.pending) (with_version old new words) refl
    ∙ (apart_where (codes "network") (codes "version") (not (old.version == new.version)) (number_data new.version) (with_sure old new words) refl
    ∙ (apart_some (codes "network") (codes "sure") (turned_of old.sure new.sure) (with_network old new words) refl
    ∙ some_put (codes "network") (turned_of old.network new.network) (with_set old new words)
    (apart_list (codes "network") (codes "set") (changes_from 0 old.states new.states) words refl ∙ not_in_words (codes "network") g apps past entry refl refl refl refl))))

sure_in : (g : Group) (apps : List (List ℕ)) (past : List Entry) (entry : Entry) → get (codes "sure") (entry_data g apps past entry) ≡ turned_of (held_of g past sure) (held_of g (entry ∷ past) sure)
unfolding entry_data shown_of
sure_in g apps past entry =
    let old = shown_of g past in
    let new = shown_of g (entry ∷ past) in
    let words = entry_words g apps past entry in
    told_all (codes "sure") old new words
    ∙ (apart_where (codes "sure") (codes "pending") (not (old.pending == new.pending)) (number_data new.pending) (with_version old new words) refl
    ∙ (apart_where (codes "sure") (codes "version") (not (old.version == new.version)) (number_data new.version) (with_sure old new words) refl
    ∙ some_put (codes "sure") (turned_of old.sure new.sure) (with_network old new words)
    (apart_some (codes "sure") (codes "network") (turned_of old.network new.network) (with_set old new words) refl
    ∙ (apart_list (codes "sure") (codes "set") (changes_from 0 old.states new.states) words refl ∙ not_in_words (codes "sure") g apps past entry refl refl refl refl))))

held_long : (g : Group) (past : List Entry) (up : Group → List Entry → Entity → Bool) → length (held_of g past up) ≡ length g.promises
held_long g past up = length-map g.promises (is_kept g (up g past))

held_at : (g : Group) (past : List Entry) (up : Group → List Entry → Entity → Bool) (i : ℕ) → i < length g.promises → get_or (held_of g past up) i false ≡ is_kept g (up g past) (promise_of g i)
held_at g past up i low = get_or-map (is_kept g (up g past)) g.promises i no_promise false low

-- one entry, and all
held_step : (k : List ℕ) (up : Group → List Entry → Entity → Bool) (g : Group) (apps : List (List ℕ)) (past : List Entry) (entry : Entry) (i : ℕ) → i < length g.promises
    → get k (entry_data g apps past entry) ≡ turned_of (held_of g past up) (held_of g (entry ∷ past) up)
    → turned_by i (get k (entry_data g apps past entry)) (is_kept g (up g past) (promise_of g i)) ≡ is_kept g (up g (entry ∷ past)) (promise_of g i)
held_step k up g apps past entry i low told =
    let old = held_of g past up in
    let new = held_of g (entry ∷ past) up in
    ap₂ (turned_by i) told (sym (held_at g past up i low))
    ∙ (turned_told i old new (held_long g past up ∙ sym (held_long g (entry ∷ past) up)) (omega (arith, low, held_long g past up)) ∙ held_at g (entry ∷ past) up i low)

held_told : (k : List ℕ) (up : Group → List Entry → Entity → Bool) (g : Group) (apps : List (List ℕ)) (past entries : List Entry) (i : ℕ) → i < length g.promises
    → ((past : List Entry) (entry : Entry) → get k (entry_data g apps past entry) ≡ turned_of (held_of g past up) (held_of g (entry ∷ past) up))
    → holds_after k i (entries_data g apps past entries) (is_kept g (up g past) (promise_of g i)) ≡ is_kept g (up g (reverse entries ++ past)) (promise_of g i)
held_told k up g apps past [] i low told = refl
held_told k up g apps past (entry ∷ entries) i low told =
    ap (holds_after k i (entries_data g apps (entry ∷ past) entries)) (held_step k up g apps past entry i low (told past entry))
    ∙ (held_told k up g apps (entry ∷ past) entries i low told ∙ ap (λ (es : List Entry). is_kept g (up g es) (promise_of g i)) (sym (back_more entry entries past)))

-- at an opening
unkept_at : (i : ℕ) (held : List Bool) → i < length held → not (is_lost i (Some (lost_data held))) ≡ get_or held i false
unkept_at i held low =
    let all = map (λ (b : Bool). true) held in
    let long : length all ≡ length held = length-map held (λ (b : Bool). true) in
    let here : is_lost i (Some (lost_data held)) ≡ (get_or all i false && not (get_or held i false)) =
    ap (is_listed i) (get_member-put (codes "lost") (numbers_data (unkept held)) no_members) ∙ listed i 0 i all held long (omega arith) (omega (arith, low, long)) in
    let one : get_or all i false ≡ true = get_or-map (λ (b : Bool). true) held i false false low in
    ap not (here ∙ ap (λ (b : Bool). b && not (get_or held i false)) one) ∙ twice (get_or held i false)
  where
    twice : (b : Bool) → not (not b) ≡ b
    twice true = refl
    twice false = refl

opening_network : (shown : Shown) (causes : Option Data) → get (codes "network") (opening_data shown causes) ≡ Some (lost_data shown.network)
opening_network shown causes =
    let key = codes "network" in
    let states = with_states shown.states no_members in
    let network = put key (lost_data shown.network) states in
    let version = put (codes "version") (number_data shown.version) (to_sure shown) in
    past_causes key shown causes refl
    ∙ get_member-put_other key (codes "pending") (number_data shown.pending) version (not_same key (codes "pending") refl)
    ∙ (get_member-put_other key (codes "version") (number_data shown.version) (to_sure shown) (not_same key (codes "version") refl)
    ∙ (get_member-put_other key (codes "sure") (lost_data shown.sure) network (not_same key (codes "sure") refl)
    ∙ get_member-put key (lost_data shown.network) states))

opening_sure : (shown : Shown) (causes : Option Data) → get (codes "sure") (opening_data shown causes) ≡ Some (lost_data shown.sure)
opening_sure shown causes =
    let key = codes "sure" in
    let network = put (codes "network") (lost_data shown.network) (with_states shown.states no_members) in
    let version = put (codes "version") (number_data shown.version) (to_sure shown) in
    past_causes key shown causes refl
    ∙ get_member-put_other key (codes "pending") (number_data shown.pending) version (not_same key (codes "pending") refl)
    ∙ (get_member-put_other key (codes "version") (number_data shown.version) (to_sure shown) (not_same key (codes "version") refl)
    ∙ get_member-put key (lost_data shown.sure) network)

network_opens : (g : Group) (past : List Entry) (i : ℕ) → i < length g.promises → not (is_lost i (get (codes "network") (begun_data g past))) ≡ is_kept g (actual g past) (promise_of g i)
unfolding shown_of
network_opens g past i low =
    ap (λ (o : Option Data). not (is_lost i o)) (opening_network (shown_of g past) (causes_of g past))
    ∙ (unkept_at i (held_of g past actual) (omega (arith, low, held_long g past actual)) ∙ held_at g past actual i low)

sure_opens : (g : Group) (past : List Entry) (i : ℕ) → i < length g.promises → not (is_lost i (get (codes "sure") (begun_data g past))) ≡ is_kept g (sure g past) (promise_of g i)
unfolding shown_of
sure_opens g past i low =
    ap (λ (o : Option Data). not (is_lost i o)) (opening_sure (shown_of g past) (causes_of g past))
    ∙ (unkept_at i (held_of g past sure) (omega (arith, low, held_long g past sure)) ∙ held_at g past sure i low)

pub promises_back : PromisesPlayBack
promises_back apps from room g entries i m low within =
    let past = after from entries in
    let more = take m (drop from entries) in
    let front = told_front apps from room m g entries within in
    let whole = told_past apps from room m g entries in
    let opens : (key : List ℕ) → holds_at_opening key i (group_data apps from room g entries) ≡ not (is_lost i (get key (begun_data g past))) =
    λ key. ap (λ (o : Option Data). not (is_lost i o)) (opening_told key apps from room g entries) in (
      ap₂ (holds_after (codes "network") i) front (opens (codes "network") ∙ network_opens g past i low)
          ∙ (held_told (codes "network") actual g apps past more i low (network_in g apps) ∙ ap (λ (es : List Entry). is_kept g (actual g es) (promise_of g i)) whole),
      ap₂ (holds_after (codes "sure") i) front (opens (codes "sure") ∙ sure_opens g past i low)
          ∙ (held_told (codes "sure") sure g apps past more i low (sure_in g apps) ∙ ap (λ (es : List Entry). is_kept g (sure g es) (promise_of g i)) whole),
    )
