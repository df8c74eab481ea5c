-- A snapshot that is brought up to date: what differs where an entry can have touched it, and that nothing differs elsewhere.
use Rattle.std.proofs.Common.{◌≡◌, ◌∙◌, ℕ, zero, suc, ◌+◌, ◌-◌, ◌<◌, ◌≤◌, true, false, Bool, List, [], ◌∷◌, ◌++◌, length, map, get_or, set, take, drop, None, refl, sym, ap, ap₂, arith, append_assoc, codes, subst}
use Rattle.std.specs.Prelude.{All, not, nat_lt, ◌==◌, if◌then◌else◌}
use Rattle.std.proofs.lemmas.Bool.Decides.{nat_tests}
use Rattle.std.proofs.lemmas.List.{append-nil, drop_all, drop_more, get_or-append_right, get_or-map, get_or_default, length-append, length-drop, length-map, length-take-le, take_all, take_more}
use Rattle.std.proofs.Math.Seq.{set-append_seam}
use mathlib.Core.Path.{fun_ext}
use Rattle.serde_json.specs.Data.{Data, Members}
use Rattle.st_net.specs.declared.entity.Entity.{Entity}
use Rattle.st_net.specs.declared.entity.Entity.TheVariants.{Device, Link}
use Rattle.st_net.specs.Demands.{held_list}
use Rattle.st_net.specs.Entities.{is_same_entity}
use Rattle.st_net.specs.declared.promise.Promise.{Promise}
use Rattle.st_net.specs.Groups.{Group, IsEntityOf, IsSound, no_promise, promise_of}
use Rattle.st_net.specs.InOrder.{entities_of, place_in}
use Rattle.st_net.specs.Promises.{is_kept}
use Rattle.st_net.specs.Sets.{IsWithin, Marks}
use Rattle.st_net.proofs.EntityOrder.{device_at, entities_count, link_at}
use Rattle.st_net.proofs.GroupLaws.{keeps_with_more, tells_kept}
use Rattle.st_net.proofs.Tests.{equal_numbers, same_entity, turned}
use Rattle.st_event.specs.History.{History}
use Rattle.st_player.specs.declared.snapshot.Held.{Held}
use Rattle.st_player.specs.declared.state.State.{State}
use Rattle.st_player.specs.declared.touched.Touched.{Touched}
use Rattle.st_player.specs.declared.touched.Touched.TheVariants.{Nothing, Near, Altered}
use Rattle.st_player.specs.Entries.{lost_from, turned_data, turned_of, with_changes, with_counts}
use Rattle.st_player.specs.Fields.{changes_from, fields_between, has_field}
use Rattle.st_player.specs.Json.{number_data, put_list, put_some, put_where}
use Rattle.st_player.specs.Snapshots.{Shown, states_of}
use Rattle.st_player.specs.States.{state_of}
use Rattle.st_player.specs.Steps.{AllKept, IsHeld}
use Rattle.st_player.specs.Touched.{HasMark, HasMarks, IsRenewed, IsTouchIn, LeavesPromises, LeavesPromisesIn, Touches, change_at, may_show, set_at}
use Rattle.st_player.proofs.StateParts.{same_as_itself}

-- a state does not differ from itself, nor a list of them
no_field : (s : State) → has_field (fields_between s s) ≡ false
no_field s = turned (has_field (fields_between s s)) (same_as_itself s)

pub changes_none : (n : ℕ) (states : List State) → changes_from n states states ≡ []
changes_none n [] = refl
changes_none n (s ∷ states) = rw (no_field s) (changes_none (suc n) states)

no_change : (n : ℕ) (s : State) → change_at n s s ≡ []
no_change n s = rw (no_field s) refl

-- no promise turned
lost_none : (n : ℕ) (held : List Bool) → lost_from n held held ≡ []
lost_none n [] = refl
lost_none n (true ∷ held) = lost_none (suc n) held
lost_none n (false ∷ held) = lost_none (suc n) held

pub turned_none : (held : List Bool) → turned_of held held ≡ None
turned_none held = ap₂ turned_data (lost_none 0 held) (lost_none 0 held)

-- what differs, one state further
split : (b : Bool) (d : Data) (rest : List Data) → (if b then d ∷ rest else rest) ≡ (if b then d ∷ [] else []) ++ rest
split true d rest = refl
split false d rest = refl

changes_one : (i n : ℕ) (old new : State) (olds news : List State) → n ≡ i + 1 → changes_from i (old ∷ olds) (new ∷ news) ≡ change_at i old new ++ changes_from n olds news
changes_one i n old new olds news next =
    let e : suc i ≡ n = omega (arith, next) in
    split (has_field (fields_between old new)) _ (changes_from (suc i) olds news) ∙ ap (λ (k : ℕ). change_at i old new ++ changes_from k olds news) e

changes_here : (i n : ℕ) (old new : State) (olds news : List State) → n ≡ i + 1 → i < length olds → i < length news → get_or olds i old ≡ old → get_or news i new ≡ new
    → changes_from i (drop i olds) (drop i news) ≡ change_at i old new ++ changes_from n (drop n olds) (drop n news)
changes_here i n old new olds news next low here old_is new_is =
    let first : drop i olds ≡ old ∷ drop n olds = drop_more olds i old low ∙ ap₂ (λ (s : State) (k : ℕ). s ∷ drop k olds) old_is (sym next) in
    let second : drop i news ≡ new ∷ drop n news = drop_more news i new here ∙ ap₂ (λ (s : State) (k : ℕ). s ∷ drop k news) new_is (sym next) in
    ap₂ (changes_from i) first second ∙ changes_one i n old new (drop n olds) (drop n news) next

pub changes_renewed : (list more whole : List Data) (i n : ℕ) (old new : State) (olds news : List State) → n ≡ i + 1 → i < length olds → i < length news → get_or olds i old ≡ old → get_or news i new ≡ new → more ≡ list ++ change_at i old new
    → list ++ changes_from i (drop i olds) (drop i news) ≡ whole → more ++ changes_from n (drop n olds) (drop n news) ≡ whole
changes_renewed list more whole i n old new olds news next low here old_is new_is put was =
    let rest = changes_from n (drop n olds) (drop n news) in
    ap (λ (ds : List Data). ds ++ rest) put
    ∙ (append_assoc list (change_at i old new) rest
    ∙ (ap (λ (ds : List Data). list ++ ds) (sym (changes_here i n old new olds news next low here old_is new_is)) ∙ was))

pub changes_left : (list whole : List Data) (i n : ℕ) (old new : State) (olds news : List State) → n ≡ i + 1 → i < length olds → i < length news → get_or olds i old ≡ old → get_or news i new ≡ new → old ≡ new
    → list ++ changes_from i (drop i olds) (drop i news) ≡ whole → list ++ changes_from n (drop n olds) (drop n news) ≡ whole
changes_left list whole i n old new olds news next low here old_is new_is same was =
    let none : change_at i old new ≡ [] = ap (λ (s : State). change_at i old s) (sym same) ∙ no_change i old in
    changes_renewed list list whole i n old new olds news next low here old_is new_is (sym (append-nil list) ∙ ap (λ (ds : List Data). list ++ ds) (sym none)) was

-- the states so far, one further
seam : (i : ℕ) (news olds : List State) → i < length news → length (take i news) ≡ i
seam i news olds here = length-take-le i news (omega (arith, here))

pub state_there : (states news olds : List State) (i : ℕ) (d : State) → i < length olds → i < length news → states ≡ take i news ++ drop i olds → get_or states i d ≡ get_or olds i d
state_there states news olds i d low here is =
    ap (λ (xs : List State). get_or xs i d) is
    ∙ (get_or-append_right (take i news) (drop i olds) i i d (seam i news olds here) (omega arith)
    ∙ (ap (λ (k : ℕ). get_or (drop i olds) k d) (let e : i - i ≡ 0 = omega arith in e) ∙ ap (λ (xs : List State). get_or xs 0 d) (drop_more olds i d low)))

renewed : (news olds : List State) (i n : ℕ) (old new : State) → n ≡ i + 1 → i < length olds → i < length news → get_or news i new ≡ new → take i news ++ new ∷ drop n olds ≡ take n news ++ drop n olds
renewed news olds i n old new next low here new_is =
    let more : take n news ≡ take i news ++ new ∷ [] = ap (λ (k : ℕ). take k news) next ∙ (take_more news i new here ∙ ap (λ (s : State). take i news ++ s ∷ []) new_is) in
    sym (append_assoc (take i news) (new ∷ []) (drop n olds)) ∙ ap (λ (xs : List State). xs ++ drop n olds) (sym more)

front : (news olds : List State) (i n : ℕ) (old : State) → n ≡ i + 1 → i < length olds → get_or olds i old ≡ old → take i news ++ drop i olds ≡ take i news ++ old ∷ drop n olds
front news olds i n old next low old_is = ap (λ (xs : List State). take i news ++ xs) (drop_more olds i old low ∙ ap₂ (λ (s : State) (k : ℕ). s ∷ drop k olds) old_is (sym next))

pub states_renewed : (states news olds : List State) (i n : ℕ) (old new : State) → n ≡ i + 1 → i < length olds → i < length news → get_or olds i old ≡ old → get_or news i new ≡ new → states ≡ take i news ++ drop i olds → set states i new ≡ take n news ++ drop n olds
states_renewed states news olds i n old new next low here old_is new_is is =
    ap (λ (xs : List State). set xs i new) (is ∙ front news olds i n old next low old_is)
    ∙ (ap (λ (k : ℕ). set (take i news ++ old ∷ drop n olds) k new) (sym (seam i news olds here))
    ∙ (set-append_seam (take i news) old (drop n olds) new ∙ renewed news olds i n old new next low here new_is))

pub states_left : (states news olds : List State) (i n : ℕ) (old new : State) → n ≡ i + 1 → i < length olds → i < length news → get_or olds i old ≡ old → get_or news i new ≡ new → old ≡ new → states ≡ take i news ++ drop i olds → states ≡ take n news ++ drop n olds
states_left states news olds i n old new next low here old_is new_is same is =
    is ∙ (front news olds i n old next low old_is ∙ (ap (λ (s : State). take i news ++ s ∷ drop n olds) same ∙ renewed news olds i n old new next low here new_is))

-- nothing was touched
shown_nothing : (g : Group) (e : Entity) → may_show g Nothing e ≡ false
shown_nothing g (Device i) = refl
shown_nothing g (Link i) = refl

pub states_same : (h k : History) → Touches h k Nothing → states_of h.group h.past ≡ states_of k.group k.past
states_same h k touches =
    let each : state_of h.group h.past ≡ state_of k.group k.past = fun_ext (λ e. touches.states e (shown_nothing k.group e)) in
    ap₂ (λ (f : Entity → State) (g : Group). map f (entities_of g)) each touches.group

pub held_same : (g h : Group) (up next : Entity → Bool) (held : Held) → g ≡ h → ((e : Entity) → up e ≡ next e) → IsHeld g up held → IsHeld h next held
held_same g h up next held group each is =
    let set : up ≡ next = fun_ext each in
    subst (λ (k : Group). IsHeld k next held) group (subst (λ (u : Entity → Bool). IsHeld g u held) set is)

-- one entity was moved
pub set_same : (up : Entity → Bool) (at : Entity) (is : Bool) → up at ≡ is → up ≡ set_at up at is
set_same up at is here = fun_ext (λ e. by_entity e (is_same_entity at e) refl)
  where
    by_entity : (e : Entity) (b : Bool) → is_same_entity at e ≡ b → up e ≡ (if b then is else up e)
    by_entity e true same = ap up (sym (same_entity at e same)) ∙ here
    by_entity e false same = refl

pub set_moved : (up next : Entity → Bool) (at : Entity) (is : Bool) → ((e : Entity) → is_same_entity at e ≡ false → up e ≡ next e) → is ≡ next at → set_at up at is ≡ next
set_moved up next at is others here = fun_ext (λ e. by_entity e (is_same_entity at e) refl)
  where
    by_entity : (e : Entity) (b : Bool) → is_same_entity at e ≡ b → (if b then is else up e) ≡ next e
    by_entity e true same = here ∙ ap next (same_entity at e same)
    by_entity e false same = others e same

-- the states so far, with what was told of them
pub begins : (h k : History) (states : List State) (told : List Data) → states ≡ states_of h.group h.past → told ≡ [] → IsRenewed h k 0 states told
begins h k states told are none = record {
  states_are = are;
  told_is = ap (λ (ds : List Data). ds ++ changes_from 0 (states_of h.group h.past) (states_of k.group k.past)) none;
}

count_of : (h : History) → length (states_of h.group h.past) ≡ length (entities_of h.group)
count_of h = length-map (entities_of h.group) (state_of h.group h.past)

pub ends : (h k : History) (states : List State) (told : List Data) → h.group ≡ k.group → IsRenewed h k (length (entities_of k.group)) states told
    → (states ≡ states_of k.group k.past) × (told ≡ changes_from 0 (states_of h.group h.past) (states_of k.group k.past))
ends h k states told group is =
    let n = length (entities_of k.group) in
    let olds = states_of h.group h.past in
    let news = states_of k.group k.past in
    let old_count : length olds ≡ n = count_of h ∙ ap (λ (g : Group). length (entities_of g)) group in
    let no_more : drop n olds ≡ [] = drop_all n olds (omega (arith, old_count)) in (
      is.states_are ∙ (ap (λ (xs : List State). take n news ++ xs) no_more ∙ (append-nil (take n news) ∙ take_all n news (omega (arith, count_of k)))),
      sym (append-nil told) ∙ (ap (λ (xs : List State). told ++ changes_from n xs (drop n news)) (sym no_more) ∙ is.told_is),
    )

-- a set that has a mark for each entity of a group has one for each of these
pub has_mark : (g : Group) (touched : Touched) (e : Entity) → HasMarks g touched → IsEntityOf g e → HasMark touched e
has_mark g Nothing e marks here = tt
has_mark g (Near at) e marks here = tt
has_mark g (Altered set) (Device i) marks here = omega (arith, marks.devices, here)
has_mark g (Altered set) (Link i) marks here = omega (arith, marks.links, here)

pub marks_within : (g : Group) (touched : Touched) → IsTouchIn g touched → HasMarks g touched
marks_within g Nothing within = tt
marks_within g (Near at) within = tt
marks_within g (Altered set) within = within

-- where a proposal is accepted
pub promises_left : (h k : History) (touched : Touched) (set : Marks) → touched ≡ Altered set → Touches h k touched → LeavesPromises h k
promises_left h k touched set is touches = subst (λ (t : Touched). LeavesPromisesIn t h k) is touches.promises

-- one state was brought up to date
old_low : (i n : ℕ) (states olds news : List State) → length states ≡ n → length news ≡ n → i < n → states ≡ take i news ++ drop i olds → i < length olds
old_low i n states olds news count new_count low are =
    omega (arith, count, new_count, low, ap length are, length-append (take i news) (drop i olds), length-take-le i news (omega (arith, new_count, low)), length-drop i olds)

pub renewed_one : (h k : History) (i n : ℕ) (states : List State) (told more : List Data) (e : Entity) (old new : State) → n ≡ i + 1 → i < length (entities_of k.group) → length states ≡ length (entities_of k.group)
    → e ≡ get_or (entities_of k.group) i e → old ≡ get_or states i old → new ≡ state_of k.group k.past e → more ≡ told ++ change_at i old new → IsRenewed h k i states told → IsRenewed h k n (set states i new) more
renewed_one h k i n states told more e old new next low count at old_is new_is put was =
    let olds = states_of h.group h.past in
    let news = states_of k.group k.past in
    let here : i < length news = omega (arith, count_of k, low) in
    let there : i < length olds = old_low i (length (entities_of k.group)) states olds news count (count_of k) low was.states_are in
    let new_at : get_or news i new ≡ new = state_at k i e new low at ∙ sym new_is in
    let old_at : get_or olds i old ≡ old = sym (state_there states news olds i old there here was.states_are) ∙ sym old_is in
    record {
      states_are = states_renewed states news olds i n old new next there here old_at new_at was.states_are;
      told_is = changes_renewed told more (changes_from 0 olds news) i n old new olds news next there here old_at new_at put was.told_is;
    }
  where
    state_at : (k : History) (i : ℕ) (e : Entity) (d : State) → i < length (entities_of k.group) → e ≡ get_or (entities_of k.group) i e → get_or (states_of k.group k.past) i d ≡ state_of k.group k.past e
    state_at k i e d low at = get_or-map (state_of k.group k.past) (entities_of k.group) i e d low ∙ ap (state_of k.group k.past) (sym at)

-- nothing is shown anew of the entity at a place
abbrev pub StaysAt : Group → Touched → ℕ → Type 0
StaysAt g touched i = (e : Entity) → e ≡ get_or (entities_of g) i e → may_show g touched e ≡ false

pub renewed_past : (h k : History) (touched : Touched) (i n : ℕ) (states : List State) (told : List Data) → n ≡ i + 1 → i < length (entities_of k.group) → Touches h k touched → StaysAt k.group touched i
    → IsRenewed h k i states told → IsRenewed h k n states told
renewed_past h k touched i n states told next low touches stays was =
    let olds = states_of h.group h.past in
    let news = states_of k.group k.past in
    let e = get_or (entities_of k.group) i (Device 0) in
    let at : e ≡ get_or (entities_of k.group) i e = get_or_default (entities_of k.group) i (Device 0) e low in
    let old_at : e ≡ get_or (entities_of h.group) i e = at ∙ ap (λ (g : Group). get_or (entities_of g) i e) (sym touches.group) in
    let old_count : length (entities_of h.group) ≡ length (entities_of k.group) = ap (λ (g : Group). length (entities_of g)) touches.group in
    let old = state_of h.group h.past e in
    let new = state_of k.group k.past e in
    let there : i < length olds = omega (arith, count_of h, old_count, low) in
    let here : i < length news = omega (arith, count_of k, low) in
    let old_is : get_or olds i old ≡ old = get_or-map (state_of h.group h.past) (entities_of h.group) i e old (omega (arith, old_count, low)) ∙ ap (state_of h.group h.past) (sym old_at) in
    let new_is : get_or news i new ≡ new = get_or-map (state_of k.group k.past) (entities_of k.group) i e new low ∙ ap (state_of k.group k.past) (sym at) in
    let same : old ≡ new = touches.states e (stays e at) in
    record {
      states_are = states_left states news olds i n old new next there here old_is new_is same was.states_are;
      told_is = changes_left told (changes_from 0 olds news) i n old new olds news next there here old_is new_is same was.told_is;
    }

pub renewed_over : (h k : History) (touched : Touched) (i j n : ℕ) (states : List State) (told : List Data) → j ≡ i + n → j ≤ length (entities_of k.group) → Touches h k touched → ((m : ℕ) → i ≤ m → m < j → StaysAt k.group touched m)
    → IsRenewed h k i states told → IsRenewed h k j states told
renewed_over h k touched i j zero states told is low touches stays was = subst (λ (m : ℕ). IsRenewed h k m states told) (let e : i ≡ j = omega (arith, is) in e) was
renewed_over h k touched i j (suc n) states told is low touches stays was =
    let one : IsRenewed h k (i + 1) states told = renewed_past h k touched i (i + 1) states told refl (omega (arith, is, low)) touches (stays i (omega arith) (omega (arith, is))) was in
    renewed_over h k touched (i + 1) j n states told (omega (arith, is)) low touches (λ m from to. stays m (omega (arith, from)) to) one

-- which places stay
pub device_stays : (g : Group) (touched : Touched) (i : ℕ) → i < length g.devices → may_show g touched (Device i) ≡ false → StaysAt g touched i
device_stays g touched i low is e at = ap (may_show g touched) (at ∙ sym (device_at g i e low)) ∙ is

pub link_stays : (g : Group) (touched : Touched) (m i : ℕ) → m ≡ length g.devices + i → i < length g.links → may_show g touched (Link i) ≡ false → StaysAt g touched m
link_stays g touched m i place low is e at =
    let high : m < length (entities_of g) = omega (arith, entities_count g, place, low) in
    let it : m - length g.devices ≡ i = omega (arith, place) in
    ap (may_show g touched) (at ∙ (sym (link_at g m (length g.devices) e refl (omega (arith, place)) high) ∙ ap (λ (k : ℕ). Link k) it)) ∙ is

-- before an entity that alone was moved, and behind it
other_number : (i j : ℕ) → (i ≡ j → ⊥) → (i == j) ≡ false
other_number i j other = by_test (i == j) refl
  where
    by_test : (b : Bool) → (i == j) ≡ b → (i == j) ≡ false
    by_test false is = is
    by_test true is = absurd (other (equal_numbers i j is))

other_link : (g : Group) (l i : ℕ) → (l ≡ i → ⊥) → may_show g (Near (Link l)) (Link i) ≡ false
other_link g l i other = rw (other_number l i other) refl

link_apart : (g : Group) (l m : ℕ) → m < length (entities_of g) → (m ≡ length g.devices + l → ⊥) → StaysAt g (Near (Link l)) m
link_apart g l m low other = by_kind (nat_lt m (length g.devices)) refl
  where
    by_kind : (b : Bool) → nat_lt m (length g.devices) ≡ b → StaysAt g (Near (Link l)) m
    by_kind true is = device_stays g (Near (Link l)) m (let h : m < length g.devices = grind (arith, nat_tests) in h) refl
    by_kind false is =
        let high : length g.devices ≤ m = grind (arith, nat_tests) in
        link_stays g (Near (Link l)) m (m - length g.devices) (omega (arith, high)) (omega (arith, high, low, entities_count g)) (other_link g l (m - length g.devices) (λ same. other (omega (arith, high, same))))

device_apart : (g : Group) (d m : ℕ) → m < length g.devices → (d ≡ m → ⊥) → StaysAt g (Near (Device d)) m
device_apart g d m low other = device_stays g (Near (Device d)) m low (other_number d m other)

pub before_it : (h k : History) (at : Entity) (states : List State) (told : List Data) → IsEntityOf k.group at → Touches h k (Near at) → IsRenewed h k 0 states told → IsRenewed h k (place_in k.group at) states told
before_it h k (Device d) states told here touches was =
    renewed_over h k (Near (Device d)) 0 d d states told (omega arith) (omega (arith, here, entities_count k.group)) touches (λ m from to. device_apart k.group d m (omega (arith, to, here)) (λ same. let no : ⊥ = omega (arith, same, to) in no)) was
before_it h k (Link l) states told here touches was =
    let n = length k.group.devices + l in
    renewed_over h k (Near (Link l)) 0 n n states told (omega arith) (omega (arith, here, entities_count k.group)) touches
    (λ m from to. link_apart k.group l m (omega (arith, to, here, entities_count k.group)) (λ same. let no : ⊥ = omega (arith, same, to) in no)) was

pub behind_device : (h k : History) (d n : ℕ) (states : List State) (told : List Data) → n ≡ d + 1 → IsEntityOf k.group (Device d) → Touches h k (Near (Device d)) → IsRenewed h k n states told → IsRenewed h k (length k.group.devices) states told
behind_device h k d n states told next here touches was =
    renewed_over h k (Near (Device d)) n (length k.group.devices) (length k.group.devices - n) states told (omega (arith, next, here)) (omega (arith, entities_count k.group)) touches
    (λ m from to. device_apart k.group d m to (λ same. let no : ⊥ = omega (arith, same, from, next) in no)) was

pub behind_link : (h k : History) (l n : ℕ) (states : List State) (told : List Data) → n ≡ length k.group.devices + l + 1 → IsEntityOf k.group (Link l) → Touches h k (Near (Link l)) → IsRenewed h k n states told → IsRenewed h k (length (entities_of k.group)) states told
behind_link h k l n states told next here touches was =
    let all = length (entities_of k.group) in
    renewed_over h k (Near (Link l)) n all (all - n) states told (omega (arith, next, here, entities_count k.group)) (omega arith) touches
    (λ m from to. link_apart k.group l m to (λ same. let no : ⊥ = omega (arith, same, from, next) in no)) was

-- an entity at a place of which nothing is shown anew
pub shown_past : (h k : History) (touched : Touched) (i n : ℕ) (e : Entity) (states : List State) (told : List Data) → n ≡ i + 1 → i < length (entities_of k.group) → e ≡ get_or (entities_of k.group) i e → may_show k.group touched e ≡ false
    → Touches h k touched → IsRenewed h k i states told → IsRenewed h k n states told
shown_past h k touched i n e states told next low at other touches was =
    renewed_past h k touched i n states told next low touches (λ d there. ap (may_show k.group touched) (there ∙ get_or_default (entities_of k.group) i d e low ∙ sym at) ∙ other) was

-- a link that does not end at a device that alone was moved
pub link_past : (h k : History) (d i m n : ℕ) (states : List State) (told : List Data) → m ≡ length k.group.devices + i → n ≡ m + 1 → i < length k.group.links → may_show k.group (Near (Device d)) (Link i) ≡ false → Touches h k (Near (Device d))
    → IsRenewed h k m states told → IsRenewed h k n states told
link_past h k d i m n states told place next low other touches was =
    renewed_past h k (Near (Device d)) m n states told next (omega (arith, place, low, entities_count k.group)) touches (link_stays k.group (Near (Device d)) m i place low other) was

-- promises that all hold in two sets hold in both alike
pub kept_alike : (g : Group) (up next : Entity → Bool) (ps : List Promise) → All (λ (p : Promise). is_kept g up p ≡ true) ps → All (λ (p : Promise). is_kept g next p ≡ true) ps → map (is_kept g up) ps ≡ map (is_kept g next) ps
kept_alike g up next [] before after = refl
kept_alike g up next (p ∷ ps) before after =
    ap₂ (λ (b : Bool) (bs : List Bool). b ∷ bs) (before 0 p (omega arith) ∙ sym (after 0 p (omega arith)))
    (kept_alike g up next ps (λ i d low. before (suc i) d (omega (arith, low))) (λ i d low. after (suc i) d (omega (arith, low))))

-- all that hold in a set hold in one that it is within
pub all_within : (g : Group) (up more : Entity → Bool) → IsSound g → IsWithin up more → AllKept g up → AllKept g more
all_within g up more sound within all i d low =
    let tells = tells_kept g sound in
    let p = promise_of g i in
    let at : get_or g.promises i d ≡ p = get_or_default g.promises i d no_promise low in
    let here : is_kept g up p ≡ true = ap (is_kept g up) (sym at) ∙ all i d low in
    ap (is_kept g more) at ∙ (tells more i low).1 (keeps_with_more g up more p within ((tells up i low).0 here))

-- marks that are all set are those of promises that all hold
pub all_marked : (g : Group) (up : Entity → Bool) (marks : List Bool) → marks ≡ map (is_kept g up) g.promises → All (λ (b : Bool). b ≡ true) marks → AllKept g up
all_marked g up marks is all i d low =
    let here : i < length marks = omega (arith, ap length is, length-map g.promises (is_kept g up), low) in
    sym (get_or-map (is_kept g up) g.promises i d true low) ∙ (ap (λ (bs : List Bool). get_or bs i true) (sym is) ∙ all i true here)

-- where the same promises hold in two sets, all hold in the one where all hold in the other
pub all_alike : (g h : Group) (up next : Entity → Bool) → held_list g up ≡ held_list h next → AllKept g up → AllKept h next
all_alike g h up next same all i d low =
    let here : i < length g.promises = omega (arith, ap length same, length-map g.promises (is_kept g up), length-map h.promises (is_kept h next), low) in
    sym (get_or-map (is_kept h next) h.promises i d true low)
    ∙ (ap (λ (bs : List Bool). get_or bs i true) (sym same) ∙ (get_or-map (is_kept g up) g.promises i no_promise true here ∙ all i no_promise here))

-- what differs is put in this order
pub put_in_order : (old new : Shown) (object states network known count all : Members) → states ≡ put_list (codes "set") (changes_from 0 old.states new.states) object → network ≡ put_some (codes "network") (turned_of old.network new.network) states
    → known ≡ put_some (codes "sure") (turned_of old.sure new.sure) network → count ≡ put_where (not (old.version == new.version)) (codes "version") (number_data new.version) known
    → all ≡ put_where (not (old.pending == new.pending)) (codes "pending") (number_data new.pending) count → all ≡ with_counts old new (with_changes old new object)
put_in_order old new object states network known count all states_is network_is known_is count_is all_is =
    all_is ∙ ap (put_where (not (old.pending == new.pending)) (codes "pending") (number_data new.pending))
    (count_is ∙ ap (put_where (not (old.version == new.version)) (codes "version") (number_data new.version))
    (known_is ∙ ap (put_some (codes "sure") (turned_of old.sure new.sure))
    (network_is ∙ ap (put_some (codes "network") (turned_of old.network new.network)) states_is)))
