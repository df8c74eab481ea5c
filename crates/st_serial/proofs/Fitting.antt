-- Each group's journal has at most as many entries as the document can make, so no event meets a full one where these are few.
use Rattle.std.proofs.Common.{◌≡◌, ℕ, zero, suc, ◌+◌, ◌*◌, ◌≤◌, List, [], ◌∷◌, length, Bool, true, false, Option, Some, None, refl, ap, sym, ◌∙◌, subst, inl, inr, arith}
use Rattle.std.specs.Prelude.{All, reverse, slice_get, ◌==◌, sum_by, option_map, is_some, if◌then◌else◌}
use Rattle.std.proofs.lemmas.Bool.{cases_lt}
use Rattle.std.proofs.lemmas.Bool.Decides.{nat_tests}
use Rattle.std.proofs.lemmas.List.{length-reverse}
use Rattle.std.proofs.lemmas.List.Elements.{All-nil, All-cons}
use Rattle.std.proofs.lemmas.List.Sums.{sum_by-cons}
use Rattle.st_net.specs.declared.entity.AppId.{AppId}
use Rattle.st_net.specs.declared.parts.Parts.{Parts}
use Rattle.st_net.specs.Groups.{Group}
use Rattle.st_event.specs.declared.act.Act.{Act}
use Rattle.st_event.specs.declared.journal.Journal.{Journal}
use Rattle.st_event.specs.declared.journal.TheConstants.{MAX_ENTRIES, MAX_PENDING}
use Rattle.st_grammar.specs.declared.doc.Doc.{Doc}
use Rattle.st_grammar.specs.declared.doc.Script.{Script}
use Rattle.st_wire.specs.declared.line.WireLine.{WireLine}
use Rattle.st_world.specs.Acts.{group_number}
use Rattle.st_serial.specs.declared.schedule.Place.{Place}
use Rattle.st_serial.specs.Schedule.{schedule}
use Rattle.st_serial.specs.Serial.{Checked, GroupState, Run, act_done, act_of, act_on, all_decided, all_opened, asked_done, changed_at, checks_in, course_in, decided, full_of, journals_from, opening_run, place_done, places_done, scripts_done, serial_end, serial_full, state_at, with_checked, with_group}
use Rattle.st_serial.specs.Shares.{share}
use Rattle.st_serial.specs.Most.{FewEntriesFit, HasRoom, IsWithinMost, JournalsAreWithinMost, most, most_in, script_most, share_on}
use Rattle.st_serial.proofs.Lists.{OfSome, by_test, of_some}
use Rattle.st_serial.proofs.Shares.{act-full, act-within, checks-full, checks-within, with_checks}
use Rattle.st_serial.proofs.Weights.{or_zero, place_weight, schedule_within, script_weight}

-- a group as it was opened, with so many entries at the most; or there is none, and there was none
record HasFew (first : GroupState) (most : ℕ) (s : GroupState) : Type 0 where
  group : s.history.group ≡ first.history.group
  lines : s.lines ≡ first.lines
  few : length s.history.past ≤ most

abbrev IsWithin : Option GroupState → ℕ → Option GroupState → Type 0
IsWithin None most None = Unit {0}
IsWithin None most (Some s) = ⊥
IsWithin (Some first) most None = ⊥
IsWithin (Some first) most (Some s) = HasFew first most s

looser : (first : Option GroupState) (few more : ℕ) (o : Option GroupState) → few ≤ more → IsWithin first few o → IsWithin first more o
looser None few more None low is = tt
looser None few more (Some s) low is = is
looser (Some first) few more None low is = is
looser (Some first) few more (Some s) low is = record { group = is.group; lines = is.lines; few = omega (arith, low, is.few) }

-- how many entries a group has
abbrev entry_count : Option GroupState → ℕ
entry_count o = or_zero (λ s. length s.history.past) o

abbrev entries_at : ℕ → List GroupState → ℕ
entries_at n ss = entry_count (slice_get ss n)

within_count : (first : Option GroupState) (few : ℕ) (o : Option GroupState) → IsWithin first few o → entry_count o ≤ few
within_count None few None is = omega arith
within_count None few (Some s) is = absurd is
within_count (Some first) few None is = absurd is
within_count (Some first) few (Some s) is = is.few

-- a group of a list whose group of a number is changed

changed_by : {X : Type 0} (f : X → X) (o : Option X) (b : Bool) → o ≡ None → o ≡ (if b then option_map f o else o)
changed_by f o true none = none ∙ ap (option_map f) (sym none)
changed_by f o false none = refl

first_apart : (n : ℕ) → (0 == suc n) ≡ false
first_apart n = grind (arith, nat_tests)

apart_first : (m : ℕ) → (suc m == 0) ≡ false
apart_first m = grind (arith, nat_tests)

next_by : (m n : ℕ) (b : Bool) → (m == n) ≡ b → (suc m == suc n) ≡ b
next_by m n true is = grind (arith, nat_tests)
next_by m n false is = grind (arith, nat_tests)

next_same : (m n : ℕ) → (suc m == suc n) ≡ (m == n)
next_same m n = next_by m n (m == n) refl

changed_get : {X : Type 0} (m n : ℕ) (f : X → X) (xs : List X) → slice_get (changed_at m f xs) n ≡ (if m == n then option_map f (slice_get xs n) else slice_get xs n)
changed_get m n f [] = changed_by f None (m == n) refl
changed_get zero zero f (x ∷ xs) = refl
changed_get zero (suc n) f (x ∷ xs) = ap (λ b. if b then option_map f (slice_get xs n) else slice_get xs n) (sym (first_apart n))
changed_get (suc m) zero f (x ∷ xs) = ap (λ b. if b then Some (f x) else Some x) (sym (apart_first m))
changed_get (suc m) (suc n) f (x ∷ xs) = changed_get m n f xs ∙ ap (λ b. if b then option_map f (slice_get xs n) else slice_get xs n) (sym (next_same m n))

changed_own : {X : Type 0} (m : ℕ) (f : X → X) (xs : List X) → slice_get (changed_at m f xs) m ≡ option_map f (slice_get xs m)
changed_own m f [] = refl
changed_own zero f (x ∷ xs) = refl
changed_own (suc m) f (x ∷ xs) = changed_own m f xs

-- what an act adds to group n, which was opened so

abbrev weight_in : ℕ → Option GroupState → Act → ℕ
weight_in n None act = 0
weight_in n (Some s) act = share_on n s.history.group s.lines act

acted_within : (app : AppId) (act : Act) (first s : GroupState) (few : ℕ) → IsWithin (Some first) few (Some s) → length (course_in app act s).past ≤ few + share act first.history.group first.lines
acted_within app act first s few is =
    let made = act-within app act s.history s.lines in
    let same : share act s.history.group s.lines ≡ share act first.history.group first.lines = ap (λ (g : Group). share act g s.lines) is.group ∙ ap (share act first.history.group) is.lines in
    omega (arith, made, is.few, same)

act_by : (app : AppId) (act : Act) (first o : Option GroupState) (n few : ℕ) (b : Bool) → (group_number act == n) ≡ b → IsWithin first few o → IsWithin first (few + weight_in n first act) (if b then option_map (act_on app act) o else o)
act_by app act None None n few true here is = tt
act_by app act None (Some s) n few true here is = is
act_by app act (Some first) None n few true here is = is
act_by app act (Some first) (Some s) n few true here is =
    let own = ap (λ (b : Bool). if b then share act first.history.group first.lines else 0) here in
    let made = acted_within app act first s few is in
    record { group = is.group; lines = is.lines; few = omega (arith, own, made) }
act_by app act first o n few false here is = looser first few (few + weight_in n first act) o (omega arith) is

act_within : (app : AppId) (act : Act) (first : Option GroupState) (n few : ℕ) (run : Run) → IsWithin first few (slice_get run.groups n) → IsWithin first (few + weight_in n first act) (slice_get (act_done app act run).groups n)
act_within app act first n few run is =
    subst (IsWithin first (few + weight_in n first act)) (sym (changed_get (group_number act) n (act_on app act) run.groups))
    (act_by app act first (slice_get run.groups n) n few (group_number act == n) refl is)

asked_within : (app : ℕ) (act : Option Act) (first : Option GroupState) (n few : ℕ) (run : Run) → IsWithin first few (slice_get run.groups n) → IsWithin first (few + or_zero (weight_in n first) act) (slice_get (asked_done app act run).groups n)
asked_within app None first n few run is = looser first few (few + 0) (slice_get run.groups n) (omega arith) is
asked_within app (Some act) first n few run is = act_within (record { 0 = app }) act first n few run is

place_within : (apps : List Script) (place : Place) (first : Option GroupState) (n few : ℕ) (run : Run) → IsWithin first few (slice_get run.groups n) → IsWithin first (few + place_weight (weight_in n first) apps place) (slice_get (place_done apps place run).groups n)
place_within apps place first n few run is =
    let more = few + place_weight (weight_in n first) apps place in
    by_test (λ (r : Run). IsWithin first more (slice_get r.groups n)) (is_some run.full) run (asked_done place.app (act_of apps place) run)
    (looser first few more (slice_get run.groups n) (omega arith) is)
    (asked_within place.app (act_of apps place) first n few run is)

places_within : (apps : List Script) (places : List Place) (first : Option GroupState) (n few : ℕ) (run : Run) → IsWithin first few (slice_get run.groups n) → IsWithin first (few + sum_by (place_weight (weight_in n first) apps) places) (slice_get (places_done apps places run).groups n)
places_within apps [] first n few run is = looser first few (few + 0) (slice_get run.groups n) (omega arith) is
places_within apps (place ∷ places) first n few run is =
    let weight = place_weight (weight_in n first) apps in
    let next = place_done apps place run in
    let rest = places_within apps places first n (few + weight place) next (place_within apps place first n few run is) in
    looser first (few + weight place + sum_by weight places) (few + sum_by weight (place ∷ places)) (slice_get (places_done apps places next).groups n) (omega (arith, sum_by-cons weight place places)) rest

opened_within : (groups : List Parts) (wires : List (List WireLine)) (n : ℕ) → IsWithin (slice_get (all_opened groups wires) n) 0 (slice_get (all_opened groups wires) n)
opened_within [] wires n = tt
opened_within (parts ∷ groups) [] n = tt
opened_within (parts ∷ groups) (lines ∷ wires) zero = record { group = refl; lines = refl; few = omega arith }
opened_within (parts ∷ groups) (lines ∷ wires) (suc n) = opened_within groups wires n

-- what the last checks add

checked_one : (first : Option GroupState) (few : ℕ) (s : GroupState) → IsWithin first few (Some s) → IsWithin first (with_checks few) (Some (state_at s (checks_in s)))
checked_one None few s is = is
checked_one (Some first) few s is = record { group = is.group; lines = is.lines; few = checks-within s.history.group s.history.past few is.few }

no_less : (few : ℕ) → few ≤ with_checks few
no_less zero = omega arith
no_less (suc few) = omega arith

checked_within : (first : Option GroupState) (few i n : ℕ) (ss : List GroupState) → IsWithin first few (slice_get ss n) → IsWithin first (with_checks few) (slice_get (all_decided i ss).groups n)
checked_within first few i n [] is = looser first few (with_checks few) None (no_less few) is
checked_within first few i zero (s ∷ ss) is =
    let course = checks_in s in
    let one = checked_one first few s is in
    by_test (λ (c : Checked). IsWithin first (with_checks few) (slice_get c.groups 0)) course.stopped (record { groups = state_at s course ∷ ss; full = Some i }) (with_group (state_at s course) (all_decided (i + 1) ss)) one one
checked_within first few i (suc n) (s ∷ ss) is =
    let course = checks_in s in
    by_test (λ (c : Checked). IsWithin first (with_checks few) (slice_get c.groups (suc n))) course.stopped (record { groups = state_at s course ∷ ss; full = Some i }) (with_group (state_at s course) (all_decided (i + 1) ss))
    (looser first few (with_checks few) (slice_get ss n) (no_less few) is)
    (checked_within first few (i + 1) n ss is)

-- all that is added

decided_within : (first : Option GroupState) (few n : ℕ) (run : Run) → IsWithin first few (slice_get run.groups n) → IsWithin first (with_checks few) (slice_get (decided run).groups n)
decided_within first few n run is =
    by_test (λ (r : Run). IsWithin first (with_checks few) (slice_get r.groups n)) (is_some run.full) run (with_checked run (all_decided 0 run.groups))
    (looser first few (with_checks few) (slice_get run.groups n) (no_less few) is)
    (checked_within first few 0 n run.groups is)

-- where something is added there is an application
checks_few : (f : Script → ℕ) (apps : List Script) (few : ℕ) → few ≤ sum_by f apps → with_checks few ≤ sum_by f apps + MAX_PENDING * length apps
checks_few f apps zero low = omega arith
checks_few f [] (suc few) low = absurd (omega (arith, low))
checks_few f (app ∷ apps) (suc few) low = omega (arith, low)

most_by : (apps : List Script) (n few : ℕ) (first o : Option GroupState) → few ≤ sum_by (script_weight (weight_in n first) apps) apps → IsWithin first (with_checks few) o → entry_count o ≤ most_in apps n first
most_by apps n few None None low is = omega arith
most_by apps n few None (Some s) low is = absurd is
most_by apps n few (Some first) None low is = absurd is
most_by apps n few (Some first) (Some s) low is =
    let all = checks_few (script_most n first.history.group first.lines) apps few low in
    omega (arith, is.few, all)

entries_within : (doc : Doc) (n : ℕ) → entries_at n (serial_end doc).groups ≤ most doc n
entries_within doc n =
    let first = slice_get (all_opened doc.groups doc.wires) n in
    let weight = place_weight (weight_in n first) doc.apps in
    let places = schedule doc.apps doc.order in
    let run = opening_run doc in
    let made = places_within doc.apps places first n 0 run (opened_within doc.groups doc.wires n) in
    let few = 0 + sum_by weight places in
    let low : few ≤ sum_by (script_weight (weight_in n first) doc.apps) doc.apps = let all = schedule_within (weight_in n first) doc.apps doc.order in omega (arith, all) in
    most_by doc.apps n few first (slice_get (serial_end doc).groups n) low (decided_within first few n (scripts_done doc) made)

journals_within : (doc : Doc) (i : ℕ) (ss : List GroupState) → ((n : ℕ) → entries_at n ss ≤ most doc (i + n)) → All (IsWithinMost doc) (journals_from i ss)
journals_within doc i [] few = All-nil (IsWithinMost doc)
journals_within doc i (s ∷ ss) few =
    let own : i + 0 ≡ i = omega arith in
    let most_own = ap (most doc) own in
    let journal : Journal = record { group = i; entries = reverse s.history.past } in
    All-cons (IsWithinMost doc) journal (journals_from (i + 1) ss)
    (let short = few 0 in omega (arith, short, most_own, length-reverse s.history.past))
    (journals_within doc (i + 1) ss (λ n.
    let short = few (suc n) in
    let next : i + suc n ≡ i + 1 + n = omega arith in
    subst (λ m. entries_at n ss ≤ most doc m) next short))

pub journals_are_within : JournalsAreWithinMost
journals_are_within doc = journals_within doc 0 (serial_end doc).groups (λ n.
    let same : n ≡ 0 + n = omega arith in
    subst (λ m. entries_at n (serial_end doc).groups ≤ most doc m) same (entries_within doc n))

-- where a run stops a journal is full

abbrev IsFullAt : List GroupState → ℕ → Type 0
IsFullAt ss m = MAX_ENTRIES ≤ entries_at m ss

abbrev StopsAtFull : Run → Type 0
StopsAtFull run = OfSome (IsFullAt run.groups) run.full

full_by : (P : ℕ → Type 0) (m : ℕ) (b : Bool) → (b ≡ true → P m) → OfSome P (if b then Some m else None)
full_by P m true gives = gives refl
full_by P m false gives = tt

act_full_by : (app : AppId) (act : Act) (P : ℕ → Type 0) (m : ℕ) (o : Option GroupState) → (MAX_ENTRIES ≤ entry_count (option_map (act_on app act) o) → P m) → OfSome P (full_of m (option_map (course_in app act) o))
act_full_by app act P m None gives = tt
act_full_by app act P m (Some s) gives = full_by P m (course_in app act s).stopped (λ stops. gives (act-full app act s.history s.lines stops))

act_full : (app : AppId) (act : Act) (run : Run) → StopsAtFull (act_done app act run)
act_full app act run =
    let m = group_number act in
    let own = ap entry_count (changed_own m (act_on app act) run.groups) in
    act_full_by app act (IsFullAt (changed_at m (act_on app act) run.groups)) m (slice_get run.groups m) (λ full. omega (arith, full, own))

asked_full : (app : ℕ) (act : Option Act) (run : Run) → StopsAtFull run → StopsAtFull (asked_done app act run)
asked_full app None run full = full
asked_full app (Some act) run full = act_full (record { 0 = app }) act run

places_full : (apps : List Script) (places : List Place) (run : Run) → StopsAtFull run → StopsAtFull (places_done apps places run)
places_full apps [] run full = full
places_full apps (place ∷ places) run full =
    places_full apps places (place_done apps place run) (by_test StopsAtFull (is_some run.full) run (asked_done place.app (act_of apps place) run) full (asked_full place.app (act_of apps place) run full))

-- group m, of those that are numbered from i on
record IsFullFrom (i : ℕ) (ss : List GroupState) (m : ℕ) : Type 0 where
  place : ℕ
  number : m ≡ i + place
  full : MAX_ENTRIES ≤ entries_at place ss

-- the group and those behind it, where its checks stop or do not
abbrev checked_by : ℕ → GroupState → List GroupState → Bool → Checked
checked_by i s ss stops = if stops then record { groups = state_at s (checks_in s) ∷ ss; full = Some i } else with_group (state_at s (checks_in s)) (all_decided (i + 1) ss)

checked_full_by : (i : ℕ) (s : GroupState) (ss : List GroupState) (b : Bool) → (checks_in s).stopped ≡ b → OfSome (IsFullFrom (i + 1) (all_decided (i + 1) ss).groups) (all_decided (i + 1) ss).full → OfSome (IsFullFrom i (checked_by i s ss b).groups) (checked_by i s ss b).full
checked_full_by i s ss true stops later = record { place = 0; number = omega arith; full = checks-full s.history.group s.history.past stops }
checked_full_by i s ss false stops later =
    let rest = (all_decided (i + 1) ss).groups in
    of_some (IsFullFrom (i + 1) rest) (IsFullFrom i (state_at s (checks_in s) ∷ rest)) (all_decided (i + 1) ss).full
    (λ m is. record { place = suc is.place; number = omega (arith, is.number); full = is.full })
    later

checked_full : (i : ℕ) (ss : List GroupState) → OfSome (IsFullFrom i (all_decided i ss).groups) (all_decided i ss).full
checked_full i [] = tt
checked_full i (s ∷ ss) = checked_full_by i s ss (checks_in s).stopped refl (checked_full (i + 1) ss)

decided_full : (run : Run) → StopsAtFull run → StopsAtFull (decided run)
decided_full run full =
    let checked = all_decided 0 run.groups in
    by_test StopsAtFull (is_some run.full) run (with_checked run checked) full
    (of_some (IsFullFrom 0 checked.groups) (IsFullAt checked.groups) checked.full
    (λ m is. let same : is.place ≡ m = omega (arith, is.number) in subst (IsFullAt checked.groups) same is.full)
    (checked_full 0 run.groups))

end_full : (doc : Doc) → StopsAtFull (serial_end doc)
end_full doc = decided_full (scripts_done doc) (places_full doc.apps (schedule doc.apps doc.order) (opening_run doc) tt)

-- so there is none where there is room

opened_past : (groups : List Parts) (wires : List (List WireLine)) (n : ℕ) → length groups ≤ n → slice_get (all_opened groups wires) n ≡ None
opened_past [] wires n past = refl
opened_past (parts ∷ groups) [] n past = refl
opened_past (parts ∷ groups) (lines ∷ wires) zero past = absurd (omega (arith, past))
opened_past (parts ∷ groups) (lines ∷ wires) (suc n) past = opened_past groups wires n (omega (arith, past))

never_full : (doc : Doc) (m : ℕ) → HasRoom doc → MAX_ENTRIES ≤ most doc m → ⊥
never_full doc m room full = elim (cases_lt m (length doc.groups)) [
  | inl low ↦ let few = room m low in omega (arith, few, full)
  | inr past ↦ let none = ap (most_in doc.apps m) (opened_past doc.groups doc.wires m past) in omega (arith, none, full)
]

none_by : (P : ℕ → Type 0) (o : Option ℕ) → ((m : ℕ) → P m → ⊥) → OfSome P o → o ≡ None
none_by P None never is = refl
none_by P (Some m) never is = absurd (never m is)

pub few_entries_fit : FewEntriesFit
few_entries_fit doc room =
    none_by (λ m. MAX_ENTRIES ≤ most doc m) (serial_full doc) (λ m full. never_full doc m room full)
    (of_some (IsFullAt (serial_end doc).groups) (λ m. MAX_ENTRIES ≤ most doc m) (serial_full doc)
    (λ m full. let within = entries_within doc m in omega (arith, full, within))
    (end_full doc))
