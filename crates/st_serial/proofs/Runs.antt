-- The scripts of a document fit its groups, and what its groups come to, act by act.
use Rattle.std.proofs.Common.{◌≡◌, ℕ, zero, suc, ◌+◌, ◌<◌, List, [], ◌∷◌, ◌++◌, length, Bool, true, false, refl, ap, sym, ◌∙◌, subst, arith, set, take, drop}
use Rattle.std.specs.Prelude.{map, slice_get, slice_index_or, Option, Some, None, option_map, is_some, if◌then◌else◌}
use Rattle.std.specs.Option.{IsSomeAnd}
use Rattle.std.proofs.Math.Seq.{drop-cons, take-suc-set}
use Rattle.std.proofs.lemmas.List.{append_assoc, drop-set-lt, length-map, set_split}
use Rattle.std.proofs.lemmas.Option.{slice_get-get_or}
use Rattle.st_net.specs.declared.entity.AppId.{AppId}
use Rattle.st_net.specs.declared.parts.Parts.{Parts}
use Rattle.st_net.specs.Groups.{Group, IsEntityOf}
use Rattle.st_net.specs.Faults.{group_of}
use Rattle.st_event.specs.declared.act.Act.{Act}
use Rattle.st_event.specs.declared.act.Act.TheVariants.{Propose, Await, Settle, Lock, Unlock, Read, ReadAt, Fail, Poll, Span}
use Rattle.st_event.specs.declared.act.LogEntry.{LogEntry}
use Rattle.st_grammar.specs.declared.doc.Doc.{Doc}
use Rattle.st_grammar.specs.declared.doc.Script.{Script}
use Rattle.st_net.specs.Ranges.{IsVariableOf, IsChangeOf}
use Rattle.st_grammar.specs.Sound.{IsGroupWith, IsSoundAct, IsSoundDoc}
use Rattle.st_wire.specs.declared.line.WireLine.{WireLine}
use Rattle.st_world.specs.declared.world.rounds.Going.{Going}
use Rattle.st_world.specs.Rounds.{is_full}
use Rattle.st_world.specs.Acts.{ActFits, group_number, seen_by}
use Rattle.st_serial.specs.declared.schedule.Place.{Place}
use Rattle.st_serial.specs.Schedule.{schedule}
use Rattle.st_serial.specs.Serial.{AllFitIn, Checked, FitsIn, GroupState, Run, act_done, act_of, act_on, all_decided, all_opened, asked_done, changed_at, checks_in, course_in, decided, full_of, groups_in, logged, opened, opening_run, place_done, places_done, scripts_done, seen_of, serial_end, state_at, with_checked, with_group}
use Rattle.st_serial.proofs.Lists.{by_test, changed_count, at_set, changed_same}

-- the groups of a document at their opening
pub opened_groups : (groups : List Parts) (wires : List (List WireLine)) → length wires ≡ length groups → groups_in (all_opened groups wires) ≡ map group_of groups
opened_groups [] wires each = refl
opened_groups (parts ∷ groups) [] each = absurd (omega arith)
opened_groups (parts ∷ groups) (lines ∷ wires) each = ap (λ gs. group_of parts ∷ gs) (opened_groups groups wires (omega arith))

-- one group more is opened
opened_one : (groups : List Parts) (wires : List (List WireLine)) (i : ℕ) (d : Parts) (e : List WireLine) → i < length groups → length wires ≡ length groups → all_opened (take (suc i) groups) (take (suc i) wires) ≡ all_opened (take i groups) (take i wires) ++ opened (slice_index_or groups i d) (slice_index_or wires i e) ∷ []
opened_one [] wires i d e low each = absurd (omega (arith, low))
opened_one (parts ∷ groups) [] i d e low each = absurd (omega (arith, each))
opened_one (parts ∷ groups) (lines ∷ wires) zero d e low each = refl
opened_one (parts ∷ groups) (lines ∷ wires) (suc i) d e low each = ap (λ ss. opened parts lines ∷ ss) (opened_one groups wires i d e (omega (arith, low)) (omega (arith, each)))

pub opened_next : (groups : List Parts) (wires : List (List WireLine)) (i : ℕ) (d : Parts) (e : List WireLine) (states more : List GroupState) (s : GroupState) → i < length groups → length wires ≡ length groups → states ≡ all_opened (take i groups) (take i wires) → more ≡ states ++ s ∷ [] → s ≡ opened (slice_index_or groups i d) (slice_index_or wires i e) → more ≡ all_opened (take (i + 1) groups) (take (i + 1) wires)
opened_next groups wires i d e states more s low each was adds is =
    let one : i + 1 ≡ suc i = omega arith in
    adds ∙ ap (λ ss. ss ++ s ∷ []) was ∙ ap (λ x. all_opened (take i groups) (take i wires) ++ x ∷ []) is ∙ sym (opened_one groups wires i d e low each)
    ∙ ap (λ n. all_opened (take n groups) (take n wires)) (sym one)

-- a group that has a property in the document has it when it is opened
with_one : (groups : List Parts) (n : ℕ) (P : Group → Type 0) → IsGroupWith groups n P → IsSomeAnd (slice_get (map group_of groups) n) P
with_one [] n P is = absurd is
with_one (parts ∷ groups) zero P is = is
with_one (parts ∷ groups) (suc n) P is = with_one groups n P is

there_is : (groups : List Parts) (n : ℕ) → n < length groups → IsSomeAnd (slice_get (map group_of groups) n) (λ g. Unit)
there_is [] n low = absurd (omega arith)
there_is (parts ∷ groups) zero low = tt
there_is (parts ∷ groups) (suc n) low = there_is groups n (omega arith)

act_fits : (groups : List Parts) (act : Act) → IsSoundAct groups act → FitsIn act (map group_of groups)
act_fits groups (Propose n rows) fits = with_one groups n (ActFits (Propose n rows)) fits
act_fits groups (Await n) low = there_is groups n low
act_fits groups (Settle n rounds) fits = there_is groups n fits.0
act_fits groups (Lock n entity prio) fits = with_one groups n (ActFits (Lock n entity prio)) fits
act_fits groups (Unlock n entity prio) fits = with_one groups n (ActFits (Unlock n entity prio)) fits
act_fits groups (Read n entity var) fits = with_one groups n (IsVariableOf entity var) fits
act_fits groups (ReadAt n version entity var) fits = with_one groups n (IsVariableOf entity var) fits.1
act_fits groups (Fail n entity health rows) fits = with_one groups n (IsChangeOf entity health rows) fits
act_fits groups (Poll n entity) fits = with_one groups n (λ g. IsEntityOf g entity) fits
act_fits groups (Span first first_rows second second_rows) fits = absurd fits

-- the scripts of a document fit its groups
pub scripts_fit : (doc : Doc) → IsSoundDoc doc → AllFitIn doc.apps (map group_of doc.groups)
scripts_fit doc sound k d low j e lower = act_fits doc.groups (slice_index_or (slice_index_or doc.apps k d).acts j e) ((sound.apps k d low).acts j e lower)

-- acts leave the groups as they are
at_groups : (n : ℕ) (f : GroupState → GroupState) (ss : List GroupState) → ((s : GroupState) → (f s).history.group ≡ s.history.group) → groups_in (changed_at n f ss) ≡ groups_in ss
at_groups n f [] same = refl
at_groups zero f (s ∷ ss) same = ap (λ g. g ∷ groups_in ss) (same s)
at_groups (suc n) f (s ∷ ss) same = ap (λ gs. s.history.group ∷ gs) (at_groups n f ss same)

asked_groups : (app : ℕ) (act : Option Act) (run : Run) → groups_in (asked_done app act run).groups ≡ groups_in run.groups
asked_groups app None run = refl
asked_groups app (Some act) run = at_groups (group_number act) (act_on (record { 0 = app }) act) run.groups (λ s. refl)

pub place_groups : (apps : List Script) (place : Place) (run : Run) → groups_in (place_done apps place run).groups ≡ groups_in run.groups
place_groups apps place run = by_test (λ (r : Run). groups_in r.groups ≡ groups_in run.groups) (is_some run.full) run (asked_done place.app (act_of apps place) run) refl (asked_groups place.app (act_of apps place) run)

pub places_groups : (apps : List Script) (places : List Place) (run : Run) → groups_in (places_done apps places run).groups ≡ groups_in run.groups
places_groups apps [] run = refl
places_groups apps (place ∷ places) run = places_groups apps places (place_done apps place run) ∙ place_groups apps place run

pub checked_groups : (n : ℕ) (ss : List GroupState) → groups_in (all_decided n ss).groups ≡ groups_in ss
checked_groups n [] = refl
checked_groups n (s ∷ ss) =
    let course = checks_in s in
    by_test (λ (c : Checked). groups_in c.groups ≡ groups_in (s ∷ ss)) course.stopped (record { groups = state_at s course ∷ ss; full = Some n }) (with_group (state_at s course) (all_decided (n + 1) ss))
    refl (ap (λ gs. s.history.group ∷ gs) (checked_groups (n + 1) ss))

decided_groups : (run : Run) → groups_in (decided run).groups ≡ groups_in run.groups
decided_groups run = by_test (λ (r : Run). groups_in r.groups ≡ groups_in run.groups) (is_some run.full) run (with_checked run (all_decided 0 run.groups)) refl (checked_groups 0 run.groups)

pub scripts_groups : (doc : Doc) → IsSoundDoc doc → groups_in (scripts_done doc).groups ≡ map group_of doc.groups
scripts_groups doc sound = places_groups doc.apps (schedule doc.apps doc.order) (opening_run doc) ∙ opened_groups doc.groups doc.wires sound.wires

pub serial_groups : (doc : Doc) → IsSoundDoc doc → groups_in (serial_end doc).groups ≡ map group_of doc.groups
serial_groups doc sound = decided_groups (scripts_done doc) ∙ scripts_groups doc sound

-- so there are as many of them
pub same_count : (ss more : List GroupState) → groups_in more ≡ groups_in ss → length more ≡ length ss
same_count ss more same = sym (length-map more (λ s. s.history.group)) ∙ ap length same ∙ length-map ss (λ s. s.history.group)

as_many : (groups : List Parts) (ss : List GroupState) → groups_in ss ≡ map group_of groups → length ss ≡ length groups
as_many groups ss same = sym (length-map ss (λ s. s.history.group)) ∙ ap length same ∙ length-map groups group_of

pub scripts_many : (doc : Doc) → IsSoundDoc doc → length (scripts_done doc).groups ≡ length doc.groups
scripts_many doc sound = as_many doc.groups (scripts_done doc).groups (scripts_groups doc sound)

pub serial_many : (doc : Doc) → IsSoundDoc doc → length (serial_end doc).groups ≡ length doc.groups
serial_many doc sound = as_many doc.groups (serial_end doc).groups (serial_groups doc sound)

-- and there are as many logs
logged_count : (app : ℕ) (seen : Option LogEntry) (logs : List (List LogEntry)) → length (logged app seen logs) ≡ length logs
logged_count app None logs = refl
logged_count app (Some entry) logs = changed_count app (λ log. log ++ entry ∷ []) logs

asked_count : (app : ℕ) (act : Option Act) (run : Run) → length (asked_done app act run).logs ≡ length run.logs
asked_count app None run = refl
asked_count app (Some act) run = logged_count app (seen_of act (slice_get run.groups (group_number act))) run.logs

pub place_count : (apps : List Script) (place : Place) (run : Run) → length (place_done apps place run).logs ≡ length run.logs
place_count apps place run = by_test (λ (r : Run). length r.logs ≡ length run.logs) (is_some run.full) run (asked_done place.app (act_of apps place) run) refl (asked_count place.app (act_of apps place) run)

pub places_count : (apps : List Script) (places : List Place) (run : Run) → length (places_done apps places run).logs ≡ length run.logs
places_count apps [] run = refl
places_count apps (place ∷ places) run = places_count apps places (place_done apps place run) ∙ place_count apps place run

-- the last checks log nothing
decided_logs : (run : Run) → (decided run).logs ≡ run.logs
decided_logs run = by_test (λ (r : Run). r.logs ≡ run.logs) (is_some run.full) run (with_checked run (all_decided 0 run.groups)) refl refl

pub serial_count : (doc : Doc) → length (serial_end doc).logs ≡ length doc.apps
serial_count doc = ap length (decided_logs (scripts_done doc)) ∙ places_count doc.apps (schedule doc.apps doc.order) (opening_run doc) ∙ length-map doc.apps (λ app. [])

-- one act more is done
pub places_next : (apps : List Script) (places : List Place) (i : ℕ) (d : Place) (run more : Run) → i < length places → more ≡ place_done apps (slice_index_or places i d) run → places_done apps (drop (i + 1) places) more ≡ places_done apps (drop i places) run
places_next apps places i d run more low is =
    let one : i + 1 ≡ suc i = omega arith in
    ap (λ n. places_done apps (drop n places) more) one ∙ ap (places_done apps (drop (suc i) places)) is ∙ ap (λ ps. places_done apps ps run) (sym (drop-cons places i d low))

-- where a run stopped no act is done any more
place_full : (apps : List Script) (place : Place) (run : Run) → is_some run.full ≡ true → place_done apps place run ≡ run
place_full apps place run full = ap (λ b. if b then run else asked_done place.app (act_of apps place) run) full

pub places_full : (apps : List Script) (places : List Place) (run : Run) → is_some run.full ≡ true → places_done apps places run ≡ run
places_full apps [] run full = refl
places_full apps (place ∷ places) run full = ap (places_done apps places) (place_full apps place run full) ∙ places_full apps places run full

pub none_full : (full : Option ℕ) → is_some full ≡ false → full ≡ None
none_full None is = refl
none_full (Some n) is = cc

-- an act that reads changes nothing, and meets no full journal
seen_same : (app : AppId) (act : Act) (s : GroupState) (entry : LogEntry) → seen_by act s.history ≡ Some entry → act_on app act s ≡ s
seen_same app (Read n entity var) s entry is = refl
seen_same app (ReadAt n version entity var) s entry is = refl
seen_same app _ s entry is = cc

seen_goes : (app : AppId) (act : Act) (s : GroupState) (entry : LogEntry) → seen_by act s.history ≡ Some entry → (course_in app act s).stopped ≡ false
seen_goes app (Read n entity var) s entry is = refl
seen_goes app (ReadAt n version entity var) s entry is = refl
seen_goes app _ s entry is = cc

-- what the log of an application becomes
pub logged_one : (app : ℕ) (entry : LogEntry) (logs : List (List LogEntry)) (d : List LogEntry) → app < length logs → set logs app (slice_index_or logs app d ++ entry ∷ []) ≡ logged app (Some entry) logs
logged_one app entry logs d low = at_set app (λ l. l ++ entry ∷ []) logs d low

abbrev pub run_of : List GroupState → List (List LogEntry) → Option ℕ → Run
run_of ss logs full = record { groups = ss; logs = logs; full = full }

pub run_same : (ss more : List GroupState) (logs longer : List (List LogEntry)) (full last : Option ℕ) → ss ≡ more → logs ≡ longer → full ≡ last → run_of ss logs full ≡ run_of more longer last
run_same ss more logs longer full last p q r = rw (p, q, r) refl

-- the number of a group of which a course met a full journal
full_there : (app : AppId) (act : Act) (ss : List GroupState) (n : ℕ) (s : GroupState) (b : Bool) → n ≡ group_number act → slice_get ss n ≡ Some s → (course_in app act s).stopped ≡ b → (if b then Some n else None) ≡ full_of (group_number act) (option_map (course_in app act) (slice_get ss (group_number act)))
full_there app act ss n s b number there stops =
    let here : full_of n (option_map (course_in app act) (slice_get ss n)) ≡ (if b then Some n else None) = ap (λ (o : Option GroupState). full_of n (option_map (course_in app act) o)) there ∙ ap (λ t. if t then Some n else None) stops in
    sym here ∙ ap (λ m. full_of m (option_map (course_in app act) (slice_get ss m))) number

pub read_done : (app : AppId) (act : Act) (ss : List GroupState) (logs longer : List (List LogEntry)) (n : ℕ) (d : GroupState) (entry : LogEntry) → n ≡ group_number act → n < length ss → Some entry ≡ seen_by act (slice_index_or ss n d).history → longer ≡ logged app.0 (Some entry) logs → run_of (set ss n (slice_index_or ss n d)) longer None ≡ act_done app act (run_of ss logs None)
read_done app act ss logs longer n d entry number low seen adds =
    let s = slice_index_or ss n d in
    let there : slice_get ss n ≡ Some s = slice_get-get_or ss n d low in
    let at_number : seen_of act (slice_get ss (group_number act)) ≡ Some entry = ap (λ m. seen_of act (slice_get ss m)) (sym number) ∙ ap (seen_of act) there ∙ sym seen in
    run_same (set ss n s) (changed_at (group_number act) (act_on app act) ss) longer (logged app.0 (seen_of act (slice_get ss (group_number act))) logs) None _
    (changed_same n (act_on app act) ss d low (seen_same app act s entry (sym seen)) ∙ ap (λ m. changed_at m (act_on app act) ss) number)
    (adds ∙ ap (λ o. logged app.0 o logs) (sym at_number))
    (full_there app act ss n s false number there (seen_goes app act s entry (sym seen)))

pub other_done : (app : AppId) (act : Act) (ss : List GroupState) (logs : List (List LogEntry)) (n : ℕ) (d new : GroupState) (going : Going) (full : Option ℕ) → n ≡ group_number act → n < length ss → None ≡ seen_by act (slice_index_or ss n d).history → new ≡ state_at (slice_index_or ss n d) (course_in app act (slice_index_or ss n d)) → is_full going ≡ (course_in app act (slice_index_or ss n d)).stopped → full ≡ (if is_full going then Some n else None) → run_of (set ss n new) logs full ≡ act_done app act (run_of ss logs None)
other_done app act ss logs n d new going full number low seen goes stops full_is =
    let s = slice_index_or ss n d in
    let there : slice_get ss n ≡ Some s = slice_get-get_or ss n d low in
    let at_number : seen_of act (slice_get ss (group_number act)) ≡ None = ap (λ m. seen_of act (slice_get ss m)) (sym number) ∙ ap (seen_of act) there ∙ sym seen in
    run_same (set ss n new) (changed_at (group_number act) (act_on app act) ss) logs (logged app.0 (seen_of act (slice_get ss (group_number act))) logs) full _
    (ap (set ss n) goes ∙ at_set n (act_on app act) ss d low ∙ ap (λ m. changed_at m (act_on app act) ss) number)
    (ap (λ o. logged app.0 o logs) (sym at_number))
    (full_is ∙ full_there app act ss n s (is_full going) number there (sym stops))

-- a group that an act names is there, and the act fits it
in_range : (ss : List GroupState) (n : ℕ) (P : Group → Type 0) → IsSomeAnd (slice_get (groups_in ss) n) P → n < length ss
in_range [] n P is = absurd is
in_range (s ∷ ss) zero P is = omega arith
in_range (s ∷ ss) (suc n) P is = let low = in_range ss n P is in omega (arith, low)

fits_there : (ss : List GroupState) (n : ℕ) (P : Group → Type 0) (d : GroupState) → IsSomeAnd (slice_get (groups_in ss) n) P → P (slice_index_or ss n d).history.group
fits_there [] n P d is = absurd is
fits_there (s ∷ ss) zero P d is = is
fits_there (s ∷ ss) (suc n) P d is = fits_there ss n P d is

fits_in : (act : Act) (ss : List GroupState) (n : ℕ) → n ≡ group_number act → FitsIn act (groups_in ss) → IsSomeAnd (slice_get (groups_in ss) n) (ActFits act)
fits_in act ss n number fits = subst (λ m. IsSomeAnd (slice_get (groups_in ss) m) (ActFits act)) (sym number) fits

pub group_in : (act : Act) (ss : List GroupState) (n : ℕ) → n ≡ group_number act → FitsIn act (groups_in ss) → n < length ss
group_in act ss n number fits = in_range ss n (ActFits act) (fits_in act ss n number fits)

pub fits_group : (act : Act) (ss : List GroupState) (n : ℕ) (d : GroupState) → n ≡ group_number act → FitsIn act (groups_in ss) → ActFits act (slice_index_or ss n d).history.group
fits_group act ss n d number fits = fits_there ss n (ActFits act) d (fits_in act ss n number fits)

-- groups that are decided, before what comes of those that are left
abbrev pub with_groups : List GroupState → Checked → Checked
with_groups done later = record { groups = done ++ later.groups; full = later.full }

abbrev pub decided_from : ℕ → List GroupState → Checked
decided_from i ss = with_groups (take i ss) (all_decided i (drop i ss))

-- where a group meets its full journal those behind it stay as they are
pub decide_full : (i : ℕ) (ss : List GroupState) (d new : GroupState) (going : Going) → i < length ss → new ≡ state_at (slice_index_or ss i d) (checks_in (slice_index_or ss i d)) → is_full going ≡ (checks_in (slice_index_or ss i d)).stopped → is_full going ≡ true → record { groups = set ss i new; full = Some i } ≡ decided_from i ss
decide_full i ss d new going low goes stopped full =
    let s = slice_index_or ss i d in
    let rest = drop (suc i) ss in
    let stops : (checks_in s).stopped ≡ true = sym stopped ∙ full in
    let first : all_decided i (drop i ss) ≡ record { groups = new ∷ rest; full = Some i } =
    ap (all_decided i) (drop-cons ss i d low)
    ∙ ap (λ b. if b then record { groups = state_at s (checks_in s) ∷ rest; full = Some i } else with_group (state_at s (checks_in s)) (all_decided (i + 1) rest)) stops
    ∙ ap (λ x. record { groups = x ∷ rest; full = Some i }) (sym goes) in
    ap (λ gs. record { groups = gs; full = Some i }) (set_split ss i new low) ∙ sym (ap (with_groups (take i ss)) first)

-- where one is decided the others are left
pub decide_next : (i : ℕ) (ss : List GroupState) (d new : GroupState) → i < length ss → new ≡ state_at (slice_index_or ss i d) (checks_in (slice_index_or ss i d)) → (checks_in (slice_index_or ss i d)).stopped ≡ false → decided_from (i + 1) (set ss i new) ≡ decided_from i ss
decide_next i ss d new low goes on =
    let s = slice_index_or ss i d in
    let rest = drop (suc i) ss in
    let one : i + 1 ≡ suc i = omega arith in
    let first : all_decided i (drop i ss) ≡ with_group new (all_decided (i + 1) rest) =
    ap (all_decided i) (drop-cons ss i d low)
    ∙ ap (λ b. if b then record { groups = state_at s (checks_in s) ∷ rest; full = Some i } else with_group (state_at s (checks_in s)) (all_decided (i + 1) rest)) on
    ∙ ap (λ x. with_group x (all_decided (i + 1) rest)) (sym goes) in
    ap (λ m. with_groups (take m (set ss i new)) (all_decided (i + 1) (drop m (set ss i new)))) one
    ∙ ap (λ gs. with_groups gs (all_decided (i + 1) (drop (suc i) (set ss i new)))) (take-suc-set ss i new low)
    ∙ ap (λ gs. with_groups (take i ss ++ new ∷ []) (all_decided (i + 1) gs)) (drop-set-lt (suc i) ss i new (omega arith))
    ∙ ap (λ gs. record { groups = gs; full = (all_decided (i + 1) rest).full }) (append_assoc (take i ss) (new ∷ []) (all_decided (i + 1) rest).groups)
    ∙ sym (ap (with_groups (take i ss)) first)
