-- At most 64 proposals are pending, and each check takes the oldest: so 64 checks leave none of them, unless one meets a full journal.
use Rattle.std.proofs.Common.{◌≡◌, ℕ, zero, suc, ◌+◌, ◌≤◌, List, [], ◌∷◌, ◌++◌, length, Bool, true, false, Option, Some, None, refl, ap, sym, ◌∙◌, arith, length-append, length-drop}
use Rattle.std.specs.Prelude.{All, is_some, nat_lt, if◌then◌else◌}
use Rattle.std.proofs.lemmas.List.Elements.{All-nil, All-cons, All-head, All-tail}
use Rattle.st_net.specs.declared.entity.AppId.{AppId}
use Rattle.st_net.specs.declared.entity.Row.{Row}
use Rattle.st_net.specs.declared.parts.Parts.{Parts}
use Rattle.st_net.specs.Groups.{Group}
use Rattle.st_net.proofs.Tests.{less_is}
use Rattle.st_event.specs.declared.act.Act.{Act}
use Rattle.st_event.specs.declared.event.Event.{Event}
use Rattle.st_event.specs.declared.event.Event.TheVariants.{Submit, Check}
use Rattle.st_event.specs.declared.event.Proposal.{Proposal}
use Rattle.st_event.specs.declared.journal.Entry.{Entry}
use Rattle.st_event.specs.declared.journal.TheConstants.{MAX_ENTRIES, MAX_PENDING}
use Rattle.st_event.specs.declared.reply.Reply.TheVariants.{Queued, Full}
use Rattle.st_event.specs.Proposals.{pending, proposals, verdicts}
use Rattle.st_event.specs.Replies.{check_reply, receipt_of}
use Rattle.st_event.specs.Services.{entry_after}
use Rattle.st_event.proofs.LawLemmas.{few_wait}
use Rattle.st_event.proofs.Queues.{drop-verdict}
use Rattle.st_grammar.specs.declared.doc.Doc.{Doc}
use Rattle.st_grammar.specs.declared.doc.Script.{Script}
use Rattle.st_wire.specs.declared.line.WireLine.{WireLine}
use Rattle.st_world.specs.Rounds.{Course, course_from, enter}
use Rattle.st_world.specs.Acts.{checked_while, group_number, has_one_of, is_something}
use Rattle.st_world.proofs.ActLaws.{while-stopped}
use Rattle.st_world.proofs.RunLaws.{entered}
use Rattle.st_serial.specs.declared.schedule.Place.{Place}
use Rattle.st_serial.specs.Schedule.{schedule}
use Rattle.st_serial.specs.Serial.{Checked, GroupState, Run, act_of, act_on, all_decided, all_opened, asked_done, changed_at, checks_in, opened, opening_run, place_done, places_done, scripts_done, state_at, with_checked, with_group}
use Rattle.st_serial.specs.Decided.{AllAreDecided, AwaitsDecide, HasNonePending}
use Rattle.st_serial.proofs.Lists.{by_test}
use Rattle.st_serial.proofs.Shares.{course-keeps}

-- few proposals have no verdict

record HasFewPending (past : List Entry) : Type 0 where
  few : length (proposals past) ≤ length (verdicts past) + MAX_PENDING

one_more : {X : Type 0} (xs : List X) (x : X) → length (xs ++ x ∷ []) ≡ length xs + 1
one_more xs x = rw length-append refl

submitted_few : (past : List Entry) (app : AppId) (rows : List Row) (b : Bool) → nat_lt (length (pending past)) MAX_PENDING ≡ b → HasFewPending past → HasFewPending (record { event = Submit app rows; reply = if b then Queued (length (proposals past) + 1) else Full (length (pending past)) } ∷ past)
submitted_few past app rows true room is =
    let waiting = length-drop (length (verdicts past)) (proposals past) in
    let less = less_is (length (pending past)) MAX_PENDING room in
    record { few = omega (arith, waiting, less, one_more (proposals past) (record { app = app; rows = rows })) }
submitted_few past app rows false room is = record { few = is.few }

checked_few : (g : Group) (past : List Entry) (queue : List Proposal) → HasFewPending past → HasFewPending (record { event = Check; reply = check_reply g past queue } ∷ past)
checked_few g past [] is = record { few = is.few }
checked_few g past (p ∷ rest) is = record { few = omega (arith, is.few, one_more (verdicts past) (receipt_of g past p).verdict) }

after_few : (g : Group) (past : List Entry) (event : Event) → HasFewPending past → HasFewPending (entry_after g past event ∷ past)
after_few g past (Submit app rows) is = submitted_few past app rows (nat_lt (length (pending past)) MAX_PENDING) refl is
after_few g past Check is = checked_few g past (pending past) is
after_few g past _ is = record { few = is.few }

abbrev IsFewIn : Course → Type 0
IsFewIn course = HasFewPending course.past

entered_few : (course : Course) (entry : Entry) (stopped room : Bool) → IsFewIn course → HasFewPending (entry ∷ course.past) → IsFewIn (entered course entry stopped room)
entered_few course entry true room is next = is
entered_few course entry false true is next = next
entered_few course entry false false is next = is

enter_few : (g : Group) (course : Course) (event : Event) → IsFewIn course → IsFewIn (enter g course event)
enter_few g course event is = entered_few course (entry_after g course.past event) course.stopped (nat_lt (length course.past) MAX_ENTRIES) is (after_few g course.past event is)

-- so it is in each group, whatever the scripts do

abbrev HasFew : GroupState → Type 0
HasFew s = HasFewPending s.history.past

act_few : (app : AppId) (act : Act) (s : GroupState) → HasFew s → HasFew (act_on app act s)
act_few app act s is = course-keeps s.history.group IsFewIn (enter_few s.history.group) app act s.lines (course_from s.history.past) is

-- a group that is changed keeps what each keeps
pub changed_all : {X : Type 0} (P : X → Type 0) (n : ℕ) (f : X → X) (xs : List X) → ((x : X) → P x → P (f x)) → All P xs → All P (changed_at n f xs)
changed_all P n f [] keeps all = all
changed_all P zero f (x ∷ xs) keeps all = All-cons P (f x) xs (keeps x (All-head P x xs all)) (All-tail P x xs all)
changed_all P (suc n) f (x ∷ xs) keeps all = All-cons P x (changed_at n f xs) (All-head P x xs all) (changed_all P n f xs keeps (All-tail P x xs all))

asked_few : (app : ℕ) (act : Option Act) (run : Run) → All HasFew run.groups → All HasFew (asked_done app act run).groups
asked_few app None run few = few
asked_few app (Some act) run few = changed_all HasFew (group_number act) (act_on (record { 0 = app }) act) run.groups (act_few (record { 0 = app }) act) few

place_few : (apps : List Script) (place : Place) (run : Run) → All HasFew run.groups → All HasFew (place_done apps place run).groups
place_few apps place run few = by_test (λ (r : Run). All HasFew r.groups) (is_some run.full) run (asked_done place.app (act_of apps place) run) few (asked_few place.app (act_of apps place) run few)

places_few : (apps : List Script) (places : List Place) (run : Run) → All HasFew run.groups → All HasFew (places_done apps places run).groups
places_few apps [] run few = few
places_few apps (place ∷ places) run few = places_few apps places (place_done apps place run) (place_few apps place run few)

opened_few : (groups : List Parts) (wires : List (List WireLine)) → All HasFew (all_opened groups wires)
opened_few [] wires = All-nil HasFew
opened_few (parts ∷ groups) [] = All-nil HasFew
opened_few (parts ∷ groups) (lines ∷ wires) = All-cons HasFew (opened parts lines) (all_opened groups wires) (record { few = omega arith }) (opened_few groups wires)

scripts_few : (doc : Doc) → All HasFew (scripts_done doc).groups
scripts_few doc = places_few doc.apps (schedule doc.apps doc.order) (opening_run doc) (opened_few doc.groups doc.wires)

few_pending : (past : List Entry) → HasFewPending past → length (pending past) ≤ MAX_PENDING
few_pending past is = let waiting = length-drop (length (verdicts past)) (proposals past) in omega (arith, waiting, is.few)

-- a check takes the oldest
check_takes : (g : Group) (past : List Entry) (p : Proposal) (rest : List Proposal) → pending past ≡ p ∷ rest → pending (entry_after g past Check ∷ past) ≡ rest
check_takes g past p rest first =
    ap (λ (queue : List Proposal). pending (record { event = Check; reply = check_reply g past queue } ∷ past)) first
    ∙ drop-verdict (proposals past) rest (verdicts past) (receipt_of g past p).verdict p first

-- checks while what is pending passes, where nothing that is no proposal does

module _ (g : Group) (waits : List Proposal → Bool) (none : waits [] ≡ false) where
  -- unless it met a full journal, what is pending does not pass
  abbrev IsDone : Course → Type 0
  IsDone course = course.stopped ≡ false → waits (pending course.past) ≡ false

  stopped_done : (n : ℕ) (course : Course) → course.stopped ≡ true → IsDone (checked_while g waits n course)
  stopped_done n course stopped on =
      let no : true ≡ false = sym stopped ∙ ap (λ (c : Course). c.stopped) (sym (while-stopped g waits n course stopped)) ∙ on in
      cc

  check_done : (n : ℕ) (course : Course) (p : Proposal) (rest : List Proposal) (stopped room : Bool) → course.stopped ≡ stopped → pending course.past ≡ p ∷ rest → length (p ∷ rest) ≤ suc n → (length (pending (entered course (entry_after g course.past Check) stopped room).past) ≤ n → IsDone (checked_while g waits n (entered course (entry_after g course.past Check) stopped room))) → IsDone (checked_while g waits n (entered course (entry_after g course.past Check) stopped room))
  check_done n course p rest true room is first few next = stopped_done n course is
  check_done n course p rest false true is first few next = let fewer = ap length (check_takes g course.past p rest first) in next (omega (arith, fewer, few))
  check_done n course p rest false false is first few next = stopped_done n (record { past = course.past; stopped = true }) refl

  one_done : (n : ℕ) (course : Course) (queue : List Proposal) → pending course.past ≡ queue → waits queue ≡ true → length queue ≤ suc n → (length (pending (enter g course Check).past) ≤ n → IsDone (checked_while g waits n (enter g course Check))) → IsDone (checked_while g waits n (enter g course Check))
  one_done n course [] first some few next = let no : true ≡ false = sym some ∙ none in cc
  one_done n course (p ∷ rest) first some few next = check_done n course p rest course.stopped (nat_lt (length course.past) MAX_ENTRIES) refl first few next

  by_waiting : (n : ℕ) (course : Course) (b : Bool) → waits (pending course.past) ≡ b → (b ≡ true → IsDone (checked_while g waits n (enter g course Check))) → IsDone (if b then checked_while g waits n (enter g course Check) else course)
  by_waiting n course true is next = next refl
  by_waiting n course false is next = λ on. is

  no_one : (queue : List Proposal) → length queue ≤ 0 → waits queue ≡ false
  no_one [] few = none
  no_one (p ∷ queue) few = absurd (omega (arith, few))

  while_done : (n : ℕ) (course : Course) → length (pending course.past) ≤ n → IsDone (checked_while g waits n course)
  unfolding checked_while
  while_done zero course few = λ on. no_one (pending course.past) few
  while_done (suc n) course few = by_waiting n course (waits (pending course.past)) refl (λ some. one_done n course (pending course.past) refl some few (while_done n (enter g course Check)))

-- the checks in the end

nothing : (ps : List Proposal) → is_something ps ≡ false → ps ≡ []
nothing [] is = refl
nothing (p ∷ ps) is = cc

checks_done : (s : GroupState) → HasFew s → (checks_in s).stopped ≡ false → HasNonePending (state_at s (checks_in s))
checks_done s few on =
    nothing (pending (checks_in s).past) (while_done s.history.group is_something refl MAX_PENDING (course_from s.history.past) (few_pending s.history.past few) on)

abbrev IsClear : Checked → Type 0
IsClear checked = checked.full ≡ None → All HasNonePending checked.groups

one_clear : (i : ℕ) (s : GroupState) (ss : List GroupState) (b : Bool) → (checks_in s).stopped ≡ b → HasFew s → IsClear (all_decided (i + 1) ss) → IsClear (if b then record { groups = state_at s (checks_in s) ∷ ss; full = Some i } else with_group (state_at s (checks_in s)) (all_decided (i + 1) ss))
one_clear i s ss true is few rest none = cc
one_clear i s ss false is few rest none = All-cons HasNonePending (state_at s (checks_in s)) (all_decided (i + 1) ss).groups (checks_done s few is) (rest none)

all_clear : (i : ℕ) (ss : List GroupState) → All HasFew ss → IsClear (all_decided i ss)
all_clear i [] few = λ none. All-nil HasNonePending
all_clear i (s ∷ ss) few = one_clear i s ss (checks_in s).stopped refl (All-head HasFew s ss few) (all_clear (i + 1) ss (All-tail HasFew s ss few))

run_clear : (run : Run) (b : Bool) → is_some run.full ≡ b → All HasFew run.groups → (if b then run else with_checked run (all_decided 0 run.groups)).full ≡ None → All HasNonePending (if b then run else with_checked run (all_decided 0 run.groups)).groups
run_clear run true is few none = let no : false ≡ true = ap is_some (sym none) ∙ is in cc
run_clear run false is few none = all_clear 0 run.groups few none

pub all_are_decided : AllAreDecided
all_are_decided doc none = let run = scripts_done doc in run_clear run (is_some run.full) refl (scripts_few doc) none

pub awaits_decide : AwaitsDecide
awaits_decide g past app legal on = while_done g (has_one_of app) refl MAX_PENDING (course_from past) (few_wait g past legal) on
