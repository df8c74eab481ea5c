-- What `serial` made of a document is a run that can be printed, and so replayed.
use Rattle.std.proofs.Common.{◌≡◌, ℕ, zero, suc, ◌+◌, ◌<◌, ◌^◌, List, [], ◌∷◌, length, Bool, true, false, Option, Some, None, refl, ap, sym, ◌∙◌, subst, arith}
use Rattle.std.specs.Prelude.{All, IfSome, map, reverse, slice_get, slice_index_or, nat_lt, ◌==◌, ◌&&◌, if◌then◌else◌, is_some}
use Rattle.std.specs.List.{cons_option, filter_map, list_any}
use Rattle.std.proofs.lemmas.Bool.Decides.{nat_tests}
use Rattle.std.proofs.lemmas.List.{reverse-append, length-map}
use Rattle.std.proofs.lemmas.List.Elements.{All-nil, All-cons, All-head, All-tail, All-append}
use Rattle.std.proofs.lemmas.Option.{slice_get_within}
use Rattle.st_net.specs.declared.entity.AppId.{AppId}
use Rattle.st_net.specs.declared.entity.Entity.{Entity}
use Rattle.st_net.specs.declared.entity.Row.{Row}
use Rattle.st_net.specs.declared.entity.Var.{Var}
use Rattle.st_net.specs.declared.parts.Parts.{Parts}
use Rattle.st_net.specs.Faults.{group_of}
use Rattle.st_net.specs.Groups.{Group}
use Rattle.st_event.specs.declared.act.Act.{Act}
use Rattle.st_event.specs.declared.act.Act.TheVariants.{Propose, Await, Settle, Lock, Unlock, Read, ReadAt, Fail, Poll, Span}
use Rattle.st_event.specs.declared.event.Event.{Event}
use Rattle.st_event.specs.declared.event.Event.TheVariants.{Submit, Check, Lock as lock_event, Unlock as unlock_event, Send, Deliver, Finish, Report as make_report, Hear, Fail as fail_event, Withdraw}
use Rattle.st_event.specs.declared.event.Proposal.{Proposal}
use Rattle.st_event.specs.declared.reply.Reply.{Reply}
use Rattle.st_event.specs.declared.reply.Reply.TheVariants.{Queued, Full as full_queue, Decided, Idle, Granted, Held, Released, NotYours, Sent, Settled, Blocked, Begun, Stale, NoSuch, Done, NotBusy, Reported, Taken, Old, Changed, Withdrawn, Kept}
use Rattle.st_event.specs.declared.reply.Lack.{Lack}
use Rattle.st_event.specs.declared.journal.Entry.{Entry}
use Rattle.st_event.specs.declared.journal.Journal.{Journal}
use Rattle.st_event.specs.declared.journal.TheConstants.{MAX_ENTRIES, MAX_PENDING}
use Rattle.st_event.specs.Judge.{lack_at}
use Rattle.st_event.specs.Moments.{commands, vals}
use Rattle.st_event.specs.Observed.{is_settled, observed}
use Rattle.st_event.specs.Proposals.{pending, target}
use Rattle.st_event.specs.Replies.{blocked_or_sent, governing, row_to, send_reply}
use Rattle.st_event.specs.Services.{entry_after}
use Rattle.st_wire.specs.declared.line.WireKind.{WireKind}
use Rattle.st_wire.specs.declared.line.WireKind.TheVariants.{Command as command_kind, Report as report_kind}
use Rattle.st_wire.specs.declared.line.WireLine.{WireLine}
use Rattle.st_wire.specs.declared.line.WireLine.TheVariants.{Drop, Repeat, Hold}
use Rattle.st_wire.specs.Deliveries.{brought_at, deliveries, is_same_kind, keeps_back, own_delivery}
use Rattle.st_world.specs.Rounds.{Course, course_from, enter, enter_all, enter_told, follow_ups, follow_ups_of, is_called_back, poll, send_turn, turn, turns, unsettled, update_turn}
use Rattle.st_world.specs.Acts.{checked_while, course_of, failed_vals, group_number, has_one_of, is_none_left, is_something, rounds_done, with_room}
use Rattle.st_world.proofs.WorldLaws.{few_commands, few_reports}
use Rattle.st_grammar.specs.declared.doc.Doc.{Doc}
use Rattle.st_grammar.specs.declared.doc.Script.{Script}
use Rattle.st_grammar.specs.Sound.{AreSoundWires, IsSoundDoc, IsSoundWire}
use Rattle.st_journal.specs.ReadingBack.{AreNumbered, HasSmallNumber, IsAsked, IsByApp}
use Rattle.st_replay.specs.Replaying.{app_names}
use Rattle.st_serial.specs.declared.schedule.Place.{Place}
use Rattle.st_serial.specs.Kept.{AreKept, groups_of}
use Rattle.st_serial.specs.Schedule.{schedule}
use Rattle.st_serial.specs.Serial.{Checked, GroupState, Run, act_in, act_of, act_on, all_decided, all_opened, asked_done, checks_in, journals_from, opened, opening_run, place_done, places_done, scripts_done, serial_end, serial_run, state_at, with_checked, with_group}
use Rattle.st_serial.proofs.Lists.{by_test}
use Rattle.st_serial.proofs.Waiting.{changed_all}
use Rattle.st_top.specs.Answer.{AreOfScripts, Results}
use Rattle.st_top.specs.PrintedRuns.{IsRun, SerialRunsAreReplayed}
use Rattle.st_top.proofs.PrintedRuns.{printed_runs_are_replayed}
use Rattle.st_top.proofs.ThreadRuns.{legal_here}

-- what holds of both values that a test chooses between, each looked at only as the test comes out, holds of the one that it chooses
by_case : {X : Type 0} (P : X → Type 0) (b : Bool) (x y : X) → (b ≡ true → P x) → (b ≡ false → P y) → P (if b then x else y)
by_case P true x y first second = first refl
by_case P false x y first second = second refl

reversed : {X : Type 0} (P : X → Type 0) (xs : List X) → All P xs → All P (reverse xs)
reversed P [] all = All-nil P
reversed P (x ∷ xs) all =
    subst (All P) (sym (reverse-append (x ∷ []) xs))
    (All-append P (reverse xs) (x ∷ []) (reversed P xs (λ k d low. all (suc k) d (omega (arith, low)))) (All-cons P x [] (all 0 x (omega arith)) (All-nil P)))

-- message numbers of 32 bits

abbrev IsSmall : ℕ → Type 0
IsSmall n = n < 2 ^ 32

option_small : (o : Option ℕ) (ns : List ℕ) → IfSome o IsSmall → All IsSmall ns → All IsSmall (cons_option o ns)
option_small None ns small all = all
option_small (Some n) ns small all = All-cons IsSmall n ns small all

-- what a sound line brings
brought_small : (kind : WireKind) (m : ℕ) (line : WireLine) → IsSoundWire line → IfSome (brought_at kind m line) IsSmall
brought_small kind m (Drop k n) sound = tt
brought_small kind m (Repeat k n at) sound = by_test (λ o. IfSome o IsSmall) (is_same_kind k kind && at == m) (Some n) None (omega (arith, sound.1, sound.2)) tt
brought_small kind m (Hold k n at) sound = by_test (λ o. IfSome o IsSmall) (is_same_kind k kind && at == m) (Some n) None (omega (arith, sound.1, sound.2)) tt

all_brought_small : (kind : WireKind) (m : ℕ) (lines : List WireLine) → All IsSoundWire lines → All IsSmall (filter_map (brought_at kind m) lines)
all_brought_small kind m [] sound = All-nil IsSmall
all_brought_small kind m (line ∷ lines) sound =
    option_small (brought_at kind m line) (filter_map (brought_at kind m) lines) (brought_small kind m line (sound 0 line (omega arith)))
    (all_brought_small kind m lines (λ k d low. sound (suc k) d (omega (arith, low))))

-- what arrives at a turn of 32 bits
deliveries_small : (kind : WireKind) (m : ℕ) (lines : List WireLine) → All IsSoundWire lines → IsSmall m → All IsSmall (deliveries lines kind m)
deliveries_small kind m lines sound small =
    All-append IsSmall (own_delivery lines kind m) (filter_map (brought_at kind m) lines)
    (by_test (All IsSmall) (list_any (keeps_back kind m) lines) [] (m ∷ []) (All-nil IsSmall) (All-cons IsSmall m [] small (All-nil IsSmall)))
    (all_brought_small kind m lines sound)

-- an event that these applications may ask for, and that names a message as a call can
record MayAsk (apps : List (List ℕ)) (event : Event) : Type 0 where
  app : IsByApp apps event
  number : HasSmallNumber event

-- a message in a reply has a number of 32 bits
abbrev HasSmallMessage : Reply → Type 0
HasSmallMessage (Sent n) = IsSmall n
HasSmallMessage (Reported n) = IsSmall n
HasSmallMessage (Queued ticket) = Unit {0}
HasSmallMessage (full_queue pending) = Unit {0}
HasSmallMessage (Decided receipt) = Unit {0}
HasSmallMessage Idle = Unit {0}
HasSmallMessage Granted = Unit {0}
HasSmallMessage (Held holder) = Unit {0}
HasSmallMessage Released = Unit {0}
HasSmallMessage (NotYours holder) = Unit {0}
HasSmallMessage Settled = Unit {0}
HasSmallMessage (Blocked row) = Unit {0}
HasSmallMessage Begun = Unit {0}
HasSmallMessage (Stale fence) = Unit {0}
HasSmallMessage (NoSuch made) = Unit {0}
HasSmallMessage Done = Unit {0}
HasSmallMessage NotBusy = Unit {0}
HasSmallMessage Taken = Unit {0}
HasSmallMessage (Old kept) = Unit {0}
HasSmallMessage Changed = Unit {0}
HasSmallMessage (Withdrawn version rows) = Unit {0}
HasSmallMessage Kept = Unit {0}

sent_by : (o : Option Lack) (row : Row) (sent : ℕ) → sent < MAX_ENTRIES → HasSmallMessage (blocked_or_sent o row sent)
sent_by None row sent few = omega (arith, few)
sent_by (Some lack) row sent few = tt

send_small : (g : Group) (past : List Entry) (e : Entity) (v : Var) → length past < MAX_ENTRIES → HasSmallMessage (send_reply g past e v)
send_small g past e v few =
    let sent = length (commands g past) in
    by_test HasSmallMessage (is_settled g past e) Settled (blocked_or_sent (lack_at g (observed g past) (target g past) e v) (row_to e v (target g past e)) sent) tt
    (sent_by (lack_at g (observed g past) (target g past) e v) (row_to e v (target g past e)) sent (omega (arith, few, few_commands g past)))

module _ (apps : List (List ℕ)) where
  -- events that these applications may ask for, one after another
  abbrev AllMayAsk : List Event → Type 0
  AllMayAsk [] = Unit {0}
  AllMayAsk (event ∷ events) = MayAsk apps event × AllMayAsk events

  abbrev AreAsked : List Entry → Type 0
  AreAsked past = All (IsAsked apps) past

  abbrev CourseIsAsked : Course → Type 0
  CourseIsAsked course = AreAsked course.past

  delivers : (ns : List ℕ) → All IsSmall ns → AllMayAsk (map Deliver ns)
  delivers [] small = tt
  delivers (n ∷ ns) small = (record { app = tt; number = small 0 n (omega arith) }, delivers ns (λ k d low. small (suc k) d (omega (arith, low))))

  hears : (ns : List ℕ) → All IsSmall ns → AllMayAsk (map Hear ns)
  hears [] small = tt
  hears (n ∷ ns) small = (record { app = tt; number = small 0 n (omega arith) }, hears ns (λ k d low. small (suc k) d (omega (arith, low))))

  follow_ups_may : (g : Group) (lines : List WireLine) (past : List Entry) (reply : Reply) → All IsSoundWire lines → HasSmallMessage reply → AllMayAsk (follow_ups_of g lines past reply)
  follow_ups_may g lines past (Sent n) sound small = delivers (deliveries lines command_kind n) (deliveries_small command_kind n lines sound small)
  follow_ups_may g lines past (Reported n) sound small = hears (deliveries lines report_kind n) (deliveries_small report_kind n lines sound small)
  follow_ups_may g lines past (Queued ticket) sound small = tt
  follow_ups_may g lines past (full_queue pending) sound small = tt
  follow_ups_may g lines past (Decided receipt) sound small = tt
  follow_ups_may g lines past Idle sound small = tt
  follow_ups_may g lines past Granted sound small = tt
  follow_ups_may g lines past (Held holder) sound small = tt
  follow_ups_may g lines past Released sound small = tt
  follow_ups_may g lines past (NotYours holder) sound small = tt
  follow_ups_may g lines past Settled sound small = tt
  follow_ups_may g lines past (Blocked row) sound small = tt
  follow_ups_may g lines past Begun sound small = tt
  follow_ups_may g lines past (Stale fence) sound small = tt
  follow_ups_may g lines past (NoSuch made) sound small = tt
  follow_ups_may g lines past Done sound small = tt
  follow_ups_may g lines past NotBusy sound small = tt
  follow_ups_may g lines past Taken sound small = tt
  follow_ups_may g lines past (Old kept) sound small = tt
  follow_ups_may g lines past Changed sound small = tt
  follow_ups_may g lines past (Withdrawn version rows) sound small = tt
  follow_ups_may g lines past Kept sound small = tt

  -- an event more

  abbrev entered : Group → List Entry → Event → Course
  entered g past event = record { past = entry_after g past event ∷ past; stopped = false }

  abbrev filled : List Entry → Course
  filled past = record { past = past; stopped = true }

  entered_asked : (g : Group) (past : List Entry) (event : Event) → MayAsk apps event → AreAsked past → AreAsked (entry_after g past event ∷ past)
  entered_asked g past event may asked = All-cons (IsAsked apps) (entry_after g past event) past (record { app = may.app; number = may.number }) asked

  enter_asked : (g : Group) (course : Course) (event : Event) → MayAsk apps event → CourseIsAsked course → CourseIsAsked (enter g course event)
  enter_asked g course event may asked =
      by_test CourseIsAsked course.stopped course (if nat_lt (length course.past) MAX_ENTRIES then entered g course.past event else filled course.past) asked
      (by_test CourseIsAsked (nat_lt (length course.past) MAX_ENTRIES) (entered g course.past event) (filled course.past) (entered_asked g course.past event may asked) asked)

  enter_all_asked : (g : Group) (course : Course) (events : List Event) → AllMayAsk events → CourseIsAsked course → CourseIsAsked (enter_all g course events)
  enter_all_asked g course [] may asked = asked
  enter_all_asked g course (event ∷ events) may asked = enter_all_asked g (enter g course event) events may.1 (enter_asked g course event may.0 asked)

  -- a course that has stopped takes no event
  enter_stopped : (g : Group) (course : Course) (event : Event) → course.stopped ≡ true → enter g course event ≡ course
  enter_stopped g course event stops = ap (λ (b : Bool). if b then course else (if nat_lt (length course.past) MAX_ENTRIES then entered g course.past event else filled course.past)) stops

  stopped_asked : (g : Group) (course : Course) (events : List Event) → course.stopped ≡ true → CourseIsAsked course → CourseIsAsked (enter_all g course events)
  stopped_asked g course [] stops asked = asked
  stopped_asked g course (event ∷ events) stops asked =
      let same = enter_stopped g course event stops in
      subst (λ c. CourseIsAsked (enter_all g c events)) (sym same) (stopped_asked g course events stops asked)

  low_by : (m n : ℕ) → nat_lt m n ≡ true → m < n
  low_by m n is = grind (arith, nat_tests)

  -- an event, and what follows its entry
  told_asked : (g : Group) (lines : List WireLine) (course : Course) (event : Event) → All IsSoundWire lines → MayAsk apps event
      → (length course.past < MAX_ENTRIES → HasSmallMessage (entry_after g course.past event).reply) → CourseIsAsked course → CourseIsAsked (enter_told g lines course event)
  told_asked g lines course event sound may small asked =
      let told : Course → Course = λ next. enter_all g next (follow_ups g lines next.past) in
      by_case (λ next. CourseIsAsked (told next)) course.stopped course (if nat_lt (length course.past) MAX_ENTRIES then entered g course.past event else filled course.past)
      (λ stops. stopped_asked g course (follow_ups g lines course.past) stops asked)
      (λ goes. by_case (λ next. CourseIsAsked (told next)) (nat_lt (length course.past) MAX_ENTRIES) (entered g course.past event) (filled course.past)
      (λ low. enter_all_asked g (entered g course.past event) (follow_ups_of g lines (entry_after g course.past event ∷ course.past) (entry_after g course.past event).reply)
      (follow_ups_may g lines (entry_after g course.past event ∷ course.past) (entry_after g course.past event).reply sound (small (low_by (length course.past) MAX_ENTRIES low)))
      (entered_asked g course.past event may asked))
      (λ high. stopped_asked g (filled course.past) (follow_ups g lines course.past) refl asked))

  -- a turn, and turns

  sent_asked : (g : Group) (lines : List WireLine) (course : Course) (e : Entity) → All IsSoundWire lines → CourseIsAsked course → CourseIsAsked (enter_told g lines course (Send e))
  sent_asked g lines course e sound asked = told_asked g lines course (Send e) sound (record { app = tt; number = tt }) (λ few. send_small g course.past e (governing e (observed g course.past e).vals (target g course.past e)) few) asked

  update_asked : (g : Group) (lines : List WireLine) (course : Course) (e : Entity) → All IsSoundWire lines → CourseIsAsked course → CourseIsAsked (update_turn g lines course e)
  update_asked g lines course e sound asked =
      let told = enter_told g lines course (Send e) in
      enter_asked g (send_turn g lines course e) (Finish e) (record { app = tt; number = tt })
      (by_test CourseIsAsked (is_called_back g told.past e) (enter g told (Withdraw e)) told (enter_asked g told (Withdraw e) (record { app = tt; number = tt }) (sent_asked g lines course e sound asked)) (sent_asked g lines course e sound asked))

  poll_asked : (g : Group) (lines : List WireLine) (course : Course) (e : Entity) → All IsSoundWire lines → CourseIsAsked course → CourseIsAsked (poll g lines course e)
  poll_asked g lines course e sound asked = told_asked g lines course (make_report e) sound (record { app = tt; number = tt }) (λ few. omega (arith, few, few_reports g course.past)) asked

  turns_asked : (g : Group) (lines : List WireLine) (course : Course) (es : List Entity) → All IsSoundWire lines → CourseIsAsked course → CourseIsAsked (turns g lines course es)
  turns_asked g lines course [] sound asked = asked
  turns_asked g lines course (e ∷ es) sound asked = turns_asked g lines (turn g lines course e) es sound (poll_asked g lines (update_turn g lines course e) e sound (update_asked g lines course e sound asked))

  rounds_asked : (g : Group) (lines : List WireLine) (n : ℕ) (course : Course) → All IsSoundWire lines → CourseIsAsked course → CourseIsAsked (rounds_done g lines n course)
  unfolding rounds_done
  rounds_asked g lines zero course sound asked = asked
  rounds_asked g lines (suc n) course sound asked =
      let next = turns g lines course (unsettled g course.past) in
      by_test CourseIsAsked (is_none_left (unsettled g course.past)) course (rounds_done g lines n next) asked (rounds_asked g lines n next sound (turns_asked g lines course (unsettled g course.past) sound asked))

  -- checks

  check_asked : (g : Group) (course : Course) → CourseIsAsked course → CourseIsAsked (enter g course Check)
  check_asked g course asked = enter_asked g course Check (record { app = tt; number = tt }) asked

  checks_asked : (g : Group) (waits : List Proposal → Bool) (n : ℕ) (course : Course) → CourseIsAsked course → CourseIsAsked (checked_while g waits n course)
  unfolding checked_while
  checks_asked g waits zero course asked = asked
  checks_asked g waits (suc n) course asked =
      by_test CourseIsAsked (waits (pending course.past)) (checked_while g waits n (enter g course Check)) course (checks_asked g waits n (enter g course Check) (check_asked g course asked)) asked

  -- an act of one of the applications

  act_asked : (app : AppId) (act : Act) (g : Group) (lines : List WireLine) (course : Course) → app.0 < length apps → All IsSoundWire lines → CourseIsAsked course → CourseIsAsked (course_of app act g lines course)
  act_asked app (Propose n rows) g lines course low sound asked =
      enter_asked g (with_room g course) (Submit app rows) (record { app = low; number = tt })
      (by_test CourseIsAsked (length (pending course.past) == MAX_PENDING) (enter g course Check) course (check_asked g course asked) asked)
  act_asked app (Await n) g lines course low sound asked = checks_asked g (has_one_of app) MAX_PENDING course asked
  act_asked app (Settle n rounds) g lines course low sound asked = rounds_asked g lines rounds course sound asked
  act_asked app (Lock n entity prio) g lines course low sound asked = enter_asked g course (lock_event app entity prio) (record { app = low; number = tt }) asked
  act_asked app (Unlock n entity prio) g lines course low sound asked = enter_asked g course (unlock_event app entity prio) (record { app = low; number = tt }) asked
  act_asked app (Fail n entity health rows) g lines course low sound asked =
      enter_asked g course (fail_event entity (failed_vals entity (vals g course.past entity) rows) health) (record { app = tt; number = tt }) asked
  act_asked app (Poll n entity) g lines course low sound asked = poll_asked g lines course entity sound asked
  act_asked app (Read n entity var) g lines course low sound asked = asked
  act_asked app (ReadAt n version entity var) g lines course low sound asked = asked
  act_asked app (Span first first_rows second second_rows) g lines course low sound asked = asked

  -- groups whose lines are sound and whose entries are asked for

  record IsWell (s : GroupState) : Type 0 where
    lines : All IsSoundWire s.lines
    asked : AreAsked s.history.past

  abbrev AreWell : List GroupState → Type 0
  AreWell = All IsWell

  act_well : (app : AppId) (act : Act) (s : GroupState) → app.0 < length apps → IsWell s → IsWell (act_on app act s)
  act_well app act s low well = record {
    lines = well.lines;
    asked = act_asked app act s.history.group s.lines (course_from s.history.past) low well.lines well.asked;
  }

  abbrev RunIsWell : Run → Type 0
  RunIsWell run = AreWell run.groups

  asked_well : (scripts : List Script) (n k : ℕ) (script : Option Script) (run : Run) → length scripts ≡ length apps → slice_get scripts n ≡ script → RunIsWell run → RunIsWell (asked_done n (act_in script k) run)
  asked_well scripts n k None run count is well = well
  asked_well scripts n k (Some script) run count is well = done (slice_get script.acts k)
    where
      done : (act : Option Act) → RunIsWell (asked_done n act run)
      done None = well
      done (Some act) = changed_all IsWell (group_number act) (act_on (record { 0 = n }) act) run.groups
          (λ s is-well. act_well (record { 0 = n }) act s (omega (arith, count, slice_get_within scripts n script is)) is-well) well

  places_well : (scripts : List Script) (places : List Place) (run : Run) → length scripts ≡ length apps → RunIsWell run → RunIsWell (places_done scripts places run)
  places_well scripts [] run count well = well
  places_well scripts (place ∷ places) run count well =
      places_well scripts places (place_done scripts place run) count
      (by_test RunIsWell (is_some run.full) run (asked_done place.app (act_of scripts place) run) well
      (asked_well scripts place.app place.act (slice_get scripts place.app) run count refl well))

  opened_well : (groups : List Parts) (wires : List (List WireLine)) → All AreSoundWires wires → AreWell (all_opened groups wires)
  opened_well [] wires sound = All-nil IsWell
  opened_well (parts ∷ groups) [] sound = All-nil IsWell
  opened_well (parts ∷ groups) (lines ∷ wires) sound =
      All-cons IsWell (opened parts lines) (all_opened groups wires)
      (record { lines = (sound 0 lines (omega arith)).each; asked = All-nil (IsAsked apps) })
      (opened_well groups wires (λ k d low. sound (suc k) d (omega (arith, low))))

  -- the checks behind the scripts

  decided_well : (n : ℕ) (ss : List GroupState) → AreWell ss → AreWell (all_decided n ss).groups
  decided_well n [] well = All-nil IsWell
  decided_well n (s ∷ ss) well =
      let course = checks_in s in
      let before = All-head IsWell s ss well in
      let later = All-tail IsWell s ss well in
      let here : IsWell (state_at s course) = record { lines = before.lines; asked = checks_asked s.history.group is_something MAX_PENDING (course_from s.history.past) before.asked } in
      by_test (λ (c : Checked). AreWell c.groups) course.stopped (record { groups = state_at s course ∷ ss; full = Some n }) (with_group (state_at s course) (all_decided (n + 1) ss))
      (All-cons IsWell (state_at s course) ss here later) (All-cons IsWell (state_at s course) (all_decided (n + 1) ss).groups here (decided_well (n + 1) ss later))

  journals_asked : (n : ℕ) (ss : List GroupState) → AreWell ss → All (λ (journal : Journal). All (IsAsked apps) journal.entries) (journals_from n ss)
  journals_asked n [] well = All-nil (λ (journal : Journal). All (IsAsked apps) journal.entries)
  journals_asked n (s ∷ ss) well =
      let journal : Journal = record { group = n; entries = reverse s.history.past } in
      All-cons (λ (journal : Journal). All (IsAsked apps) journal.entries) journal (journals_from (n + 1) ss) (reversed (IsAsked apps) s.history.past (All-head IsWell s ss well).asked) (journals_asked (n + 1) ss (All-tail IsWell s ss well))

  pub serial_asked : (doc : Doc) → IsSoundDoc doc → length doc.apps ≡ length apps → All (λ (journal : Journal). All (IsAsked apps) journal.entries) (serial_run doc)
  serial_asked doc sound count =
      let run = scripts_done doc in
      let made : RunIsWell run = places_well doc.apps (schedule doc.apps doc.order) (opening_run doc) count (opened_well doc.groups doc.wires sound.wire_lines) in
      journals_asked 0 (serial_end doc).groups
      (by_test RunIsWell (is_some run.full) run (with_checked run (all_decided 0 run.groups)) made (decided_well 0 run.groups made))

-- journals with the numbers of their places

journals_numbered : (n : ℕ) (ss : List GroupState) → AreNumbered n (journals_from n ss)
journals_numbered n [] = tt
journals_numbered n (s ∷ ss) = (refl, journals_numbered (n + 1) ss)

number_at : (n : ℕ) (journals : List Journal) (k : ℕ) (j : Journal) → AreNumbered n journals → k < length journals → (slice_index_or journals k j).group ≡ n + k
number_at n [] k j numbered low = absurd (omega (arith, low))
number_at n (journal ∷ journals) zero j numbered low = omega (arith, numbered.0)
number_at n (journal ∷ journals) (suc k) j numbered low = omega (arith, number_at (n + 1) journals k j numbered.1 (omega (arith, low)))

kept_count : (groups : List Group) (journals : List Journal) → AreKept groups journals → length journals ≡ length groups
kept_count [] [] kept = refl
kept_count [] (journal ∷ journals) kept = absurd kept
kept_count (g ∷ groups) [] kept = absurd kept
kept_count (g ∷ groups) (journal ∷ journals) kept = ap suc (kept_count groups journals kept.1)

-- so what `serial` made of a sound document is a run
run_of_serial : (doc : Doc) (results : Results) → IsSoundDoc doc → AreOfScripts doc results → IsRun doc results.journals
run_of_serial doc results sound ran =
    let apps = app_names doc in
    let asked : All (λ (journal : Journal). All (IsAsked apps) journal.entries) results.journals =
    subst (All (λ (journal : Journal). All (IsAsked apps) journal.entries)) (sym ran.order) (serial_asked apps doc sound (sym (length-map doc.apps (λ (script : Script). script.name)))) in
    let numbered : AreNumbered 0 results.journals = subst (AreNumbered 0) (sym ran.order) (journals_numbered 0 (serial_end doc).groups) in
    let number : (k : ℕ) (j : Journal) → k < length results.journals → (slice_index_or results.journals k j).group ≡ k = λ k j low. omega (arith, number_at 0 results.journals k j numbered low) in
    record {
      sound = sound;
      numbered = numbered;
      each = kept_count (groups_of doc) results.journals ran.kept ∙ length-map doc.groups group_of;
      legal = λ k j low.
          let there = legal_here (groups_of doc) results.journals k j ran.kept low in
          record {
            group = there.group;
            at = ap (slice_get (groups_of doc)) (number k j low) ∙ there.at;
            legal = there.legal;
            asked = asked k j low;
          };
    }

pub serial_runs_are_replayed : SerialRunsAreReplayed
serial_runs_are_replayed doc results sound ran few = printed_runs_are_replayed doc results.journals (run_of_serial doc results sound ran) few
