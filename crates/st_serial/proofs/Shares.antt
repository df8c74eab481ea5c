-- An act's course adds at most its share to a journal, and where it stops the journal is full.
use Rattle.std.proofs.Common.{◌≡◌, ℕ, zero, suc, ◌+◌, ◌*◌, ◌≤◌, List, [], ◌∷◌, length, Bool, true, false, refl, ap, arith}
use Rattle.std.specs.Prelude.{◌==◌, nat_lt, not, if◌then◌else◌}
use Rattle.std.proofs.Math.Nat.{mul-suc, mul-le-mul_left}
use Rattle.std.proofs.lemmas.Bool.Decides.{nat_tests}
use Rattle.std.proofs.lemmas.List.Filters.{length-filter_both}
use Rattle.st_net.specs.declared.entity.AppId.{AppId}
use Rattle.st_net.specs.declared.entity.Entity.{Entity}
use Rattle.st_net.specs.Groups.{Group}
use Rattle.st_net.specs.InOrder.{entities_of, entity_count}
use Rattle.st_net.proofs.EntityOrder.{entities_count}
use Rattle.st_event.specs.declared.act.Act.{Act}
use Rattle.st_event.specs.declared.act.Act.TheVariants.{Propose, Await, Settle, Lock, Unlock, Read, ReadAt, Fail, Poll, Span}
use Rattle.st_event.specs.declared.event.Event.{Event}
use Rattle.st_event.specs.declared.event.Event.TheVariants.{Submit, Check, Lock as lock_event, Unlock as unlock_event, Fail as fail_event, Send, Finish, Report as make_report, Withdraw}
use Rattle.st_event.specs.declared.event.Proposal.{Proposal}
use Rattle.st_event.specs.declared.journal.Entry.{Entry}
use Rattle.st_event.specs.declared.journal.TheConstants.{MAX_ENTRIES, MAX_PENDING}
use Rattle.st_event.specs.History.{History}
use Rattle.st_event.specs.Moments.{vals}
use Rattle.st_event.specs.Observed.{is_settled}
use Rattle.st_event.specs.Proposals.{pending}
use Rattle.st_event.specs.Services.{entry_after}
use Rattle.st_wire.specs.declared.line.WireLine.{WireLine}
use Rattle.st_world.specs.Rounds.{Course, course_from, enter, enter_all, enter_told, follow_ups, is_called_back, send_turn, turn, turns, unsettled, update_turn}
use Rattle.st_world.specs.Acts.{act_course, all_checked, checked_while, course_of, failed_vals, has_one_of, is_none_left, is_something, rounds_done, with_room}
use Rattle.st_world.proofs.RunLaws.{entered}
use Rattle.st_world.proofs.TurnLaws.{enter-length, poll-length, proposed-length, turn-length, while-length}
use Rattle.st_world.specs.Shares.{update_most, poll_most, turn_most}
use Rattle.st_serial.specs.Shares.{round_most, share}
use Rattle.st_serial.proofs.Lists.{by_test}

-- the two halves make the turn
pub halves_together : (lines : List WireLine) → update_most lines + poll_most lines ≡ turn_most lines
halves_together lines = omega arith

-- how many entries there are more

none_more : (k n : ℕ) → n ≤ n + k * 0
none_more k n = omega arith

-- k of one, and k of each of n others
one_more : (k n before now later : ℕ) → now ≤ before + k → later ≤ now + k * n → later ≤ before + k * suc n
one_more k n before now later first rest = omega (arith, mul-suc k n, first, rest)

turns-length : (g : Group) (lines : List WireLine) (course : Course) (es : List Entity) → length (turns g lines course es).past ≤ length course.past + turn_most lines * length es
turns-length g lines course [] = none_more (turn_most lines) (length course.past)
turns-length g lines course (e ∷ es) =
    let next = turn g lines course e in
    one_more (turn_most lines) (length es) (length course.past) (length next.past) (length (turns g lines next es).past) (turn-length g lines course e) (turns-length g lines next es)

unsettled_few : (g : Group) (past : List Entry) → length (unsettled g past) ≤ entity_count g
unsettled_few g past =
    let both = length-filter_both (λ (e : Entity). not (is_settled g past e)) (λ e. not (not (is_settled g past e))) (λ e. refl) (entities_of g) in
    omega (arith, both, entities_count g)

round-within : (g : Group) (lines : List WireLine) (course : Course) → length (turns g lines course (unsettled g course.past)).past ≤ length course.past + round_most g lines
round-within g lines course =
    let made = turns-length g lines course (unsettled g course.past) in
    let few = mul-le-mul_left (turn_most lines) (unsettled_few g course.past) in
    within (length course.past) (length (turns g lines course (unsettled g course.past)).past) (turn_most lines * length (unsettled g course.past)) (round_most g lines) made few
  where
    within : (before now added most : ℕ) → now ≤ before + added → added ≤ most → now ≤ before + most
    within before now added most made few = omega (arith, made, few)

rounds-within : (g : Group) (lines : List WireLine) (n : ℕ) (course : Course) → length (rounds_done g lines n course).past ≤ length course.past + round_most g lines * n
unfolding rounds_done
rounds-within g lines zero course = none_more (round_most g lines) (length course.past)
rounds-within g lines (suc n) course =
    let next = turns g lines course (unsettled g course.past) in
    let more = one_more (round_most g lines) n (length course.past) in
    by_test (λ (r : Course). length r.past ≤ length course.past + round_most g lines * suc n) (is_none_left (unsettled g course.past)) course (rounds_done g lines n next)
    (omega arith)
    (more (length next.past) (length (rounds_done g lines n next).past) (round-within g lines course) (rounds-within g lines n next))

settle-within : (g : Group) (lines : List WireLine) (n : ℕ) (course : Course) → length (rounds_done g lines n course).past ≤ length course.past + round_most g lines * (n + 1)
settle-within g lines n course = looser (round_most g lines) n (length course.past) (length (rounds_done g lines n course).past) (rounds-within g lines n course)
  where
    looser : (k n before now : ℕ) → now ≤ before + k * n → now ≤ before + k * (n + 1)
    looser k n before now few = let one : n + 1 ≡ suc n = omega arith in let last = ap (λ (m : ℕ). k * m) one in omega (arith, few, last, mul-suc k n)

course-within : (app : AppId) (act : Act) (g : Group) (lines : List WireLine) (course : Course) → length (course_of app act g lines course).past ≤ length course.past + share act g lines
course-within app (Propose n rows) g lines course = let few = proposed-length g course app rows in omega (arith, few)
course-within app (Await n) g lines course = while-length g (has_one_of app) MAX_PENDING course
course-within app (Settle n rounds) g lines course = settle-within g lines rounds course
course-within app (Lock n entity prio) g lines course = enter-length g course (lock_event app entity prio)
course-within app (Unlock n entity prio) g lines course = enter-length g course (unlock_event app entity prio)
course-within app (Fail n entity health rows) g lines course = enter-length g course (fail_event entity (failed_vals entity (vals g course.past entity) rows) health)
course-within app (Poll n entity) g lines course = poll-length g lines course entity
course-within app (Read n entity var) g lines course = omega arith
course-within app (ReadAt n version entity var) g lines course = omega arith
course-within app (Span first first_rows second second_rows) g lines course = omega arith

pub act-within : (app : AppId) (act : Act) (h : History) (lines : List WireLine) → length (act_course app act h lines).past ≤ length h.past + share act h.group lines
act-within app act h lines = course-within app act h.group lines (course_from h.past)

-- what each event keeps, an act keeps

module _ (g : Group) (P : Course → Type 0) (keeps : (course : Course) (event : Event) → P course → P (enter g course event)) where
  all-keep : (course : Course) (events : List Event) → P course → P (enter_all g course events)
  all-keep course [] is = is
  all-keep course (event ∷ events) is = all-keep (enter g course event) events (keeps course event is)

  told-keeps : (lines : List WireLine) (course : Course) (event : Event) → P course → P (enter_told g lines course event)
  told-keeps lines course event is = let next = enter g course event in all-keep next (follow_ups g lines next.past) (keeps course event is)

  called-keeps : (course : Course) (e : Entity) (called : Bool) → P course → P (if called then enter g course (Withdraw e) else course)
  called-keeps course e true is = keeps course (Withdraw e) is
  called-keeps course e false is = is

  send-keeps : (lines : List WireLine) (course : Course) (e : Entity) → P course → P (send_turn g lines course e)
  send-keeps lines course e is =
      let told = enter_told g lines course (Send e) in
      called-keeps told e (is_called_back g told.past e) (told-keeps lines course (Send e) is)

  turn-keeps : (lines : List WireLine) (course : Course) (e : Entity) → P course → P (turn g lines course e)
  turn-keeps lines course e is = told-keeps lines (update_turn g lines course e) (make_report e) (keeps (send_turn g lines course e) (Finish e) (send-keeps lines course e is))

  turns-keep : (lines : List WireLine) (course : Course) (es : List Entity) → P course → P (turns g lines course es)
  turns-keep lines course [] is = is
  turns-keep lines course (e ∷ es) is = turns-keep lines (turn g lines course e) es (turn-keeps lines course e is)

  while-keeps : (waits : List Proposal → Bool) (n : ℕ) (course : Course) → P course → P (checked_while g waits n course)
  unfolding checked_while
  while-keeps waits zero course is = is
  while-keeps waits (suc n) course is =
      let next = enter g course Check in
      by_test P (waits (pending course.past)) (checked_while g waits n next) course (while-keeps waits n next (keeps course Check is)) is

  rounds-keep : (lines : List WireLine) (n : ℕ) (course : Course) → P course → P (rounds_done g lines n course)
  unfolding rounds_done
  rounds-keep lines zero course is = is
  rounds-keep lines (suc n) course is =
      let es = unsettled g course.past in
      let next = turns g lines course es in
      by_test P (is_none_left es) course (rounds_done g lines n next) is (rounds-keep lines n next (turns-keep lines course es is))

  pub course-keeps : (app : AppId) (act : Act) (lines : List WireLine) (course : Course) → P course → P (course_of app act g lines course)
  course-keeps app (Propose n rows) lines course is = keeps (with_room g course) (Submit app rows) (by_test P (length (pending course.past) == MAX_PENDING) (enter g course Check) course (keeps course Check is) is)
  course-keeps app (Await n) lines course is = while-keeps (has_one_of app) MAX_PENDING course is
  course-keeps app (Settle n rounds) lines course is = rounds-keep lines rounds course is
  course-keeps app (Lock n entity prio) lines course is = keeps course (lock_event app entity prio) is
  course-keeps app (Unlock n entity prio) lines course is = keeps course (unlock_event app entity prio) is
  course-keeps app (Fail n entity health rows) lines course is = keeps course (fail_event entity (failed_vals entity (vals g course.past entity) rows) health) is
  course-keeps app (Poll n entity) lines course is = told-keeps lines course (make_report entity) is
  course-keeps app (Read n entity var) lines course is = is
  course-keeps app (ReadAt n version entity var) lines course is = is
  course-keeps app (Span first first_rows second second_rows) lines course is = is

-- a course that has stopped has a full journal
abbrev pub IsFullAtStop : Course → Type 0
IsFullAtStop course = course.stopped ≡ true → MAX_ENTRIES ≤ length course.past

full_by : (n : ℕ) → nat_lt n MAX_ENTRIES ≡ false → MAX_ENTRIES ≤ n
full_by n is = grind (arith, nat_tests)

entered-full : (course : Course) (entry : Entry) (stopped room : Bool) → nat_lt (length course.past) MAX_ENTRIES ≡ room → IsFullAtStop course → IsFullAtStop (entered course entry stopped room)
entered-full course entry true room is full = full
entered-full course entry false true is full = λ stops. cc
entered-full course entry false false is full = λ stops. full_by (length course.past) is

enter-full : (g : Group) (course : Course) (event : Event) → IsFullAtStop course → IsFullAtStop (enter g course event)
enter-full g course event full = entered-full course (entry_after g course.past event) course.stopped (nat_lt (length course.past) MAX_ENTRIES) refl full

starts-full : (past : List Entry) → IsFullAtStop (course_from past)
starts-full past stops = cc

pub act-full : (app : AppId) (act : Act) (h : History) (lines : List WireLine) → IsFullAtStop (act_course app act h lines)
act-full app act h lines = course-keeps h.group IsFullAtStop (enter-full h.group) app act lines (course_from h.past) (starts-full h.past)

-- the checks at the end

pub checks-full : (g : Group) (past : List Entry) → IsFullAtStop (all_checked g (course_from past))
checks-full g past = while-keeps g IsFullAtStop (enter-full g) is_something MAX_PENDING (course_from past) (starts-full past)

-- where there are no entries no check is made, and else few
abbrev pub with_checks : ℕ → ℕ
with_checks zero = 0
with_checks (suc n) = suc n + MAX_PENDING

no_checks : (g : Group) → all_checked g (course_from []) ≡ course_from []
unfolding checked_while
no_checks g = refl

pub checks-within : (g : Group) (past : List Entry) (most : ℕ) → length past ≤ most → length (all_checked g (course_from past)).past ≤ with_checks most
checks-within g [] zero few = let none = ap (λ (r : Course). length r.past) (no_checks g) in omega (arith, none)
checks-within g [] (suc most) few = let none = ap (λ (r : Course). length r.past) (no_checks g) in omega (arith, none)
checks-within g (entry ∷ past) zero few = absurd (omega (arith, few))
checks-within g (entry ∷ past) (suc most) few = let made = while-length g is_something MAX_PENDING (course_from (entry ∷ past)) in omega (arith, made, few)
