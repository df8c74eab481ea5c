-- What the course of a work adds to a journal.
use Rattle.std.proofs.Common.{◌≡◌, ◌≢◌, ◌⊎◌, inl, inr, ⊎_elim, ℕ, suc, ◌+◌, ◌*◌, ◌≤◌, ◌<◌, Bool, true, false, List, [], ◌∷◌, ◌++◌, length, take, get_or, map, refl, ap, sym, subst, ◌∙◌, arith, append_assoc, length-append}
use Rattle.std.proofs.lemmas.List.{append_cancel_right, length-map, reverse-append, take_more}
use Rattle.std.specs.Prelude.{not, ◌&&◌, ◌==◌, nat_lt, reverse, Option, Some, None, unwrap_or, if◌then◌else◌}
use Rattle.st_net.specs.declared.entity.Entity.{Entity}
use Rattle.st_net.specs.declared.entity.Row.{Row}
use Rattle.st_net.specs.Groups.{Group}
use Rattle.st_net.proofs.Tests.{both, turned, less, equal_self}
use Rattle.st_event.specs.declared.act.Act.{Act}
use Rattle.st_event.specs.declared.act.Act.TheVariants.{Propose, Await, Settle, Lock, Unlock, Read, ReadAt, Fail, Poll, Span}
use Rattle.st_event.specs.declared.event.Event.{Event}
use Rattle.st_event.specs.declared.event.Event.TheVariants.{Submit, Check, Lock as lock_event, Unlock as unlock_event, Send, Deliver, Finish, Report as make_report, Hear, Fail as fail_event, Withdraw}
use Rattle.st_event.specs.declared.reply.Reply.{Reply}
use Rattle.st_event.specs.declared.reply.Reply.TheVariants.{Sent, Reported}
use Rattle.st_event.specs.declared.journal.Entry.{Entry}
use Rattle.st_event.specs.declared.journal.TheConstants.{MAX_ENTRIES, MAX_PENDING}
use Rattle.st_event.specs.Events.{is_check, may_overlay}
use Rattle.st_event.specs.Proposals.{is_accepting, overlay_in, overlays, pending, first_rows, with_overlay, withdrawal_in}
use Rattle.st_event.specs.Services.{entry_after}
use Rattle.st_event.proofs.Accepting.{overlays_none}
use Rattle.st_event.proofs.Targets.{overlays_same}
use Rattle.st_wire.specs.declared.line.WireKind.TheVariants.{Command as command_kind, Report as report_kind}
use Rattle.st_wire.specs.declared.line.WireLine.{WireLine}
use Rattle.st_wire.specs.Deliveries.{deliveries}
use Rattle.st_wire.proofs.DeliveryLaws.{few_deliveries}
use Rattle.st_world.specs.World.{IsBeginning}
use Rattle.st_world.specs.Rounds.{Course, course_from, enter, enter_all, follow_ups_of, follow_ups, enter_told, is_called_back, send_turn, update_turn, poll, turn}
use Rattle.st_world.specs.Acts.{course_of, with_room, proposed}
use Rattle.st_world.proofs.RunLaws.{entered}
use Rattle.st_service.specs.declared.work.Part.{Part}
use Rattle.st_service.specs.declared.work.Part.TheVariants.{Whole, Update, Monitor}
use Rattle.st_service.specs.declared.work.Work.{Work}
use Rattle.st_service.specs.declared.work.Work.TheVariants.{OneAct, Commit, Turn}
use Rattle.st_service.specs.Asked.{asker, is_own, all_own}
use Rattle.st_service.specs.Laid.{laid_by}
use Rattle.st_service.specs.Rooms.{Adds}
use Rattle.st_service.specs.Shares.{act_share, turn_share, work_share}
use Rattle.st_service.specs.Works.{WorkFits, is_of_one_hold, is_decided, course_at, part_of, act_may_decide, may_decide}

-- by which of its entries a work may overlay the target: by none; by a check, which is the first of them; or by one withdrawal
pub data Lays : Type 0 where
  nothing : Lays
  decided : Lays
  withdrawn : Lays

-- none of these entries may overlay the target; and none but such a one, where the newest stands first
abbrev pub all_quiet : List Entry → Bool
all_quiet [] = true
all_quiet (e ∷ es) = not (may_overlay e.event) && all_quiet es

abbrev pub is_quiet : Lays → List Entry → Bool
is_quiet nothing es = all_quiet es
is_quiet decided [] = true
is_quiet decided (e ∷ []) = true
is_quiet decided (e ∷ f ∷ es) = not (may_overlay e.event) && is_quiet decided (f ∷ es)
is_quiet withdrawn [] = true
is_quiet withdrawn (e ∷ es) = not (is_check e.event) && (if may_overlay e.event then all_quiet es else is_quiet withdrawn es)

-- a course added entries to a journal: at most so many, none another's request, and at most such a one that may overlay the target; and it
-- stopped at a full journal alone
pub record Ran (d : Lays) (number most : ℕ) (past : List Entry) (course : Course) : Type 0 where
  pub more : List Entry
  pub all : course.past ≡ more ++ past
  pub own : all_own number more ≡ true
  pub quiet : is_quiet d more ≡ true
  pub few : length more ≤ most
  pub full : course.stopped ≡ true → MAX_ENTRIES ≤ length course.past

quiet_none : (d : Lays) → is_quiet d [] ≡ true
quiet_none nothing = refl
quiet_none decided = refl
quiet_none withdrawn = refl

pub ran_none : (d : Lays) (number most : ℕ) (past : List Entry) → Ran d number most past (course_from past)
ran_none d number most past = record { more = []; all = refl; own = refl; quiet = quiet_none d; few = omega arith; full = λ e. absurd cc }

-- an event that can't overlay the target, and is no other's request
pub record IsPlain (number : ℕ) (event : Event) : Type 0 where
  pub quiet : may_overlay event ≡ false
  pub own : is_own number (asker event) ≡ true

not_below : (m n : ℕ) → nat_lt m n ≡ false → n ≤ m
not_below m n other = grind (arith, other, less)

no_check : (event : Event) → may_overlay event ≡ false → is_check event ≡ false
no_check Check other = absurd cc
no_check _ other = refl

quiet_more : (d : Lays) (e : Entry) (es : List Entry) → may_overlay e.event ≡ false → is_quiet d es ≡ true → is_quiet d (e ∷ es) ≡ true
quiet_more nothing e es other all = rw other all
quiet_more decided e [] other all = refl
quiet_more decided e (f ∷ es) other all = rw other all
quiet_more withdrawn e es other all = rw (no_check e.event other, other) all

own_more : (number : ℕ) (e : Entry) (es : List Entry) → is_own number (asker e.event) ≡ true → all_own number es ≡ true → all_own number (e ∷ es) ≡ true
own_more number e es own all = rw own all

entered-ran : (d : Lays) (number most : ℕ) (past : List Entry) (course : Course) (entry : Entry) (stopped room : Bool) → IsPlain number entry.event → nat_lt (length course.past) MAX_ENTRIES ≡ room → Ran d number most past course → Ran d number (most + 1) past (entered course entry stopped room)
entered-ran d number most past course entry true room plain fits r = record { more = r.more; all = r.all; own = r.own; quiet = r.quiet; few = omega (arith, r.few); full = r.full }
entered-ran d number most past course entry false true plain fits r = record {
  more = entry ∷ r.more;
  all = ap (λ es. entry ∷ es) r.all;
  own = own_more number entry r.more plain.own r.own;
  quiet = quiet_more d entry r.more plain.quiet r.quiet;
  few = omega (arith, r.few);
  full = λ e. absurd cc;
}
entered-ran d number most past course entry false false plain fits r = record { more = r.more; all = r.all; own = r.own; quiet = r.quiet; few = omega (arith, r.few); full = λ e. not_below (length course.past) MAX_ENTRIES fits }

pub enter-ran : (d : Lays) (g : Group) (number most : ℕ) (past : List Entry) (course : Course) (event : Event) → IsPlain number event → Ran d number most past course → Ran d number (most + 1) past (enter g course event)
enter-ran d g number most past course event plain r = entered-ran d number most past course (entry_after g course.past event) course.stopped (nat_lt (length course.past) MAX_ENTRIES) plain refl r

-- events that are all plain
abbrev AllPlain : ℕ → List Event → Type 0
AllPlain number [] = Unit {0}
AllPlain number (e ∷ es) = IsPlain number e × AllPlain number es

enter_all-ran : (d : Lays) (g : Group) (number most : ℕ) (past : List Entry) (course : Course) (events : List Event) → AllPlain number events → Ran d number most past course → Ran d number (most + length events) past (enter_all g course events)
enter_all-ran d g number most past course [] plain r = let e : most + 0 ≡ most = omega arith in rw e r
enter_all-ran d g number most past course (event ∷ events) plain r =
    let e : most + suc (length events) ≡ (most + 1) + length events = omega arith in
    rw e (enter_all-ran d g number (most + 1) past (enter g course event) events plain.1 (enter-ran d g number most past course event plain.0 r))

more_room : (d : Lays) (number few most : ℕ) (past : List Entry) (course : Course) → few ≤ most → Ran d number few past course → Ran d number most past course
more_room d number few most past course le r = record { more = r.more; all = r.all; own = r.own; quiet = r.quiet; few = omega (arith, le, r.few); full = r.full }

plain_deliver : (number : ℕ) (ns : List ℕ) → AllPlain number (map Deliver ns)
plain_deliver number [] = tt
plain_deliver number (n ∷ ns) = (record { quiet = refl; own = refl }, plain_deliver number ns)

plain_hear : (number : ℕ) (ns : List ℕ) → AllPlain number (map Hear ns)
plain_hear number [] = tt
plain_hear number (n ∷ ns) = (record { quiet = refl; own = refl }, plain_hear number ns)

plain_follow_ups_of : (number : ℕ) (g : Group) (lines : List WireLine) (past : List Entry) (reply : Reply) → AllPlain number (follow_ups_of g lines past reply)
plain_follow_ups_of number g lines past (Sent n) = plain_deliver number (deliveries lines command_kind n)
plain_follow_ups_of number g lines past (Reported n) = plain_hear number (deliveries lines report_kind n)
plain_follow_ups_of number g lines past _ = tt

few_follow_ups_of : (g : Group) (lines : List WireLine) (past : List Entry) (reply : Reply) → length (follow_ups_of g lines past reply) ≤ 1 + length lines
few_follow_ups_of g lines past (Sent n) = let f = few_deliveries lines command_kind n in omega (arith, f, length-map (deliveries lines command_kind n) Deliver)
few_follow_ups_of g lines past (Reported n) = let f = few_deliveries lines report_kind n in omega (arith, f, length-map (deliveries lines report_kind n) Hear)
few_follow_ups_of g lines past _ = omega arith

plain_follow_ups : (number : ℕ) (g : Group) (lines : List WireLine) (past : List Entry) → AllPlain number (follow_ups g lines past)
plain_follow_ups number g lines [] = tt
plain_follow_ups number g lines (entry ∷ past) = plain_follow_ups_of number g lines (entry ∷ past) entry.reply

few_follow_ups : (g : Group) (lines : List WireLine) (past : List Entry) → length (follow_ups g lines past) ≤ 1 + length lines
few_follow_ups g lines [] = omega arith
few_follow_ups g lines (entry ∷ past) = few_follow_ups_of g lines (entry ∷ past) entry.reply

enter_told-ran : (d : Lays) (g : Group) (lines : List WireLine) (number most : ℕ) (past : List Entry) (course : Course) (event : Event) → IsPlain number event → Ran d number most past course → Ran d number (most + (2 + length lines)) past (enter_told g lines course event)
enter_told-ran d g lines number most past course event plain r =
    let next = enter g course event in
    let f = few_follow_ups g lines next.past in
    more_room d number ((most + 1) + length (follow_ups g lines next.past)) (most + (2 + length lines)) past (enter_told g lines course event) (omega (arith, f))
    (enter_all-ran d g number (most + 1) past next (follow_ups g lines next.past) (plain_follow_ups number g lines next.past) (enter-ran d g number most past course event plain r))

plain_send : (number : ℕ) (e : Entity) → IsPlain number (Send e)
plain_send number e = record { quiet = refl; own = refl }

plain_finish : (number : ℕ) (e : Entity) → IsPlain number (Finish e)
plain_finish number e = record { quiet = refl; own = refl }

plain_report : (number : ℕ) (e : Entity) → IsPlain number (make_report e)
plain_report number e = record { quiet = refl; own = refl }

-- entries that can't overlay the target are such of which one withdraws at the most
quieter : (es : List Entry) → all_quiet es ≡ true → is_quiet withdrawn es ≡ true
quieter [] all = refl
quieter (e ∷ es) all = let b = both (not (may_overlay e.event)) (all_quiet es) all in quiet_more withdrawn e es (turned (may_overlay e.event) b.0) (quieter es b.1)

withdrawn-ran : (number most : ℕ) (past : List Entry) (course : Course) (entry : Entry) (stopped room : Bool) → may_overlay entry.event ≡ true → is_check entry.event ≡ false → is_own number (asker entry.event) ≡ true → nat_lt (length course.past) MAX_ENTRIES ≡ room → Ran nothing number most past course → Ran withdrawn number (most + 1) past (entered course entry stopped room)
withdrawn-ran number most past course entry true room may other own fits r = record { more = r.more; all = r.all; own = r.own; quiet = quieter r.more r.quiet; few = omega (arith, r.few); full = r.full }
withdrawn-ran number most past course entry false true may other own fits r = record {
  more = entry ∷ r.more;
  all = ap (λ es. entry ∷ es) r.all;
  own = own_more number entry r.more own r.own;
  quiet = rw (other, may) r.quiet;
  few = omega (arith, r.few);
  full = λ e. absurd cc;
}
withdrawn-ran number most past course entry false false may other own fits r = record { more = r.more; all = r.all; own = r.own; quiet = quieter r.more r.quiet; few = omega (arith, r.few); full = λ e. not_below (length course.past) MAX_ENTRIES fits }

called-ran : (g : Group) (number most : ℕ) (past : List Entry) (course : Course) (e : Entity) (called : Bool) → Ran nothing number most past course → Ran withdrawn number (most + 1) past (if called then enter g course (Withdraw e) else course)
called-ran g number most past course e true r = withdrawn-ran number most past course (entry_after g course.past (Withdraw e)) course.stopped (nat_lt (length course.past) MAX_ENTRIES) refl refl refl refl r
called-ran g number most past course e false r = record { more = r.more; all = r.all; own = r.own; quiet = quieter r.more r.quiet; few = omega (arith, r.few); full = r.full }

send-ran : (g : Group) (lines : List WireLine) (number most : ℕ) (past : List Entry) (course : Course) (e : Entity) → Ran nothing number most past course → Ran withdrawn number ((most + (2 + length lines)) + 1) past (send_turn g lines course e)
send-ran g lines number most past course e r =
    let told = enter_told g lines course (Send e) in
    called-ran g number (most + (2 + length lines)) past told e (is_called_back g told.past e) (enter_told-ran nothing g lines number most past course (Send e) (plain_send number e) r)

update-ran : (g : Group) (lines : List WireLine) (number most : ℕ) (past : List Entry) (course : Course) (e : Entity) → Ran nothing number most past course → Ran withdrawn number (most + (4 + length lines)) past (update_turn g lines course e)
update-ran g lines number most past course e r = more_room withdrawn number (((most + (2 + length lines)) + 1) + 1) (most + (4 + length lines)) past (update_turn g lines course e) (omega arith)
    (enter-ran withdrawn g number ((most + (2 + length lines)) + 1) past (send_turn g lines course e) (Finish e) (plain_finish number e) (send-ran g lines number most past course e r))

poll-ran : (d : Lays) (g : Group) (lines : List WireLine) (number most : ℕ) (past : List Entry) (course : Course) (e : Entity) → Ran d number most past course → Ran d number (most + (2 + length lines)) past (poll g lines course e)
poll-ran d g lines number most past course e r = enter_told-ran d g lines number most past course (make_report e) (plain_report number e) r

turn-ran : (g : Group) (lines : List WireLine) (number most : ℕ) (past : List Entry) (course : Course) (e : Entity) → Ran nothing number most past course → Ran withdrawn number (most + (6 + 2 * length lines)) past (turn g lines course e)
turn-ran g lines number most past course e r = more_room withdrawn number ((most + (4 + length lines)) + (2 + length lines)) (most + (6 + 2 * length lines)) past (turn g lines course e) (omega arith)
    (poll-ran withdrawn g lines number (most + (4 + length lines)) past (update_turn g lines course e) e (update-ran g lines number most past course e r))

-- how a turn may overlay the target, or a half of it
abbrev pub part_lays : Part → Lays
part_lays Whole = withdrawn
part_lays Update = withdrawn
part_lays Monitor = nothing

part-ran : (part : Part) (g : Group) (lines : List WireLine) (number : ℕ) (past : List Entry) (e : Entity) → Ran (part_lays part) number (turn_share part lines) past (part_of part g lines (course_from past) e)
part-ran Whole g lines number past e = more_room withdrawn number (0 + (6 + 2 * length lines)) (6 + 2 * length lines) past _ (omega arith) (turn-ran g lines number 0 past (course_from past) e (ran_none nothing number 0 past))
part-ran Update g lines number past e = more_room withdrawn number (0 + (4 + length lines)) (4 + length lines) past _ (omega arith) (update-ran g lines number 0 past (course_from past) e (ran_none nothing number 0 past))
part-ran Monitor g lines number past e = more_room nothing number (0 + (2 + length lines)) (2 + length lines) past _ (omega arith) (poll-ran nothing g lines number 0 past (course_from past) e (ran_none nothing number 0 past))

-- a check as the first entry of a course

checked-ran : (number : ℕ) (past : List Entry) (entry : Entry) (room : Bool) → is_own number (asker entry.event) ≡ true → nat_lt (length past) MAX_ENTRIES ≡ room → Ran decided number 1 past (entered (course_from past) entry false room)
checked-ran number past entry true own fits = record { more = entry ∷ []; all = refl; own = own_more number entry [] own refl; quiet = refl; few = omega arith; full = λ e. absurd cc }
checked-ran number past entry false own fits = record { more = []; all = refl; own = refl; quiet = refl; few = omega arith; full = λ e. not_below (length past) MAX_ENTRIES fits }

pub check-ran : (g : Group) (number : ℕ) (past : List Entry) → Ran decided number 1 past (enter g (course_from past) Check)
check-ran g number past = checked-ran number past (entry_after g past Check) (nat_lt (length past) MAX_ENTRIES) refl refl

with_room-ran : (g : Group) (number : ℕ) (past : List Entry) (full : Bool) → Ran decided number 1 past (if full then enter g (course_from past) Check else course_from past)
with_room-ran g number past true = check-ran g number past
with_room-ran g number past false = ran_none decided number 1 past

propose-ran : (g : Group) (number : ℕ) (past : List Entry) (rows : List Row) → Ran decided number 2 past (proposed g (course_from past) (record { 0 = number }) rows)
propose-ran g number past rows =
    enter-ran decided g number 1 past (with_room g (course_from past)) (Submit (record { 0 = number }) rows) (record { quiet = refl; own = equal_self number })
    (with_room-ran g number past (length (pending past) == MAX_PENDING))

if_decided-ran : (g : Group) (number : ℕ) (past : List Entry) (over : Bool) → Ran decided number 1 past (if over then course_from past else enter g (course_from past) Check)
if_decided-ran g number past true = ran_none decided number 1 past
if_decided-ran g number past false = check-ran g number past

one-ran : (g : Group) (number : ℕ) (past : List Entry) (event : Event) → IsPlain number event → Ran nothing number 1 past (enter g (course_from past) event)
one-ran g number past event plain = enter-ran nothing g number 0 past (course_from past) event plain (ran_none nothing number 0 past)

-- how a work may overlay the target
abbrev pub decided_or_not : Bool → Lays
decided_or_not true = decided
decided_or_not false = nothing

abbrev pub lays : Work → Lays
lays (OneAct act) = decided_or_not (act_may_decide act.now)
lays (Commit judged) = decided
lays (Turn part entity) = part_lays part

act-ran : (act : Act) (number : ℕ) (g : Group) (lines : List WireLine) (past : List Entry) → is_of_one_hold act ≡ true → Ran (decided_or_not (act_may_decide act)) number (act_share act g lines) past (course_of (record { 0 = number }) act g lines (course_from past))
act-ran (Propose n rows) number g lines past one = propose-ran g number past rows
act-ran (Await n) number g lines past one = absurd cc
act-ran (Settle n rounds) number g lines past one = absurd cc
act-ran (Lock n entity prio) number g lines past one = one-ran g number past (lock_event (record { 0 = number }) entity prio) (record { quiet = refl; own = equal_self number })
act-ran (Unlock n entity prio) number g lines past one = one-ran g number past (unlock_event (record { 0 = number }) entity prio) (record { quiet = refl; own = equal_self number })
act-ran (Read n entity var) number g lines past one = absurd cc
act-ran (ReadAt n version entity var) number g lines past one = absurd cc
act-ran (Fail n entity health rows) number g lines past one = one-ran g number past _ (record { quiet = refl; own = refl })
act-ran (Poll n entity) number g lines past one = part-ran Monitor g lines number past entity
act-ran (Span first first_rows second second_rows) number g lines past one = absurd cc

-- each work
pub work-ran : (work : Work) (number : ℕ) (g : Group) (lines : List WireLine) (past : List Entry) → WorkFits work g → Ran (lays work) number (work_share work g lines) past (course_at number work g lines past)
work-ran (OneAct act) number g lines past fits = act-ran act.now number g lines past fits.1
work-ran (Commit judged) number g lines past fits = if_decided-ran g number past (is_decided judged.now.ticket past)
work-ran (Turn part entity) number g lines past fits = part-ran part g lines number past entity

-- one that may overlay it by a check may decide
pub decides : (work : Work) → lays work ≡ decided → may_decide work ≡ true
decides (OneAct act) is = by (act_may_decide act.now) is
  where
    by : (b : Bool) → decided_or_not b ≡ decided → b ≡ true
    by true is = refl
    by false is = cc
decides (Commit judged) is = refl
decides (Turn Whole entity) is = cc
decides (Turn Update entity) is = cc
decides (Turn Monitor entity) is = cc

-- a part of what a course added

own_rest : (number : ℕ) (rest xs : List Entry) → all_own number (rest ++ xs) ≡ true → all_own number xs ≡ true
own_rest number [] xs all = all
own_rest number (e ∷ rest) xs all = own_rest number rest xs (both (is_own number (asker e.event)) (all_own number (rest ++ xs)) all).1

all_quiet_rest : (rest xs : List Entry) → all_quiet (rest ++ xs) ≡ true → all_quiet xs ≡ true
all_quiet_rest [] xs all = all
all_quiet_rest (e ∷ rest) xs all = all_quiet_rest rest xs (both (not (may_overlay e.event)) (all_quiet (rest ++ xs)) all).1

quiet_tail : (e : Entry) (xs : List Entry) → is_quiet decided (e ∷ xs) ≡ true → is_quiet decided xs ≡ true
quiet_tail e [] all = refl
quiet_tail e (f ∷ xs) all = (both (not (may_overlay e.event)) (is_quiet decided (f ∷ xs)) all).1

first_rest : (rest xs : List Entry) → is_quiet decided (rest ++ xs) ≡ true → is_quiet decided xs ≡ true
first_rest [] xs all = all
first_rest (e ∷ rest) xs all = first_rest rest xs (quiet_tail e (rest ++ xs) all)

one_rest : (rest xs : List Entry) → is_quiet withdrawn (rest ++ xs) ≡ true → is_quiet withdrawn xs ≡ true
one_rest [] xs all = all
one_rest (e ∷ rest) xs all = by (may_overlay e.event) (both (not (is_check e.event)) (if may_overlay e.event then all_quiet (rest ++ xs) else is_quiet withdrawn (rest ++ xs)) all).1 (one_rest rest xs)
  where
    by : (b : Bool) → (if b then all_quiet (rest ++ xs) else is_quiet withdrawn (rest ++ xs)) ≡ true → (is_quiet withdrawn (rest ++ xs) ≡ true → is_quiet withdrawn xs ≡ true) → is_quiet withdrawn xs ≡ true
    by true quiet later = quieter xs (all_quiet_rest rest xs quiet)
    by false quiet later = later quiet

quiet_rest : (d : Lays) (rest xs : List Entry) → is_quiet d (rest ++ xs) ≡ true → is_quiet d xs ≡ true
quiet_rest nothing rest xs all = all_quiet_rest rest xs all
quiet_rest decided rest xs all = first_rest rest xs all
quiet_rest withdrawn rest xs all = one_rest rest xs all

-- a journal went on as runs do
pub record Went (d : Lays) (number most : ℕ) (past new : List Entry) : Type 0 where
  pub more : List Entry
  pub all : new ≡ more ++ past
  pub own : all_own number more ≡ true
  pub quiet : is_quiet d more ≡ true
  pub few : length more ≤ most

pub ran_part : (d : Lays) (number most : ℕ) (past new : List Entry) (course : Course) → IsBeginning past new → IsBeginning new course.past → Ran d number most past course → Went d number most past new
ran_part d number most past new course began part r =
    let whole : r.more ++ past ≡ (part.0 ++ began.0) ++ past = sym r.all ∙ (part.1 ∙ (ap (λ es. part.0 ++ es) began.1 ∙ sym (append_assoc part.0 began.0 past))) in
    let is : r.more ≡ part.0 ++ began.0 = append_cancel_right r.more (part.0 ++ began.0) past whole in
    record {
      more = began.0;
      all = began.1;
      own = own_rest number part.0 began.0 (ap (all_own number) (sym is) ∙ r.own);
      quiet = quiet_rest d part.0 began.0 (ap (is_quiet d) (sym is) ∙ r.quiet);
      few = omega (arith, r.few, ap length is, length-append part.0 began.0);
    }

pub went_adds : (d : Lays) (number most : ℕ) (past new : List Entry) → Went d number most past new → Adds number most past new
went_adds d number most past new w = record { more = w.more; all = w.all; own = w.own; few = w.few }

-- what is overlaid then

-- an entry more: what it withdraws is laid, or else what was laid before
laid_push : (es : List Entry) (e : Entry) (rows : List Row) → laid_by (es ++ e ∷ []) rows ≡ unwrap_or (withdrawal_in e.event e.reply) (laid_by es rows)
laid_push [] e rows = refl
laid_push (f ∷ es) e rows = laid_push es e (unwrap_or (withdrawal_in f.event f.reply) rows)

-- the rows that are laid once the entry at this place was looked at too
pub laid_next : (es : List Entry) (i : ℕ) (e d : Entry) (rows before copied : List Row) → i < length es → e ≡ get_or es i d → before ≡ laid_by (take i es) copied → rows ≡ unwrap_or (withdrawal_in e.event e.reply) before → rows ≡ laid_by (take (i + 1) es) copied
laid_next es i e d rows before copied lt is was more =
    more
    ∙ ap (λ (rs : List Row). unwrap_or (withdrawal_in e.event e.reply) rs) was
    ∙ sym (laid_push (take i es) e copied)
    ∙ ap (λ (x : Entry). laid_by (take i es ++ x ∷ []) copied) is
    ∙ ap (λ (xs : List Entry). laid_by xs copied) (sym (take_more es i d lt))

pub laid_more : (e : Entry) (more : List Entry) (rows : List Row) → laid_by (reverse (e ∷ more)) rows ≡ unwrap_or (withdrawal_in e.event e.reply) (laid_by (reverse more) rows)
laid_more e more rows = ap (λ (es : List Entry). laid_by es rows) (reverse-append (e ∷ []) more) ∙ laid_push (reverse more) e rows

-- what was entered since a journal was so is laid, over what was copied
pub laid_are : (entries more : List Entry) (rows copied : List Row) → entries ≡ reverse more → rows ≡ copied → laid_by entries rows ≡ laid_by (reverse more) copied
laid_are entries more rows copied since same = rw (since, same) refl

no_withdrawal : (event : Event) (answer : Reply) → may_overlay event ≡ false → withdrawal_in event answer ≡ None
no_withdrawal (Withdraw at) answer other = absurd cc
no_withdrawal _ answer other = refl

laid_same : (e : Entry) (more : List Entry) (rows : List Row) → may_overlay e.event ≡ false → laid_by (reverse (e ∷ more)) rows ≡ laid_by (reverse more) rows
laid_same e more rows other = laid_more e more rows ∙ ap (λ (o : Option (List Row)). unwrap_or o (laid_by (reverse more) rows)) (no_withdrawal e.event e.reply other)

-- nothing more, or what these entries lay too, where a check decides these rows
abbrev pub LaysOne : List Entry → List Entry → List Row → Type 0
LaysOne more past rows = (overlays (more ++ past) ≡ overlays past) ⊎ (overlays (more ++ past) ≡ overlays past ++ laid_by (reverse more) rows ∷ [])

lays_nothing : (more past : List Entry) → all_quiet more ≡ true → overlays (more ++ past) ≡ overlays past
lays_nothing [] past quiet = refl
lays_nothing (e ∷ more) past quiet =
    let b = both (not (may_overlay e.event)) (all_quiet more) quiet in
    overlays_same (more ++ past) e (overlays_none e.event e.reply (turned (may_overlay e.event) b.0)) ∙ lays_nothing more past b.1

-- a quiet entry behind these
lays_still : (e : Entry) (more past : List Entry) (rows : List Row) → may_overlay e.event ≡ false → LaysOne more past rows → LaysOne (e ∷ more) past rows
lays_still e more past rows other (inl same) = inl (overlays_same (more ++ past) e (overlays_none e.event e.reply other) ∙ same)
lays_still e more past rows other (inr laid) = inr (overlays_same (more ++ past) e (overlays_none e.event e.reply other) ∙ laid ∙ ap (λ (rs : List Row). overlays past ++ rs ∷ []) (sym (laid_same e more rows other)))

-- what an entry overlays it withdraws, or decides
overlaid_is : (event : Event) (answer : Reply) (first rows : List Row) → overlay_in event answer first ≡ Some rows → rows ≡ unwrap_or (withdrawal_in event answer) first
overlaid_is Check answer first rows is = by (is_accepting answer) is
  where
    by : (b : Bool) → (if b then Some first else None) ≡ Some rows → rows ≡ first
    by true is = cc
    by false is = cc
overlaid_is (Withdraw at) answer first rows is = rw is refl
overlaid_is _ answer first rows is = cc

withdrawn_is : (event : Event) (answer : Reply) (first other rows : List Row) → is_check event ≡ false → overlay_in event answer first ≡ Some rows → rows ≡ unwrap_or (withdrawal_in event answer) other
withdrawn_is Check answer first other rows none is = absurd cc
withdrawn_is (Withdraw at) answer first other rows none is = rw is refl
withdrawn_is _ answer first other rows none is = cc

lays_first : (more past : List Entry) → is_quiet decided more ≡ true → LaysOne more past (first_rows (pending past))
lays_first [] past quiet = inl refl
lays_first (e ∷ []) past quiet = by (overlay_in e.event e.reply (first_rows (pending past))) refl
  where
    by : (o : Option (List Row)) → overlay_in e.event e.reply (first_rows (pending past)) ≡ o → LaysOne (e ∷ []) past (first_rows (pending past))
    by None is = inl (ap (λ (o : Option (List Row)). with_overlay o (overlays past)) is)
    by (Some rows) is = inr (ap (λ (o : Option (List Row)). with_overlay o (overlays past)) is ∙ ap (λ (rs : List Row). overlays past ++ rs ∷ []) (overlaid_is e.event e.reply (first_rows (pending past)) rows is ∙ sym (laid_more e [] (first_rows (pending past)))))
lays_first (e ∷ f ∷ more) past quiet =
    let b = both (not (may_overlay e.event)) (is_quiet decided (f ∷ more)) quiet in
    lays_still e (f ∷ more) past (first_rows (pending past)) (turned (may_overlay e.event) b.0) (lays_first (f ∷ more) past b.1)

lays_withdrawn : (more past : List Entry) (rows : List Row) → is_quiet withdrawn more ≡ true → LaysOne more past rows
lays_withdrawn [] past rows quiet = inl refl
lays_withdrawn (e ∷ more) past rows quiet =
    let b = both (not (is_check e.event)) (if may_overlay e.event then all_quiet more else is_quiet withdrawn more) quiet in
    by (may_overlay e.event) refl (turned (is_check e.event) b.0) b.1 (lays_withdrawn more past rows)
  where
    here : (o : Option (List Row)) → overlay_in e.event e.reply (first_rows (pending (more ++ past))) ≡ o → is_check e.event ≡ false → overlays (more ++ past) ≡ overlays past → LaysOne (e ∷ more) past rows
    here None is other same = inl (ap (λ (o : Option (List Row)). with_overlay o (overlays (more ++ past))) is ∙ same)
    here (Some laid) is other same = inr (ap (λ (o : Option (List Row)). with_overlay o (overlays (more ++ past))) is ∙ ap (λ (before : List (List Row)). before ++ laid ∷ []) same ∙ ap (λ (rs : List Row). overlays past ++ rs ∷ []) (withdrawn_is e.event e.reply (first_rows (pending (more ++ past))) (laid_by (reverse more) rows) laid other is ∙ sym (laid_more e more rows)))

    by : (b : Bool) → may_overlay e.event ≡ b → is_check e.event ≡ false → (if b then all_quiet more else is_quiet withdrawn more) ≡ true → (is_quiet withdrawn more ≡ true → LaysOne more past rows) → LaysOne (e ∷ more) past rows
    by true may other quiet later = here (overlay_in e.event e.reply (first_rows (pending (more ++ past)))) refl other (lays_nothing more past quiet)
    by false none other quiet later = lays_still e more past rows none (later quiet)

lays_by : (d : Lays) (more past : List Entry) (rows : List Row) → is_quiet d more ≡ true → (d ≡ decided → rows ≡ first_rows (pending past)) → LaysOne more past rows
lays_by nothing more past rows quiet are = inl (lays_nothing more past quiet)
lays_by decided more past rows quiet are = subst (λ (rs : List Row). LaysOne more past rs) (sym (are refl)) (lays_first more past quiet)
lays_by withdrawn more past rows quiet are = lays_withdrawn more past rows quiet

-- where the version is the same, the target was overlaid with as much as before; else with what the entries lay too
pub same_version : (d : Lays) (number most : ℕ) (past new : List Entry) (rows : List Row) → (w : Went d number most past new) → (d ≡ decided → rows ≡ first_rows (pending past)) → length (overlays new) ≡ length (overlays past) → overlays new ≡ overlays past
same_version d number most past new rows w are same = ⊎_elim
    (λ (t : overlays (w.more ++ past) ≡ overlays past). ap overlays w.all ∙ t)
    (λ (t : overlays (w.more ++ past) ≡ overlays past ++ laid_by (reverse w.more) rows ∷ []). absurd (omega (arith, same, ap (λ es. length (overlays es)) w.all, ap length t, length-append (overlays past) (laid_by (reverse w.more) rows ∷ []))))
    (lays_by d w.more past rows w.quiet are)

pub next_version : (d : Lays) (number most : ℕ) (past new : List Entry) (rows : List Row) → (w : Went d number most past new) → (d ≡ decided → rows ≡ first_rows (pending past)) → length (overlays new) ≢ length (overlays past) → overlays new ≡ overlays past ++ laid_by (reverse w.more) rows ∷ []
next_version d number most past new rows w are more = ⊎_elim
    (λ (t : overlays (w.more ++ past) ≡ overlays past). absurd (more (ap length (ap overlays w.all ∙ t))))
    (λ (t : overlays (w.more ++ past) ≡ overlays past ++ laid_by (reverse w.more) rows ∷ []). ap overlays w.all ∙ t)
    (lays_by d w.more past rows w.quiet are)
