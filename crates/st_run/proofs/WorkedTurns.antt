-- Worked cases of the turns that a settle asks for, and of the polls and the failures of all scripts. A case `x` is refused by `not_x`, and `x_else` has its
-- other points.
use Rattle.std.proofs.Common.{◌≡◌, ◌⊎◌, ℕ, zero, suc, ◌+◌, ◌≤◌, List, [], ◌∷◌, ◌++◌, length, inl, inr, refl, ap, sym, subst, ◌∙◌, ⊎_elim, arith, length-append}
use Rattle.std.specs.Prelude.{Bool, true, false, count_by, nat_lt, sum_by, take, ◌==◌, if◌then◌else◌}
use Rattle.std.proofs.lemmas.Bool.Decides.{nat_tests}
use Rattle.std.proofs.lemmas.List.Elements.{All-cons}
use Rattle.st_net.specs.declared.entity.Entity.{Entity}
use Rattle.st_net.specs.declared.entity.Entity.TheVariants.{Device, Link}
use Rattle.st_net.specs.declared.entity.Vals.{Vals}
use Rattle.st_net.specs.Groups.{IsEntityOf}
use Rattle.st_event.specs.declared.act.Act.{Act}
use Rattle.st_event.specs.declared.act.Act.TheVariants.{Propose, Await, Settle, Fail, Poll}
use Rattle.st_event.specs.declared.event.Event.{Event}
use Rattle.st_event.specs.declared.event.Event.TheVariants.{Submit, Check, Send, Finish, Report, Hear, Fail as fail_event, Withdraw}
use Rattle.st_event.specs.declared.journal.Entry.{Entry}
use Rattle.st_event.specs.declared.journal.TheConstants.{MAX_ENTRIES}
use Rattle.st_event.specs.History.{History}
use Rattle.st_event.specs.Moments.{reports}
use Rattle.st_event.specs.Observed.{is_settled}
use Rattle.st_event.specs.Services.{entry_after}
use Rattle.st_wire.specs.declared.line.WireKind.TheVariants.{Command}
use Rattle.st_wire.specs.declared.line.WireLine.TheVariants.{Drop}
use Rattle.st_wire.specs.declared.line.WireLine.{WireLine}
use Rattle.st_world.specs.Rounds.{Course, course_from, enter, enter_all, follow_ups, is_called_back, called_back, poll, turn}
use Rattle.st_world.specs.World.{IsBeginning}
use Rattle.st_world.proofs.RunLaws.{called_back-stopped}
use Rattle.st_run.specs.CarriedOn.{FailsAsAsked, HasTurns, PollsAll, WasSettled, is_poll_of}
use Rattle.st_run.specs.Failures.{IsFailureBy}
use Rattle.st_run.specs.Requests.{acts_on}
use Rattle.st_run.specs.Stands.{Stand, Takes}
use Rattle.st_run.proofs.SmallCases.{usual, small, a1, app, firmware, config, after_all, journal, the_turn, none_at, all_one, idle, Case, of, history, Settled, Failed, Polled, ButSettled, ButFailed, ButPolled, none_failed, from_nothing, one_ticket}

-- Turns and polls are counted

abbrev is_send : Event → Bool
is_send (Send e) = true
is_send _ = false

abbrev is_hear : Event → Bool
is_hear (Hear n) = true
is_hear _ = false

-- how many entries of a kind a journal has
abbrev counted : (Event → Bool) → List Entry → ℕ
counted kind [] = 0
counted kind (e ∷ past) = (if kind e.event then 1 else 0) + counted kind past

begun : (kind : Event → Bool) (more past : List Entry) → counted kind past ≤ counted kind (more ++ past)
begun kind [] past = omega arith
begun kind (e ∷ more) past = let rest = begun kind more past in omega (arith, rest)

within : (kind : Event → Bool) (past whole : List Entry) → IsBeginning past whole → counted kind past ≤ counted kind whole
within kind past whole b = subst (λ w. counted kind past ≤ counted kind w) (sym b.1) (begun kind b.0 past)

-- runs that each have an entry of a kind: a journal has at least as many
all_counted : (course : List Entry → Course) (kind : Event → Bool) → ((before after : List Entry) → course before ≡ record { past = after; stopped = false } → suc (counted kind before) ≤ counted kind after) → (k : ℕ) (from past : List Entry) → Stand course k from past → k + counted kind from ≤ counted kind past
all_counted course kind adds zero from past stand = let all = within kind from past stand in omega (arith, all)
all_counted course kind adds (suc k) from past stand =
    let rest = all_counted course kind adds k from stand.0 stand.2 in
    let one = adds stand.0 stand.1 stand.3 in
    let last = within kind stand.1 past stand.4 in
    omega (arith, rest, one, last)

-- a course after an event: it was stopped before, it met a full journal, or it has one entry more
abbrev entered : Course → Event → Bool → Bool → Course
entered course event stopped room = if stopped then course else (if room then record { past = entry_after small course.past event ∷ course.past; stopped = false } else record { past = course.past; stopped = true })

more_by : (kind : Event → Bool) (course : Course) (event : Event) (stopped room : Bool) → counted kind course.past ≤ counted kind (entered course event stopped room).past
more_by kind course event true room = omega arith
more_by kind course event false true = omega arith
more_by kind course event false false = omega arith

more : (kind : Event → Bool) (course : Course) (event : Event) → counted kind course.past ≤ counted kind (enter small course event).past
more kind course event = more_by kind course event course.stopped (nat_lt (length course.past) MAX_ENTRIES)

more_all : (kind : Event → Bool) (course : Course) (events : List Event) → counted kind course.past ≤ counted kind (enter_all small course events).past
more_all kind course [] = omega arith
more_all kind course (event ∷ events) = let one = more kind course event in let rest = more_all kind (enter small course event) events in omega (arith, one, rest)

more_back : (kind : Event → Bool) (course : Course) (e : Entity) (called : Bool) → counted kind course.past ≤ counted kind (if called then enter small course (Withdraw e) else course).past
more_back kind course e true = more kind course (Withdraw e)
more_back kind course e false = omega arith

-- a stopped course stays so
still : (past : List Entry) (events : List Event) → enter_all small (record { past = past; stopped = true }) events ≡ record { past = past; stopped = true }
still past [] = refl
still past (event ∷ events) = still past events

-- a turn has a Send
sends_by : (lines : List WireLine) (before after : List Entry) (room : Bool) → nat_lt (length before) MAX_ENTRIES ≡ room → turn small lines (course_from before) a1 ≡ record { past = after; stopped = false } → suc (counted is_send before) ≤ counted is_send after
sends_by lines before after true is run =
    let first : Course = record { past = entry_after small before (Send a1) ∷ before; stopped = false } in
    let here : enter small (course_from before) (Send a1) ≡ first = ap (entered (course_from before) (Send a1) false) is in
    let told = follow_ups small lines first.past in
    let third = enter_all small first told in
    let sent = called_back small third a1 in
    let fourth = enter small sent (Finish a1) in
    let fifth = enter small fourth (Report a1) in
    let whole : poll small lines (enter small sent (Finish a1)) a1 ≡ record { past = after; stopped = false } = ap (λ (r : Course). poll small lines (enter small (called_back small (enter_all small r (follow_ups small lines r.past)) a1) (Finish a1)) a1) (sym here) ∙ run in
    let a = more_all is_send first told in
    let back = more_back is_send third a1 (is_called_back small third.past a1) in
    let b = more is_send sent (Finish a1) in
    let c = more is_send fourth (Report a1) in
    let d = more_all is_send fifth (follow_ups small lines fifth.past) in
    let e : counted is_send (poll small lines fourth a1).past ≡ counted is_send after = ap (λ (r : Course). counted is_send r.past) whole in
    omega (arith, a, back, b, c, d, e)
sends_by lines before after false is run =
    let full : Course = record { past = before; stopped = true } in
    let here : enter small (course_from before) (Send a1) ≡ full = ap (entered (course_from before) (Send a1) false) is in
    let stays : enter_all small full (follow_ups small lines before) ≡ full = still before (follow_ups small lines before) in
    let back : called_back small (enter_all small full (follow_ups small lines before)) a1 ≡ full = ap (λ (r : Course). called_back small r a1) stays ∙ called_back-stopped small full a1 refl in
    let flat : full ≡ record { past = after; stopped = false } =
    sym stays ∙ sym (ap (λ (r : Course). poll small lines (enter small r (Finish a1)) a1) back) ∙ sym (ap (λ (r : Course). poll small lines (enter small (called_back small (enter_all small r (follow_ups small lines r.past)) a1) (Finish a1)) a1) here) ∙ run in
    absurd (cc (ap (λ (r : Course). r.stopped) flat))

-- a poll has a Hear
hears_by : (before after : List Entry) (room more_room : Bool) → nat_lt (length before) MAX_ENTRIES ≡ room → nat_lt (suc (length before)) MAX_ENTRIES ≡ more_room → poll small [] (course_from before) a1 ≡ record { past = after; stopped = false } → suc (counted is_hear before) ≤ counted is_hear after
hears_by before after true true is more_is run =
    let report = entry_after small before (Report a1) in
    let first : Course = record { past = report ∷ before; stopped = false } in
    let number = length (reports small before) + 1 in
    let here : enter small (course_from before) (Report a1) ≡ first = ap (entered (course_from before) (Report a1) false) is in
    let heard : enter small first (Hear number) ≡ record { past = entry_after small first.past (Hear number) ∷ first.past; stopped = false } = ap (entered first (Hear number) false) more_is in
    let whole : enter small first (Hear number) ≡ record { past = after; stopped = false } = sym (ap (λ (r : Course). enter_all small r (follow_ups small [] r.past)) here) ∙ run in
    let one : counted is_hear (entry_after small first.past (Hear number) ∷ first.past) ≡ 1 + (0 + counted is_hear before) = refl in
    let same : counted is_hear (entry_after small first.past (Hear number) ∷ first.past) ≡ counted is_hear after = ap (λ (r : Course). counted is_hear r.past) (sym heard ∙ whole) in
    omega (arith, one, same)
hears_by before after true false is more_is run =
    let report = entry_after small before (Report a1) in
    let first : Course = record { past = report ∷ before; stopped = false } in
    let number = length (reports small before) + 1 in
    let here : enter small (course_from before) (Report a1) ≡ first = ap (entered (course_from before) (Report a1) false) is in
    let full : enter small first (Hear number) ≡ record { past = first.past; stopped = true } = ap (entered first (Hear number) false) more_is in
    let whole : enter small first (Hear number) ≡ record { past = after; stopped = false } = sym (ap (λ (r : Course). enter_all small r (follow_ups small [] r.past)) here) ∙ run in
    absurd (cc (ap (λ (r : Course). r.stopped) (sym full ∙ whole)))
hears_by before after false more_room is more_is run =
    let full : Course = record { past = before; stopped = true } in
    let here : enter small (course_from before) (Report a1) ≡ full = ap (entered (course_from before) (Report a1) false) is in
    let flat : full ≡ record { past = after; stopped = false } = sym (still before (follow_ups small [] before)) ∙ sym (ap (λ (r : Course). enter_all small r (follow_ups small [] r.past)) here) ∙ run in
    absurd (cc (ap (λ (r : Course). r.stopped) flat))

turns_are_sent : (lines : List WireLine) (k : ℕ) (from past : List Entry) → Stand (λ before. turn small lines (course_from before) a1) k from past → k + counted is_send from ≤ counted is_send past
turns_are_sent lines k from past stand = all_counted (λ before. turn small lines (course_from before) a1) is_send (λ before after run. sends_by lines before after (nat_lt (length before) MAX_ENTRIES) refl run) k from past stand

polls_are_heard : (k : ℕ) (past : List Entry) → Stand (λ before. poll small [] (course_from before) a1) k [] past → k ≤ counted is_hear past
polls_are_heard k past stand =
    let all = all_counted (λ before. poll small [] (course_from before) a1) is_hear (λ before after run. hears_by before after (nat_lt (length before) MAX_ENTRIES) (nat_lt (suc (length before)) MAX_ENTRIES) refl refl run) k [] past stand in
    omega (arith, all)

-- Turns

abbrev settling : ℕ → List Act
settling rounds = Propose 0 (firmware 2) ∷ Await 0 ∷ Settle 0 rounds ∷ []

abbrev decided : List Event
decided = Submit (app 0) (firmware 2) ∷ Check ∷ []

abbrev decision : List Entry
decision = after_all [] decided

abbrev turned : Case
turned = of (settling 1) (decided ++ the_turn)

one_turn : HasTurns (history turned) [] decision a1 1
one_turn = (decision, turned.past, ([], refl), refl, ([], refl))

-- the switch has its turn behind the decision, and there is no other entity
for_each : (e : Entity) → IsEntityOf small e → WasSettled (history turned) decision e ⊎ HasTurns (history turned) [] decision e 1
for_each (Device zero) is = inr one_turn
for_each (Device (suc i)) is = absurd (omega (arith, is))
for_each (Link i) is = absurd (omega (arith, is))

pub settles : Settled turned
settles = (λ there. for_each, (tt, (tt, tt)))

-- the turn settles the switch: a settle of two rounds is done with it
settled_by_one : WasSettled (history turned) decision a1
settled_by_one = record { moment = turned.past; behind = (take 5 turned.past, refl); within = ([], refl); settled = refl }

for_each_by_one : (e : Entity) → IsEntityOf small e → WasSettled (history turned) decision e ⊎ HasTurns (history turned) [] decision e 2
for_each_by_one (Device zero) is = inl settled_by_one
for_each_by_one (Device (suc i)) is = absurd (omega (arith, is))
for_each_by_one (Link i) is = absurd (omega (arith, is))

settles_by_one : Settled (of (settling 2) (decided ++ the_turn))
settles_by_one = (λ there. for_each_by_one, (tt, (tt, tt)))

-- at none of the moments from a beginning of a journal on is the switch settled
abbrev NeverSettled : List Entry → List Entry → Type 0
NeverSettled [] from = is_settled small from a1 ≡ false
NeverSettled (e ∷ made) from = (is_settled small (e ∷ made ++ from) a1 ≡ false) × NeverSettled made from

empty_by : (xs : List Entry) → length xs ≡ 0 → xs ≡ []
empty_by [] none = refl
empty_by (x ∷ xs) none = absurd (omega (arith, none))

all_of : (from whole moment : List Entry) → from ≡ whole → IsBeginning from moment → IsBeginning moment whole → moment ≡ whole
all_of from whole moment same behind inside =
    let sum = length-append inside.0 moment in
    let under = length-append behind.0 from in
    let total = ap length inside.1 in
    let low = ap length behind.1 in
    let equal = ap length same in
    let none : length inside.0 ≡ 0 = omega (arith, sum, under, total, low, equal) in
    sym (inside.1 ∙ ap (λ more. more ++ moment) (empty_by inside.0 none))

one_back : (e : Entry) (made from moment more : List Entry) → is_settled small (e ∷ made ++ from) a1 ≡ false → (IsBeginning moment (made ++ from) → is_settled small moment a1 ≡ false) → e ∷ made ++ from ≡ more ++ moment → is_settled small moment a1 ≡ false
one_back e made from moment [] now before same = subst (λ past. is_settled small past a1 ≡ false) same now
one_back e made from moment (x ∷ more) now before same = before (more, cc same)

never_at : (made from moment : List Entry) → NeverSettled made from → IsBeginning from moment → IsBeginning moment (made ++ from) → is_settled small moment a1 ≡ false
never_at [] from moment never behind inside = subst (λ past. is_settled small past a1 ≡ false) (sym (all_of from from moment refl behind inside)) never
never_at (e ∷ made) from moment never behind inside = one_back e made from moment inside.0 never.0 (never_at made from moment never.1 behind) inside.1

never_was : (made from : List Entry) → NeverSettled made from → WasSettled (record { group = small; past = made ++ from }) from a1 → ⊥
never_was made from never was = absurd (cc (sym was.settled ∙ never_at made from was.moment never was.behind was.within))

at_the_opening : is_settled small [] a1 ≡ true
at_the_opening = refl

-- nothing was done of the settle, though the proposal that was awaited left the switch to be changed: it was settled at the opening alone
abbrev undone : Case
undone = of (settling 1) decided

not_undone : Settled undone → ⊥
not_undone is = ⊎_elim (never_was [] decision refl) (λ has. absurd (omega (arith, turns_are_sent [] 1 decision decision has))) (is.0 refl a1 (omega arith))

undone_else : ButSettled undone
undone_else = (refl, one_ticket, (idle, (idle, ((λ is there k d lt. none_at k lt), tt))), (λ k d lt. none_at k lt), tt, refl, none_failed, (λ e. from_nothing undone.past), tt, tt)

-- the first two commands are lost, so that the turns that send them leave the switch as it was
abbrev lossy : List WireLine
lossy = Drop Command 1 ∷ Drop Command 2 ∷ []

abbrev lost_turn : ℕ → List Event
lost_turn n = Send a1 ∷ Finish a1 ∷ Report a1 ∷ Hear n ∷ []

-- a settle of so many rounds on these events behind the decision
abbrev losing : ℕ → List Event → Case
losing rounds events = record { acts = settling rounds; log = []; past = after_all decision events; lines = lossy }

abbrev two_lost : List Event
two_lost = lost_turn 1 ++ lost_turn 2

never_by_one : NeverSettled (take 4 (losing 2 (lost_turn 1)).past) decision
never_by_one = (refl, (refl, (refl, (refl, refl))))

never_by_two : NeverSettled (take 8 (losing 2 two_lost).past) decision
never_by_two = (refl, (refl, (refl, (refl, (refl, (refl, (refl, (refl, refl))))))))

-- two rounds, and two turns: that is enough, though the switch was never settled
two_turns : HasTurns (history (losing 2 two_lost)) lossy decision a1 2
two_turns = (after_all decision (lost_turn 1), (losing 2 two_lost).past, (decision, after_all decision (lost_turn 1), ([], refl), refl, ([], refl)), refl, ([], refl))

for_each_lost : (e : Entity) → IsEntityOf small e → WasSettled (history (losing 2 two_lost)) decision e ⊎ HasTurns (history (losing 2 two_lost)) lossy decision e 2
for_each_lost (Device zero) is = inr two_turns
for_each_lost (Device (suc i)) is = absurd (omega (arith, is))
for_each_lost (Link i) is = absurd (omega (arith, is))

settles_by_turns : Settled (losing 2 two_lost)
settles_by_turns = (λ there. for_each_lost, (tt, (tt, tt)))

-- two rounds, and one turn: the turn does not count twice
abbrev counted_twice : Case
counted_twice = losing 2 (lost_turn 1)

not_counted_twice : Settled counted_twice → ⊥
not_counted_twice is = ⊎_elim (never_was (take 4 counted_twice.past) decision never_by_one) (λ has. absurd (omega (arith, turns_are_sent lossy 2 decision counted_twice.past has))) (is.0 refl a1 (omega arith))

counted_twice_else : ButSettled counted_twice
counted_twice_else = (refl, one_ticket, (idle, (idle, ((λ is there k d lt. none_at k lt), tt))), (λ k d lt. none_at k lt), tt, refl, none_failed, (λ e. from_nothing counted_twice.past), tt, tt)

-- three rounds, and two turns: one is missing
abbrev a_turn_less : Case
a_turn_less = losing 3 two_lost

not_a_turn_less : Settled a_turn_less → ⊥
not_a_turn_less is = ⊎_elim (never_was (take 8 a_turn_less.past) decision never_by_two) (λ has. absurd (omega (arith, turns_are_sent lossy 3 decision a_turn_less.past has))) (is.0 refl a1 (omega arith))

a_turn_less_else : ButSettled a_turn_less
a_turn_less_else = (refl, one_ticket, (idle, (idle, ((λ is there k d lt. none_at k lt), tt))), (λ k d lt. none_at k lt), tt, refl, none_failed, (λ e. from_nothing a_turn_less.past), tt, tt)

-- Polls

abbrev polling : List (List Act)
polling = (Poll 0 a1 ∷ []) ∷ (Poll 0 a1 ∷ []) ∷ []

-- two polls of the switch, of two applications
abbrev polled_twice : History
polled_twice = journal (Report a1 ∷ Hear 1 ∷ Report a1 ∷ Hear 2 ∷ [])

abbrev polled : List Entry
polled = after_all [] (Report a1 ∷ Hear 1 ∷ [])

two_polls : Stand (λ before. poll small [] (course_from before) a1) 2 [] polled_twice.past
two_polls = (polled, polled_twice.past, ([], polled, ([], refl), refl, ([], refl)), refl, ([], refl))

no_polls : IsBeginning [] polled_twice.past
no_polls = (polled_twice.past, refl)

-- no other switch is polled
apart : (i : ℕ) → (0 == suc i) ≡ false
apart i = grind (arith, nat_tests)

none_of : (i : ℕ) → sum_by (λ acts. count_by (is_poll_of (Device (suc i))) (acts_on 0 acts)) polling ≡ 0
none_of i = ap (λ b. sum_by (λ (acts : List Act). count_by (λ (act : Act). b) acts) polling) (apart i)

polls : PollsAll polling 0 polled_twice []
polls (Device zero) = two_polls
polls (Device (suc i)) = subst (λ k. Stand (λ before. poll small [] (course_from before) (Device (suc i))) k [] polled_twice.past) (sym (none_of i)) no_polls
polls (Link i) = no_polls

-- a report was not heard
abbrev unheard : Case
unheard = of (Poll 0 a1 ∷ Poll 0 a1 ∷ []) (Report a1 ∷ Hear 1 ∷ Report a1 ∷ [])

not_unheard : Polled unheard → ⊥
not_unheard is = absurd (omega (arith, polls_are_heard 2 unheard.past (is a1)))

unheard_else : ButPolled unheard
unheard_else = (refl, (λ k d lt. none_at k lt), (idle, (idle, tt)), (tt, (tt, tt)), (λ k d lt. none_at k lt), tt, refl, none_failed, tt, tt)

-- Failures

abbrev fails : Act
fails = Fail 0 a1 4 config

-- of one list of one item that item is taken, and of one without items none
nothing_in : (before behind : List (List Act)) (list : List Act) → [] ≡ before ++ list ∷ behind → ⊥
nothing_in [] behind list is = absurd (cc is)
nothing_in (l ∷ before) behind list is = absurd (cc is)

taken_first : (before : List (List Act)) (list : List Act) (behind : List (List Act)) (act : Act) → before ++ (act ∷ list) ∷ behind ≡ (fails ∷ []) ∷ [] → act ≡ fails
taken_first [] list behind act is = cc is
taken_first (l ∷ before) list behind act is = absurd (nothing_in before behind (act ∷ list) (sym (cc is)))

taken_none : (before : List (List Act)) (list : List Act) (behind : List (List Act)) (act : Act) → before ++ (act ∷ list) ∷ behind ≡ [] ∷ [] → ⊥
taken_none [] list behind act is = absurd (cc is)
taken_none (l ∷ before) list behind act is = absurd (nothing_in before behind (act ∷ list) (sym (cc is)))

abbrev renamed : Vals
renamed = record { v0 = 1; v1 = 1; v2 = 3; v3 = 1 }

failed : FailsAsAsked ((fails ∷ []) ∷ []) 0 (journal (fail_event a1 renamed 4 ∷ []))
failed = record {
  first = fails;
  rest = [] ∷ [];
  stands_for = (refl, refl, refl);
  taken = record { before = []; list = []; behind = []; were = refl; are = refl };
  remains = all_one (λ (l : List Act). l ≡ []) [] refl;
}

-- two applications' failures, the second one's first
in_turn : FailsAsAsked ((fails ∷ []) ∷ (Fail 0 a1 3 [] ∷ []) ∷ []) 0 (journal (fail_event a1 usual 3 ∷ fail_event a1 renamed 4 ∷ []))
in_turn = record {
  first = Fail 0 a1 3 [];
  rest = (fails ∷ []) ∷ [] ∷ [];
  stands_for = (refl, refl, refl);
  taken = record { before = (fails ∷ []) ∷ []; list = []; behind = []; were = refl; are = refl };
  remains = record {
    first = fails;
    rest = [] ∷ [] ∷ [];
    stands_for = (refl, refl, refl);
    taken = record { before = []; list = []; behind = [] ∷ []; were = refl; are = refl };
    remains = All-cons (λ (l : List Act). l ≡ []) [] ([] ∷ []) refl (all_one (λ (l : List Act). l ≡ []) [] refl);
  };
}

-- the failure that was asked for is the first of its list
only_one : (lists rest : List (List Act)) (act : Act) → lists ≡ (fails ∷ []) ∷ [] → Takes act lists rest → act ≡ fails
only_one lists rest act is t = taken_first t.before t.list t.behind act (sym t.were ∙ is)

-- another variable changed too
abbrev changed_more : Vals
changed_more = record { v0 = 1; v1 = 2; v2 = 3; v3 = 1 }

abbrev another_variable : Case
another_variable = of (fails ∷ []) (fail_event a1 changed_more 4 ∷ [])

not_another_variable : Failed another_variable → ⊥
not_another_variable is =
    let same : is.first ≡ fails = only_one ((fails ∷ []) ∷ []) is.rest is.first refl is.taken in
    let as_before : 2 ≡ 1 = ap (λ (v : Vals). v.v1) (subst (IsFailureBy (record { entity = a1; before = usual; after = changed_more; health = 4 })) same is.stands_for).1 in
    absurd (omega (arith, as_before))

another_variable_else : ButFailed another_variable
another_variable_else = (refl, (λ k d lt. none_at k lt), (idle, tt), (tt, tt), (λ k d lt. none_at k lt), tt, refl, (λ e. from_nothing another_variable.past), tt, tt)

-- the variable that was named did not change
abbrev unset : Case
unset = of (fails ∷ []) (fail_event a1 usual 4 ∷ [])

not_unset : Failed unset → ⊥
not_unset is =
    let same : is.first ≡ fails = only_one ((fails ∷ []) ∷ []) is.rest is.first refl is.taken in
    let config_is : 1 ≡ 3 = ap (λ (v : Vals). v.v2) (subst (IsFailureBy (record { entity = a1; before = usual; after = usual; health = 4 })) same is.stands_for).1 in
    absurd (omega (arith, config_is))

unset_else : ButFailed unset
unset_else = (refl, (λ k d lt. none_at k lt), (idle, tt), (tt, tt), (λ k d lt. none_at k lt), tt, refl, (λ e. from_nothing unset.past), tt, tt)

-- the failure is missing
abbrev left_out : Case
left_out = of (fails ∷ []) []

not_left_out : Failed left_out → ⊥
not_left_out is = absurd (cc (is 0 [] (omega arith)))

left_out_else : ButFailed left_out
left_out_else = (refl, (λ k d lt. none_at k lt), (idle, tt), (tt, tt), (λ k d lt. none_at k lt), tt, refl, (λ e. from_nothing []), tt, tt)

-- a failure stands there that nobody asked for
abbrev one_more : Case
one_more = of [] (fail_event a1 usual 4 ∷ [])

not_one_more : Failed one_more → ⊥
not_one_more is = taken_none is.taken.before is.taken.list is.taken.behind is.first (sym is.taken.were)

one_more_else : ButFailed one_more
one_more_else = (refl, (λ k d lt. none_at k lt), tt, tt, (λ k d lt. none_at k lt), tt, refl, (λ e. from_nothing one_more.past), tt, tt)
