-- Worked cases of what it is that a script was carried out on a group: of its requests, of their order in time and of what its log has. For each point there is
-- a journal with a log of which all points hold, and cases of which all hold but this one: a case `x` is refused by `not_x`, and `x_else` has its other points.
use Rattle.std.proofs.Common.{◌≡◌, ℕ, zero, suc, ◌<◌, List, [], ◌∷◌, ◌++◌, refl, ap, arith}
use Rattle.std.specs.Prelude.{true, All}
use Rattle.std.proofs.lemmas.List.Elements.{All-cons}
use Rattle.st_net.specs.declared.entity.Prio.TheVariants.{Low}
use Rattle.st_net.specs.declared.entity.Row.{Row}
use Rattle.st_net.specs.declared.entity.Var.TheVariants.{Firmware, Config}
use Rattle.st_event.specs.declared.act.Act.{Act}
use Rattle.st_event.specs.declared.act.Act.TheVariants.{Propose, Await, Settle, Lock, Unlock, Read, ReadAt, Fail, Poll}
use Rattle.st_event.specs.declared.act.LogEntry.{LogEntry}
use Rattle.st_event.specs.declared.act.LogSaw.{LogSaw}
use Rattle.st_event.specs.declared.act.LogSaw.TheVariants.{Seen, At, NoVersion}
use Rattle.st_event.specs.declared.event.Event.{Event}
use Rattle.st_event.specs.declared.event.Event.TheVariants.{Submit, Check, Lock as lock_event, Unlock as unlock_event, Report, Hear, Fail as fail_event}
use Rattle.st_event.specs.declared.reply.Reply.TheVariants.{Full, Queued}
use Rattle.st_event.specs.History.{History}
use Rattle.st_event.specs.Proposals.{is_queued, pending, version}
use Rattle.st_run.specs.CarriedOn.{entries_of, AsksAll, AsksInTime, HasTickets, LogsAll, SeesAwaited, SeesNoLess, SeesTruly}
use Rattle.st_run.specs.Logs.{GoesOn, HasSeen, IsTrueOf, accepted_up_to}
use Rattle.st_run.specs.Requests.{decision_of}
use Rattle.st_run.proofs.SmallCases.{a1, app, firmware, config, after_all, journal, the_turn, line, none_at, all_none, all_one, idle, Case, of, with_log, history, Asked, Given, Timely, Truly, Awaited, Decided, Each, NoLess, ButAsked, ButGiven, ButTimely, ButTruly, ButAwaited, ButDecided, ButEach, ButNoLess, none_failed, from_nothing, one_ticket}

-- a script with each command, and the events that it makes
abbrev script : List Act
script =
    Propose 0 (firmware 2) ∷ Await 0 ∷ Settle 0 1 ∷ Lock 0 a1 Low ∷ Unlock 0 a1 Low ∷ Read 0 a1 Firmware ∷ Fail 0 a1 4 config ∷ Poll 0 a1
    ∷ ReadAt 0 9 a1 Firmware ∷ []

-- the failure changes the health, and the configuration that its row names
abbrev broken : Event
broken = fail_event a1 (record { v0 = 1; v1 = 2; v2 = 3; v3 = 1 }) 4

abbrev asked : List Event
asked = Submit (app 0) (firmware 2) ∷ Check ∷ the_turn ++ lock_event (app 0) a1 Low ∷ unlock_event (app 0) a1 Low ∷ broken ∷ Report a1 ∷ Hear 2 ∷ []

abbrev done : History
done = journal asked

abbrev log : List LogEntry
log = line (Seen 1 2) ∷ line (NoVersion 9 1) ∷ []

-- Requests

asks : AsksAll (app 0) 0 script done
asks = refl

abbrev locking : List Act
locking = Lock 0 a1 Low ∷ Unlock 0 a1 Low ∷ []

-- the last command's request is missing
abbrev unreturned : Case
unreturned = of locking (lock_event (app 0) a1 Low ∷ [])

not_unreturned : Asked unreturned → ⊥
not_unreturned is = absurd (cc is)

unreturned_else : ButAsked unreturned
unreturned_else = ((λ k d lt. none_at k lt), ((λ is there k d lt. none_at k lt), ((λ is there k d lt. none_at k lt), tt)), (tt, (tt, tt)), (λ k d lt. none_at k lt), tt, refl, none_failed, (λ e. from_nothing unreturned.past), tt, tt)

-- two requests have changed places
abbrev swapped : Case
swapped = of locking (unlock_event (app 0) a1 Low ∷ lock_event (app 0) a1 Low ∷ [])

not_swapped : Asked swapped → ⊥
not_swapped is = absurd (cc is)

swapped_else : ButAsked swapped
swapped_else = ((λ k d lt. none_at k lt), ((λ is there k d lt. none_at k lt), ((λ is there k d lt. none_at k lt), tt)), (tt, (tt, tt)), (λ k d lt. none_at k lt), tt, refl, none_failed, (λ e. from_nothing swapped.past), tt, tt)

-- a request stands twice
abbrev twice : Case
twice = of locking (lock_event (app 0) a1 Low ∷ lock_event (app 0) a1 Low ∷ unlock_event (app 0) a1 Low ∷ [])

not_twice : Asked twice → ⊥
not_twice is = absurd (cc is)

twice_else : ButAsked twice
twice_else = ((λ k d lt. none_at k lt), ((λ is there k d lt. none_at k lt), ((λ is there k d lt. none_at k lt), tt)), (tt, (tt, tt)), (λ k d lt. none_at k lt), tt, refl, none_failed, (λ e. from_nothing twice.past), tt, tt)

-- the value of the first row of the first proposal
abbrev first_of_rows : List Row → ℕ
first_of_rows [] = 0
first_of_rows (row ∷ rows) = row.value

abbrev first_value : List Event → ℕ
first_value (Submit by rows ∷ events) = first_of_rows rows
first_value events = 0

-- the proposal has another row
abbrev other_rows : Case
other_rows = of (Propose 0 (firmware 2) ∷ []) (Submit (app 0) (firmware 3) ∷ Check ∷ [])

not_other_rows : Asked other_rows → ⊥
not_other_rows is = absurd (omega (arith, ap first_value is))

other_rows_else : ButAsked other_rows
other_rows_else = (one_ticket, ((λ is there k d lt. none_at k lt), tt), (tt, tt), (λ k d lt. none_at k lt), tt, refl, none_failed, (λ e. from_nothing other_rows.past), tt, tt)

-- another application asked
abbrev anothers : Case
anothers = of (Lock 0 a1 Low ∷ []) (lock_event (app 1) a1 Low ∷ [])

not_anothers : Asked anothers → ⊥
not_anothers is = absurd (cc is)

anothers_else : ButAsked anothers
anothers_else = ((λ k d lt. none_at k lt), ((λ is there k d lt. none_at k lt), tt), (tt, tt), (λ k d lt. none_at k lt), tt, refl, none_failed, (λ e. from_nothing anothers.past), tt, tt)

given : HasTickets (app 0) done
given = one_ticket

-- an event so many times
abbrev times : ℕ → Event → List Event
times zero event = []
times (suc n) event = event ∷ times n event

-- the proposal met a full queue, of another application's 64 proposals
abbrev crowded : Case
crowded = of (Propose 0 (firmware 2) ∷ []) (times 64 (Submit (app 1) (firmware 2)) ++ Submit (app 0) (firmware 2) ∷ times 64 Check)

not_crowded : Given crowded → ⊥
not_crowded is = absurd (cc (is 0 (Full 64) (omega arith)))

crowded_else : ButGiven crowded
crowded_else = (refl, ((λ is there k d lt. none_at k lt), tt), (tt, tt), (λ k d lt. none_at k lt), tt, refl, none_failed, (λ e. from_nothing crowded.past), tt, tt)

-- nothing is left pending
none_pending : pending done.past ≡ []
none_pending = refl

-- nobody checked a proposal
abbrev unchecked : Case
unchecked = of (Propose 0 (firmware 2) ∷ []) (Submit (app 0) (firmware 2) ∷ [])

not_unchecked : Decided unchecked → ⊥
not_unchecked is = absurd (cc is)

unchecked_else : ButDecided unchecked
unchecked_else = (refl, one_ticket, ((λ is there k d lt. none_at k lt), tt), (tt, tt), (λ k d lt. none_at k lt), tt, none_failed, (λ e. from_nothing unchecked.past), tt, tt)

-- Order in time

-- ticket 1 is decided by an entry before number n of a journal
abbrev early : History → ℕ → ℕ → Type 0
early h n ticket = decision_of ticket (entries_of h) < n

timely : AsksInTime (app 0) 0 script done
timely = (
  idle,
  (idle, (idle, (idle, (λ is there. all_one (early done 9) 1 (omega arith), (λ is there. all_one (early done 8) 1 (omega arith), (idle, (idle, (λ is there. all_none (early done 1), tt)))))))),
)

abbrev awaits_then_locks : List Act
awaits_then_locks = Propose 0 (firmware 2) ∷ Await 0 ∷ Lock 0 a1 Low ∷ []

abbrev behind : History
behind = journal (Submit (app 0) (firmware 2) ∷ Check ∷ lock_event (app 0) a1 Low ∷ [])

in_time : AsksInTime (app 0) 0 awaits_then_locks behind
in_time = (λ is there. all_one (early behind 3) 1 (omega arith), (idle, (λ is there. all_none (early behind 1), tt)))

-- the lock was asked for before the decision that was awaited
abbrev too_early : Case
too_early = of awaits_then_locks (Submit (app 0) (firmware 2) ∷ lock_event (app 0) a1 Low ∷ Check ∷ [])

not_too_early : Timely too_early → ⊥
not_too_early is = let late = is.0 refl refl 0 0 (omega arith) in absurd (omega (arith, late))

too_early_else : ButTimely too_early
too_early_else = (refl, one_ticket, (tt, (tt, (tt, tt))), (λ k d lt. none_at k lt), tt, refl, none_failed, (λ e. from_nothing too_early.past), tt, tt)

-- Logs

abbrev decided : List Event
decided = Submit (app 0) (firmware 2) ∷ Check ∷ []

logs : LogsAll script log
logs = ((record { group = refl; entity = refl; var = refl }, refl), ((record { group = refl; entity = refl; var = refl }, tt), tt))

-- a line is missing. `SeesAwaited` goes through the same commands and lines, so it refuses this and the next one too
not_a_line_less : LogsAll (Read 0 a1 Firmware ∷ Read 0 a1 Firmware ∷ []) (line (Seen 0 1) ∷ []) → ⊥
not_a_line_less is = is.1

-- nobody read the second line
not_a_line_more : LogsAll (Read 0 a1 Firmware ∷ []) (line (Seen 0 1) ∷ line (Seen 0 1) ∷ []) → ⊥
not_a_line_more is = is.1

-- another variable was read
abbrev of_another : Case
of_another = with_log (Read 0 a1 Config ∷ []) [] (line (Seen 0 1) ∷ [])

not_of_another : Each of_another → ⊥
not_of_another is = absurd (cc is.0.0.var)

abbrev is_true_at : Case → LogEntry → Type 0
is_true_at c l = l.group ≡ 0 → IsTrueOf (history c) l.entity l.var l.saw

of_another_else : ButEach of_another
of_another_else = (refl, (λ k d lt. none_at k lt), (idle, tt), (tt, tt), all_one (is_true_at of_another) (line (Seen 0 1)) (λ here. (omega arith, refl)), ((λ here k d lt. none_at k lt), tt), refl, none_failed, (λ e. from_nothing []), ((λ k d lt. none_at k lt), tt))

-- a version was asked for, and the line tells what is seen now
abbrev seen_now : Case
seen_now = with_log (ReadAt 0 0 a1 Firmware ∷ []) [] (line (Seen 0 1) ∷ [])

not_seen_now : Each seen_now → ⊥
not_seen_now is = is.0.1

seen_now_else : ButEach seen_now
seen_now_else = (refl, (λ k d lt. none_at k lt), (idle, tt), (tt, tt), all_one (is_true_at seen_now) (line (Seen 0 1)) (λ here. (omega arith, refl)), ((λ here k d lt. none_at k lt), tt), refl, none_failed, (λ e. from_nothing []), ((λ k d lt. none_at k lt), tt))

-- the line tells another version than was asked for
abbrev at_another : Case
at_another = with_log (ReadAt 0 9 a1 Firmware ∷ []) [] (line (At 0 1) ∷ [])

not_at_another : Each at_another → ⊥
not_at_another is = absurd (omega (arith, is.0.1))

at_another_else : ButEach at_another
at_another_else = (refl, (λ k d lt. none_at k lt), (idle, tt), (tt, tt), all_one (is_true_at at_another) (line (At 0 1)) (λ here. (omega arith, refl)), ((λ here k d lt. none_at k lt), tt), refl, none_failed, (λ e. from_nothing []), ((λ k d lt. none_at k lt), tt))

abbrev is_true : LogEntry → Type 0
is_true l = l.group ≡ 0 → IsTrueOf done l.entity l.var l.saw

truly : SeesTruly 0 log done
truly = All-cons is_true (line (Seen 1 2)) (line (NoVersion 9 1) ∷ []) (λ here. (omega arith, refl)) (all_one is_true (line (NoVersion 9 1)) (λ here. (omega arith, omega arith)))

at_a_version : SeesTruly 0 (line (At 0 1) ∷ []) done
at_a_version = all_one is_true (line (At 0 1)) (λ here. (omega arith, refl))

-- the value is that of a later version
abbrev later_value : Case
later_value = with_log (Propose 0 (firmware 2) ∷ Read 0 a1 Firmware ∷ []) decided (line (Seen 0 2) ∷ [])

not_later_value : Truly later_value → ⊥
not_later_value is = let value : 2 ≡ 1 = (is 0 (line (Seen 0 2)) (omega arith) refl).1 in absurd (omega (arith, value))

later_value_else : ButTruly later_value
later_value_else = (refl, one_ticket, (idle, ((λ is there k d lt. none_at k lt), tt)), (tt, (tt, tt)), ((λ here k d lt. none_at k lt), tt), refl, none_failed, (λ e. from_nothing later_value.past), ((record { group = refl; entity = refl; var = refl }, tt), tt), ((λ k d lt. none_at k lt), tt))

-- the journal does not have the version that was seen
abbrev later_version : Case
later_version = with_log (Propose 0 (firmware 2) ∷ Read 0 a1 Firmware ∷ []) decided (line (Seen 2 2) ∷ [])

not_later_version : Truly later_version → ⊥
not_later_version is = absurd (omega (arith, (is 0 (line (Seen 2 2)) (omega arith) refl).0))

later_version_else : ButTruly later_version
later_version_else = (refl, one_ticket, (idle, ((λ is there k d lt. none_at k lt), tt)), (tt, (tt, tt)), ((λ here k d lt. none_at k lt), tt), refl, none_failed, (λ e. from_nothing later_version.past), ((record { group = refl; entity = refl; var = refl }, tt), tt), ((λ k d lt. none_at k lt), tt))

-- the version that was asked for has the value of a later one
abbrev at_later_value : Case
at_later_value = with_log (Propose 0 (firmware 2) ∷ ReadAt 0 0 a1 Firmware ∷ []) decided (line (At 0 2) ∷ [])

not_at_later_value : Truly at_later_value → ⊥
not_at_later_value is = let value : 2 ≡ 1 = (is 0 (line (At 0 2)) (omega arith) refl).1 in absurd (omega (arith, value))

at_later_value_else : ButTruly at_later_value
at_later_value_else = (refl, one_ticket, (idle, ((λ is there k d lt. none_at k lt), tt)), (tt, (tt, tt)), ((λ here k d lt. none_at k lt), tt), refl, none_failed, (λ e. from_nothing at_later_value.past), ((record { group = refl; entity = refl; var = refl }, refl), tt), ((λ k d lt. none_at k lt), tt))

-- no version is told where there is the one that was asked for
abbrev none_there : Case
none_there = with_log (Propose 0 (firmware 2) ∷ ReadAt 0 1 a1 Firmware ∷ []) decided (line (NoVersion 1 1) ∷ [])

not_none_there : Truly none_there → ⊥
not_none_there is = absurd (omega (arith, (is 0 (line (NoVersion 1 1)) (omega arith) refl).0))

none_there_else : ButTruly none_there
none_there_else = (refl, one_ticket, (idle, ((λ is there k d lt. none_at k lt), tt)), (tt, (tt, tt)), ((λ here k d lt. none_at k lt), tt), refl, none_failed, (λ e. from_nothing none_there.past), ((record { group = refl; entity = refl; var = refl }, refl), tt), ((λ k d lt. none_at k lt), tt))

-- the latest version that is told is more than the journal has
abbrev none_of_more : Case
none_of_more = with_log (Propose 0 (firmware 2) ∷ ReadAt 0 9 a1 Firmware ∷ []) decided (line (NoVersion 9 2) ∷ [])

not_none_of_more : Truly none_of_more → ⊥
not_none_of_more is = absurd (omega (arith, (is 0 (line (NoVersion 9 2)) (omega arith) refl).1))

none_of_more_else : ButTruly none_of_more
none_of_more_else = (refl, one_ticket, (idle, ((λ is there k d lt. none_at k lt), tt)), (tt, (tt, tt)), ((λ here k d lt. none_at k lt), tt), refl, none_failed, (λ e. from_nothing none_of_more.past), ((record { group = refl; entity = refl; var = refl }, refl), tt), ((λ k d lt. none_at k lt), tt))

no_less : SeesNoLess log
no_less = (all_one (GoesOn (line (NoVersion 9 1))) (line (Seen 1 2)) (λ same. tt), (all_none (GoesOn (line (Seen 1 2))), tt))

-- a script that proposes twice and then reads, and its journal of two versions
abbrev proposes_twice : Act → Act → List Act
proposes_twice first second = Propose 0 (firmware 2) ∷ Propose 0 config ∷ first ∷ second ∷ []

abbrev two_versions : List Event
two_versions = Submit (app 0) (firmware 2) ∷ Check ∷ Submit (app 0) config ∷ Check ∷ []

version_two : version (after_all [] two_versions) ≡ 2
version_two = refl

two_tickets : All (λ reply. is_queued reply ≡ true) (Queued 1 ∷ Queued 2 ∷ [])
two_tickets = All-cons (λ reply. is_queued reply ≡ true) (Queued 1) (Queued 2 ∷ []) refl (all_one (λ reply. is_queued reply ≡ true) (Queued 2) refl)

-- both lines are true of the journal
both_true : (first second : LogSaw) → IsTrueOf (journal two_versions) a1 Firmware first → IsTrueOf (journal two_versions) a1 Firmware second → SeesTruly 0 (line first ∷ line second ∷ []) (journal two_versions)
both_true first second is are = All-cons (λ l. l.group ≡ 0 → IsTrueOf (journal two_versions) l.entity l.var l.saw) (line first) (line second ∷ []) (λ here. is) (all_one (λ l. l.group ≡ 0 → IsTrueOf (journal two_versions) l.entity l.var l.saw) (line second) (λ here. are))

-- the second line has seen a lower version
abbrev falling : Case
falling = with_log (proposes_twice (Read 0 a1 Firmware) (Read 0 a1 Firmware)) two_versions (line (Seen 2 2) ∷ line (Seen 1 2) ∷ [])

not_falling : NoLess falling → ⊥
not_falling is = absurd (omega (arith, is.0 0 (line (Seen 2 2)) (omega arith) refl))

falling_else : ButNoLess falling
falling_else = (refl, two_tickets, (idle, (idle, ((λ is there k d lt. none_at k lt), ((λ is there k d lt. none_at k lt), tt)))), (tt, (tt, (tt, (tt, tt)))), both_true (Seen 2 2) (Seen 1 2) (omega arith, refl) (omega arith, refl), ((λ here k d lt. none_at k lt), ((λ here k d lt. none_at k lt), tt)), refl, none_failed, (λ e. from_nothing falling.past), ((record { group = refl; entity = refl; var = refl }, tt), ((record { group = refl; entity = refl; var = refl }, tt), tt)))

-- the second line tells a lower latest version
abbrev falling_latest : Case
falling_latest = with_log (proposes_twice (ReadAt 0 9 a1 Firmware) (ReadAt 0 9 a1 Firmware)) two_versions (line (NoVersion 9 2) ∷ line (NoVersion 9 1) ∷ [])

not_falling_latest : NoLess falling_latest → ⊥
not_falling_latest is = absurd (omega (arith, is.0 0 (line (NoVersion 9 2)) (omega arith) refl))

falling_latest_else : ButNoLess falling_latest
falling_latest_else = (refl, two_tickets, (idle, (idle, ((λ is there k d lt. none_at k lt), ((λ is there k d lt. none_at k lt), tt)))), (tt, (tt, (tt, (tt, tt)))), both_true (NoVersion 9 2) (NoVersion 9 1) (omega arith, omega arith) (omega arith, omega arith), ((λ here k d lt. none_at k lt), ((λ here k d lt. none_at k lt), tt)), refl, none_failed, (λ e. from_nothing falling_latest.past), ((record { group = refl; entity = refl; var = refl }, refl), ((record { group = refl; entity = refl; var = refl }, refl), tt)))

-- the second line has seen a lower version than the latest that the first one tells
abbrev below_latest : Case
below_latest = with_log (proposes_twice (ReadAt 0 9 a1 Firmware) (Read 0 a1 Firmware)) two_versions (line (NoVersion 9 2) ∷ line (Seen 1 2) ∷ [])

not_below_latest : NoLess below_latest → ⊥
not_below_latest is = absurd (omega (arith, is.0 0 (line (NoVersion 9 2)) (omega arith) refl))

below_latest_else : ButNoLess below_latest
below_latest_else = (refl, two_tickets, (idle, (idle, ((λ is there k d lt. none_at k lt), ((λ is there k d lt. none_at k lt), tt)))), (tt, (tt, (tt, (tt, tt)))), both_true (NoVersion 9 2) (Seen 1 2) (omega arith, omega arith) (omega arith, refl), ((λ here k d lt. none_at k lt), ((λ here k d lt. none_at k lt), tt)), refl, none_failed, (λ e. from_nothing below_latest.past), ((record { group = refl; entity = refl; var = refl }, tt), ((record { group = refl; entity = refl; var = refl }, refl), tt)))

abbrev sees : LogSaw → ℕ → Type 0
sees saw ticket = HasSeen saw (accepted_up_to ticket done.past)

awaited : SeesAwaited (app 0) 0 script log done
awaited = ((λ here. all_one (sees (NoVersion 9 1)) 1 (omega arith)), ((λ here. all_one (sees (Seen 1 2)) 1 (omega arith)), tt))

-- behind the await less was seen than was accepted
abbrev before_acceptance : Case
before_acceptance = with_log (Propose 0 (firmware 2) ∷ Await 0 ∷ Read 0 a1 Firmware ∷ []) decided (line (Seen 0 1) ∷ [])

not_before_acceptance : Awaited before_acceptance → ⊥
not_before_acceptance is = absurd (omega (arith, is.0 refl 0 1 (omega arith)))

before_acceptance_else : ButAwaited before_acceptance
before_acceptance_else = (refl, one_ticket, (idle, (idle, ((λ is there k d lt. none_at k lt), tt))), (tt, (tt, (tt, tt))), all_one (is_true_at before_acceptance) (line (Seen 0 1)) (λ here. (omega arith, refl)), refl, none_failed, (λ e. from_nothing before_acceptance.past), ((record { group = refl; entity = refl; var = refl }, tt), tt), ((λ k d lt. none_at k lt), tt))

-- behind the await a lower latest version was told than was accepted
abbrev none_before : Case
none_before = with_log (Propose 0 (firmware 2) ∷ Await 0 ∷ ReadAt 0 9 a1 Firmware ∷ []) decided (line (NoVersion 9 0) ∷ [])

not_none_before : Awaited none_before → ⊥
not_none_before is = absurd (omega (arith, is.0 refl 0 1 (omega arith)))

none_before_else : ButAwaited none_before
none_before_else = (refl, one_ticket, (idle, (idle, ((λ is there k d lt. none_at k lt), tt))), (tt, (tt, (tt, tt))), all_one (is_true_at none_before) (line (NoVersion 9 0)) (λ here. (omega arith, omega arith)), refl, none_failed, (λ e. from_nothing none_before.past), ((record { group = refl; entity = refl; var = refl }, refl), tt), ((λ k d lt. none_at k lt), tt))
