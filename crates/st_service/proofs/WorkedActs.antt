-- Worked examples on works and acts: their courses, how many entries they may add, and what an act leaves with its pass.
use Rattle.std.proofs.Common.{◌≡◌, ℕ, ◌+◌, ◌<◌, ◌≤◌, List, [], ◌∷◌, ◌++◌, length, refl, ap, sym, subst, ◌∙◌, arith, length-append}
use Rattle.std.specs.Prelude.{true, false, map}
use Rattle.std.specs.Borrow.{Bor}
use Rattle.st_net.specs.declared.entity.Entity.TheVariants.{Device, Link}
use Rattle.st_net.specs.declared.entity.Prio.TheVariants.{Low}
use Rattle.st_net.specs.declared.entity.Row.{Row}
use Rattle.st_net.specs.declared.entity.Var.TheVariants.{Firmware}
use Rattle.st_net.specs.Groups.{Group}
use Rattle.st_event.specs.declared.act.Act.{Act}
use Rattle.st_event.specs.declared.act.Act.TheVariants.{Propose, Await, Settle, Lock, Unlock, Read, ReadAt, Fail, Poll, Span}
use Rattle.st_event.specs.declared.act.LogEntry.{LogEntry}
use Rattle.st_event.specs.declared.act.LogSaw.{LogSaw}
use Rattle.st_event.specs.declared.act.LogSaw.TheVariants.{Seen, At, NoVersion}
use Rattle.st_event.specs.declared.event.Event.{Event}
use Rattle.st_event.specs.declared.event.Event.TheVariants.{Check, Submit, Lock as lock_event, Unlock as unlock_event, Report, Hear, Fail as fail_event, Withdraw}
use Rattle.st_event.specs.declared.journal.Entry.{Entry}
use Rattle.st_event.specs.declared.journal.TheConstants.{MAX_ENTRIES}
use Rattle.st_event.specs.declared.reply.Reply.{Reply}
use Rattle.st_event.specs.declared.reply.Reply.TheVariants.{Withdrawn, Kept}
use Rattle.st_event.specs.Proposals.{overlays}
use Rattle.st_event.specs.Services.{entry_after}
use Rattle.st_board.specs.Published.{Published}
use Rattle.st_wire.specs.declared.line.WireKind.TheVariants.{Command}
use Rattle.st_wire.specs.declared.line.WireLine.{WireLine}
use Rattle.st_wire.specs.declared.line.WireLine.TheVariants.{Drop}
use Rattle.st_control.specs.Basis.{JudgedView}
use Rattle.st_world.specs.Acts.{ActFits, course_of}
use Rattle.st_world.specs.Rounds.{Course, course_from}
use Rattle.st_world.specs.declared.world.rounds.Going.TheVariants.{On}
use Rattle.st_event.proofs.Prefixes.{prefix_length, prefix_whole}
use Rattle.st_service.specs.declared.acts.Acted.TheVariants.{Done, JournalFull}
use Rattle.st_service.specs.declared.work.Part.{Part}
use Rattle.st_service.specs.declared.work.Part.TheVariants.{Whole, Update, Monitor}
use Rattle.st_service.specs.declared.work.Work.TheVariants.{OneAct, Commit, Turn}
use Rattle.st_service.specs.Acts.{HasRounds, ActEnters, ActLogs, ActTeaches, ActDone, Acts, CanDo}
use Rattle.st_service.specs.Laid.{laid_by}
use Rattle.st_service.specs.Lines.{tagged, numbers}
use Rattle.st_service.specs.Made.{Made, past_in}
use Rattle.st_service.specs.Passes.{Holder, no_reader, Reads, IsTaught}
use Rattle.st_service.specs.Puts.{Enters}
use Rattle.st_service.specs.Shares.{turn_share, round_share, act_share, check_share, work_share}
use Rattle.st_service.specs.Works.{IsDecided, IsGiven, is_decided, part_of, check_course, course_at, is_of_one_hold, MayDo, WorkFits, act_may_decide, may_decide}
use Rattle.st_service.proofs.Lines.{length_tagged, length_numbers}
use Rattle.st_service.proofs.WorkedJournals.{small, a1, app, usual, firmware, lock, idle, made, then_by, proposed, decided, turned}
use Rattle.st_service.proofs.WorkedChains.{as_many_as_asked, not_a_round_less, checked, one_check}

-- one act of each kind, on group 0
abbrev each_act : List Act
each_act =
    Propose 0 (firmware 2) ∷ Await 0 ∷ Settle 0 3 ∷ Lock 0 a1 Low ∷ Unlock 0 a1 Low ∷ Read 0 a1 Firmware ∷ ReadAt 0 1 a1 Firmware ∷ Fail 0 a1 5 []
    ∷ Poll 0 a1 ∷ []

-- Shares

abbrev one_line : List WireLine
one_line = Drop Command 1 ∷ []

turn_shares : (turn_share Whole [] ≡ 6) × (turn_share Update [] ≡ 4) × (turn_share Monitor [] ≡ 2)
turn_shares = (refl, refl, refl)

turn_shares_with_a_line : (turn_share Whole one_line ≡ 8) × (turn_share Update one_line ≡ 5) × (turn_share Monitor one_line ≡ 3)
turn_shares_with_a_line = (refl, refl, refl)

-- the switch's turn has one entry less, since nothing is withdrawn where a command is sent
turn_within_it : (length (part_of Whole small [] (course_from []) a1).past ≡ 4) × (length turned + 1 ≡ length decided + turn_share Whole [])
turn_within_it = (refl, refl)

-- with a second switch a round has twice as many
abbrev pair : Group
pair = record small { devices = record { tor = false; vals = usual; health = 5 } ∷ record { tor = false; vals = usual; health = 5 } ∷ [] }

round_shares : (round_share Whole small [] ≡ 6) × (round_share Whole pair one_line ≡ 16) × (round_share Update pair [] ≡ 8) × (round_share Monitor pair [] ≡ 4)
round_shares = (refl, refl, refl, refl)

act_shares : map (λ act. act_share act pair one_line) each_act ≡ 2 ∷ 64 ∷ 48 ∷ 1 ∷ 1 ∷ 0 ∷ 0 ∷ 1 ∷ 3 ∷ []
act_shares = refl

work_shares : (check_share ≡ 1) × (work_share (Turn Monitor a1) small one_line ≡ 3)
work_shares = (refl, refl)

share_of_a_commit : (judged : Bor JudgedView) → work_share (Commit judged) small one_line ≡ 1
share_of_a_commit judged = refl

share_of_an_act : (act : Bor Act) → work_share (OneAct act) pair one_line ≡ act_share act.now pair one_line
share_of_an_act act = refl

-- Tickets in a journal

-- ticket 1 is given and not decided, and then it is; ticket 2 is neither
pub given : IsGiven 1 (past_in proposed)
given = omega arith

pub not_given : IsGiven 2 (past_in decided) → ⊥
not_given e = let early : 2 ≤ 1 = e in absurd (omega (arith, early))

pub decided_then : IsDecided 1 (past_in decided)
decided_then = omega arith

pub not_decided_before : IsDecided 1 (past_in proposed) → ⊥
not_decided_before e = let early : 1 ≤ 0 = e in absurd (omega (arith, early))

tests : (is_decided 1 (past_in proposed) ≡ false) × (is_decided 1 (past_in decided) ≡ true) × (is_decided 2 (past_in decided) ≡ false)
tests = (refl, refl, refl)

-- Courses

-- a turn of the switch behind the verdict: 5 entries more, of which 3 update it; asked alone for its report it makes 2
abbrev entries_of : Part → ℕ
entries_of part = length (part_of part small [] (course_from (past_in decided)) a1).past

parts : (entries_of Whole ≡ 7) × (entries_of Update ≡ 5) × (entries_of Monitor ≡ 4)
parts = (refl, refl, refl)

-- a check for a ticket that is pending, and none for one that is decided
checks : (check_course 1 small (past_in proposed) ≡ course_from (past_in checked)) × (check_course 1 small (past_in decided) ≡ course_from (past_in decided))
checks = (refl, refl)

-- the course of each work
course_of_a_turn : course_at 0 (Turn Whole a1) small [] (past_in decided) ≡ course_from (past_in turned)
course_of_a_turn = refl

course_of_a_commit : (judged : Bor JudgedView) → course_at 0 (Commit judged) small [] (past_in proposed) ≡ check_course judged.now.ticket small (past_in proposed)
course_of_a_commit judged = refl

course_of_an_act : (act : Bor Act) → course_at 4 (OneAct act) small [] (past_in decided) ≡ course_of (app 4) act.now small [] (course_from (past_in decided))
course_of_an_act act = refl

-- a proposal of pass 4 is its application's, and so is a lock
course_of_a_proposal : course_of (app 4) (Propose 0 (firmware 3)) small [] (course_from (past_in decided)) ≡ course_from (past_in (then_by decided 4 (Submit (app 4) (firmware 3) ∷ [])))
course_of_a_proposal = refl

course_of_a_lock : course_of (app 4) (Lock 0 a1 Low) small [] (course_from (past_in decided)) ≡ course_from (past_in (then_by decided 4 (lock_event (app 4) a1 Low ∷ [])))
course_of_a_lock = refl

-- Works

one_hold : map is_of_one_hold each_act ≡ true ∷ false ∷ false ∷ true ∷ true ∷ false ∷ false ∷ true ∷ true ∷ []
one_hold = refl

deciding_acts : map act_may_decide each_act ≡ true ∷ false ∷ false ∷ false ∷ false ∷ false ∷ false ∷ false ∷ false ∷ []
deciding_acts = refl

deciding_works : (may_decide (Turn Whole a1) ≡ false) × (may_decide (Turn Update a1) ≡ false)
deciding_works = (refl, refl)

a_commit_decides : (judged : Bor JudgedView) → may_decide (Commit judged) ≡ true
a_commit_decides judged = refl

decides_as_its_act : (act : Bor Act) → may_decide (OneAct act) ≡ act_may_decide act.now
decides_as_its_act act = refl

-- what is published: what a withdrawal among the entries withdraws, and else what a check decides
abbrev withdrawn : Reply → Entry
withdrawn reply = record { event = Withdraw a1; reply = reply }

laid_rows : (laid_by [] (firmware 2) ≡ firmware 2) × (laid_by (idle ∷ lock 0 ∷ []) (firmware 2) ≡ firmware 2) × (laid_by (idle ∷ withdrawn (Withdrawn 2 (firmware 1)) ∷ idle ∷ []) [] ≡ firmware 1) × (laid_by (withdrawn Kept ∷ []) (firmware 2) ≡ firmware 2)
laid_rows = (refl, refl, refl, refl)

-- a turn of an entity of the group, any check, and an act that fits and needs one hold
pub turn_fits : WorkFits (Turn Whole a1) small
turn_fits = omega arith

pub not_of_another_entity : WorkFits (Turn Whole (Device 1)) small → ⊥
not_of_another_entity e = absurd (omega (arith, e))

pub not_of_a_link : WorkFits (Turn Monitor (Link 0)) small → ⊥
not_of_a_link e = absurd (omega (arith, e))

pub commit_fits : (judged : Bor JudgedView) → WorkFits (Commit judged) small
commit_fits judged = tt

-- a commit may be made of a ticket that was given, once each lower ticket is decided
pub may_commit : (judged : Bor JudgedView) → judged.now.ticket ≡ 1 → MayDo (Commit judged) (past_in proposed)
may_commit judged is = record { given = omega (arith, is); lower = omega (arith, is) }

pub not_of_a_later_ticket : (judged : Bor JudgedView) → judged.now.ticket ≡ 2 → MayDo (Commit judged) (past_in proposed) → ⊥
not_of_a_later_ticket judged is may = let few : judged.now.ticket ≤ 1 = may.given in absurd (omega (arith, is, few))

pub lock_fits : (act : Bor Act) → act.now ≡ Lock 0 a1 Low → WorkFits (OneAct act) small
lock_fits act is = rw is (omega arith, refl)

pub not_a_lock_elsewhere : (act : Bor Act) → act.now ≡ Lock 0 (Device 1) Low → WorkFits (OneAct act) small → ⊥
not_a_lock_elsewhere act is fits = let low : 1 < 1 = subst (λ (a : Act). ActFits a small) is fits.0 in absurd (omega (arith, low))

pub not_an_await : (act : Bor Act) → act.now ≡ Await 0 → WorkFits (OneAct act) small → ⊥
not_an_await act is fits = let no : false ≡ true = ap is_of_one_hold (sym is) ∙ fits.1 in absurd (cc no)

-- The entries of an act

-- a lock, which enters one
abbrev locked : List Made
locked = then_by decided 0 (lock_event (app 0) a1 Low ∷ [])

enters_lock : ActEnters (Lock 0 a1 Low) small [] 0 decided (0 ∷ []) locked (0 ∷ 2 ∷ [])
enters_lock = (decided, record { entries = entry_after small (past_in decided) (lock_event (app 0) a1 Low) ∷ []; puts = (([], refl), refl, refl); run = refl; full = λ e. absurd (cc e) })

-- what each of the others leaves behind the verdict
abbrev Leaves : Act → List Event → Type 0
Leaves act events = ActEnters act small [] 0 decided (0 ∷ []) (then_by decided 0 events) (0 ∷ numbers 2 (length events))

enters_unlock : Leaves (Unlock 0 a1 Low) (unlock_event (app 0) a1 Low ∷ [])
enters_unlock = (decided, record { entries = entry_after small (past_in decided) (unlock_event (app 0) a1 Low) ∷ []; puts = (([], refl), refl, refl); run = refl; full = λ e. absurd (cc e) })

enters_proposal : Leaves (Propose 0 (firmware 3)) (Submit (app 0) (firmware 3) ∷ [])
enters_proposal = (decided, record { entries = entry_after small (past_in decided) (Submit (app 0) (firmware 3)) ∷ []; puts = (([], refl), refl, refl); run = refl; full = λ e. absurd (cc e) })

enters_failure : Leaves (Fail 0 a1 2 []) (fail_event a1 usual 2 ∷ [])
enters_failure = (decided, record { entries = entry_after small (past_in decided) (fail_event a1 usual 2) ∷ []; puts = (([], refl), refl, refl); run = refl; full = λ e. absurd (cc e) })

abbrev reported : List Made
reported = then_by decided 0 (Report a1 ∷ [])

enters_poll : Leaves (Poll 0 a1) (Report a1 ∷ Hear 1 ∷ [])
enters_poll = (
  decided,
  record {
    entries = entry_after small (past_in decided) (Report a1) ∷ entry_after small (past_in reported) (Hear 1) ∷ [];
    puts = (([], refl), refl, refl);
    run = refl;
    full = λ e. absurd (cc e);
  },
)

-- an await is of the pass's latest ticket, and a settle makes rounds
enters_await : ActEnters (Await 0) small [] 0 proposed (0 ∷ []) checked (0 ∷ 1 ∷ [])
enters_await = (1, omega arith, one_check, omega arith)

enters_settle : ActEnters (Settle 0 1) small [] 0 decided (0 ∷ []) turned (0 ∷ 2 ∷ 3 ∷ 4 ∷ 5 ∷ 6 ∷ [])
enters_settle = as_many_as_asked

-- a read leaves all as it was, and a read of a version may see more
enters_read : ActEnters (Read 0 a1 Firmware) small [] 0 decided (0 ∷ []) decided (0 ∷ [])
enters_read = (refl, refl)

enters_read_at : ActEnters (ReadAt 0 1 a1 Firmware) small [] 0 proposed (0 ∷ []) decided (0 ∷ [])
enters_read_at = ((made 1 (entry_after small (past_in proposed) Check) ∷ [], refl), refl)

-- where no place was added, the course had nothing to enter
unlisted : (course : List Entry → Course) (mid before after : List Made) (was : List ℕ) → Enters course On 0 mid before was after was → (course (past_in after)).past ≡ past_in after
unlisted course mid before after was e =
    let places : length was ≡ length was + length (numbers (length mid) (length e.entries)) = ap length e.puts.2 ∙ length-append was (numbers (length mid) (length e.entries)) in
    let count : length after ≡ length mid + length (tagged 0 e.entries) = ap length e.puts.1 ∙ length-append mid (tagged 0 e.entries) in
    let numbered = length_numbers (length mid) (length e.entries) in
    let tags = length_tagged 0 e.entries in
    let same : mid ≡ after = prefix_whole mid after (tagged 0 e.entries, sym e.puts.1) (omega (arith, places, count, numbered, tags)) in
    ap (λ (f : List Made). (course (past_in f)).past) (sym same) ∙ ap (λ (run : Course). run.past) e.run

-- so an act of one hold enters something: it is not done where the pass has all that it had
abbrev Idles : Act → Type 0
Idles act = ActEnters act small [] 0 decided (0 ∷ []) decided (0 ∷ [])

abbrev course_by : Act → List Entry → Course
course_by act past = course_of (app 0) act small [] (course_from past)

pub not_an_idle_lock : Idles (Lock 0 a1 Low) → ⊥
not_an_idle_lock e = absurd (omega (arith, ap length (unlisted (course_by (Lock 0 a1 Low)) e.0 decided decided (0 ∷ []) e.1)))

pub not_an_idle_unlock : Idles (Unlock 0 a1 Low) → ⊥
not_an_idle_unlock e = absurd (omega (arith, ap length (unlisted (course_by (Unlock 0 a1 Low)) e.0 decided decided (0 ∷ []) e.1)))

pub not_an_idle_proposal : Idles (Propose 0 (firmware 3)) → ⊥
not_an_idle_proposal e = absurd (omega (arith, ap length (unlisted (course_by (Propose 0 (firmware 3))) e.0 decided decided (0 ∷ []) e.1)))

pub not_an_idle_failure : Idles (Fail 0 a1 2 []) → ⊥
not_an_idle_failure e = absurd (omega (arith, ap length (unlisted (course_by (Fail 0 a1 2 [])) e.0 decided decided (0 ∷ []) e.1)))

pub not_an_idle_poll : Idles (Poll 0 a1) → ⊥
not_an_idle_poll e = absurd (omega (arith, ap length (unlisted (course_by (Poll 0 a1)) e.0 decided decided (0 ∷ []) e.1)))

pub not_an_idle_settle : Idles (Settle 0 1) → ⊥
not_an_idle_settle e = not_a_round_less e

-- an await does not end while the latest ticket is pending
pub not_an_idle_await : ActEnters (Await 0) small [] 0 proposed (0 ∷ []) proposed (0 ∷ []) → ⊥
not_an_idle_await e = let early : 1 ≤ 0 = e.3 in absurd (omega (arith, early))

-- a read enters nothing, and sees nothing more of the journal; a read of a version goes not back, and enters nothing
pub not_a_read_that_sees : ActEnters (Read 0 a1 Firmware) small [] 0 proposed (0 ∷ []) decided (0 ∷ []) → ⊥
not_a_read_that_sees e = absurd (omega (arith, ap length e.0))

pub not_a_read_that_enters : ActEnters (Read 0 a1 Firmware) small [] 0 decided (0 ∷ []) decided (0 ∷ 2 ∷ []) → ⊥
not_a_read_that_enters e = absurd (cc (e.1))

pub not_a_read_back : ActEnters (ReadAt 0 1 a1 Firmware) small [] 0 decided (0 ∷ []) proposed (0 ∷ []) → ⊥
not_a_read_back e = absurd (omega (arith, prefix_length decided proposed e.0))

pub not_a_read_at_that_enters : ActEnters (ReadAt 0 1 a1 Firmware) small [] 0 decided (0 ∷ []) decided (0 ∷ 2 ∷ []) → ⊥
not_a_read_at_that_enters e = absurd (cc (e.1))

-- What an act logs and teaches

abbrev reader : List (List Row) → Published
reader proposals = record { book = no_reader.book; group = small; proposals = proposals; ended = false }

-- a pass with one room
abbrev pass : List Made → List ℕ → List (List Row) → List LogEntry → Holder
pass front mine proposals log = record { number = 0; fronts = front ∷ []; mines = mine ∷ []; readers = reader proposals ∷ []; log = log }

abbrev line : LogSaw → LogEntry
line saw = record { group = 0; entity = a1; var = Firmware; saw = saw }

-- the version and the value of the first line
abbrev version_of : LogSaw → ℕ
version_of (Seen version value) = version
version_of (At version value) = version
version_of (NoVersion asked latest) = asked

abbrev value_of : LogSaw → ℕ
value_of (Seen version value) = value
value_of (At version value) = value
value_of (NoVersion asked latest) = latest

abbrev version_in : List LogEntry → ℕ
version_in [] = 0
version_in (l ∷ ls) = version_of l.saw

abbrev value_in : List LogEntry → ℕ
value_in [] = 0
value_in (l ∷ ls) = value_of l.saw

-- a pass that has seen the verdict, and whose reader has the rows
abbrev old : Holder
old = pass decided (0 ∷ []) (firmware 2 ∷ []) []

-- a read sees the reader's front: its version, and the value there; the reader may have more than the pass has seen
pub reads_of_old : Reads small 0 a1 Firmware old (pass decided (0 ∷ []) (firmware 2 ∷ []) (line (Seen 1 2) ∷ []))
reads_of_old = record { later = ([], refl); log = refl }

pub reads_of_more : ActLogs (Read 0 a1 Firmware) small old (pass decided (0 ∷ []) (firmware 2 ∷ firmware 7 ∷ []) (line (Seen 2 7) ∷ []))
reads_of_more = record { later = (firmware 7 ∷ [], refl); log = refl }

-- the reader's front went back
pub not_read_back : Reads small 0 a1 Firmware old (pass decided (0 ∷ []) [] (line (Seen 0 1) ∷ [])) → ⊥
not_read_back r = absurd (cc (r.later.1))

-- another value or another version, no line, or one line too many
pub not_another_value : Reads small 0 a1 Firmware old (pass decided (0 ∷ []) (firmware 2 ∷ []) (line (Seen 1 1) ∷ [])) → ⊥
not_another_value r = absurd (omega (arith, ap value_in r.log))

pub not_another_version : Reads small 0 a1 Firmware old (pass decided (0 ∷ []) (firmware 2 ∷ []) (line (Seen 2 2) ∷ [])) → ⊥
not_another_version r = absurd (omega (arith, ap version_in r.log))

pub not_unlogged : Reads small 0 a1 Firmware old old → ⊥
not_unlogged r = absurd (cc (r.log))

-- a read of a version logs the journal's value there, or that there is no such version
pub reads_at_1 : ActLogs (ReadAt 0 1 a1 Firmware) small old (pass decided (0 ∷ []) (firmware 2 ∷ []) (line (At 1 2) ∷ []))
reads_at_1 = refl

pub reads_at_0 : ActLogs (ReadAt 0 0 a1 Firmware) small old (pass decided (0 ∷ []) (firmware 2 ∷ []) (line (At 0 1) ∷ []))
reads_at_0 = refl

pub reads_at_3 : ActLogs (ReadAt 0 3 a1 Firmware) small old (pass decided (0 ∷ []) (firmware 2 ∷ []) (line (NoVersion 3 1) ∷ []))
reads_at_3 = refl

pub not_at_another_value : ActLogs (ReadAt 0 1 a1 Firmware) small old (pass decided (0 ∷ []) (firmware 2 ∷ []) (line (At 1 1) ∷ [])) → ⊥
not_at_another_value e = absurd (omega (arith, ap value_in e))

-- an act that reads nothing logs nothing
pub logs_nothing : ActLogs (Poll 0 a1) small old old
logs_nothing = refl

pub not_logged : ActLogs (Poll 0 a1) small old (pass decided (0 ∷ []) (firmware 2 ∷ []) (line (Seen 1 2) ∷ [])) → ⊥
not_logged e = absurd (cc e)

-- what the front accepts begins what the reader has
pub taught : IsTaught (pass decided (0 ∷ []) (firmware 2 ∷ firmware 7 ∷ []) []) 0
taught = (firmware 7 ∷ [], refl)

pub not_untaught : IsTaught (pass decided (0 ∷ []) [] []) 0 → ⊥
not_untaught t = absurd (cc (t.1))

-- a read, which takes no lock, teaches nothing
pub a_read_teaches_nothing : ActTeaches (Read 0 a1 Firmware) (pass decided (0 ∷ []) [] [])
a_read_teaches_nothing = tt

pub not_an_untaught_lock : ActTeaches (Lock 0 a1 Low) (pass locked (0 ∷ 2 ∷ []) [] []) → ⊥
not_an_untaught_lock t = absurd (cc (t.1))

-- An act that is done, in all its points

pub lock_done : ActDone (Lock 0 a1 Low) small [] old (pass locked (0 ∷ 2 ∷ []) (firmware 2 ∷ []) [])
lock_done = record { entered = enters_lock; logged = refl; taught = ([], refl) }

pub not_done_unlisted : ActDone (Lock 0 a1 Low) small [] old (pass locked (0 ∷ []) (firmware 2 ∷ []) []) → ⊥
not_done_unlisted d = let e = d.entered in absurd (omega (arith, ap length (unlisted (course_by (Lock 0 a1 Low)) e.0 decided locked (0 ∷ []) e.1)))

pub not_logged_lock : ActLogs (Lock 0 a1 Low) small old (pass locked (0 ∷ 2 ∷ []) (firmware 2 ∷ []) (line (Seen 1 2) ∷ [])) → ⊥
not_logged_lock e = absurd (cc e)

pub not_done_with_a_line : ActDone (Lock 0 a1 Low) small [] old (pass locked (0 ∷ 2 ∷ []) (firmware 2 ∷ []) (line (Seen 1 2) ∷ [])) → ⊥
not_done_with_a_line d = not_logged_lock d.logged

pub not_done_untaught : ActDone (Lock 0 a1 Low) small [] old (pass locked (0 ∷ 2 ∷ []) [] []) → ⊥
not_done_untaught d = not_an_untaught_lock d.taught

-- the answers
pub answers_done : Acts Done (Lock 0 a1 Low) small [] old (pass locked (0 ∷ 2 ∷ []) (firmware 2 ∷ []) [])
answers_done = lock_done

pub not_answered_done : Acts Done (Lock 0 a1 Low) small [] old old → ⊥
not_answered_done d = not_an_idle_lock d.entered

-- a full journal is one that the pass has seen, of which its reader is taught
abbrev at_full : List Made → List (List Row) → List LogEntry → Holder
at_full after proposals log = pass after (0 ∷ []) proposals log

pub answers_full : (after : List Made) → length after ≡ MAX_ENTRIES → overlays (past_in after) ≡ firmware 2 ∷ [] → Acts (JournalFull 0) (Lock 0 a1 Low) small [] old (at_full after (firmware 2 ∷ []) [])
answers_full after full same = (refl, record { enters = tt; full = full; taught = ([], ap (λ ps. ps ++ []) same); logged = refl })

-- another group's number, a journal that has room, or a line in the log
pub not_full_elsewhere : (after : List Made) → Acts (JournalFull 1) (Lock 0 a1 Low) small [] old (at_full after (firmware 2 ∷ []) []) → ⊥
not_full_elsewhere after d = absurd (omega (arith, d.0))

pub not_full_with_room : Acts (JournalFull 0) (Lock 0 a1 Low) small [] old old → ⊥
not_full_with_room d = absurd (omega (arith, d.1.full))

pub not_full_with_a_line : (after : List Made) → Acts (JournalFull 0) (Lock 0 a1 Low) small [] old (at_full after (firmware 2 ∷ []) (line (Seen 1 2) ∷ [])) → ⊥
not_full_with_a_line after d = absurd (cc (d.1.logged))

-- a reader that lacks what the journal accepts
pub not_full_untaught : (after : List Made) → overlays (past_in after) ≡ firmware 2 ∷ [] → Acts (JournalFull 0) (Lock 0 a1 Low) small [] old (at_full after [] []) → ⊥
not_full_untaught after same d =
    let more : firmware 2 ∷ d.1.taught.0 ≡ [] = ap (λ ps. ps ++ d.1.taught.0) (sym same) ∙ d.1.taught.1 in
    absurd (cc more)

-- of an act that only reads
pub not_full_by_a_read : (new : Holder) → Acts (JournalFull 0) (Read 0 a1 Firmware) small [] old new → ⊥
not_full_by_a_read new d = d.1.enters

pub not_full_by_a_read_at : (new : Holder) → Acts (JournalFull 0) (ReadAt 0 1 a1 Firmware) small [] old new → ⊥
not_full_by_a_read_at new d = d.1.enters

-- Acts that may be done

abbrev groups : ℕ → Group
groups k = small

pub can_settle : CanDo groups 1 (Settle 0 1)
can_settle = (omega arith, tt, omega arith)

pub can_lock : CanDo groups 1 (Lock 0 a1 Low)
can_lock = (omega arith, omega arith, tt)

-- on a room that is not there, on an entity that is not there, without a round, and over two groups
pub not_in_no_room : CanDo groups 1 (Lock 1 a1 Low) → ⊥
not_in_no_room c = absurd (omega (arith, c.0))

pub not_on_no_entity : CanDo groups 1 (Lock 0 (Device 1) Low) → ⊥
not_on_no_entity c = absurd (omega (arith, c.1))

pub not_without_a_round : CanDo groups 1 (Settle 0 0) → ⊥
not_without_a_round c = absurd (omega (arith, c.2))

pub not_a_span : CanDo groups 2 (Span 0 (firmware 2) 1 (firmware 3)) → ⊥
not_a_span c = c.1

pub has_rounds : HasRounds (Await 0) × HasRounds (Settle 0 1)
has_rounds = (tt, omega arith)

pub has_no_rounds : HasRounds (Settle 0 0) → ⊥
has_no_rounds h = absurd (omega (arith, h))
