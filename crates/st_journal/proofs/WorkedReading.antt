-- Lines of journals, computed: what each gives, or its kind of fault.
use Rattle.std.proofs.Common.{◌≡◌, ℕ, List, [], ◌∷◌, Some, None, refl}
use Rattle.std.specs.Prelude.{Bool, true, false, codes, Result, Ok, Err}
use Rattle.std.specs.List.{AllByRecursion}
use Rattle.st_net.specs.declared.entity.AppId.{AppId}
use Rattle.st_net.specs.declared.entity.Entity.{Entity}
use Rattle.st_net.specs.declared.entity.Entity.TheVariants.{Device, Link}
use Rattle.st_net.specs.declared.entity.Prio.TheVariants.{Low, High}
use Rattle.st_net.specs.declared.entity.Row.{Row}
use Rattle.st_net.specs.declared.entity.Var.TheVariants.{Firmware, Routing}
use Rattle.st_net.specs.declared.promise.BrokenKind.TheVariants.{Short}
use Rattle.st_net.specs.declared.promise.BrokenOf.TheVariants.{Promise as of_promise}
use Rattle.st_net.specs.declared.topo.DeviceOpening.{DeviceOpening}
use Rattle.st_net.specs.Groups.{Group, no_group}
use Rattle.st_event.specs.declared.event.Event.{Event}
use Rattle.st_event.specs.declared.event.Event.TheVariants.{Submit, Check, Lock, Unlock, Send, Deliver, Finish, Report as make_report, Hear, Fail, Withdraw}
use Rattle.st_event.specs.declared.reply.Lack.TheVariants.{Level, PowerOff}
use Rattle.st_event.specs.declared.reply.Cause.TheVariants.{NotControllable, Locked, Broken as broken_cause}
use Rattle.st_event.specs.declared.reply.Verdict.{Verdict}
use Rattle.st_event.specs.declared.reply.Verdict.TheVariants.{Accepted, Refused}
use Rattle.st_event.specs.declared.reply.Reply.{Reply}
use Rattle.st_event.specs.declared.reply.Reply.TheVariants.{Queued, Decided, Idle, Granted, Held, NotYours, Sent, Blocked, Begun, NoSuch, Done, Reported, Taken, Changed, Withdrawn, Kept}
use Rattle.st_event.specs.declared.journal.Entry.{Entry}
use Rattle.st_event.specs.declared.journal.Journal.{Journal}
use Rattle.st_token.specs.declared.fault.FaultKind.{FaultKind}
use Rattle.st_token.specs.declared.fault.FaultKind.TheVariants as kinds
use Rattle.st_token.specs.Spelling.{known_name_in, entity_in, number_within}
use Rattle.st_token.specs.Variables.{set_in, unset_in, number_of_var_in, dotted_in, undotted_in, new_assignment_in, rows_in}
use Rattle.st_journal.specs.EntryWords.{event_named, reply_named, verdict_named, cause_named}
use Rattle.st_journal.specs.EventReading.{app_in, vals_in, submit_of, check_of, lock_of, unlock_of, send_of, finish_of, report_of, deliver_of, hear_of, fail_of, withdraw_of}
use Rattle.st_journal.specs.ReplyReading.{holder_in, device_in, two_told_in, devices_in, side_in, cut_behind, row_of_in, level_of, off_of, locked_of, ends_in, broken_of, one_number_in, accepted_of, refused_of, receipt_of, bare_of, held_of, notyours_of, blocked_of, own_row_in, own_rows_in, withdrawn_of}
use Rattle.st_journal.specs.EntryReading.{parts_of, event_part_of, reply_part_of, entry_of}
use Rattle.st_journal.specs.JournalLines.{JournalDraft, nothing, journal_line, entry_in, entry_line, line_of}

abbrev device : Bool → DeviceOpening
device tor = record { tor = tor; vals = record { v0 = 1; v1 = 1; v2 = 1; v3 = 1 }; health = 5 }

-- two ToRs with a promise between them, a switch and a link
abbrev q : Group
q = record no_group {
  name = codes "dc1";
  device_names = codes "t1" ∷ codes "t2" ∷ codes "a1" ∷ [];
  link_names = codes "l1" ∷ [];
  devices = device true ∷ device true ∷ device false ∷ [];
  links = record { a = 0; b = 2; capacity = 10; vals = record { v0 = 1; v1 = 1; v2 = 0; v3 = 0 }; health = 1 } ∷ [];
  promises = record { a = 0; b = 1; percent = 50 } ∷ [];
}

abbrev other : Group
other = record no_group { name = codes "dc2" }

abbrev apps : List (List ℕ)
apps = codes "te" ∷ codes "up" ∷ []

abbrev up : AppId
up = record { 0 = 1 }

-- nothing was read, and the first group's journal is begun, with these entries
abbrev start : JournalDraft
start = nothing (q ∷ other ∷ []) apps

abbrev begun : List Entry → JournalDraft
begun entries = record { groups = q ∷ other ∷ []; apps = apps; ended = []; begun = Some entries }

abbrev entry : Event → Reply → Result JournalDraft FaultKind
entry event reply = Ok (begun (record { event = event; reply = reply } ∷ []))

-- a line behind a draft, and what it gives
record Line : Type 0 where
  before : JournalDraft
  text : List ℕ
  gives : Result JournalDraft FaultKind

abbrev behind : JournalDraft → List ℕ → Result JournalDraft FaultKind → Line
behind before text gives = record { before = before; text = text; gives = gives }

abbrev first : List ℕ → Event → Reply → Line
first text event reply = behind (begun []) text (entry event reply)

abbrev bad : List ℕ → FaultKind → Line
bad text kind = behind (begun []) text (Err kind)

abbrev IsSo : Line → Type 0
IsSo line = line_of line.before line.text ≡ line.gives

abbrev a1 : Entity
a1 = Device 2

abbrev firmware : ℕ → Row
firmware n = record { entity = a1; var = Firmware; value = n }

abbrev events : List Line
events =
    first (codes "1 submit up a1.firmware=2 : queued 1") (Submit up (firmware 2 ∷ [])) (Queued 1) ∷
    first (codes "1 check : idle") Check Idle ∷
    first (codes "1 lock up a1 low : granted") (Lock up a1 Low) Granted ∷
    first (codes "1 unlock up l1 high : notyours -") (Unlock up (Link 0) High) (NotYours None) ∷
    first (codes "1 send a1 : sent 1") (Send a1) (Sent 1) ∷
    first (codes "1 deliver 1 : begun") (Deliver 1) Begun ∷
    first (codes "1 finish a1 : done") (Finish a1) Done ∷
    first (codes "1 report a1 : reported 1") (make_report a1) (Reported 1) ∷
    first (codes "1 hear 1 : taken") (Hear 1) Taken ∷
    first (codes "1 fail l1 0 power=0 iface=7 : changed") (Fail (Link 0) (record { v0 = 0; v1 = 7; v2 = 0; v3 = 0 }) 0) Changed ∷ []

pub events_read : AllByRecursion IsSo events
unfolding known_name_in entity_in number_within set_in unset_in number_of_var_in dotted_in undotted_in new_assignment_in rows_in event_named reply_named app_in vals_in submit_of check_of lock_of unlock_of send_of finish_of report_of deliver_of hear_of fail_of holder_in one_number_in bare_of notyours_of parts_of event_part_of reply_part_of entry_of entry_in entry_line line_of
events_read = (refl, (refl, (refl, (refl, (refl, (refl, (refl, (refl, (refl, (refl, tt))))))))))

abbrev decided : Verdict → Reply
decided verdict = Decided (record { ticket = 1; entry = 1; verdict = verdict })

abbrev replies : List Line
replies =
    first (codes "1 check : receipt 1 accepted 1") Check (decided (Accepted 1)) ∷
    first (codes "1 check : receipt 1 refused off a1.firmware=2") Check (decided (Refused (NotControllable (firmware 2) PowerOff))) ∷
    first (codes "1 check : receipt 1 refused level a1.firmware=2 of t1 has 1 needs 2") Check (decided (Refused (NotControllable (firmware 2) (Level (Device 0) 1 2)))) ∷
    first (codes "1 check : receipt 1 refused locked l1 te high") Check (decided (Refused (Locked (Link 0) (record { 0 = 0 }) High))) ∷
    first (codes "1 check : receipt 1 refused broken t1 t2 short need 10 has 5 side t1 a1") Check (decided (Refused (broken_cause (record { of = of_promise 0; kind = Short; need = 10; has = 5; side = 0 ∷ 2 ∷ [] })))) ∷
    first (codes "1 lock up a1 low : held te") (Lock up a1 Low) (Held (record { 0 = 0 })) ∷
    first (codes "1 send a1 : blocked a1.firmware=2") (Send a1) (Blocked (firmware 2)) ∷
    first (codes "1 hear 9 : nosuch 1") (Hear 9) (NoSuch 1) ∷ []

pub replies_read : AllByRecursion IsSo replies
unfolding known_name_in entity_in number_within set_in unset_in dotted_in undotted_in event_named reply_named verdict_named cause_named app_in check_of lock_of send_of hear_of holder_in device_in two_told_in devices_in side_in cut_behind row_of_in level_of off_of locked_of ends_in broken_of one_number_in accepted_of refused_of receipt_of bare_of held_of blocked_of parts_of event_part_of reply_part_of entry_of entry_in entry_line line_of
replies_read = (refl, (refl, (refl, (refl, (refl, (refl, (refl, (refl, tt))))))))

abbrev empty : ℕ → Journal
empty n = record { group = n; entries = [] }

-- journals begin, lines are skipped, and bad lines have their kinds
abbrev lines : List Line
lines =
    behind start (codes "journal dc1") (Ok (begun [])) ∷
    behind start (codes "journal dc2") (Ok (record { groups = q ∷ other ∷ []; apps = apps; ended = empty 0 ∷ []; begun = Some [] })) ∷
    behind (begun []) (codes "# nothing") (Ok (begun [])) ∷
    behind (begun []) (codes " ") (Ok (begun [])) ∷
    behind start (codes "1 check : idle") (Err kinds.Word) ∷
    bad (codes "group dc1") kinds.Word ∷
    bad (codes "journal") kinds.Count ∷
    bad (codes "journal 1dc") kinds.Name ∷
    bad (codes "journal dc9") kinds.Unknown ∷
    bad (codes "journal dc1") kinds.Twice ∷ []

pub lines_read : AllByRecursion IsSo lines
unfolding known_name_in journal_line entry_in entry_line line_of
lines_read = (refl, (refl, (refl, (refl, (refl, (refl, (refl, (refl, (refl, (refl, tt))))))))))

-- the kinds of entries, each by a line that has later ones too
abbrev faults : List Line
faults =
    bad (codes "1 check idle") kinds.Count ∷
    bad (codes "1 foo : granted x") kinds.Count ∷
    bad (codes "2 foo : bar") kinds.Number ∷
    bad (codes "01 check : idle") kinds.Number ∷
    bad (codes "1 check : changed") kinds.Value ∷
    bad (codes "1 send b1 : settled") kinds.Unknown ∷
    bad (codes "1 submit up a1.power=1 a1.power=0 : queued x") kinds.Twice ∷
    bad (codes "1 fail l1 0 iface=x power=0 : changed") kinds.Value ∷
    bad (codes "1 fail l1 0 power=0 : changed") kinds.Value ∷
    bad (codes "1 check : receipt x maybe 1") kinds.Number ∷
    bad (codes "1 check : receipt 1 refused broken t2 t1 cutoff need 10 has 0 side a1 t1") kinds.Twice ∷
    bad (codes "1 check : receipt 1 refused broken t2 t1 cutoff need 10 has 0 side t1 a1") kinds.Pair ∷ []

pub faults_read : AllByRecursion IsSo faults
unfolding known_name_in entity_in number_within set_in unset_in number_of_var_in dotted_in undotted_in new_assignment_in rows_in event_named reply_named verdict_named cause_named app_in vals_in submit_of check_of lock_of unlock_of send_of fail_of device_in two_told_in devices_in side_in cut_behind ends_in broken_of one_number_in refused_of receipt_of bare_of parts_of event_part_of reply_part_of entry_of entry_in entry_line line_of
faults_read = (refl, (refl, (refl, (refl, (refl, (refl, (refl, (refl, (refl, (refl, (refl, (refl, tt))))))))))))

-- a withdrawal has one row at least, and its rows are of the event's entity and in the order of variables: each is looked at before the next
abbrev rows_back : List Row
rows_back = firmware 1 ∷ record { entity = a1; var = Routing; value = 1 } ∷ []

abbrev withdrawals : List Line
withdrawals =
    first (codes "1 withdraw a1 : kept") (Withdraw a1) Kept ∷
    first (codes "1 withdraw a1 : withdrawn 2 a1.firmware=1") (Withdraw a1) (Withdrawn 2 (firmware 1 ∷ [])) ∷
    first (codes "1 withdraw a1 : withdrawn 2 a1.firmware=1 a1.routing=1") (Withdraw a1) (Withdrawn 2 rows_back) ∷
    bad (codes "1 withdraw a1 : withdrawn 2") kinds.Count ∷
    bad (codes "1 withdraw : kept") kinds.Count ∷
    bad (codes "1 withdraw a1 : withdrawn x a9.firmware=1") kinds.Number ∷
    bad (codes "1 withdraw a1 : withdrawn 2 t1.firmware=1 a9.firmware=1") kinds.Value ∷
    bad (codes "1 withdraw a1 : withdrawn 2 a1.routing=1 a1.firmware=1") kinds.Value ∷
    bad (codes "1 withdraw a1 : withdrawn 2 a1.firmware=1 a1.firmware=1") kinds.Value ∷
    bad (codes "1 send a1 : kept") kinds.Value ∷ []

pub withdrawals_read : AllByRecursion IsSo withdrawals
unfolding known_name_in entity_in number_within set_in unset_in dotted_in undotted_in event_named reply_named app_in withdraw_of send_of own_row_in own_rows_in withdrawn_of bare_of parts_of event_part_of reply_part_of entry_of entry_in entry_line line_of
withdrawals_read = (refl, (refl, (refl, (refl, (refl, (refl, (refl, (refl, (refl, (refl, tt))))))))))
