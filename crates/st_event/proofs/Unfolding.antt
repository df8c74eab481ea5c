-- What one more entry makes of each definition that looks back: first for any entry, then for the events that move it.
use Rattle.std.proofs.Common.{◌≡◌, ℕ, ◌+◌, ◌≤◌, List, [], ◌∷◌, ◌++◌, length, Some, refl}
use Rattle.std.specs.Prelude.{◌&&◌, ◌||◌, not, nat_le, nat_lt, if◌then◌else◌}
use Rattle.std.proofs.lemmas.List.{drop-append-le}
use Rattle.st_net.specs.declared.entity.AppId.{AppId}
use Rattle.st_net.specs.declared.entity.Entity.{Entity}
use Rattle.st_net.specs.declared.entity.Prio.{Prio}
use Rattle.st_net.specs.declared.entity.Row.{Row}
use Rattle.st_net.specs.declared.entity.Vals.{Vals}
use Rattle.st_event.specs.declared.event.Event.TheVariants.{Submit, Check, Lock, Unlock, Send, Deliver, Finish, Report as make_report, Hear, Fail}
use Rattle.st_event.specs.declared.event.Proposal.{Proposal}
use Rattle.st_event.specs.declared.reply.Reply.{Reply}
use Rattle.st_event.specs.declared.reply.Reply.TheVariants.{Queued, Decided, Granted, Released, Sent, Taken}
use Rattle.st_event.specs.declared.reply.Receipt.{Receipt}
use Rattle.st_event.specs.declared.journal.Entry.{Entry}
use Rattle.st_net.specs.Entities.{is_same_entity}
use Rattle.st_net.specs.Groups.{Group}
use Rattle.st_net.specs.Holders.{holder_set, holder_freed}
use Rattle.st_net.specs.Merge.{vals_in}
use Rattle.st_net.specs.Numbered.{nth}
use Rattle.st_event.specs.Proposals.{proposals_after, proposals, verdicts_after, verdicts, pending, first_rows, overlay_in, overlays, with_overlay, target}
use Rattle.st_event.specs.Locks.{holder_after, holder}
use Rattle.st_event.specs.Moments.{heard, is_altered_by, told, command_of, renews, is_taken, fence_after, begins, work_after, vals_after, health_after, is_finish_of, is_report_of, is_fail_of, commands_after, reports_after, stamp, commands, fence, busy, work, vals, health, number, reports}
use Rattle.st_net.specs.Reports.{later_report}
use Rattle.st_event.specs.Observed.{observed, failed_between, failed_since}
use Rattle.st_event.specs.Past.{is_spoiled, target_at}
use Rattle.st_event.proofs.Made.{command_now, report_now}
use Rattle.st_event.proofs.Queues.{drop-verdict}
use Rattle.st_event.proofs.Targets.{IsOrderly}
use Rattle.st_event.proofs.Promises.{entry_of}
use Rattle.st_event.proofs.History.{past_stays}

-- any entry

pub proposals-next : (past : List Entry) (entry : Entry) → proposals (entry ∷ past) ≡ proposals_after entry.event entry.reply (proposals past)
proposals-next past entry = refl

pub verdicts-next : (past : List Entry) (entry : Entry) → verdicts (entry ∷ past) ≡ verdicts_after entry.event entry.reply (verdicts past)
verdicts-next past entry = refl

pub holder-next : (past : List Entry) (entry : Entry) → holder (entry ∷ past) ≡ holder_after entry.event entry.reply (holder past)
holder-next past entry = refl

pub stamp-next : (g : Group) (past : List Entry) (entry : Entry) (e : Entity) → stamp g (entry ∷ past) e ≡ (if is_altered_by g (target g past) (overlay_in entry.event entry.reply (first_rows (pending past))) e || (is_taken entry.reply && renews (heard entry.event (nth (reports g past))) e (stamp g past e) (vals_in g (target g past) e)) then length past + 1 else stamp g past e)
stamp-next g past entry e = refl

pub overlays-next : (past : List Entry) (entry : Entry) → overlays (entry ∷ past) ≡ with_overlay (overlay_in entry.event entry.reply (first_rows (pending past))) (overlays past)
overlays-next past entry = refl

pub commands-next : (g : Group) (past : List Entry) (entry : Entry) → commands g (entry ∷ past) ≡ commands_after entry.event entry.reply (command_now g past) (commands g past)
commands-next g past entry = refl

pub reports-next : (g : Group) (past : List Entry) (entry : Entry) → reports g (entry ∷ past) ≡ reports_after entry.event (report_now g past) (reports g past)
reports-next g past entry = refl

pub fence-next : (g : Group) (past : List Entry) (entry : Entry) (e : Entity) → fence g (entry ∷ past) e ≡ fence_after (told e entry.event (nth (commands g past))) (fence g past e)
fence-next g past entry e = refl

pub busy-next : (g : Group) (past : List Entry) (entry : Entry) (e : Entity) → busy g (entry ∷ past) e ≡ (begins (told e entry.event (nth (commands g past))) (fence g past e) || (busy g past e && not (is_finish_of e entry.event)))
busy-next g past entry e = refl

pub work-next : (g : Group) (past : List Entry) (entry : Entry) (e : Entity) → work g (entry ∷ past) e ≡ work_after (told e entry.event (nth (commands g past))) (fence g past e) (work g past e)
work-next g past entry e = refl

pub vals-next : (g : Group) (past : List Entry) (entry : Entry) (e : Entity) → vals g (entry ∷ past) e ≡ vals_after entry.event e (busy g past e) (work g past e) (vals g past e)
vals-next g past entry e = refl

pub health-next : (g : Group) (past : List Entry) (entry : Entry) (e : Entity) → health g (entry ∷ past) e ≡ health_after entry.event e (health g past e)
health-next g past entry e = refl

pub number-next : (past : List Entry) (entry : Entry) (e : Entity) → number (entry ∷ past) e ≡ (if is_report_of e entry.event then number past e + 1 else number past e)
number-next past entry e = refl

pub observed-next : (g : Group) (past : List Entry) (entry : Entry) (e : Entity) → observed g (entry ∷ past) e ≡ later_report e (heard entry.event (nth (reports g past))) (observed g past e)
observed-next g past entry e = refl

pub failed_between-next : (past : List Entry) (entry : Entry) (e : Entity) (from to : ℕ) → failed_between (entry ∷ past) e from to ≡ ((is_fail_of e entry.event && nat_le from (number past e) && nat_lt (number past e) to) || failed_between past e from to)
failed_between-next past entry e from to = refl

pub failed_since-next : (past : List Entry) (entry : Entry) (e : Entity) (from : ℕ) → failed_since (entry ∷ past) e from ≡ ((is_fail_of e entry.event && nat_le from (number past e)) || failed_since past e from)
failed_since-next past entry e from = refl

pub is_spoiled-next : (g : Group) (past : List Entry) (entry : Entry) (e : Entity) → is_spoiled g (entry ∷ past) e ≡ (is_fail_of e entry.event || (is_spoiled g past e && not (is_finish_of e entry.event && busy g past e)))
is_spoiled-next g past entry e = refl

pub target_at-next : (g : Group) (past : List Entry) (entry : Entry) (s : ℕ) (e : Entity) → s ≤ length past → target_at g (entry ∷ past) s e ≡ target_at g past s e
target_at-next g past entry s e low = past_stays g past entry s e low

-- the queue

pub proposals-queued : (past : List Entry) (app : AppId) (rows : List Row) (ticket : ℕ) → proposals (entry_of (Submit app rows) (Queued ticket) ∷ past) ≡ proposals past ++ record { app = app; rows = rows } ∷ []
proposals-queued past app rows ticket = refl

pub pending-queued : (past : List Entry) (app : AppId) (rows : List Row) (ticket : ℕ) → IsOrderly past → pending (entry_of (Submit app rows) (Queued ticket) ∷ past) ≡ pending past ++ record { app = app; rows = rows } ∷ []
pending-queued past app rows ticket orderly = let few = orderly.few in rw drop-append-le refl

pub verdicts-decided : (past : List Entry) (receipt : Receipt) → verdicts (entry_of Check (Decided receipt) ∷ past) ≡ verdicts past ++ receipt.verdict ∷ []
verdicts-decided past receipt = refl

pub pending-decided : (past : List Entry) (receipt : Receipt) (p : Proposal) (rest : List Proposal) → pending past ≡ p ∷ rest → pending (entry_of Check (Decided receipt) ∷ past) ≡ rest
pending-decided past receipt p rest first = drop-verdict (proposals past) rest (verdicts past) receipt.verdict p first

-- the locks

pub holder-granted : (past : List Entry) (app : AppId) (e : Entity) (prio : Prio) → holder (entry_of (Lock app e prio) Granted ∷ past) ≡ holder_set (holder past) e prio (Some app)
holder-granted past app e prio = refl

pub holder-released : (past : List Entry) (app : AppId) (e : Entity) (prio : Prio) → holder (entry_of (Unlock app e prio) Released ∷ past) ≡ holder_freed (holder past) e prio app
holder-released past app e prio = refl

-- messages and agents

pub commands-sent : (g : Group) (past : List Entry) (e : Entity) (n : ℕ) → commands g (entry_of (Send e) (Sent n) ∷ past) ≡ commands g past ++ command_now g past e ∷ []
commands-sent g past e n = refl

pub reports-made : (g : Group) (past : List Entry) (e : Entity) (answer : Reply) → reports g (entry_of (make_report e) answer ∷ past) ≡ reports g past ++ report_now g past e ∷ []
reports-made g past e answer = refl

pub fence-delivered : (g : Group) (past : List Entry) (n : ℕ) (answer : Reply) (e : Entity) → fence g (entry_of (Deliver n) answer ∷ past) e ≡ fence_after (command_of e (nth (commands g past) n)) (fence g past e)
fence-delivered g past n answer e = refl

pub work-delivered : (g : Group) (past : List Entry) (n : ℕ) (answer : Reply) (e : Entity) → work g (entry_of (Deliver n) answer ∷ past) e ≡ work_after (command_of e (nth (commands g past) n)) (fence g past e) (work g past e)
work-delivered g past n answer e = refl

pub busy-finished : (g : Group) (past : List Entry) (at : Entity) (answer : Reply) (e : Entity) → busy g (entry_of (Finish at) answer ∷ past) e ≡ (busy g past e && not (is_same_entity at e))
busy-finished g past at answer e = refl

pub vals-finished : (g : Group) (past : List Entry) (at : Entity) (answer : Reply) (e : Entity) → vals g (entry_of (Finish at) answer ∷ past) e ≡ (if is_same_entity at e && busy g past e then work g past e else vals g past e)
vals-finished g past at answer e = refl

pub vals-failed : (g : Group) (past : List Entry) (at : Entity) (new : Vals) (level : ℕ) (answer : Reply) (e : Entity) → vals g (entry_of (Fail at new level) answer ∷ past) e ≡ (if is_same_entity at e then new else vals g past e)
vals-failed g past at new level answer e = refl

pub health-failed : (g : Group) (past : List Entry) (at : Entity) (new : Vals) (level : ℕ) (answer : Reply) (e : Entity) → health g (entry_of (Fail at new level) answer ∷ past) e ≡ (if is_same_entity at e then level else health g past e)
health-failed g past at new level answer e = refl

pub observed-heard : (g : Group) (past : List Entry) (n : ℕ) (answer : Reply) (e : Entity) → observed g (entry_of (Hear n) answer ∷ past) e ≡ later_report e (nth (reports g past) n) (observed g past e)
observed-heard g past n answer e = refl

pub stamp-renewed : (g : Group) (past : List Entry) (n : ℕ) (e : Entity) → stamp g (entry_of (Hear n) Taken ∷ past) e ≡ (if renews (nth (reports g past) n) e (stamp g past e) (vals_in g (target g past) e) then length past + 1 else stamp g past e)
stamp-renewed g past n e = refl
