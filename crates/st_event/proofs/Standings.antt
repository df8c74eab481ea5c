-- One entry more moves the standing by one step.
use Rattle.std.proofs.Common.{◌≡◌, ℕ, ◌+◌, ◌≤◌, List, [], ◌∷◌, length, Option, Some, None, refl, sym, ap, ◌∙◌, length-append}
use Rattle.std.proofs.lemmas.List.{drop-append-le}
use Rattle.std.proofs.Math.Bool.{and-false, or-false}
use Rattle.std.specs.Prelude.{Bool, true, false, ◌&&◌, if◌then◌else◌}
use mathlib.Core.Path.{fun_ext}
use Rattle.st_net.specs.declared.entity.AppId.{AppId}
use Rattle.st_net.specs.declared.entity.Row.{Row}
use Rattle.st_net.specs.declared.entity.Var.{Var}
use Rattle.st_net.specs.declared.entity.Vals.{Vals}
use Rattle.st_net.specs.declared.entity.Entity.{Entity}
use Rattle.st_event.specs.declared.event.Proposal.{Proposal}
use Rattle.st_event.specs.declared.reply.Receipt.{Receipt}
use Rattle.st_net.specs.declared.message.Command.{Command}
use Rattle.st_net.specs.declared.message.Report.{Report}
use Rattle.st_event.specs.declared.reply.Verdict.{Verdict}
use Rattle.st_event.specs.declared.event.Event.{Event}
use Rattle.st_event.specs.declared.event.Event.TheVariants.{Submit, Check, Finish, Hear, Withdraw}
use Rattle.st_event.specs.declared.reply.Reply.{Reply}
use Rattle.st_event.specs.declared.reply.Reply.TheVariants.{Queued, Decided}
use Rattle.st_event.specs.declared.journal.Entry.{Entry}
use Rattle.st_net.specs.Groups.{Group}
use Rattle.st_net.specs.Merge.{merge_of, vals_in, alters}
use Rattle.st_event.specs.Proposals.{is_accepted, makes_version, proposals, verdicts, verdicts_after, deciders, deciders_after, pending, overlays, overlay_in, with_overlay, version, target, first_rows}
use Rattle.st_net.specs.Numbered.{nth}
use Rattle.st_event.specs.Moments.{heard, is_taken, renews, stamp, commands, reports, busy, work, reports_after}
use Rattle.st_event.specs.Observed.{observed}
use Rattle.st_event.specs.Replies.{reply, check_reply, receipt_of}
use Rattle.st_event.specs.Legal.{IsLegal, IsNext}
use Rattle.st_net.specs.Agents.{Agent, is_at_work}
use Rattle.st_event.specs.Standing.{Standing, Wires, standing_of, wires_of, reply_in, check_reply_in, standing_after, wires_after, dequeue_one, overlay_one, decide_one, hear_one, made_report}
use Rattle.st_event.specs.Receipts.{rows_withdrawn}
use Rattle.st_net.proofs.MergeLaws.{merge_of-push_all}
use Rattle.st_event.proofs.Queues.{drop-verdict}
use Rattle.st_event.proofs.Targets.{IsOrderly, legal_orderly, overlay_none}
use Rattle.st_event.proofs.Promises.{entry_of}
use Rattle.st_event.proofs.Made.{report_now}
use Rattle.st_event.proofs.AgentSteps.{agent_of-next}

-- there is one entry for each verdict
deciders_after-length : (event : Event) (answer : Reply) (n : ℕ) (ds : List ℕ) (vs : List Verdict) → length ds ≡ length vs → length (deciders_after event answer n ds) ≡ length (verdicts_after event answer vs)
deciders_after-length Check (Decided receipt) n ds vs same = rw (length-append, length-append, same) refl
deciders_after-length Check answer n ds vs same = same
deciders_after-length event answer n ds vs same = same

pub length-deciders : (past : List Entry) → length (deciders past) ≡ length (verdicts past)
length-deciders [] = refl
length-deciders (entry ∷ past) = deciders_after-length entry.event entry.reply (length past + 1) (deciders past) (verdicts past) (length-deciders past)

same_check : (g : Group) (past : List Entry) (queue : List Proposal) → check_reply g past queue ≡ check_reply_in g (standing_of g past) (length past + 1) queue
same_check g past [] = refl
same_check g past (p ∷ ps) = ap (λ (n : ℕ). Decided (record (receipt_of g past p) { ticket = n + 1 })) (sym (length-deciders past))

at_work_is : (b : Bool) (work : Vals) → is_at_work (if b then Some work else None) ≡ b
at_work_is true work = refl
at_work_is false work = refl

-- a reply is given from the standing and the network alone
pub reply_is : (g : Group) (past : List Entry) (event : Event) → reply g past event ≡ reply_in g (standing_of g past) (wires_of g past) (length past + 1) event
reply_is g past Check = same_check g past (pending past)
reply_is g past (Finish e) = rw (at_work_is (busy g past e) (work g past e)) refl
reply_is g past _ = refl

pub quiet_stamp : (g : Group) (past : List Entry) (event : Event) (answer : Reply) → makes_version event answer ≡ false → heard event (nth (reports g past)) ≡ None → stamp g (entry_of event answer ∷ past) ≡ stamp g past
quiet_stamp g past event answer none silent = fun_ext (λ e. rw (overlay_none event answer (first_rows (pending past)) none, silent, and-false (is_taken answer)) refl)

quiet_view : (g : Group) (past : List Entry) (event : Event) (answer : Reply) → heard event (nth (reports g past)) ≡ None → observed g (entry_of event answer ∷ past) ≡ observed g past
quiet_view g past event answer silent = fun_ext (λ e. rw silent refl)

submit_moves : (g : Group) (past : List Entry) (app : AppId) (rows : List Row) (answer : Reply) → IsOrderly past → standing_of g (entry_of (Submit app rows) answer ∷ past) ≡ standing_after g (standing_of g past) (wires_of g past) (length past + 1) (Submit app rows) answer
submit_moves g past app rows (Queued ticket) orderly =
    let few : length (verdicts past) ≤ length (proposals past) = orderly.few in
    rw (length-append, drop-append-le) refl
submit_moves g past app rows answer orderly = ap (λ (s : Entity → ℕ). record (standing_of g (entry_of (Submit app rows) answer ∷ past)) { stamp = s }) (quiet_stamp g past (Submit app rows) answer refl refl)

with_parts : (s : Standing) (count : ℕ) (goal : Entity → Var → ℕ) (stamps : Entity → ℕ) → s.version ≡ count → s.target ≡ goal → s.stamp ≡ stamps → s ≡ record s { version = count; target = goal; stamp = stamps }
with_parts s count goal stamps a b c = rw (sym a, sym b, sym c) refl

-- what hears nothing lays over the target what it overlays
overlaid_moves : (g : Group) (past : List Entry) (event : Event) (answer : Reply) (o : Option (List Row)) → overlay_in event answer (first_rows (pending past)) ≡ o → heard event (nth (reports g past)) ≡ None → standing_of g (entry_of event answer ∷ past) ≡ overlay_one g (record (standing_of g (entry_of event answer ∷ past)) { version = version past; target = target g past; stamp = stamp g past }) (length past + 1) o
overlaid_moves g past event answer None is silent =
    with_parts (standing_of g (entry_of event answer ∷ past)) _ _ _ (ap (λ (o : Option (List Row)). length (with_overlay o (overlays past))) is) (ap (λ (o : Option (List Row)). merge_of g (with_overlay o (overlays past))) is)
    (fun_ext (λ e. rw (is, silent, and-false (is_taken answer)) refl))
overlaid_moves g past event answer (Some rows) is silent =
    with_parts (standing_of g (entry_of event answer ∷ past)) _ _ _ (ap (λ (o : Option (List Row)). length (with_overlay o (overlays past))) is ∙ length-append (overlays past) (rows ∷ []))
    (ap (λ (o : Option (List Row)). merge_of g (with_overlay o (overlays past))) is ∙ merge_of-push_all g (overlays past) rows)
    (fun_ext (λ e. rw (is, silent, and-false (is_taken answer), or-false (alters g (target g past) rows e)) refl))

renewed_by : (v : Bool) (n : ℕ) (renewed : Entity → Bool) (old : Entity → ℕ) → (λ (e : Entity). if v && renewed e then n else old e) ≡ (if v then (λ e. if renewed e then n else old e) else old)
renewed_by true n renewed old = refl
renewed_by false n renewed old = refl

decided_moves : (g : Group) (past : List Entry) (receipt : Receipt) (p : Proposal) (rest : List Proposal) → pending past ≡ p ∷ rest → standing_of g (entry_of Check (Decided receipt) ∷ past) ≡ decide_one g (standing_of g past) (length past + 1) (p ∷ rest) receipt.verdict
decided_moves g past receipt p rest first =
    let n = length past + 1 in
    let accepts = is_accepted receipt.verdict in
    overlaid_moves g past Check (Decided receipt) (if accepts then Some (first_rows (pending past)) else None) refl refl
    ∙ ap (λ (behind : List Proposal). overlay_one g (dequeue_one (standing_of g past) n behind) n (if accepts then Some (first_rows (pending past)) else None)) (drop-verdict (proposals past) rest (verdicts past) receipt.verdict p first)
    ∙ ap (λ (queue : List Proposal). overlay_one g (dequeue_one (standing_of g past) n rest) n (if accepts then Some (first_rows queue) else None)) first

check_moves : (g : Group) (past : List Entry) (queue : List Proposal) (answer : Reply) → pending past ≡ queue → answer ≡ check_reply g past queue → standing_of g (entry_of Check answer ∷ past) ≡ standing_after g (standing_of g past) (wires_of g past) (length past + 1) Check answer
check_moves g past [] answer first is = rw is refl
check_moves g past (p ∷ rest) answer first is = rw is (decided_moves g past (receipt_of g past p) p rest first ∙ ap (λ (queue : List Proposal). decide_one g (standing_of g past) (length past + 1) queue (receipt_of g past p).verdict) (sym first))

hear_moves : (g : Group) (past : List Entry) (k : ℕ) (answer : Reply) → standing_of g (entry_of (Hear k) answer ∷ past) ≡ hear_one g (standing_of g past) (length past + 1) (nth (reports g past) k) answer
hear_moves g past k answer = ap (λ (s : Entity → ℕ). record (standing_of g (entry_of (Hear k) answer ∷ past)) { stamp = s }) (renewed_by (is_taken answer) (length past + 1) (λ e. renews (nth (reports g past) k) e (stamp g past e) (vals_in g (target g past) e)) (stamp g past))

event_moves : (g : Group) (past : List Entry) (event : Event) (answer : Reply) → IsOrderly past → answer ≡ reply g past event → standing_of g (entry_of event answer ∷ past) ≡ standing_after g (standing_of g past) (wires_of g past) (length past + 1) event answer
event_moves g past (Submit app rows) answer orderly is = submit_moves g past app rows answer orderly
event_moves g past Check answer orderly is = check_moves g past (pending past) answer refl is
event_moves g past (Hear k) answer orderly is = hear_moves g past k answer
event_moves g past (Withdraw at) answer orderly is = overlaid_moves g past (Withdraw at) answer (rows_withdrawn answer) refl refl
event_moves g past event answer orderly is = ap (λ (s : Entity → ℕ). record (standing_of g (entry_of event answer ∷ past)) { stamp = s }) (quiet_stamp g past event answer refl refl)

pub standing_of-next : (g : Group) (past : List Entry) (entry : Entry) → IsLegal g past → IsNext g past entry → standing_of g (entry ∷ past) ≡ standing_after g (standing_of g past) (wires_of g past) (length past + 1) entry.event entry.reply
standing_of-next g past entry legal next = event_moves g past entry.event entry.reply (legal_orderly g past legal) next.answer

abbrev wires_from : List Command → List Report → (Entity → Agent) → Wires
wires_from sent made agents = record { commands = sent; reports = made; agent = agents }

same_wires : (c : List Command) (r r2 : List Report) (a a2 : Entity → Agent) → r ≡ r2 → a ≡ a2 → wires_from c r a ≡ wires_from c r2 a2
same_wires c r r2 a a2 p q = rw (p, q) refl

same_report : (g : Group) (past : List Entry) → report_now g past ≡ made_report (wires_of g past)
same_report g past = fun_ext (λ e. rw (at_work_is (busy g past e) (work g past e)) refl)

pub wires_of-next : (g : Group) (past : List Entry) (entry : Entry) → wires_of g (entry ∷ past) ≡ wires_after g (standing_of g past) (wires_of g past) entry.event entry.reply
wires_of-next g past entry = same_wires (commands g (entry ∷ past)) _ _ _ _ (ap (λ (now : Entity → Report). reports_after entry.event now (reports g past)) (same_report g past)) (agent_of-next g past entry)
