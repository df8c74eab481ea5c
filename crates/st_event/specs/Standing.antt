-- How a group stands: all that a reply is given from. One part is what the checker keeps, the other is the network.
use Rattle.std.specs.Prelude.{ℕ, ◌+◌, nat_lt, Bool, List, [], ◌∷◌, ◌++◌, length, Option, Some, None, if◌then◌else◌}
use Rattle.st_net.specs.declared.entity.AppId.{AppId}
use Rattle.st_net.specs.declared.entity.Row.{Row}
use Rattle.st_net.specs.declared.entity.Var.{Var}
use Rattle.st_net.specs.declared.entity.Entity.{Entity}
use Rattle.st_net.specs.declared.entity.Prio.{Prio}
use Rattle.st_event.specs.declared.event.Proposal.{Proposal}
use Rattle.st_event.specs.declared.reply.Receipt.{Receipt}
use Rattle.st_net.specs.declared.message.Command.{Command}
use Rattle.st_net.specs.declared.message.Report.{Report}
use Rattle.st_event.specs.declared.reply.Verdict.{Verdict}
use Rattle.st_event.specs.declared.event.Event.{Event}
use Rattle.st_event.specs.declared.event.Event.TheVariants.{Submit, Check, Lock, Unlock, Send, Deliver, Finish, Report as make_report, Hear, Fail, Withdraw}
use Rattle.st_event.specs.declared.reply.Reply.{Reply}
use Rattle.st_event.specs.declared.reply.Reply.TheVariants.{Queued, Full, Decided, Idle, Settled, Done, NotBusy, Reported, Changed}
use Rattle.st_event.specs.declared.journal.TheConstants.{MAX_PENDING}
use Rattle.st_event.specs.declared.journal.Entry.{Entry}
use Rattle.st_net.specs.Groups.{Group}
use Rattle.st_net.specs.Merge.{target_with, vals_in, alters, without_altered}
use Rattle.st_event.specs.Proposals.{is_queued, is_accepted, proposals, deciders, pending, version, target}
use Rattle.st_event.specs.Locks.{holder, holder_after}
use Rattle.st_net.specs.Numbered.{nth}
use Rattle.st_net.specs.Agents.{Agent, is_at_work, agent_report}
use Rattle.st_event.specs.Moments.{is_taken, renews, commands_after, reports_after, stamp, commands, reports, vals, health}
use Rattle.st_net.specs.Reports.{later_report, is_settled_by, is_sure_by}
use Rattle.st_event.specs.Observed.{observed}
use Rattle.st_event.specs.Judge.{judge, lack_at}
use Rattle.st_event.specs.Replies.{lock_reply, unlock_reply, governing, blocked_or_sent, row_to, withdraw_reply, deliver_reply, hear_reply}
use Rattle.st_event.specs.Agents.{agent_of, agent_after}
use Rattle.st_event.specs.Receipts.{receipt_given, rows_withdrawn}

-- what the checker keeps: how many tickets were given, the entries that decided tickets 1, 2, 3 and so on, and the rest by its name
pub record Standing : Type 0 where
  pub tickets : ℕ
  pub decided : List ℕ
  pub pending : List Proposal
  pub version : ℕ
  pub target : Entity → Var → ℕ
  pub holder : Entity → Prio → Option AppId
  pub stamp : Entity → ℕ
  pub observed : Entity → Report

-- what the network has: the messages that were made, and the agents
pub record Wires : Type 0 where
  pub commands : List Command
  pub reports : List Report
  pub agent : Entity → Agent

abbrev pub standing_of : Group → List Entry → Standing
standing_of g past = record {
  tickets = length (proposals past);
  decided = deciders past;
  pending = pending past;
  version = version past;
  target = target g past;
  holder = holder past;
  stamp = stamp g past;
  observed = observed g past;
}

abbrev pub wires_of : Group → List Entry → Wires
wires_of g past = record { commands = commands g past; reports = reports g past; agent = agent_of g past }

-- the sure entities, by what the checker keeps
abbrev pub sure_in : Group → Standing → Entity → Bool
sure_in g s = λ e. is_sure_by e (s.observed e) (s.stamp e) (vals_in g s.target e)

abbrev pub settled_in : Group → Standing → Entity → Bool
settled_in g s e = is_settled_by (s.observed e) (s.stamp e) (vals_in g s.target e)

-- the receipt of a proposal that is decided as entry n
abbrev pub receipt_in : Group → Standing → ℕ → Proposal → Receipt
receipt_in g s n p = record {
  ticket = length s.decided + 1;
  entry = n;
  verdict = judge g s.observed s.target s.holder (sure_in g s) (without_altered g (sure_in g s) s.target p.rows) s.version p.app p.rows;
}

abbrev pub check_reply_in : Group → Standing → ℕ → List Proposal → Reply
check_reply_in g s n [] = Idle
check_reply_in g s n (p ∷ ps) = Decided (receipt_in g s n p)

abbrev pub send_reply_in : Group → Standing → ℕ → Entity → Var → Reply
send_reply_in g s sent e v = if settled_in g s e then Settled else blocked_or_sent (lack_at g s.observed s.target e v) (row_to e v (s.target e)) sent

-- the reply to an event as entry n
abbrev pub reply_in : Group → Standing → Wires → ℕ → Event → Reply
reply_in g s w n (Submit app rows) = if nat_lt (length s.pending) MAX_PENDING then Queued (s.tickets + 1) else Full (length s.pending)
reply_in g s w n Check = check_reply_in g s n s.pending
reply_in g s w n (Lock app e prio) = lock_reply app (s.holder e prio)
reply_in g s w n (Unlock app e prio) = unlock_reply app (s.holder e prio)
reply_in g s w n (Send e) = send_reply_in g s (length w.commands) e (governing e (s.observed e).vals (s.target e))
reply_in g s w n (Deliver k) = deliver_reply (λ e. (w.agent e).fence) (length w.commands) (nth w.commands k)
reply_in g s w n (Finish e) = if is_at_work (w.agent e).work then Done else NotBusy
reply_in g s w n (make_report e) = Reported (length w.reports + 1)
reply_in g s w n (Hear k) = hear_reply s.observed (length w.reports) (nth w.reports k)
reply_in g s w n (Fail e vals health) = Changed
reply_in g s w n (Withdraw e) = withdraw_reply g s.observed s.target s.version e

-- the stamps after rows are overlaid as entry n, and after a report is taken as entry n
abbrev pub stamp_altered : Group → (Entity → Var → ℕ) → List Row → ℕ → (Entity → ℕ) → Entity → ℕ
stamp_altered g target rows n stamp = λ e. if alters g target rows e then n else stamp e

abbrev pub stamp_renewed : Group → (Entity → Var → ℕ) → Option Report → ℕ → (Entity → ℕ) → Entity → ℕ
stamp_renewed g target heard n stamp = λ e. if renews heard e (stamp e) (vals_in g target e) then n else stamp e

abbrev pub queue_one : Standing → Proposal → Standing
queue_one s p = record s { tickets = s.tickets + 1; pending = s.pending ++ p ∷ [] }

-- a proposal leaves the queue, as entry n, and these wait behind it
abbrev pub dequeue_one : Standing → ℕ → List Proposal → Standing
dequeue_one s n behind = record s { decided = s.decided ++ n ∷ []; pending = behind }

-- rows are laid over the target as the next version, as entry n, and stamp what they alter
abbrev pub overlay_one : Group → Standing → ℕ → Option (List Row) → Standing
overlay_one g s n None = s
overlay_one g s n (Some rows) = record s { version = s.version + 1; target = target_with s.target rows; stamp = stamp_altered g s.target rows n s.stamp }

-- the oldest proposal leaves the queue, and is merged where it is accepted
abbrev pub decide_one : Group → Standing → ℕ → List Proposal → Verdict → Standing
decide_one g s n [] verdict = s
decide_one g s n (p ∷ ps) verdict = overlay_one g (dequeue_one s n ps) n (if is_accepted verdict then Some p.rows else None)

-- where a receipt is given, the oldest proposal is decided by its verdict
abbrev pub decide_by : Group → Standing → ℕ → Option Receipt → Standing
decide_by g s n None = s
decide_by g s n (Some receipt) = decide_one g s n s.pending receipt.verdict

-- a report is kept, where it is newer
abbrev pub hear_one : Group → Standing → ℕ → Option Report → Reply → Standing
hear_one g s n heard reply = record s {
  observed = λ e. later_report e heard (s.observed e);
  stamp = if is_taken reply then stamp_renewed g s.target heard n s.stamp else s.stamp;
}

-- how the checker stands after entry n
abbrev pub standing_after : Group → Standing → Wires → ℕ → Event → Reply → Standing
standing_after g s w n (Submit app rows) reply = if is_queued reply then queue_one s (record { app = app; rows = rows }) else s
standing_after g s w n Check reply = decide_by g s n (receipt_given reply)
standing_after g s w n (Lock app at prio) reply = record s { holder = holder_after (Lock app at prio) reply s.holder }
standing_after g s w n (Unlock app at prio) reply = record s { holder = holder_after (Unlock app at prio) reply s.holder }
standing_after g s w n (Hear k) reply = hear_one g s n (nth w.reports k) reply
standing_after g s w n (Send at) reply = s
standing_after g s w n (Deliver k) reply = s
standing_after g s w n (Finish at) reply = s
standing_after g s w n (make_report at) reply = s
standing_after g s w n (Fail at vals health) reply = s
standing_after g s w n (Withdraw at) reply = overlay_one g s n (rows_withdrawn reply)

abbrev pub command_in : Group → Standing → Entity → Command
command_in g s e = record { entity = e; stamp = s.stamp e; vals = vals_in g s.target e }

-- what an entity's agent reports
abbrev pub made_report : Wires → Entity → Report
made_report w e = agent_report e (w.agent e)

-- how the network is after an entry
abbrev pub wires_after : Group → Standing → Wires → Event → Reply → Wires
wires_after g s w event reply = record {
  commands = commands_after event reply (command_in g s) w.commands;
  reports = reports_after event (made_report w) w.reports;
  agent = λ e. agent_after event (nth w.commands) e (w.agent e);
}
