-- The reply to each event.
use Rattle.std.specs.Prelude.{ℕ, ◌+◌, ◌==◌, nat_lt, List, [], ◌∷◌, length, Option, Some, None, if◌then◌else◌}
use Rattle.st_net.specs.declared.entity.AppId.{AppId}
use Rattle.st_net.specs.declared.entity.Row.{Row}
use Rattle.st_net.specs.declared.entity.Vals.{Vals}
use Rattle.st_net.specs.declared.entity.Var.{Var}
use Rattle.st_net.specs.declared.entity.Entity.{Entity}
use Rattle.st_event.specs.declared.event.Event.{Event}
use Rattle.st_event.specs.declared.event.Event.TheVariants.{Submit, Check, Lock, Unlock, Send, Deliver, Finish, Report as make_report, Hear, Fail, Withdraw}
use Rattle.st_event.specs.declared.reply.Reply.{Reply}
use Rattle.st_event.specs.declared.reply.Reply.TheVariants.{Queued, Full, Decided, Idle, Granted, Held, Released, NotYours, Sent, Settled, Blocked, Begun, Stale, NoSuch, Done, NotBusy, Reported, Taken, Old, Changed, Withdrawn, Kept}
use Rattle.st_event.specs.declared.journal.TheConstants.{MAX_PENDING}
use Rattle.st_event.specs.declared.event.Proposal.{Proposal}
use Rattle.st_event.specs.declared.reply.Receipt.{Receipt}
use Rattle.st_net.specs.declared.message.Command.{Command}
use Rattle.st_net.specs.declared.message.Report.{Report}
use Rattle.st_event.specs.declared.reply.Lack.{Lack}
use Rattle.st_event.specs.declared.journal.Entry.{Entry}
use Rattle.st_net.specs.Entities.{value_of, power_of, vars_of}
use Rattle.st_net.specs.Groups.{Group}
use Rattle.st_event.specs.Proposals.{proposals, verdicts, pending, version, target}
use Rattle.st_event.specs.Locks.{holder}
use Rattle.st_net.specs.Holders.{is_free_for, is_held_by}
use Rattle.st_net.specs.Numbered.{nth}
use Rattle.st_event.specs.Moments.{commands, reports, fence, busy}
use Rattle.st_event.specs.Observed.{observed, is_settled, sure, sure_after}
use Rattle.st_event.specs.Judge.{judge, lack_at}

-- the receipt of a proposal that is decided next
abbrev pub receipt_of : Group → List Entry → Proposal → Receipt
receipt_of g past p = record {
  ticket = length (verdicts past) + 1;
  entry = length past + 1;
  verdict = judge g (observed g past) (target g past) (holder past) (sure g past) (sure_after g past p.rows) (version past) p.app p.rows;
}

abbrev pub check_reply : Group → List Entry → List Proposal → Reply
check_reply g past [] = Idle
check_reply g past (p ∷ ps) = Decided (receipt_of g past p)

abbrev pub lock_reply : AppId → Option AppId → Reply
lock_reply app None = Granted
lock_reply app (Some holder) = if is_free_for app (Some holder) then Granted else Held holder

abbrev pub unlock_reply : AppId → Option AppId → Reply
unlock_reply app holder = if is_held_by app holder then Released else NotYours holder

-- the first of these variables whose value is not the target's, or else the default
abbrev pub first_other : (Var → ℕ) → (Var → ℕ) → Var → List Var → Var
first_other value target default [] = default
first_other value target default (v ∷ vs) = if value v == target v then first_other value target default vs else v

-- the variable that a command waits for: the lowest whose observed value is not the target's, or else power
abbrev pub governing : Entity → Vals → (Var → ℕ) → Var
governing e vals target = first_other (value_of e vals) target (power_of e) (vars_of e)

abbrev pub row_to : Entity → Var → (Var → ℕ) → Row
row_to e v target = record { entity = e; var = v; value = target v }

abbrev pub blocked_or_sent : Option Lack → Row → ℕ → Reply
blocked_or_sent (Some lack) row sent = Blocked row
blocked_or_sent None row sent = Sent (sent + 1)

abbrev pub send_reply : Group → List Entry → Entity → Var → Reply
send_reply g past e v = if is_settled g past e then Settled else blocked_or_sent (lack_at g (observed g past) (target g past) e v) (row_to e v (target g past e)) (length (commands g past))

-- a row for each of these variables whose observed value is not the target's, in order: it has the observed value
abbrev pub rows_back : Entity → (Var → ℕ) → (Var → ℕ) → List Var → List Row
rows_back e value target [] = []
rows_back e value target (v ∷ vs) = if value v == target v then rows_back e value target vs else row_to e v value ∷ rows_back e value target vs

-- nothing is withdrawn where no value differs, or where nothing lacks; else the next version has the rows
abbrev pub kept_or_withdrawn : Option Lack → List Row → ℕ → Reply
kept_or_withdrawn None rows version = Kept
kept_or_withdrawn (Some lack) [] version = Kept
kept_or_withdrawn (Some lack) (row ∷ rows) version = Withdrawn (version + 1) (row ∷ rows)

-- what an entity was observed to have, and what it is to have: where the governing variable can't be set, the target goes back to the former
abbrev pub withdraw_reply : Group → (Entity → Report) → (Entity → Var → ℕ) → ℕ → Entity → Reply
withdraw_reply g observed target version e = kept_or_withdrawn (lack_at g observed target e (governing e (observed e).vals (target e))) (rows_back e (value_of e (observed e).vals) (target e) (vars_of e)) version

abbrev pub deliver_reply : (Entity → ℕ) → ℕ → Option Command → Reply
deliver_reply fence sent None = NoSuch sent
deliver_reply fence sent (Some c) = if nat_lt (fence c.entity) c.stamp then Begun else Stale (fence c.entity)

abbrev pub hear_reply : (Entity → Report) → ℕ → Option Report → Reply
hear_reply observed made None = NoSuch made
hear_reply observed made (Some r) = if nat_lt (observed r.entity).number r.number then Taken else Old (observed r.entity).number

-- the reply to an event after these entries
abbrev pub reply : Group → List Entry → Event → Reply
reply g past (Submit app rows) = if nat_lt (length (pending past)) MAX_PENDING then Queued (length (proposals past) + 1) else Full (length (pending past))
reply g past Check = check_reply g past (pending past)
reply g past (Lock app e prio) = lock_reply app (holder past e prio)
reply g past (Unlock app e prio) = unlock_reply app (holder past e prio)
reply g past (Send e) = send_reply g past e (governing e (observed g past e).vals (target g past e))
reply g past (Deliver n) = deliver_reply (fence g past) (length (commands g past)) (nth (commands g past) n)
reply g past (Finish e) = if busy g past e then Done else NotBusy
reply g past (make_report e) = Reported (length (reports g past) + 1)
reply g past (Hear n) = hear_reply (observed g past) (length (reports g past)) (nth (reports g past) n)
reply g past (Fail e vals health) = Changed
reply g past (Withdraw e) = withdraw_reply g (observed g past) (target g past) (version past) e
