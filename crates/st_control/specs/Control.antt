-- A checker as contracts see it, how the group stands by what the checker keeps, and what one call of the checker does.
use Rattle.std.specs.Prelude.{◌≡◌, ℕ, ◌+◌, List, [], length, Some}
use Rattle.st_net.specs.declared.entity.Var.{Var}
use Rattle.st_net.specs.Groups.{Group}
use Rattle.st_net.specs.declared.entity.Entity.{Entity}
use Rattle.st_event.specs.declared.event.Event.{Event}
use Rattle.st_event.specs.declared.event.Event.TheVariants.{Send}
use Rattle.st_net.specs.declared.message.Command.{Command as MadeCommand}
use Rattle.st_net.specs.declared.message.Report.{Report}
use Rattle.st_event.specs.declared.reply.Reply.{Reply}
use Rattle.st_event.specs.declared.reply.Reply.TheVariants.{Queued, Full as full_reply, Decided as decided_reply, Idle as idle_reply, Granted as granted_reply, Held as held_reply, Released as released_reply, NotYours as not_yours_reply, Sent, Settled as settled_reply, Blocked as blocked_reply, Taken as taken_reply, Old as old_reply}
use Rattle.st_event.specs.Replies.{hear_reply}
use Rattle.st_event.specs.Standing.{Standing, Wires, standing_of, standing_after, reply_in, command_in, hear_one}
use Rattle.st_event.specs.Versions.{value_at, versions_after}
use Rattle.st_overlay.specs.Values.{value_in}
use Rattle.st_locks.specs.LockRows.{LockRows, holder_in}
use Rattle.st_locks.specs.declared.table.Grant.{Grant}
use Rattle.st_locks.specs.declared.table.Grant.TheVariants.{Granted, Held}
use Rattle.st_locks.specs.declared.table.Release.{Release}
use Rattle.st_locks.specs.declared.table.Release.TheVariants.{Released, NotYours}
use Rattle.st_store.specs.declared.pending.Put.{Put}
use Rattle.st_store.specs.declared.pending.Put.TheVariants.{Ticket, Full}
use Rattle.st_store.specs.Changes.{value_at as value_at_version}
use Rattle.st_net.specs.InOrder.{report_in, stamp_in}
use Rattle.st_promise.specs.Book.{BookOf}
use Rattle.st_store.specs.Store.{StoreView}
use Rattle.st_store.specs.declared.reports.Keep.{Keep}
use Rattle.st_store.specs.declared.reports.Keep.TheVariants.{Taken, Old}
use Rattle.st_control.specs.declared.send.SendStep.{SendStep}
use Rattle.st_control.specs.declared.send.SendStep.TheVariants.{Command, Settled, Blocked}
use Rattle.st_control.specs.declared.control.checks.Check.{Check}
use Rattle.st_control.specs.declared.control.checks.Check.TheVariants.{Decided, Idle}

-- the group; the book of the group's promises, and how many runs of a flow the book counted; the proposals, the target and the kept reports;
-- the locks; and a stamp for each entity, in the order of entities
pub record ControlView : Type 0 where
  pub group : Group
  pub book : BookOf
  pub flows_run : ℕ
  pub store : StoreView
  pub locks : LockRows
  pub stamps : List ℕ

-- the checker with another count of runs
abbrev pub with_runs : ControlView → ℕ → ControlView
with_runs k n = record k { flows_run = n }

-- nothing has changed but the count of runs
abbrev pub IsSameButRuns : ControlView → ControlView → Type 0
IsSameButRuns old new = new ≡ with_runs old new.flows_run

-- how the group stands, by what the checker keeps
abbrev pub standing_in : ControlView → Standing
standing_in k = record {
  tickets = k.store.tickets;
  decided = k.store.decided;
  pending = k.store.pending;
  version = k.store.version;
  target = value_in k.store.target;
  holder = holder_in k.locks;
  stamp = stamp_in k.group k.stamps;
  observed = report_in k.group k.store.observed;
}

-- the values at each version, by what the checker keeps
abbrev pub versions_in : ControlView → ℕ → Entity → Var → ℕ
versions_in k = value_at_version k.store.versions

abbrev pub reply_of_put : Put → Reply
reply_of_put (Ticket ticket) = Queued ticket
reply_of_put (Full pending) = full_reply pending

abbrev pub reply_of_check : Check → Reply
reply_of_check (Decided receipt) = decided_reply receipt
reply_of_check Idle = idle_reply

abbrev pub reply_of_grant : Grant → Reply
reply_of_grant Granted = granted_reply
reply_of_grant (Held holder) = held_reply holder

abbrev pub reply_of_release : Release → Reply
reply_of_release Released = released_reply
reply_of_release (NotYours holder) = not_yours_reply holder

-- the event gets the reply that is called for, as entry n, and this entry moves the standing and the versions, whatever messages there are
pub record Moves (old new : ControlView) (n : ℕ) (event : Event) (answer : Reply) : Type 0 where
  pub reply : (w : Wires) → answer ≡ reply_in old.group (standing_in old) w n event
  pub standing : (w : Wires) → standing_in new ≡ standing_after old.group (standing_in old) w n event answer
  pub group : new.group ≡ old.group
  pub versions : versions_in new ≡ versions_after (standing_in old) event answer (versions_in old)

abbrev pub reply_of_send : ℕ → SendStep → Reply
reply_of_send sent (Command command) = Sent (sent + 1)
reply_of_send sent Settled = settled_reply
reply_of_send sent (Blocked row) = blocked_reply row

abbrev pub reply_of_keep : Keep → Reply
reply_of_keep Taken = taken_reply
reply_of_keep (Old kept) = old_reply kept

-- what an entity is to be sent is what a Send of the entity calls for, whatever messages there are; and a command carries the entity's stamp and
-- its target's values
pub record Sends (k : ControlView) (e : Entity) (step : SendStep) : Type 0 where
  pub reply : (w : Wires) (n : ℕ) → reply_of_send (length w.commands) step ≡ reply_in k.group (standing_in k) w n (Send e)
  pub command : (command : MadeCommand) → step ≡ Command command → command ≡ command_in k.group (standing_in k) e

-- a report is heard as entry n
pub record Hears (old new : ControlView) (n : ℕ) (report : Report) (keep : Keep) : Type 0 where
  pub reply : (made : ℕ) → reply_of_keep keep ≡ hear_reply (standing_in old).observed made (Some report)
  pub standing : standing_in new ≡ hear_one old.group (standing_in old) n (Some report) (reply_of_keep keep)
  pub group : new.group ≡ old.group
  pub versions : versions_in new ≡ versions_in old

abbrev pub OldChangesNothing : Keep → ControlView → ControlView → Type 0
OldChangesNothing Taken old new = Unit {0}
OldChangesNothing (Old kept) old new = new ≡ old

-- the checker stands as an empty journal leaves its group, and no run was counted
pub record IsStart (g : Group) (k : ControlView) : Type 0 where
  pub group : k.group ≡ g
  pub runs : k.flows_run ≡ 0
  pub standing : standing_in k ≡ standing_of g []
  pub versions : versions_in k ≡ value_at g []
