-- Which events and replies hold no list, which events are answered without one, which may overlay the target, and which are checks, or
-- requests of an application.
use Rattle.std.specs.Prelude.{◌==◌, Bool, true, false}
use Rattle.st_net.specs.declared.entity.AppId.{AppId}
use Rattle.st_event.specs.declared.event.Event.{Event}
use Rattle.st_event.specs.declared.event.Event.TheVariants.{Submit, Check, Lock, Unlock, Send, Deliver, Finish, Report, Hear, Fail, Withdraw}
use Rattle.st_event.specs.declared.reply.Reply.{Reply}
use Rattle.st_event.specs.declared.reply.Reply.TheVariants.{Queued, Full, Decided, Idle, Granted, Held, Released, NotYours, Sent, Settled, Blocked, Begun, Stale, NoSuch, Done, NotBusy, Reported, Taken, Old, Changed, Withdrawn, Kept}

abbrev pub is_without_rows : Event → Bool
is_without_rows (Submit app rows) = false
is_without_rows Check = true
is_without_rows (Lock app entity prio) = true
is_without_rows (Unlock app entity prio) = true
is_without_rows (Send entity) = true
is_without_rows (Deliver n) = true
is_without_rows (Finish entity) = true
is_without_rows (Report entity) = true
is_without_rows (Hear n) = true
is_without_rows (Fail entity vals health) = true
is_without_rows (Withdraw entity) = true

-- a receipt's verdict may hold a side, and a withdrawal holds rows
abbrev pub is_without_list : Reply → Bool
is_without_list (Queued ticket) = true
is_without_list (Full pending) = true
is_without_list (Decided receipt) = false
is_without_list Idle = true
is_without_list Granted = true
is_without_list (Held holder) = true
is_without_list Released = true
is_without_list (NotYours holder) = true
is_without_list (Sent command) = true
is_without_list Settled = true
is_without_list (Blocked row) = true
is_without_list Begun = true
is_without_list (Stale fence) = true
is_without_list (NoSuch made) = true
is_without_list Done = true
is_without_list NotBusy = true
is_without_list (Reported report) = true
is_without_list Taken = true
is_without_list (Old kept) = true
is_without_list Changed = true
is_without_list (Withdrawn version rows) = false
is_without_list Kept = true

-- whether an event decides a proposal that waits
abbrev pub is_check : Event → Bool
is_check Check = true
is_check _ = false

-- whether an entry of this event may overlay the target: a check may accept, and a withdrawal withdraw
abbrev pub may_overlay : Event → Bool
may_overlay Check = true
may_overlay (Withdraw entity) = true
may_overlay _ = false

-- whether no reply to the event holds a list
abbrev pub answers_without_list : Event → Bool
answers_without_list (Submit app rows) = true
answers_without_list Check = false
answers_without_list (Lock app entity prio) = true
answers_without_list (Unlock app entity prio) = true
answers_without_list (Send entity) = true
answers_without_list (Deliver n) = true
answers_without_list (Finish entity) = true
answers_without_list (Report entity) = true
answers_without_list (Hear n) = true
answers_without_list (Fail entity vals health) = true
answers_without_list (Withdraw entity) = false

-- whether an event is a request of this application
abbrev pub is_request_of : AppId → Event → Bool
is_request_of app (Submit by rows) = by.0 == app.0
is_request_of app (Lock by entity prio) = by.0 == app.0
is_request_of app (Unlock by entity prio) = by.0 == app.0
is_request_of app _ = false
