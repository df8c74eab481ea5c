-- Workers beside applications: a checker, an updater or a monitor of a group. What they enter, and how much of it scripts have them enter.
use Rattle.std.specs.Prelude.{ℕ, ◌≡◌, ◌+◌, ◌==◌, Bool, true, false, Option, Some, None, List, All, slice_get, sum_by, if◌then◌else◌}
use Rattle.st_net.specs.Groups.{Group}
use Rattle.st_event.specs.declared.act.Act.{Act}
use Rattle.st_event.specs.declared.act.Act.TheVariants.{Propose, Await, Settle, Lock, Unlock, Read, ReadAt, Fail, Poll, Span}
use Rattle.st_event.specs.declared.event.Event.{Event}
use Rattle.st_event.specs.declared.event.Event.TheVariants.{Submit, Check, Lock as lock_event, Unlock as unlock_event, Send, Deliver, Finish, Report, Hear, Fail as fail_event, Withdraw}
use Rattle.st_wire.specs.declared.line.WireLine.{WireLine}
use Rattle.st_world.specs.Acts.{group_number}
use Rattle.st_service.specs.declared.work.Part.TheVariants.{Update, Monitor}
use Rattle.st_service.specs.Made.{Made}
use Rattle.st_service.specs.Passes.{Holder, front_at, mine_at}
use Rattle.st_service.specs.Shares.{check_share, round_share}

-- an event that a worker makes: a check of a checker, or one of an entity's turn
abbrev pub is_workers : Event → Bool
is_workers (Submit app rows) = false
is_workers Check = true
is_workers (lock_event app e prio) = false
is_workers (unlock_event app e prio) = false
is_workers (Send e) = true
is_workers (Deliver n) = true
is_workers (Finish e) = true
is_workers (Report e) = true
is_workers (Hear n) = true
is_workers (Withdraw e) = true
is_workers (fail_event e vals health) = false

-- an entry stands at a place, and a worker makes its event
abbrev pub IsOfWorker : Option Made → Type 0
IsOfWorker (Some m) = is_workers m.entry.event ≡ true
IsOfWorker None = ⊥

-- each entry that a pass made, of any group, is one that a worker makes
abbrev pub MadeByWorker : Holder → Type 0
MadeByWorker p = (k : ℕ) → All (λ place. IsOfWorker (slice_get (front_at p.fronts k) place)) (mine_at p.mines k)

-- what workers add to the journal for one command at the most: a check for a proposal, and a half of each kind for a settle
abbrev pub worker_share : Act → Group → List WireLine → ℕ
worker_share (Propose n rows) g lines = check_share
worker_share (Settle n rounds) g lines = round_share Update g lines + round_share Monitor g lines
worker_share (Await n) g lines = 0
worker_share (Lock n entity prio) g lines = 0
worker_share (Unlock n entity prio) g lines = 0
worker_share (Read n entity var) g lines = 0
worker_share (ReadAt n version entity var) g lines = 0
worker_share (Fail n entity health rows) g lines = 0
worker_share (Poll n entity) g lines = 0
worker_share (Span first first_rows second second_rows) g lines = 0

-- and for the commands of a script on group n
abbrev pub worker_shares_on : ℕ → Group → List WireLine → List Act → ℕ
worker_shares_on n g lines acts = sum_by (λ act. if group_number act == n then worker_share act g lines else 0) acts
