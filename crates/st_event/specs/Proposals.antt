-- The proposals of a journal. A journal stands here with its newest entry first: `entry ∷ past` is the
-- journal `past` with one more entry.
use Rattle.std.specs.Prelude.{ℕ, ◌+◌, Bool, true, false, List, [], ◌∷◌, ◌++◌, length, drop, Option, Some, None, is_some, if◌then◌else◌}
use Rattle.st_net.specs.declared.entity.Row.{Row}
use Rattle.st_net.specs.declared.entity.Entity.{Entity}
use Rattle.st_net.specs.declared.entity.Var.{Var}
use Rattle.st_event.specs.declared.event.Event.{Event}
use Rattle.st_event.specs.declared.event.Event.TheVariants.{Submit, Check, Lock, Unlock, Send, Deliver, Finish, Report, Hear, Fail, Withdraw}
use Rattle.st_event.specs.declared.reply.Reply.{Reply}
use Rattle.st_event.specs.declared.reply.Reply.TheVariants.{Queued}
use Rattle.st_event.specs.declared.reply.Receipt.{Receipt}
use Rattle.st_event.specs.declared.reply.Verdict.{Verdict}
use Rattle.st_event.specs.declared.reply.Verdict.TheVariants.{Accepted, Refused}
use Rattle.st_event.specs.declared.journal.Entry.{Entry}
use Rattle.st_event.specs.declared.event.Proposal.{Proposal}
use Rattle.st_net.specs.Groups.{Group}
use Rattle.st_net.specs.Merge.{merge_of}
use Rattle.st_event.specs.Receipts.{receipt_given, rows_withdrawn}

abbrev pub is_queued : Reply → Bool
is_queued (Queued ticket) = true
is_queued _ = false

abbrev pub is_accepted : Verdict → Bool
is_accepted (Accepted version) = true
is_accepted (Refused cause) = false

-- the proposals after an entry, from those before it
abbrev pub proposals_after : Event → Reply → List Proposal → List Proposal
proposals_after (Submit app rows) reply before = if is_queued reply then before ++ record { app = app; rows = rows } ∷ [] else before
proposals_after Check reply before = before
proposals_after (Lock app entity prio) reply before = before
proposals_after (Unlock app entity prio) reply before = before
proposals_after (Send entity) reply before = before
proposals_after (Deliver number) reply before = before
proposals_after (Finish entity) reply before = before
proposals_after (Report entity) reply before = before
proposals_after (Hear number) reply before = before
proposals_after (Fail entity vals health) reply before = before
proposals_after (Withdraw entity) reply before = before

-- the proposals that were queued, the oldest first: the first has ticket 1
abbrev pub proposals : List Entry → List Proposal
proposals [] = []
proposals (entry ∷ past) = proposals_after entry.event entry.reply (proposals past)

-- with the verdict of a receipt, where one is given
abbrev pub with_verdict : Option Receipt → List Verdict → List Verdict
with_verdict None before = before
with_verdict (Some receipt) before = before ++ receipt.verdict ∷ []

abbrev pub with_verdict_of : Reply → List Verdict → List Verdict
with_verdict_of reply before = with_verdict (receipt_given reply) before

-- the verdicts after an entry, from those before it
abbrev pub verdicts_after : Event → Reply → List Verdict → List Verdict
verdicts_after Check reply before = with_verdict_of reply before
verdicts_after (Submit app rows) reply before = before
verdicts_after (Lock app entity prio) reply before = before
verdicts_after (Unlock app entity prio) reply before = before
verdicts_after (Send entity) reply before = before
verdicts_after (Deliver number) reply before = before
verdicts_after (Finish entity) reply before = before
verdicts_after (Report entity) reply before = before
verdicts_after (Hear number) reply before = before
verdicts_after (Fail entity vals health) reply before = before
verdicts_after (Withdraw entity) reply before = before

-- the verdicts, the oldest first: the first decides ticket 1
abbrev pub verdicts : List Entry → List Verdict
verdicts [] = []
verdicts (entry ∷ past) = verdicts_after entry.event entry.reply (verdicts past)

-- with the number of an entry, where it gives a receipt
abbrev pub with_number : Option Receipt → ℕ → List ℕ → List ℕ
with_number None n before = before
with_number (Some receipt) n before = before ++ n ∷ []

abbrev pub with_number_of : Reply → ℕ → List ℕ → List ℕ
with_number_of reply n before = with_number (receipt_given reply) n before

-- the numbers of the entries that decide tickets 1, 2, 3 and so on, after entry n
abbrev pub deciders_after : Event → Reply → ℕ → List ℕ → List ℕ
deciders_after Check reply n before = with_number_of reply n before
deciders_after (Submit app rows) reply n before = before
deciders_after (Lock app entity prio) reply n before = before
deciders_after (Unlock app entity prio) reply n before = before
deciders_after (Send entity) reply n before = before
deciders_after (Deliver number) reply n before = before
deciders_after (Finish entity) reply n before = before
deciders_after (Report entity) reply n before = before
deciders_after (Hear number) reply n before = before
deciders_after (Fail entity vals health) reply n before = before
deciders_after (Withdraw entity) reply n before = before

abbrev pub deciders : List Entry → List ℕ
deciders [] = []
deciders (entry ∷ past) = deciders_after entry.event entry.reply (length past + 1) (deciders past)

-- the proposals that no verdict decides, the oldest first
abbrev pub pending : List Entry → List Proposal
pending past = drop (length (verdicts past)) (proposals past)

-- the rows of the proposals that their verdicts accept, the oldest first: verdict number t decides ticket t
abbrev pub accepted_among : List Proposal → List Verdict → List (List Row)
accepted_among ps [] = []
accepted_among [] (v ∷ vs) = []
accepted_among (p ∷ ps) (v ∷ vs) = if is_accepted v then p.rows ∷ accepted_among ps vs else accepted_among ps vs

abbrev pub accepted : List Entry → List (List Row)
accepted past = accepted_among (proposals past) (verdicts past)

-- the rows of the first of these proposals
abbrev pub first_rows : List Proposal → List Row
first_rows [] = []
first_rows (p ∷ ps) = p.rows

-- whether a receipt is given and accepts
abbrev pub accepts : Option Receipt → Bool
accepts None = false
accepts (Some receipt) = is_accepted receipt.verdict

abbrev pub is_accepting : Reply → Bool
is_accepting reply = accepts (receipt_given reply)

-- whether the entry accepts a proposal
abbrev pub is_acceptance : Event → Reply → Bool
is_acceptance Check reply = is_accepting reply
is_acceptance _ reply = false

-- the rows that an entry withdraws, where it withdraws any: they give variables of its entity the values that were observed
abbrev pub withdrawal_in : Event → Reply → Option (List Row)
withdrawal_in (Withdraw entity) reply = rows_withdrawn reply
withdrawal_in _ reply = None

-- whether an entry overlays the target, and so makes its next version: it accepts a proposal or withdraws rows
abbrev pub makes_version : Event → Reply → Bool
makes_version Check reply = is_accepting reply
makes_version (Withdraw entity) reply = is_some (rows_withdrawn reply)
makes_version _ reply = false

-- what an entry overlays the target with: where it accepts, the rows of the oldest proposal that waits; and what it withdraws
abbrev pub overlay_in : Event → Reply → List Row → Option (List Row)
overlay_in Check reply first = if is_accepting reply then Some first else None
overlay_in (Submit app rows) reply first = None
overlay_in (Lock app entity prio) reply first = None
overlay_in (Unlock app entity prio) reply first = None
overlay_in (Send entity) reply first = None
overlay_in (Deliver number) reply first = None
overlay_in (Finish entity) reply first = None
overlay_in (Report entity) reply first = None
overlay_in (Hear number) reply first = None
overlay_in (Fail entity vals health) reply first = None
overlay_in (Withdraw entity) reply first = rows_withdrawn reply

abbrev pub with_overlay : Option (List Row) → List (List Row) → List (List Row)
with_overlay None before = before
with_overlay (Some rows) before = before ++ rows ∷ []

-- what the target is overlaid with, in the order of entries
abbrev pub overlays : List Entry → List (List Row)
overlays [] = []
overlays (entry ∷ past) = with_overlay (overlay_in entry.event entry.reply (first_rows (pending past))) (overlays past)

-- the rows of each withdrawal, the oldest first
abbrev pub withdrawn : List Entry → List (List Row)
withdrawn [] = []
withdrawn (entry ∷ past) = with_overlay (withdrawal_in entry.event entry.reply) (withdrawn past)

-- the number of overlays
abbrev pub version : List Entry → ℕ
version past = length (overlays past)

-- the value of a variable in the target
abbrev pub target : Group → List Entry → Entity → Var → ℕ
target g past = merge_of g (overlays past)
