-- What a round does: each entity that is not settled is sent its command, or what can't be set of it is withdrawn; it finishes, and reports.
use Rattle.std.specs.Prelude.{◌≡◌, ℕ, Option, Some, None, Bool, true, false, not, ◌&&◌, ◌==◌, ◌⊎◌, nat_lt, List, [], ◌∷◌, ◌++◌, length, map, if◌then◌else◌}
use Rattle.std.specs.List.{filter}
use Rattle.st_net.specs.declared.entity.Entity.{Entity}
use Rattle.st_net.specs.declared.entity.Var.{Var}
use Rattle.st_net.specs.Entities.{is_same_entity, value_of}
use Rattle.st_net.specs.declared.message.Report.{Report}
use Rattle.st_net.specs.Groups.{Group}
use Rattle.st_net.specs.InOrder.{entities_of}
use Rattle.st_event.specs.declared.event.Event.{Event}
use Rattle.st_event.specs.declared.event.Event.TheVariants.{Send, Deliver, Finish, Report as make_report, Hear, Withdraw}
use Rattle.st_event.specs.declared.reply.Reply.{Reply}
use Rattle.st_event.specs.declared.reply.Reply.TheVariants.{Queued, Full as full_queue, Decided, Idle, Granted, Held, Released, NotYours, Sent, Settled, Blocked, Begun, Stale, NoSuch, Done, NotBusy, Reported, Taken, Old, Changed, Withdrawn, Kept}
use Rattle.st_event.specs.declared.journal.Entry.{Entry}
use Rattle.st_event.specs.declared.journal.TheConstants.{MAX_ENTRIES}
use Rattle.st_event.specs.Moments.{is_sent, is_fail_of}
use Rattle.st_event.specs.Observed.{is_settled, observed}
use Rattle.st_event.specs.Services.{entry_after}
use Rattle.st_wire.specs.declared.line.WireKind.{WireKind}
use Rattle.st_wire.specs.declared.line.WireKind.TheVariants.{Command as command_kind, Report as report_kind}
use Rattle.st_wire.specs.declared.line.WireLine.{WireLine}
use Rattle.st_wire.specs.Deliveries.{deliveries}
use Rattle.st_world.specs.World.{WorldView, IsBeginning}
use Rattle.st_world.specs.declared.world.rounds.Going.{Going}
use Rattle.st_world.specs.declared.world.rounds.Going.TheVariants.{On, Full}
use Rattle.st_world.specs.declared.world.rounds.Message.{Message}
use Rattle.st_world.specs.declared.world.rounds.Rounded.{Rounded}
use Rattle.st_world.specs.declared.world.rounds.Rounded.TheVariants.{Did, JournalFull}

-- a journal, and whether an event met the journal full: then nothing more is entered
pub record Course : Type 0 where
  pub past : List Entry
  pub stopped : Bool

abbrev pub course_from : List Entry → Course
course_from past = record { past = past; stopped = false }

-- an event with its reply, where there is room
abbrev pub enter : Group → Course → Event → Course
enter g course event =
    if course.stopped then course else (if nat_lt (length course.past) MAX_ENTRIES then record { past = entry_after g course.past event ∷ course.past; stopped = false } else record { past = course.past; stopped = true })

abbrev pub enter_all : Group → Course → List Event → Course
enter_all g course [] = course
enter_all g course (event ∷ events) = enter_all g (enter g course event) events

-- what follows an entry of this reply, the newest of the journal: the arrivals of the turn of the message that was sent or made
abbrev pub follow_ups_of : Group → List WireLine → List Entry → Reply → List Event
follow_ups_of g lines past (Sent n) = map Deliver (deliveries lines command_kind n)
follow_ups_of g lines past (Reported n) = map Hear (deliveries lines report_kind n)
follow_ups_of g lines past (Queued ticket) = []
follow_ups_of g lines past (full_queue pending) = []
follow_ups_of g lines past (Decided receipt) = []
follow_ups_of g lines past Idle = []
follow_ups_of g lines past Granted = []
follow_ups_of g lines past (Held holder) = []
follow_ups_of g lines past Released = []
follow_ups_of g lines past (NotYours holder) = []
follow_ups_of g lines past Settled = []
follow_ups_of g lines past (Blocked row) = []
follow_ups_of g lines past Begun = []
follow_ups_of g lines past (Stale fence) = []
follow_ups_of g lines past (NoSuch made) = []
follow_ups_of g lines past Done = []
follow_ups_of g lines past NotBusy = []
follow_ups_of g lines past Taken = []
follow_ups_of g lines past (Old kept) = []
follow_ups_of g lines past Changed = []
follow_ups_of g lines past (Withdrawn version rows) = []
follow_ups_of g lines past Kept = []

-- what follows the newest entry
abbrev pub follow_ups : Group → List WireLine → List Entry → List Event
follow_ups g lines [] = []
follow_ups g lines (entry ∷ past) = follow_ups_of g lines (entry ∷ past) entry.reply

-- a message of this kind arrives, by its number; and the arrivals of a message's turn, if there is one
abbrev pub arrival : WireKind → ℕ → Event
arrival command_kind = Deliver
arrival report_kind = Hear

abbrev pub arrivals_of : List WireLine → Option Message → List Event
arrivals_of lines None = []
arrivals_of lines (Some message) = map (arrival message.kind) (deliveries lines message.kind message.number)

-- an event, and then what follows its entry
abbrev pub enter_told : Group → List WireLine → Course → Event → Course
enter_told g lines course event = let next = enter g course event in enter_all g next (follow_ups g lines next.past)

-- whether an entity with these values is blocked by a row that would change one
abbrev pub blocks_change : (Var → ℕ) → Reply → Bool
blocks_change value (Blocked row) = not (value row.var == row.value)
blocks_change value _ = false

-- whether the newest entry says so of an entity, by what was observed of it
abbrev pub is_called_back : Group → List Entry → Entity → Bool
is_called_back g [] e = false
is_called_back g (entry ∷ past) e = blocks_change (value_of e (observed g (entry ∷ past) e).vals) entry.reply

-- then what it is to become is withdrawn
abbrev pub called_back : Group → Course → Entity → Course
called_back g course e = if is_called_back g course.past e then enter g course (Withdraw e) else course

-- the half of an entity's turn that updates it: Send with the arrivals of its command, or with a Withdraw where it was blocked by a row that
-- would change a value; and Finish
abbrev pub send_turn : Group → List WireLine → Course → Entity → Course
send_turn g lines course e = called_back g (enter_told g lines course (Send e)) e

abbrev pub update_turn : Group → List WireLine → Course → Entity → Course
update_turn g lines course e = enter g (send_turn g lines course e) (Finish e)

-- the half of an entity's turn that monitors the entity: Report with the arrivals of its report
abbrev pub poll : Group → List WireLine → Course → Entity → Course
poll g lines course e = enter_told g lines course (make_report e)

-- the turn of an entity: the one half and then the other
abbrev pub turn : Group → List WireLine → Course → Entity → Course
turn g lines course e = poll g lines (update_turn g lines course e) e

abbrev pub turns : Group → List WireLine → Course → List Entity → Course
turns g lines course [] = course
turns g lines course (e ∷ es) = turns g lines (turn g lines course e) es

-- the entities that are not settled, in order
abbrev pub unsettled : Group → List Entry → List Entity
unsettled g past = filter (λ e. not (is_settled g past e)) (entities_of g)

-- a round: the turns of the entities that are not settled at the start of the round
abbrev pub round : Group → List WireLine → List Entry → Course
round g lines past = turns g lines (course_from past) (unsettled g past)

-- all of a round was entered, and so many entities are not settled behind it; or an event of the round met a full journal
abbrev pub Rounds : WorldView → WorldView → Rounded → Type 0
Rounds old new (Did count) = (round old.history.group old.lines old.history.past ≡ record { past = new.history.past; stopped = false }) × (count ≡ length (unsettled new.history.group new.history.past))
Rounds old new (JournalFull entries) = (round old.history.group old.lines old.history.past ≡ record { past = new.history.past; stopped = true }) × (entries ≡ MAX_ENTRIES)

-- how a course stands, by the world that went through the course and by whether an event met a full journal
abbrev pub is_full : Going → Bool
is_full On = false
is_full Full = true

abbrev pub course_with : Going → WorldView → Course
course_with going w = record { past = w.history.past; stopped = is_full going }

-- the world has gone through a course, and the answer tells whether an event met a full journal
abbrev pub Goes : WorldView → Course → Going → Type 0
Goes new course going = course_with going new ≡ course

-- a part of a course was entered, from the course's start
pub record IsPartOf (old new : WorldView) (course : Course) : Type 0 where
  pub began : IsBeginning old.history.past new.history.past
  pub part : IsBeginning new.history.past course.past

-- the group and the loss plan are as before
pub record HasSameSetting (old new : WorldView) : Type 0 where
  pub group : new.history.group ≡ old.history.group
  pub lines : new.lines ≡ old.lines

-- these entries send the entity a command
abbrev pub is_sending : Entity → Event → Bool
is_sending e (Send at) = is_same_entity at e
is_sending e _ = false

abbrev pub WasSent : List Entry → Entity → Type 0
WasSent [] e = ⊥
WasSent (entry ∷ past) e = ((is_sending e entry.event && is_sent entry.reply) ≡ true) ⊎ WasSent past e

-- the entity never failed
abbrev pub NeverFailed : List Entry → Entity → Type 0
NeverFailed [] e = Unit {0}
NeverFailed (entry ∷ past) e = (is_fail_of e entry.event ≡ false) × NeverFailed past e

-- of a loss plan without lines, each entity that was sent a command in the round and never failed is settled behind the round
pub record SettlesSent (old new : WorldView) : Type 0 where
  pub made : List Entry
  pub all : new.history.past ≡ made ++ old.history.past
  pub settled : old.lines ≡ [] → (e : Entity) → WasSent made e → NeverFailed new.history.past e → is_settled new.history.group new.history.past e ≡ true

abbrev pub DidSettle : WorldView → WorldView → Rounded → Type 0
DidSettle old new (Did count) = SettlesSent old new
DidSettle old new (JournalFull entries) = Unit {0}

-- which entity a Withdraw is of, and which one a blocked Send calls for a Withdraw of
abbrev pub withdraws : Event → Option Entity
withdraws (Withdraw e) = Some e
withdraws _ = None

abbrev pub calls_by : (Entity → Report) → Event → Reply → Option Entity
calls_by observed (Send e) reply = if blocks_change (value_of e (observed e).vals) reply then Some e else None
calls_by observed _ reply = None

-- the entity that the newest of these entries calls for a Withdraw of; `past` are the entries before them
abbrev pub calls_for : Group → List Entry → List Entry → Option Entity
calls_for g [] past = None
calls_for g (entry ∷ made) past = calls_by (observed g (entry ∷ made ++ past)) entry.event entry.reply

-- each of these entries is a Withdraw exactly where the one directly before it calls for it, and then of that entity
abbrev pub AnswersCalls : Group → List Entry → List Entry → Type 0
AnswersCalls g [] past = Unit {0}
AnswersCalls g (entry ∷ made) past = (withdraws entry.event ≡ calls_for g made past) × AnswersCalls g made past

-- a world made these entries; a Withdraw stands directly behind each Send of them that calls for it, but for the last entry, and nowhere else
pub record WithdrawsInTurn (old new : WorldView) : Type 0 where
  pub made : List Entry
  pub all : new.history.past ≡ made ++ old.history.past
  pub answers : AnswersCalls old.history.group made old.history.past

-- and the last one calls for none
pub record WithdrawsAll (old new : WorldView) : Type 0 where
  pub made : List Entry
  pub all : new.history.past ≡ made ++ old.history.past
  pub answers : AnswersCalls old.history.group made old.history.past
  pub no_more : calls_for old.history.group made old.history.past ≡ None

abbrev pub DidWithdraw : WorldView → WorldView → Rounded → Type 0
DidWithdraw old new (Did count) = WithdrawsAll old new
DidWithdraw old new (JournalFull entries) = WithdrawsInTurn old new
