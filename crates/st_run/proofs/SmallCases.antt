-- Small journals of one switch, and the points of what it is that a script was carried out on them.
use Rattle.std.proofs.Common.{◌≡◌, ℕ, ◌<◌, List, [], ◌∷◌, refl, sym, arith, append-nil}
use Rattle.std.specs.Prelude.{true, false, All, codes}
use Rattle.std.proofs.lemmas.List.Elements.{All-cons}
use Rattle.st_net.specs.declared.entity.AppId.{AppId}
use Rattle.st_net.specs.declared.entity.Entity.{Entity}
use Rattle.st_net.specs.declared.entity.Entity.TheVariants.{Device}
use Rattle.st_net.specs.declared.entity.Row.{Row}
use Rattle.st_net.specs.declared.entity.Vals.{Vals}
use Rattle.st_net.specs.declared.entity.Var.TheVariants.{Firmware, Config}
use Rattle.st_net.specs.Groups.{Group, no_group}
use Rattle.st_event.specs.declared.act.Act.{Act}
use Rattle.st_event.specs.declared.act.LogEntry.{LogEntry}
use Rattle.st_event.specs.declared.act.LogSaw.{LogSaw}
use Rattle.st_event.specs.declared.event.Event.{Event}
use Rattle.st_event.specs.declared.event.Event.TheVariants.{Send, Deliver, Finish, Report, Hear}
use Rattle.st_event.specs.declared.journal.Entry.{Entry}
use Rattle.st_event.specs.declared.reply.Reply.TheVariants.{Queued}
use Rattle.st_event.specs.History.{History}
use Rattle.st_event.specs.Proposals.{is_queued, pending}
use Rattle.st_event.specs.Services.{entry_after}
use Rattle.st_wire.specs.declared.line.WireLine.{WireLine}
use Rattle.st_world.specs.World.{IsBeginning}
use Rattle.st_run.specs.CarriedOn.{AsksAll, AsksInTime, FailsAsAsked, HasTickets, LogsAll, PollsAll, SeesAwaited, SeesNoLess, SeesTruly, SettlesAll}

abbrev pub usual : Vals
usual = record { v0 = 1; v1 = 1; v2 = 1; v3 = 1 }

-- one switch, whose variables open with 1
abbrev pub small : Group
small = record no_group {
  name = codes "dc1";
  device_names = codes "a1" ∷ [];
  devices = record { tor = false; vals = usual; health = 5 } ∷ [];
}

abbrev pub a1 : Entity
a1 = Device 0

abbrev pub app : ℕ → AppId
app n = record { 0 = n }

abbrev pub firmware : ℕ → List Row
firmware value = record { entity = a1; var = Firmware; value = value } ∷ []

abbrev pub config : List Row
config = record { entity = a1; var = Config; value = 3 } ∷ []

-- the group after these events, each with the reply that it calls for
abbrev pub after_all : List Entry → List Event → List Entry
after_all past [] = past
after_all past (event ∷ events) = after_all (entry_after small past event ∷ past) events

abbrev pub journal : List Event → History
journal events = record { group = small; past = after_all [] events }

abbrev pub the_turn : List Event
the_turn = Send a1 ∷ Deliver 1 ∷ Finish a1 ∷ Report a1 ∷ Hear 1 ∷ []

abbrev pub line : LogSaw → LogEntry
line saw = record { group = 0; entity = a1; var = Firmware; saw = saw }

-- nothing stands in an empty list
pub none_at : {P : Type 0} (k : ℕ) → k < 0 → P
none_at k lt = absurd (omega (arith, lt))

-- all of none, and of one
pub all_none : {X : Type 0} (P : X → Type 0) → All P []
all_none P k d lt = absurd (omega (arith, lt))

pub all_one : {X : Type 0} (P : X → Type 0) (x : X) → P x → All P (x ∷ [])
all_one P x is = All-cons P x [] is (all_none P)

-- what is asked of no command that makes no request
pub idle : {P : Type 0} → false ≡ true → P
idle none = absurd (cc none)

-- a script of application 0 with its log, and the journal of the switch, over these wire lines
pub record Case : Type 0 where
  pub acts : List Act
  pub log : List LogEntry
  pub past : List Entry
  pub lines : List WireLine

-- a script without a log on these events, and one with a log
abbrev pub of : List Act → List Event → Case
of acts events = record { acts = acts; log = []; past = after_all [] events; lines = [] }

abbrev pub with_log : List Act → List Event → List LogEntry → Case
with_log acts events log = record { acts = acts; log = log; past = after_all [] events; lines = [] }

-- the points, each of a case
abbrev pub history : Case → History
history c = record { group = small; past = c.past }

abbrev pub Asked : Case → Type 0
Asked c = AsksAll (app 0) 0 c.acts (history c)

abbrev pub Given : Case → Type 0
Given c = HasTickets (app 0) (history c)

abbrev pub Timely : Case → Type 0
Timely c = AsksInTime (app 0) 0 c.acts (history c)

abbrev pub Settled : Case → Type 0
Settled c = SettlesAll (app 0) 0 c.acts (history c) c.lines

abbrev pub Truly : Case → Type 0
Truly c = SeesTruly 0 c.log (history c)

abbrev pub Awaited : Case → Type 0
Awaited c = SeesAwaited (app 0) 0 c.acts c.log (history c)

abbrev pub Decided : Case → Type 0
Decided c = pending c.past ≡ []

abbrev pub Failed : Case → Type 0
Failed c = FailsAsAsked (c.acts ∷ []) 0 (history c)

abbrev pub Polled : Case → Type 0
Polled c = PollsAll (c.acts ∷ []) 0 (history c) c.lines

abbrev pub Each : Case → Type 0
Each c = LogsAll c.acts c.log

abbrev pub NoLess : Case → Type 0
NoLess c = SeesNoLess c.log

-- all points but one
abbrev pub ButAsked : Case → Type 0
ButAsked c = Given c × Timely c × Settled c × Truly c × Awaited c × Decided c × Failed c × Polled c × Each c × NoLess c

abbrev pub ButGiven : Case → Type 0
ButGiven c = Asked c × Timely c × Settled c × Truly c × Awaited c × Decided c × Failed c × Polled c × Each c × NoLess c

abbrev pub ButTimely : Case → Type 0
ButTimely c = Asked c × Given c × Settled c × Truly c × Awaited c × Decided c × Failed c × Polled c × Each c × NoLess c

abbrev pub ButSettled : Case → Type 0
ButSettled c = Asked c × Given c × Timely c × Truly c × Awaited c × Decided c × Failed c × Polled c × Each c × NoLess c

abbrev pub ButTruly : Case → Type 0
ButTruly c = Asked c × Given c × Timely c × Settled c × Awaited c × Decided c × Failed c × Polled c × Each c × NoLess c

abbrev pub ButAwaited : Case → Type 0
ButAwaited c = Asked c × Given c × Timely c × Settled c × Truly c × Decided c × Failed c × Polled c × Each c × NoLess c

abbrev pub ButDecided : Case → Type 0
ButDecided c = Asked c × Given c × Timely c × Settled c × Truly c × Awaited c × Failed c × Polled c × Each c × NoLess c

abbrev pub ButFailed : Case → Type 0
ButFailed c = Asked c × Given c × Timely c × Settled c × Truly c × Awaited c × Decided c × Polled c × Each c × NoLess c

abbrev pub ButPolled : Case → Type 0
ButPolled c = Asked c × Given c × Timely c × Settled c × Truly c × Awaited c × Decided c × Failed c × Each c × NoLess c

abbrev pub ButEach : Case → Type 0
ButEach c = Asked c × Given c × Timely c × Settled c × Truly c × Awaited c × Decided c × Failed c × Polled c × NoLess c

abbrev pub ButNoLess : Case → Type 0
ButNoLess c = Asked c × Given c × Timely c × Settled c × Truly c × Awaited c × Decided c × Failed c × Polled c × Each c

-- nothing failed, and nothing was asked to fail
pub none_failed : All (λ (l : List Act). l ≡ []) ([] ∷ [])
none_failed = all_one (λ (l : List Act). l ≡ []) [] refl

-- any journal begins with nothing
pub from_nothing : (past : List Entry) → IsBeginning [] past
from_nothing past = (past, sym (append-nil past))

-- a proposal was given its ticket
pub one_ticket : All (λ reply. is_queued reply ≡ true) (Queued 1 ∷ [])
one_ticket = all_one (λ reply. is_queued reply ≡ true) (Queued 1) refl
