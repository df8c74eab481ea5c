-- The small group, its passes and the fronts of its journal on which the worked examples of this crate stand.
use Rattle.std.proofs.Common.{ℕ, List, [], ◌∷◌, ◌++◌}
use Rattle.std.specs.Prelude.{false, codes}
use Rattle.st_net.specs.declared.entity.AppId.{AppId}
use Rattle.st_net.specs.declared.entity.Entity.{Entity}
use Rattle.st_net.specs.declared.entity.Entity.TheVariants.{Device}
use Rattle.st_net.specs.declared.entity.Prio.TheVariants.{Low}
use Rattle.st_net.specs.declared.entity.Row.{Row}
use Rattle.st_net.specs.declared.entity.Var.TheVariants.{Firmware}
use Rattle.st_net.specs.declared.entity.Vals.{Vals}
use Rattle.st_net.specs.Groups.{Group, no_group}
use Rattle.st_event.specs.declared.event.Event.{Event}
use Rattle.st_event.specs.declared.event.Event.TheVariants.{Submit, Check, Lock, Unlock, Send, Deliver, Finish, Report, Hear}
use Rattle.st_event.specs.declared.journal.Entry.{Entry}
use Rattle.st_event.specs.declared.reply.Reply.TheVariants.{Granted, Idle, Released}
use Rattle.st_event.specs.Services.{entry_after}
use Rattle.st_service.specs.Made.{Made, past_in}

abbrev pub usual : Vals
usual = record { v0 = 1; v1 = 1; v2 = 1; v3 = 1 }

-- one switch, whose variables open with 1
abbrev pub small : Group
small = record no_group {
  name = codes "dc1";
  device_names = codes "a1" ∷ [];
  devices = record { tor = false; vals = usual; health = 5 } ∷ [];
}

abbrev pub a1 : Entity
a1 = Device 0

-- the application of pass n
abbrev pub app : ℕ → AppId
app n = record { 0 = n }

-- rows that set the switch's firmware
abbrev pub firmware : ℕ → List Row
firmware value = record { entity = a1; var = Firmware; value = value } ∷ []

-- entries that stand for themselves
abbrev pub lock : ℕ → Entry
lock n = record { event = Lock (app n) a1 Low; reply = Granted }

abbrev pub unlock : ℕ → Entry
unlock n = record { event = Unlock (app n) a1 Low; reply = Released }

abbrev pub idle : Entry
idle = record { event = Check; reply = Idle }

abbrev pub made : ℕ → Entry → Made
made n entry = record { by = n; entry = entry }

-- what these events of pass n leave behind a front, each with the reply that it calls for
abbrev pub then_by : List Made → ℕ → List Event → List Made
then_by front n [] = front
then_by front n (event ∷ events) = then_by (front ++ made n (entry_after small (past_in front) event) ∷ []) n events

-- pass 0 proposes another firmware
abbrev pub proposed : List Made
proposed = then_by [] 0 (Submit (app 0) (firmware 2) ∷ [])

-- pass 1 decides it, and it is accepted
abbrev pub decided : List Made
decided = then_by proposed 1 (Check ∷ [])

-- pass 0 makes the turn of the switch
abbrev pub turned : List Made
turned = then_by decided 0 (Send a1 ∷ Deliver 1 ∷ Finish a1 ∷ Report a1 ∷ Hear 1 ∷ [])
