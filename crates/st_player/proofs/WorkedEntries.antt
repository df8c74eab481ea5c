-- Worked examples: what is told of entries, and which of them a page has room for.
use Rattle.std.proofs.Common.{◌≡◌, ℕ, Bool, true, false, List, [], ◌∷◌, Option, Some, None, refl, codes}
use Rattle.serde_json.specs.Data.{null, array, no_items, item}
use Rattle.st_net.specs.declared.entity.Entity.TheVariants.{Device, Link}
use Rattle.st_net.specs.declared.entity.Prio.TheVariants.{High}
use Rattle.st_net.specs.declared.entity.Var.TheVariants.{Firmware}
use Rattle.st_net.specs.declared.topo.DeviceOpening.{DeviceOpening}
use Rattle.st_net.specs.Groups.{Group, no_group}
use Rattle.st_event.specs.declared.event.Event.{Event}
use Rattle.st_event.specs.declared.event.Event.TheVariants.{Submit, Check, Lock, Send, Deliver, Hear}
use Rattle.st_event.specs.declared.journal.Entry.{Entry}
use Rattle.st_event.specs.Replies.{reply}
use Rattle.st_player.specs.Entries.{about, asked_of, lost_from, turned_data}
use Rattle.st_player.specs.Pictures.{fitting}

abbrev device : Bool → DeviceOpening
device tor = record { tor = tor; vals = record { v0 = 1; v1 = 1; v2 = 1; v3 = 1 }; health = 5 }

-- devices a and b, and a link of them
abbrev q : Group
q = record no_group {
  name = codes "g";
  device_names = codes "a" ∷ codes "b" ∷ [];
  link_names = codes "l" ∷ [];
  devices = device true ∷ device true ∷ [];
  links = record { a = 0; b = 1; capacity = 10; vals = record { v0 = 1; v1 = 1; v2 = 0; v3 = 0 }; health = 1 } ∷ [];
}

abbrev answered : List Entry → Event → Entry
answered past event = record { event = event; reply = reply q past event }

abbrev run : List Event → List Entry → List Entry
run [] past = past
run (event ∷ events) past = run events (answered past event ∷ past)

abbrev change : Event
change = Submit (record { 0 = 0 }) (record { entity = Device 1; var = Firmware; value = 2 } ∷ [])

abbrev about_next : List Event → Event → List ℕ
about_next events event = about q (run events []) (answered (run events []) event)

-- a proposal is about the entities of its rows, and the check that decides it too
proposed : about_next [] change ≡ 1 ∷ []
proposed = refl

decided : about_next (change ∷ []) Check ≡ 1 ∷ []
decided = refl

-- a check where nothing waits is about nothing
idle : about_next [] Check ≡ []
idle = refl

-- a lock is about its entity; a link stands behind all devices
locked : about_next [] (Lock (record { 0 = 0 }) (Link 0) High) ≡ 2 ∷ []
locked = refl

-- a delivery is about the entity of its command, where there is one
delivered : about_next (change ∷ Check ∷ Send (Device 1) ∷ []) (Deliver 1) ≡ 1 ∷ []
delivered = refl

no_command : about_next (change ∷ Check ∷ Send (Device 1) ∷ []) (Deliver 2) ≡ []
no_command = refl

no_report : about_next [] (Hear 1) ≡ []
no_report = refl

abbrev asked_next : List Event → Event → Option ℕ
asked_next events event = asked_of (run events []) event (reply q (run events []) event)

-- the entry that gave the ticket of a check that decides: its own number, not that of the ticket
asked_second : asked_next (Send (Device 0) ∷ change ∷ []) Check ≡ Some 2
asked_second = refl

asked_nothing : asked_next [] Check ≡ None
asked_nothing = refl

not_asked : asked_next (change ∷ []) (Send (Device 0)) ≡ None
not_asked = refl

-- the promises that hold before and not after
lost_one : lost_from 0 (true ∷ true ∷ false ∷ false ∷ []) (true ∷ false ∷ true ∷ false ∷ []) ≡ 1 ∷ []
lost_one = refl

-- nothing is told where none turned
none_turned : turned_data [] [] ≡ None
none_turned = refl

-- as many entries as there is room for, with a comma behind each
two_fit : fitting 14 (null ∷ null ∷ null ∷ []) ≡ null ∷ null ∷ []
two_fit = refl

just_fits : fitting 5 (null ∷ null ∷ []) ≡ null ∷ []
just_fits = refl

none_fits : fitting 4 (null ∷ []) ≡ []
none_fits = refl

-- none behind the first that does not fit
none_behind : fitting 10 (null ∷ array (item null no_items) ∷ null ∷ []) ≡ null ∷ []
none_behind = refl
