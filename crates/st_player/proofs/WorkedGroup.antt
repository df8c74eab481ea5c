-- The group of the worked examples of states, cuts, refusals and losses: two ToRs, each linked to two switches, and journals with the replies
-- that their events call for.
use Rattle.std.proofs.Common.{ℕ, true, false, Bool, List, [], ◌∷◌, codes}
use Rattle.st_net.specs.declared.entity.Entity.{Entity}
use Rattle.st_net.specs.declared.entity.Entity.TheVariants.{Device, Link}
use Rattle.st_net.specs.declared.entity.Row.{Row}
use Rattle.st_net.specs.declared.entity.Vals.{Vals}
use Rattle.st_net.specs.declared.entity.Var.{Var}
use Rattle.st_net.specs.declared.topo.DeviceOpening.{DeviceOpening}
use Rattle.st_net.specs.declared.topo.LinkOpening.{LinkOpening}
use Rattle.st_net.specs.Groups.{Group, no_group}
use Rattle.st_event.specs.declared.event.Event.{Event}
use Rattle.st_event.specs.declared.event.Event.TheVariants.{Submit}
use Rattle.st_event.specs.declared.journal.Entry.{Entry}
use Rattle.st_event.specs.Replies.{reply}

abbrev pub usual : Vals
usual = record { v0 = 1; v1 = 1; v2 = 1; v3 = 1 }

abbrev device : Bool → DeviceOpening
device tor = record { tor = tor; vals = usual; health = 5 }

abbrev link : ℕ → ℕ → ℕ → LinkOpening
link a b capacity = record { a = a; b = b; capacity = capacity; vals = record { v0 = 1; v1 = 1; v2 = 0; v3 = 0 }; health = 1 }

-- devices t1, t2, a1, a2; links l1 to l4, of which l3 has this capacity; t1 is promised so much of what it can have to t2
abbrev pub two_paths : ℕ → ℕ → Group
two_paths third percent = record no_group {
  name = codes "dc1";
  device_names = codes "t1" ∷ codes "t2" ∷ codes "a1" ∷ codes "a2" ∷ [];
  link_names = codes "l1" ∷ codes "l2" ∷ codes "l3" ∷ codes "l4" ∷ [];
  devices = device true ∷ device true ∷ device false ∷ device false ∷ [];
  links = link 0 2 10 ∷ link 0 3 10 ∷ link 1 2 third ∷ link 1 3 10 ∷ [];
  promises = record { a = 0; b = 1; percent = percent } ∷ [];
}

abbrev pub q : Group
q = two_paths 10 50

abbrev pub a1 : Entity
a1 = Device 2

abbrev pub a2 : Entity
a2 = Device 3

abbrev pub l3 : Entity
l3 = Link 2

abbrev pub l4 : Entity
l4 = Link 3

abbrev pub answered : Group → List Entry → Event → Entry
answered g past event = record { event = event; reply = reply g past event }

abbrev run_on : Group → List Event → List Entry → List Entry
run_on g [] past = past
run_on g (event ∷ events) past = run_on g events (answered g past event ∷ past)

abbrev pub run : Group → List Event → List Entry
run g events = run_on g events []

-- application 0 asks for these rows
abbrev pub asks : List Row → Event
asks rows = Submit (record { 0 = 0 }) rows

abbrev pub row : Entity → Var → ℕ → Row
row e v value = record { entity = e; var = v; value = value }
