-- A worked journal: a2 fails, and no report tells of it. So a change of a1 is accepted, and once it begins, the promise is lost in the network,
-- and held in the sure set, where a2 still counts. It is back in the network when a2 is.
use Rattle.std.proofs.Common.{◌≡◌, true, false, Bool, List, [], ◌∷◌, Some, None, refl, codes}
use Rattle.serde_json.specs.Data.{no_members, object, put}
use Rattle.st_net.specs.declared.entity.Entity.{Entity}
use Rattle.st_net.specs.declared.entity.Var.TheVariants.{Routing}
use Rattle.st_net.specs.Groups.{Group}
use Rattle.st_event.specs.declared.event.Event.{Event}
use Rattle.st_event.specs.declared.event.Event.TheVariants.{Check, Send, Deliver, Finish, Report, Hear, Fail}
use Rattle.st_event.specs.declared.journal.Entry.{Entry}
use Rattle.st_event.specs.Observed.{actual, sure}
use Rattle.st_player.specs.Entries.{turned_of}
use Rattle.st_player.specs.Json.{numbers_data}
use Rattle.st_player.specs.Snapshots.{held_of}
use Rattle.st_player.proofs.WorkedGroup.{a1, a2, answered, asks, q, row, run, usual}

abbrev fails : Event
fails = Fail a2 usual 0

abbrev before : List Event
before = fails ∷ asks (row a1 Routing 0 ∷ []) ∷ Check ∷ Send a1 ∷ []

abbrev begun : List Event
begun = fails ∷ asks (row a1 Routing 0 ∷ []) ∷ Check ∷ Send a1 ∷ Deliver 1 ∷ []

abbrev heard : List Event
heard = fails ∷ asks (row a1 Routing 0 ∷ []) ∷ Check ∷ Send a1 ∷ Deliver 1 ∷ Finish a1 ∷ Report a1 ∷ Hear 1 ∷ []

-- which promises turn at an event
abbrev turns : (Group → List Entry → Entity → Bool) → List Event → Event → List Bool × List Bool
turns up events event = (held_of q (run q events) up, held_of q (answered q (run q events) event ∷ run q events) up)

-- the failure alone takes nothing away, as a1 carries; nor does the check
failure : turns actual [] fails ≡ (true ∷ [], true ∷ [])
failure = refl

accepted : turns actual (fails ∷ asks (row a1 Routing 0 ∷ []) ∷ []) Check ≡ (true ∷ [], true ∷ [])
accepted = refl

-- the change begins: lost in the network, and not in the sure set
lost_in_network : turns actual before (Deliver 1) ≡ (true ∷ [], false ∷ [])
lost_in_network = refl

held_in_sure : turns sure before (Deliver 1) ≡ (true ∷ [], true ∷ [])
held_in_sure = refl

tells_network : turned_of (held_of q (run q before) actual) (held_of q (run q begun) actual) ≡ Some (object (put (codes "lost") (numbers_data (0 ∷ [])) no_members))
tells_network = refl

tells_no_sure : turned_of (held_of q (run q before) sure) (held_of q (run q begun) sure) ≡ None
tells_no_sure = refl

-- a2 carries again
back_in_network : turns actual heard (Fail a2 usual 5) ≡ (false ∷ [], true ∷ [])
back_in_network = refl

still_in_sure : turns sure heard (Fail a2 usual 5) ≡ (true ∷ [], true ∷ [])
still_in_sure = refl

tells_back : turned_of (held_of q (run q heard) actual) (held_of q (answered q (run q heard) (Fail a2 usual 5) ∷ run q heard) actual) ≡ Some (object (put (codes "back") (numbers_data (0 ∷ [])) no_members))
tells_back = refl

-- a report tells of the failure: lost in the sure set, where a1 does not count
told_in_sure : turns sure (fails ∷ asks (row a1 Routing 0 ∷ []) ∷ Check ∷ Report a2 ∷ []) (Hear 1) ≡ (true ∷ [], false ∷ [])
told_in_sure = refl
