-- Small groups and their journals, for the laws that are computed.
use Rattle.std.proofs.Common.{ℕ, List, [], ◌∷◌}
use Rattle.std.specs.Prelude.{Bool, true, false, map, reverse, codes}
use Rattle.st_net.specs.declared.entity.Entity.{Entity}
use Rattle.st_net.specs.declared.entity.Entity.TheVariants.{Device}
use Rattle.st_net.specs.declared.entity.Var.{Var}
use Rattle.st_net.specs.declared.entity.Vals.{Vals}
use Rattle.st_net.specs.declared.entity.Row.{Row}
use Rattle.st_net.specs.declared.entity.AppId.{AppId}
use Rattle.st_event.specs.declared.event.Event.{Event}
use Rattle.st_event.specs.declared.event.Event.TheVariants.{Submit}
use Rattle.st_event.specs.declared.reply.Reply.{Reply}
use Rattle.st_event.specs.declared.reply.Reply.TheVariants.{Decided}
use Rattle.st_event.specs.declared.reply.Verdict.{Verdict}
use Rattle.st_event.specs.declared.reply.Verdict.TheVariants.{Refused}
use Rattle.st_event.specs.declared.reply.Cause.TheVariants.{Broken as broken_cause}
use Rattle.st_net.specs.declared.promise.BrokenKind.{BrokenKind}
use Rattle.st_net.specs.declared.promise.BrokenOf.TheVariants.{Promise as of_promise}
use Rattle.st_event.specs.declared.journal.Entry.{Entry}
use Rattle.st_net.specs.declared.topo.DeviceOpening.{DeviceOpening}
use Rattle.st_net.specs.declared.topo.LinkOpening.{LinkOpening}
use Rattle.st_net.specs.Groups.{Group, no_group}
use Rattle.st_event.specs.Replies.{reply}

-- values of a device, and of a link
abbrev pub device_vals : ℕ → ℕ → ℕ → ℕ → Vals
device_vals power firmware config routing = record { v0 = power; v1 = firmware; v2 = config; v3 = routing }

abbrev pub usual : Vals
usual = device_vals 1 1 1 1

abbrev pub device : Bool → Vals → ℕ → DeviceOpening
device tor vals health = record { tor = tor; vals = vals; health = health }

abbrev pub wide_link : ℕ → ℕ → ℕ → LinkOpening
wide_link a b capacity = record { a = a; b = b; capacity = capacity; vals = record { v0 = 1; v1 = 1; v2 = 0; v3 = 0 }; health = 1 }

abbrev pub link : ℕ → ℕ → LinkOpening
link a b = wide_link a b 10

-- two ToRs, each linked to two switches, with one promise between the two; the switches open so
abbrev pub two_paths : ℕ → DeviceOpening → DeviceOpening → Group
two_paths percent a1 a2 = record no_group {
  name = codes "dc1";
  device_names = codes "t1" ∷ codes "t2" ∷ codes "a1" ∷ codes "a2" ∷ [];
  link_names = codes "l1" ∷ codes "l2" ∷ codes "l3" ∷ codes "l4" ∷ [];
  devices = device true usual 5 ∷ device true usual 5 ∷ a1 ∷ a2 ∷ [];
  links = link 0 2 ∷ link 0 3 ∷ link 1 2 ∷ link 1 3 ∷ [];
  promises = record { a = 0; b = 1; percent = percent } ∷ [];
}

abbrev pub small : ℕ → Group
small percent = two_paths percent (device false usual 5) (device false usual 5)

abbrev pub q : Group
q = small 50

-- three ToRs at one switch, with a promise from the first to each of the others; the second ToR opens so
abbrev pub two_promises : DeviceOpening → Group
two_promises t2 = record no_group {
  name = codes "dc1";
  device_names = codes "t1" ∷ codes "t2" ∷ codes "t3" ∷ codes "a1" ∷ [];
  link_names = codes "l1" ∷ codes "l2" ∷ codes "l3" ∷ [];
  devices = device true usual 5 ∷ t2 ∷ device true usual 5 ∷ device false usual 5 ∷ [];
  links = link 0 3 ∷ link 1 3 ∷ link 2 3 ∷ [];
  promises = record { a = 0; b = 1; percent = 50 } ∷ record { a = 0; b = 2; percent = 80 } ∷ [];
}

abbrev pub t1 : Entity
t1 = Device 0

abbrev pub a1 : Entity
a1 = Device 2

abbrev pub a2 : Entity
a2 = Device 3

-- the journal of these events, each with the reply that it calls for
abbrev pub run : Group → List Event → List Entry → List Entry
run g [] past = past
run g (event ∷ events) past = run g events (record { event = event; reply = reply g past event } ∷ past)

abbrev pub after : Group → List Event → List Entry
after g events = run g events []

abbrev pub replies : Group → List Event → List Reply
replies g events = map (λ entry. entry.reply) (reverse (after g events))

-- two applications
abbrev pub app : ℕ → AppId
app n = record { 0 = n }

abbrev pub te : AppId
te = app 0

abbrev pub up : AppId
up = app 1

abbrev pub row : Entity → Var → ℕ → Row
row e v value = record { entity = e; var = v; value = value }

abbrev pub propose : AppId → Entity → Var → ℕ → Event
propose by e v value = Submit by (row e v value ∷ [])

abbrev pub decided : ℕ → ℕ → Verdict → Reply
decided ticket entry verdict = Decided (record { ticket = ticket; entry = entry; verdict = verdict })

-- the promise is broken so, and the first ToR alone is the least side
abbrev pub breaks : BrokenKind → ℕ → ℕ → Verdict
breaks kind need has = Refused (broken_cause (record { of = of_promise 0; kind = kind; need = need; has = has; side = 0 ∷ [] }))
