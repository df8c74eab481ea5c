-- Worked examples: what a picture has of a group, of its states and of its journal.
use Rattle.std.proofs.Common.{◌≡◌, ℕ, true, false, Bool, List, [], ◌∷◌, Some, None, refl, codes}
use Rattle.serde_json.specs.Data.{array, item, no_items, no_members, null, object, put, string}
use Rattle.st_net.specs.declared.topo.DeviceOpening.{DeviceOpening}
use Rattle.st_net.specs.declared.topo.LinkOpening.{LinkOpening}
use Rattle.st_net.specs.Groups.{Group, no_group}
use Rattle.st_event.specs.declared.event.Event.TheVariants.{Deliver}
use Rattle.st_event.specs.declared.journal.Entry.{Entry}
use Rattle.st_event.specs.declared.reply.Reply.TheVariants.{NoSuch}
use Rattle.st_player.specs.declared.state.Carriage.TheVariants.{Up}
use Rattle.st_player.specs.declared.state.Knowledge.TheVariants.{Sure}
use Rattle.st_player.specs.declared.state.State.{State}
use Rattle.st_player.specs.Joined.{joined, joined_behind}
use Rattle.st_player.specs.Json.{number_data, numbers_data}
use Rattle.st_player.specs.Pictures.{after, bytes_of, device_data, first_of, groups_data, kind_in, kinds_of, link_data, lost_data, promise_data, room_of, unkept}

-- a ToR with a link of 10 to a switch, and that with one of 5 to another ToR, which is promised half of what it can have to the first
abbrev device : Bool → DeviceOpening
device tor = record { tor = tor; vals = record { v0 = 1; v1 = 1; v2 = 1; v3 = 1 }; health = 5 }

abbrev link : ℕ → ℕ → ℕ → LinkOpening
link a b capacity = record { a = a; b = b; capacity = capacity; vals = record { v0 = 1; v1 = 1; v2 = 0; v3 = 0 }; health = 1 }

abbrev line : Group
line = record no_group {
  name = codes "g";
  device_names = codes "t" ∷ codes "s" ∷ codes "u" ∷ [];
  link_names = codes "l" ∷ codes "m" ∷ [];
  devices = device true ∷ device false ∷ device true ∷ [];
  links = link 0 1 10 ∷ link 1 2 5 ∷ [];
  promises = record { a = 2; b = 0; percent = 50 } ∷ [];
}

-- a device says whether it is a ToR, a link names its ends as the document does, and a promise what it needs: half of 5, rounded up
tor : device_data line 0 ≡ object (put (codes "name") (string (codes "t")) (put (codes "tor") (number_data 1) no_members))
tor = refl

no_tor : device_data line 1 ≡ object (put (codes "name") (string (codes "s")) no_members)
no_tor = refl

link_of : link_data line 1 ≡ object (put (codes "name") (string (codes "m")) (put (codes "ends") (numbers_data (1 ∷ 2 ∷ [])) (put (codes "capacity") (number_data 5) no_members)))
link_of = refl

promise : promise_data line 0 ≡ object (put (codes "ends") (numbers_data (2 ∷ 0 ∷ [])) (put (codes "percent") (number_data 50) (put (codes "need") (number_data 3) (put (codes "start") (number_data 1) no_members))))
promise = refl

-- states that differ in their stamps
abbrev stamped : ℕ → State
stamped n = record {
  carriage = Up;
  knowledge = Sure;
  untold = false;
  target = record { v0 = 1; v1 = 1; v2 = 1; v3 = 1 };
  seen = record { v0 = 1; v1 = 1; v2 = 1; v3 = 1 };
  real = record { v0 = 1; v1 = 1; v2 = 1; v3 = 1 };
  level = 5;
  works = 5;
  stamp = n;
  fence = 0;
  told = 0;
  health = Some 5;
  low = None;
  high = None;
  is_open = None;
}

-- each state stands once, at its first place
kinds : kinds_of (stamped 4 ∷ stamped 2 ∷ stamped 4 ∷ stamped 3 ∷ stamped 2 ∷ []) ≡ stamped 4 ∷ stamped 2 ∷ stamped 3 ∷ []
kinds = refl

no_kinds : kinds_of [] ≡ []
no_kinds = refl

place : kind_in (stamped 4 ∷ stamped 2 ∷ stamped 3 ∷ []) (stamped 2) ≡ 1
place = refl

first_place : kind_in (stamped 4 ∷ stamped 4 ∷ []) (stamped 4) ≡ 0
first_place = refl

no_place : kind_in (stamped 4 ∷ stamped 2 ∷ []) (stamped 3) ≡ 2
no_place = refl

-- the promises that do not hold
lost_two : unkept (true ∷ false ∷ true ∷ false ∷ []) ≡ 1 ∷ 3 ∷ []
lost_two = refl

lost_none : lost_data (true ∷ true ∷ []) ≡ object (put (codes "lost") (numbers_data []) no_members)
lost_none = refl

-- a journal of three entries, and a page that begins behind some of them, or behind more than there are
abbrev entry : ℕ → Entry
entry n = record { event = Deliver n; reply = NoSuch 0 }

abbrev journal : List Entry
journal = entry 1 ∷ entry 2 ∷ entry 3 ∷ []

first_none : first_of 0 journal ≡ 0
first_none = refl

first_some : first_of 2 journal ≡ 2
first_some = refl

first_all : first_of 3 journal ≡ 3
first_all = refl

first_beyond : first_of 9 journal ≡ 3
first_beyond = refl

-- the newest comes first of those before it
newest_first : after 2 journal ≡ entry 2 ∷ entry 1 ∷ []
newest_first = refl

all_before : after 9 journal ≡ entry 3 ∷ entry 2 ∷ entry 1 ∷ []
all_before = refl

-- one group has all the room, also where there is none; several share it, and a byte that is left over is nobody's
room_none : room_of 0 ≡ 4194304
room_none = refl

room_one : room_of 1 ≡ 4194304
room_one = refl

room_three : room_of 3 ≡ 1398101
room_three = refl

room_most : room_of 16 ≡ 262144
room_most = refl

-- a value takes its text and a comma
bytes : bytes_of (null ∷ array (item null no_items) ∷ []) ≡ 12
bytes = refl

no_bytes : bytes_of [] ≡ 0
no_bytes = refl

-- without a journal no group is shown
no_journal : groups_data [] 0 100 (line ∷ []) [] ≡ []
no_journal = refl

-- Texts

-- values have commas between them, and one before the first only where something stands before that
joined_values : (joined [] ≡ []) × (joined (null ∷ []) ≡ codes "null") × (joined (null ∷ null ∷ null ∷ []) ≡ codes "null,null,null") × (joined_behind true (null ∷ null ∷ []) ≡ codes ",null,null")
joined_values = (refl, refl, refl, refl)
