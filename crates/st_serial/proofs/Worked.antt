-- How many entries scripts can make at the most: on the network of two paths, with each act once.
use Rattle.std.proofs.Common.{◌≡◌, ℕ, ◌+◌, ◌*◌, List, [], ◌∷◌, None, refl}
use Rattle.std.specs.Prelude.{Bool, true, false, codes, map}
use Rattle.st_net.specs.declared.entity.Entity.TheVariants.{Device}
use Rattle.st_net.specs.declared.entity.Prio.TheVariants.{High}
use Rattle.st_net.specs.declared.entity.Row.{Row}
use Rattle.st_net.specs.declared.entity.Var.TheVariants.{Firmware}
use Rattle.st_net.specs.declared.parts.DevicePart.{DevicePart}
use Rattle.st_net.specs.declared.parts.LinkPart.{LinkPart}
use Rattle.st_net.specs.declared.parts.Parts.{Parts}
use Rattle.st_net.specs.Faults.{no_parts}
use Rattle.st_event.specs.declared.act.Act.{Act}
use Rattle.st_event.specs.declared.act.Act.TheVariants.{Propose, Await, Settle, Lock, Unlock, Read, ReadAt, Fail, Poll}
use Rattle.st_grammar.specs.declared.doc.Doc.{Doc}
use Rattle.st_grammar.specs.declared.doc.Script.{Script}
use Rattle.st_grammar.specs.Draft.{device_default, link_default}
use Rattle.st_wire.specs.declared.line.WireKind.TheVariants.{Command}
use Rattle.st_wire.specs.declared.line.WireLine.{WireLine}
use Rattle.st_wire.specs.declared.line.WireLine.TheVariants.{Hold}
use Rattle.st_serial.specs.Most.{most}

abbrev device : List ℕ → Bool → DevicePart
device name tor = record { name = name; tor = tor; vals = device_default; health = 5 }

abbrev link : List ℕ → List ℕ → List ℕ → LinkPart
link name a b = record { name = name; a = record { group = None; name = a }; b = record { group = None; name = b }; capacity = 10; vals = link_default; health = 1 }

-- two ToRs, each linked to two switches: 8 entities
abbrev two_paths : Parts
two_paths = record no_parts {
  name = codes "dc1";
  devices = device (codes "t1") true ∷ device (codes "t2") true ∷ device (codes "a1") false ∷ device (codes "a2") false ∷ [];
  links = link (codes "l1") (codes "t1") (codes "a1") ∷ link (codes "l2") (codes "t1") (codes "a2") ∷ link (codes "l3") (codes "t2") (codes "a1") ∷ link (codes "l4") (codes "t2") (codes "a2") ∷ [];
  promises = record { a = codes "t1"; b = codes "t2"; percent = 50 } ∷ [];
}

-- applications of which each has these acts
abbrev apps_of : List (List Act) → List Script
apps_of scripts = map (λ acts. record { name = codes "up"; acts = acts }) scripts

-- its document with these wire lines and acts
abbrev doc_of : List WireLine → List (List Act) → Doc
doc_of lines scripts = record { groups = two_paths ∷ []; wires = lines ∷ []; apps = apps_of scripts; order = []; journal_at = None }

-- the first command comes late, at turn 2
abbrev late : List WireLine
late = Hold Command 1 2 ∷ []

abbrev firmware : Row
firmware = record { entity = Device 2; var = Firmware; value = 2 }

abbrev each_command : List Act
each_command =
    Propose 0 (firmware ∷ []) ∷ Await 0 ∷ Settle 0 2 ∷ Lock 0 (Device 2) High ∷ Unlock 0 (Device 2) High ∷ Fail 0 (Device 3) 0 []
    ∷ Poll 0 (Device 3) ∷ Read 0 (Device 2) Firmware ∷ ReadAt 0 1 (Device 2) Firmware ∷ []

-- 3 for the proposal, 64 for the await, 3 rounds of 8 turns of 8 for the settle, 1 for each of lock, unlock and fail, 3 for the poll, nothing for
-- the reads, and 64 for the application
each_once : most (doc_of late (each_command ∷ [])) 0 ≡ 3 + 64 + 3 * (8 * 8) + 1 + 1 + 1 + 3 + 64
each_once = refl

each_once_is : most (doc_of late (each_command ∷ [])) 0 ≡ 329
each_once_is = refl

-- without the line a turn has 6 entries, and a poll 2
without_lines : most (doc_of [] (each_command ∷ [])) 0 ≡ 280
without_lines = refl

-- two applications, of which the second has no acts
two_apps : most (doc_of late (each_command ∷ [] ∷ [])) 0 ≡ 393
two_apps = refl

-- acts on another group add nothing here, and a group that is not there has no entries
elsewhere : most (doc_of late ((Propose 1 (firmware ∷ []) ∷ Await 1 ∷ []) ∷ [])) 0 ≡ 64
elsewhere = refl

not_there : most (doc_of late (each_command ∷ [])) 1 ≡ 0
not_there = refl

-- no application, no entries
no_apps : most (doc_of late []) 0 ≡ 0
no_apps = refl
