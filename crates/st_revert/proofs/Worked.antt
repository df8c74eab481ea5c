-- The rows that lead back, worked on two devices that a link joins, and the answers behind a journal.
use Rattle.std.proofs.Common.{◌≡◌, ℕ, ◌+◌, List, [], ◌∷◌, length, refl}
use Rattle.std.specs.Prelude.{◌≢◌, false, replicate, map}
use Rattle.st_net.specs.declared.entity.Entity.{Entity}
use Rattle.st_net.specs.declared.entity.Entity.TheVariants.{Device, Link}
use Rattle.st_net.specs.declared.entity.Row.{Row}
use Rattle.st_net.specs.declared.entity.Var.{Var}
use Rattle.st_net.specs.declared.entity.Var.TheVariants.{Power, Firmware, Config, Routing, Iface}
use Rattle.st_net.specs.declared.topo.DeviceOpening.{DeviceOpening}
use Rattle.st_net.specs.Groups.{Group, no_group}
use Rattle.st_net.specs.Merge.{merge_of}
use Rattle.st_event.specs.declared.event.Event.TheVariants.{Submit, Check}
use Rattle.st_event.specs.declared.journal.Entry.{Entry}
use Rattle.st_event.specs.declared.reply.Reply.TheVariants.{Queued, Decided}
use Rattle.st_event.specs.declared.reply.Verdict.TheVariants.{Accepted}
use Rattle.st_revert.specs.declared.back.Revert.{Revert}
use Rattle.st_revert.specs.declared.back.Revert.TheVariants.{Rows, NoVersion, Same, TooMany}
use Rattle.st_revert.specs.Back.{rows_between, answer_of, revert_after}
use Rattle.st_revert.specs.Laws.{IsAsked}

-- all variables open with 1, but for those that a link does not have
abbrev device : DeviceOpening
device = record { tor = false; vals = record { v0 = 1; v1 = 1; v2 = 1; v3 = 1 }; health = 5 }

abbrev pair : Group
pair = record no_group {
  device_names = [] ∷ [] ∷ [];
  link_names = [] ∷ [];
  devices = device ∷ device ∷ [];
  links = record { a = 0; b = 1; capacity = 10; vals = record { v0 = 1; v1 = 1; v2 = 0; v3 = 0 }; health = 1 } ∷ [];
}

abbrev row : Entity → Var → ℕ → Row
row e v value = record { entity = e; var = v; value = value }

-- three versions: the second device is upgraded, then the first, and the link is configured with it
abbrev first : List Row
first = row (Device 1) Firmware 2 ∷ []

abbrev second : List Row
second = row (Link 0) Iface 7 ∷ row (Device 0) Firmware 2 ∷ []

abbrev both : Entity → Var → ℕ
both = merge_of pair (first ∷ second ∷ [])

-- back to the first version: what the last one wrote, in the order of entities and not of its rows
back_by_one : rows_between pair both (merge_of pair (first ∷ [])) ≡ row (Device 0) Firmware 1 ∷ row (Link 0) Iface 1 ∷ []
back_by_one = refl

-- back to the opening: what both wrote
back_to_the_opening : rows_between pair both (merge_of pair []) ≡ row (Device 0) Firmware 1 ∷ row (Device 1) Firmware 1 ∷ row (Link 0) Iface 1 ∷ []
back_to_the_opening = refl

-- and not what the last one wrote alone
not_the_last_alone : rows_between pair both (merge_of pair []) ≢ row (Device 0) Firmware 1 ∷ row (Link 0) Iface 1 ∷ []
not_the_last_alone = λ is. cc

-- two variables of one device stand in their order
abbrev third : List Row
third = row (Device 0) Routing 0 ∷ row (Device 0) Power 0 ∷ []

power_comes_first : rows_between pair (merge_of pair (third ∷ [])) (merge_of pair []) ≡ row (Device 0) Power 1 ∷ row (Device 0) Routing 1 ∷ []
power_comes_first = refl

-- a value that was written and written back does not differ
written_back : rows_between pair (merge_of pair (first ∷ (row (Device 1) Firmware 1 ∷ []) ∷ [])) (merge_of pair []) ≡ []
written_back = refl

-- the answers: no row, 16 and 17 of them
nothing_differs : answer_of [] ≡ Same
nothing_differs = refl

sixteen_are_asked : answer_of (replicate 16 (row (Device 0) Config 2)) ≡ Rows (replicate 16 (row (Device 0) Config 2))
sixteen_are_asked = refl

seventeen_are_too_many : answer_of (replicate 17 (row (Device 0) Config 2)) ≡ TooMany 17
seventeen_are_too_many = refl

-- variables are counted, and not their entities
variables_count : length (rows_between pair (merge_of pair (third ∷ second ∷ [])) (merge_of pair [])) ≡ 4
variables_count = refl

-- a journal with rows that are queued, and one whose last rows are accepted too, as the next version
abbrev queued : List Row → ℕ → List Entry → List Entry
queued rows ticket past = record { event = Submit (record { 0 = 0 }) rows; reply = Queued ticket } ∷ past

abbrev accepted : List Row → ℕ → List Entry → List Entry
accepted rows ticket past = record { event = Check; reply = Decided (record { ticket = ticket; entry = ticket + ticket; verdict = Accepted ticket }) } ∷ queued rows ticket past

abbrev both_accepted : List Entry
both_accepted = accepted second 2 (accepted first 1 [])

abbrev answers : List Revert
answers = map (revert_after pair both_accepted) (0 ∷ 1 ∷ 2 ∷ 3 ∷ 9 ∷ [])

answers_by_version : answers ≡
    Rows (row (Device 0) Firmware 1 ∷ row (Device 1) Firmware 1 ∷ row (Link 0) Iface 1 ∷ [])
    ∷ Rows (row (Device 0) Firmware 1 ∷ row (Link 0) Iface 1 ∷ [])
    ∷ Same
    ∷ NoVersion 2
    ∷ NoVersion 2
    ∷ []
answers_by_version = refl

-- a version that there is not is not taken as the last one
not_the_latest : revert_after pair both_accepted 3 ≢ Same
not_the_latest = λ is. cc

-- nor are the rows that lead back by one asked of who wants the opening
not_one_back : IsAsked pair both_accepted 0 (row (Device 0) Firmware 1 ∷ row (Link 0) Iface 1 ∷ []) → ⊥
not_one_back is = let are_back = is.are_back in cc

-- what waits makes no version
waiting : revert_after pair (queued second 2 (accepted first 1 [])) 2 ≡ NoVersion 1
waiting = refl
