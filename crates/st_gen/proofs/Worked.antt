-- A fat tree of four pods, written out, with the scripts of the seed 7.
use Rattle.std.proofs.Common.{◌≡◌, ℕ, List, [], ◌∷◌, length, refl}
use Rattle.std.specs.Prelude.{Some, None, codes, slice_get}
use Rattle.std.specs.Fmt.{digits}
use Rattle.st_net.specs.declared.entity.Entity.TheVariants.{Device}
use Rattle.st_net.specs.declared.entity.Prio.TheVariants.{High}
use Rattle.st_net.specs.declared.entity.Row.{Row}
use Rattle.st_net.specs.declared.entity.Var.TheVariants.{Firmware}
use Rattle.st_net.specs.declared.parts.EndPart.{EndPart}
use Rattle.st_net.specs.declared.parts.LinkPart.{LinkPart}
use Rattle.st_net.specs.declared.parts.PromisePart.{PromisePart}
use Rattle.st_net.specs.Groups.{name_of}
use Rattle.st_net.specs.Faults.{group_of, device_names}
use Rattle.st_event.specs.declared.act.Act.TheVariants.{Propose, Await, Settle, Lock, Unlock, Read}
use Rattle.st_gen.specs.FatTrees.{devices, links, fat_tree}
use Rattle.st_gen.specs.Scripts.{upgrader, engineer}

-- 20 devices, in four pods and a core
device_names_4 : device_names (devices 4) ≡
    codes "p0e0" ∷ codes "p0e1" ∷ codes "p0a0" ∷ codes "p0a1" ∷ codes "p1e0" ∷ codes "p1e1" ∷ codes "p1a0" ∷ codes "p1a1"
    ∷ codes "p2e0" ∷ codes "p2e1" ∷ codes "p2a0" ∷ codes "p2a1" ∷ codes "p3e0" ∷ codes "p3e1" ∷ codes "p3a0" ∷ codes "p3a1"
    ∷ codes "c0" ∷ codes "c1" ∷ codes "c2" ∷ codes "c3" ∷ []
unfolding digits
device_names_4 = refl

abbrev end_at : List ℕ → EndPart
end_at name = record { group = None; name = name }

abbrev link_of : List ℕ → List ℕ → List ℕ → LinkPart
link_of name a b = record { name = name; a = end_at a; b = end_at b; capacity = 10; vals = record { v0 = 1; v1 = 1; v2 = 0; v3 = 0 }; health = 1 }

-- 32 links: the first, the first to the core, and the last
link_count : length (links 4) ≡ 32
link_count = refl

first_link : slice_get (links 4) 0 ≡ Some (link_of (codes "p0e0a0") (codes "p0e0") (codes "p0a0"))
unfolding digits
first_link = refl

first_core_link : slice_get (links 4) 4 ≡ Some (link_of (codes "p0a0c0") (codes "p0a0") (codes "c0"))
unfolding digits
first_core_link = refl

last_link : slice_get (links 4) 31 ≡ Some (link_of (codes "p3a1c3") (codes "p3a1") (codes "c3"))
unfolding digits
last_link = refl

abbrev half_of : List ℕ → List ℕ → PromisePart
half_of a b = record { a = a; b = b; percent = 50 }

-- 28 promises: the first, the last of the first ToR, and the last
promise_count : length (fat_tree 4).promises ≡ 28
promise_count = refl

first_promise : slice_get (fat_tree 4).promises 0 ≡ Some (half_of (codes "p0e0") (codes "p0e1"))
unfolding digits
first_promise = refl

seventh_promise : slice_get (fat_tree 4).promises 6 ≡ Some (half_of (codes "p0e0") (codes "p3e1"))
unfolding digits
seventh_promise = refl

last_promise : slice_get (fat_tree 4).promises 27 ≡ Some (half_of (codes "p3e0") (codes "p3e1"))
unfolding digits
last_promise = refl

abbrev firmware : ℕ → ℕ → Row
firmware number value = record { entity = Device number; var = Firmware; value = value }

-- two stages to the firmware 9, and then 10 on pod 3
upgrade_4 : (upgrader 4 7).acts ≡
    Propose 0 (firmware 2 9 ∷ firmware 6 9 ∷ firmware 10 9 ∷ firmware 14 9 ∷ []) ∷ Await 0 ∷ Settle 0 2
    ∷ Propose 0 (firmware 3 9 ∷ firmware 7 9 ∷ firmware 11 9 ∷ firmware 15 9 ∷ []) ∷ Await 0 ∷ Settle 0 2
    ∷ Propose 0 (firmware 14 10 ∷ firmware 15 10 ∷ []) ∷ Await 0 ∷ []
upgrade_4 = refl

reads_4 : (engineer 4).acts ≡ Lock 0 (Device 16) High ∷ Read 0 (Device 2) Firmware ∷ Unlock 0 (Device 16) High ∷ []
reads_4 = refl

-- these numbers have the names that are meant
named_0 : name_of (group_of (fat_tree 4)) (Device 2) ≡ codes "p0a0"
unfolding digits
named_0 = refl

named_3 : name_of (group_of (fat_tree 4)) (Device 15) ≡ codes "p3a1"
unfolding digits
named_3 = refl

named_core : name_of (group_of (fat_tree 4)) (Device 16) ≡ codes "c0"
unfolding digits
named_core = refl
