-- What is wrong with a group's parts. Of six faults the first in order that stands counts, at its first place. The place of a part counts the
-- devices, then the links, then the promises, from 0.
use Rattle.std.specs.Prelude.{◌≡◌, ℕ, ◌+◌, Bool, true, false, not, ◌&&◌, ◌||◌, nat_le, List, [], ◌∷◌, ◌++◌, length, map, Option, Some, None, option_map, unwrap_or, slice_get, bytes_eq, if◌then◌else◌}
use Rattle.st_net.specs.declared.parts.Parts.{Parts}
use Rattle.st_net.specs.declared.parts.EndPart.{EndPart}
use Rattle.st_net.specs.declared.parts.DevicePart.{DevicePart}
use Rattle.st_net.specs.declared.parts.LinkPart.{LinkPart}
use Rattle.st_net.specs.declared.parts.PromisePart.{PromisePart}
use Rattle.st_net.specs.declared.parts.Limit.{Limit}
use Rattle.st_net.specs.declared.parts.Limit.TheVariants.{Devices, Tors, Links, Promises, Capacity, Percent, Opening}
use Rattle.st_net.specs.declared.parts.TopoFault.{TopoFault}
use Rattle.st_net.specs.declared.parts.TopoFault.TheVariants.{TwiceName, UnknownName, LoopLink, CrossGroup, OverLimit, BadPair}
use Rattle.st_net.specs.declared.parts.Built.{Built}
use Rattle.st_net.specs.declared.parts.Built.TheVariants.{Topo, Fault}
use Rattle.st_net.specs.declared.topo.DeviceOpening.{DeviceOpening}
use Rattle.st_net.specs.declared.topo.LinkOpening.{LinkOpening}
use Rattle.st_net.specs.declared.topo.TheConstants.{MAX_DEVICES, MAX_LINKS, MAX_TORS, MAX_PROMISES, MAX_CAPACITY, MAX_PERCENT}
use Rattle.st_net.specs.declared.range.TheConstants.{DEVICE_HEALTH, LINK_HEALTH}
use Rattle.st_net.specs.declared.promise.Promise.{Promise}
use Rattle.st_net.specs.Names.{place_of, is_among}
use Rattle.st_net.specs.Groups.{Group, plain_group, are_device_vals, are_link_vals}

-- just these parts of a group
abbrev pub plain_parts : List ℕ → List DevicePart → List LinkPart → List PromisePart → Parts
plain_parts name devices links promises = record { name = name; devices = devices; links = links; promises = promises }

-- the parts of a group of no name and no entities
abbrev pub no_parts : Parts
no_parts = plain_parts [] [] [] []

abbrev pub device_names : List DevicePart → List (List ℕ)
device_names devices = map (λ d. d.name) devices

abbrev pub link_names : List LinkPart → List (List ℕ)
link_names links = map (λ l. l.name) links

-- the place of the first of these names, which are placed from `at`, that stands among those before it
abbrev pub first_twice : List (List ℕ) → ℕ → List (List ℕ) → Option ℕ
first_twice before at [] = None
first_twice before at (name ∷ names) = if is_among name before then Some at else first_twice (before ++ name ∷ []) (at + 1) names

-- the place of the first link, and of the first promise, that passes a test
abbrev pub first_link : (LinkPart → Bool) → ℕ → List LinkPart → Option ℕ
first_link test at [] = None
first_link test at (link ∷ links) = if test link then Some at else first_link test (at + 1) links

abbrev pub first_promise : (PromisePart → Bool) → ℕ → List PromisePart → Option ℕ
first_promise test at [] = None
first_promise test at (promise ∷ promises) = if test promise then Some at else first_promise test (at + 1) promises

-- the end names no group, or this one
abbrev pub is_own_group : List ℕ → Option (List ℕ) → Bool
is_own_group group None = true
is_own_group group (Some named) = bytes_eq named group

abbrev pub is_own : List ℕ → EndPart → Bool
is_own group end = is_own_group group end.group

-- an end in this group names no device
abbrev pub is_unknown_end : List ℕ → List (List ℕ) → EndPart → Bool
is_unknown_end group devices end = is_own group end && not (is_among end.name devices)

abbrev pub has_unknown_end : List ℕ → List (List ℕ) → LinkPart → Bool
has_unknown_end group devices link = is_unknown_end group devices link.a || is_unknown_end group devices link.b

abbrev pub has_unknown_tor : List (List ℕ) → PromisePart → Bool
has_unknown_tor devices promise = not (is_among promise.a devices) || not (is_among promise.b devices)

-- both ends are one device of this group
abbrev pub is_loop : List ℕ → LinkPart → Bool
is_loop group link = is_own group link.a && is_own group link.b && bytes_eq link.a.name link.b.name

-- an end is of another group
abbrev pub is_cross : List ℕ → LinkPart → Bool
is_cross group link = not (is_own group link.a) || not (is_own group link.b)

-- the limit that a device passes at its place, behind so many ToRs
abbrev pub device_limit : ℕ → ℕ → DevicePart → Option Limit
device_limit at tors d =
    if nat_le MAX_DEVICES at then Some Devices else (
    if d.tor && nat_le MAX_TORS tors then Some Tors else (
    if are_device_vals d.vals && nat_le d.health DEVICE_HEALTH then None else Some Opening))

abbrev pub link_limit : ℕ → LinkPart → Option Limit
link_limit number link =
    if nat_le MAX_LINKS number then Some Links else (
    if nat_le 1 link.capacity && nat_le link.capacity MAX_CAPACITY then (
    if are_link_vals link.vals && nat_le link.health LINK_HEALTH then None else Some Opening) else Some Capacity)

abbrev pub promise_limit : ℕ → PromisePart → Option Limit
promise_limit number promise =
    if nat_le MAX_PROMISES number then Some Promises else (
    if nat_le promise.percent MAX_PERCENT then None else Some Percent)

-- a limit that is passed at a place, or else what comes later
abbrev pub limit_or : Option Limit → ℕ → Option TopoFault → Option TopoFault
limit_or None place later = later
limit_or (Some limit) place later = Some (OverLimit limit place)

abbrev pub tors_with : ℕ → DevicePart → ℕ
tors_with tors d = if d.tor then tors + 1 else tors

-- the first limit that is passed, of parts that are numbered from `number` within their kind; links and promises stand behind so many other parts
abbrev pub first_promise_limit : ℕ → ℕ → List PromisePart → Option TopoFault
first_promise_limit before number [] = None
first_promise_limit before number (p ∷ ps) = limit_or (promise_limit number p) (before + number) (first_promise_limit before (number + 1) ps)

abbrev pub first_link_limit : ℕ → ℕ → List LinkPart → Option TopoFault
first_link_limit before number [] = None
first_link_limit before number (l ∷ ls) = limit_or (link_limit number l) (before + number) (first_link_limit before (number + 1) ls)

abbrev pub first_device_limit : ℕ → ℕ → List DevicePart → Option TopoFault
first_device_limit at tors [] = None
first_device_limit at tors (d ∷ ds) = limit_or (device_limit at tors d) at (first_device_limit (at + 1) (tors_with tors d) ds)

-- whether the device of a name is a ToR
abbrev pub is_tor : Option DevicePart → Bool
is_tor None = false
is_tor (Some d) = d.tor

abbrev pub is_tor_name : List DevicePart → List ℕ → Bool
is_tor_name devices name = is_tor (slice_get devices (unwrap_or (place_of name (device_names devices)) (length devices)))

-- whether a promise is on a pair, in either order
abbrev pub is_on_names : List ℕ → List ℕ → PromisePart → Bool
is_on_names a b p = (bytes_eq p.a a && bytes_eq p.b b) || (bytes_eq p.a b && bytes_eq p.b a)

abbrev pub was_promised : List ℕ → List ℕ → List PromisePart → Bool
was_promised a b [] = false
was_promised a b (p ∷ ps) = is_on_names a b p || was_promised a b ps

-- an end is no ToR, the ends are equal, or the pair was promised before
abbrev pub is_bad_pair : List DevicePart → List PromisePart → PromisePart → Bool
is_bad_pair devices before p = not (is_tor_name devices p.a) || not (is_tor_name devices p.b) || bytes_eq p.a p.b || was_promised p.a p.b before

-- the place of the first of these promises, which are placed from `at`, that is a bad pair
abbrev pub first_bad_pair : List DevicePart → List PromisePart → ℕ → List PromisePart → Option ℕ
first_bad_pair devices before at [] = None
first_bad_pair devices before at (p ∷ ps) = if is_bad_pair devices before p then Some at else first_bad_pair devices (before ++ p ∷ []) (at + 1) ps

-- the first choice, or else the second
abbrev pub place_or : Option ℕ → Option ℕ → Option ℕ
place_or (Some place) next = Some place
place_or None next = next

abbrev pub fault_or : Option TopoFault → Option TopoFault → Option TopoFault
fault_or (Some fault) next = Some fault
fault_or None next = next

-- how many parts stand before the first promise
abbrev pub promises_at : Parts → ℕ
promises_at parts = length parts.devices + length parts.links

abbrev pub twice_of : Parts → Option TopoFault
twice_of parts = option_map TwiceName (first_twice [] 0 (device_names parts.devices ++ link_names parts.links))

abbrev pub unknown_of : Parts → Option TopoFault
unknown_of parts = option_map UnknownName (place_or
    (first_link (has_unknown_end parts.name (device_names parts.devices)) (length parts.devices) parts.links)
    (first_promise (has_unknown_tor (device_names parts.devices)) (promises_at parts) parts.promises))

abbrev pub loop_of : Parts → Option TopoFault
loop_of parts = option_map LoopLink (first_link (is_loop parts.name) (length parts.devices) parts.links)

abbrev pub cross_of : Parts → Option TopoFault
cross_of parts = option_map CrossGroup (first_link (is_cross parts.name) (length parts.devices) parts.links)

abbrev pub limit_of : Parts → Option TopoFault
limit_of parts = fault_or (first_device_limit 0 0 parts.devices) (fault_or
    (first_link_limit (length parts.devices) 0 parts.links)
    (first_promise_limit (promises_at parts) 0 parts.promises))

abbrev pub pair_of : Parts → Option TopoFault
pair_of parts = option_map BadPair (first_bad_pair parts.devices [] (promises_at parts) parts.promises)

-- what is wrong with the parts
abbrev pub fault_of : Parts → Option TopoFault
fault_of parts = fault_or (twice_of parts) (fault_or (unknown_of parts) (fault_or (loop_of parts) (fault_or (cross_of parts) (fault_or (limit_of parts) (pair_of parts)))))

-- the number of the device of a name
abbrev pub number_of : List (List ℕ) → List ℕ → ℕ
number_of devices name = unwrap_or (place_of name devices) 0

abbrev pub device_opening : DevicePart → DeviceOpening
device_opening d = record { tor = d.tor; vals = d.vals; health = d.health }

abbrev pub link_opening : List (List ℕ) → LinkPart → LinkOpening
link_opening devices l = record { a = number_of devices l.a.name; b = number_of devices l.b.name; capacity = l.capacity; vals = l.vals; health = l.health }

abbrev pub promise_opening : List (List ℕ) → PromisePart → Promise
promise_opening devices p = record { a = number_of devices p.a; b = number_of devices p.b; percent = p.percent }

-- the group of these parts
abbrev pub group_of : Parts → Group
group_of parts =
    plain_group parts.name (device_names parts.devices) (link_names parts.links)
    (map device_opening parts.devices)
    (map (link_opening (device_names parts.devices)) parts.links)
    (map (promise_opening (device_names parts.devices)) parts.promises)

-- what parts are built into: the group where nothing is wrong, or what is
abbrev pub IsBuiltOf : Parts → Built → Type 0
IsBuiltOf parts (Topo g) = (fault_of parts ≡ None) × (g ≡ group_of parts)
IsBuiltOf parts (Fault fault) = fault_of parts ≡ Some fault
