-- A group as contracts see it: devices, then links with two ends and a capacity, ToR marks, promises, and opening values and a health for each
-- entity.
use Rattle.std.specs.Prelude.{◌≡◌, ◌≢◌, ℕ, ◌<◌, ◌≤◌, ◌^◌, ◌==◌, ◌&&◌, ◌||◌, nat_le, nat_lt, Bool, true, false, not, List, [], ◌∷◌, ◌++◌, length, slice_index_or, Option, Some, None, option_map, ◌+◌, if◌then◌else◌}
use Rattle.st_net.specs.declared.entity.Entity.{Entity}
use Rattle.st_net.specs.declared.entity.Entity.TheVariants.{Device, Link}
use Rattle.st_net.specs.declared.entity.Vals.{Vals}
use Rattle.st_net.specs.declared.promise.Promise.{Promise}
use Rattle.st_net.specs.declared.topo.DeviceOpening.{DeviceOpening}
use Rattle.st_net.specs.declared.topo.LinkOpening.{LinkOpening}
use Rattle.st_net.specs.declared.topo.TheConstants.{MAX_DEVICES, MAX_LINKS, MAX_TORS, MAX_PROMISES, MAX_CAPACITY, MAX_PERCENT}
use Rattle.st_net.specs.declared.range.TheConstants.{DEVICE_HEALTH, LINK_HEALTH}
use Rattle.st_net.specs.Names.{place_of, is_among, is_name}

-- its name, the names of its devices and of its links, and these with its promises, each in order
pub record Group : Type 0 where
  pub name : List ℕ
  pub device_names : List (List ℕ)
  pub link_names : List (List ℕ)
  pub devices : List DeviceOpening
  pub links : List LinkOpening
  pub promises : List Promise

-- the group of just these
abbrev pub plain_group : List ℕ → List (List ℕ) → List (List ℕ) → List DeviceOpening → List LinkOpening → List Promise → Group
plain_group name device_names link_names devices links promises = record { name = name; device_names = device_names; link_names = link_names; devices = devices; links = links; promises = promises }

-- a group of no name and no entities
abbrev pub no_group : Group
no_group = plain_group [] [] [] [] [] []

abbrev pub no_vals : Vals
no_vals = record { v0 = 0; v1 = 0; v2 = 0; v3 = 0 }

-- what a list of devices, of links or of promises has past its end
abbrev pub no_device : DeviceOpening
no_device = record { tor = false; vals = no_vals; health = 0 }

abbrev pub no_link : LinkOpening
no_link = record { a = 0; b = 0; capacity = 0; vals = no_vals; health = 0 }

abbrev pub no_promise : Promise
no_promise = record { a = 0; b = 0; percent = 0 }

-- promise number i of a group
abbrev pub promise_of : Group → ℕ → Promise
promise_of g i = slice_index_or g.promises i no_promise

abbrev pub opening_of : Group → Entity → Vals
opening_of g (Device i) = (slice_index_or g.devices i no_device).vals
opening_of g (Link i) = (slice_index_or g.links i no_link).vals

abbrev pub health_of : Group → Entity → ℕ
health_of g (Device i) = (slice_index_or g.devices i no_device).health
health_of g (Link i) = (slice_index_or g.links i no_link).health

abbrev pub IsEntityOf : Group → Entity → Type 0
IsEntityOf g (Device i) = i < length g.devices
IsEntityOf g (Link i) = i < length g.links

-- the name of an entity
abbrev pub name_of : Group → Entity → List ℕ
name_of g (Device i) = slice_index_or g.device_names i []
name_of g (Link i) = slice_index_or g.link_names i []

-- the first choice, or else the second
abbrev pub entity_or : Option Entity → Option Entity → Option Entity
entity_or (Some e) next = Some e
entity_or None next = next

-- the entity that has a name
abbrev pub find_in : Group → List ℕ → Option Entity
find_in g name = entity_or (option_map Device (place_of name g.device_names)) (option_map Link (place_of name g.link_names))

-- whether no name of the list is one of these or of those before it
abbrev pub are_new : List (List ℕ) → List (List ℕ) → Bool
are_new before [] = true
are_new before (name ∷ names) = not (is_among name before) && are_new (before ++ name ∷ []) names

abbrev pub are_names : List (List ℕ) → Bool
are_names [] = true
are_names (name ∷ names) = is_name name && are_names names

-- how many of the devices are ToRs
abbrev pub tor_count : List DeviceOpening → ℕ
tor_count [] = 0
tor_count (d ∷ ds) = (if d.tor then 1 else 0) + tor_count ds

-- values in range, for a device and for a link
abbrev pub are_device_vals : Vals → Bool
are_device_vals vals = nat_le vals.v0 1 && nat_lt vals.v1 (2 ^ 32) && nat_lt vals.v2 (2 ^ 32) && nat_le vals.v3 1

abbrev pub are_link_vals : Vals → Bool
are_link_vals vals = nat_le vals.v0 1 && nat_lt vals.v1 (2 ^ 32) && vals.v2 == 0 && vals.v3 == 0

-- a device and a link open in range; a link joins two different devices of a group with n devices, and has a capacity
pub record IsDevice (d : DeviceOpening) : Type 0 where
  pub vals : are_device_vals d.vals ≡ true
  pub health : d.health ≤ DEVICE_HEALTH

pub record IsLink (n : ℕ) (link : LinkOpening) : Type 0 where
  pub a_in : link.a < n
  pub b_in : link.b < n
  pub apart : link.a ≢ link.b
  pub carries : 1 ≤ link.capacity
  pub bounded : link.capacity ≤ MAX_CAPACITY
  pub vals : are_link_vals link.vals ≡ true
  pub health : link.health ≤ LINK_HEALTH

abbrev pub AreDevices : List DeviceOpening → Type 0
AreDevices [] = Unit {0}
AreDevices (d ∷ ds) = IsDevice d × AreDevices ds

abbrev pub AreLinks : ℕ → List LinkOpening → Type 0
AreLinks n [] = Unit {0}
AreLinks n (link ∷ links) = IsLink n link × AreLinks n links

-- a promise between two different ToRs of these devices
pub record IsPromiseAmong (devices : List DeviceOpening) (p : Promise) : Type 0 where
  pub a_in : p.a < length devices
  pub b_in : p.b < length devices
  pub apart : p.a ≢ p.b
  pub a_tor : (slice_index_or devices p.a no_device).tor ≡ true
  pub b_tor : (slice_index_or devices p.b no_device).tor ≡ true
  pub share : p.percent ≤ MAX_PERCENT

abbrev pub ArePromises : List DeviceOpening → List Promise → Type 0
ArePromises devices [] = Unit {0}
ArePromises devices (p ∷ ps) = IsPromiseAmong devices p × ArePromises devices ps

-- whether the promise is on the pair, in either order
abbrev pub is_on_pair : ℕ → ℕ → Promise → Bool
is_on_pair a b p = (p.a == a && p.b == b) || (p.a == b && p.b == a)

abbrev pub is_promised : ℕ → ℕ → List Promise → Bool
is_promised a b [] = false
is_promised a b (p ∷ ps) = is_on_pair a b p || is_promised a b ps

-- whether no pair is promised twice
abbrev pub are_other_pairs : List Promise → List Promise → Bool
are_other_pairs before [] = true
are_other_pairs before (p ∷ ps) = not (is_promised p.a p.b before) && are_other_pairs (before ++ p ∷ []) ps

-- every name is one and new, and belongs to a part; ends, pairs, values and numbers are as the limits say
pub record IsSound (g : Group) : Type 0 where
  pub name : is_name g.name ≡ true
  pub device_names : length g.device_names ≡ length g.devices
  pub link_names : length g.link_names ≡ length g.links
  pub names : are_names (g.device_names ++ g.link_names) ≡ true
  pub new : are_new [] (g.device_names ++ g.link_names) ≡ true
  pub few_devices : length g.devices ≤ MAX_DEVICES
  pub few_tors : tor_count g.devices ≤ MAX_TORS
  pub few_links : length g.links ≤ MAX_LINKS
  pub few_promises : length g.promises ≤ MAX_PROMISES
  pub devices : AreDevices g.devices
  pub links : AreLinks (length g.devices) g.links
  pub promises : ArePromises g.devices g.promises
  pub pairs : are_other_pairs [] g.promises ≡ true
