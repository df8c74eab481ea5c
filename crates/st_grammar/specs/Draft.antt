-- What the lines of a document have declared so far.
use Rattle.std.specs.Prelude.{◌≡◌, ◌<◌, ℕ, zero, suc, List, [], ◌∷◌, ◌++◌, Bool, true, false, ◌||◌, ◌==◌, nat_le, if◌then◌else◌, length, map, Option, None, option_to_list}
use Rattle.std.specs.List.{list_any}
use Rattle.st_net.specs.declared.entity.Entity.{Entity}
use Rattle.st_net.specs.declared.entity.Entity.TheVariants.{Device, Link}
use Rattle.st_net.specs.declared.entity.Var.{Var}
use Rattle.st_net.specs.declared.entity.Vals.{Vals}
use Rattle.st_net.specs.declared.entity.Row.{Row}
use Rattle.st_net.specs.declared.parts.Parts.{Parts}
use Rattle.st_net.specs.declared.parts.DevicePart.{DevicePart}
use Rattle.st_net.specs.declared.parts.LinkPart.{LinkPart}
use Rattle.st_net.specs.declared.parts.PromisePart.{PromisePart}
use Rattle.st_net.specs.declared.topo.TheConstants.{MAX_DEVICES, MAX_LINKS, MAX_PROMISES}
use Rattle.st_net.specs.Names.{is_among}
use Rattle.st_net.specs.Entities.{device_value_set, link_value_set}
use Rattle.st_net.specs.Ranges.{is_free_of, is_in_range}
use Rattle.st_net.specs.Faults.{plain_parts, device_names, link_names, was_promised}
use Rattle.st_wire.specs.declared.line.WireLine.{WireLine}
use Rattle.st_grammar.specs.declared.doc.Script.{Script}

-- a group, by the lines of its section: with its parts the rows that `open` lines set, and the devices and links whose health is given; then its
-- wire lines
pub record GroupDraft : Type 0 where
  pub name : List ℕ
  pub devices : List DevicePart
  pub links : List LinkPart
  pub promises : List PromisePart
  pub opens : List Row
  pub told_devices : List ℕ
  pub told_links : List ℕ
  pub wires : List WireLine

-- the version that the header names, which is 0 before it, the phase of the last line that declares something, and what is declared. The group and
-- the application that were begun last stand apart
pub record Draft : Type 0 where
  pub version : ℕ
  pub phase : ℕ
  pub groups : List GroupDraft
  pub group : Option GroupDraft
  pub apps : List Script
  pub app : Option Script
  pub order : List ℕ

abbrev pub nothing : Draft
nothing = record { version = 0; phase = 1; groups = []; group = None; apps = []; app = None; order = [] }

-- the header stood
abbrev pub has_header : Draft → Bool
has_header d = nat_le 1 d.version

abbrev pub empty_group : List ℕ → GroupDraft
empty_group name = record { name = name; devices = []; links = []; promises = []; opens = []; told_devices = []; told_links = []; wires = [] }

abbrev pub empty_script : List ℕ → Script
empty_script name = record { name = name; acts = [] }

-- the groups and the applications, in order, and their names
abbrev pub groups_of : Draft → List GroupDraft
groups_of d = d.groups ++ option_to_list d.group

abbrev pub apps_of : Draft → List Script
apps_of d = d.apps ++ option_to_list d.app

abbrev pub group_names : Draft → List (List ℕ)
group_names d = map (λ g. g.name) (groups_of d)

abbrev pub app_names : Draft → List (List ℕ)
app_names d = map (λ a. a.name) (apps_of d)

-- a device or a link of the group has the name
abbrev pub is_entity_name : GroupDraft → List ℕ → Bool
is_entity_name g name = is_among name (device_names g.devices) || is_among name (link_names g.links)

-- the entity is one of the group
abbrev pub IsEntityIn : GroupDraft → Entity → Type 0
IsEntityIn g (Device i) = i < length g.devices
IsEntityIn g (Link i) = i < length g.links

-- the devices that are ToRs
abbrev pub tors : List DevicePart → List DevicePart
tors [] = []
tors (d ∷ ds) = if d.tor then d ∷ tors ds else tors ds

-- the values that an entity opens with where no line says otherwise
abbrev pub device_default : Vals
device_default = record { v0 = 1; v1 = 1; v2 = 1; v3 = 1 }

abbrev pub link_default : Vals
link_default = record { v0 = 1; v1 = 1; v2 = 0; v3 = 0 }

-- the group with one more part
abbrev pub with_device : GroupDraft → DevicePart → GroupDraft
with_device g d = record g { devices = g.devices ++ d ∷ [] }

abbrev pub with_link : GroupDraft → LinkPart → GroupDraft
with_link g l = record g { links = g.links ++ l ∷ [] }

abbrev pub with_promise : GroupDraft → PromisePart → GroupDraft
with_promise g p = record g { promises = g.promises ++ p ∷ [] }

-- the parts with one opening value set, of the part of a number
abbrev pub device_opened : List DevicePart → ℕ → Var → ℕ → List DevicePart
device_opened [] i var value = []
device_opened (d ∷ ds) zero var value = record d { vals = device_value_set d.vals var value } ∷ ds
device_opened (d ∷ ds) (suc i) var value = d ∷ device_opened ds i var value

abbrev pub link_opened : List LinkPart → ℕ → Var → ℕ → List LinkPart
link_opened [] i var value = []
link_opened (l ∷ ls) zero var value = record l { vals = link_value_set l.vals var value } ∷ ls
link_opened (l ∷ ls) (suc i) var value = l ∷ link_opened ls i var value

abbrev pub opened : GroupDraft → Entity → Var → ℕ → GroupDraft
opened g (Device i) var value = record g { devices = device_opened g.devices i var value }
opened g (Link i) var value = record g { links = link_opened g.links i var value }

-- the group with one more opening value
abbrev pub with_open : GroupDraft → Row → GroupDraft
with_open g row = opened (record g { opens = g.opens ++ row ∷ [] }) row.entity row.var row.value

-- a number is among those whose health is given
abbrev pub is_told : ℕ → List ℕ → Bool
is_told n told = list_any (λ m. n == m) told

abbrev pub has_health : GroupDraft → Entity → Bool
has_health g (Device i) = is_told i g.told_devices
has_health g (Link i) = is_told i g.told_links

-- the parts with a health, of the part of a number
abbrev pub device_told : List DevicePart → ℕ → ℕ → List DevicePart
device_told [] i health = []
device_told (d ∷ ds) zero health = record d { health = health } ∷ ds
device_told (d ∷ ds) (suc i) health = d ∷ device_told ds i health

abbrev pub link_told : List LinkPart → ℕ → ℕ → List LinkPart
link_told [] i health = []
link_told (l ∷ ls) zero health = record l { health = health } ∷ ls
link_told (l ∷ ls) (suc i) health = l ∷ link_told ls i health

-- the group with one more health
abbrev pub with_health : GroupDraft → Entity → ℕ → GroupDraft
with_health g (Device i) health = record g { devices = device_told g.devices i health; told_devices = g.told_devices ++ i ∷ [] }
with_health g (Link i) health = record g { links = link_told g.links i health; told_links = g.told_links ++ i ∷ [] }

-- the group with one more wire line
abbrev pub with_wire : GroupDraft → WireLine → GroupDraft
with_wire g line = record g { wires = g.wires ++ line ∷ [] }

-- the groups with one more wire line of the group of a number
abbrev pub wired : List GroupDraft → ℕ → WireLine → List GroupDraft
wired [] n line = []
wired (g ∷ gs) zero line = with_wire g line ∷ gs
wired (g ∷ gs) (suc n) line = g ∷ wired gs n line

-- the group's parts
abbrev pub parts_of : GroupDraft → Parts
parts_of g = plain_parts g.name g.devices g.links g.promises

-- what holds of a part that is added, and of a row that is set behind others
pub record MayAddDevice (g : GroupDraft) (d : DevicePart) : Type 0 where
  pub fresh : is_entity_name g d.name ≡ false
  pub room : length g.devices < MAX_DEVICES

pub record MayAddLink (g : GroupDraft) (l : LinkPart) : Type 0 where
  pub fresh : is_entity_name g l.name ≡ false
  pub room : length g.links < MAX_LINKS

pub record MayAddPromise (g : GroupDraft) (p : PromisePart) : Type 0 where
  pub a_known : is_among p.a (device_names g.devices) ≡ true
  pub b_known : is_among p.b (device_names g.devices) ≡ true
  pub fresh : was_promised p.a p.b g.promises ≡ false
  pub room : length g.promises < MAX_PROMISES

pub record MaySet (g : GroupDraft) (set : List Row) (row : Row) : Type 0 where
  pub entity : IsEntityIn g row.entity
  pub range : is_in_range row.entity row.var row.value ≡ true
  pub fresh : is_free_of row.entity row.var set ≡ true
