-- How the tokens that documents alone have are read: each gives what it stands for, or the first kind that applies to it.
use Rattle.std.specs.Prelude.{ℕ, List, Bool, true, false, if◌then◌else◌, Option, Some, None, Result, Ok, Err, option_map, bytes_eq, codes}
use Rattle.st_net.specs.declared.entity.Entity.{Entity}
use Rattle.st_net.specs.declared.entity.Entity.TheVariants as entities
use Rattle.st_net.specs.Names.{place_of, is_among}
use Rattle.st_net.specs.Groups.{entity_or}
use Rattle.st_net.specs.Faults.{device_names, link_names}
use Rattle.st_wire.specs.declared.line.WireKind.{WireKind}
use Rattle.st_wire.specs.declared.line.WireKind.TheVariants as wires
use Rattle.st_token.specs.declared.fault.FaultKind.{FaultKind}
use Rattle.st_token.specs.declared.fault.FaultKind.TheVariants as kinds
use Rattle.st_token.specs.Steps.{◌>>=◌}
use Rattle.st_token.specs.Places.{cut_at}
use Rattle.st_token.specs.Spelling.{name_in, entity_in}
use Rattle.st_grammar.specs.Draft.{GroupDraft, has_health}

-- the name of a device of the group
unfoldable pub device_in : GroupDraft → List ℕ → Result (List ℕ) FaultKind
device_in g token = do
  name ← name_in token
  if is_among name (device_names g.devices) then Ok name else Err kinds.Unknown

-- the device or the link of a name
abbrev pub entity_named : GroupDraft → List ℕ → Option Entity
entity_named g name = entity_or (option_map entities.Device (place_of name (device_names g.devices))) (option_map entities.Link (place_of name (link_names g.links)))

-- `tor` or `switch`
abbrev pub is_tor_word : List ℕ → Result Bool FaultKind
is_tor_word token =
    if bytes_eq token (codes "tor") then Ok true else (
    if bytes_eq token (codes "switch") then Ok false else Err kinds.Value)

-- an END: a device of the group, with or without the group's own name
unfoldable pub cross_end_in : GroupDraft → List ℕ → List ℕ → Result (List ℕ) FaultKind
cross_end_in g group token = do
  own ← name_in group
  name ← name_in token
  if bytes_eq own g.name then device_in g name else Err kinds.Cross

abbrev pub end_by : GroupDraft → List ℕ → Option (List ℕ × List ℕ) → Result (List ℕ) FaultKind
end_by g token None = device_in g token
end_by g token (Some parts) = cross_end_in g parts.0 parts.1

abbrev pub end_in : GroupDraft → List ℕ → Result (List ℕ) FaultKind
end_in g token = end_by g token (cut_at 47 token)

-- an entity whose health is not given yet
unfoldable pub untold_in : GroupDraft → List ℕ → Result Entity FaultKind
untold_in g token = do
  e ← entity_in (entity_named g) token
  if has_health g e then Err kinds.Twice else Ok e

-- `command` or `report`
abbrev pub wire_kind_in : List ℕ → Result WireKind FaultKind
wire_kind_in token =
    if bytes_eq token (codes "command") then Ok wires.Command else (
    if bytes_eq token (codes "report") then Ok wires.Report else Err kinds.Value)
