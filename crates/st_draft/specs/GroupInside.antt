-- Of no concern to callers: the fields of a group that is being declared, and what its indexes keep.
use Rattle.std.specs.Prelude.{◌≡◌, ◌≤◌, ℕ, List, length, map, true}
use Rattle.std.specs.List.{AllByRecursion}
use Rattle.st_net.specs.declared.parts.DevicePart.{DevicePart}
use Rattle.st_net.specs.declared.parts.LinkPart.{LinkPart}
use Rattle.st_net.specs.declared.parts.PromisePart.{PromisePart}
use Rattle.st_net.specs.declared.pairs.Pair.{Pair}
use Rattle.st_net.specs.declared.topo.TheConstants.{MAX_DEVICES, MAX_LINKS}
use Rattle.st_net.specs.Names.{is_among}
use Rattle.st_net.specs.Faults.{device_names, link_names, number_of}
use Rattle.st_grammar.specs.Draft.{GroupDraft, tors}
use Rattle.st_draft.specs.declared.group.Group.TheInside.{Inside}

abbrev pub draft_of : Inside → GroupDraft
draft_of g = record {
  name = g.name;
  devices = g.devices.items;
  links = g.links.items;
  promises = g.promises.items;
  opens = g.opens;
  told_devices = g.told_devices;
  told_links = g.told_links;
  wires = g.wires;
}

-- the indexes have the names that are declared, and the ToRs are counted
pub record HasIndexes (devices : List DevicePart) (named : List (List ℕ)) (count : ℕ) (links : List LinkPart) (linked : List (List ℕ)) : Type 0 where
  pub device_index : named ≡ device_names devices
  pub tor_count : count ≡ length (tors devices)
  pub few_devices : length devices ≤ MAX_DEVICES
  pub link_index : linked ≡ link_names links
  pub few_links : length links ≤ MAX_LINKS

-- the places of a promise's devices
abbrev pub pair_by : List (List ℕ) → PromisePart → Pair
pair_by names p = record { a = number_of names p.a; b = number_of names p.b }

-- both ends of a promise are declared
pub record HasKnownEnds (names : List (List ℕ)) (p : PromisePart) : Type 0 where
  pub a : is_among p.a names ≡ true
  pub b : is_among p.b names ≡ true

-- the index of pairs has those that are promised, each as it was declared
pub record HasPairs (devices : List DevicePart) (promises : List PromisePart) (pairs : List Pair) : Type 0 where
  pub pair_index : pairs ≡ map (pair_by (device_names devices)) promises
  pub known : AllByRecursion (HasKnownEnds (device_names devices)) promises
