-- An entry's data of a refusal, read back by keys: the numbers that it names, and what has to be true of the links among them.
use Rattle.std.specs.Prelude.{◌≡◌, ℕ, ◌+◌, Bool, true, false, List, codes, bytes_eq, length, map, Option, Some, option_and_then, if◌then◌else◌, slice_index_or}
use Rattle.std.specs.List.{sum_by}
use Rattle.serde_json.specs.Data.{Data, string}
use Rattle.serde_json.specs.Find.{get}
use Rattle.st_net.specs.declared.entity.Entity.{Entity}
use Rattle.st_net.specs.declared.promise.Broken.{Broken}
use Rattle.st_net.specs.Cuts.{is_crossing}
use Rattle.st_net.specs.Groups.{Group, no_link}
use Rattle.st_player.specs.Cuts.{crossing_links, is_device_of, links_from}
use Rattle.st_player.specs.PlayedBack.{list_in, number_in}

-- what stands at a key of a refusal, and the numbers of a list there
abbrev pub at_refusal : List ℕ → Data → Option Data
at_refusal key told = option_and_then (get key) (get (codes "refused") told)

abbrev pub numbers_told : List ℕ → Data → List ℕ
numbers_told key told = map (λ d. number_in (Some d)) (list_in (at_refusal key told))

-- whether a text stands there
abbrev pub is_text : List ℕ → Option Data → Bool
is_text text (Some (string s)) = bytes_eq s text
is_text text _ = false

-- the devices of the part that is shown: what is joined to the far end, or else the least side
abbrev pub part_told : Data → List ℕ
part_told told = if is_text (codes "far") (at_refusal (codes "part") told) then numbers_told (codes "far") told else numbers_told (codes "side") told

abbrev pub capacity_in : Group → ℕ → ℕ
capacity_in g i = (slice_index_or g.links i no_link).capacity

-- all links with exactly one end in a set
abbrev pub links_leaving : Group → (ℕ → Bool) → List ℕ
links_leaving g set = links_from 0 (λ i link. is_crossing set link) g.links

-- Of a promise that is broken while these entities are up: the links that are left are the up links that leave the least side, and their
-- capacities sum to what the promise has. They are just those that leave the part that is shown; with those that are out they are all that do.
pub record TellsCut (g : Group) (up : Entity → Bool) (broken : Broken) (told : Data) : Type 0 where
  pub has : number_in (at_refusal (codes "has") told) ≡ broken.has
  pub side : numbers_told (codes "side") told ≡ broken.side
  pub leave_side : numbers_told (codes "left") told ≡ crossing_links g up true (is_device_of g broken.side)
  pub sum : sum_by (capacity_in g) (numbers_told (codes "left") told) ≡ broken.has
  pub left : numbers_told (codes "left") told ≡ crossing_links g up true (is_device_of g (part_told told))
  pub out : numbers_told (codes "out") told ≡ crossing_links g up false (is_device_of g (part_told told))
  pub all : length (numbers_told (codes "left") told) + length (numbers_told (codes "out") told) ≡ length (links_leaving g (is_device_of g (part_told told)))
