-- The cut that would be left of a promise: what is joined to its far end outside the least side, and which links about it are left and which
-- are out.
use Rattle.std.specs.Prelude.{ℕ, zero, suc, ◌==◌, ◌&&◌, ◌||◌, not, nat_lt, Bool, true, false, List, [], ◌∷◌, length, map, if◌then◌else◌, slice_index_or}
use Rattle.std.specs.List.{filter, list_any}
use Rattle.st_net.specs.declared.entity.Entity.{Entity}
use Rattle.st_net.specs.declared.entity.Entity.TheVariants.{Device, Link}
use Rattle.st_net.specs.declared.entity.Row.{Row}
use Rattle.st_net.specs.declared.promise.Broken.{Broken}
use Rattle.st_net.specs.declared.topo.LinkOpening.{LinkOpening}
use Rattle.st_net.specs.Cuts.{is_crossing, numbers_in}
use Rattle.st_net.specs.Demands.{broken_pair}
use Rattle.st_net.specs.Groups.{Group, no_link}
use Rattle.st_net.specs.InOrder.{entities_of, place_in}
use Rattle.st_net.specs.Merge.{alters}
use Rattle.st_net.specs.UpGraph.{is_up_link}
use Rattle.st_event.specs.declared.journal.Entry.{Entry}
use Rattle.st_event.specs.Observed.{sure, sure_after}
use Rattle.st_event.specs.Proposals.{target}

-- whether a number is one of these
abbrev pub is_one_of : List ℕ → ℕ → Bool
is_one_of ns d = list_any (λ n. n == d) ns

-- whether a device of the group is one of these
abbrev pub is_device_of : Group → List ℕ → ℕ → Bool
is_device_of g ns d = nat_lt d (length g.devices) && is_one_of ns d

-- the devices that are marked, by a mark for each in order
abbrev pub is_marked : List Bool → ℕ → Bool
is_marked marks d = slice_index_or marks d false

-- whether an up link joins a device to one of a set, of links that are numbered from i
abbrev pub joins : (Entity → Bool) → (ℕ → Bool) → ℕ → ℕ → LinkOpening → Bool
joins up set d i link = is_up_link up i link && ((link.a == d && set link.b) || (link.b == d && set link.a))

abbrev pub is_joined_from : ℕ → List LinkOpening → (Entity → Bool) → (ℕ → Bool) → ℕ → Bool
is_joined_from i [] up set d = false
is_joined_from i (link ∷ links) up set d = joins up set d i link || is_joined_from (suc i) links up set d

-- the set with what is outside the side and joined to one of it
abbrev pub with_joined : Group → (Entity → Bool) → (ℕ → Bool) → (ℕ → Bool) → ℕ → Bool
with_joined g up side set d = set d || (not (side d) && is_joined_from 0 g.links up set d)

-- a device alone, where it is outside the side
abbrev pub end_alone : Group → (ℕ → Bool) → ℕ → ℕ → Bool
end_alone g side b d = nat_lt d (length g.devices) && ((d == b) && not (side d))

-- whether a walk of at most n up links that stays outside the side leads from a device to b
abbrev pub is_near : Group → (Entity → Bool) → (ℕ → Bool) → ℕ → ℕ → ℕ → Bool
is_near g up side b zero = end_alone g side b
is_near g up side b (suc n) = with_joined g up side (is_near g up side b n)

-- whether any such walk does: one that visits no device twice has fewer links than there are devices
unfoldable pub is_far : Group → (Entity → Bool) → (ℕ → Bool) → ℕ → ℕ → Bool
is_far g up side b = is_near g up side b (length g.devices)

-- the numbers of the links that pass a test
abbrev pub links_from : ℕ → (ℕ → LinkOpening → Bool) → List LinkOpening → List ℕ
links_from i test [] = []
links_from i test (link ∷ links) = if test i link then i ∷ links_from (suc i) test links else links_from (suc i) test links

-- whether a link has exactly one end in a set, and is up, or is not
abbrev pub is_one_across : (Entity → Bool) → Bool → (ℕ → Bool) → ℕ → LinkOpening → Bool
is_one_across up true set i link = is_up_link up i link && is_crossing set link
is_one_across up false set i link = not (is_up_link up i link) && is_crossing set link

abbrev pub crossing_links : Group → (Entity → Bool) → Bool → (ℕ → Bool) → List ℕ
crossing_links g up are_up set = links_from 0 (is_one_across up are_up set) g.links

-- whether an entity is one of these links, or an end of one
abbrev pub is_end_of : Group → ℕ → ℕ → Bool
is_end_of g d i = (slice_index_or g.links i no_link).a == d || (slice_index_or g.links i no_link).b == d

abbrev pub is_part_of : Group → List ℕ → Entity → Bool
is_part_of g out (Device d) = list_any (is_end_of g d) out
is_part_of g out (Link i) = is_one_of out i

-- the numbers of the entities that pass a test, ascending
abbrev pub numbers_of : Group → (Entity → Bool) → List ℕ
numbers_of g test = map (place_in g) (filter test (entities_of g))

-- of the least side and what is joined to the far end, the one with fewer devices, and the side where both have as many
abbrev pub is_far_smaller : List ℕ → List ℕ → Bool
is_far_smaller side far = nat_lt (length far) (length side)

abbrev pub part_of : List ℕ → List ℕ → List ℕ
part_of side far = if is_far_smaller side far then far else side

-- a cut: the receipt's side, and what stands about it while the rows' entities change
pub record Stands : Type 0 where
  pub far : List ℕ
  pub left : List ℕ
  pub out : List ℕ
  pub changes : List ℕ
  pub gone : List ℕ

abbrev pub out_with : Group → (Entity → Bool) → List ℕ → List ℕ → List ℕ
out_with g up side far = crossing_links g up false (is_device_of g (part_of side far))

abbrev pub far_of : Group → (Entity → Bool) → Broken → List ℕ
far_of g up broken = numbers_in (length g.devices) (is_far g up (is_device_of g broken.side) (broken_pair g broken).1)

-- the cut of a broken promise, by the sets of what changes, of what is sure, and of what is sure and does not change
abbrev pub cut_by : Group → (Entity → Bool) → (Entity → Bool) → (Entity → Bool) → Broken → Stands
cut_by g changed sure after broken = record {
  far = far_of g after broken;
  left = crossing_links g after true (is_device_of g broken.side);
  out = out_with g after broken.side (far_of g after broken);
  changes = numbers_of g changed;
  gone = numbers_of g (λ e. is_part_of g (out_with g after broken.side (far_of g after broken)) e && not (sure e));
}

-- the same of rows that were judged behind these entries
unfoldable pub cut_of : Group → List Entry → List Row → Broken → Stands
cut_of g past rows broken = cut_by g (alters g (target g past) rows) (sure g past) (sure_after g past rows) broken
