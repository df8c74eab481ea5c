-- The indexes of a group, after one more part.
use Rattle.std.proofs.Common.{◌≡◌, ℕ, ◌+◌, ◌<◌, List, [], ◌∷◌, ◌++◌, if◌then◌else◌, length, refl, arith}
use Rattle.std.proofs.lemmas.List.{map_push, length_push}
use Rattle.st_net.specs.declared.parts.DevicePart.{DevicePart}
use Rattle.st_net.specs.declared.parts.LinkPart.{LinkPart}
use Rattle.st_net.specs.declared.topo.TheConstants.{MAX_DEVICES, MAX_LINKS}
use Rattle.st_grammar.proofs.TorLemmas.{tors_push}
use Rattle.st_draft.specs.GroupInside.{HasIndexes}

pub device_added : (devices more : List DevicePart) (named now : List (List ℕ)) (count after : ℕ) (links : List LinkPart) (linked : List (List ℕ)) (d : DevicePart)
    → HasIndexes devices named count links linked → more ≡ devices ++ d ∷ [] → now ≡ named ++ d.name ∷ [] → after ≡ count + (if d.tor then 1 else 0) → length devices < MAX_DEVICES → HasIndexes more now after links linked
device_added devices more named now count after links linked d had m n a room = record {
  device_index = rw (n, m, map_push (λ (d : DevicePart). d.name) devices d, had.device_index) refl;
  tor_count = rw (a, m, tors_push devices d, had.tor_count) refl;
  few_devices = rw (m, length_push devices d) (omega arith);
  link_index = had.link_index;
  few_links = had.few_links;
}

pub link_added : (devices : List DevicePart) (named : List (List ℕ)) (count : ℕ) (links more : List LinkPart) (linked now : List (List ℕ)) (l : LinkPart)
    → HasIndexes devices named count links linked → more ≡ links ++ l ∷ [] → now ≡ linked ++ l.name ∷ [] → length links < MAX_LINKS → HasIndexes devices named count more now
link_added devices named count links more linked now l had m n room = record {
  device_index = had.device_index;
  tor_count = had.tor_count;
  few_devices = had.few_devices;
  link_index = rw (n, m, map_push (λ (l : LinkPart). l.name) links l, had.link_index) refl;
  few_links = rw (m, length_push links l) (omega arith);
}
