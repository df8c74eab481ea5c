-- The indexes of a group, after one health was set.
use Rattle.std.proofs.Common.{◌≡◌, ℕ, zero, suc, ◌<◌, List, [], ◌∷◌, ◌++◌, length, get_or, set, ap, sym, ◌∙◌, subst, arith}
use Rattle.std.specs.List.{AllByRecursion}
use Rattle.st_net.specs.declared.entity.Entity.{Entity}
use Rattle.st_net.specs.declared.entity.Entity.TheVariants.{Device, Link}
use Rattle.st_net.specs.declared.parts.DevicePart.{DevicePart}
use Rattle.st_net.specs.declared.parts.LinkPart.{LinkPart}
use Rattle.st_net.specs.declared.parts.PromisePart.{PromisePart}
use Rattle.st_net.specs.declared.pairs.Pair.{Pair}
use Rattle.st_net.specs.Faults.{device_names}
use Rattle.st_grammar.specs.Draft.{GroupDraft, IsEntityIn, with_health, device_told, link_told}
use Rattle.st_grammar.proofs.HealthLemmas.{told_device_names, told_link_names, told_devices_count, told_links_count, told_tors}
use Rattle.st_draft.specs.GroupInside.{HasIndexes, HasPairs, HasKnownEnds}

pub device_health_set : (ds : List DevicePart) (i : ℕ) (d : DevicePart) (h : ℕ) → d ≡ get_or ds i d → i < length ds → set ds i (record d { health = h }) ≡ device_told ds i h
device_health_set [] i d h is less = absurd (omega arith)
device_health_set (e ∷ ds) zero d h is less = ap (λ (d : DevicePart). record d { health = h } ∷ ds) is
device_health_set (e ∷ ds) (suc i) d h is less = ap (λ (rest : List DevicePart). e ∷ rest) (device_health_set ds i d h is (omega arith))

pub link_health_set : (ls : List LinkPart) (i : ℕ) (l : LinkPart) (h : ℕ) → l ≡ get_or ls i l → i < length ls → set ls i (record l { health = h }) ≡ link_told ls i h
link_health_set [] i l h is less = absurd (omega arith)
link_health_set (e ∷ ls) zero l h is less = ap (λ (l : LinkPart). record l { health = h } ∷ ls) is
link_health_set (e ∷ ls) (suc i) l h is less = ap (λ (rest : List LinkPart). e ∷ rest) (link_health_set ls i l h is (omega arith))

pub device_told_index : (devices more : List DevicePart) (named : List (List ℕ)) (count : ℕ) (links : List LinkPart) (linked : List (List ℕ)) (i h : ℕ)
    → HasIndexes devices named count links linked → more ≡ device_told devices i h → HasIndexes more named count links linked
device_told_index devices more named count links linked i h had m = record {
  device_index = rw (m, told_device_names devices i h) had.device_index;
  tor_count = rw (m, told_tors devices i h) had.tor_count;
  few_devices = rw (m, told_devices_count devices i h) had.few_devices;
  link_index = had.link_index;
  few_links = had.few_links;
}

pub link_told_index : (devices : List DevicePart) (named : List (List ℕ)) (count : ℕ) (links more : List LinkPart) (linked : List (List ℕ)) (i h : ℕ)
    → HasIndexes devices named count links linked → more ≡ link_told links i h → HasIndexes devices named count more linked
link_told_index devices named count links more linked i h had m = record {
  device_index = had.device_index;
  tor_count = had.tor_count;
  few_devices = had.few_devices;
  link_index = rw (m, told_link_names links i h) had.link_index;
  few_links = rw (m, told_links_count links i h) had.few_links;
}

pub device_told_pairs : (devices more : List DevicePart) (ps : List PromisePart) (pairs : List Pair) (i h : ℕ) → HasPairs devices ps pairs → more ≡ device_told devices i h → HasPairs more ps pairs
device_told_pairs devices more ps pairs i h had m =
    let names : device_names more ≡ device_names devices = rw m (told_device_names devices i h) in
    record {
      pair_index = rw names had.pair_index;
      known = subst (λ (ns : List (List ℕ)). AllByRecursion (HasKnownEnds ns) ps) (sym names) had.known;
    }

-- what is written over an entity is the group with the health
pub device_health_written : (g h : GroupDraft) (e : Entity) (i : ℕ) (d : DevicePart) (health : ℕ) → h ≡ g → e ≡ Device i → IsEntityIn g e → d ≡ get_or h.devices i d → set h.devices i (record d { health = health }) ≡ device_told h.devices i health
device_health_written g h e i d health same is within at =
    let less : i < length g.devices = subst (IsEntityIn g) is within in
    device_health_set h.devices i d health at (rw same less)

pub device_health_after : (g h : GroupDraft) (e : Entity) (i : ℕ) (d : DevicePart) (health : ℕ) (told : List ℕ) → h ≡ g → e ≡ Device i → IsEntityIn g e → d ≡ get_or h.devices i d → told ≡ h.told_devices ++ i ∷ []
    → record h { devices = set h.devices i (record d { health = health }); told_devices = told } ≡ with_health g e health
device_health_after g h e i d health told same is within at more =
    ap (λ (ds : List DevicePart). record h { devices = ds; told_devices = told }) (device_health_written g h e i d health same is within at)
    ∙ ap (λ (ns : List ℕ). record h { devices = device_told h.devices i health; told_devices = ns }) more
    ∙ ap (λ (e : Entity). with_health h e health) (sym is) ∙ ap (λ (h : GroupDraft). with_health h e health) same

pub link_health_written : (g h : GroupDraft) (e : Entity) (i : ℕ) (l : LinkPart) (health : ℕ) → h ≡ g → e ≡ Link i → IsEntityIn g e → l ≡ get_or h.links i l → set h.links i (record l { health = health }) ≡ link_told h.links i health
link_health_written g h e i l health same is within at =
    let less : i < length g.links = subst (IsEntityIn g) is within in
    link_health_set h.links i l health at (rw same less)

pub link_health_after : (g h : GroupDraft) (e : Entity) (i : ℕ) (l : LinkPart) (health : ℕ) (told : List ℕ) → h ≡ g → e ≡ Link i → IsEntityIn g e → l ≡ get_or h.links i l → told ≡ h.told_links ++ i ∷ []
    → record h { links = set h.links i (record l { health = health }); told_links = told } ≡ with_health g e health
link_health_after g h e i l health told same is within at more =
    ap (λ (ls : List LinkPart). record h { links = ls; told_links = told }) (link_health_written g h e i l health same is within at)
    ∙ ap (λ (ns : List ℕ). record h { links = link_told h.links i health; told_links = ns }) more
    ∙ ap (λ (e : Entity). with_health h e health) (sym is) ∙ ap (λ (h : GroupDraft). with_health h e health) same
