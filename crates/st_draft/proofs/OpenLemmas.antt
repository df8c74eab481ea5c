-- The indexes of a group, after one opening value was set.
use Rattle.std.proofs.Common.{◌≡◌, ℕ, zero, suc, ◌<◌, List, [], ◌∷◌, length, get_or, set, ap, sym, ◌∙◌, subst, arith}
use Rattle.std.specs.List.{AllByRecursion}
use Rattle.st_net.specs.declared.entity.Var.{Var}
use Rattle.st_net.specs.declared.entity.Vals.{Vals}
use Rattle.st_net.specs.declared.entity.Entity.{Entity}
use Rattle.st_net.specs.declared.entity.Entity.TheVariants.{Device, Link}
use Rattle.st_net.specs.declared.parts.DevicePart.{DevicePart}
use Rattle.st_net.specs.declared.parts.LinkPart.{LinkPart}
use Rattle.st_net.specs.declared.parts.PromisePart.{PromisePart}
use Rattle.st_net.specs.declared.pairs.Pair.{Pair}
use Rattle.st_net.specs.Entities.{device_value_set, link_value_set, value_set}
use Rattle.st_net.specs.Faults.{device_names}
use Rattle.st_grammar.specs.Draft.{GroupDraft, IsEntityIn, opened, device_opened, link_opened}
use Rattle.st_grammar.proofs.OpenLemmas.{device_names_kept, link_names_kept, devices_kept, links_kept, tors_kept}
use Rattle.st_draft.specs.GroupInside.{HasIndexes, HasPairs, HasKnownEnds}

pub device_set : (ds : List DevicePart) (i : ℕ) (d : DevicePart) (v : Var) (x : ℕ) → d ≡ get_or ds i d → i < length ds → set ds i (record d { vals = device_value_set d.vals v x }) ≡ device_opened ds i v x
device_set [] i d v x is less = absurd (omega arith)
device_set (e ∷ ds) zero d v x is less = ap (λ (d : DevicePart). record d { vals = device_value_set d.vals v x } ∷ ds) is
device_set (e ∷ ds) (suc i) d v x is less = ap (λ (rest : List DevicePart). e ∷ rest) (device_set ds i d v x is (omega arith))

pub link_set : (ls : List LinkPart) (i : ℕ) (l : LinkPart) (v : Var) (x : ℕ) → l ≡ get_or ls i l → i < length ls → set ls i (record l { vals = link_value_set l.vals v x }) ≡ link_opened ls i v x
link_set [] i l v x is less = absurd (omega arith)
link_set (e ∷ ls) zero l v x is less = ap (λ (l : LinkPart). record l { vals = link_value_set l.vals v x } ∷ ls) is
link_set (e ∷ ls) (suc i) l v x is less = ap (λ (rest : List LinkPart). e ∷ rest) (link_set ls i l v x is (omega arith))

pub device_reset : (devices more : List DevicePart) (named : List (List ℕ)) (count : ℕ) (links : List LinkPart) (linked : List (List ℕ)) (i : ℕ) (v : Var) (x : ℕ)
    → HasIndexes devices named count links linked → more ≡ device_opened devices i v x → HasIndexes more named count links linked
device_reset devices more named count links linked i v x had m = record {
  device_index = rw (m, device_names_kept devices i v x) had.device_index;
  tor_count = rw (m, tors_kept devices i v x) had.tor_count;
  few_devices = rw (m, devices_kept devices i v x) had.few_devices;
  link_index = had.link_index;
  few_links = had.few_links;
}

pub link_reset : (devices : List DevicePart) (named : List (List ℕ)) (count : ℕ) (links more : List LinkPart) (linked : List (List ℕ)) (i : ℕ) (v : Var) (x : ℕ)
    → HasIndexes devices named count links linked → more ≡ link_opened links i v x → HasIndexes devices named count more linked
link_reset devices named count links more linked i v x had m = record {
  device_index = had.device_index;
  tor_count = had.tor_count;
  few_devices = had.few_devices;
  link_index = rw (m, link_names_kept links i v x) had.link_index;
  few_links = rw (m, links_kept links i v x) had.few_links;
}

pub pairs_reset : (devices more : List DevicePart) (ps : List PromisePart) (pairs : List Pair) (i : ℕ) (v : Var) (x : ℕ) → HasPairs devices ps pairs → more ≡ device_opened devices i v x → HasPairs more ps pairs
pairs_reset devices more ps pairs i v x had m =
    let names : device_names more ≡ device_names devices = rw m (device_names_kept devices i v x) in
    record {
      pair_index = rw names had.pair_index;
      known = subst (λ (ns : List (List ℕ)). AllByRecursion (HasKnownEnds ns) ps) (sym names) had.known;
    }

-- what is written over an entity is the group with the value opened
pub device_written : (g h : GroupDraft) (e : Entity) (i : ℕ) (d : DevicePart) (vals : Vals) (v : Var) (x : ℕ) → h ≡ g → e ≡ Device i → IsEntityIn g e → d ≡ get_or h.devices i d → vals ≡ value_set e d.vals v x
    → set h.devices i (record d { vals = vals }) ≡ device_opened h.devices i v x
device_written g h e i d vals v x same is within at value =
    let written : vals ≡ device_value_set d.vals v x = value ∙ ap (λ (e : Entity). value_set e d.vals v x) is in
    let less : i < length g.devices = subst (IsEntityIn g) is within in
    rw written (device_set h.devices i d v x at (rw same less))

pub device_after : (g h : GroupDraft) (e : Entity) (i : ℕ) (d : DevicePart) (vals : Vals) (v : Var) (x : ℕ) → h ≡ g → e ≡ Device i → IsEntityIn g e → d ≡ get_or h.devices i d → vals ≡ value_set e d.vals v x
    → record h { devices = set h.devices i (record d { vals = vals }) } ≡ opened g e v x
device_after g h e i d vals v x same is within at value =
    ap (λ (ds : List DevicePart). record h { devices = ds }) (device_written g h e i d vals v x same is within at value) ∙ ap (λ (e : Entity). opened h e v x) (sym is) ∙ ap (λ (h : GroupDraft). opened h e v x) same

pub link_written : (g h : GroupDraft) (e : Entity) (i : ℕ) (l : LinkPart) (vals : Vals) (v : Var) (x : ℕ) → h ≡ g → e ≡ Link i → IsEntityIn g e → l ≡ get_or h.links i l → vals ≡ value_set e l.vals v x
    → set h.links i (record l { vals = vals }) ≡ link_opened h.links i v x
link_written g h e i l vals v x same is within at value =
    let written : vals ≡ link_value_set l.vals v x = value ∙ ap (λ (e : Entity). value_set e l.vals v x) is in
    let less : i < length g.links = subst (IsEntityIn g) is within in
    rw written (link_set h.links i l v x at (rw same less))

pub link_after : (g h : GroupDraft) (e : Entity) (i : ℕ) (l : LinkPart) (vals : Vals) (v : Var) (x : ℕ) → h ≡ g → e ≡ Link i → IsEntityIn g e → l ≡ get_or h.links i l → vals ≡ value_set e l.vals v x
    → record h { links = set h.links i (record l { vals = vals }) } ≡ opened g e v x
link_after g h e i l vals v x same is within at value =
    ap (λ (ls : List LinkPart). record h { links = ls }) (link_written g h e i l vals v x same is within at value) ∙ ap (λ (e : Entity). opened h e v x) (sym is) ∙ ap (λ (h : GroupDraft). opened h e v x) same
