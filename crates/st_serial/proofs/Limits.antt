-- A group in which nothing is wrong keeps the limits, and so the counts of a document are small.
use Rattle.std.proofs.Common.{◌≡◌, ◌^◌, ◌<◌, List, length, arith}
use Rattle.std.specs.Prelude.{slice_index_or, sum_by}
use Rattle.std.proofs.lemmas.List.Sums.{sum_by-le}
use Rattle.st_net.specs.declared.parts.Parts.{Parts}
use Rattle.st_net.specs.declared.topo.TheConstants.{MAX_DEVICES, MAX_LINKS, MAX_PROMISES}
use Rattle.st_grammar.specs.declared.doc.Doc.{Doc}
use Rattle.st_grammar.specs.declared.doc.Script.{Script}
use Rattle.st_grammar.specs.declared.limits.TheConstants.{MAX_ACTS}
use Rattle.st_grammar.specs.Sound.{IsSoundDoc}
use Rattle.st_grammar.proofs.SoundParts.{sound_parts}

-- the counts of a document that was read fit 64 bits many times over
record HasFewCounts (doc : Doc) : Type 0 where
  devices : sum_by (λ parts. length parts.devices) doc.groups < 2 ^ 32
  links : sum_by (λ parts. length parts.links) doc.groups < 2 ^ 32
  promises : sum_by (λ parts. length parts.promises) doc.groups < 2 ^ 32
  commands : sum_by (λ script. length script.acts) doc.apps < 2 ^ 32

few_counts : (doc : Doc) → IsSoundDoc doc → HasFewCounts doc
few_counts doc sound =
    let devices = sum_by-le (λ parts. length parts.devices) MAX_DEVICES doc.groups (λ k d low. (sound_parts (slice_index_or doc.groups k d) (sound.groups k d low)).few_devices) in
    let links = sum_by-le (λ parts. length parts.links) MAX_LINKS doc.groups (λ k d low. (sound_parts (slice_index_or doc.groups k d) (sound.groups k d low)).few_links) in
    let promises = sum_by-le (λ parts. length parts.promises) MAX_PROMISES doc.groups (λ k d low. (sound_parts (slice_index_or doc.groups k d) (sound.groups k d low)).few_promises) in
    let commands = sum_by-le (λ script. length script.acts) MAX_ACTS doc.apps (λ k d low. (sound.apps k d low).few) in
    let groups = sound.few_groups in
    let apps = sound.few_apps in
    record { devices = omega (arith, devices, groups); links = omega (arith, links, groups); promises = omega (arith, promises, groups); commands = omega (arith, commands, apps) }

-- so each count can be summed up in 64 bits
pub devices_fit : (doc : Doc) (groups : List Parts) → IsSoundDoc doc → groups ≡ doc.groups → sum_by (λ parts. length parts.devices) groups < 2 ^ 64
devices_fit doc groups sound is = let few = (few_counts doc sound).devices in rw is (omega arith)

pub links_fit : (doc : Doc) (groups : List Parts) → IsSoundDoc doc → groups ≡ doc.groups → sum_by (λ parts. length parts.links) groups < 2 ^ 64
links_fit doc groups sound is = let few = (few_counts doc sound).links in rw is (omega arith)

pub promises_fit : (doc : Doc) (groups : List Parts) → IsSoundDoc doc → groups ≡ doc.groups → sum_by (λ parts. length parts.promises) groups < 2 ^ 64
promises_fit doc groups sound is = let few = (few_counts doc sound).promises in rw is (omega arith)

pub commands_fit : (doc : Doc) (apps : List Script) → IsSoundDoc doc → apps ≡ doc.apps → sum_by (λ script. length script.acts) apps < 2 ^ 64
commands_fit doc apps sound is = let few = (few_counts doc sound).commands in rw is (omega arith)
