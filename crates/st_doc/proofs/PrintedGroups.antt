-- The header and the groups' sections are taken as what they were printed for.
use Rattle.std.proofs.Common.{◌≡◌, ℕ, ◌<◌, ◌≤◌, List, [], ◌∷◌, ◌++◌, length, map, ap, sym, ◌∙◌, refl, arith}
use Rattle.std.specs.Prelude.{true, false, ◌^◌, nat_le, nat_lt, flat_map, Option, Some, None, option_to_list, Ok, codes}
use Rattle.std.specs.List.{AllByRecursion}
use Rattle.std.proofs.lemmas.List.{length-map, map_push}
use Rattle.st_text.proofs.NumberLemmas.{numbers_again}
use Rattle.st_net.proofs.Tests.{less}
use Rattle.st_net.specs.declared.parts.Parts.{Parts}
use Rattle.st_net.specs.Names.{is_name, is_among}
use Rattle.st_net.specs.Groups.{are_new}
use Rattle.st_wire.specs.declared.line.WireLine.{WireLine}
use Rattle.st_token.proofs.PrintedTokens.{name_word, number_is_word, literal, new_name_again}
use Rattle.st_grammar.specs.declared.limits.TheConstants.{MAX_GROUPS, MAX_VERSION}
use Rattle.st_grammar.specs.Draft.{GroupDraft, Draft, nothing, empty_group, group_names, parts_of}
use Rattle.st_grammar.specs.Lines.{begun_name, header_line, group_line, tokens_line, keyword_line, phased_line}
use Rattle.st_grammar.specs.Sound.{IsSoundGroup}
use Rattle.st_grammar.proofs.SoundDocs.{names_of}
use Rattle.st_grammar.proofs.SoundGroups.{IsSoundDraftGroup}
use Rattle.st_grammar.proofs.SoundParts.{Noted, group_with, drafted, sound_parts}
use Rattle.st_doc.specs.Printed.{header_words, group_words, device_words, link_words, promise_words, device_opens, link_opens, device_healths, link_healths, group_lines}
use Rattle.st_doc.proofs.PrintSteps.{Prints, prints_line, prints_both, along, amid, new_before}
use Rattle.st_doc.proofs.PrintedParts.{Version, Ended, sections, devices_printed, links_printed, promises_printed, names_amid, length_amid}
use Rattle.st_doc.proofs.PrintedOpenings.{opens_printed}
use Rattle.st_doc.proofs.PrintedHealths.{healths_printed}

-- the version that the header names, and the groups that are declared: those that are ended, and the one that was begun last
pub record Begun : Type 0 where
  pub version : Version
  pub ended : List GroupDraft
  pub last : Option GroupDraft

abbrev pub all_of : Begun → List GroupDraft
all_of b = b.ended ++ option_to_list b.last

abbrev ended_by : Begun → Ended
ended_by b = record { version = b.version; groups = all_of b }

abbrev pub no_groups : Version → Begun
no_groups version = record { version = version; ended = []; last = None }

abbrev pub grouped : Begun → Draft
grouped b = record { version = b.version.number; phase = 1; groups = b.ended; group = b.last; apps = []; app = None; order = [] }

abbrev pub no_lines : Parts → List WireLine
no_lines p = []

-- these are the groups, and none has a wire line
pub record Stands (groups : List Parts) (b : Begun) : Type 0 where
  pub parts : map parts_of (all_of b) ≡ groups
  pub wires : map (λ g. g.wires) (all_of b) ≡ map no_lines groups

-- the line of a version
header_taken : (version : Version) → nat_le version.number MAX_VERSION ≡ true → version.number < 2 ^ 32 → tokens_line nothing (header_words version.number) ≡ Ok (grouped (no_groups version))
unfolding header_line
header_taken version last small = rw (numbers_again version.number small, version.first, last) refl

pub header_printed : (version : Version) → nat_le version.number MAX_VERSION ≡ true → version.number < 2 ^ 32 → Prints nothing (header_words version.number ∷ []) (grouped (no_groups version))
header_printed version last small = prints_line nothing (header_words version.number) _ (header_taken version last small) (literal (codes "statesman") refl refl, (number_is_word version.number small, tt))

-- the line that begins a group
pub begun_again : (names : List (List ℕ)) (most : ℕ) (name : List ℕ) → is_name name ≡ true → is_among name names ≡ false → nat_lt (length names) most ≡ true → begun_name names most (name ∷ []) ≡ Ok name
unfolding begun_name
begun_again names most name spelled fresh room = rw (new_name_again (is_among name names) name spelled fresh, room) refl

group_begun : (b : Begun) (name : List ℕ) → is_name name ≡ true → is_among name (group_names (grouped b)) ≡ false → nat_lt (length (group_names (grouped b))) MAX_GROUPS ≡ true → tokens_line (grouped b) (group_words name) ≡ Ok (sections (ended_by b) (empty_group name))
unfolding keyword_line phased_line group_line
group_begun b name spelled fresh room = rw (b.version.first, begun_again (group_names (grouped b)) MAX_GROUPS name spelled fresh room) refl

-- a whole section behind the line that begins it
body_printed : (gs : Ended) (p : Parts) (s : IsSoundDraftGroup (drafted p))
    → (noted : Noted) × Prints (sections gs (empty_group p.name)) (map device_words p.devices ++ (map link_words p.links ++ (map promise_words p.promises ++ ((flat_map device_opens p.devices ++ flat_map link_opens p.links) ++ (flat_map device_healths p.devices ++ flat_map link_healths p.links)))))
    (sections gs (group_with p.name p.devices p.links p.promises noted))
body_printed gs p s =
    let opens = opens_printed gs p s in
    let healths = healths_printed gs p s opens.0 in
    (healths.0, prints_both _ _ _ _ _ (devices_printed gs p s) (prints_both _ _ _ _ _ (links_printed gs p s) (prints_both _ _ _ _ _ (promises_printed gs p s) (prints_both _ _ _ _ _ opens.1 healths.1))))

group_printed : (groups : List Parts) → AllByRecursion IsSoundGroup groups → are_new [] (map (λ (p : Parts). p.name) groups) ≡ true → length groups ≤ MAX_GROUPS → (front : List Parts) (p : Parts) (behind : List Parts) (b : Begun) → front ++ p ∷ behind ≡ groups → Stands front b
    → (c : Begun) × Prints (grouped b) (group_lines p) (grouped c) × Stands (front ++ p ∷ []) c
group_printed groups sound new few front p behind b is stands =
    let s : IsSoundDraftGroup (drafted p) = sound_parts p (amid IsSoundGroup groups front p behind is sound) in
    let names : group_names (grouped b) ≡ map (λ (p : Parts). p.name) front = sym (names_of (all_of b)) ∙ ap (map (λ (p : Parts). p.name)) stands.parts in
    let fresh : is_among p.name (group_names (grouped b)) ≡ false = ap (is_among p.name) names ∙ new_before (map (λ (p : Parts). p.name) groups) (map (λ (p : Parts). p.name) front) p.name (map (λ (p : Parts). p.name) behind) (names_amid (λ (p : Parts). p.name) groups front p behind is) new in
    let long : length (group_names (grouped b)) ≡ length front = ap length names ∙ length-map front (λ (p : Parts). p.name) in
    let low : length front < length groups = length_amid groups front p behind is in
    let room : nat_lt (length (group_names (grouped b))) MAX_GROUPS ≡ true = rw long (less (length front) MAX_GROUPS (omega arith)) in
    let body = body_printed (ended_by b) p s in
    let made : GroupDraft = group_with p.name p.devices p.links p.promises body.0 in
    let c : Begun = record { version = b.version; ended = all_of b; last = Some made } in (
      c,
      prints_both (grouped b) (group_words p.name ∷ []) (sections (ended_by b) (empty_group p.name)) _ (grouped c)
          (prints_line (grouped b) (group_words p.name) (sections (ended_by b) (empty_group p.name)) (group_begun b p.name s.spelled fresh room) (literal (codes "group") refl refl, (name_word p.name s.spelled, tt)))
          body.1,
      record {
        parts = map_push parts_of (all_of b) made ∙ ap (λ (ps : List Parts). ps ++ p ∷ []) stands.parts;
        wires = map_push (λ (g : GroupDraft). g.wires) (all_of b) made ∙ ap (λ (ws : List (List WireLine)). ws ++ [] ∷ []) stands.wires ∙ sym (map_push no_lines front p);
      },
    )

-- all groups are printed behind the header
pub groups_printed : (version : Version) (groups : List Parts) → AllByRecursion IsSoundGroup groups → are_new [] (map (λ (p : Parts). p.name) groups) ≡ true → length groups ≤ MAX_GROUPS
    → (b : Begun) × Prints (grouped (no_groups version)) (flat_map group_lines groups) (grouped b) × Stands groups b
groups_printed version groups sound new few =
    along groups (λ front left b. grouped b) group_lines Stands (group_printed groups sound new few) [] groups (no_groups version) refl (record { parts = refl; wires = refl })
