-- The lines of healths are taken as what they were printed for.
use Rattle.std.proofs.Common.{◌≡◌, ℕ, ◌+◌, ◌<◌, ◌≤◌, List, [], ◌∷◌, ◌++◌, length, map, ap, sym, ◌∙◌, subst, refl, arith}
use Rattle.std.specs.Prelude.{Bool, true, false, if◌then◌else◌, ◌&&◌, ◌==◌, nat_le, ◌^◌, flat_map, Option, Some, None, Ok, codes, decimal}
use Rattle.std.specs.List.{AllByRecursion}
use Rattle.std.proofs.lemmas.Bool.{leb-true}
use Rattle.std.proofs.lemmas.Bool.Decides.{nat_tests}
use Rattle.std.proofs.lemmas.List.{append-nil, append_assoc, length-map, length_push, map_push}
use Rattle.st_net.proofs.Tests.{equal_numbers, at_most}
use Rattle.st_net.specs.declared.entity.Entity.{Entity}
use Rattle.st_net.specs.declared.entity.Entity.TheVariants.{Device, Link}
use Rattle.st_net.specs.declared.entity.Row.{Row}
use Rattle.st_net.specs.declared.parts.Parts.{Parts}
use Rattle.st_net.specs.declared.parts.DevicePart.{DevicePart}
use Rattle.st_net.specs.declared.parts.LinkPart.{LinkPart}
use Rattle.st_net.specs.declared.parts.EndPart.{EndPart}
use Rattle.st_net.specs.Names.{is_name, is_among}
use Rattle.st_net.specs.Faults.{device_names, link_names}
use Rattle.st_net.specs.Ranges.{most_health}
use Rattle.st_net.specs.declared.range.TheConstants.{DEVICE_HEALTH, LINK_HEALTH}
use Rattle.st_token.proofs.PrintedTokens.{each, name_word, number_is_word, literal, within_again}
use Rattle.st_grammar.specs.Draft.{GroupDraft, Draft, device_told, link_told, with_health, has_health, is_told}
use Rattle.st_grammar.specs.Spelling.{entity_named}
use Rattle.st_grammar.specs.Sections.{health_of, health_line as health_line_of, own_end}
use Rattle.st_grammar.specs.Lines.{tokens_line, keyword_line, phased_line}
use Rattle.st_grammar.proofs.SoundGroups.{IsSoundDevice, IsSoundLink, IsSoundDraftGroup}
use Rattle.st_grammar.proofs.SoundSteps.{pushed_all}
use Rattle.st_grammar.proofs.SoundParts.{Noted, group_with, drafted}
use Rattle.st_doc.specs.Printed.{Words, health_words, device_healths, link_healths}
use Rattle.st_doc.proofs.PrintSteps.{Prints, prints_none, prints_line, prints_both, along, amid}
use Rattle.st_doc.proofs.PrintedTokens.{untold_again}
use Rattle.st_doc.proofs.PrintedParts.{Ended, sections, each_spelled, device_new, link_new}
use Rattle.st_doc.proofs.PrintedOpenings.{device_found, link_found, opened_device, opened_link, rows_noted}

-- the line of a health
health_taken : (gs : Ended) (g h : GroupDraft) (args : Words) → health_line_of g args ≡ Ok h → tokens_line (sections gs g) (codes "health" ∷ args) ≡ Ok (sections gs h)
unfolding keyword_line phased_line
health_taken gs g h args e = rw (gs.version.first, e) refl

health_line_again : (g : GroupDraft) (name : List ℕ) (e : Entity) (x : ℕ) → is_name name ≡ true → entity_named g name ≡ Some e → has_health g e ≡ false → nat_le x (most_health e) ≡ true → x < 2 ^ 32 → health_line_of g (name ∷ decimal x ∷ []) ≡ Ok (with_health g e x)
unfolding health_line_of health_of
health_line_again g name e x spelled at fresh most small =
    let low : nat_le 0 x ≡ true = at_most 0 x (omega arith) in
    let within : (nat_le 0 x && nat_le x (most_health e)) ≡ true = rw (low, most) refl in
    rw (untold_again g name e spelled at fresh, within_again 0 (most_health e) x small within) refl

health_printed : (gs : Ended) (g : GroupDraft) (name : List ℕ) (e : Entity) (x : ℕ) → is_name name ≡ true → entity_named g name ≡ Some e → has_health g e ≡ false → nat_le x (most_health e) ≡ true → x < 2 ^ 32
    → Prints (sections gs g) (health_words name x ∷ []) (sections gs (with_health g e x))
health_printed gs g name e x spelled at fresh most small =
    prints_line (sections gs g) (health_words name x) _ (health_taken gs g _ _ (health_line_again g name e x spelled at fresh most small))
    (literal (codes "health") refl refl, (name_word name spelled, (number_is_word x small, tt)))

-- one health set, of the part amid others
device_health : (front : List DevicePart) (d : DevicePart) (behind : List DevicePart) (x : ℕ) → device_told (front ++ d ∷ behind) (length front) x ≡ front ++ record d { health = x } ∷ behind
device_health [] d behind x = refl
device_health (e ∷ front) d behind x = ap (λ (ds : List DevicePart). e ∷ ds) (device_health front d behind x)

link_health : (front : List LinkPart) (l : LinkPart) (behind : List LinkPart) (x : ℕ) → link_told (front ++ l ∷ behind) (length front) x ≡ front ++ record l { health = x } ∷ behind
link_health [] l behind x = refl
link_health (e ∷ front) l behind x = ap (λ (ls : List LinkPart). e ∷ ls) (link_health front l behind x)

-- numbers that are told before this one
abbrev AreLess : ℕ → List ℕ → Type 0
AreLess k told = AllByRecursion (λ i. i < k) told

untold : (k : ℕ) (told : List ℕ) → AreLess k told → is_told k told ≡ false
untold k [] all = refl
untold k (i ∷ told) all = let apart : (k == i) ≡ false = other k i all.0 in rw (apart, untold k told all.1) refl
  where
    other : (k i : ℕ) → i < k → (k == i) ≡ false
    other k i less = grind (arith, nat_tests)

told_more : (k m : ℕ) (told : List ℕ) → k ≤ m → AreLess k told → AreLess m told
told_more k m told low all = each (λ i. i < k) (λ i. i < m) (λ i h. omega arith) told all

-- a link as its lines declare it: its ends are of its own group
abbrev pub told_link : LinkPart → LinkPart
told_link l = record (opened_link l) { health = l.health }

own_end_is : (e : EndPart) → e.group ≡ None → own_end e.name ≡ e
own_end_is e own = ap (λ (o : Option (List ℕ)). end_of o e.name) (sym own)
  where
    end_of : Option (List ℕ) → List ℕ → EndPart
    end_of group name = record { group = group; name = name }

abbrev link_with : LinkPart → EndPart → EndPart → LinkPart
link_with l a b = record l { a = a; b = b }

told_link_is : (names : List (List ℕ)) (l : LinkPart) → IsSoundLink names l → told_link l ≡ l
told_link_is names l s = ap (λ (a : EndPart). link_with l a (own_end l.b.name)) (own_end_is l.a s.a_own) ∙ ap (λ (b : EndPart). link_with l l.a b) (own_end_is l.b s.b_own)

told_links_are : (names : List (List ℕ)) (ls : List LinkPart) → AllByRecursion (IsSoundLink names) ls → map told_link ls ≡ ls
told_links_are names [] all = refl
told_links_are names (l ∷ ls) all = rw (told_link_is names l all.0, told_links_are names ls all.1) refl

told_link_names : (ls : List LinkPart) → link_names (map told_link ls) ≡ link_names ls
told_link_names [] = refl
told_link_names (l ∷ ls) = ap (λ (ns : List (List ℕ)). l.name ∷ ns) (told_link_names ls)

module _ (gs : Ended) (p : Parts) (s : IsSoundDraftGroup (drafted p)) (rows : List Row) where
  abbrev noted : List ℕ → List ℕ → Noted
  noted devices links = record { opens = rows; devices = devices; links = links }

  abbrev with_device_healths : List DevicePart → List DevicePart → List ℕ → Draft
  with_device_healths front left told = sections gs (group_with p.name (front ++ map opened_device left) (map opened_link p.links) p.promises (noted told []))

  device_by : (front : List DevicePart) (d : DevicePart) (behind : List DevicePart) (told : List ℕ) (b : Bool) → (d.health == DEVICE_HEALTH) ≡ b → is_name d.name ≡ true → is_among d.name (device_names front) ≡ false → nat_le d.health DEVICE_HEALTH ≡ true → AreLess (length front) told
      → (t : List ℕ) × Prints (with_device_healths front (d ∷ behind) told) (if b then [] else health_words d.name d.health ∷ []) (sections gs (group_with p.name (front ++ d ∷ map opened_device behind) (map opened_link p.links) p.promises (noted t []))) × AreLess (length front + 1) t
  device_by front d behind told true is spelled fresh most all =
      let same : opened_device d ≡ d = ap (λ k. record d { health = k }) (sym (equal_numbers d.health DEVICE_HEALTH is)) in (
        told,
        subst (λ (e : DevicePart). Prints (with_device_healths front (d ∷ behind) told) [] (sections gs (group_with p.name (front ++ e ∷ map opened_device behind) (map opened_link p.links) p.promises (noted told [])))) same (prints_none (with_device_healths front (d ∷ behind) told)),
        told_more (length front) (length front + 1) told (omega arith) all,
      )
  device_by front d behind told false is spelled fresh most all =
      let g = group_with p.name (front ++ map opened_device (d ∷ behind)) (map opened_link p.links) p.promises (noted told []) in
      let at = device_found g front (opened_device d) (map opened_device behind) refl fresh in
      let few = leb-true d.health 5 most in
      let line = health_printed gs g d.name (Device (length front)) d.health spelled at (untold (length front) told all) most (omega arith) in (
        told ++ length front ∷ [],
        subst (λ (ds : List DevicePart). Prints (with_device_healths front (d ∷ behind) told) (health_words d.name d.health ∷ []) (sections gs (group_with p.name ds (map opened_link p.links) p.promises (noted (told ++ length front ∷ []) [])))) (device_health front (opened_device d) (map opened_device behind) d.health) line,
        pushed_all (λ i. i < length front + 1) told (length front) (told_more (length front) (length front + 1) told (omega arith) all) (omega arith),
      )

  device_healths_printed : (front : List DevicePart) (d : DevicePart) (behind : List DevicePart) (told : List ℕ) → front ++ d ∷ behind ≡ p.devices → AreLess (length front) told
      → (t : List ℕ) × Prints (with_device_healths front (d ∷ behind) told) (device_healths d) (with_device_healths (front ++ d ∷ []) behind t) × AreLess (length (front ++ d ∷ [])) t
  device_healths_printed front d behind told is all =
      let spelled : is_name d.name ≡ true = amid (λ (d : DevicePart). is_name d.name ≡ true) p.devices front d behind is (each_spelled (λ (d : DevicePart). d.name) p.devices s.spelled_devices) in
      let fresh : is_among d.name (device_names front) ≡ false = device_new p.devices (link_names p.links) front d behind is s.named in
      let sound : IsSoundDevice d = amid IsSoundDevice p.devices front d behind is s.devices in
      let made = device_by front d behind told (d.health == DEVICE_HEALTH) refl spelled fresh sound.health all in
      let more : length (front ++ d ∷ []) ≡ length front + 1 = length_push front d in (
        made.0,
        subst (λ (ds : List DevicePart). Prints (with_device_healths front (d ∷ behind) told) (device_healths d) (sections gs (group_with p.name ds (map opened_link p.links) p.promises (noted made.0 [])))) (sym (append_assoc front (d ∷ []) (map opened_device behind))) made.1,
        told_more (length front + 1) (length (front ++ d ∷ [])) made.0 (omega arith) made.2,
      )

  abbrev with_link_healths : List ℕ → List LinkPart → List LinkPart → List ℕ → Draft
  with_link_healths devices front left told = sections gs (group_with p.name p.devices (map told_link front ++ map opened_link left) p.promises (noted devices told))

  link_by : (devices : List ℕ) (front : List LinkPart) (l : LinkPart) (behind : List LinkPart) (told : List ℕ) (b : Bool) → (l.health == LINK_HEALTH) ≡ b → is_name l.name ≡ true → is_among l.name (device_names p.devices) ≡ false → is_among l.name (link_names front) ≡ false → nat_le l.health LINK_HEALTH ≡ true → AreLess (length front) told
      → (t : List ℕ) × Prints (with_link_healths devices front (l ∷ behind) told) (if b then [] else health_words l.name l.health ∷ []) (sections gs (group_with p.name p.devices (map told_link front ++ told_link l ∷ map opened_link behind) p.promises (noted devices t))) × AreLess (length front + 1) t
  link_by devices front l behind told true is spelled no_device no_link most all =
      let same : opened_link l ≡ told_link l = ap (λ k. record (opened_link l) { health = k }) (sym (equal_numbers l.health LINK_HEALTH is)) in (
        told,
        subst (λ (e : LinkPart). Prints (with_link_healths devices front (l ∷ behind) told) [] (sections gs (group_with p.name p.devices (map told_link front ++ e ∷ map opened_link behind) p.promises (noted devices told)))) same (prints_none (with_link_healths devices front (l ∷ behind) told)),
        told_more (length front) (length front + 1) told (omega arith) all,
      )
  link_by devices front l behind told false is spelled no_device no_link most all =
      let g = group_with p.name p.devices (map told_link front ++ map opened_link (l ∷ behind)) p.promises (noted devices told) in
      let long : length (map told_link front) ≡ length front = length-map front told_link in
      let at : entity_named g l.name ≡ Some (Link (length front)) = link_found g (map told_link front) (opened_link l) (map opened_link behind) refl no_device (ap (is_among l.name) (told_link_names front) ∙ no_link) ∙ ap (λ k. Some (Link k)) long in
      let few = leb-true l.health 1 most in
      let line = health_printed gs g l.name (Link (length front)) l.health spelled at (untold (length front) told all) most (omega arith) in
      let set : link_told (map told_link front ++ map opened_link (l ∷ behind)) (length front) l.health ≡ map told_link front ++ told_link l ∷ map opened_link behind =
      ap (λ k. link_told (map told_link front ++ map opened_link (l ∷ behind)) k l.health) (sym long) ∙ link_health (map told_link front) (opened_link l) (map opened_link behind) l.health in (
        told ++ length front ∷ [],
        subst (λ (ls : List LinkPart). Prints (with_link_healths devices front (l ∷ behind) told) (health_words l.name l.health ∷ []) (sections gs (group_with p.name p.devices ls p.promises (noted devices (told ++ length front ∷ []))))) set line,
        pushed_all (λ i. i < length front + 1) told (length front) (told_more (length front) (length front + 1) told (omega arith) all) (omega arith),
      )

  link_healths_printed : (devices : List ℕ) (front : List LinkPart) (l : LinkPart) (behind : List LinkPart) (told : List ℕ) → front ++ l ∷ behind ≡ p.links → AreLess (length front) told
      → (t : List ℕ) × Prints (with_link_healths devices front (l ∷ behind) told) (link_healths l) (with_link_healths devices (front ++ l ∷ []) behind t) × AreLess (length (front ++ l ∷ [])) t
  link_healths_printed devices front l behind told is all =
      let spelled : is_name l.name ≡ true = amid (λ (l : LinkPart). is_name l.name ≡ true) p.links front l behind is (each_spelled (λ (l : LinkPart). l.name) p.links s.spelled_links) in
      let new = link_new (device_names p.devices) p.links front l behind is s.named in
      let sound : IsSoundLink (device_names p.devices) l = amid (IsSoundLink (device_names p.devices)) p.links front l behind is s.links in
      let made = link_by devices front l behind told (l.health == LINK_HEALTH) refl spelled new.no_device new.no_link sound.health all in
      let more : length (front ++ l ∷ []) ≡ length front + 1 = length_push front l in
      let pushed : map told_link front ++ told_link l ∷ map opened_link behind ≡ map told_link (front ++ l ∷ []) ++ map opened_link behind = sym (append_assoc (map told_link front) (told_link l ∷ []) (map opened_link behind)) ∙ ap (λ (ls : List LinkPart). ls ++ map opened_link behind) (sym (map_push told_link front l)) in (
        made.0,
        subst (λ (ls : List LinkPart). Prints (with_link_healths devices front (l ∷ behind) told) (link_healths l) (sections gs (group_with p.name p.devices ls p.promises (noted devices made.0)))) pushed made.1,
        told_more (length front + 1) (length (front ++ l ∷ [])) made.0 (omega arith) made.2,
      )

  -- all healths are printed behind the opening values
  pub healths_printed : (noted : Noted) × Prints (sections gs (group_with p.name (map opened_device p.devices) (map opened_link p.links) p.promises (rows_noted rows))) (flat_map device_healths p.devices ++ flat_map link_healths p.links)
      (sections gs (group_with p.name p.devices p.links p.promises noted))
  healths_printed =
      let a = along p.devices with_device_healths device_healths (λ front told. AreLess (length front) told) device_healths_printed [] p.devices [] refl tt in
      let devices : Prints (with_device_healths [] p.devices []) (flat_map device_healths p.devices) (with_link_healths a.0 [] p.links []) =
      subst (λ (ds : List DevicePart). Prints (with_device_healths [] p.devices []) (flat_map device_healths p.devices) (sections gs (group_with p.name ds (map opened_link p.links) p.promises (noted a.0 [])))) (append-nil p.devices) a.1 in
      let b = along p.links (with_link_healths a.0) link_healths (λ front told. AreLess (length front) told) (link_healths_printed a.0) [] p.links [] refl tt in
      let same : map told_link p.links ++ [] ≡ p.links = append-nil (map told_link p.links) ∙ told_links_are (device_names p.devices) p.links s.links in (
        noted a.0 b.0,
        prints_both _ _ _ _ _ devices
            (subst (λ (ls : List LinkPart). Prints (with_link_healths a.0 [] p.links []) (flat_map link_healths p.links) (sections gs (group_with p.name p.devices ls p.promises (noted a.0 b.0)))) same b.1),
      )
