-- The lines of commands are taken as what they were printed for.
use Rattle.std.proofs.Common.{◌≡◌, ℕ, zero, suc, ◌<◌, ◌≤◌, List, [], ◌∷◌, ◌++◌, length, map, ap, sym, ◌∙◌, subst, refl, arith}
use Rattle.std.specs.Prelude.{true, false, ◌&&◌, nat_le, nat_lt, ◌^◌, Some, slice_get, slice_index_or, Ok, codes, decimal}
use Rattle.std.specs.List.{AllByRecursion}
use Rattle.std.proofs.lemmas.Bool.{leb-true}
use Rattle.std.proofs.lemmas.List.{length-map, map-append}
use Rattle.std.proofs.lemmas.List.Elements.{recursion_from_All}
use Rattle.st_text.specs.Words.{IsWord}
use Rattle.st_net.proofs.Tests.{at_most}
use Rattle.st_net.specs.declared.entity.Entity.{Entity}
use Rattle.st_net.specs.declared.entity.Entity.TheVariants.{Device, Link}
use Rattle.st_net.specs.declared.entity.Prio.{Prio}
use Rattle.st_net.specs.declared.entity.Row.{Row}
use Rattle.st_net.specs.declared.entity.Var.{Var}
use Rattle.st_net.specs.declared.parts.Parts.{Parts}
use Rattle.st_net.specs.declared.parts.DevicePart.{DevicePart}
use Rattle.st_net.specs.declared.parts.LinkPart.{LinkPart}
use Rattle.st_net.specs.declared.topo.TheConstants.{MAX_ROWS}
use Rattle.st_net.specs.Names.{is_name, is_among, place_of}
use Rattle.st_net.specs.Entities.{is_var_of}
use Rattle.st_net.specs.Groups.{Group, IsEntityOf, name_of, are_new}
use Rattle.st_net.specs.Ranges.{RowFits, RowsFit, is_health_of, IsVariableOf, IsChangeOf, IsOn, most_health}
use Rattle.st_net.specs.Faults.{no_parts, group_of, device_names, link_names, device_opening, link_opening}
use Rattle.st_event.specs.declared.act.Act.{Act}
use Rattle.st_event.specs.declared.act.Act.TheVariants.{Propose, Await, Settle, Lock, Unlock, Read, ReadAt, Fail, Poll, Span}
use Rattle.st_token.specs.ReadingBack.{IsNamed, IsPrintable}
use Rattle.st_token.proofs.PrintedRows.{IsOwnValue, rows_again, rows_words, values_again, values_words, free_of_none}
use Rattle.st_token.specs.Spelling.{known_name_in, is_comment}
use Rattle.st_token.specs.Words.{prio_word, variable_word}
use Rattle.st_token.proofs.PrintedTokens.{each, name_word, number_is_word, prio_is_word, variable_is_word, literal, known_name_again, entity_again, number_again, within_again, prio_again, variable_again}
use Rattle.st_grammar.specs.declared.keyword.Keyword.TheVariants as keywords
use Rattle.st_grammar.specs.declared.keyword.ActWord.{ActWord}
use Rattle.st_grammar.specs.declared.keyword.ActWord.TheVariants as act_words
use Rattle.st_grammar.specs.declared.limits.TheConstants.{MAX_ACTS, MAX_ROUNDS}
use Rattle.st_grammar.specs.declared.doc.Script.{Script}
use Rattle.st_grammar.specs.Draft.{GroupDraft, Draft, groups_of, group_names, parts_of}
use Rattle.st_grammar.specs.Spelling.{entity_named}
use Rattle.st_grammar.specs.Commands.{group_in, group_entity_in, propose_of, await_of, settle_of, lock_of, unlock_of, read_of, readat_of, fail_of, poll_of, act_of}
use Rattle.st_grammar.specs.Keywords.{keyword_of}
use Rattle.st_grammar.specs.Lines.{act_added, act_line, tokens_line, keyword_line, phased_line}
use Rattle.st_grammar.specs.Sound.{IsSoundGroup, IsSoundAct, IsGroupWith}
use Rattle.st_grammar.proofs.SoundGroups.{IsSoundDraftGroup}
use Rattle.st_grammar.proofs.SoundParts.{drafted, sound_parts}
use Rattle.st_grammar.proofs.SoundDocs.{names_of}
use Rattle.st_doc.specs.Printed.{Words, group_at, entity_word, assignment_words, value_words, act_words}
use Rattle.st_doc.proofs.PrintSteps.{Prints, prints_line, amid, new_before}
use Rattle.st_doc.proofs.PrintedParts.{each_spelled, names_amid, device_new, link_new}
use Rattle.st_doc.proofs.PrintedOpenings.{place_amid, device_found, link_found}
use Rattle.st_doc.proofs.PrintedGroups.{Begun, all_of}

-- a list at one of its places
pub record Split {X : Type 0} (xs : List X) (n : ℕ) : Type 0 where
  pub front : List X
  pub item : X
  pub behind : List X
  pub is : front ++ item ∷ behind ≡ xs
  pub long : length front ≡ n

pub split_at : {X : Type 0} (xs : List X) (n : ℕ) → n < length xs → Split xs n
split_at [] n low = absurd (omega arith)
split_at (x ∷ xs) zero low = record { front = []; item = x; behind = xs; is = refl; long = refl }
split_at {X = X} (x ∷ xs) (suc n) low =
    let s = split_at xs n (omega arith) in
    record { front = x ∷ s.front; item = s.item; behind = s.behind; is = ap (λ (ys : List X). x ∷ ys) s.is; long = ap suc s.long }

get_amid : {X : Type 0} (front : List X) (x : X) (behind : List X) → slice_get (front ++ x ∷ behind) (length front) ≡ Some x
get_amid [] x behind = refl
get_amid (y ∷ front) x behind = get_amid front x behind

pub index_amid : {X : Type 0} (front : List X) (x : X) (behind : List X) (d : X) → slice_index_or (front ++ x ∷ behind) (length front) d ≡ x
index_amid [] x behind d = refl
index_amid (y ∷ front) x behind d = index_amid front x behind d

-- the group of a number
group_fact : (groups : List Parts) (n : ℕ) (P : Group → Type 0) → IsGroupWith groups n P → (n < length groups) × P (group_of (group_at groups n))
group_fact [] n P fact = absurd fact
group_fact (g ∷ groups) zero P fact = (omega arith, fact)
group_fact (g ∷ groups) (suc n) P fact = let rest = group_fact groups n P fact in (omega (arith, rest.0), rest.1)

pub record GroupKnown (d : Draft) (groups : List Parts) (n : ℕ) : Type 0 where
  pub group : GroupDraft
  pub parts : parts_of group ≡ group_at groups n
  pub sound : IsSoundGroup (parts_of group)
  pub placed : place_of (group_at groups n).name (group_names d) ≡ Some n
  pub got : slice_get (groups_of d) n ≡ Some group

group_known : (d : Draft) (groups : List Parts) (n : ℕ) → map parts_of (groups_of d) ≡ groups → AllByRecursion IsSoundGroup groups → are_new [] (map (λ (p : Parts). p.name) groups) ≡ true → n < length groups → GroupKnown d groups n
group_known d groups n are sound new low =
    let count : length (groups_of d) ≡ length groups = sym (length-map (groups_of d) parts_of) ∙ ap length are in
    let s = split_at (groups_of d) n (omega arith) in
    let mapped : map parts_of s.front ++ parts_of s.item ∷ map parts_of s.behind ≡ groups = sym (map-append parts_of s.front (s.item ∷ s.behind)) ∙ ap (map parts_of) s.is ∙ are in
    let long : length (map parts_of s.front) ≡ n = length-map s.front parts_of ∙ s.long in
    let here : group_at groups n ≡ parts_of s.item = ap (λ (ps : List Parts). slice_index_or ps n no_parts) (sym mapped) ∙ ap (λ k. slice_index_or (map parts_of s.front ++ parts_of s.item ∷ map parts_of s.behind) k no_parts) (sym long) ∙ index_amid (map parts_of s.front) (parts_of s.item) (map parts_of s.behind) no_parts in
    let names : map (λ (g : GroupDraft). g.name) s.front ++ s.item.name ∷ map (λ (g : GroupDraft). g.name) s.behind ≡ group_names d = names_amid (λ (g : GroupDraft). g.name) (groups_of d) s.front s.item s.behind s.is in
    let all_new : are_new [] (group_names d) ≡ true = ap (are_new []) (sym (names_of (groups_of d)) ∙ ap (map (λ (p : Parts). p.name)) are) ∙ new in
    let fresh : is_among s.item.name (map (λ (g : GroupDraft). g.name) s.front) ≡ false = new_before (group_names d) (map (λ (g : GroupDraft). g.name) s.front) s.item.name (map (λ (g : GroupDraft). g.name) s.behind) names all_new in
    record {
      group = s.item;
      parts = sym here;
      sound = amid IsSoundGroup groups (map parts_of s.front) (parts_of s.item) (map parts_of s.behind) mapped sound;
      placed = ap (λ (p : Parts). place_of p.name (group_names d)) here ∙ ap (place_of s.item.name) (sym names) ∙ place_amid (map (λ (g : GroupDraft). g.name) s.front) s.item.name (map (λ (g : GroupDraft). g.name) s.behind) fresh ∙ ap Some (length-map s.front (λ (g : GroupDraft). g.name) ∙ s.long);
      got = ap (λ (gs : List GroupDraft). slice_get gs n) (sym s.is) ∙ ap (λ k. slice_get (s.front ++ s.item ∷ s.behind) k) (sym s.long) ∙ get_amid s.front s.item s.behind;
    }

-- an entity by its name
abbrev pub EntityKnown : GroupDraft → List ℕ → Entity → Type 0
EntityKnown g name e = IsNamed (entity_named g) name e

pub name_at : {X : Type 0} (f : X → List ℕ) (xs : List X) (n : ℕ) (s : Split xs n) → slice_index_or (map f xs) n [] ≡ f s.item
name_at f xs n s =
    ap (λ (ns : List (List ℕ)). slice_index_or ns n []) (sym (names_amid f xs s.front s.item s.behind s.is))
    ∙ ap (λ k. slice_index_or (map f s.front ++ f s.item ∷ map f s.behind) k []) (sym (length-map s.front f ∙ s.long))
    ∙ index_amid (map f s.front) (f s.item) (map f s.behind) []

known_here : (g : GroupDraft) (e : Entity) → IsSoundDraftGroup (drafted (parts_of g)) → IsEntityOf (group_of (parts_of g)) e → EntityKnown g (name_of (group_of (parts_of g)) e) e
known_here g (Device i) s low =
    let here = split_at g.devices i (subst (λ n. i < n) (length-map g.devices device_opening) low) in
    let name : slice_index_or (device_names g.devices) i [] ≡ here.item.name = name_at (λ (d : DevicePart). d.name) g.devices i here in
    let spelled : is_name here.item.name ≡ true = amid (λ (d : DevicePart). is_name d.name ≡ true) g.devices here.front here.item here.behind here.is (each_spelled (λ (d : DevicePart). d.name) g.devices s.spelled_devices) in
    let fresh = device_new g.devices (link_names g.links) here.front here.item here.behind here.is s.named in
    record {
      spelled = ap is_name name ∙ spelled;
      found = ap (entity_named g) name ∙ device_found g here.front here.item here.behind (sym here.is) fresh ∙ ap (λ k. Some (Device k)) here.long;
    }
known_here g (Link i) s low =
    let here = split_at g.links i (subst (λ n. i < n) (length-map g.links (link_opening (device_names g.devices))) low) in
    let name : slice_index_or (link_names g.links) i [] ≡ here.item.name = name_at (λ (l : LinkPart). l.name) g.links i here in
    let spelled : is_name here.item.name ≡ true = amid (λ (l : LinkPart). is_name l.name ≡ true) g.links here.front here.item here.behind here.is (each_spelled (λ (l : LinkPart). l.name) g.links s.spelled_links) in
    let new = link_new (device_names g.devices) g.links here.front here.item here.behind here.is s.named in
    record {
      spelled = ap is_name name ∙ spelled;
      found = ap (entity_named g) name ∙ link_found g here.front here.item here.behind (sym here.is) new.no_device new.no_link ∙ ap (λ k. Some (Link k)) here.long;
    }

pub entity_known : (g : GroupDraft) (p : Parts) (e : Entity) → parts_of g ≡ p → IsSoundGroup (parts_of g) → IsEntityOf (group_of p) e → EntityKnown g (name_of (group_of p) e) e
entity_known g p e are s low = subst (λ (p : Parts). IsEntityOf (group_of p) e → EntityKnown g (name_of (group_of p) e) e) are (known_here g e (sound_parts (parts_of g) s)) low

-- the rows of a proposal
fitting : (g : GroupDraft) (p : Parts) (are : parts_of g ≡ p) (sound : IsSoundGroup (parts_of g)) (rows : List Row) → AllByRecursion (RowFits (group_of p)) rows → AllByRecursion (IsPrintable (entity_named g) (name_of (group_of p))) rows
fitting g p are sound = each (RowFits (group_of p)) (IsPrintable (entity_named g) (name_of (group_of p))) (λ row fits. record { named = entity_known g p row.entity are sound fits.entity; range = fits.range })

-- the values of a failure
own_values : (e : Entity) (g : Group) (rows : List Row) → AllByRecursion (IsOn e) rows → AllByRecursion (RowFits g) rows → AllByRecursion (IsOwnValue e) rows
own_values e g [] on fits = tt
own_values e g (row ∷ rows) on fits = ((on.0, fits.0.range), own_values e g rows on.1 fits.1)

-- an application's draft, in its section
pub record Section : Type 0 where
  pub groups : Begun
  pub apps : List Script
  pub name : List ℕ

abbrev pub acting : Section → List Act → Draft
acting s acts = record { version = s.groups.version.number; phase = 3; groups = s.groups.ended; group = s.groups.last; apps = s.apps; app = Some (record { name = s.name; acts = acts }); order = [] }

command_taken : (s : Section) (acts : List Act) (word : List ℕ) (command : ActWord) (args : Words) (act : Act) → is_comment word ≡ false → keyword_of word ≡ Some (keywords.Act command) → act_of (acting s acts) command args ≡ Ok act → nat_lt (length acts) MAX_ACTS ≡ true
    → tokens_line (acting s acts) (word ∷ args) ≡ Ok (acting s (acts ++ act ∷ []))
unfolding keyword_line phased_line act_line act_added
command_taken s acts word command args act plain known e room = rw (plain, s.groups.version.first, known, s.groups.version.first, e, room) refl

health_within : (e : Entity) (h : ℕ) → is_health_of e h ≡ true → ((nat_le 0 h && nat_le h (most_health e)) ≡ true) × (h < 2 ^ 32)
health_within (Device i) h is = let low : nat_le 0 h ≡ true = at_most 0 h (omega arith) in let few = leb-true h 5 is in (rw (low, is) refl, omega arith)
health_within (Link i) h is = let low : nat_le 0 h ≡ true = at_most 0 h (omega arith) in let few = leb-true h 1 is in (rw (low, is) refl, omega arith)

module _ (groups : List Parts) (sound : AllByRecursion IsSoundGroup groups) (new : are_new [] (map (λ (p : Parts). p.name) groups) ≡ true) (s : Section) (are : map parts_of (all_of s.groups) ≡ groups) (acts : List Act) where
  abbrev here : Draft
  here = acting s acts

  known : (n : ℕ) → n < length groups → GroupKnown here groups n
  known n low = group_known here groups n are sound new low

  named : (n : ℕ) (k : GroupKnown here groups n) → is_name (group_at groups n).name ≡ true
  named n k = subst (λ (p : Parts). is_name p.name ≡ true) k.parts k.sound.name

  number_known : (n : ℕ) (k : GroupKnown here groups n) → known_name_in (group_names here) (group_at groups n).name ≡ Ok n
  number_known n k = known_name_again (group_names here) (group_at groups n).name n (named n k) k.placed

  found : (n : ℕ) (k : GroupKnown here groups n) → group_in here (group_at groups n).name ≡ Ok (n, k.group)
  unfolding group_in
  found n k = rw (number_known n k, k.got) refl

  entity_at : (n : ℕ) (e : Entity) (k : GroupKnown here groups n) → IsEntityOf (group_of (group_at groups n)) e → EntityKnown k.group (entity_word groups n e) e
  entity_at n e k low = entity_known k.group (group_at groups n) e k.parts k.sound low

  entity_found : (n : ℕ) (e : Entity) (k : GroupKnown here groups n) → EntityKnown k.group (entity_word groups n e) e → group_entity_in here (group_at groups n).name (entity_word groups n e) ≡ Ok (n, e)
  unfolding group_entity_in
  entity_found n e k at = rw (found n k, entity_again (entity_named k.group) (entity_word groups n e) e at.spelled at.found) refl

  group_is_word : (n : ℕ) (k : GroupKnown here groups n) → IsWord (group_at groups n).name
  group_is_word n k = name_word (group_at groups n).name (named n k)

  -- what a command's line asks for, and its words
  record Asked (command : ActWord) (args : Words) (act : Act) : Type 0 where
    taken : act_of here command args ≡ Ok act
    words : AllByRecursion IsWord args

  propose_asked : (n : ℕ) (rows : List Row) (k : GroupKnown here groups n) → RowsFit (group_of (group_at groups n)) rows → Asked act_words.Propose ((group_at groups n).name ∷ assignment_words groups n rows) (Propose n rows)
  unfolding propose_of
  propose_asked n [] k fit = absurd (let some = fit.some in omega arith)
  propose_asked n (row ∷ rows) k fit =
      let all : AllByRecursion (RowFits (group_of (group_at groups n))) (row ∷ rows) = recursion_from_All (RowFits (group_of (group_at groups n))) (row ∷ rows) fit.each in
      let name : Entity → List ℕ = name_of (group_of (group_at groups n)) in
      let printable = fitting k.group (group_at groups n) k.parts k.sound (row ∷ rows) all in
      let read = rows_again (entity_named k.group) name [] (row ∷ rows) printable fit.apart (free_of_none (row ∷ rows)) in
      record {
        taken = rw (found n k, read, at_most (length (row ∷ rows)) MAX_ROWS fit.few) refl;
        words = (group_is_word n k, rows_words (entity_named k.group) name (row ∷ rows) printable);
      }

  await_asked : (n : ℕ) (k : GroupKnown here groups n) → Asked act_words.Await ((group_at groups n).name ∷ []) (Await n)
  unfolding await_of
  await_asked n k = record { taken = rw (number_known n k) refl; words = (group_is_word n k, tt) }

  settle_asked : (n rounds : ℕ) (k : GroupKnown here groups n) → 1 ≤ rounds → rounds ≤ MAX_ROUNDS → Asked act_words.Settle ((group_at groups n).name ∷ decimal rounds ∷ []) (Settle n rounds)
  unfolding settle_of
  settle_asked n rounds k low high =
      let within : (nat_le 1 rounds && nat_le rounds MAX_ROUNDS) ≡ true = rw (at_most 1 rounds low, at_most rounds MAX_ROUNDS high) refl in
      let small : rounds < 2 ^ 32 = omega arith in
      record { taken = rw (number_known n k, within_again 1 MAX_ROUNDS rounds small within) refl; words = (group_is_word n k, (number_is_word rounds small, tt)) }

  lock_asked : (n : ℕ) (e : Entity) (prio : Prio) (k : GroupKnown here groups n) → EntityKnown k.group (entity_word groups n e) e → Asked act_words.Lock ((group_at groups n).name ∷ entity_word groups n e ∷ prio_word prio ∷ []) (Lock n e prio)
  unfolding lock_of
  lock_asked n e prio k at = record { taken = rw (entity_found n e k at, prio_again prio) refl; words = (group_is_word n k, (name_word (entity_word groups n e) at.spelled, (prio_is_word prio, tt))) }

  unlock_asked : (n : ℕ) (e : Entity) (prio : Prio) (k : GroupKnown here groups n) → EntityKnown k.group (entity_word groups n e) e → Asked act_words.Unlock ((group_at groups n).name ∷ entity_word groups n e ∷ prio_word prio ∷ []) (Unlock n e prio)
  unfolding unlock_of
  unlock_asked n e prio k at = record { taken = rw (entity_found n e k at, prio_again prio) refl; words = (group_is_word n k, (name_word (entity_word groups n e) at.spelled, (prio_is_word prio, tt))) }

  read_asked : (n : ℕ) (e : Entity) (v : Var) (k : GroupKnown here groups n) → EntityKnown k.group (entity_word groups n e) e → is_var_of e v ≡ true → Asked act_words.Read ((group_at groups n).name ∷ variable_word (entity_word groups n e) v ∷ []) (Read n e v)
  unfolding read_of
  read_asked n e v k at is = record { taken = rw (found n k, variable_again (entity_named k.group) (entity_word groups n e) e v at.spelled at.found is) refl; words = (group_is_word n k, (variable_is_word (entity_word groups n e) v at.spelled, tt)) }

  readat_asked : (n version : ℕ) (e : Entity) (v : Var) (k : GroupKnown here groups n) → version < 2 ^ 32 → EntityKnown k.group (entity_word groups n e) e → is_var_of e v ≡ true
      → Asked act_words.ReadAt ((group_at groups n).name ∷ decimal version ∷ variable_word (entity_word groups n e) v ∷ []) (ReadAt n version e v)
  unfolding readat_of
  readat_asked n version e v k small at is = record { taken = rw (found n k, number_again version small, variable_again (entity_named k.group) (entity_word groups n e) e v at.spelled at.found is) refl; words = (group_is_word n k, (number_is_word version small, (variable_is_word (entity_word groups n e) v at.spelled, tt))) }

  fail_asked : (n : ℕ) (e : Entity) (health : ℕ) (rows : List Row) (k : GroupKnown here groups n) → EntityKnown k.group (entity_word groups n e) e → IsChangeOf e health rows (group_of (group_at groups n))
      → Asked act_words.Fail ((group_at groups n).name ∷ entity_word groups n e ∷ decimal health ∷ value_words rows) (Fail n e health rows)
  unfolding fail_of
  fail_asked n e health rows k at change =
      let own = own_values e (group_of (group_at groups n)) rows (recursion_from_All (IsOn e) rows change.own) (recursion_from_All (RowFits (group_of (group_at groups n))) rows change.each) in
      let within = health_within e health change.health_range in
      let read = values_again e [] rows own change.apart (free_of_none rows) in
      record {
        taken = rw (entity_found n e k at, within_again 0 (most_health e) health within.1 within.0, read) refl;
        words = (group_is_word n k, (name_word (entity_word groups n e) at.spelled, (number_is_word health within.1, values_words e rows own)));
      }

  poll_asked : (n : ℕ) (e : Entity) (k : GroupKnown here groups n) → EntityKnown k.group (entity_word groups n e) e → Asked act_words.Poll ((group_at groups n).name ∷ entity_word groups n e ∷ []) (Poll n e)
  unfolding poll_of
  poll_asked n e k at = record { taken = rw (entity_found n e k at) refl; words = (group_is_word n k, (name_word (entity_word groups n e) at.spelled, tt)) }

  -- a command's line
  line_printed : (word : List ℕ) (command : ActWord) (args : Words) (act : Act) → is_comment word ≡ false → keyword_of word ≡ Some (keywords.Act command) → IsWord word → nat_lt (length acts) MAX_ACTS ≡ true → Asked command args act
      → Prints here ((word ∷ args) ∷ []) (acting s (acts ++ act ∷ []))
  line_printed word command args act plain is word_is room asked = prints_line here (word ∷ args) _ (command_taken s acts word command args act plain is asked.taken room) (word_is, asked.words)

  pub act_printed : (act : Act) → IsSoundAct groups act → nat_lt (length acts) MAX_ACTS ≡ true → Prints here (act_words groups act ∷ []) (acting s (acts ++ act ∷ []))
  act_printed (Propose n rows) fact room =
      let fit = group_fact groups n (λ g. RowsFit g rows) fact in
      line_printed (codes "propose") act_words.Propose _ _ refl refl (literal (codes "propose") refl refl) room (propose_asked n rows (known n fit.0) fit.1)
  act_printed (Await n) low room = line_printed (codes "await") act_words.Await _ _ refl refl (literal (codes "await") refl refl) room (await_asked n (known n low))
  act_printed (Settle n rounds) fact room = line_printed (codes "settle") act_words.Settle _ _ refl refl (literal (codes "settle") refl refl) room (settle_asked n rounds (known n fact.0) fact.1 fact.2)
  act_printed (Lock n e prio) fact room =
      let in_group = group_fact groups n (λ g. IsEntityOf g e) fact in
      let k = known n in_group.0 in
      line_printed (codes "lock") act_words.Lock _ _ refl refl (literal (codes "lock") refl refl) room (lock_asked n e prio k (entity_at n e k in_group.1))
  act_printed (Unlock n e prio) fact room =
      let in_group = group_fact groups n (λ g. IsEntityOf g e) fact in
      let k = known n in_group.0 in
      line_printed (codes "unlock") act_words.Unlock _ _ refl refl (literal (codes "unlock") refl refl) room (unlock_asked n e prio k (entity_at n e k in_group.1))
  act_printed (Read n e v) fact room =
      let in_group = group_fact groups n (IsVariableOf e v) fact in
      let k = known n in_group.0 in
      line_printed (codes "read") act_words.Read _ _ refl refl (literal (codes "read") refl refl) room (read_asked n e v k (entity_at n e k in_group.1.entity_in) in_group.1.variable)
  act_printed (ReadAt n version e v) fact room =
      let in_group = group_fact groups n (IsVariableOf e v) fact.1 in
      let k = known n in_group.0 in
      line_printed (codes "readat") act_words.ReadAt _ _ refl refl (literal (codes "readat") refl refl) room (readat_asked n version e v k fact.0 (entity_at n e k in_group.1.entity_in) in_group.1.variable)
  act_printed (Fail n e health rows) fact room =
      let in_group = group_fact groups n (IsChangeOf e health rows) fact in
      let k = known n in_group.0 in
      line_printed (codes "fail") act_words.Fail _ _ refl refl (literal (codes "fail") refl refl) room (fail_asked n e health rows k (entity_at n e k in_group.1.entity_in) in_group.1)
  act_printed (Poll n e) fact room =
      let in_group = group_fact groups n (λ g. IsEntityOf g e) fact in
      let k = known n in_group.0 in
      line_printed (codes "poll") act_words.Poll _ _ refl refl (literal (codes "poll") refl refl) room (poll_asked n e k (entity_at n e k in_group.1))
  act_printed (Span first first_rows second second_rows) fact room = absurd fact
