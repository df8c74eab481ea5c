-- The wire lines are taken as what they were printed for.
use Rattle.std.proofs.Common.{◌≡◌, ℕ, zero, suc, ◌+◌, ◌<◌, ◌≤◌, List, [], ◌∷◌, ◌++◌, length, map, ap, sym, ◌∙◌, subst, refl, arith}
use Rattle.std.specs.Prelude.{Bool, true, false, cond, if◌then◌else◌, nat_le, nat_lt, ◌^◌, Option, Some, None, option_map, option_to_list, slice_get, Ok, codes, decimal}
use Rattle.std.specs.List.{AllByRecursion}
use Rattle.std.proofs.lemmas.Bool.Decides.{nat_tests}
use Rattle.std.proofs.lemmas.List.{append-nil, append_assoc, length-map, length_push, map-append}
use Rattle.std.proofs.lemmas.List.Elements.{recursion_from_All}
use Rattle.st_net.proofs.Tests.{at_most, less}
use Rattle.st_net.specs.declared.parts.Parts.{Parts}
use Rattle.st_net.specs.Names.{is_name, is_among, place_of}
use Rattle.st_net.specs.Groups.{are_new}
use Rattle.st_wire.specs.declared.line.WireLine.{WireLine}
use Rattle.st_wire.specs.declared.line.WireLine.TheVariants.{Drop, Repeat, Hold}
use Rattle.st_token.specs.Spelling.{known_name_in}
use Rattle.st_token.proofs.PrintedTokens.{name_word, number_is_word, literal, known_name_again, from_again, above_again}
use Rattle.st_grammar.specs.declared.limits.TheConstants.{MAX_WIRE_LINES}
use Rattle.st_grammar.specs.Draft.{GroupDraft, Draft, group_names, parts_of, with_wire, wired}
use Rattle.st_grammar.specs.Commands.{drop_of, repeat_of, hold_of}
use Rattle.st_grammar.specs.Lines.{wire_count_of, wire_count, wire_line, tokens_line, keyword_line, phased_line}
use Rattle.st_grammar.specs.Sound.{IsSoundGroup, IsSoundWire, AreSoundWires}
use Rattle.st_grammar.proofs.SoundDocs.{names_of}
use Rattle.st_doc.specs.Printed.{Words, wire_kind_word, wire_words as words_of_wire, wires_lines}
use Rattle.st_doc.proofs.PrintSteps.{Prints, prints_none, prints_line, prints_both, amid, new_before}
use Rattle.st_doc.proofs.PrintedTokens.{kind_is_word, kind_again}
use Rattle.st_doc.proofs.PrintedParts.{names_amid}
use Rattle.st_doc.proofs.PrintedOpenings.{place_amid}
use Rattle.st_doc.proofs.PrintedGroups.{Begun, all_of, grouped, Stands, no_lines}

-- a draft of groups, behind lines of the first phases
abbrev pub wired_draft : ℕ → Begun → Draft
wired_draft phase b = record { version = b.version.number; phase = phase; groups = b.ended; group = b.last; apps = []; app = None; order = [] }

abbrev lines_of : List GroupDraft → List (List WireLine)
lines_of gs = map (λ g. g.wires) gs

-- the groups with one more line of the group of a number
abbrev with_line : Begun → ℕ → WireLine → Begun
with_line b k line = if nat_lt k (length b.ended) then record b { ended = wired b.ended k line } else record b { last = option_map (λ g. with_wire g line) b.last }

-- the lines of groups that are ended, one of which has one more
count_ended : (gs : List GroupDraft) (front : List (List WireLine)) (w : List WireLine) (behind rest : List (List WireLine)) → lines_of gs ++ rest ≡ front ++ w ∷ behind → length front < length gs → wire_count_of (slice_get gs (length front)) ≡ length w
count_ended [] front w behind rest is low = absurd (omega arith)
count_ended (g ∷ gs) [] w behind rest is low = ap length (let same : g.wires ≡ w = cc in same)
count_ended (g ∷ gs) (f ∷ front) w behind rest is low = count_ended gs front w behind rest (let same : lines_of gs ++ rest ≡ front ++ w ∷ behind = cc in same) (omega arith)

lines_ended : (gs : List GroupDraft) (front : List (List WireLine)) (w : List WireLine) (behind rest : List (List WireLine)) (line : WireLine) → lines_of gs ++ rest ≡ front ++ w ∷ behind → length front < length gs → lines_of (wired gs (length front) line) ++ rest ≡ front ++ (w ++ line ∷ []) ∷ behind
lines_ended [] front w behind rest line is low = absurd (omega arith)
lines_ended (g ∷ gs) [] w behind rest line is low =
    let same : g.wires ≡ w = cc in
    let others : lines_of gs ++ rest ≡ behind = cc in
    rw (same, others) refl
lines_ended (g ∷ gs) (f ∷ front) w behind rest line is low =
    let same : g.wires ≡ f = cc in
    rw (same, lines_ended gs front w behind rest line (let others : lines_of gs ++ rest ≡ front ++ w ∷ behind = cc in others) (omega arith)) refl

parts_ended : (gs : List GroupDraft) (k : ℕ) (line : WireLine) → map parts_of (wired gs k line) ≡ map parts_of gs
parts_ended [] k line = refl
parts_ended (g ∷ gs) zero line = refl
parts_ended (g ∷ gs) (suc k) line = ap (λ (ps : List Parts). parts_of g ∷ ps) (parts_ended gs k line)

-- and of the group that was begun last
count_last : (gs : List GroupDraft) (last : Option GroupDraft) (front : List (List WireLine)) (w : List WireLine) (behind : List (List WireLine)) → lines_of gs ++ lines_of (option_to_list last) ≡ front ++ w ∷ behind → length gs ≤ length front → wire_count_of last ≡ length w
count_last [] None [] w behind is low = absurd (cc)
count_last [] None (f ∷ front) w behind is low = absurd (cc)
count_last [] (Some g) [] w behind is low = ap length (let same : g.wires ≡ w = cc in same)
count_last [] (Some g) (f ∷ front) w behind is low = absurd (no front (let none : [] ≡ front ++ w ∷ behind = cc in none))
  where
    no : (front : List (List WireLine)) → [] ≡ front ++ w ∷ behind → ⊥
    no [] is = cc
    no (f ∷ front) is = cc
count_last (g ∷ gs) last [] w behind is low = absurd (omega arith)
count_last (g ∷ gs) last (f ∷ front) w behind is low = count_last gs last front w behind (let others : lines_of gs ++ lines_of (option_to_list last) ≡ front ++ w ∷ behind = cc in others) (omega arith)

lines_last : (gs : List GroupDraft) (last : Option GroupDraft) (front : List (List WireLine)) (w : List WireLine) (behind : List (List WireLine)) (line : WireLine) → lines_of gs ++ lines_of (option_to_list last) ≡ front ++ w ∷ behind → length gs ≤ length front
    → lines_of gs ++ lines_of (option_to_list (option_map (λ g. with_wire g line) last)) ≡ front ++ (w ++ line ∷ []) ∷ behind
lines_last [] None [] w behind line is low = absurd (cc)
lines_last [] None (f ∷ front) w behind line is low = absurd (cc)
lines_last [] (Some g) [] w behind line is low =
    let same : g.wires ≡ w = cc in
    let none : [] ≡ behind = cc in
    rw (same, ← none) refl
lines_last [] (Some g) (f ∷ front) w behind line is low = absurd (no front (let none : [] ≡ front ++ w ∷ behind = cc in none))
  where
    no : (front : List (List WireLine)) → [] ≡ front ++ w ∷ behind → ⊥
    no [] is = cc
    no (f ∷ front) is = cc
lines_last (g ∷ gs) last [] w behind line is low = absurd (omega arith)
lines_last (g ∷ gs) last (f ∷ front) w behind line is low =
    let same : g.wires ≡ f = cc in
    rw (same, lines_last gs last front w behind line (let others : lines_of gs ++ lines_of (option_to_list last) ≡ front ++ w ∷ behind = cc in others) (omega arith)) refl

parts_last : (last : Option GroupDraft) (line : WireLine) → map parts_of (option_to_list (option_map (λ g. with_wire g line) last)) ≡ map parts_of (option_to_list last)
parts_last None line = refl
parts_last (Some g) line = refl

-- these are the groups, and these their wire lines
pub record HasWires (groups : List Parts) (lines : List (List WireLine)) (b : Begun) : Type 0 where
  pub parts : map parts_of (all_of b) ≡ groups
  pub wires : map (λ g. g.wires) (all_of b) ≡ lines

apart : (gs : List GroupDraft) (last : Option GroupDraft) (wires : List (List WireLine)) → map (λ g. g.wires) (gs ++ option_to_list last) ≡ wires → lines_of gs ++ lines_of (option_to_list last) ≡ wires
apart gs last wires is = sym (map-append (λ (g : GroupDraft). g.wires) gs (option_to_list last)) ∙ is

below : (k n : ℕ) → nat_lt k n ≡ true → k < n
below k n e = grind (arith, nat_tests)

not_below : (k n : ℕ) → nat_lt k n ≡ false → n ≤ k
not_below k n e = grind (arith, nat_tests)

count_is : (groups : List Parts) (b : Begun) (front : List (List WireLine)) (w : List WireLine) (behind : List (List WireLine)) (phase : ℕ) → HasWires groups (front ++ w ∷ behind) b → wire_count (wired_draft phase b) (length front) ≡ length w
count_is groups b front w behind phase has = by (nat_lt (length front) (length b.ended)) refl
  where
    by : (c : Bool) → nat_lt (length front) (length b.ended) ≡ c → cond c (wire_count_of (slice_get b.ended (length front))) (wire_count_of b.last) ≡ length w
    by true e = count_ended b.ended front w behind (lines_of (option_to_list b.last)) (apart b.ended b.last (front ++ w ∷ behind) has.wires) (below (length front) (length b.ended) e)
    by false e = count_last b.ended b.last front w behind (apart b.ended b.last (front ++ w ∷ behind) has.wires) (not_below (length front) (length b.ended) e)

with_line_has : (groups : List Parts) (b : Begun) (front : List (List WireLine)) (w : List WireLine) (behind : List (List WireLine)) (line : WireLine) → HasWires groups (front ++ w ∷ behind) b → HasWires groups (front ++ (w ++ line ∷ []) ∷ behind) (with_line b (length front) line)
with_line_has groups b front w behind line has = by (nat_lt (length front) (length b.ended)) refl
  where
    by : (c : Bool) → nat_lt (length front) (length b.ended) ≡ c → HasWires groups (front ++ (w ++ line ∷ []) ∷ behind) (cond c (record b { ended = wired b.ended (length front) line }) (record b { last = option_map (λ g. with_wire g line) b.last }))
    by true e = record {
      parts = map-append parts_of (wired b.ended (length front) line) (option_to_list b.last) ∙ ap (λ (ps : List Parts). ps ++ map parts_of (option_to_list b.last)) (parts_ended b.ended (length front) line) ∙ sym (map-append parts_of b.ended (option_to_list b.last)) ∙ has.parts;
      wires = map-append (λ (g : GroupDraft). g.wires) (wired b.ended (length front) line) (option_to_list b.last) ∙ lines_ended b.ended front w behind (lines_of (option_to_list b.last)) line (apart b.ended b.last (front ++ w ∷ behind) has.wires) (below (length front) (length b.ended) e);
    }
    by false e = record {
      parts = map-append parts_of b.ended (option_to_list (option_map (λ g. with_wire g line) b.last)) ∙ ap (λ (ps : List Parts). map parts_of b.ended ++ ps) (parts_last b.last line) ∙ sym (map-append parts_of b.ended (option_to_list b.last)) ∙ has.parts;
      wires = map-append (λ (g : GroupDraft). g.wires) b.ended (option_to_list (option_map (λ g. with_wire g line) b.last)) ∙ lines_last b.ended b.last front w behind line (apart b.ended b.last (front ++ w ∷ behind) has.wires) (not_below (length front) (length b.ended) e);
    }

-- one line
moved : (phase : ℕ) (b : Begun) (k : ℕ) (line : WireLine) (c : Bool) → record (cond c (record (wired_draft phase b) { groups = wired b.ended k line }) (record (wired_draft phase b) { group = option_map (λ g. with_wire g line) b.last })) { phase = 2 }
    ≡ wired_draft 2 (cond c (record b { ended = wired b.ended k line }) (record b { last = option_map (λ g. with_wire g line) b.last }))
moved phase b k line true = refl
moved phase b k line false = refl

drop_taken : (phase : ℕ) (b : Begun) (args : Words) (k : ℕ) (line : WireLine) → nat_le phase 2 ≡ true → drop_of (wired_draft phase b) args ≡ Ok (k, line) → nat_lt (wire_count (wired_draft phase b) k) MAX_WIRE_LINES ≡ true
    → tokens_line (wired_draft phase b) (codes "drop" ∷ args) ≡ Ok (wired_draft 2 (with_line b k line))
unfolding keyword_line phased_line wire_line
drop_taken phase b args k line low e room = rw (b.version.first, low, e, room) (ap Ok (moved phase b k line (nat_lt k (length b.ended))))

repeat_taken : (phase : ℕ) (b : Begun) (args : Words) (k : ℕ) (line : WireLine) → nat_le phase 2 ≡ true → repeat_of (wired_draft phase b) args ≡ Ok (k, line) → nat_lt (wire_count (wired_draft phase b) k) MAX_WIRE_LINES ≡ true
    → tokens_line (wired_draft phase b) (codes "repeat" ∷ args) ≡ Ok (wired_draft 2 (with_line b k line))
unfolding keyword_line phased_line wire_line
repeat_taken phase b args k line low e room = rw (b.version.first, low, e, room) (ap Ok (moved phase b k line (nat_lt k (length b.ended))))

hold_taken : (phase : ℕ) (b : Begun) (args : Words) (k : ℕ) (line : WireLine) → nat_le phase 2 ≡ true → hold_of (wired_draft phase b) args ≡ Ok (k, line) → nat_lt (wire_count (wired_draft phase b) k) MAX_WIRE_LINES ≡ true
    → tokens_line (wired_draft phase b) (codes "hold" ∷ args) ≡ Ok (wired_draft 2 (with_line b k line))
unfolding keyword_line phased_line wire_line
hold_taken phase b args k line low e room = rw (b.version.first, low, e, room) (ap Ok (moved phase b k line (nat_lt k (length b.ended))))

module _ (phase : ℕ) (b : Begun) (name : List ℕ) (k : ℕ) (low : nat_le phase 2 ≡ true) (spelled : is_name name ≡ true) (at : place_of name (group_names (wired_draft phase b)) ≡ Some k) (room : nat_lt (wire_count (wired_draft phase b) k) MAX_WIRE_LINES ≡ true) where
  group_again : known_name_in (group_names (wired_draft phase b)) name ≡ Ok k
  group_again = known_name_again (group_names (wired_draft phase b)) name k spelled at

  wire_printed : (line : WireLine) → IsSoundWire line → Prints (wired_draft phase b) (words_of_wire name line ∷ []) (wired_draft 2 (with_line b k line))
  unfolding drop_of repeat_of hold_of
  wire_printed (Drop kind n) s =
      prints_line (wired_draft phase b) (words_of_wire name (Drop kind n)) _
      (drop_taken phase b (name ∷ wire_kind_word kind ∷ decimal n ∷ []) k (Drop kind n) low (rw (group_again, kind_again kind, from_again 1 n s.1 (at_most 1 n s.0)) refl) room)
      (literal (codes "drop") refl refl, (name_word name spelled, (kind_is_word kind, (number_is_word n s.1, tt))))
  wire_printed (Repeat kind n m) s =
      let small : n < 2 ^ 32 = omega (arith, s.1, s.2) in
      prints_line (wired_draft phase b) (words_of_wire name (Repeat kind n m)) _
      (repeat_taken phase b (name ∷ wire_kind_word kind ∷ decimal n ∷ decimal m ∷ []) k (Repeat kind n m) low (rw (group_again, kind_again kind, from_again 1 n small (at_most 1 n s.0), from_again n m s.2 (at_most n m s.1)) refl) room)
      (literal (codes "repeat") refl refl, (name_word name spelled, (kind_is_word kind, (number_is_word n small, (number_is_word m s.2, tt)))))
  wire_printed (Hold kind n m) s =
      let small : n < 2 ^ 32 = omega (arith, s.1, s.2) in
      prints_line (wired_draft phase b) (words_of_wire name (Hold kind n m)) _
      (hold_taken phase b (name ∷ wire_kind_word kind ∷ decimal n ∷ decimal m ∷ []) k (Hold kind n m) low (rw (group_again, kind_again kind, from_again 1 n small (at_most 1 n s.0), above_again n m s.2 (less n m s.1)) refl) room)
      (literal (codes "hold") refl refl, (name_word name spelled, (kind_is_word kind, (number_is_word n small, (number_is_word m s.2, tt)))))

-- a draft of the first phases, with its phase
pub record Wired (groups : List Parts) (lines : List (List WireLine)) : Type 0 where
  pub phase : ℕ
  pub begun : Begun
  pub low : nat_le phase 2 ≡ true
  pub has : HasWires groups lines begun

abbrev pub draft_of : {groups : List Parts} {lines : List (List WireLine)} → Wired groups lines → Draft
draft_of w = wired_draft w.phase w.begun

-- all lines of one group
module _ (groups : List Parts) (new : are_new [] (map (λ (p : Parts). p.name) groups) ≡ true) (front : List Parts) (p : Parts) (behind : List Parts) (is : front ++ p ∷ behind ≡ groups) (spelled : is_name p.name ≡ true)
    (before : List (List WireLine)) (long : length before ≡ length front) (after : List (List WireLine)) where
  group_placed : (phase : ℕ) (b : Begun) (lines : List (List WireLine)) → HasWires groups lines b → place_of p.name (group_names (wired_draft phase b)) ≡ Some (length before)
  group_placed phase b lines has =
      let names : group_names (wired_draft phase b) ≡ map (λ (p : Parts). p.name) front ++ p.name ∷ map (λ (p : Parts). p.name) behind = sym (names_of (all_of b)) ∙ ap (map (λ (p : Parts). p.name)) has.parts ∙ sym (names_amid (λ (p : Parts). p.name) groups front p behind is) in
      let fresh : is_among p.name (map (λ (p : Parts). p.name) front) ≡ false = new_before (map (λ (p : Parts). p.name) groups) (map (λ (p : Parts). p.name) front) p.name (map (λ (p : Parts). p.name) behind) (names_amid (λ (p : Parts). p.name) groups front p behind is) new in
      ap (place_of p.name) names ∙ place_amid (map (λ (p : Parts). p.name) front) p.name (map (λ (p : Parts). p.name) behind) fresh ∙ ap Some (length-map front (λ (p : Parts). p.name) ∙ sym long)

  group_wires : (done left : List WireLine) (w : Wired groups (before ++ done ∷ after)) → AllByRecursion IsSoundWire left → length done + length left ≤ MAX_WIRE_LINES
      → (v : Wired groups (before ++ (done ++ left) ∷ after)) × Prints (draft_of w) (map (words_of_wire p.name) left) (draft_of v)
  group_wires done [] w sound few =
      let same : done ≡ done ++ [] = sym (append-nil done) in
      (record { phase = w.phase; begun = w.begun; low = w.low; has = subst (λ (ls : List WireLine). HasWires groups (before ++ ls ∷ after) w.begun) same w.has }, prints_none (draft_of w))
  group_wires done (line ∷ left) w sound few =
      let count : wire_count (draft_of w) (length before) ≡ length done = count_is groups w.begun before done after w.phase w.has in
      let room : nat_lt (wire_count (draft_of w) (length before)) MAX_WIRE_LINES ≡ true = rw count (less (length done) MAX_WIRE_LINES (omega arith)) in
      let one = wire_printed w.phase w.begun p.name (length before) w.low spelled (group_placed w.phase w.begun (before ++ done ∷ after) w.has) room line sound.0 in
      let next : Wired groups (before ++ (done ++ line ∷ []) ∷ after) = record { phase = 2; begun = with_line w.begun (length before) line; low = refl; has = with_line_has groups w.begun before done after line w.has } in
      let pushed : length (done ++ line ∷ []) ≡ length done + 1 = length_push done line in
      let rest = group_wires (done ++ line ∷ []) left next sound.1 (omega arith) in
      let same : (done ++ line ∷ []) ++ left ≡ done ++ line ∷ left = append_assoc done (line ∷ []) left in (
        record { phase = rest.0.phase; begun = rest.0.begun; low = rest.0.low; has = subst (λ (ls : List WireLine). HasWires groups (before ++ ls ∷ after) rest.0.begun) same rest.0.has },
        prints_both (draft_of w) (words_of_wire p.name line ∷ []) (draft_of next) _ _ one rest.1,
      )

-- all lines of these groups, behind others
wires_amid : (groups : List Parts) → are_new [] (map (λ (p : Parts). p.name) groups) ≡ true → AllByRecursion IsSoundGroup groups
    → (front left : List Parts) (before lines : List (List WireLine)) → front ++ left ≡ groups → length before ≡ length front → length lines ≡ length left → AllByRecursion AreSoundWires lines → (w : Wired groups (before ++ map no_lines left))
    → (v : Wired groups (before ++ lines)) × Prints (draft_of w) (wires_lines left lines) (draft_of v)
wires_amid groups new sound front [] before [] is long count all w = (w, prints_none (draft_of w))
wires_amid groups new sound front [] before (ls ∷ lines) is long count all w = absurd (omega arith)
wires_amid groups new sound front (p ∷ left) before [] is long count all w = absurd (omega arith)
wires_amid groups new sound front (p ∷ left) before (ls ∷ lines) is long count all w =
    let spelled : is_name p.name ≡ true = (amid IsSoundGroup groups front p left is sound).name in
    let one = group_wires groups new front p left is spelled before long (map no_lines left) [] ls w (recursion_from_All IsSoundWire ls all.0.each) (let few = all.0.few in omega arith) in
    let next : Wired groups ((before ++ ls ∷ []) ++ map no_lines left) = record { phase = one.0.phase; begun = one.0.begun; low = one.0.low; has = subst (λ (lines : List (List WireLine)). HasWires groups lines one.0.begun) (sym (append_assoc before (ls ∷ []) (map no_lines left))) one.0.has } in
    let more : length (before ++ ls ∷ []) ≡ length (front ++ p ∷ []) = length_push before ls ∙ ap (λ n. n + 1) long ∙ sym (length_push front p) in
    let rest = wires_amid groups new sound (front ++ p ∷ []) left (before ++ ls ∷ []) lines (append_assoc front (p ∷ []) left ∙ is) more (omega arith) all.1 next in (
      record { phase = rest.0.phase; begun = rest.0.begun; low = rest.0.low; has = subst (λ (lines : List (List WireLine)). HasWires groups lines rest.0.begun) (append_assoc before (ls ∷ []) lines) rest.0.has },
      prints_both (draft_of w) _ (draft_of next) _ _ one.1 rest.1,
    )

-- all wire lines are printed behind the groups
pub wires_printed : (groups : List Parts) (lines : List (List WireLine)) → are_new [] (map (λ (p : Parts). p.name) groups) ≡ true → AllByRecursion IsSoundGroup groups → length lines ≡ length groups → AllByRecursion AreSoundWires lines → (b : Begun) → Stands groups b
    → (v : Wired groups lines) × Prints (grouped b) (wires_lines groups lines) (draft_of v)
wires_printed groups lines new sound count all b stands =
    wires_amid groups new sound [] groups [] lines refl refl count all (record { phase = 1; begun = b; low = refl; has = record { parts = stands.parts; wires = stands.wires } })
