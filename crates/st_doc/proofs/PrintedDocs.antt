-- A document that is printed is read as the document.
use Rattle.std.proofs.Common.{◌≡◌, ℕ, ◌<◌, ◌≤◌, List, [], ◌∷◌, ◌++◌, length, map, ap, sym, ◌∙◌, subst, refl, arith}
use Rattle.std.specs.Prelude.{true, false, nat_le, nat_lt, flat_map, Option, Some, None, option_to_list, Ok, codes}
use Rattle.std.specs.List.{AllByRecursion}
use Rattle.std.proofs.lemmas.Bool.Decides.{nat_tests}
use Rattle.std.proofs.lemmas.List.{append-nil, append_assoc, length-map}
use Rattle.std.proofs.lemmas.List.Elements.{recursion_from_All}
use Rattle.st_net.proofs.Tests.{less}
use Rattle.st_net.specs.declared.parts.Parts.{Parts}
use Rattle.st_net.specs.Names.{is_name, is_among, place_of}
use Rattle.st_net.specs.Groups.{are_new}
use Rattle.st_wire.specs.declared.line.WireLine.{WireLine}
use Rattle.st_token.specs.Spelling.{known_name_in}
use Rattle.st_token.proofs.PrintedTokens.{name_word, literal, known_name_again}
use Rattle.st_grammar.specs.declared.doc.Doc.{Doc}
use Rattle.st_grammar.specs.declared.doc.Script.{Script}
use Rattle.st_grammar.specs.declared.limits.TheConstants.{MAX_APPS, MAX_ACTS}
use Rattle.st_grammar.specs.Draft.{Draft, nothing, app_names, parts_of}
use Rattle.st_grammar.specs.Lines.{app_line, known_names_in, order_line, tokens_line, keyword_line, phased_line}
use Rattle.st_grammar.specs.Sound.{IsSoundGroup, IsSoundAct, IsSoundScript, AreSoundWires}
use Rattle.st_doc.specs.Printed.{version_of_doc, header_words, act_words, app_words, app_lines, app_name_at, order_words, doc_lines, without_journals}
use Rattle.st_doc.specs.ReadingBack.{PrintsBack}
use Rattle.st_doc.proofs.PrintSteps.{Prints, prints_none, prints_line, prints_both, along, lined, amid, new_before, text_again}
use Rattle.st_doc.proofs.PrintedParts.{Version, names_amid, length_amid}
use Rattle.st_doc.proofs.PrintedOpenings.{place_amid}
use Rattle.st_doc.proofs.PrintedGroups.{Begun, all_of, begun_again, header_printed, groups_printed}
use Rattle.st_doc.proofs.PrintedWires.{wires_printed}
use Rattle.st_doc.proofs.PrintedActs.{acting, act_printed, Split, split_at, name_at}

-- the applications that are declared, and the phase that is reached
pub record Called : Type 0 where
  pub phase : ℕ
  pub ended : List Script
  pub last : Option Script

abbrev all_called : Called → List Script
all_called c = c.ended ++ option_to_list c.last

abbrev called : Begun → Called → Draft
called b c = record { version = b.version.number; phase = c.phase; groups = b.ended; group = b.last; apps = c.ended; app = c.last; order = [] }

-- these are the applications, and no later line stood
record AreCalled (apps : List Script) (c : Called) : Type 0 where
  are : all_called c ≡ apps
  low : nat_le c.phase 3 ≡ true

app_begun : (b : Begun) (c : Called) (name : List ℕ) → nat_le c.phase 3 ≡ true → is_name name ≡ true → is_among name (app_names (called b c)) ≡ false → nat_lt (length (app_names (called b c))) MAX_APPS ≡ true
    → tokens_line (called b c) (app_words name) ≡ Ok (acting (record { groups = b; apps = all_called c; name = name }) [])
unfolding keyword_line phased_line app_line
app_begun b c name low spelled fresh room = rw (b.version.first, low, begun_again (app_names (called b c)) MAX_APPS name spelled fresh room) refl

module _ (groups : List Parts) (sound : AllByRecursion IsSoundGroup groups) (new : are_new [] (map (λ (p : Parts). p.name) groups) ≡ true) (b : Begun) (are : map parts_of (all_of b) ≡ groups) where
  acts_printed : (apps : List Script) (app : Script) → AllByRecursion (IsSoundAct groups) app.acts → length app.acts ≤ MAX_ACTS → Prints (acting (record { groups = b; apps = apps; name = app.name }) []) (map (act_words groups) app.acts) (acting (record { groups = b; apps = apps; name = app.name }) app.acts)
  acts_printed apps app fine few =
      lined app.acts (λ front left. acting (record { groups = b; apps = apps; name = app.name }) front) (act_words groups)
      (λ front act behind is. let low : length front < length app.acts = length_amid app.acts front act behind is in
      act_printed groups sound new (record { groups = b; apps = apps; name = app.name }) are front act (amid (IsSoundAct groups) app.acts front act behind is fine) (less (length front) MAX_ACTS (omega arith)))

  app_printed : (apps : List Script) → AllByRecursion (IsSoundScript groups) apps → are_new [] (map (λ (a : Script). a.name) apps) ≡ true → length apps ≤ MAX_APPS → (front : List Script) (app : Script) (behind : List Script) (c : Called) → front ++ app ∷ behind ≡ apps → AreCalled front c
      → (e : Called) × Prints (called b c) (app_lines groups app) (called b e) × AreCalled (front ++ app ∷ []) e
  app_printed apps fine other few front app behind c is had =
      let s : IsSoundScript groups app = amid (IsSoundScript groups) apps front app behind is fine in
      let names : app_names (called b c) ≡ map (λ (a : Script). a.name) front = ap (map (λ (a : Script). a.name)) had.are in
      let fresh : is_among app.name (app_names (called b c)) ≡ false = ap (is_among app.name) names ∙ new_before (map (λ (a : Script). a.name) apps) (map (λ (a : Script). a.name) front) app.name (map (λ (a : Script). a.name) behind) (names_amid (λ (a : Script). a.name) apps front app behind is) other in
      let long : length (app_names (called b c)) ≡ length front = ap length names ∙ length-map front (λ (a : Script). a.name) in
      let low : length front < length apps = length_amid apps front app behind is in
      let room : nat_lt (length (app_names (called b c))) MAX_APPS ≡ true = rw long (less (length front) MAX_APPS (omega arith)) in
      let begun = app_begun b c app.name had.low s.name fresh room in
      let acts = acts_printed (all_called c) app (recursion_from_All (IsSoundAct groups) app.acts s.acts) s.few in
      let e : Called = record { phase = 3; ended = all_called c; last = Some app } in (
        e,
        prints_both (called b c) (app_words app.name ∷ []) _ _ (called b e)
            (prints_line (called b c) (app_words app.name) _ begun (literal (codes "app") refl refl, (name_word app.name s.name, tt))) acts,
        record { are = ap (λ (xs : List Script). xs ++ app ∷ []) had.are; low = refl },
      )

  apps_printed : (apps : List Script) → AllByRecursion (IsSoundScript groups) apps → are_new [] (map (λ (a : Script). a.name) apps) ≡ true → length apps ≤ MAX_APPS → (phase : ℕ) → nat_le phase 3 ≡ true
      → (e : Called) × Prints (called b (record { phase = phase; ended = []; last = None })) (flat_map (app_lines groups) apps) (called b e) × AreCalled apps e
  apps_printed apps fine other few phase low =
      along apps (λ front left c. called b c) (app_lines groups) AreCalled (app_printed apps fine other few) [] apps (record { phase = phase; ended = []; last = None }) refl (record { are = refl; low = low })

-- the order
abbrev ordered : ℕ → Begun → Called → List ℕ → Draft
ordered phase b c order = record { version = b.version.number; phase = phase; groups = b.ended; group = b.last; apps = c.ended; app = c.last; order = order }

order_taken : (phase : ℕ) (b : Begun) (c : Called) (order : List ℕ) (name : List ℕ) (n : ℕ) → nat_le phase 4 ≡ true → known_name_in (app_names (ordered phase b c order)) name ≡ Ok n → tokens_line (ordered phase b c order) (codes "order" ∷ name ∷ []) ≡ Ok (ordered 4 b c (order ++ n ∷ []))
unfolding keyword_line phased_line order_line known_names_in
order_taken phase b c order name n low e = rw (b.version.first, low, e) refl

order_printed : (apps : List Script) → are_new [] (map (λ (a : Script). a.name) apps) ≡ true → AllByRecursion (λ a. is_name a.name ≡ true) apps → (b : Begun) (c : Called) → all_called c ≡ apps → (phase : ℕ) (order : List ℕ) (n : ℕ) → nat_le phase 4 ≡ true → n < length apps
    → Prints (ordered phase b c order) (order_words apps n ∷ []) (ordered 4 b c (order ++ n ∷ []))
order_printed apps new named b c are phase order n low less =
    let here : Split apps n = split_at apps n less in
    let name : app_name_at apps n ≡ here.item.name = name_at (λ (a : Script). a.name) apps n here in
    let spelled : is_name (app_name_at apps n) ≡ true = ap is_name name ∙ amid (λ (a : Script). is_name a.name ≡ true) apps here.front here.item here.behind here.is named in
    let names : map (λ (a : Script). a.name) here.front ++ here.item.name ∷ map (λ (a : Script). a.name) here.behind ≡ map (λ (a : Script). a.name) apps = names_amid (λ (a : Script). a.name) apps here.front here.item here.behind here.is in
    let fresh : is_among here.item.name (map (λ (a : Script). a.name) here.front) ≡ false = new_before (map (λ (a : Script). a.name) apps) (map (λ (a : Script). a.name) here.front) here.item.name (map (λ (a : Script). a.name) here.behind) names new in
    let placed : place_of (app_name_at apps n) (app_names (ordered phase b c order)) ≡ Some n =
    ap (λ (m : List ℕ). place_of m (app_names (ordered phase b c order))) name ∙ ap (λ (xs : List Script). place_of here.item.name (map (λ (a : Script). a.name) xs)) are ∙ ap (place_of here.item.name) (sym names)
    ∙ place_amid (map (λ (a : Script). a.name) here.front) here.item.name (map (λ (a : Script). a.name) here.behind) fresh ∙ ap Some (length-map here.front (λ (a : Script). a.name) ∙ here.long) in
    prints_line (ordered phase b c order) (order_words apps n) _ (order_taken phase b c order (app_name_at apps n) n low (known_name_again (app_names (ordered phase b c order)) (app_name_at apps n) n spelled placed))
    (literal (codes "order") refl refl, (name_word (app_name_at apps n) spelled, tt))

orders_printed : (apps : List Script) → are_new [] (map (λ (a : Script). a.name) apps) ≡ true → AllByRecursion (λ a. is_name a.name ≡ true) apps → (b : Begun) (c : Called) → all_called c ≡ apps → (phase : ℕ) (front left : List ℕ) → nat_le phase 4 ≡ true → AllByRecursion (λ n. n < length apps) left
    → (last : ℕ) × Prints (ordered phase b c front) (map (order_words apps) left) (ordered last b c (front ++ left))
orders_printed apps new named b c are phase front [] low all = (phase, subst (λ (order : List ℕ). Prints (ordered phase b c front) [] (ordered phase b c order)) (sym (append-nil front)) (prints_none (ordered phase b c front)))
orders_printed apps new named b c are phase front (n ∷ left) low all =
    let one = order_printed apps new named b c are phase front n low all.0 in
    let rest = orders_printed apps new named b c are 4 (front ++ n ∷ []) left refl all.1 in (
      rest.0,
      prints_both (ordered phase b c front) (order_words apps n ∷ []) (ordered 4 b c (front ++ n ∷ [])) (map (order_words apps) left) (ordered rest.0 b c (front ++ n ∷ left)) one
          (subst (λ (order : List ℕ). Prints (ordered 4 b c (front ++ n ∷ [])) (map (order_words apps) left) (ordered rest.0 b c order)) (append_assoc front (n ∷ []) left) rest.1),
    )

names_good : (groups : List Parts) (apps : List Script) → AllByRecursion (IsSoundScript groups) apps → AllByRecursion (λ a. is_name a.name ≡ true) apps
names_good groups [] all = tt
names_good groups (a ∷ apps) all = (all.0.name, names_good groups apps all.1)

abbrev doc_by : List Parts → List (List WireLine) → List Script → List ℕ → Doc
doc_by groups wires apps order = record { groups = groups; wires = wires; apps = apps; order = order; journal_at = None }

phase_more : (phase : ℕ) → nat_le phase 2 ≡ true → nat_le phase 3 ≡ true
phase_more phase e = grind (arith, nat_tests)

phase_most : (phase : ℕ) → nat_le phase 3 ≡ true → nat_le phase 4 ≡ true
phase_most phase e = grind (arith, nat_tests)

-- the whole document
pub printed_back : PrintsBack
printed_back doc s =
    let sound = recursion_from_All IsSoundGroup doc.groups s.groups in
    let scripts = recursion_from_All (IsSoundScript doc.groups) doc.apps s.apps in
    let version : Version = record { number = version_of_doc doc; first = refl } in
    let groups = groups_printed version doc.groups sound s.group_names s.few_groups in
    let wires = wires_printed doc.groups doc.wires s.group_names sound s.wires (recursion_from_All AreSoundWires doc.wires s.wire_lines) groups.0 groups.2 in
    let b = wires.0.begun in
    let apps = apps_printed doc.groups sound s.group_names b wires.0.has.parts doc.apps scripts s.app_names s.few_apps wires.0.phase (phase_more wires.0.phase wires.0.low) in
    let orders = orders_printed doc.apps s.app_names (names_good doc.groups doc.apps scripts) b apps.0 apps.2.are apps.0.phase [] doc.order (phase_most apps.0.phase apps.2.low) (recursion_from_All (λ n. n < length doc.apps) doc.order s.order) in
    let all : Prints nothing (doc_lines doc) (ordered orders.0 b apps.0 doc.order) =
    prints_both nothing (header_words (version_of_doc doc) ∷ []) _ _ _ (header_printed version refl (omega arith)) (prints_both _ _ _ _ _ groups.1 (prints_both _ _ _ _ _ wires.1 (prints_both _ _ _ _ _ apps.1 orders.1))) in
    text_again (doc_lines doc) (ordered orders.0 b apps.0 doc.order) (without_journals doc) all b.version.first
    (ap (λ (gs : List Parts). doc_by gs (map (λ g. g.wires) (all_of b)) (all_called apps.0) doc.order) wires.0.has.parts
    ∙ ap (λ (ws : List (List WireLine)). doc_by doc.groups ws (all_called apps.0) doc.order) wires.0.has.wires
    ∙ ap (λ (xs : List Script). doc_by doc.groups doc.wires xs doc.order) apps.2.are)
