-- The lines of opening values are taken as what they were printed for.
use Rattle.std.proofs.Common.{◌≡◌, ℕ, ◌+◌, ◌*◌, ◌<◌, ◌≤◌, List, [], ◌∷◌, ◌++◌, length, map, ap, sym, ◌∙◌, subst, refl, arith}
use Rattle.std.specs.Prelude.{Bool, true, false, if◌then◌else◌, ◌&&◌, ◌==◌, nat_le, nat_lt, ◌^◌, flat_map, Option, Some, None, is_some, Ok, codes, bytes_eq}
use Rattle.std.specs.List.{AllByRecursion}
use Rattle.std.proofs.lemmas.List.{append-nil, append_assoc, length-map, length_push, map_push, map-append}
use Rattle.std.proofs.lemmas.Slice.Eq.{bytes_eq-Decides}
use Rattle.st_net.proofs.NameLemmas.{not_first}
use Rattle.st_net.proofs.Tests.{four_true, same_entity, equal_numbers}
use Rattle.st_net.specs.declared.entity.Entity.{Entity}
use Rattle.st_net.specs.declared.entity.Entity.TheVariants.{Device, Link}
use Rattle.st_net.specs.declared.entity.Row.{Row}
use Rattle.st_net.specs.declared.entity.Vals.{Vals}
use Rattle.st_net.specs.declared.entity.Var.{Var}
use Rattle.st_net.specs.declared.entity.Var.TheVariants.{Power, Firmware, Config, Routing, LinkPower, Iface}
use Rattle.st_net.specs.declared.parts.Parts.{Parts}
use Rattle.st_net.specs.declared.parts.DevicePart.{DevicePart}
use Rattle.st_net.specs.declared.parts.LinkPart.{LinkPart}
use Rattle.st_net.specs.declared.parts.PromisePart.{PromisePart}
use Rattle.st_net.specs.Entities.{is_same_entity, is_same_var, device_value, link_value, device_value_set, link_value_set, place_of as var_place}
use Rattle.st_net.specs.Names.{is_name, place_of, is_among}
use Rattle.st_net.specs.Groups.{are_device_vals, are_link_vals}
use Rattle.st_net.specs.Ranges.{is_device_value, is_link_value, is_in_range, is_free_of}
use Rattle.st_net.specs.Faults.{device_names, link_names}
use Rattle.st_net.specs.declared.range.TheConstants.{DEVICE_HEALTH}
use Rattle.st_token.proofs.PrintedTokens.{each, row_of, assignment_is_word, literal, ranged, new_assignment_again}
use Rattle.st_grammar.specs.Draft.{GroupDraft, Draft, device_default, link_default, device_opened, link_opened, with_open}
use Rattle.st_grammar.specs.Spelling.{entity_named}
use Rattle.st_grammar.specs.Sections.{open_of, open_line as open_line_of}
use Rattle.st_grammar.specs.Lines.{tokens_line, keyword_line, phased_line}
use Rattle.st_grammar.proofs.SoundGroups.{IsSoundDevice, IsSoundLink, IsSoundDraftGroup}
use Rattle.st_grammar.proofs.SoundSteps.{pushed_all}
use Rattle.st_grammar.proofs.SoundParts.{Noted, nothing_noted, group_with, drafted}
use Rattle.st_doc.specs.Printed.{Words, open_words, open_line, device_opens, link_opens}
use Rattle.st_doc.proofs.PrintSteps.{Prints, prints_none, prints_line, prints_both, along, amid}
use Rattle.st_doc.proofs.PrintedParts.{Ended, sections, plain_device, plain_link, each_spelled, device_new, link_new}

-- where a name stands that none before it is
pub place_amid : (front : List (List ℕ)) (n : List ℕ) (behind : List (List ℕ)) → is_among n front ≡ false → place_of n (front ++ n ∷ behind) ≡ Some (length front)
place_amid [] n behind e = rw ((bytes_eq-Decides n n).1 refl) refl
place_amid (m ∷ front) n behind e =
    let apart = not_first (bytes_eq n m) (place_of n front) e in
    rw (apart.0, place_amid front n behind apart.1) refl

unplaced : (o : Option ℕ) → is_some o ≡ false → o ≡ None
unplaced None e = refl
unplaced (Some k) e = absurd (cc)

pub device_found : (g : GroupDraft) (front : List DevicePart) (d : DevicePart) (behind : List DevicePart) → g.devices ≡ front ++ d ∷ behind → is_among d.name (device_names front) ≡ false → entity_named g d.name ≡ Some (Device (length front))
device_found g front d behind is fresh =
    let names : device_names g.devices ≡ device_names front ++ d.name ∷ device_names behind = ap device_names is ∙ map-append (λ (d : DevicePart). d.name) front (d ∷ behind) in
    let long : length (device_names front) ≡ length front = length-map front (λ (d : DevicePart). d.name) in
    rw (names, place_amid (device_names front) d.name (device_names behind) fresh, long) refl

pub link_found : (g : GroupDraft) (front : List LinkPart) (l : LinkPart) (behind : List LinkPart) → g.links ≡ front ++ l ∷ behind → is_among l.name (device_names g.devices) ≡ false → is_among l.name (link_names front) ≡ false → entity_named g l.name ≡ Some (Link (length front))
link_found g front l behind is none fresh =
    let names : link_names g.links ≡ link_names front ++ l.name ∷ link_names behind = ap link_names is ∙ map-append (λ (l : LinkPart). l.name) front (l ∷ behind) in
    let long : length (link_names front) ≡ length front = length-map front (λ (l : LinkPart). l.name) in
    rw (names, unplaced (place_of l.name (device_names g.devices)) none, place_amid (link_names front) l.name (link_names behind) fresh, long) refl

-- the variables of a group of n devices in the order in which they are printed
abbrev pub rank : ℕ → Entity → Var → ℕ
rank n (Device i) v = i * 4 + var_place v
rank n (Link i) v = n * 4 + i * 2 + var_place v

abbrev pub AreBelow : ℕ → ℕ → List Row → Type 0
AreBelow n r rows = AllByRecursion (λ row. rank n row.entity row.var < r) rows

rank_apart : (n : ℕ) (a b : Entity) (v w : Var) → rank n a v < rank n b w → (is_same_entity a b && is_same_var v w) ≡ false
rank_apart n a b v w less = by (is_same_entity a b) refl (is_same_var v w) refl
  where
    by : (p : Bool) → is_same_entity a b ≡ p → (q : Bool) → is_same_var v w ≡ q → (p && q) ≡ false
    by false e q f = refl
    by true e false f = refl
    by true e true f =
        let entity : a ≡ b = same_entity a b e in
        let place : var_place v ≡ var_place w = equal_numbers (var_place v) (var_place w) f in
        let same : rank n a v ≡ rank n b v = ap (λ (x : Entity). rank n x v) entity in
        let last : rank n b v ≡ rank n b w = by_entity b place in
        absurd (omega arith)
      where
        by_entity : (b : Entity) → var_place v ≡ var_place w → rank n b v ≡ rank n b w
        by_entity (Device i) e = ap (λ k. i * 4 + k) e
        by_entity (Link i) e = ap (λ k. n * 4 + i * 2 + k) e

free_below : (n r : ℕ) (e : Entity) (v : Var) (rows : List Row) → AreBelow n r rows → r ≤ rank n e v → is_free_of e v rows ≡ true
free_below n r e v [] all low = refl
free_below n r e v (row ∷ rows) all low = rw (rank_apart n row.entity e row.var v (omega (arith, all.0)), free_below n r e v rows all.1 low) refl

below_more : (n r s : ℕ) (rows : List Row) → r ≤ s → AreBelow n r rows → AreBelow n s rows
below_more n r s rows low all = each (λ row. rank n row.entity row.var < r) (λ row. rank n row.entity row.var < s) (λ row h. omega arith) rows all

-- the line of an opening value
open_taken : (gs : Ended) (g h : GroupDraft) (args : Words) → open_line_of g args ≡ Ok h → tokens_line (sections gs g) (codes "open" ∷ args) ≡ Ok (sections gs h)
unfolding keyword_line phased_line
open_taken gs g h args e = rw (gs.version.first, e) refl

open_printed : (gs : Ended) (g : GroupDraft) (name : List ℕ) (e : Entity) (v : Var) (x : ℕ) → is_name name ≡ true → entity_named g name ≡ Some e → is_in_range e v x ≡ true → is_free_of e v g.opens ≡ true
    → Prints (sections gs g) (open_words name v x ∷ []) (sections gs (with_open g (row_of e v x)))
unfolding open_line_of open_of
open_printed gs g name e v x spelled at range free =
    prints_line (sections gs g) (open_words name v x) _ (open_taken gs g _ _ (rw (new_assignment_again (entity_named g) g.opens name e v x spelled at range free) refl))
    (literal (codes "open") refl refl, (assignment_is_word name v x spelled (ranged e v x range).1, tt))

-- one value set, of the part amid others
device_set : (front : List DevicePart) (d : DevicePart) (behind : List DevicePart) (v : Var) (x : ℕ) → device_opened (front ++ d ∷ behind) (length front) v x ≡ front ++ record d { vals = device_value_set d.vals v x } ∷ behind
device_set [] d behind v x = refl
device_set (e ∷ front) d behind v x = ap (λ (ds : List DevicePart). e ∷ ds) (device_set front d behind v x)

link_set : (front : List LinkPart) (l : LinkPart) (behind : List LinkPart) (v : Var) (x : ℕ) → link_opened (front ++ l ∷ behind) (length front) v x ≡ front ++ record l { vals = link_value_set l.vals v x } ∷ behind
link_set [] l behind v x = refl
link_set (e ∷ front) l behind v x = ap (λ (ls : List LinkPart). e ∷ ls) (link_set front l behind v x)

-- a value that is 1 is as if it was set
device_one : (w : Vals) (v : Var) (x : ℕ) → device_value w v ≡ 1 → x ≡ 1 → device_value_set w v x ≡ w
device_one w Power x e is = ap (λ n. record w { v0 = n }) (is ∙ sym e)
device_one w Firmware x e is = ap (λ n. record w { v1 = n }) (is ∙ sym e)
device_one w Config x e is = ap (λ n. record w { v2 = n }) (is ∙ sym e)
device_one w Routing x e is = ap (λ n. record w { v3 = n }) (is ∙ sym e)
device_one w LinkPower x e is = refl
device_one w Iface x e is = refl

link_one : (w : Vals) (v : Var) (x : ℕ) → link_value w v ≡ 1 → x ≡ 1 → link_value_set w v x ≡ w
link_one w Power x e is = refl
link_one w Firmware x e is = refl
link_one w Config x e is = refl
link_one w Routing x e is = refl
link_one w LinkPower x e is = ap (λ n. record w { v0 = n }) (is ∙ sym e)
link_one w Iface x e is = ap (λ n. record w { v1 = n }) (is ∙ sym e)

-- parts whose values are set, and whose healths are not yet
abbrev pub opening_device : DevicePart → Vals → DevicePart
opening_device d w = record { name = d.name; tor = d.tor; vals = w; health = DEVICE_HEALTH }

abbrev pub opening_link : LinkPart → Vals → LinkPart
opening_link l w = record (plain_link l) { vals = w }

abbrev pub opened_device : DevicePart → DevicePart
opened_device d = opening_device d d.vals

abbrev pub opened_link : LinkPart → LinkPart
opened_link l = opening_link l l.vals

abbrev pub rows_noted : List Row → Noted
rows_noted rows = record { opens = rows; devices = []; links = [] }

pub opened_device_names : (ds : List DevicePart) → device_names (map opened_device ds) ≡ device_names ds
opened_device_names [] = refl
opened_device_names (d ∷ ds) = ap (λ (ns : List (List ℕ)). d.name ∷ ns) (opened_device_names ds)

pub opened_link_names : (ls : List LinkPart) → link_names (map opened_link ls) ≡ link_names ls
opened_link_names [] = refl
opened_link_names (l ∷ ls) = ap (λ (ns : List (List ℕ)). l.name ∷ ns) (opened_link_names ls)

abbrev vals_of : ℕ → ℕ → ℕ → ℕ → Vals
vals_of v0 v1 v2 v3 = record { v0 = v0; v1 = v1; v2 = v2; v3 = v3 }

-- one variable of a device amid others
module _ (gs : Ended) (name : List ℕ) (ls : List LinkPart) (ps : List PromisePart) (n : ℕ) (front : List DevicePart) (d : DevicePart) (behind : List DevicePart) (spelled : is_name d.name ≡ true) (fresh : is_among d.name (device_names front) ≡ false) where
  abbrev device_at : Vals → List Row → Draft
  device_at w rows = sections gs (group_with name (front ++ opening_device d w ∷ behind) ls ps (rows_noted rows))

  device_var_by : (w : Vals) (v : Var) (x r : ℕ) (rows : List Row) (b : Bool) → (x == 1) ≡ b → is_device_value v x ≡ true → device_value w v ≡ 1 → AreBelow n r rows → r ≤ rank n (Device (length front)) v
      → (t : List Row) × Prints (device_at w rows) (if b then [] else open_words d.name v x ∷ []) (device_at (device_value_set w v x) t) × AreBelow n (rank n (Device (length front)) v + 1) t
  device_var_by w v x r rows true is range one all low =
      let same : device_value_set w v x ≡ w = device_one w v x one (equal_numbers x 1 is) in
      (rows, subst (λ (u : Vals). Prints (device_at w rows) [] (device_at u rows)) (sym same) (prints_none (device_at w rows)), below_more n r (rank n (Device (length front)) v + 1) rows (omega arith) all)
  device_var_by w v x r rows false is range one all low =
      let g = group_with name (front ++ opening_device d w ∷ behind) ls ps (rows_noted rows) in
      let at = device_found g front (opening_device d w) behind refl fresh in
      let free = free_below n r (Device (length front)) v rows all low in
      let line = open_printed gs g d.name (Device (length front)) v x spelled at range free in
      let row = row_of (Device (length front)) v x in (
        rows ++ row ∷ [],
        subst (λ (ds : List DevicePart). Prints (device_at w rows) (open_words d.name v x ∷ []) (sections gs (group_with name ds ls ps (rows_noted (rows ++ row ∷ []))))) (device_set front (opening_device d w) behind v x) line,
        pushed_all (λ row. rank n row.entity row.var < rank n (Device (length front)) v + 1) rows row (below_more n r (rank n (Device (length front)) v + 1) rows (omega arith) all) (omega arith),
      )

  device_var : (w : Vals) (v : Var) (x r : ℕ) (rows : List Row) → is_device_value v x ≡ true → device_value w v ≡ 1 → AreBelow n r rows → r ≤ rank n (Device (length front)) v
      → (t : List Row) × Prints (device_at w rows) (open_line d.name v x) (device_at (device_value_set w v x) t) × AreBelow n (rank n (Device (length front)) v + 1) t
  device_var w v x r rows = device_var_by w v x r rows (x == 1) refl

  -- all variables of a device
  device_vars : (rows : List Row) → are_device_vals d.vals ≡ true → AreBelow n (length front * 4) rows
      → (t : List Row) × Prints (device_at device_default rows) (device_opens d) (device_at d.vals t) × AreBelow n (length front * 4 + 4) t
  device_vars rows fits all =
      let ranges = four_true (nat_le d.vals.v0 1) (nat_lt d.vals.v1 (2 ^ 32)) (nat_lt d.vals.v2 (2 ^ 32)) (nat_le d.vals.v3 1) fits in
      let w0 = device_default in
      let w1 = device_value_set w0 Power d.vals.v0 in
      let w2 = device_value_set w1 Firmware d.vals.v1 in
      let w3 = device_value_set w2 Config d.vals.v2 in
      let a = device_var w0 Power d.vals.v0 (length front * 4) rows ranges.0 refl all (omega arith) in
      let b = device_var w1 Firmware d.vals.v1 _ a.0 ranges.1 refl a.2 (omega arith) in
      let c = device_var w2 Config d.vals.v2 _ b.0 ranges.2 refl b.2 (omega arith) in
      let e = device_var w3 Routing d.vals.v3 _ c.0 ranges.3 refl c.2 (omega arith) in (
        e.0,
        prints_both _ _ _ _ _ a.1 (prints_both _ _ _ _ _ b.1 (prints_both _ _ _ _ _ c.1 (prints_both _ _ _ _ _ e.1 (prints_none _)))),
        below_more n _ (length front * 4 + 4) e.0 (omega arith) e.2,
      )

-- the two variables of a link
module _ (gs : Ended) (name : List ℕ) (ds : List DevicePart) (ps : List PromisePart) (n : ℕ) (front : List LinkPart) (l : LinkPart) (behind : List LinkPart) (spelled : is_name l.name ≡ true) (no_device : is_among l.name (device_names ds) ≡ false) (no_link : is_among l.name (link_names front) ≡ false) where
  abbrev link_at : Vals → List Row → Draft
  link_at w rows = sections gs (group_with name ds (front ++ opening_link l w ∷ behind) ps (rows_noted rows))

  link_var_by : (w : Vals) (v : Var) (x r : ℕ) (rows : List Row) (b : Bool) → (x == 1) ≡ b → is_link_value v x ≡ true → link_value w v ≡ 1 → AreBelow n r rows → r ≤ rank n (Link (length front)) v
      → (t : List Row) × Prints (link_at w rows) (if b then [] else open_words l.name v x ∷ []) (link_at (link_value_set w v x) t) × AreBelow n (rank n (Link (length front)) v + 1) t
  link_var_by w v x r rows true is range one all low =
      let same : link_value_set w v x ≡ w = link_one w v x one (equal_numbers x 1 is) in
      (rows, subst (λ (u : Vals). Prints (link_at w rows) [] (link_at u rows)) (sym same) (prints_none (link_at w rows)), below_more n r (rank n (Link (length front)) v + 1) rows (omega arith) all)
  link_var_by w v x r rows false is range one all low =
      let g = group_with name ds (front ++ opening_link l w ∷ behind) ps (rows_noted rows) in
      let at = link_found g front (opening_link l w) behind refl no_device no_link in
      let free = free_below n r (Link (length front)) v rows all low in
      let line = open_printed gs g l.name (Link (length front)) v x spelled at range free in
      let row = row_of (Link (length front)) v x in (
        rows ++ row ∷ [],
        subst (λ (ls : List LinkPart). Prints (link_at w rows) (open_words l.name v x ∷ []) (sections gs (group_with name ds ls ps (rows_noted (rows ++ row ∷ []))))) (link_set front (opening_link l w) behind v x) line,
        pushed_all (λ row. rank n row.entity row.var < rank n (Link (length front)) v + 1) rows row (below_more n r (rank n (Link (length front)) v + 1) rows (omega arith) all) (omega arith),
      )

  link_var : (w : Vals) (v : Var) (x r : ℕ) (rows : List Row) → is_link_value v x ≡ true → link_value w v ≡ 1 → AreBelow n r rows → r ≤ rank n (Link (length front)) v
      → (t : List Row) × Prints (link_at w rows) (open_line l.name v x) (link_at (link_value_set w v x) t) × AreBelow n (rank n (Link (length front)) v + 1) t
  link_var w v x r rows = link_var_by w v x r rows (x == 1) refl

  link_vars : (rows : List Row) → are_link_vals l.vals ≡ true → AreBelow n (n * 4 + length front * 2 + 4) rows
      → (t : List Row) × Prints (link_at link_default rows) (link_opens l) (link_at l.vals t) × AreBelow n (n * 4 + length front * 2 + 6) t
  link_vars rows fits all =
      let ranges = four_true (nat_le l.vals.v0 1) (nat_lt l.vals.v1 (2 ^ 32)) (l.vals.v2 == 0) (l.vals.v3 == 0) fits in
      let w0 = link_default in
      let w1 = link_value_set w0 LinkPower l.vals.v0 in
      let w2 = link_value_set w1 Iface l.vals.v1 in
      let none_2 : l.vals.v2 ≡ 0 = equal_numbers l.vals.v2 0 ranges.2 in
      let none_3 : l.vals.v3 ≡ 0 = equal_numbers l.vals.v3 0 ranges.3 in
      let same : w2 ≡ l.vals = ap (λ k. vals_of l.vals.v0 l.vals.v1 k 0) (sym none_2) ∙ ap (λ k. vals_of l.vals.v0 l.vals.v1 l.vals.v2 k) (sym none_3) in
      let a = link_var w0 LinkPower l.vals.v0 (n * 4 + length front * 2 + 4) rows ranges.0 refl all (omega arith) in
      let b = link_var w1 Iface l.vals.v1 _ a.0 ranges.1 refl a.2 (omega arith) in (
        b.0,
        subst (λ (w : Vals). Prints (link_at link_default rows) (link_opens l) (link_at w b.0)) same (prints_both _ _ _ _ _ a.1 (prints_both _ _ _ _ _ b.1 (prints_none _))),
        below_more n _ (n * 4 + length front * 2 + 6) b.0 (omega arith) b.2,
      )

-- the opening values of a group's devices, then of its links
module _ (gs : Ended) (p : Parts) (s : IsSoundDraftGroup (drafted p)) where
  abbrev pub with_device_opens : List DevicePart → List DevicePart → List Row → Draft
  with_device_opens front left rows = sections gs (group_with p.name (map opened_device front ++ map plain_device left) (map plain_link p.links) p.promises (rows_noted rows))

  abbrev pub with_link_opens : List LinkPart → List LinkPart → List Row → Draft
  with_link_opens front left rows = sections gs (group_with p.name (map opened_device p.devices) (map opened_link front ++ map plain_link left) p.promises (rows_noted rows))

  device_opens_printed : (front : List DevicePart) (d : DevicePart) (behind : List DevicePart) (rows : List Row) → front ++ d ∷ behind ≡ p.devices → AreBelow (length p.devices) (length front * 4) rows
      → (t : List Row) × Prints (with_device_opens front (d ∷ behind) rows) (device_opens d) (with_device_opens (front ++ d ∷ []) behind t) × AreBelow (length p.devices) (length (front ++ d ∷ []) * 4) t
  device_opens_printed front d behind rows is all =
      let spelled : is_name d.name ≡ true = amid (λ (d : DevicePart). is_name d.name ≡ true) p.devices front d behind is (each_spelled (λ (d : DevicePart). d.name) p.devices s.spelled_devices) in
      let fresh : is_among d.name (device_names (map opened_device front)) ≡ false = ap (is_among d.name) (opened_device_names front) ∙ device_new p.devices (link_names p.links) front d behind is s.named in
      let sound : IsSoundDevice d = amid IsSoundDevice p.devices front d behind is s.devices in
      let long : length (map opened_device front) ≡ length front = length-map front opened_device in
      let more : length (front ++ d ∷ []) ≡ length front + 1 = length_push front d in
      let made = device_vars gs p.name (map plain_link p.links) p.promises (length p.devices) (map opened_device front) d (map plain_device behind) spelled fresh rows sound.vals (below_more (length p.devices) (length front * 4) (length (map opened_device front) * 4) rows (omega arith) all) in
      let pushed : map opened_device front ++ opened_device d ∷ map plain_device behind ≡ map opened_device (front ++ d ∷ []) ++ map plain_device behind = sym (append_assoc (map opened_device front) (opened_device d ∷ []) (map plain_device behind)) ∙ ap (λ (ds : List DevicePart). ds ++ map plain_device behind) (sym (map_push opened_device front d)) in (
        made.0,
        subst (λ (ds : List DevicePart). Prints (with_device_opens front (d ∷ behind) rows) (device_opens d) (sections gs (group_with p.name ds (map plain_link p.links) p.promises (rows_noted made.0)))) pushed made.1,
        below_more (length p.devices) (length (map opened_device front) * 4 + 4) (length (front ++ d ∷ []) * 4) made.0 (omega arith) made.2,
      )

  link_opens_printed : (front : List LinkPart) (l : LinkPart) (behind : List LinkPart) (rows : List Row) → front ++ l ∷ behind ≡ p.links → AreBelow (length p.devices) (length p.devices * 4 + length front * 2 + 4) rows
      → (t : List Row) × Prints (with_link_opens front (l ∷ behind) rows) (link_opens l) (with_link_opens (front ++ l ∷ []) behind t) × AreBelow (length p.devices) (length p.devices * 4 + length (front ++ l ∷ []) * 2 + 4) t
  link_opens_printed front l behind rows is all =
      let spelled : is_name l.name ≡ true = amid (λ (l : LinkPart). is_name l.name ≡ true) p.links front l behind is (each_spelled (λ (l : LinkPart). l.name) p.links s.spelled_links) in
      let new = link_new (device_names p.devices) p.links front l behind is s.named in
      let no_device : is_among l.name (device_names (map opened_device p.devices)) ≡ false = ap (is_among l.name) (opened_device_names p.devices) ∙ new.no_device in
      let no_link : is_among l.name (link_names (map opened_link front)) ≡ false = ap (is_among l.name) (opened_link_names front) ∙ new.no_link in
      let sound : IsSoundLink (device_names p.devices) l = amid (IsSoundLink (device_names p.devices)) p.links front l behind is s.links in
      let long : length (map opened_link front) ≡ length front = length-map front opened_link in
      let more : length (front ++ l ∷ []) ≡ length front + 1 = length_push front l in
      let made = link_vars gs p.name (map opened_device p.devices) p.promises (length p.devices) (map opened_link front) l (map plain_link behind) spelled no_device no_link rows sound.vals (below_more (length p.devices) (length p.devices * 4 + length front * 2 + 4) (length p.devices * 4 + length (map opened_link front) * 2 + 4) rows (omega arith) all) in
      let pushed : map opened_link front ++ opened_link l ∷ map plain_link behind ≡ map opened_link (front ++ l ∷ []) ++ map plain_link behind = sym (append_assoc (map opened_link front) (opened_link l ∷ []) (map plain_link behind)) ∙ ap (λ (ls : List LinkPart). ls ++ map plain_link behind) (sym (map_push opened_link front l)) in (
        made.0,
        subst (λ (ls : List LinkPart). Prints (with_link_opens front (l ∷ behind) rows) (link_opens l) (sections gs (group_with p.name (map opened_device p.devices) ls p.promises (rows_noted made.0)))) pushed made.1,
        below_more (length p.devices) (length p.devices * 4 + length (map opened_link front) * 2 + 6) (length p.devices * 4 + length (front ++ l ∷ []) * 2 + 4) made.0 (omega arith) made.2,
      )

  -- all opening values are printed behind the promises
  pub opens_printed : (rows : List Row) × Prints (sections gs (group_with p.name (map plain_device p.devices) (map plain_link p.links) p.promises nothing_noted)) (flat_map device_opens p.devices ++ flat_map link_opens p.links)
      (sections gs (group_with p.name (map opened_device p.devices) (map opened_link p.links) p.promises (rows_noted rows)))
  opens_printed =
      let a = along p.devices with_device_opens device_opens (λ front rows. AreBelow (length p.devices) (length front * 4) rows) device_opens_printed [] p.devices [] refl tt in
      let devices : Prints (with_device_opens [] p.devices []) (flat_map device_opens p.devices) (with_link_opens [] p.links a.0) =
      subst (λ (ds : List DevicePart). Prints (with_device_opens [] p.devices []) (flat_map device_opens p.devices) (sections gs (group_with p.name ds (map plain_link p.links) p.promises (rows_noted a.0)))) (append-nil (map opened_device p.devices)) a.1 in
      let b = along p.links with_link_opens link_opens (λ front rows. AreBelow (length p.devices) (length p.devices * 4 + length front * 2 + 4) rows) link_opens_printed [] p.links a.0 refl (below_more (length p.devices) (length p.devices * 4) (length p.devices * 4 + length {A = LinkPart} [] * 2 + 4) a.0 (omega arith) a.2) in (
        b.0,
        prints_both _ _ _ _ _ devices
            (subst (λ (ls : List LinkPart). Prints (with_link_opens [] p.links a.0) (flat_map link_opens p.links) (sections gs (group_with p.name (map opened_device p.devices) ls p.promises (rows_noted b.0)))) (append-nil (map opened_link p.links)) b.1),
      )
