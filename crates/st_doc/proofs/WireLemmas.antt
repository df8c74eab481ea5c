-- One more wire line of one of the groups.
use Rattle.std.proofs.Common.{◌≡◌, ℕ, zero, suc, ◌<◌, List, [], ◌∷◌, ◌++◌, length, map, get_or, set, ap, sym, ◌∙◌, refl, cond}
use Rattle.std.specs.Prelude.{option_to_list, option_map}
use Rattle.std.proofs.lemmas.Bool.{lt-ltb}
use Rattle.std.proofs.lemmas.List.{map-append}
use Rattle.st_wire.specs.declared.line.WireLine.{WireLine}
use Rattle.st_grammar.specs.Draft.{GroupDraft, Draft, group_names, with_wire, wired}
use Rattle.st_grammar.specs.Lines.{with_wire_line}
use Rattle.st_doc.specs.ReaderInside.{KnowsNames}

names_set : (gs : List GroupDraft) (i : ℕ) (g h : GroupDraft) → g ≡ get_or gs i g → h.name ≡ g.name → map (λ (g : GroupDraft). g.name) (set gs i h) ≡ map (λ (g : GroupDraft). g.name) gs
names_set [] i g h at same = refl
names_set (x ∷ gs) zero g h at same = ap (λ (n : List ℕ). n ∷ map (λ (g : GroupDraft). g.name) gs) (same ∙ ap (λ (g : GroupDraft). g.name) at)
names_set (x ∷ gs) (suc i) g h at same = ap (λ (ns : List (List ℕ)). x.name ∷ ns) (names_set gs i g h at same)

wired_is : (gs : List GroupDraft) (i : ℕ) (g h : GroupDraft) (line : WireLine) → g ≡ get_or gs i g → h ≡ with_wire g line → set gs i h ≡ wired gs i line
wired_is [] i g h line at more = refl
wired_is (x ∷ gs) zero g h line at more = ap (λ (g : GroupDraft). g ∷ gs) (more ∙ ap (λ (g : GroupDraft). with_wire g line) at)
wired_is (x ∷ gs) (suc i) g h line at more = ap (λ (gs : List GroupDraft). x ∷ gs) (wired_is gs i g h line at more)

pub still_knows : (d : Draft) (i : ℕ) (g h : GroupDraft) (grouped called : List (List ℕ)) → KnowsNames d grouped called → g ≡ get_or d.groups i g → h.name ≡ g.name → KnowsNames (record d { groups = set d.groups i h }) grouped called
still_knows d i g h grouped called knows at same =
    let names : map (λ (g : GroupDraft). g.name) (set d.groups i h ++ option_to_list d.group) ≡ group_names d =
    map-append (λ (g : GroupDraft). g.name) (set d.groups i h) (option_to_list d.group)
    ∙ ap (λ (ns : List (List ℕ)). ns ++ map (λ (g : GroupDraft). g.name) (option_to_list d.group)) (names_set d.groups i g h at same)
    ∙ sym (map-append (λ (g : GroupDraft). g.name) d.groups (option_to_list d.group)) in
    record { group_index = knows.group_index ∙ sym names; app_index = knows.app_index; few_groups = knows.few_groups; few_apps = knows.few_apps }

pub wire_after : (d now : Draft) (i : ℕ) (g h : GroupDraft) (line : WireLine) → d ≡ now → i < length d.groups → g ≡ get_or d.groups i g → h ≡ with_wire g line → record d { groups = set d.groups i h } ≡ with_wire_line now i line
wire_after d now i g h line same less at more =
    ap (λ (gs : List GroupDraft). record d { groups = gs }) (wired_is d.groups i g h line at more)
    ∙ ap (λ b. cond b (record d { groups = wired d.groups i line }) (record d { group = option_map (λ g. with_wire g line) d.group })) (sym (lt-ltb i (length d.groups) less))
    ∙ ap (λ (d : Draft). with_wire_line d i line) same
