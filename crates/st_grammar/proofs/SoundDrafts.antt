-- What the lines of a document keep: what they declare is sound.
use Rattle.std.proofs.Common.{◌≡◌, ℕ, zero, suc, ◌+◌, ◌<◌, ◌≤◌, List, [], ◌∷◌, ◌++◌, length, map, ap, sym, ◌∙◌, subst, refl, arith}
use Rattle.std.specs.Prelude.{Bool, true, false, cond, ◌&&◌, nat_le, nat_lt, Option, Some, None, option_to_list, option_map, slice_get, Result, Ok, ok_or}
use Rattle.std.specs.List.{AllByRecursion}
use Rattle.std.proofs.lemmas.List.{length-map, length_push, length-append, map_push, map-append}
use Rattle.std.proofs.lemmas.Bool.Decides.{nat_tests}
use Rattle.st_text.specs.AllowedBytes.{has_allowed_bytes}
use Rattle.st_text.specs.Tokens.{tokens_of}
use Rattle.st_net.proofs.Tests.{both, less_is}
use Rattle.st_net.specs.declared.parts.Parts.{Parts}
use Rattle.st_net.specs.Names.{place_of, is_among, is_name}
use Rattle.st_net.specs.Groups.{are_new}
use Rattle.st_event.specs.declared.act.Act.{Act}
use Rattle.st_wire.specs.declared.line.WireLine.{WireLine}
use Rattle.st_token.specs.declared.fault.FaultKind.{FaultKind}
use Rattle.st_token.specs.declared.fault.FaultKind.TheVariants as kinds
use Rattle.st_token.specs.Spelling.{name_in, new_name_in, known_name_in, is_comment}
use Rattle.st_token.specs.Counts.{one_of, some_of}
use Rattle.st_token.proofs.PrintedTokens.{each}
use Rattle.st_token.proofs.ReadTokens.{came_from, chose, chosen, was_some, new_name, place_below}
use Rattle.st_grammar.specs.declared.keyword.Keyword.{Keyword}
use Rattle.st_grammar.specs.declared.keyword.Keyword.TheVariants as keywords
use Rattle.st_grammar.specs.declared.limits.TheConstants.{MAX_GROUPS, MAX_APPS, MAX_ACTS, MAX_WIRE_LINES}
use Rattle.st_grammar.specs.declared.doc.Script.{Script}
use Rattle.st_grammar.specs.Draft.{GroupDraft, Draft, nothing, has_header, empty_group, empty_script, groups_of, apps_of, group_names, app_names, parts_of, with_wire, wired}
use Rattle.st_grammar.specs.Sections.{part_line}
use Rattle.st_grammar.specs.Commands.{wire_of, act_of}
use Rattle.st_grammar.specs.Keywords.{phase_of, since, keyword_of}
use Rattle.st_grammar.specs.Lines.{begun_name, group_line, app_line, known_names_in, order_line, has_section, is_allowed, into_group, wire_count_of, wire_count, with_wire_line, wire_line, with_act, act_added, act_line, declared_by, phased_line, keyword_line, version_named, header_line, tokens_line, line_of}
use Rattle.st_grammar.specs.Sound.{IsSoundAct, IsSoundWire}
use Rattle.st_grammar.proofs.SoundGroups.{IsSoundDraftGroup}
use Rattle.st_grammar.proofs.SoundSteps.{pushed_all, begun_sound, new_last, wire_sound}
use Rattle.st_grammar.proofs.SoundLines.{MakesSound, part_good}
use Rattle.st_grammar.proofs.SoundActs.{command_good, wire_read}

-- the name of an application, and its commands, each sound
pub record HasSoundActs (groups : List Parts) (app : Script) : Type 0 where
  pub name : is_name app.name ≡ true
  pub few : length app.acts ≤ MAX_ACTS
  pub acts : AllByRecursion (IsSoundAct groups) app.acts

pub record IsSoundDraft (d : Draft) : Type 0 where
  pub groups : AllByRecursion IsSoundDraftGroup (groups_of d)
  pub few_groups : length (groups_of d) ≤ MAX_GROUPS
  pub group_names : are_new [] (group_names d) ≡ true
  pub apps : AllByRecursion (HasSoundActs (map parts_of (groups_of d))) (apps_of d)
  pub few_apps : length (apps_of d) ≤ MAX_APPS
  pub app_names : are_new [] (app_names d) ≡ true
  pub order : AllByRecursion (λ n. n < length (apps_of d)) d.order

-- the last of some items, in place of another
all_front : {X : Type 0} (P : X → Type 0) (xs : List X) (x : X) → AllByRecursion P (xs ++ x ∷ []) → AllByRecursion P xs × P x
all_front P [] x all = (tt, all.0)
all_front P (y ∷ ys) x all = let rest = all_front P ys x all.1 in ((all.0, rest.0), rest.1)

names_same : {X : Type 0} (f : X → List ℕ) (xs : List X) (x y : X) → f y ≡ f x → map f (xs ++ y ∷ []) ≡ map f (xs ++ x ∷ [])
names_same f xs x y e = map_push f xs y ∙ ap (λ (n : List ℕ). map f xs ++ n ∷ []) e ∙ sym (map_push f xs x)

lengths_same : {X : Type 0} (xs : List X) (x y : X) → length (xs ++ y ∷ []) ≡ length (xs ++ x ∷ [])
lengths_same xs x y = rw (length_push xs y, length_push xs x) refl

-- no application and no order is declared
pub record IsEarly (d : Draft) : Type 0 where
  pub apps : apps_of d ≡ []
  pub order : d.order ≡ []

-- a line that leaves the applications and their order as they are
record Grows (d next : Draft) : Type 0 where
  sound : IsSoundDraft next
  apps : apps_of next ≡ apps_of d
  order : next.order ≡ d.order

still_early : (d next : Draft) → Grows d next → IsEarly d → IsEarly next
still_early d next g early = record { apps = g.apps ∙ early.apps; order = g.order ∙ early.order }

-- what is allowed is of the phase that is reached, or of a later one
allowed_phase : (d : Draft) (k : Keyword) → is_allowed d k ≡ true → nat_le d.phase (phase_of k) ≡ true
allowed_phase d k e =
    let version = (both (nat_le d.phase (phase_of k) && nat_le (since k) d.version) (has_section d k) e).0 in
    (both (nat_le d.phase (phase_of k)) (nat_le (since k) d.version) version).0

-- a line of a group's section
group_changed : (d next : Draft) (line : GroupDraft → Result GroupDraft FaultKind) → ((g h : GroupDraft) → line g ≡ Ok h → IsSoundDraftGroup g → MakesSound g h) → IsEarly d → into_group d line ≡ Ok next → IsSoundDraft d → Grows d next
group_changed d next line good early e s =
    let g = came_from (ok_or d.group kinds.Word) _ next e in
    let h = came_from (line g.0) _ next g.2 in
    let made : record d { group = Some h.0 } ≡ next = cc in
    let was : d.group ≡ Some g.0 = was_some d.group g.0 kinds.Word g.1 in
    let old : groups_of d ≡ d.groups ++ g.0 ∷ [] = ap (λ (o : Option GroupDraft). d.groups ++ option_to_list o) was in
    let front = all_front IsSoundDraftGroup d.groups g.0 (subst (AllByRecursion IsSoundDraftGroup) old s.groups) in
    let better : MakesSound g.0 h.0 = good g.0 h.0 h.1 front.1 in
    let names : map (λ (g : GroupDraft). g.name) (d.groups ++ h.0 ∷ []) ≡ group_names d = names_same (λ (g : GroupDraft). g.name) d.groups g.0 h.0 better.name ∙ ap (map (λ (g : GroupDraft). g.name)) (sym old) in
    let few : length (d.groups ++ h.0 ∷ []) ≡ length (groups_of d) = lengths_same d.groups g.0 h.0 ∙ ap length (sym old) in
    subst (Grows d) made (record {
      apps = refl;
      order = refl;
      sound = record {
        groups = pushed_all IsSoundDraftGroup d.groups h.0 front.0 better.sound;
        few_groups = rw few s.few_groups;
        group_names = rw names s.group_names;
        apps = rw early.apps tt;
        few_apps = s.few_apps;
        app_names = s.app_names;
        order = s.order;
      };
    })

-- a new section's name
record IsNewSection (names : List (List ℕ)) (most : ℕ) (name : List ℕ) : Type 0 where
  spelled : is_name name ≡ true
  fresh : is_among name names ≡ false
  room : nat_lt (length names) most ≡ true

section_begun : (names : List (List ℕ)) (most : ℕ) (args : List (List ℕ)) (name : List ℕ) → begun_name names most args ≡ Ok name → IsNewSection names most name
unfolding begun_name
section_begun names most args name e =
    let word = came_from (one_of args) _ name e in
    let named = came_from (new_name_in (is_among word.0 names) word.0) _ name word.2 in
    let room = chose (nat_lt (length names) most) named.0 name kinds.Limit named.2 in
    let new = new_name (is_among word.0 names) word.0 named.0 named.1 in
    subst (IsNewSection names most) room.1 (record { spelled = new.spelled; fresh = ap (λ (n : List ℕ). is_among n names) new.same ∙ new.fresh; room = room.0 })

group_begun : (d next : Draft) (args : List (List ℕ)) → IsEarly d → group_line d args ≡ Ok next → IsSoundDraft d → Grows d next
unfolding group_line
group_begun d next args early e s =
    let name = came_from (begun_name (group_names d) MAX_GROUPS args) _ next e in
    let made : record d { groups = groups_of d; group = Some (empty_group name.0) } ≡ next = cc in
    let new = section_begun (group_names d) MAX_GROUPS args name.0 name.1 in
    let count : length (group_names d) ≡ length (groups_of d) = length-map (groups_of d) (λ (g : GroupDraft). g.name) in
    let less : length (group_names d) < MAX_GROUPS = less_is (length (group_names d)) MAX_GROUPS new.room in
    subst (Grows d) made (record {
      apps = refl;
      order = refl;
      sound = record {
        groups = pushed_all IsSoundDraftGroup (groups_of d) (empty_group name.0) s.groups (begun_sound name.0 new.spelled);
        few_groups = rw (length_push (groups_of d) (empty_group name.0)) (omega arith);
        group_names = rw (map_push (λ (g : GroupDraft). g.name) (groups_of d) (empty_group name.0)) (new_last (group_names d) name.0 s.group_names new.fresh);
        apps = rw early.apps tt;
        few_apps = s.few_apps;
        app_names = s.app_names;
        order = s.order;
      };
    })

order_wider : (n m : ℕ) (order : List ℕ) → n ≤ m → AllByRecursion (λ k. k < n) order → AllByRecursion (λ k. k < m) order
order_wider n m order few all = each (λ k. k < n) (λ k. k < m) (λ k less. omega arith) order all

app_begun : (d next : Draft) (args : List (List ℕ)) → app_line d args ≡ Ok next → IsSoundDraft d → IsSoundDraft next
unfolding app_line
app_begun d next args e s =
    let name = came_from (begun_name (app_names d) MAX_APPS args) _ next e in
    let made : record d { apps = apps_of d; app = Some (empty_script name.0) } ≡ next = cc in
    let new = section_begun (app_names d) MAX_APPS args name.0 name.1 in
    let count : length (app_names d) ≡ length (apps_of d) = length-map (apps_of d) (λ (a : Script). a.name) in
    let less : length (app_names d) < MAX_APPS = less_is (length (app_names d)) MAX_APPS new.room in
    let longer : length (apps_of d ++ empty_script name.0 ∷ []) ≡ length (apps_of d) + 1 = length_push (apps_of d) (empty_script name.0) in
    subst IsSoundDraft made (record {
      groups = s.groups;
      few_groups = s.few_groups;
      group_names = s.group_names;
      apps = pushed_all (HasSoundActs (map parts_of (groups_of d))) (apps_of d) (empty_script name.0) s.apps (record { name = new.spelled; few = omega arith; acts = tt });
      few_apps = rw longer (omega arith);
      app_names = rw (map_push (λ (a : Script). a.name) (apps_of d) (empty_script name.0)) (new_last (app_names d) name.0 s.app_names new.fresh);
      order = order_wider (length (apps_of d)) (length (apps_of d ++ empty_script name.0 ∷ [])) d.order (omega arith) s.order;
    })

-- a command that is added
act_good : (d next : Draft) (act : Act) → act_added d act ≡ Ok next → IsSoundAct (map parts_of (groups_of d)) act → IsSoundDraft d → IsSoundDraft next
unfolding act_added
act_good d next act e sound s =
    let app = came_from (ok_or d.app kinds.Word) _ next e in
    let room = chose (nat_lt (length app.0.acts) MAX_ACTS) (record d { app = Some (with_act app.0 act) }) next kinds.Limit app.2 in
    let was : d.app ≡ Some app.0 = was_some d.app app.0 kinds.Word app.1 in
    let old : apps_of d ≡ d.apps ++ app.0 ∷ [] = ap (λ (o : Option Script). d.apps ++ option_to_list o) was in
    let front = all_front (HasSoundActs (map parts_of (groups_of d))) d.apps app.0 (subst (AllByRecursion (HasSoundActs (map parts_of (groups_of d)))) old s.apps) in
    let less : length app.0.acts < MAX_ACTS = less_is (length app.0.acts) MAX_ACTS room.0 in
    let names : map (λ (a : Script). a.name) (d.apps ++ with_act app.0 act ∷ []) ≡ app_names d = names_same (λ (a : Script). a.name) d.apps app.0 (with_act app.0 act) refl ∙ ap (map (λ (a : Script). a.name)) (sym old) in
    let few : length (d.apps ++ with_act app.0 act ∷ []) ≡ length (apps_of d) = lengths_same d.apps app.0 (with_act app.0 act) ∙ ap length (sym old) in
    subst IsSoundDraft room.1 (record {
      groups = s.groups;
      few_groups = s.few_groups;
      group_names = s.group_names;
      apps = pushed_all (HasSoundActs (map parts_of (groups_of d))) d.apps (with_act app.0 act) front.0 (record {
        name = front.1.name;
        few = rw (length_push app.0.acts act) (omega arith);
        acts = pushed_all (IsSoundAct (map parts_of (groups_of d))) app.0.acts act front.1.acts sound;
      });
      few_apps = rw few s.few_apps;
      app_names = rw names s.app_names;
      order = rw few s.order;
    })

act_line_good : (d next : Draft) (read : Result Act FaultKind) → ((act : Act) → read ≡ Ok act → IsSoundAct (map parts_of (groups_of d)) act) → act_line d read ≡ Ok next → IsSoundDraft d → IsSoundDraft next
unfolding act_line
act_line_good d next read good e s =
    let act = came_from read _ next e in
    act_good d next act.0 act.2 (good act.0 act.1) s

-- the applications of an order
names_known : (names : List (List ℕ)) (front places : List ℕ) (tokens : List (List ℕ)) → AllByRecursion (λ n. n < length names) front → known_names_in names front tokens ≡ Ok places → AllByRecursion (λ n. n < length names) places
unfolding known_names_in known_name_in
names_known names front places [] all e =
    let same : front ≡ places = cc in
    subst (AllByRecursion (λ n. n < length names)) same all
names_known names front places (token ∷ tokens) all e =
    let place = came_from (known_name_in names token) _ places e in
    let word = came_from (name_in token) _ place.0 place.1 in
    let at = was_some (place_of word.0 names) place.0 kinds.Unknown word.2 in
    names_known names (front ++ place.0 ∷ []) places tokens (pushed_all (λ n. n < length names) front place.0 all (place_below word.0 names place.0 at)) place.2

both_all : {X : Type 0} (P : X → Type 0) (xs ys : List X) → AllByRecursion P xs → AllByRecursion P ys → AllByRecursion P (xs ++ ys)
both_all P [] ys a b = b
both_all P (x ∷ xs) ys a b = (a.0, both_all P xs ys a.1 b)

order_good : (d next : Draft) (args : List (List ℕ)) → order_line d args ≡ Ok next → IsSoundDraft d → IsSoundDraft next
unfolding order_line
order_good d next args e s =
    let words = came_from (some_of args) _ next e in
    let apps = came_from (known_names_in (app_names d) [] words.0) _ next words.2 in
    let made : record d { order = d.order ++ apps.0 } ≡ next = cc in
    let count : length (app_names d) ≡ length (apps_of d) = length-map (apps_of d) (λ (a : Script). a.name) in
    let known : AllByRecursion (λ n. n < length (apps_of d)) apps.0 = subst (λ (m : ℕ). AllByRecursion (λ n. n < m) apps.0) count (names_known (app_names d) [] apps.0 words.0 tt apps.1) in
    subst IsSoundDraft made (record {
      groups = s.groups;
      few_groups = s.few_groups;
      group_names = s.group_names;
      apps = s.apps;
      few_apps = s.few_apps;
      app_names = s.app_names;
      order = both_all (λ n. n < length (apps_of d)) d.order apps.0 s.order known;
    })

-- a wire line of a group
wired_sound : (gs : List GroupDraft) (n : ℕ) (line : WireLine) → nat_lt (wire_count_of (slice_get gs n)) MAX_WIRE_LINES ≡ true → IsSoundWire line → AllByRecursion IsSoundDraftGroup gs → AllByRecursion IsSoundDraftGroup (wired gs n line)
wired_sound [] n line room sound all = tt
wired_sound (g ∷ gs) zero line room sound all = (wire_sound g line room sound all.0, all.1)
wired_sound (g ∷ gs) (suc n) line room sound all = (all.0, wired_sound gs n line room sound all.1)

wired_names : (gs : List GroupDraft) (n : ℕ) (line : WireLine) → map (λ (g : GroupDraft). g.name) (wired gs n line) ≡ map (λ (g : GroupDraft). g.name) gs
wired_names [] n line = refl
wired_names (g ∷ gs) zero line = refl
wired_names (g ∷ gs) (suc n) line = ap (λ (ns : List (List ℕ)). g.name ∷ ns) (wired_names gs n line)

wired_count : (gs : List GroupDraft) (n : ℕ) (line : WireLine) → length (wired gs n line) ≡ length gs
wired_count [] n line = refl
wired_count (g ∷ gs) zero line = refl
wired_count (g ∷ gs) (suc n) line = ap suc (wired_count gs n line)

all_parts : {X : Type 0} (P : X → Type 0) (xs ys : List X) → AllByRecursion P (xs ++ ys) → AllByRecursion P xs × AllByRecursion P ys
all_parts P [] ys all = (tt, all)
all_parts P (x ∷ xs) ys all = let rest = all_parts P xs ys all.1 in ((all.0, rest.0), rest.1)

last_wired : (g : Option GroupDraft) (line : WireLine) → nat_lt (wire_count_of g) MAX_WIRE_LINES ≡ true → IsSoundWire line → AllByRecursion IsSoundDraftGroup (option_to_list g) → AllByRecursion IsSoundDraftGroup (option_to_list (option_map (λ g. with_wire g line) g))
last_wired None line room sound all = tt
last_wired (Some g) line room sound all = (wire_sound g line room sound all.0, tt)

last_names : (g : Option GroupDraft) (line : WireLine) → map (λ (g : GroupDraft). g.name) (option_to_list (option_map (λ g. with_wire g line) g)) ≡ map (λ (g : GroupDraft). g.name) (option_to_list g)
last_names None line = refl
last_names (Some g) line = refl

last_count : (g : Option GroupDraft) (line : WireLine) → length (option_to_list (option_map (λ g. with_wire g line) g)) ≡ length (option_to_list g)
last_count None line = refl
last_count (Some g) line = refl

wire_added : (d : Draft) (n : ℕ) (line : WireLine) (b : Bool) → nat_lt (cond b (wire_count_of (slice_get d.groups n)) (wire_count_of d.group)) MAX_WIRE_LINES ≡ true → IsSoundWire line → IsEarly d → IsSoundDraft d
    → Grows d (cond b (record d { groups = wired d.groups n line }) (record d { group = option_map (λ g. with_wire g line) d.group }))
wire_added d n line true room sound early s =
    let parts = all_parts IsSoundDraftGroup d.groups (option_to_list d.group) s.groups in
    let names : map (λ (g : GroupDraft). g.name) (wired d.groups n line ++ option_to_list d.group) ≡ group_names d = map-append (λ (g : GroupDraft). g.name) (wired d.groups n line) (option_to_list d.group) ∙ ap (λ (ns : List (List ℕ)). ns ++ map (λ (g : GroupDraft). g.name) (option_to_list d.group)) (wired_names d.groups n line) ∙ sym (map-append (λ (g : GroupDraft). g.name) d.groups (option_to_list d.group)) in
    let few : length (wired d.groups n line ++ option_to_list d.group) ≡ length (groups_of d) = length-append (wired d.groups n line) (option_to_list d.group) ∙ ap (λ k. k + length (option_to_list d.group)) (wired_count d.groups n line) ∙ sym (length-append d.groups (option_to_list d.group)) in
    record {
      apps = refl;
      order = refl;
      sound = record {
        groups = both_all IsSoundDraftGroup (wired d.groups n line) (option_to_list d.group) (wired_sound d.groups n line room sound parts.0) parts.1;
        few_groups = rw few s.few_groups;
        group_names = rw names s.group_names;
        apps = rw early.apps tt;
        few_apps = s.few_apps;
        app_names = s.app_names;
        order = s.order;
      };
    }
wire_added d n line false room sound early s =
    let parts = all_parts IsSoundDraftGroup d.groups (option_to_list d.group) s.groups in
    let names : map (λ (g : GroupDraft). g.name) (d.groups ++ option_to_list (option_map (λ g. with_wire g line) d.group)) ≡ group_names d = map-append (λ (g : GroupDraft). g.name) d.groups (option_to_list (option_map (λ g. with_wire g line) d.group)) ∙ ap (λ (ns : List (List ℕ)). map (λ (g : GroupDraft). g.name) d.groups ++ ns) (last_names d.group line) ∙ sym (map-append (λ (g : GroupDraft). g.name) d.groups (option_to_list d.group)) in
    let few : length (d.groups ++ option_to_list (option_map (λ g. with_wire g line) d.group)) ≡ length (groups_of d) = length-append d.groups (option_to_list (option_map (λ g. with_wire g line) d.group)) ∙ ap (λ k. length d.groups + k) (last_count d.group line) ∙ sym (length-append d.groups (option_to_list d.group)) in
    record {
      apps = refl;
      order = refl;
      sound = record {
        groups = both_all IsSoundDraftGroup d.groups (option_to_list (option_map (λ g. with_wire g line) d.group)) parts.0 (last_wired d.group line room sound parts.1);
        few_groups = rw few s.few_groups;
        group_names = rw names s.group_names;
        apps = rw early.apps tt;
        few_apps = s.few_apps;
        app_names = s.app_names;
        order = s.order;
      };
    }

wire_good : (d next : Draft) (read : Result (ℕ × WireLine) FaultKind) → ((line : ℕ × WireLine) → read ≡ Ok line → IsSoundWire line.1) → IsEarly d → wire_line d read ≡ Ok next → IsSoundDraft d → Grows d next
unfolding wire_line
wire_good d next read good early e s =
    let line = came_from read _ next e in
    let room = chose (nat_lt (wire_count d line.0.0) MAX_WIRE_LINES) (with_wire_line d line.0.0 line.0.1) next kinds.Limit line.2 in
    subst (Grows d) room.1 (wire_added d line.0.0 line.0.1 (nat_lt line.0.0 (length d.groups)) room.0 (good line.0 line.1) early s)

-- what holds between lines: what is declared is sound, and applications and their order come in the later phases
pub record IsSoundSoFar (d : Draft) : Type 0 where
  pub sound : IsSoundDraft d
  pub early : nat_le d.phase 2 ≡ true → IsEarly d

phase_set : (d : Draft) (n : ℕ) → IsSoundDraft d → IsSoundDraft (record d { phase = n })
phase_set d n s = record { groups = s.groups; few_groups = s.few_groups; group_names = s.group_names; apps = s.apps; few_apps = s.few_apps; app_names = s.app_names; order = s.order }

early_set : (d : Draft) (n : ℕ) → IsEarly d → IsEarly (record d { phase = n })
early_set d n e = record { apps = e.apps; order = e.order }

below_two : (p q : ℕ) → nat_le p q ≡ true → nat_le q 2 ≡ true → nat_le p 2 ≡ true
below_two p q e f = grind (arith, nat_tests)

grown : (d next : Draft) (n : ℕ) → Grows d next → IsEarly d → IsSoundSoFar (record next { phase = n })
grown d next n g early = record { sound = phase_set next n g.sound; early = λ low. early_set next n (still_early d next g early) }

late : (next : Draft) (n : ℕ) → nat_le n 2 ≡ false → IsSoundDraft next → IsSoundSoFar (record next { phase = n })
late next n high s = record { sound = phase_set next n s; early = λ low. absurd (cc) }

-- the line of a keyword
declared_good : (d next : Draft) (k : Keyword) (args : List (List ℕ)) → nat_le d.phase (phase_of k) ≡ true → declared_by d k args ≡ Ok next → IsSoundSoFar d → IsSoundSoFar (record next { phase = phase_of k })
declared_good d next keywords.Group args p e s = let early = s.early (below_two d.phase 1 p refl) in grown d next 1 (group_begun d next args early e s.sound) early
declared_good d next (keywords.Part word) args p e s = let early = s.early (below_two d.phase 1 p refl) in grown d next 1 (group_changed d next (λ g. part_line g word args) (part_good word args) early e s.sound) early
declared_good d next (keywords.Wire word) args p e s = let early = s.early (below_two d.phase 2 p refl) in grown d next 2 (wire_good d next (wire_of d word args) (wire_read d word args) early e s.sound) early
declared_good d next keywords.App args p e s = late next 3 refl (app_begun d next args e s.sound)
declared_good d next (keywords.Act word) args p e s = late next 3 refl (act_line_good d next (act_of d word args) (command_good d word args) e s.sound)
declared_good d next keywords.Order args p e s = late next 4 refl (order_good d next args e s.sound)

version_set : (d : Draft) (version : ℕ) → IsSoundSoFar d → IsSoundSoFar (record d { version = version })
version_set d version s = record {
  sound = record { groups = s.sound.groups; few_groups = s.sound.few_groups; group_names = s.sound.group_names; apps = s.sound.apps; few_apps = s.sound.few_apps; app_names = s.sound.app_names; order = s.sound.order };
  early = λ low. let e = s.early low in record { apps = e.apps; order = e.order };
}

keyword_good : (d next : Draft) (word : List ℕ) (args : List (List ℕ)) → keyword_line d word args ≡ Ok next → IsSoundSoFar d → IsSoundSoFar next
unfolding keyword_line phased_line
keyword_good d next word args e s =
    let k = came_from (ok_or (keyword_of word) kinds.Word) _ next e in
    let here = chosen (is_allowed d k.0) (phased_line d k.0 args) next kinds.Word k.2 in
    let line = came_from (declared_by d k.0 args) _ next here.1 in
    let made : record line.0 { phase = phase_of k.0 } ≡ next = cc in
    subst IsSoundSoFar made (declared_good d line.0 k.0 args (allowed_phase d k.0 here.0) line.1 s)

header_good : (d next : Draft) (words : List (List ℕ)) → header_line d words ≡ Ok next → IsSoundSoFar d → IsSoundSoFar next
unfolding header_line
header_good d next words e s =
    let version = came_from (ok_or (version_named words) kinds.Header) _ next e in
    let made : record d { version = version.0 } ≡ next = cc in
    subst IsSoundSoFar made (version_set d version.0 s)

tokens_good : (d next : Draft) (words : List (List ℕ)) → tokens_line d words ≡ Ok next → IsSoundSoFar d → IsSoundSoFar next
tokens_good d next [] e s = subst IsSoundSoFar (let same : d ≡ next = cc in same) s
tokens_good d next (word ∷ args) e s = by_tests (is_comment word) (has_header d) e
  where
    by_tests : (comment stood : Bool) → cond comment (Ok d) (cond stood (keyword_line d word args) (header_line d (word ∷ args))) ≡ Ok next → IsSoundSoFar next
    by_tests true stood e = subst IsSoundSoFar (let same : d ≡ next = cc in same) s
    by_tests false true e = keyword_good d next word args e s
    by_tests false false e =
        header_good d next (word ∷ args) e s

pub line_good : (d next : Draft) (line : List ℕ) → line_of d line ≡ Ok next → IsSoundSoFar d → IsSoundSoFar next
unfolding line_of
line_good d next line e s = tokens_good d next (tokens_of line) (chosen (has_allowed_bytes line) (tokens_line d (tokens_of line)) next kinds.Byte e).1 s

pub nothing_sound : IsSoundSoFar nothing
nothing_sound = record {
  sound = record { groups = tt; few_groups = omega arith; group_names = refl; apps = tt; few_apps = omega arith; app_names = refl; order = tt };
  early = λ low. record { apps = refl; order = refl };
}
