-- What a good line of an application says of its command.
use Rattle.std.proofs.Common.{◌≡◌, ℕ, zero, suc, ◌+◌, ◌<◌, ◌≤◌, List, [], ◌∷◌, ◌++◌, length, map, ap, sym, ◌∙◌, subst, refl, arith}
use Rattle.std.specs.Prelude.{true, false, nat_le, Option, Some, None, slice_get, Ok, ok_or}
use Rattle.std.specs.Option.{IsSomeAnd}
use Rattle.std.specs.List.{AllByRecursion}
use Rattle.std.proofs.lemmas.Bool.{leb-true}
use Rattle.std.proofs.lemmas.List.{length-map, length_push}
use Rattle.std.proofs.lemmas.List.Elements.{All-from_recursion}
use Rattle.st_net.proofs.Tests.{both}
use Rattle.st_net.specs.declared.entity.Entity.{Entity}
use Rattle.st_net.specs.declared.entity.Entity.TheVariants.{Device, Link}
use Rattle.st_net.specs.declared.entity.Var.{Var}
use Rattle.st_net.specs.Names.{place_of as name_place}
use Rattle.st_net.specs.declared.entity.Row.{Row}
use Rattle.st_net.specs.declared.parts.Parts.{Parts}
use Rattle.st_net.specs.declared.topo.TheConstants.{MAX_ROWS}
use Rattle.st_net.specs.Groups.{Group, IsEntityOf}
use Rattle.st_net.specs.Ranges.{RowFits, RowsFit, is_free_of, are_apart, IsVariableOf, IsOn, IsChangeOf, most_health}
use Rattle.st_net.specs.Faults.{group_of, device_opening, link_opening, device_names}
use Rattle.st_event.specs.declared.act.Act.{Act}
use Rattle.st_event.specs.declared.act.Act.TheVariants as acts
use Rattle.st_wire.specs.declared.line.WireLine.{WireLine}
use Rattle.st_wire.specs.declared.line.WireLine.TheVariants as wires
use Rattle.st_token.specs.declared.fault.FaultKind.TheVariants as kinds
use Rattle.st_token.specs.Places.{cut_at}
use Rattle.st_token.specs.Spelling.{name_in, known_name_in, entity_in, number_in, number_within, number_from, number_above, prio_in}
use Rattle.st_token.specs.Variables.{new_assignment_in, var_named, var_in, assigned_in, variable_by, variable_in, dotted_variable_in, undotted_variable_in, new_value_in, rows_in, values_in}
use Rattle.st_token.specs.Counts.{one_of, two_of, three_of, four_of, three_and_more_of, one_and_some_of}
use Rattle.st_token.proofs.PrintedTokens.{each}
use Rattle.st_token.proofs.ReadTokens.{came_from, chose, chosen, was_some, place_below, number_range, number_bound, number_from_is, number_above_is, IsRowOf, assigned_range, var_known, some_tokens}
use Rattle.st_token.proofs.RowLemmas.{apart_last}
use Rattle.st_grammar.specs.declared.limits.TheConstants.{MAX_ROUNDS}
use Rattle.st_grammar.specs.declared.keyword.ActWord.{ActWord}
use Rattle.st_grammar.specs.declared.keyword.ActWord.TheVariants as act_words
use Rattle.st_grammar.specs.declared.keyword.WireWord.{WireWord}
use Rattle.st_grammar.specs.declared.keyword.WireWord.TheVariants as wire_words
use Rattle.st_grammar.specs.Draft.{GroupDraft, Draft, IsEntityIn, MaySet, groups_of, group_names, parts_of}
use Rattle.st_grammar.specs.Spelling.{entity_named, wire_kind_in}
use Rattle.st_grammar.specs.Commands.{group_in, group_entity_in, propose_of, await_of, settle_of, lock_of, unlock_of, read_of, readat_of, fail_of, poll_of, act_of, drop_of, repeat_of, hold_of, wire_of}
use Rattle.st_grammar.specs.Sound.{IsSoundAct, IsGroupWith, IsSoundWire}
use Rattle.st_grammar.proofs.SoundSteps.{pushed_all}
use Rattle.st_grammar.proofs.SoundLines.{new_row_fits, entity_within}

-- an entity of a group's parts is one of the group that is built from them
pub entity_of : (g : GroupDraft) (e : Entity) → IsEntityIn g e → IsEntityOf (group_of (parts_of g)) e
entity_of g (Device i) less = subst (λ (n : ℕ). i < n) (sym (length-map g.devices device_opening)) less
entity_of g (Link i) less = subst (λ (n : ℕ). i < n) (sym (length-map g.links (link_opening (device_names g.devices)))) less

pub row_fits : (g : GroupDraft) (set : List Row) (row : Row) → MaySet g set row → RowFits (group_of (parts_of g)) row
row_fits g set row s = record { entity = entity_of g row.entity s.entity; range = s.range }

-- the rows of a line fit their group, and there are as many as tokens
record AreRowsOf (g : GroupDraft) (count : ℕ) (rows : List Row) : Type 0 where
  each : AllByRecursion (RowFits (group_of (parts_of g))) rows
  apart : are_apart rows ≡ true
  count_is : length rows ≡ count

rows_read : (g : GroupDraft) (tokens : List (List ℕ)) (set rows : List Row) (count : ℕ) → AreRowsOf g count set → rows_in (entity_named g) set tokens ≡ Ok rows → AreRowsOf g (count + length tokens) rows
unfolding rows_in
rows_read g [] set rows count had is =
    let same : set ≡ rows = cc in
    subst (AreRowsOf g (count + 0)) same (record { each = had.each; apart = had.apart; count_is = let n : length set ≡ count = had.count_is in omega arith })
rows_read g (token ∷ tokens) set rows count had is =
    let row = came_from (new_assignment_in (entity_named g) set token) _ rows is in
    let fits = new_row_fits g set token row.0 row.1 in
    let more : AreRowsOf g (count + 1) (set ++ row.0 ∷ []) = record { each = pushed_all (RowFits (group_of (parts_of g))) set row.0 had.each (row_fits g set row.0 fits); apart = apart_last set row.0 had.apart fits.fresh; count_is = let n : length set ≡ count = had.count_is in rw (length_push set row.0) (omega arith) } in
    let number : (count + 1) + length tokens ≡ count + suc (length tokens) = omega arith in
    subst (λ (n : ℕ). AreRowsOf g n rows) number (rows_read g tokens (set ++ row.0 ∷ []) rows (count + 1) more row.2)

get_mapped : {X Y : Type 0} (f : X → Y) (xs : List X) (n : ℕ) (x : X) → slice_get xs n ≡ Some x → slice_get (map f xs) n ≡ Some (f x)
get_mapped f [] n x e = absurd (cc)
get_mapped f (y ∷ ys) zero x e = let same : y ≡ x = cc in ap (λ z. Some (f z)) same
get_mapped f (y ∷ ys) (suc n) x e = get_mapped f ys n x e

-- a command on a group of the draft is one on a group of the document
pub on_group : (d : Draft) (n : ℕ) (g : GroupDraft) (P : Group → Type 0) → slice_get (groups_of d) n ≡ Some g → P (group_of (parts_of g)) → IsGroupWith (map parts_of (groups_of d)) n P
on_group d n g P at p = subst (λ (o : Option Parts). IsSomeAnd o (λ parts. P (group_of parts))) (sym (get_mapped parts_of (groups_of d) n g at)) p

pub group_found : (d : Draft) (token : List ℕ) (found : ℕ × GroupDraft) → group_in d token ≡ Ok found → slice_get (groups_of d) found.0 ≡ Some found.1
unfolding group_in
group_found d token found is =
    let n = came_from (known_name_in (group_names d) token) _ found is in
    let g = came_from (ok_or (slice_get (groups_of d) n.0) kinds.Unknown) _ found n.2 in
    let at = was_some (slice_get (groups_of d) n.0) g.0 kinds.Unknown g.1 in
    let number : n.0 ≡ found.0 = cc in
    let group : g.0 ≡ found.1 = cc in
    subst (λ (k : ℕ). slice_get (groups_of d) k ≡ Some found.1) number (at ∙ ap Some group)

pub propose_good : (d : Draft) (args : List (List ℕ)) (act : Act) → propose_of d args ≡ Ok act → IsSoundAct (map parts_of (groups_of d)) act
unfolding propose_of
propose_good d args act is =
    let words = came_from (one_and_some_of args) _ act is in
    let g = came_from (group_in d words.0.0) _ act words.2 in
    let rows = came_from (rows_in (entity_named g.0.1) [] words.0.1) _ act g.2 in
    let few = chose (nat_le (length rows.0) MAX_ROWS) (acts.Propose g.0.0 rows.0) act kinds.Limit rows.2 in
    let none : AreRowsOf g.0.1 0 [] = record { each = tt; apart = refl; count_is = refl } in
    let read = rows_read g.0.1 words.0.1 [] rows.0 0 none rows.1 in
    let some : 1 ≤ length words.0.1 = some_tokens args words.0 words.1 in
    let count : length rows.0 ≡ 0 + length words.0.1 = read.count_is in
    subst (IsSoundAct (map parts_of (groups_of d))) few.1
    (on_group d g.0.0 g.0.1 (λ g. RowsFit g rows.0) (group_found d words.0.0 g.0 g.1)
    (record { some = omega arith; few = leb-true (length rows.0) MAX_ROWS few.0; each = All-from_recursion (RowFits (group_of (parts_of g.0.1))) rows.0 read.each; apart = read.apart }))

-- the number of a group that is named
group_numbered : (d : Draft) (token : List ℕ) (n : ℕ) → known_name_in (group_names d) token ≡ Ok n → n < length (map parts_of (groups_of d))
unfolding known_name_in
group_numbered d token n is =
    let word = came_from (name_in token) _ n is in
    let at = was_some (name_place word.0 (group_names d)) n kinds.Unknown word.2 in
    let less : n < length (group_names d) = place_below word.0 (group_names d) n at in
    let names : length (group_names d) ≡ length (groups_of d) = length-map (groups_of d) (λ (g : GroupDraft). g.name) in
    let parts : length (map parts_of (groups_of d)) ≡ length (groups_of d) = length-map (groups_of d) parts_of in
    omega arith

await_good : (d : Draft) (args : List (List ℕ)) (act : Act) → await_of d args ≡ Ok act → IsSoundAct (map parts_of (groups_of d)) act
unfolding await_of
await_good d args act is =
    let word = came_from (one_of args) _ act is in
    let g = came_from (known_name_in (group_names d) word.0) _ act word.2 in
    let made : acts.Await g.0 ≡ act = cc in
    subst (IsSoundAct (map parts_of (groups_of d))) made (group_numbered d word.0 g.0 g.1)

settle_good : (d : Draft) (args : List (List ℕ)) (act : Act) → settle_of d args ≡ Ok act → IsSoundAct (map parts_of (groups_of d)) act
unfolding settle_of
settle_good d args act is =
    let words = came_from (two_of args) _ act is in
    let g = came_from (known_name_in (group_names d) words.0.0) _ act words.2 in
    let rounds = came_from (number_within 1 MAX_ROUNDS words.0.1) _ act g.2 in
    let range = both (nat_le 1 rounds.0) (nat_le rounds.0 MAX_ROUNDS) (number_range 1 MAX_ROUNDS rounds.0 words.0.1 rounds.1) in
    let made : acts.Settle g.0 rounds.0 ≡ act = cc in
    subst (IsSoundAct (map parts_of (groups_of d))) made (group_numbered d words.0.0 g.0 g.1, leb-true 1 rounds.0 range.0, leb-true rounds.0 MAX_ROUNDS range.1)

-- an entity of a group that is named
entity_found : (d : Draft) (group name : List ℕ) (e : ℕ × Entity) → group_entity_in d group name ≡ Ok e → IsGroupWith (map parts_of (groups_of d)) e.0 (λ g. IsEntityOf g e.1)
unfolding group_entity_in
entity_found d group name e is =
    let g = came_from (group_in d group) _ e is in
    let entity = came_from (entity_in (entity_named g.0.1) name) _ e g.2 in
    let made : (g.0.0, entity.0) ≡ e = cc in
    subst (λ (e : ℕ × Entity). IsGroupWith (map parts_of (groups_of d)) e.0 (λ g. IsEntityOf g e.1)) made
    (on_group d g.0.0 g.0.1 (λ g. IsEntityOf g entity.0) (group_found d group g.0 g.1) (entity_of g.0.1 entity.0 (entity_within g.0.1 name entity.0 entity.1)))

lock_good : (d : Draft) (args : List (List ℕ)) (act : Act) → lock_of d args ≡ Ok act → IsSoundAct (map parts_of (groups_of d)) act
unfolding lock_of
lock_good d args act is =
    let words = came_from (three_of args) _ act is in
    let e = came_from (group_entity_in d words.0.0 words.0.1) _ act words.2 in
    let prio = came_from (prio_in words.0.2) _ act e.2 in
    let made : acts.Lock e.0.0 e.0.1 prio.0 ≡ act = cc in
    subst (IsSoundAct (map parts_of (groups_of d))) made (entity_found d words.0.0 words.0.1 e.0 e.1)

unlock_good : (d : Draft) (args : List (List ℕ)) (act : Act) → unlock_of d args ≡ Ok act → IsSoundAct (map parts_of (groups_of d)) act
unfolding unlock_of
unlock_good d args act is =
    let words = came_from (three_of args) _ act is in
    let e = came_from (group_entity_in d words.0.0 words.0.1) _ act words.2 in
    let prio = came_from (prio_in words.0.2) _ act e.2 in
    let made : acts.Unlock e.0.0 e.0.1 prio.0 ≡ act = cc in
    subst (IsSoundAct (map parts_of (groups_of d))) made (entity_found d words.0.0 words.0.1 e.0 e.1)

poll_good : (d : Draft) (args : List (List ℕ)) (act : Act) → poll_of d args ≡ Ok act → IsSoundAct (map parts_of (groups_of d)) act
unfolding poll_of
poll_good d args act is =
    let words = came_from (two_of args) _ act is in
    let e = came_from (group_entity_in d words.0.0 words.0.1) _ act words.2 in
    let made : acts.Poll e.0.0 e.0.1 ≡ act = cc in
    subst (IsSoundAct (map parts_of (groups_of d))) made (entity_found d words.0.0 words.0.1 e.0 e.1)

-- a variable of an entity of the group
variable_fits : (g : GroupDraft) (token : List ℕ) (v : Entity × Var) (o : Option (List ℕ × List ℕ)) → variable_by (entity_named g) token o ≡ Ok v → IsVariableOf v.0 v.1 (group_of (parts_of g))
unfolding undotted_variable_in dotted_variable_in
variable_fits g token v None is =
    let e = came_from (entity_in (entity_named g) token) _ v is in
    absurd (let no = (chosen false (Ok v) v kinds.Value e.2).0 in cc)
variable_fits g token v (Some parts) is =
    let e = came_from (entity_in (entity_named g) parts.0) _ v is in
    let var = came_from (var_in e.0 parts.1) _ v e.2 in
    let made : (e.0, var.0) ≡ v = cc in
    subst (λ (v : Entity × Var). IsVariableOf v.0 v.1 (group_of (parts_of g))) made
    (record { entity_in = entity_of g e.0 (entity_within g parts.0 e.0 e.1); variable = var_known e.0 parts.1 var.0 (was_some (var_named e.0 parts.1) var.0 kinds.Value var.1) })

read_good : (d : Draft) (args : List (List ℕ)) (act : Act) → read_of d args ≡ Ok act → IsSoundAct (map parts_of (groups_of d)) act
unfolding read_of
read_good d args act is =
    let words = came_from (two_of args) _ act is in
    let g = came_from (group_in d words.0.0) _ act words.2 in
    let v = came_from (variable_in (entity_named g.0.1) words.0.1) _ act g.2 in
    let made : acts.Read g.0.0 v.0.0 v.0.1 ≡ act = cc in
    subst (IsSoundAct (map parts_of (groups_of d))) made (on_group d g.0.0 g.0.1 (IsVariableOf v.0.0 v.0.1) (group_found d words.0.0 g.0 g.1) (variable_fits g.0.1 words.0.1 v.0 (cut_at 46 words.0.1) v.1))

readat_good : (d : Draft) (args : List (List ℕ)) (act : Act) → readat_of d args ≡ Ok act → IsSoundAct (map parts_of (groups_of d)) act
unfolding readat_of
readat_good d args act is =
    let words = came_from (three_of args) _ act is in
    let g = came_from (group_in d words.0.0) _ act words.2 in
    let version = came_from (number_in words.0.1) _ act g.2 in
    let v = came_from (variable_in (entity_named g.0.1) words.0.2) _ act version.2 in
    let made : acts.ReadAt g.0.0 version.0 v.0.0 v.0.1 ≡ act = cc in
    subst (IsSoundAct (map parts_of (groups_of d))) made
    (number_bound words.0.1 version.0 version.1, on_group d g.0.0 g.0.1 (IsVariableOf v.0.0 v.0.1) (group_found d words.0.0 g.0 g.1) (variable_fits g.0.1 words.0.2 v.0 (cut_at 46 words.0.2) v.1))

-- the values of a failure are on its entity
record AreValuesOf (e : Entity) (rows : List Row) : Type 0 where
  own : AllByRecursion (IsRowOf e) rows
  apart : are_apart rows ≡ true

values_read : (e : Entity) (tokens : List (List ℕ)) (set rows : List Row) → AreValuesOf e set → values_in e set tokens ≡ Ok rows → AreValuesOf e rows
unfolding values_in new_value_in
values_read e [] set rows had is = subst (AreValuesOf e) (let same : set ≡ rows = cc in same) had
values_read e (token ∷ tokens) set rows had is =
    let row = came_from (new_value_in e set token) _ rows is in
    let read = came_from (assigned_in e token) _ row.0 row.1 in
    let free = chose (is_free_of read.0.entity read.0.var set) read.0 row.0 kinds.Twice read.2 in
    let own : IsRowOf e row.0 = subst (IsRowOf e) free.1 (assigned_range e token read.0 (cut_at 61 token) read.1) in
    let fresh : is_free_of row.0.entity row.0.var set ≡ true = subst (λ (r : Row). is_free_of r.entity r.var set ≡ true) free.1 free.0 in
    values_read e tokens (set ++ row.0 ∷ []) rows (record { own = pushed_all (IsRowOf e) set row.0 had.own own; apart = apart_last set row.0 had.apart fresh }) row.2

value_fits : (g : Group) (e : Entity) → IsEntityOf g e → (row : Row) → IsRowOf e row → RowFits g row
value_fits g e within row s = record { entity = subst (IsEntityOf g) (sym s.on) within; range = s.range }

value_own : (e : Entity) (row : Row) → IsRowOf e row → IsOn e row
value_own e row s = s.on

some_and : {X : Type 0} (o : Option X) (P Q : X → Type 0) → ((x : X) → P x → Q x) → IsSomeAnd o P → IsSomeAnd o Q
some_and None P Q f p = p
some_and (Some x) P Q f p = f x p

fail_good : (d : Draft) (args : List (List ℕ)) (act : Act) → fail_of d args ≡ Ok act → IsSoundAct (map parts_of (groups_of d)) act
unfolding fail_of
fail_good d args act is =
    let words = came_from (three_and_more_of args) _ act is in
    let e = came_from (group_entity_in d words.0.0 words.0.1) _ act words.2 in
    let health = came_from (number_within 0 (most_health e.0.1) words.0.2) _ act e.2 in
    let rows = came_from (values_in e.0.1 [] words.0.3) _ act health.2 in
    let range = both (nat_le 0 health.0) (nat_le health.0 (most_health e.0.1)) (number_range 0 (most_health e.0.1) health.0 words.0.2 health.1) in
    let read = values_read e.0.1 words.0.3 [] rows.0 (record { own = tt; apart = refl }) rows.1 in
    let made : acts.Fail e.0.0 e.0.1 health.0 rows.0 ≡ act = cc in
    subst (IsSoundAct (map parts_of (groups_of d))) made
    (some_and (slice_get (map parts_of (groups_of d)) e.0.0) (λ parts. IsEntityOf (group_of parts) e.0.1) (λ parts. IsChangeOf e.0.1 health.0 rows.0 (group_of parts))
    (λ parts within. record {
      entity_in = within;
      health_range = range.1;
      own = All-from_recursion (IsOn e.0.1) rows.0 (each (IsRowOf e.0.1) (IsOn e.0.1) (value_own e.0.1) rows.0 read.own);
      each = All-from_recursion (RowFits (group_of parts)) rows.0 (each (IsRowOf e.0.1) (RowFits (group_of parts)) (value_fits (group_of parts) e.0.1 within) rows.0 read.own);
      apart = read.apart;
    }) (entity_found d words.0.0 words.0.1 e.0 e.1))

pub command_good : (d : Draft) (word : ActWord) (args : List (List ℕ)) (act : Act) → act_of d word args ≡ Ok act → IsSoundAct (map parts_of (groups_of d)) act
command_good d act_words.Propose args act is = propose_good d args act is
command_good d act_words.Await args act is = await_good d args act is
command_good d act_words.Settle args act is = settle_good d args act is
command_good d act_words.Lock args act is = lock_good d args act is
command_good d act_words.Unlock args act is = unlock_good d args act is
command_good d act_words.Read args act is = read_good d args act is
command_good d act_words.ReadAt args act is = readat_good d args act is
command_good d act_words.Fail args act is = fail_good d args act is
command_good d act_words.Poll args act is = poll_good d args act is

-- wire lines
pub wire_read : (d : Draft) (word : WireWord) (args : List (List ℕ)) (line : ℕ × WireLine) → wire_of d word args ≡ Ok line → IsSoundWire line.1
unfolding drop_of repeat_of hold_of
wire_read d wire_words.Drop args line is =
    let words = came_from (three_of args) _ line is in
    let g = came_from (known_name_in (group_names d) words.0.0) _ line words.2 in
    let kind = came_from (wire_kind_in words.0.1) _ line g.2 in
    let n = came_from (number_from 1 words.0.2) _ line kind.2 in
    let made : (g.0, wires.Drop kind.0 n.0) ≡ line = cc in
    subst (λ (l : ℕ × WireLine). IsSoundWire l.1) made (number_from_is 1 n.0 words.0.2 n.1)
wire_read d wire_words.Repeat args line is =
    let words = came_from (four_of args) _ line is in
    let g = came_from (known_name_in (group_names d) words.0.0) _ line words.2 in
    let kind = came_from (wire_kind_in words.0.1) _ line g.2 in
    let n = came_from (number_from 1 words.0.2) _ line kind.2 in
    let m = came_from (number_from n.0 words.0.3) _ line n.2 in
    let low = number_from_is 1 n.0 words.0.2 n.1 in
    let high = number_from_is n.0 m.0 words.0.3 m.1 in
    let made : (g.0, wires.Repeat kind.0 n.0 m.0) ≡ line = cc in
    subst (λ (l : ℕ × WireLine). IsSoundWire l.1) made (low.0, high.0, high.1)
wire_read d wire_words.Hold args line is =
    let words = came_from (four_of args) _ line is in
    let g = came_from (known_name_in (group_names d) words.0.0) _ line words.2 in
    let kind = came_from (wire_kind_in words.0.1) _ line g.2 in
    let n = came_from (number_from 1 words.0.2) _ line kind.2 in
    let m = came_from (number_above n.0 words.0.3) _ line n.2 in
    let low = number_from_is 1 n.0 words.0.2 n.1 in
    let high = number_above_is n.0 m.0 words.0.3 m.1 in
    let made : (g.0, wires.Hold kind.0 n.0 m.0) ≡ line = cc in
    subst (λ (l : ℕ × WireLine). IsSoundWire l.1) made (low.0, high.0, high.1)
