-- What a line that is good says of what it declares.
use Rattle.std.proofs.Common.{◌≡◌, ℕ, ◌<◌, List, [], ◌∷◌, ◌++◌, length, ap, sym, ◌∙◌, subst, refl}
use Rattle.std.specs.Prelude.{true, false, cond, nat_le, nat_lt, Option, Some, None, option_map, bytes_eq, Ok, Err}
use Rattle.st_net.proofs.Tests.{both}
use Rattle.st_net.specs.declared.parts.DevicePart.{DevicePart}
use Rattle.st_net.specs.declared.parts.LinkPart.{LinkPart}
use Rattle.st_net.specs.declared.entity.Row.{Row}
use Rattle.st_net.specs.declared.entity.Var.{Var}
use Rattle.st_net.specs.declared.entity.Entity.{Entity}
use Rattle.st_net.specs.declared.entity.Entity.TheVariants.{Device, Link}
use Rattle.st_net.specs.Groups.{entity_or}
use Rattle.std.proofs.lemmas.List.{length-map}
use Rattle.st_net.specs.declared.topo.TheConstants.{MAX_LINKS, MAX_PROMISES, MAX_CAPACITY, MAX_PERCENT}
use Rattle.st_net.specs.Names.{place_of, is_among}
use Rattle.st_net.specs.Ranges.{is_in_range, is_free_of, most_health}
use Rattle.st_net.specs.Faults.{device_names, link_names, is_bad_pair}
use Rattle.st_token.specs.declared.fault.FaultKind.TheVariants as kinds
use Rattle.st_token.specs.Places.{cut_at}
use Rattle.st_token.specs.Spelling.{name_in, new_name_in, number_within, entity_in}
use Rattle.st_token.specs.Variables.{dotted_in, undotted_in, assignment_by, assignment_in, new_assignment_in}
use Rattle.st_token.specs.Counts.{one_of, two_of, three_of, four_of}
use Rattle.st_token.proofs.ReadTokens.{came_from, chose, refused, chosen, was_some, new_name, number_range, place_below, assigned_range}
use Rattle.st_grammar.specs.declared.keyword.PartWord.{PartWord}
use Rattle.st_grammar.specs.declared.keyword.PartWord.TheVariants as part_words
use Rattle.st_grammar.specs.Draft.{GroupDraft, is_entity_name, with_device, with_link, with_promise, with_open, opened, with_health, IsEntityIn, MaySet}
use Rattle.st_grammar.specs.Spelling.{device_in, is_tor_word, cross_end_in, end_by, end_in, entity_named, untold_in}
use Rattle.st_grammar.specs.Sections.{has_device_room, new_device, device_of, device_line, new_link, link_of, link_line, new_promise, promise_of, promise_line, open_of, open_line, health_of, health_line, part_line}
use Rattle.st_grammar.proofs.SoundGroups.{IsSoundDraftGroup}
use Rattle.st_grammar.proofs.SoundSteps.{device_sound, link_sound, promise_sound, opened_sound, health_sound}

device_known : (g : GroupDraft) (token name : List ℕ) → device_in g token ≡ Ok name → is_among name (device_names g.devices) ≡ true
unfolding device_in
device_known g token name e =
    let first = came_from (name_in token) _ name e in
    let known = chose (is_among first.0 (device_names g.devices)) first.0 name kinds.Unknown first.2 in
    subst (λ (n : List ℕ). is_among n (device_names g.devices) ≡ true) known.1 known.0

end_known : (g : GroupDraft) (token name : List ℕ) (o : Option (List ℕ × List ℕ)) → end_by g token o ≡ Ok name → is_among name (device_names g.devices) ≡ true
unfolding cross_end_in
end_known g token name None e = device_known g token name e
end_known g token name (Some parts) e =
    let own = came_from (name_in parts.0) _ name e in
    let word = came_from (name_in parts.1) _ name own.2 in
    let here = chosen (bytes_eq own.0 g.name) (device_in g word.0) name kinds.Cross word.2 in
    device_known g word.0 name here.1

-- a line of a group's section makes a sound group of a sound one, and leaves its name
pub record MakesSound (g h : GroupDraft) : Type 0 where
  pub sound : IsSoundDraftGroup h
  pub name : h.name ≡ g.name

pub device_good : (g h : GroupDraft) (args : List (List ℕ)) → device_line g args ≡ Ok h → IsSoundDraftGroup g → MakesSound g h
unfolding device_line device_of
device_good g h args e s =
    let line = came_from (device_of g args) _ h e in
    let words = came_from (two_of args) _ line.0 line.1 in
    let named = came_from (new_name_in (is_entity_name g words.0.0) words.0.0) _ line.0 words.2 in
    let kind = came_from (is_tor_word words.0.1) _ line.0 named.2 in
    let room = chose (has_device_room g kind.0) (new_device named.0 kind.0) line.0 kinds.Limit kind.2 in
    let name = new_name (is_entity_name g words.0.0) words.0.0 named.0 named.1 in
    let made : with_device g (new_device named.0 kind.0) ≡ h = cc in
    subst (MakesSound g) made (record { sound = device_sound g (new_device named.0 kind.0) s name.spelled (ap (is_entity_name g) name.same ∙ name.fresh) room.0 (record { vals = refl; health = refl }); name = refl })

pub link_good : (g h : GroupDraft) (args : List (List ℕ)) → link_line g args ≡ Ok h → IsSoundDraftGroup g → MakesSound g h
unfolding link_line link_of
link_good g h args e s =
    let line = came_from (link_of g args) _ h e in
    let words = came_from (four_of args) _ line.0 line.1 in
    let named = came_from (new_name_in (is_entity_name g words.0.0) words.0.0) _ line.0 words.2 in
    let a = came_from (end_in g words.0.1) _ line.0 named.2 in
    let b = came_from (end_in g words.0.2) _ line.0 a.2 in
    let capacity = came_from (number_within 1 MAX_CAPACITY words.0.3) _ line.0 b.2 in
    let apart = refused (bytes_eq a.0 b.0) (cond (nat_lt (length g.links) MAX_LINKS) (Ok (new_link named.0 a.0 b.0 capacity.0)) (Err kinds.Limit)) line.0 kinds.Loop capacity.2 in
    let room = chose (nat_lt (length g.links) MAX_LINKS) (new_link named.0 a.0 b.0 capacity.0) line.0 kinds.Limit apart.1 in
    let name = new_name (is_entity_name g words.0.0) words.0.0 named.0 named.1 in
    let made : with_link g (new_link named.0 a.0 b.0 capacity.0) ≡ h = cc in
    subst (MakesSound g) made (record {
      sound = link_sound g (new_link named.0 a.0 b.0 capacity.0) s name.spelled (ap (is_entity_name g) name.same ∙ name.fresh) room.0 (record {
        a_own = refl;
        b_own = refl;
        a_known = end_known g words.0.1 a.0 (cut_at 47 words.0.1) a.1;
        b_known = end_known g words.0.2 b.0 (cut_at 47 words.0.2) b.1;
        apart = apart.0;
        capacity = number_range 1 MAX_CAPACITY capacity.0 words.0.3 capacity.1;
        vals = refl;
        health = refl;
      });
      name = refl;
    })

pub promise_good : (g h : GroupDraft) (args : List (List ℕ)) → promise_line g args ≡ Ok h → IsSoundDraftGroup g → MakesSound g h
unfolding promise_line promise_of
promise_good g h args e s =
    let line = came_from (promise_of g args) _ h e in
    let words = came_from (three_of args) _ line.0 line.1 in
    let a = came_from (device_in g words.0.0) _ line.0 words.2 in
    let b = came_from (device_in g words.0.1) _ line.0 a.2 in
    let percent = came_from (number_within 0 MAX_PERCENT words.0.2) _ line.0 b.2 in
    let good = refused (is_bad_pair g.devices g.promises (new_promise a.0 b.0 percent.0)) (cond (nat_lt (length g.promises) MAX_PROMISES) (Ok (new_promise a.0 b.0 percent.0)) (Err kinds.Limit)) line.0 kinds.Pair percent.2 in
    let room = chose (nat_lt (length g.promises) MAX_PROMISES) (new_promise a.0 b.0 percent.0) line.0 kinds.Limit good.1 in
    let share = both (nat_le 0 percent.0) (nat_le percent.0 MAX_PERCENT) (number_range 0 MAX_PERCENT percent.0 words.0.2 percent.1) in
    let made : with_promise g (new_promise a.0 b.0 percent.0) ≡ h = cc in
    subst (MakesSound g) made (record { sound = promise_sound g (new_promise a.0 b.0 percent.0) s good.0 share.1 room.0; name = refl })

-- the entity of a name is one of the group
entity_by : (g : GroupDraft) (e : Entity) (o p : Option ℕ) → ((k : ℕ) → o ≡ Some k → k < length g.devices) → ((k : ℕ) → p ≡ Some k → k < length g.links) → entity_or (option_map Device o) (option_map Link p) ≡ Some e → IsEntityIn g e
entity_by g e (Some k) p low high is = subst (IsEntityIn g) (let same : Device k ≡ e = cc in same) (low k refl)
entity_by g e None (Some k) low high is = subst (IsEntityIn g) (let same : Link k ≡ e = cc in same) (high k refl)
entity_by g e None None low high is = absurd (cc)

pub entity_within : (g : GroupDraft) (token : List ℕ) (e : Entity) → entity_in (entity_named g) token ≡ Ok e → IsEntityIn g e
unfolding entity_in
entity_within g token e is =
    let first = came_from (name_in token) _ e is in
    let found = was_some (entity_named g first.0) e kinds.Unknown first.2 in
    let devices : length (device_names g.devices) ≡ length g.devices = length-map g.devices (λ (d : DevicePart). d.name) in
    let links : length (link_names g.links) ≡ length g.links = length-map g.links (λ (l : LinkPart). l.name) in
    entity_by g e (place_of first.0 (device_names g.devices)) (place_of first.0 (link_names g.links))
    (λ k at. subst (λ (n : ℕ). k < n) devices (place_below first.0 (device_names g.devices) k at))
    (λ k at. subst (λ (n : ℕ). k < n) links (place_below first.0 (link_names g.links) k at)) found

pub assignment_fits : (g : GroupDraft) (token : List ℕ) (row : Row) (o : Option (List ℕ × List ℕ)) → assignment_by (entity_named g) token o ≡ Ok row → IsEntityIn g row.entity × (is_in_range row.entity row.var row.value ≡ true)
unfolding undotted_in dotted_in
assignment_fits g token row None is =
    let e = came_from (entity_in (entity_named g) token) _ row is in
    absurd (let no = (chosen false (Ok row) row kinds.Value e.2).0 in cc)
assignment_fits g token row (Some parts) is =
    let e = came_from (entity_in (entity_named g) parts.0) _ row is in
    let range = assigned_range e.0 parts.1 row (cut_at 61 parts.1) e.2 in
    (subst (IsEntityIn g) (sym range.on) (entity_within g parts.0 e.0 e.1), range.range)

pub new_row_fits : (g : GroupDraft) (set : List Row) (token : List ℕ) (row : Row) → new_assignment_in (entity_named g) set token ≡ Ok row → MaySet g set row
unfolding new_assignment_in
new_row_fits g set token row is =
    let read = came_from (assignment_in (entity_named g) token) _ row is in
    let free = chose (is_free_of read.0.entity read.0.var set) read.0 row kinds.Twice read.2 in
    let fits = assignment_fits g token read.0 (cut_at 46 token) read.1 in
    subst (MaySet g set) free.1 (record { entity = fits.0; range = fits.1; fresh = free.0 })

name_opened : (g : GroupDraft) (e : Entity) (v : Var) (x : ℕ) → (opened g e v x).name ≡ g.name
name_opened g (Device i) v x = refl
name_opened g (Link i) v x = refl

pub open_good : (g h : GroupDraft) (args : List (List ℕ)) → open_line g args ≡ Ok h → IsSoundDraftGroup g → MakesSound g h
unfolding open_line open_of
open_good g h args is s =
    let line = came_from (open_of g args) _ h is in
    let word = came_from (one_of args) _ line.0 line.1 in
    let row = new_row_fits g g.opens word.0 line.0 word.2 in
    let made : with_open g line.0 ≡ h = cc in
    let set : IsSoundDraftGroup (record g { opens = g.opens ++ line.0 ∷ [] }) = record { spelled = s.spelled; spelled_devices = s.spelled_devices; spelled_links = s.spelled_links; named = s.named; few_devices = s.few_devices; few_tors = s.few_tors; few_links = s.few_links; few_promises = s.few_promises; devices = s.devices; links = s.links; promises = s.promises; pairs = s.pairs; few_wires = s.few_wires; wires = s.wires } in
    subst (MakesSound g) made (record {
      sound = opened_sound (record g { opens = g.opens ++ line.0 ∷ [] }) line.0.entity line.0.var line.0.value row.range set;
      name = name_opened (record g { opens = g.opens ++ line.0 ∷ [] }) line.0.entity line.0.var line.0.value;
    })

name_told : (g : GroupDraft) (e : Entity) (h : ℕ) → (with_health g e h).name ≡ g.name
name_told g (Device i) h = refl
name_told g (Link i) h = refl

pub health_good : (g h : GroupDraft) (args : List (List ℕ)) → health_line g args ≡ Ok h → IsSoundDraftGroup g → MakesSound g h
unfolding health_line health_of
health_good g h args is s =
    let line = came_from (health_of g args) _ h is in
    let words = came_from (two_of args) _ line.0 line.1 in
    let e = came_from (untold_in g words.0.0) _ line.0 words.2 in
    let health = came_from (number_within 0 (most_health e.0) words.0.1) _ line.0 e.2 in
    let range = both (nat_le 0 health.0) (nat_le health.0 (most_health e.0)) (number_range 0 (most_health e.0) health.0 words.0.1 health.1) in
    let told : (e.0, health.0) ≡ line.0 = cc in
    let made : with_health g line.0.0 line.0.1 ≡ h = cc in
    let within : nat_le line.0.1 (most_health line.0.0) ≡ true = subst (λ (t : Entity × ℕ). nat_le t.1 (most_health t.0) ≡ true) told range.1 in
    subst (MakesSound g) made (record { sound = health_sound g line.0.0 line.0.1 within s; name = name_told g line.0.0 line.0.1 })

pub part_good : (word : PartWord) (args : List (List ℕ)) (g h : GroupDraft) → part_line g word args ≡ Ok h → IsSoundDraftGroup g → MakesSound g h
part_good part_words.Device args g h = device_good g h args
part_good part_words.Link args g h = link_good g h args
part_good part_words.Promise args g h = promise_good g h args
part_good part_words.Open args g h = open_good g h args
part_good part_words.Health args g h = health_good g h args
