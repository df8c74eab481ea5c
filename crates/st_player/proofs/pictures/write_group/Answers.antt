use Rattle.std.proofs.Common.{◌≡◌, ◌∙◌, ◌++◌, ◌∷◌, [], ℕ, List, take, drop, true, ap, ap₂, sym, subst}
use Rattle.std.specs.Prelude.{reverse}
use Rattle.std.proofs.lemmas.List.{take_min, drop_min}
use Rattle.serde_json.specs.Data.{Data, Members, no_members}
use Rattle.serde_json.specs.View.{members_view}
use Rattle.serde_json.specs.Written.{members_text}
use Rattle.st_event.specs.declared.journal.Entry.{Entry}
use Rattle.st_event.specs.History.{History}
use Rattle.st_event.specs.Legal.{IsLegal}
use Rattle.st_text.proofs.PrintLemmas.{ok_by}
use Rattle.st_player.specs.Joined.{HasMembers, joined}
use Rattle.st_player.specs.PictureTexts.{group_head, with_other_parts}
use Rattle.st_player.specs.Shown.{is_shown}
use Rattle.st_player.proofs.GroupTexts.{four_more, group_rest, group_shown, group_text, rest_is, rest_members, told_is}
use Rattle.st_player.proofs.PlayLemmas.{legal_front, legal_to}
use Rattle.st_player.proofs.pictures.write_group.Goals as goal

pub played-requires-clause-legal : goal.played-requires-clause-legal
played-requires-clause-legal c =
    let g = c.args.topo.now in
    let front = legal_front g c.args.entries.now c.min-first.result c.requires.legal in
    subst (λ (h : History). IsLegal h.group (reverse c.split_at.result.0.now)) (sym c.in_ok-opened.ensures.playback) (subst (λ (es : List Entry). IsLegal g (reverse es)) (sym c.split_at.ensures.front) front)

pub write_entries-requires-clause-legal : goal.write_entries-requires-clause-legal
write_entries-requires-clause-legal c =
    let g = c.args.topo.now in
    let whole = legal_to g c.args.entries.now c.min-first.result c.requires.legal in
    let back = subst (λ (es : List Entry). IsLegal g (reverse es ++ reverse (take c.min-first.result c.args.entries.now))) (sym c.split_at.ensures.back) whole in
    let both = subst (λ (es : List Entry). IsLegal g (reverse c.split_at.result.1.now ++ reverse es)) (sym c.split_at.ensures.front) back in
    let group : c.in_ok-begun.begun.playback ≡ record { group = g; past = reverse c.split_at.result.0.now } =
    c.in_ok-begun.ensures.playback ∙ ap (λ (h : History). record { group = h.group; past = reverse c.split_at.result.0.now }) c.in_ok-opened.ensures.playback in
    subst (λ (h : History). IsLegal h.group (reverse c.split_at.result.1.now ++ h.past)) (sym group) both

pub write_members-requires : goal.write_members-requires
write_members-requires c =
    let g = c.args.topo.now in
    let from = c.args.from in
    let entries = c.args.entries.now in
    let group : c.in_ok-begun.begun.playback ≡ record { group = g; past = reverse c.split_at.result.0.now } =
    c.in_ok-begun.ensures.playback ∙ ap (λ (h : History). record { group = h.group; past = reverse c.split_at.result.0.now }) c.in_ok-opened.ensures.playback in
    let front : c.split_at.result.0.now ≡ take from entries = c.split_at.ensures.front ∙ (ap (λ (n : ℕ). take n entries) c.min-first.ensures ∙ take_min from entries) in
    let parts : members_view c.opened_with_parts.new.object ≡ with_other_parts g no_members = c.in_ok-opened.ensures.parts ∙ ap (with_other_parts g) c.new-object.ensures in
    let rest : members_view c.put_beginning.new.object ≡ group_rest g from entries = rest_is g from entries c.in_ok-begun.begun.playback c.split_at.result.0.now c.min-first.result _ _ group front c.min-first.ensures parts c.in_ok-put_beginning.ensures in
    subst HasMembers (sym rest) (rest_members g from entries)

pub returns-clause-text : goal.returns-clause-text
returns-clause-text c =
    let g = c.args.topo.now in
    let apps = c.args.apps.now in
    let from = c.args.from in
    let room = c.args.room in
    let entries = c.args.entries.now in
    let h = c.in_ok-begun.begun.playback in
    let group : h ≡ record { group = g; past = reverse c.split_at.result.0.now } =
    c.in_ok-begun.ensures.playback ∙ ap (λ (k : History). record { group = k.group; past = reverse c.split_at.result.0.now }) c.in_ok-opened.ensures.playback in
    let front : c.split_at.result.0.now ≡ take from entries = c.split_at.ensures.front ∙ (ap (λ (n : ℕ). take n entries) c.min-first.ensures ∙ take_min from entries) in
    let back : c.split_at.result.1.now ≡ drop from entries = c.split_at.ensures.back ∙ (ap (λ (n : ℕ). drop n entries) c.min-first.ensures ∙ drop_min from entries) in
    let parts : members_view c.opened_with_parts.new.object ≡ with_other_parts g no_members = c.in_ok-opened.ensures.parts ∙ ap (with_other_parts g) c.new-object.ensures in
    let rest : members_view c.put_beginning.new.object ≡ group_rest g from entries = rest_is g from entries h c.split_at.result.0.now c.min-first.result _ _ group front c.min-first.ensures parts c.in_ok-put_beginning.ensures in
    let told = told_is g apps from room entries h c.split_at.result.0.now c.split_at.result.1.now group front back in
    ok_by c.write_members.result (λ end.
    four_more c.args.out.now (group_head g) _ (93 ∷ []) _ c.begin_group.new.out c.write_entries.new.out c.word.new.self _ c.in_ok-begin_group.ensures.text c.in_ok-write_entries.ensures.text c.in_ok-word.ensures.ok end
    ∙ (ap₂ (λ (ds : List Data) (ms : Members). c.args.out.now ++ (group_head g ++ (joined ds ++ (93 ∷ members_text true ms)))) told rest
    ∙ ap (λ (s : List ℕ). c.args.out.now ++ s) (group_text apps from room g entries))) c.write_members.ensures.text

pub returns-clause-shown : goal.returns-clause-shown
returns-clause-shown c =
    let g = c.args.topo.now in
    let apps = c.args.apps.now in
    let from = c.args.from in
    let room = c.args.room in
    let entries = c.args.entries.now in
    let h = c.in_ok-begun.begun.playback in
    let group : h ≡ record { group = g; past = reverse c.split_at.result.0.now } =
    c.in_ok-begun.ensures.playback ∙ ap (λ (k : History). record { group = k.group; past = reverse c.split_at.result.0.now }) c.in_ok-opened.ensures.playback in
    let front : c.split_at.result.0.now ≡ take from entries = c.split_at.ensures.front ∙ (ap (λ (n : ℕ). take n entries) c.min-first.ensures ∙ take_min from entries) in
    let back : c.split_at.result.1.now ≡ drop from entries = c.split_at.ensures.back ∙ (ap (λ (n : ℕ). drop n entries) c.min-first.ensures ∙ drop_min from entries) in
    let parts : members_view c.opened_with_parts.new.object ≡ with_other_parts g no_members = c.in_ok-opened.ensures.parts ∙ ap (with_other_parts g) c.new-object.ensures in
    let rest : members_view c.put_beginning.new.object ≡ group_rest g from entries = rest_is g from entries h c.split_at.result.0.now c.min-first.result _ _ group front c.min-first.ensures parts c.in_ok-put_beginning.ensures in
    let told = told_is g apps from room entries h c.split_at.result.0.now c.split_at.result.1.now group front back in
    ok_by c.write_members.result (λ end.
    group_shown apps from room g entries c.in_ok-begin_group.ensures.shown
    (sym (ap (λ (ds : List Data). is_shown (joined ds)) told) ∙ c.in_ok-write_entries.ensures.shown)
    (sym (ap (λ (ms : Members). is_shown (members_text true ms)) rest) ∙ end)) c.write_members.ensures.shown
