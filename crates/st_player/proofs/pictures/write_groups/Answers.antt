use Rattle.std.proofs.Common.{◌≡◌, ◌∙◌, ◌++◌, [], ℕ, List, length, get_or, refl, ap, ap₂, sym, subst, append_assoc}
use Rattle.std.specs.Prelude.{◌==◌, not, reverse}
use Rattle.serde_json.specs.Data.{Data}
use Rattle.serde_json.specs.Written.{comma_if, compact_text}
use Rattle.st_net.specs.Groups.{Group}
use Rattle.st_event.specs.declared.journal.Entry.{Entry}
use Rattle.st_event.specs.declared.journal.Journal.{Journal}
use Rattle.st_event.specs.Legal.{IsLegal}
use Rattle.st_player.specs.Pictures.{group_data, room_of}
use Rattle.st_player.specs.Shown.{is_shown}
use Rattle.st_player.proofs.JoinLemmas.{joins_more, joins_none}
use Rattle.st_player.proofs.PlayLemmas.{groups_more, legal_each}
use Rattle.st_player.proofs.pictures.write_groups.Goals as goal

pub bounds-journals-i : goal.bounds-journals-i
bounds-journals-i c =
    let each = legal_each c.args.topos.now c.args.journals.now c.loop-i.i c.index-topos-i.result (record { group = 0; entries = [] }) c.requires.legal c.loop-i-test.true in
    each.0

pub write_group-requires : goal.write_group-requires
write_group-requires c =
    let groups = c.args.topos.now in
    let journals = c.args.journals.now in
    let i = c.loop-i.i in
    let g = c.index-topos-i.result in
    let each = legal_each groups journals i g c.index-journals-i.result c.requires.legal c.loop-i-test.true in
    let here : IsLegal (get_or groups i g) (reverse c.as_slice-entries.result.now) = subst (λ (es : List Entry). IsLegal (get_or groups i g) (reverse es)) (sym c.as_slice-entries.ensures) each.1 in
    record {
      legal = subst (λ (group : Group). IsLegal group (reverse c.as_slice-entries.result.now)) (sym c.index-topos-i.is) here;
      apps = c.requires.apps;
    }

pub loop-i-init : goal.loop-i-init
loop-i-init c = joins_none _ _ c.args.out.now c.args.out.now refl refl

pub loop-i-preserved : goal.loop-i-preserved
loop-i-preserved c =
    let groups = c.args.topos.now in
    let journals = c.args.journals.now in
    let apps = c.args.apps.now in
    let from = c.args.from in
    let room = room_of (length groups) in
    let i = c.loop-i.i in
    let g = c.index-topos-i.result in
    let j = c.index-journals-i.result in
    let each = legal_each groups journals i g j c.requires.legal c.loop-i-test.true in
    let entries : c.as_slice-entries.result.now ≡ j.entries = c.as_slice-entries.ensures ∙ ap (λ (journal : Journal). journal.entries) (sym c.index-journals-i.is) in
    let is = ap₂ (λ (n : ℕ) (es : List Entry). group_data apps from n g es) c.share_of-room.ensures entries in
    joins_more _ _ _ (group_data apps from room g j.entries) i _ c.args.out.now c.loop-i.out _
    (groups_more (group_data apps from room g j.entries) apps from room groups journals i g j c.loop-i-test.true each.0 c.index-topos-i.is c.index-journals-i.is refl)
    refl
    (c.in_ok-write_group.ensures.text
    ∙ (ap (λ (s : List ℕ). s ++ compact_text (group_data apps from c.share_of-room.result g c.as_slice-entries.result.now)) c.in_ok-begin_value.ensures
    ∙ (append_assoc c.loop-i.out _ _
    ∙ ap (λ (d : Data). c.loop-i.out ++ (comma_if (not (i == 0)) ++ compact_text d)) is)))
    (sym (ap (λ (d : Data). is_shown (compact_text d)) is) ∙ c.in_ok-write_group.ensures.shown)
    c.loop-i.invariant
