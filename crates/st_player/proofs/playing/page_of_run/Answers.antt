use Rattle.std.proofs.Common.{◌∙◌, ℕ, List, ap, ap₂, map, refl}
use Rattle.serde_json.specs.Written.{compact_text}
use Rattle.st_net.specs.Faults.{group_of}
use Rattle.st_net.specs.Groups.{Group, are_names}
use Rattle.st_event.specs.declared.journal.Journal.{Journal}
use Rattle.st_replay.proofs.Names.{names_spelled}
use Rattle.st_player.specs.Pictures.{picture}
use Rattle.st_player.specs.Playing.{page_with}
use Rattle.st_player.proofs.ReplayLemmas.{three_words}
use Rattle.st_player.proofs.playing.page_of_run.Goals as goal

pub write_picture-requires-clause-apps : goal.write_picture-requires-clause-apps
write_picture-requires-clause-apps c = ap (λ (names : List (List ℕ)). are_names names) (c.as_slice-3.ensures.value ∙ c.in_ok-apps.ensures) ∙ names_spelled c.args.doc.now c.requires.sound

pub returns : goal.returns
unfolding page_with
returns c =
    let journals = map (λ (journal : Journal). journal.entries) c.args.journals.now in
    let is = ap₂ (λ (names : List (List ℕ)) (groups : List Group). compact_text (picture names c.args.from groups journals)) (c.as_slice-3.ensures.value ∙ c.in_ok-apps.ensures) (c.as_slice-2.ensures.value ∙ (c.in_ok-topos.ensures ∙ ap (map group_of) c.as_slice.ensures)) in
    three_words c.new-out.result c.put_head.new.out c.write_picture.new.out c.put_script.new.out _ _ _ _ _ _
    c.new-out.ensures c.in_ok-put_head.ensures.ok c.in_ok-write_picture.ensures.text c.in_ok-put_script.ensures.ok
    refl is refl
