use Rattle.std.proofs.Common.{◌∙◌, ◌++◌, ℕ, List, length, map, ap, sym, codes}
use Rattle.serde_json.specs.Data.{Data}
use Rattle.serde_json.specs.View.{view}
use Rattle.serde_json.specs.Written.{compact_text}
use Rattle.st_event.specs.declared.journal.Journal.{Journal}
use Rattle.st_text.proofs.PrintLemmas.{ok_by}
use Rattle.st_player.specs.Joined.{joined}
use Rattle.st_player.specs.Json.{list_data}
use Rattle.st_player.specs.Pictures.{groups_data, room_of}
use Rattle.st_player.specs.Shown.{is_shown}
use Rattle.st_player.proofs.GroupTexts.{picture_end, picture_shown, picture_text, three_more}
use Rattle.st_player.proofs.pictures.write_picture.Goals as goal

pub returns-clause-text : goal.returns-clause-text
returns-clause-text c =
    let apps = c.args.apps.now in
    let groups = c.args.topos.now in
    let journals = map (λ (journal : Journal). journal.entries) c.args.journals.now in
    let told = joined (groups_data apps c.args.from (room_of (length groups)) groups journals) in
    let is = c.list-names.ensures ∙ ap list_data c.in_ok-apps_json.ensures in
    let head = three_more c.args.out.now (codes "{\"apps\":") (compact_text (view c.list-names.result)) (codes ",\"groups\":[") c.word.new.self c.write_value.new.out c.word-2.new.self c.in_ok-word.ensures.ok c.in_ok-write_value.ensures.text c.in_ok-word-2.ensures.ok
    ∙ ap (λ (d : Data). c.args.out.now ++ (codes "{\"apps\":" ++ (compact_text d ++ codes ",\"groups\":["))) is in
    ok_by c.word-3.result (λ end.
    three_more c.args.out.now _ told picture_end c.word-2.new.self c.write_groups.new.out _ head c.in_ok-write_groups.ensures.text end
    ∙ ap (λ (s : List ℕ). c.args.out.now ++ s) (picture_text apps c.args.from groups journals)) c.word-3.ensures.ok

pub returns-clause-shown : goal.returns-clause-shown
returns-clause-shown c =
    let is = c.list-names.ensures ∙ ap list_data c.in_ok-apps_json.ensures in
    ok_by c.word-3.result (λ end.
    picture_shown c.args.apps.now c.args.from c.args.topos.now (map (λ (journal : Journal). journal.entries) c.args.journals.now)
    (sym (ap (λ (d : Data). is_shown (compact_text d)) is) ∙ c.in_ok-write_value.ensures.shown) c.in_ok-write_groups.ensures.shown) c.word-3.ensures.ok
