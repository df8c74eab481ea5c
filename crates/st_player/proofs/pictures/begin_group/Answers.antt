use Rattle.std.proofs.Common.{◌∙◌, ◌++◌, ℕ, List, ap, refl, sym, codes}
use Rattle.serde_json.specs.Data.{Data}
use Rattle.serde_json.specs.View.{view}
use Rattle.serde_json.specs.Written.{compact_text}
use Rattle.st_text.proofs.PrintLemmas.{ok_by}
use Rattle.st_player.specs.Json.{list_data}
use Rattle.st_player.specs.PictureTexts.{group_head}
use Rattle.st_player.specs.Shown.{is_shown}
use Rattle.st_player.proofs.GroupTexts.{three_more}
use Rattle.st_player.proofs.SafeLemmas.{shown_join}
use Rattle.st_player.proofs.pictures.begin_group.Goals as goal

pub returns-clause-text : goal.returns-clause-text
unfolding group_head
returns-clause-text c =
    let front : List ℕ = codes "{\"devices\":" in
    let mid : List ℕ = codes ",\"entries\":[" in
    let is = c.list-devices.ensures ∙ ap list_data c.in_ok-devices_json.ensures in
    ok_by c.word-2.result (λ end.
    three_more c.args.out.now front (compact_text (view c.list-devices.result)) mid c.word.new.self c.write_value.new.out _ c.in_ok-word.ensures.ok c.in_ok-write_value.ensures.text end
    ∙ ap (λ (d : Data). c.args.out.now ++ (front ++ (compact_text d ++ mid))) is) c.word-2.ensures.ok

pub returns-clause-shown : goal.returns-clause-shown
unfolding group_head
returns-clause-shown c =
    let mid : List ℕ = codes ",\"entries\":[" in
    let is = c.list-devices.ensures ∙ ap list_data c.in_ok-devices_json.ensures in
    ok_by c.word-2.result (λ end.
    sym (ap (λ (d : Data). is_shown (compact_text d ++ mid)) is)
    ∙ shown_join (compact_text (view c.list-devices.result)) mid c.in_ok-write_value.ensures.shown refl) c.word-2.ensures.ok
