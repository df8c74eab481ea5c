use Rattle.std.proofs.Common.{◌∙◌, ap, drop, codes}
use Rattle.serde_json.specs.View.{members_view}
use Rattle.serde_json.specs.Data.{put, string}
use Rattle.st_text.proofs.PrintLemmas.{ok_by}
use Rattle.st_entry.specs.Entries.{event_words, reply_words}
use Rattle.st_entry.specs.Keywords.{reply_mark}
use Rattle.std.specs.Prelude.{◌++◌, ◌∷◌}
use Rattle.st_entry.specs.Plain.{is_plain}
use Rattle.st_entry.proofs.Lines.{unspaced}
use Rattle.st_entry.proofs.Plain.{words_plain, rest_plain}
use Rattle.st_player.proofs.entries.put_line.Goals as goal

pub put_text-requires-clause-text : goal.put_text-requires-clause-text
put_text-requires-clause-text c =
    ap is_plain (c.behind_first.ensures ∙ ap (drop 1) c.bytes.ensures)
    ∙ rest_plain c.in_ok-words.words (ap is_plain c.in_ok-words.ensures ∙ words_plain c.args.topo.now c.args.apps.now c.args.entry.now.event c.args.entry.now.reply c.is_sound.ensures c.requires)

pub returns : goal.returns
returns c n =
    let line = c.behind_first.ensures ∙ (ap (drop 1) (c.bytes.ensures ∙ c.in_ok-words.ensures) ∙ unspaced (event_words c.args.topo.now c.args.apps.now c.args.entry.now.event ++ reply_mark ∷ reply_words c.args.topo.now c.args.apps.now c.args.entry.now.reply)) in
    ok_by c.put_text.result (λ end. end ∙ ap (λ text. put (codes "line") (string text) (members_view c.args.object.now)) line) c.put_text.ensures
