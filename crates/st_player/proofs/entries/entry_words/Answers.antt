use Rattle.std.proofs.Common.{◌∙◌, ap}
use Rattle.st_player.specs.Entries.{entry_words, with_words}
use Rattle.st_player.proofs.entries.entry_words.Goals as goal

pub returns : goal.returns
unfolding entry_words
returns c = c.in_ok-put_words.ensures ∙ ap (with_words c.args.playback.now.group c.args.apps.now c.args.playback.now.past c.args.entry.now) c.new-object.ensures
