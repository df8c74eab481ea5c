use Rattle.std.proofs.Common.{ap, ◌∙◌}
use Rattle.st_journal.specs.EntryWords.{reply_among, reply_named}
use Rattle.st_journal.proofs.reader.words.reply_named.Goals as goal

pub returns : goal.returns
unfolding reply_named
returns c = c.reply_among.ensures ∙ ap (λ replies. reply_among replies c.args.token.now) c.as_slice.ensures
