use Rattle.std.proofs.Common.{◌≡◌, drop}
use Rattle.st_journal.specs.EntryWords.{reply_among}
use Rattle.st_journal.proofs.reader.words.reply_among.Given as goal

-- none of the words so far is the token
abbrev pub invariant-loop-reply : goal.invariant-loop-reply
invariant-loop-reply l = reply_among (drop l.reply-index l.replies) l.token ≡ reply_among l.replies l.token
