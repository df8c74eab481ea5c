use Rattle.std.proofs.Common.{◌≡◌, drop}
use Rattle.st_journal.specs.EntryWords.{all_events, event_among}
use Rattle.st_journal.proofs.reader.words.event_named.Given as goal

-- none of the words so far is the token
abbrev pub invariant-loop-event : goal.invariant-loop-event
invariant-loop-event l = event_among (drop l.event-index all_events) l.token ≡ event_among all_events l.token
