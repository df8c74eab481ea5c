-- What the line of an entry says, or the first kind that applies to it: first how many tokens there are, then the entry's number, then the words of
-- the event and the reply, then their tokens from left to right, and last that a proposal has few rows.
use Rattle.std.specs.Prelude.{ℕ, List, [], ◌∷◌, ◌&&◌, if◌then◌else◌, Option, Some, None, option_map, Result, Ok, Err, ok_or, bytes_eq}
use Rattle.st_net.specs.Groups.{Group}
use Rattle.st_event.specs.declared.journal.Entry.{Entry}
use Rattle.st_token.specs.declared.fault.FaultKind.{FaultKind}
use Rattle.st_token.specs.declared.fault.FaultKind.TheVariants as kinds
use Rattle.st_token.specs.Steps.{◌>>=◌}
use Rattle.st_token.specs.Counts.{one_and_more_of}
use Rattle.st_token.specs.Spelling.{number_within}
use Rattle.st_entry.specs.declared.keyword.EventWord.{EventWord}
use Rattle.st_entry.specs.declared.keyword.ReplyWord.{ReplyWord}
use Rattle.st_entry.specs.Keywords.{reply_mark}
use Rattle.st_journal.specs.EntryWords.{event_named, replies_of, reply_among, has_event_count, has_reply_count}
use Rattle.st_journal.specs.EventReading.{event_of, has_few_rows}
use Rattle.st_journal.specs.ReplyReading.{reply_of}

-- the tokens before the first `:`, and those behind it
abbrev pub cut_at_colon : List (List ℕ) → Option (List (List ℕ) × List (List ℕ))
cut_at_colon [] = None
cut_at_colon (token ∷ tokens) = if bytes_eq token reply_mark then Some ([], tokens) else option_map (λ p. (token ∷ p.0, p.1)) (cut_at_colon tokens)

-- the tokens of the event and those of the reply, as many as their words take
unfoldable pub parts_of : List (List ℕ) → Result (List (List ℕ) × List (List ℕ)) FaultKind
parts_of tokens = do
  parts ← ok_or (cut_at_colon tokens) kinds.Count
  if has_event_count parts.0 && has_reply_count parts.1 then Ok parts else Err kinds.Count

-- the event's word, and what stands behind it
unfoldable pub event_part_of : List (List ℕ) → Result (EventWord × List (List ℕ)) FaultKind
event_part_of part = do
  words ← one_and_more_of part
  word ← ok_or (event_named words.0) kinds.Value
  Ok (word, words.1)

-- the word of a reply that the event takes, and what stands behind it
unfoldable pub reply_part_of : EventWord → List (List ℕ) → Result (ReplyWord × List (List ℕ)) FaultKind
reply_part_of event part = do
  words ← one_and_more_of part
  word ← ok_or (reply_among (replies_of event) words.0) kinds.Value
  Ok (word, words.1)

-- entry n, by its number's token and the tokens behind it
unfoldable pub entry_of : Group → List (List ℕ) → ℕ → List ℕ → List (List ℕ) → Result Entry FaultKind
entry_of g apps n number tokens = do
  parts ← parts_of tokens
  next ← number_within n n number
  asked ← event_part_of parts.0
  given ← reply_part_of asked.0 parts.1
  event ← event_of g apps asked.0 asked.1
  reply ← reply_of g apps next event given.0 given.1
  if has_few_rows event then Ok (record { event = event; reply = reply }) else Err kinds.Limit
