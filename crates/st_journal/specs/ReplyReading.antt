-- What a reply says, by the tokens behind its word, or the first kind that applies to these. Each `do` line is one test, and they stand in the
-- order of the tokens; that a promise was declared comes behind all of them.
use Rattle.std.specs.Prelude.{ℕ, zero, suc, ◌-◌, List, [], ◌∷◌, ◌++◌, Bool, true, ◌==◌, ◌&&◌, ◌||◌, length, slice_index, if◌then◌else◌, nat_lt, Option, Some, None, option_map, Result, Ok, Err, ok_or, bytes_eq}
use Rattle.st_net.specs.declared.entity.AppId.{AppId}
use Rattle.st_net.specs.declared.entity.Entity.{Entity}
use Rattle.st_net.specs.declared.entity.Entity.TheVariants.{Device, Link}
use Rattle.st_net.specs.declared.entity.Row.{Row}
use Rattle.st_net.specs.declared.entity.Var.{Var}
use Rattle.st_net.specs.declared.promise.Promise.{Promise}
use Rattle.st_net.specs.declared.promise.BrokenKind.{BrokenKind}
use Rattle.st_net.specs.declared.promise.BrokenKind.TheVariants.{CutOff, Short}
use Rattle.st_net.specs.Entities.{is_same_entity, place_of}
use Rattle.st_net.specs.declared.promise.BrokenOf.TheVariants.{Promise as of_promise}
use Rattle.st_net.specs.Groups.{Group, find_in}
use Rattle.st_event.specs.declared.reply.Lack.TheVariants.{Level, PowerOff}
use Rattle.st_event.specs.declared.reply.Cause.{Cause}
use Rattle.st_event.specs.declared.reply.Cause.TheVariants.{NotControllable, Locked, Broken as broken_cause}
use Rattle.st_event.specs.declared.reply.Verdict.{Verdict}
use Rattle.st_event.specs.declared.reply.Verdict.TheVariants.{Accepted, Refused}
use Rattle.st_event.specs.declared.event.Event.{Event}
use Rattle.st_event.specs.declared.reply.Reply.{Reply}
use Rattle.st_event.specs.declared.reply.Reply.TheVariants.{Queued, Full, Decided, Idle, Granted, Held, Released, NotYours, Sent, Settled, Blocked, Begun, Stale, NoSuch, Done, NotBusy, Reported, Taken, Old, Changed, Withdrawn, Kept}
use Rattle.st_world.specs.Rounds.{withdraws}
use Rattle.st_token.specs.declared.fault.FaultKind.{FaultKind}
use Rattle.st_token.specs.declared.fault.FaultKind.TheVariants as kinds
use Rattle.st_token.specs.Steps.{◌>>=◌}
use Rattle.st_token.specs.Counts.{none_of, one_of, three_of, four_of, one_and_more_of, one_and_some_of, two_and_some_of}
use Rattle.st_token.specs.Spelling.{entity_in, number_in, prio_in, word_in}
use Rattle.st_token.specs.Variables.{assignment_in}
use Rattle.st_entry.specs.declared.keyword.ReplyWord.{ReplyWord}
use Rattle.st_entry.specs.declared.keyword.ReplyWord.TheVariants as replies
use Rattle.st_entry.specs.declared.keyword.CauseWord.{CauseWord}
use Rattle.st_entry.specs.declared.keyword.CauseWord.TheVariants as causes
use Rattle.st_entry.specs.declared.keyword.VerdictWord.{VerdictWord}
use Rattle.st_entry.specs.declared.keyword.VerdictWord.TheVariants as verdicts
use Rattle.st_entry.specs.Keywords.{kind_word, nobody_word, of_word, has_word, needs_word, need_word, side_word}
use Rattle.st_journal.specs.EntryWords.{verdict_named, cause_named}
use Rattle.st_journal.specs.EventReading.{app_in}

-- an application, or `-` for nobody
unfoldable pub holder_in : List (List ℕ) → List ℕ → Result (Option AppId) FaultKind
holder_in apps token = if bytes_eq token nobody_word then Ok None else (app_in apps token >>= λ app. Ok (Some app))

-- a device, by its name
abbrev pub device_number : Entity → Result ℕ FaultKind
device_number (Device i) = Ok i
device_number (Link i) = Err kinds.Unknown

unfoldable pub device_in : Group → List ℕ → Result ℕ FaultKind
device_in g token = do
  e ← entity_in (find_in g) token
  device_number e

-- `cutoff` or `short`
abbrev pub broken_kind_in : List ℕ → Result BrokenKind FaultKind
broken_kind_in token =
    if bytes_eq token (kind_word CutOff) then Ok CutOff else (
    if bytes_eq token (kind_word Short) then Ok Short else Err kinds.Value)

-- two numbers, each behind its word
unfoldable pub two_told_in : List ℕ → List ℕ → List (List ℕ) → Result (ℕ × ℕ) FaultKind
two_told_in first second args = do
  words ← four_of args
  one ← word_in first words.0
  a ← number_in words.1
  two ← word_in second words.2
  b ← number_in words.3
  Ok (a, b)

-- whether a device stands behind the last of these
abbrev pub is_behind : List ℕ → ℕ → Bool
is_behind devices d = length devices == 0 || nat_lt (slice_index devices (length devices - 1)) d

-- devices, behind those that were read, in ascending order
unfoldable pub devices_in : Group → List ℕ → List (List ℕ) → Result (List ℕ) FaultKind
devices_in g front [] = Ok front
devices_in g front (token ∷ tokens) = do
  d ← device_in g token
  next ← if is_behind front d then Ok d else Err kinds.Twice
  devices_in g (front ++ next ∷ []) tokens

-- `side NAME..`
unfoldable pub side_in : Group → List (List ℕ) → Result (List ℕ) FaultKind
side_in g args = do
  words ← one_and_more_of args
  side ← word_in side_word words.0
  devices_in g [] words.1

-- so many tokens, and those behind them
unfoldable pub cut_behind : ℕ → List (List ℕ) → Result (List (List ℕ) × List (List ℕ)) FaultKind
cut_behind zero tokens = Ok ([], tokens)
cut_behind (suc n) [] = Err kinds.Count
cut_behind (suc n) (token ∷ tokens) = do
  parts ← cut_behind n tokens
  Ok (token ∷ parts.0, parts.1)

-- the number of the first promise that was declared with these ends in this order
abbrev pub promise_place : ℕ → ℕ → List Promise → Option ℕ
promise_place a b [] = None
promise_place a b (p ∷ ps) = if p.a == a && p.b == b then Some 0 else option_map suc (promise_place a b ps)

-- `ASSIGNMENT of ENTITY`
unfoldable pub row_of_in : Group → List (List ℕ) → Result (Row × Entity) FaultKind
row_of_in g args = do
  words ← three_of args
  row ← assignment_in (find_in g) words.0
  own ← word_in of_word words.1
  e ← entity_in (find_in g) words.2
  Ok (row, e)

-- `level ASSIGNMENT of ENTITY has N needs N`
unfoldable pub level_of : Group → List (List ℕ) → Result Cause FaultKind
level_of g args = do
  parts ← cut_behind 3 args
  of ← row_of_in g parts.0
  told ← two_told_in has_word needs_word parts.1
  Ok (NotControllable of.0 (Level of.1 told.0 told.1))

-- `off ASSIGNMENT`
unfoldable pub off_of : Group → List (List ℕ) → Result Cause FaultKind
off_of g args = do
  word ← one_of args
  row ← assignment_in (find_in g) word
  Ok (NotControllable row PowerOff)

-- `locked ENTITY APP PRIO`
unfoldable pub locked_of : Group → List (List ℕ) → List (List ℕ) → Result Cause FaultKind
locked_of g apps args = do
  words ← three_of args
  e ← entity_in (find_in g) words.0
  app ← app_in apps words.1
  prio ← prio_in words.2
  Ok (Locked e app prio)

-- `NAME NAME KIND`: two devices, and how the promise between them breaks
unfoldable pub ends_in : Group → List (List ℕ) → Result (ℕ × ℕ × BrokenKind) FaultKind
ends_in g args = do
  words ← three_of args
  a ← device_in g words.0
  b ← device_in g words.1
  kind ← broken_kind_in words.2
  Ok (a, b, kind)

-- `broken NAME NAME KIND need N has N side NAME..`
unfoldable pub broken_of : Group → List (List ℕ) → Result Cause FaultKind
broken_of g args = do
  parts ← cut_behind 3 args
  ends ← ends_in g parts.0
  more ← cut_behind 4 parts.1
  told ← two_told_in need_word has_word more.0
  side ← side_in g more.1
  promise ← ok_or (promise_place ends.0 ends.1 g.promises) kinds.Pair
  Ok (broken_cause (record { of = of_promise promise; kind = ends.2; need = told.0; has = told.1; side = side }))

-- what the cause of a word says
abbrev pub cause_of : Group → List (List ℕ) → CauseWord → List (List ℕ) → Result Cause FaultKind
cause_of g apps causes.Level args = level_of g args
cause_of g apps causes.Off args = off_of g args
cause_of g apps causes.Locked args = locked_of g apps args
cause_of g apps causes.Broken args = broken_of g args

-- one number
unfoldable pub one_number_in : List (List ℕ) → Result ℕ FaultKind
one_number_in args = do
  word ← one_of args
  number_in word

-- `accepted N` and `refused CAUSE`
unfoldable pub accepted_of : List (List ℕ) → Result Verdict FaultKind
accepted_of args = do
  version ← one_number_in args
  Ok (Accepted version)

unfoldable pub refused_of : Group → List (List ℕ) → List (List ℕ) → Result Verdict FaultKind
refused_of g apps args = do
  words ← one_and_more_of args
  word ← ok_or (cause_named words.0) kinds.Value
  cause ← cause_of g apps word words.1
  Ok (Refused cause)

-- what the verdict of a word says
abbrev pub verdict_of : Group → List (List ℕ) → VerdictWord → List (List ℕ) → Result Verdict FaultKind
verdict_of g apps verdicts.Accepted args = accepted_of args
verdict_of g apps verdicts.Refused args = refused_of g apps args

-- `receipt N VERDICT`, in entry n
unfoldable pub receipt_of : Group → List (List ℕ) → ℕ → List (List ℕ) → Result Reply FaultKind
receipt_of g apps n args = do
  words ← two_and_some_of args
  ticket ← number_in words.0
  word ← ok_or (verdict_named words.1) kinds.Value
  verdict ← verdict_of g apps word words.2
  Ok (Decided (record { ticket = ticket; entry = n; verdict = verdict }))

-- a reply without a further token
unfoldable pub bare_of : Reply → List (List ℕ) → Result Reply FaultKind
bare_of reply args = do
  none ← none_of args
  Ok reply

-- `held APP`, `notyours APP` or `notyours -`, and `blocked ASSIGNMENT`
unfoldable pub held_of : List (List ℕ) → List (List ℕ) → Result Reply FaultKind
held_of apps args = do
  word ← one_of args
  app ← app_in apps word
  Ok (Held app)

unfoldable pub notyours_of : List (List ℕ) → List (List ℕ) → Result Reply FaultKind
notyours_of apps args = do
  word ← one_of args
  holder ← holder_in apps word
  Ok (NotYours holder)

unfoldable pub blocked_of : Group → List (List ℕ) → Result Reply FaultKind
blocked_of g args = do
  word ← one_of args
  row ← assignment_in (find_in g) word
  Ok (Blocked row)

-- a row is of this entity, and its variable stands behind those of these rows
abbrev pub is_behind_each : List Row → Var → Bool
is_behind_each [] v = true
is_behind_each (row ∷ rows) v = nat_lt (place_of row.var) (place_of v) && is_behind_each rows v

abbrev pub may_follow : Entity → List Row → Row → Bool
may_follow e before row = is_same_entity row.entity e && is_behind_each before row.var

-- an ASSIGNMENT of this entity behind these, and all of a line: in the order of variables
unfoldable pub own_row_in : Group → Entity → List Row → List ℕ → Result Row FaultKind
own_row_in g e before token = do
  row ← assignment_in (find_in g) token
  if may_follow e before row then Ok row else Err kinds.Value

unfoldable pub own_rows_in : Group → Entity → List Row → List (List ℕ) → Result (List Row) FaultKind
own_rows_in g e before [] = Ok before
own_rows_in g e before (token ∷ tokens) = do
  row ← own_row_in g e before token
  own_rows_in g e (before ++ row ∷ []) tokens

-- `withdrawn N ASSIGNMENT..`, of the entity that the event withdraws
unfoldable pub withdrawn_of : Group → Event → List (List ℕ) → Result Reply FaultKind
withdrawn_of g event args = do
  words ← one_and_some_of args
  version ← number_in words.0
  e ← ok_or (withdraws event) kinds.Value
  rows ← own_rows_in g e [] words.1
  Ok (Withdrawn version rows)

-- what the reply of a word says, in entry n, to this event
abbrev pub reply_of : Group → List (List ℕ) → ℕ → Event → ReplyWord → List (List ℕ) → Result Reply FaultKind
reply_of g apps n event replies.Queued args = one_number_in args >>= λ m. Ok (Queued m)
reply_of g apps n event replies.Full args = one_number_in args >>= λ m. Ok (Full m)
reply_of g apps n event replies.Receipt args = receipt_of g apps n args
reply_of g apps n event replies.Idle args = bare_of Idle args
reply_of g apps n event replies.Granted args = bare_of Granted args
reply_of g apps n event replies.Held args = held_of apps args
reply_of g apps n event replies.Released args = bare_of Released args
reply_of g apps n event replies.NotYours args = notyours_of apps args
reply_of g apps n event replies.Sent args = one_number_in args >>= λ m. Ok (Sent m)
reply_of g apps n event replies.Settled args = bare_of Settled args
reply_of g apps n event replies.Blocked args = blocked_of g args
reply_of g apps n event replies.Begun args = bare_of Begun args
reply_of g apps n event replies.Stale args = one_number_in args >>= λ m. Ok (Stale m)
reply_of g apps n event replies.NoSuch args = one_number_in args >>= λ m. Ok (NoSuch m)
reply_of g apps n event replies.Done args = bare_of Done args
reply_of g apps n event replies.NotBusy args = bare_of NotBusy args
reply_of g apps n event replies.Reported args = one_number_in args >>= λ m. Ok (Reported m)
reply_of g apps n event replies.Taken args = bare_of Taken args
reply_of g apps n event replies.Old args = one_number_in args >>= λ m. Ok (Old m)
reply_of g apps n event replies.Changed args = bare_of Changed args
reply_of g apps n event replies.Withdrawn args = withdrawn_of g event args
reply_of g apps n event replies.Kept args = bare_of Kept args
