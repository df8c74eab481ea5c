-- Which word a token is, which replies an event takes, and how many tokens stand behind each word.
use Rattle.std.specs.Prelude.{ℕ, List, [], ◌∷◌, Bool, true, false, ◌==◌, nat_le, length, if◌then◌else◌, Option, Some, None, bytes_eq}
use Rattle.st_entry.specs.declared.keyword.EventWord.{EventWord}
use Rattle.st_entry.specs.declared.keyword.EventWord.TheVariants as events
use Rattle.st_entry.specs.declared.keyword.ReplyWord.{ReplyWord}
use Rattle.st_entry.specs.declared.keyword.ReplyWord.TheVariants as replies
use Rattle.st_entry.specs.declared.keyword.VerdictWord.{VerdictWord}
use Rattle.st_entry.specs.declared.keyword.VerdictWord.TheVariants as verdicts
use Rattle.st_entry.specs.declared.keyword.CauseWord.{CauseWord}
use Rattle.st_entry.specs.declared.keyword.CauseWord.TheVariants as causes
use Rattle.st_entry.specs.Keywords.{event_word, reply_word, verdict_word, cause_word}

abbrev pub all_events : List EventWord
all_events = events.Submit ∷ events.Check ∷ events.Lock ∷ events.Unlock ∷ events.Send ∷ events.Deliver ∷ events.Finish ∷ events.Report ∷ events.Hear ∷ events.Fail ∷ events.Withdraw ∷ []

abbrev pub all_causes : List CauseWord
all_causes = causes.Level ∷ causes.Off ∷ causes.Locked ∷ causes.Broken ∷ []

abbrev pub all_verdicts : List VerdictWord
all_verdicts = verdicts.Accepted ∷ verdicts.Refused ∷ []

-- the replies that an event takes
abbrev pub replies_of : EventWord → List ReplyWord
replies_of events.Submit = replies.Queued ∷ replies.Full ∷ []
replies_of events.Check = replies.Receipt ∷ replies.Idle ∷ []
replies_of events.Lock = replies.Granted ∷ replies.Held ∷ []
replies_of events.Unlock = replies.Released ∷ replies.NotYours ∷ []
replies_of events.Send = replies.Sent ∷ replies.Settled ∷ replies.Blocked ∷ []
replies_of events.Deliver = replies.Begun ∷ replies.Stale ∷ replies.NoSuch ∷ []
replies_of events.Finish = replies.Done ∷ replies.NotBusy ∷ []
replies_of events.Report = replies.Reported ∷ []
replies_of events.Hear = replies.Taken ∷ replies.Old ∷ replies.NoSuch ∷ []
replies_of events.Fail = replies.Changed ∷ []
replies_of events.Withdraw = replies.Withdrawn ∷ replies.Kept ∷ []

abbrev pub all_replies : List ReplyWord
all_replies =
    replies.Queued ∷ replies.Full ∷ replies.Receipt ∷ replies.Idle ∷ replies.Granted ∷ replies.Held ∷ replies.Released ∷ replies.NotYours ∷ replies.Sent ∷ replies.Settled ∷
    replies.Blocked ∷ replies.Begun ∷ replies.Stale ∷ replies.NoSuch ∷ replies.Done ∷ replies.NotBusy ∷ replies.Reported ∷ replies.Taken ∷ replies.Old ∷ replies.Changed ∷ replies.Withdrawn ∷
    replies.Kept ∷ []

-- the first of these words that the token is
abbrev pub event_among : List EventWord → List ℕ → Option EventWord
event_among [] token = None
event_among (event ∷ events) token = if bytes_eq token (event_word event) then Some event else event_among events token

abbrev pub reply_among : List ReplyWord → List ℕ → Option ReplyWord
reply_among [] token = None
reply_among (reply ∷ replies) token = if bytes_eq token (reply_word reply) then Some reply else reply_among replies token

abbrev pub verdict_among : List VerdictWord → List ℕ → Option VerdictWord
verdict_among [] token = None
verdict_among (verdict ∷ verdicts) token = if bytes_eq token (verdict_word verdict) then Some verdict else verdict_among verdicts token

abbrev pub cause_among : List CauseWord → List ℕ → Option CauseWord
cause_among [] token = None
cause_among (cause ∷ causes) token = if bytes_eq token (cause_word cause) then Some cause else cause_among causes token

-- the event, the reply, the verdict and the cause of a word
unfoldable pub event_named : List ℕ → Option EventWord
event_named token = event_among all_events token

unfoldable pub reply_named : List ℕ → Option ReplyWord
reply_named token = reply_among all_replies token

unfoldable pub verdict_named : List ℕ → Option VerdictWord
verdict_named token = verdict_among all_verdicts token

unfoldable pub cause_named : List ℕ → Option CauseWord
cause_named token = cause_among all_causes token

-- whether so many tokens may stand behind the word of an event
abbrev pub takes_event_tokens : EventWord → ℕ → Bool
takes_event_tokens events.Submit n = nat_le 2 n
takes_event_tokens events.Check n = n == 0
takes_event_tokens events.Lock n = n == 3
takes_event_tokens events.Unlock n = n == 3
takes_event_tokens events.Send n = n == 1
takes_event_tokens events.Deliver n = n == 1
takes_event_tokens events.Finish n = n == 1
takes_event_tokens events.Report n = n == 1
takes_event_tokens events.Hear n = n == 1
takes_event_tokens events.Fail n = nat_le 3 n
takes_event_tokens events.Withdraw n = n == 1

-- whether so many tokens may stand behind the word of a cause: `ASSIGNMENT of ENTITY has N needs N`, `ASSIGNMENT`, `ENTITY APP PRIO`, and
-- `NAME NAME KIND need N has N side NAME..`
abbrev pub takes_cause_tokens : CauseWord → ℕ → Bool
takes_cause_tokens causes.Level n = n == 7
takes_cause_tokens causes.Off n = n == 1
takes_cause_tokens causes.Locked n = n == 3
takes_cause_tokens causes.Broken n = nat_le 9 n

-- what stands behind a word that is none is not counted: the word is the fault
abbrev pub has_event_count_by : Option EventWord → ℕ → Bool
has_event_count_by None n = true
has_event_count_by (Some event) n = takes_event_tokens event n

abbrev pub has_cause_count_by : Option CauseWord → ℕ → Bool
has_cause_count_by None n = true
has_cause_count_by (Some cause) n = takes_cause_tokens cause n

-- behind the verdict's word stand a first token and so many more: a version, or the word of a cause and what it takes
abbrev pub has_verdict_count_by : Option VerdictWord → List ℕ → ℕ → Bool
has_verdict_count_by None first n = true
has_verdict_count_by (Some verdicts.Accepted) first n = n == 0
has_verdict_count_by (Some verdicts.Refused) first n = has_cause_count_by (cause_named first) n

-- a ticket, the word of a verdict, and what that takes
abbrev pub has_receipt_count : List (List ℕ) → Bool
has_receipt_count (ticket ∷ verdict ∷ first ∷ more) = has_verdict_count_by (verdict_named verdict) first (length more)
has_receipt_count _ = false

-- whether these tokens are as many as may stand behind the word of a reply
abbrev pub takes_reply_tokens : ReplyWord → List (List ℕ) → Bool
takes_reply_tokens replies.Queued args = length args == 1
takes_reply_tokens replies.Full args = length args == 1
takes_reply_tokens replies.Receipt args = has_receipt_count args
takes_reply_tokens replies.Idle args = length args == 0
takes_reply_tokens replies.Granted args = length args == 0
takes_reply_tokens replies.Held args = length args == 1
takes_reply_tokens replies.Released args = length args == 0
takes_reply_tokens replies.NotYours args = length args == 1
takes_reply_tokens replies.Sent args = length args == 1
takes_reply_tokens replies.Settled args = length args == 0
takes_reply_tokens replies.Blocked args = length args == 1
takes_reply_tokens replies.Begun args = length args == 0
takes_reply_tokens replies.Stale args = length args == 1
takes_reply_tokens replies.NoSuch args = length args == 1
takes_reply_tokens replies.Done args = length args == 0
takes_reply_tokens replies.NotBusy args = length args == 0
takes_reply_tokens replies.Reported args = length args == 1
takes_reply_tokens replies.Taken args = length args == 0
takes_reply_tokens replies.Old args = length args == 1
takes_reply_tokens replies.Changed args = length args == 0
takes_reply_tokens replies.Withdrawn args = nat_le 2 (length args)
takes_reply_tokens replies.Kept args = length args == 0

abbrev pub has_reply_count_by : Option ReplyWord → List (List ℕ) → Bool
has_reply_count_by None args = true
has_reply_count_by (Some reply) args = takes_reply_tokens reply args

-- what stands before `:`, and what stands behind it: a word, and behind that as many tokens as it takes
abbrev pub has_event_count : List (List ℕ) → Bool
has_event_count [] = false
has_event_count (word ∷ args) = has_event_count_by (event_named word) (length args)

abbrev pub has_reply_count : List (List ℕ) → Bool
has_reply_count [] = false
has_reply_count (word ∷ args) = has_reply_count_by (reply_named word) args
