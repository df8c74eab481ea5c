-- The words that say which event an entry has, which reply, which verdict and which cause: each stands here once, for what prints entries
-- and for what reads them.
use Rattle.std.specs.Prelude.{ℕ, List, codes}
use Rattle.st_net.specs.declared.promise.BrokenKind.{BrokenKind}
use Rattle.st_net.specs.declared.promise.BrokenKind.TheVariants.{CutOff, Short}
use Rattle.st_entry.specs.declared.keyword.EventWord.{EventWord}
use Rattle.st_entry.specs.declared.keyword.EventWord.TheVariants as events
use Rattle.st_entry.specs.declared.keyword.ReplyWord.{ReplyWord}
use Rattle.st_entry.specs.declared.keyword.ReplyWord.TheVariants as replies
use Rattle.st_entry.specs.declared.keyword.VerdictWord.{VerdictWord}
use Rattle.st_entry.specs.declared.keyword.VerdictWord.TheVariants as verdicts
use Rattle.st_entry.specs.declared.keyword.CauseWord.{CauseWord}
use Rattle.st_entry.specs.declared.keyword.CauseWord.TheVariants as causes

abbrev pub event_word : EventWord → List ℕ
event_word events.Submit = codes "submit"
event_word events.Check = codes "check"
event_word events.Lock = codes "lock"
event_word events.Unlock = codes "unlock"
event_word events.Send = codes "send"
event_word events.Deliver = codes "deliver"
event_word events.Finish = codes "finish"
event_word events.Report = codes "report"
event_word events.Hear = codes "hear"
event_word events.Fail = codes "fail"
event_word events.Withdraw = codes "withdraw"

abbrev pub reply_word : ReplyWord → List ℕ
reply_word replies.Queued = codes "queued"
reply_word replies.Full = codes "full"
reply_word replies.Receipt = codes "receipt"
reply_word replies.Idle = codes "idle"
reply_word replies.Granted = codes "granted"
reply_word replies.Held = codes "held"
reply_word replies.Released = codes "released"
reply_word replies.NotYours = codes "notyours"
reply_word replies.Sent = codes "sent"
reply_word replies.Settled = codes "settled"
reply_word replies.Blocked = codes "blocked"
reply_word replies.Begun = codes "begun"
reply_word replies.Stale = codes "stale"
reply_word replies.NoSuch = codes "nosuch"
reply_word replies.Done = codes "done"
reply_word replies.NotBusy = codes "notbusy"
reply_word replies.Reported = codes "reported"
reply_word replies.Taken = codes "taken"
reply_word replies.Old = codes "old"
reply_word replies.Changed = codes "changed"
reply_word replies.Withdrawn = codes "withdrawn"
reply_word replies.Kept = codes "kept"

abbrev pub verdict_word : VerdictWord → List ℕ
verdict_word verdicts.Accepted = codes "accepted"
verdict_word verdicts.Refused = codes "refused"

abbrev pub cause_word : CauseWord → List ℕ
cause_word causes.Level = codes "level"
cause_word causes.Off = codes "off"
cause_word causes.Locked = codes "locked"
cause_word causes.Broken = codes "broken"

-- how a promise breaks
abbrev pub kind_word : BrokenKind → List ℕ
kind_word CutOff = codes "cutoff"
kind_word Short = codes "short"

-- what stands between an event and its reply, and for nobody in place of a holder
abbrev pub reply_mark : List ℕ
reply_mark = codes ":"

abbrev pub nobody_word : List ℕ
nobody_word = codes "-"

-- the words between the numbers and names of a cause
abbrev pub of_word : List ℕ
of_word = codes "of"

abbrev pub has_word : List ℕ
has_word = codes "has"

abbrev pub needs_word : List ℕ
needs_word = codes "needs"

abbrev pub need_word : List ℕ
need_word = codes "need"

abbrev pub side_word : List ℕ
side_word = codes "side"
