-- The words of a verdict: accepted, and as which version, or refused, and what the refusal names.
use Rattle.std.specs.Prelude.{ℕ, List, [], ◌∷◌, decimal}
use Rattle.st_net.specs.declared.entity.Entity.TheVariants.{Device}
use Rattle.st_net.specs.declared.entity.Row.{Row}
use Rattle.st_net.specs.declared.promise.Broken.{Broken}
use Rattle.st_net.specs.Groups.{Group, name_of}
use Rattle.st_net.specs.Demands.{broken_pair}
use Rattle.st_event.specs.declared.reply.Lack.{Lack}
use Rattle.st_event.specs.declared.reply.Lack.TheVariants.{Level, PowerOff}
use Rattle.st_event.specs.declared.reply.Cause.{Cause}
use Rattle.st_event.specs.declared.reply.Cause.TheVariants.{NotControllable, Locked, Broken as broken_cause}
use Rattle.st_event.specs.declared.reply.Verdict.{Verdict}
use Rattle.st_event.specs.declared.reply.Verdict.TheVariants.{Accepted, Refused}
use Rattle.st_token.specs.Words.{prio_word}
use Rattle.st_entry.specs.declared.keyword.VerdictWord.TheVariants as verdicts
use Rattle.st_entry.specs.declared.keyword.CauseWord.TheVariants as causes
use Rattle.st_entry.specs.Keywords.{verdict_word, cause_word, kind_word, of_word, has_word, needs_word, need_word, side_word}
use Rattle.st_entry.specs.Words.{Words, app_word, assignment, device_words}

-- why a row can't be set
abbrev pub lack_words : Group → Row → Lack → Words
lack_words g row (Level e level needs) = cause_word causes.Level ∷ assignment g row ∷ of_word ∷ name_of g e ∷ has_word ∷ decimal level ∷ needs_word ∷ decimal needs ∷ []
lack_words g row PowerOff = cause_word causes.Off ∷ assignment g row ∷ []

-- a broken demand, by the two devices between which it is broken
abbrev pub broken_words : Group → Broken → Words
broken_words g broken =
    cause_word causes.Broken ∷ name_of g (Device (broken_pair g broken).0) ∷ name_of g (Device (broken_pair g broken).1) ∷ kind_word broken.kind ∷
    need_word ∷ decimal broken.need ∷ has_word ∷ decimal broken.has ∷ side_word ∷ device_words g broken.side

-- what a refusal names
abbrev pub cause_words : Group → List (List ℕ) → Cause → Words
cause_words g apps (NotControllable row lack) = lack_words g row lack
cause_words g apps (Locked e holder prio) = cause_word causes.Locked ∷ name_of g e ∷ app_word apps holder ∷ prio_word prio ∷ []
cause_words g apps (broken_cause broken) = broken_words g broken

abbrev pub verdict_words : Group → List (List ℕ) → Verdict → Words
verdict_words g apps (Accepted version) = verdict_word verdicts.Accepted ∷ decimal version ∷ []
verdict_words g apps (Refused cause) = verdict_word verdicts.Refused ∷ cause_words g apps cause
