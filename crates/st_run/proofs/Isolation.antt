-- Two legal journals of one group with the same events are the same: each reply is the one that the entries before it call for.
use Rattle.std.proofs.Common.{◌≡◌, List, [], ◌∷◌, length, refl, ap, sym, ◌∙◌, arith}
use Rattle.st_net.specs.Groups.{Group}
use Rattle.st_event.specs.declared.event.Event.{Event}
use Rattle.st_event.specs.declared.journal.Entry.{Entry}
use Rattle.st_event.specs.declared.reply.Reply.{Reply}
use Rattle.st_event.specs.Replies.{reply}
use Rattle.st_run.specs.Isolation.{EventsTellJournals}

event_of : Entry → Event
event_of entry = entry.event

-- one entry more
next_same : (g : Group) (past more : List Entry) (one other : Entry) → one.reply ≡ reply g past one.event → other.reply ≡ reply g more other.event → past ≡ more → one.event ≡ other.event → one ∷ past ≡ other ∷ more
next_same g past more one other answer told same event =
    let replies : one.reply ≡ other.reply = answer ∙ ap (λ (p : List Entry). reply g p one.event) same ∙ ap (reply g more) event ∙ sym told in
    let entries : one ≡ other = ap (λ (e : Event). record { event = e; reply = one.reply }) event ∙ ap (λ (r : Reply). record { event = other.event; reply = r }) replies in
    ap (λ (e : Entry). e ∷ past) entries ∙ ap (λ (p : List Entry). other ∷ p) same

abbrev head_of : Event → List Event → Event
head_of event [] = event
head_of event (e ∷ es) = e

abbrev tail_of : List Event → List Event
tail_of [] = []
tail_of (e ∷ es) = es

pub events_tell_journals : EventsTellJournals
events_tell_journals g [] [] legal other same = refl
events_tell_journals g [] (f ∷ more) legal other same = let count = ap length same in absurd (omega (arith, count))
events_tell_journals g (e ∷ past) [] legal other same = let count = ap length same in absurd (omega (arith, count))
events_tell_journals g (e ∷ past) (f ∷ more) legal other same =
    next_same g past more e f legal.0.answer other.0.answer (events_tell_journals g past more legal.1 other.1 (ap tail_of same)) (ap (head_of e.event) same)
