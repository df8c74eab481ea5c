-- The tickets that a legal journal gives: only to proposals, and to each the number of those before it and itself.
use Rattle.std.proofs.Common.{◌≡◌, ◌⊎◌, inl, inr, ℕ, ◌+◌, List, [], ◌∷◌, ◌++◌, length, refl, ap, sym, subst, ◌∙◌, length-append}
use Rattle.std.specs.Prelude.{Bool, true, false, nat_lt, Option, Some, None, if◌then◌else◌}
use Rattle.std.specs.Option.{option_or}
use Rattle.st_net.specs.declared.entity.AppId.{AppId}
use Rattle.st_net.specs.declared.entity.Row.{Row}
use Rattle.st_net.specs.Groups.{Group}
use Rattle.st_net.specs.Holders.{is_held_by}
use Rattle.st_net.specs.Numbered.{nth}
use Rattle.st_event.specs.declared.event.Event.{Event}
use Rattle.st_event.specs.declared.event.Event.TheVariants.{Submit, Check, Lock, Unlock, Send, Deliver, Finish, Report as make_report, Hear, Fail, Withdraw}
use Rattle.st_event.specs.declared.reply.Reply.{Reply}
use Rattle.st_event.specs.declared.reply.Reply.TheVariants.{Queued, Full, Released, NotYours, Done, NotBusy}
use Rattle.st_event.specs.declared.journal.Entry.{Entry}
use Rattle.st_event.specs.declared.journal.TheConstants.{MAX_PENDING}
use Rattle.st_event.specs.Legal.{IsNext}
use Rattle.st_event.specs.Locks.{holder}
use Rattle.st_event.specs.Moments.{busy, commands, fence, reports}
use Rattle.st_event.specs.Observed.{observed}
use Rattle.st_event.specs.Proposals.{pending, proposals, proposals_after}
use Rattle.st_event.specs.Replies.{reply}
use Rattle.st_run.specs.Requests.{is_submit}
use Rattle.st_service.specs.Tickets.{ticket_in, last_ticket}
use Rattle.st_service.proofs.GivenLaws.{check_none, deliver_none, hear_none, if_none, lock_none, send_none, withdraw_none}
use Rattle.st_service.proofs.TicketLaws.{or_assoc}
use Rattle.st_run.proofs.CommandEntries.{IsChecked}
use Rattle.st_run.proofs.DidLaws.{Each}

-- nothing but a proposal is given a ticket
pub no_ticket : (g : Group) (past : List Entry) (event : Event) → is_submit event ≡ false → ticket_in (reply g past event) ≡ None
no_ticket g past (Submit app rows) other = absurd (cc other)
no_ticket g past Check other = check_none g past (pending past)
no_ticket g past (Lock app e prio) other = lock_none app (holder past e prio)
no_ticket g past (Unlock app e prio) other = if_none (is_held_by app (holder past e prio)) Released (NotYours (holder past e prio)) refl refl
no_ticket g past (Send e) other = send_none g past e
no_ticket g past (Deliver n) other = deliver_none (fence g past) (length (commands g past)) (nth (commands g past) n)
no_ticket g past (Finish e) other = if_none (busy g past e) Done NotBusy refl refl
no_ticket g past (make_report e) other = refl
no_ticket g past (Hear n) other = hear_none (observed g past) (length (reports g past)) (nth (reports g past) n)
no_ticket g past (Fail e vals health) other = refl
no_ticket g past (Withdraw e) other = withdraw_none g past e

-- an entry that gives no ticket is no proposal that was queued, and one that does gives the number of the proposals
abbrev pub IsCounted : List Entry → Event → Reply → Type 0
IsCounted past event answer = ((ticket_in answer ≡ None) × (length (proposals_after event answer (proposals past)) ≡ length (proposals past))) ⊎ (ticket_in answer ≡ Some (length (proposals_after event answer (proposals past))))

submit_counted : (past : List Entry) (app : AppId) (rows : List Row) (answer : Reply) (b : Bool) → answer ≡ (if b then Queued (length (proposals past) + 1) else Full (length (pending past))) → IsCounted past (Submit app rows) answer
submit_counted past app rows answer true is = subst (IsCounted past (Submit app rows)) (sym is) (inr (ap Some (sym (length-append (proposals past) (record { app = app; rows = rows } ∷ [])))))
submit_counted past app rows answer false is = subst (IsCounted past (Submit app rows)) (sym is) (inl (refl, refl))

other_none : (g : Group) (past : List Entry) (event : Event) (answer : Reply) → is_submit event ≡ false → answer ≡ reply g past event → ticket_in answer ≡ None
other_none g past event answer other is = ap ticket_in is ∙ no_ticket g past event other

counted_by : (g : Group) (past : List Entry) (event : Event) (answer : Reply) → answer ≡ reply g past event → IsCounted past event answer
counted_by g past (Submit app rows) answer is = submit_counted past app rows answer (nat_lt (length (pending past)) MAX_PENDING) is
counted_by g past Check answer is = inl (other_none g past Check answer refl is, refl)
counted_by g past (Lock app e prio) answer is = inl (other_none g past (Lock app e prio) answer refl is, refl)
counted_by g past (Unlock app e prio) answer is = inl (other_none g past (Unlock app e prio) answer refl is, refl)
counted_by g past (Send e) answer is = inl (other_none g past (Send e) answer refl is, refl)
counted_by g past (Deliver n) answer is = inl (other_none g past (Deliver n) answer refl is, refl)
counted_by g past (Finish e) answer is = inl (other_none g past (Finish e) answer refl is, refl)
counted_by g past (make_report e) answer is = inl (other_none g past (make_report e) answer refl is, refl)
counted_by g past (Hear n) answer is = inl (other_none g past (Hear n) answer refl is, refl)
counted_by g past (Fail e vals health) answer is = inl (other_none g past (Fail e vals health) answer refl is, refl)
counted_by g past (Withdraw e) answer is = inl (other_none g past (Withdraw e) answer refl is, refl)

pub counted : (g : Group) (past : List Entry) (entry : Entry) → IsNext g past entry → IsCounted past entry.event entry.reply
counted g past entry next = counted_by g past entry.event entry.reply next.answer

-- checks give none
pub checks_none : (g : Group) (es : List Entry) → Each (IsChecked g) es → last_ticket es ≡ None
checks_none g [] e = refl
checks_none g (x ∷ es) e = rw (checks_none g es e.1) (ap (λ (y : Entry). ticket_in y.reply) e.0.1 ∙ check_none g e.0.0 (pending e.0.0))

-- the last ticket of two lists
pub or_none : (o : Option ℕ) → option_or o None ≡ o
or_none (Some n) = refl
or_none None = refl

pub last_append : (xs ys : List Entry) → last_ticket (xs ++ ys) ≡ option_or (last_ticket ys) (last_ticket xs)
last_append [] ys = sym (or_none (last_ticket ys))
last_append (x ∷ xs) ys = ap (λ (o : Option ℕ). option_or o (ticket_in x.reply)) (last_append xs ys) ∙ or_assoc (last_ticket ys) (last_ticket xs) (ticket_in x.reply)
