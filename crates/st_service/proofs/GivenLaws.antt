-- Each ticket that a legal journal gives is the number of a proposal of it, and so is the latest ticket of a pass.
use Rattle.std.proofs.Common.{◌≡◌, ℕ, zero, suc, ◌+◌, ◌≤◌, Bool, true, false, List, [], ◌∷◌, ◌++◌, length, map, refl, ap, sym, subst, ◌∙◌, arith, length-append}
use Rattle.std.specs.Prelude.{Option, Some, None, IfSome, nat_lt, reverse, slice_get, if◌then◌else◌}
use Rattle.std.specs.Option.{option_or}
use Rattle.std.proofs.lemmas.List.{reverse-append, reverse-reverse}
use Rattle.st_net.specs.declared.entity.AppId.{AppId}
use Rattle.st_net.specs.declared.entity.Row.{Row}
use Rattle.st_net.specs.declared.entity.Entity.{Entity}
use Rattle.st_net.specs.declared.message.Command.{Command}
use Rattle.st_net.specs.declared.message.Report.{Report}
use Rattle.st_net.specs.Entities.{value_of, vars_of}
use Rattle.st_net.specs.Groups.{Group}
use Rattle.st_net.specs.Holders.{is_free_for, is_held_by}
use Rattle.st_net.specs.Numbered.{nth}
use Rattle.st_event.specs.declared.event.Event.{Event}
use Rattle.st_event.specs.declared.event.Event.TheVariants.{Submit, Check, Lock, Unlock, Send, Deliver, Finish, Report as make_report, Hear, Fail, Withdraw}
use Rattle.st_event.specs.declared.event.Proposal.{Proposal}
use Rattle.st_event.specs.declared.journal.Entry.{Entry}
use Rattle.st_event.specs.declared.journal.TheConstants.{MAX_PENDING}
use Rattle.st_event.specs.declared.reply.Lack.{Lack}
use Rattle.st_event.specs.declared.reply.Reply.{Reply}
use Rattle.st_event.specs.declared.reply.Reply.TheVariants.{Queued, Full, Granted, Held, Released, NotYours, Settled, Begun, Stale, Done, NotBusy, Taken, Old}
use Rattle.st_event.specs.Judge.{lack_at}
use Rattle.st_event.specs.Legal.{IsLegal}
use Rattle.st_event.specs.Moments.{commands, reports, fence, busy}
use Rattle.st_event.specs.Observed.{observed, is_settled}
use Rattle.st_event.specs.Proposals.{proposals, proposals_after, pending, target, version}
use Rattle.st_event.specs.Locks.{holder}
use Rattle.st_event.specs.Replies.{reply, check_reply, lock_reply, blocked_or_sent, row_to, rows_back, kept_or_withdrawn, governing, deliver_reply, hear_reply}
use Rattle.st_service.specs.Made.{Made, past_in}
use Rattle.st_service.specs.Tickets.{ticket_in, ticket_of, latest_in}
use Rattle.st_service.specs.Works.{IsGiven}

-- a reply that gives no ticket

pub if_none : (b : Bool) (r s : Reply) → ticket_in r ≡ None → ticket_in s ≡ None → ticket_in (if b then r else s) ≡ None
if_none true r s p q = p
if_none false r s p q = q

pub check_none : (g : Group) (past : List Entry) (queue : List Proposal) → ticket_in (check_reply g past queue) ≡ None
check_none g past [] = refl
check_none g past (p ∷ ps) = refl

pub lock_none : (app : AppId) (o : Option AppId) → ticket_in (lock_reply app o) ≡ None
lock_none app None = refl
lock_none app (Some a) = if_none (is_free_for app (Some a)) Granted (Held a) refl refl

blocked_none : (lack : Option Lack) (row : Row) (sent : ℕ) → ticket_in (blocked_or_sent lack row sent) ≡ None
blocked_none (Some lack) row sent = refl
blocked_none None row sent = refl

withdrawn_none : (lack : Option Lack) (rows : List Row) (n : ℕ) → ticket_in (kept_or_withdrawn lack rows n) ≡ None
withdrawn_none None rows n = refl
withdrawn_none (Some lack) [] n = refl
withdrawn_none (Some lack) (row ∷ rows) n = refl

pub withdraw_none : (g : Group) (past : List Entry) (e : Entity) → ticket_in (reply g past (Withdraw e)) ≡ None
withdraw_none g past e =
    let vals = (observed g past e).vals in
    withdrawn_none (lack_at g (observed g past) (target g past) e (governing e vals (target g past e))) (rows_back e (value_of e vals) (target g past e) (vars_of e)) (version past)

pub deliver_none : (fence : Entity → ℕ) (sent : ℕ) (o : Option Command) → ticket_in (deliver_reply fence sent o) ≡ None
deliver_none fence sent None = refl
deliver_none fence sent (Some c) = if_none (nat_lt (fence c.entity) c.stamp) Begun (Stale (fence c.entity)) refl refl

pub hear_none : (observed : Entity → Report) (made : ℕ) (o : Option Report) → ticket_in (hear_reply observed made o) ≡ None
hear_none observed made None = refl
hear_none observed made (Some r) = if_none (nat_lt (observed r.entity).number r.number) Taken (Old (observed r.entity).number) refl refl

pub send_none : (g : Group) (past : List Entry) (e : Entity) → ticket_in (reply g past (Send e)) ≡ None
send_none g past e =
    let v = governing e (observed g past e).vals (target g past e) in
    let row = row_to e v (target g past e) in
    let lack = lack_at g (observed g past) (target g past) e v in
    if_none (is_settled g past e) Settled (blocked_or_sent lack row (length (commands g past))) refl (blocked_none lack row (length (commands g past)))

-- a ticket in these replies is at most so many

other_low : (g : Group) (past : List Entry) (event : Event) (answer : Reply) → answer ≡ reply g past event → ticket_in (reply g past event) ≡ None
    → IfSome (ticket_in answer) (λ t. t ≤ length (proposals past))
other_low g past event answer is none = subst (λ (o : Option ℕ). IfSome o (λ t. t ≤ length (proposals past))) (sym (ap ticket_in is ∙ none)) tt

submit_low : (app : AppId) (rows : List Row) (ps : List Proposal) (waiting : ℕ) (answer : Reply) (b : Bool) → answer ≡ (if b then Queued (length ps + 1) else Full waiting)
    → IfSome (ticket_in answer) (λ t. t ≤ length (proposals_after (Submit app rows) answer ps))
submit_low app rows ps waiting answer true is = let more = length-append ps (record { app = app; rows = rows } ∷ []) in rw is (omega (arith, more))
submit_low app rows ps waiting answer false is = rw is tt

reply_low : (g : Group) (past : List Entry) (event : Event) (answer : Reply) → answer ≡ reply g past event
    → IfSome (ticket_in answer) (λ t. t ≤ length (proposals_after event answer (proposals past)))
reply_low g past (Submit app rows) answer is = submit_low app rows (proposals past) (length (pending past)) answer (nat_lt (length (pending past)) MAX_PENDING) is
reply_low g past Check answer is = other_low g past Check answer is (check_none g past (pending past))
reply_low g past (Lock app e prio) answer is = other_low g past (Lock app e prio) answer is (lock_none app (holder past e prio))
reply_low g past (Unlock app e prio) answer is = other_low g past (Unlock app e prio) answer is (if_none (is_held_by app (holder past e prio)) Released (NotYours (holder past e prio)) refl refl)
reply_low g past (Send e) answer is = other_low g past (Send e) answer is (send_none g past e)
reply_low g past (Deliver n) answer is = other_low g past (Deliver n) answer is (deliver_none (fence g past) (length (commands g past)) (nth (commands g past) n))
reply_low g past (Finish e) answer is = other_low g past (Finish e) answer is (if_none (busy g past e) Done NotBusy refl refl)
reply_low g past (make_report e) answer is = other_low g past (make_report e) answer is refl
reply_low g past (Hear n) answer is = other_low g past (Hear n) answer is (hear_none (observed g past) (length (reports g past)) (nth (reports g past) n))
reply_low g past (Fail e vals health) answer is = other_low g past (Fail e vals health) answer is refl
reply_low g past (Withdraw e) answer is = other_low g past (Withdraw e) answer is (withdraw_none g past e)

-- the tickets of a journal

abbrev AllLow : ℕ → List Entry → Type 0
AllLow most [] = Unit {0}
AllLow most (e ∷ es) = IfSome (ticket_in e.reply) (λ t. t ≤ most) × AllLow most es

more_proposals : (event : Event) (answer : Reply) (before : List Proposal) → length before ≤ length (proposals_after event answer before)
more_proposals (Submit app rows) (Queued ticket) before = rw length-append (omega arith)
more_proposals (Submit app rows) _ before = omega arith
more_proposals _ answer before = omega arith

some_wider : (o : Option ℕ) (few most : ℕ) → few ≤ most → IfSome o (λ t. t ≤ few) → IfSome o (λ t. t ≤ most)
some_wider (Some t) few most le low = omega (arith, le, low)
some_wider None few most le low = tt

low_wider : (few most : ℕ) (es : List Entry) → few ≤ most → AllLow few es → AllLow most es
low_wider few most [] le low = tt
low_wider few most (e ∷ es) le low = (some_wider (ticket_in e.reply) few most le low.0, low_wider few most es le low.1)

legal_low : (g : Group) (past : List Entry) → IsLegal g past → AllLow (length (proposals past)) past
legal_low g [] legal = tt
legal_low g (e ∷ past) legal = (
  reply_low g past e.event e.reply legal.0.answer,
  low_wider (length (proposals past)) (length (proposals (e ∷ past))) past (more_proposals e.event e.reply (proposals past)) (legal_low g past legal.1),
)

low_append : (most : ℕ) (xs ys : List Entry) → AllLow most xs → AllLow most ys → AllLow most (xs ++ ys)
low_append most [] ys low more = more
low_append most (e ∷ xs) ys low more = (low.0, low_append most xs ys low.1 more)

low_reverse : (most : ℕ) (xs : List Entry) → AllLow most xs → AllLow most (reverse xs)
low_reverse most [] low = tt
low_reverse most (e ∷ xs) low = rw (reverse-append (e ∷ []) xs) (low_append most (reverse xs) (e ∷ []) (low_reverse most xs low.1) (low.0, tt))

-- the tickets at the places of a front

low_at : (most : ℕ) (front : List Made) (n : ℕ) → AllLow most (map (λ (m : Made). m.entry) front) → IfSome (ticket_of (slice_get front n)) (λ t. t ≤ most)
low_at most [] n low = tt
low_at most (m ∷ ms) zero low = low.0
low_at most (m ∷ ms) (suc n) low = low_at most ms n low.1

or_low : (most : ℕ) (o p : Option ℕ) → IfSome o (λ t. t ≤ most) → IfSome p (λ t. t ≤ most) → IfSome (option_or o p) (λ t. t ≤ most)
or_low most (Some t) p low other = low
or_low most None p low other = other

latest_low : (most : ℕ) (front : List Made) (mine : List ℕ) → AllLow most (map (λ (m : Made). m.entry) front) → IfSome (latest_in front mine) (λ t. t ≤ most)
latest_low most front [] low = tt
latest_low most front (n ∷ ns) low = or_low most (latest_in front ns) (ticket_of (slice_get front n)) (latest_low most front ns low) (low_at most front n low)

-- the latest ticket of a front whose journal is legal was given
pub latest_given : (g : Group) (front : List Made) (mine : List ℕ) → IsLegal g (past_in front) → IfSome (latest_in front mine) (λ ticket. IsGiven ticket (past_in front))
latest_given g front mine legal =
    let entries = map (λ (m : Made). m.entry) front in
    let most = length (proposals (past_in front)) in
    let low : AllLow most entries = subst (AllLow most) (reverse-reverse entries) (low_reverse most (reverse entries) (legal_low g (past_in front) legal)) in
    latest_low most front mine low
