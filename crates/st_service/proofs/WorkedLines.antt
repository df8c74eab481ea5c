-- Worked examples on lines: batches laid end to end, the places of a pass, whose requests are whose, and tickets.
use Rattle.std.proofs.Common.{◌≡◌, ℕ, zero, suc, ◌<◌, List, [], ◌∷◌, length, Some, None, slice_index, refl, ap, arith}
use Rattle.std.specs.Prelude.{true, false, map}
use Rattle.st_net.specs.declared.entity.Prio.TheVariants.{Low}
use Rattle.st_event.specs.declared.event.Event.{Event}
use Rattle.st_event.specs.declared.event.Event.TheVariants.{Submit, Check, Lock, Unlock, Send, Deliver, Finish, Report, Hear, Fail, Withdraw}
use Rattle.st_event.specs.declared.journal.Entry.{Entry}
use Rattle.st_event.specs.declared.reply.Reply.TheVariants.{Queued, Full, Granted, Idle}
use Rattle.st_service.specs.declared.line.Batch.{Batch}
use Rattle.st_service.specs.Asked.{asker, is_request, is_of, is_own, all_asked, all_own, requests_of, requests_in}
use Rattle.st_service.specs.Lines.{flat, numbers}
use Rattle.st_service.specs.Made.{Made, past_in, maker, IsMine}
use Rattle.st_service.specs.Tickets.{ticket_in, ticket_of, last_ticket, latest_in}
use Rattle.st_service.proofs.WorkedJournals.{usual, a1, app, firmware, lock, unlock, idle, made}

-- Lines

abbrev batch : ℕ → List Entry → Batch
batch n entries = record { by = n; entries = entries }

-- two batches end to end, each entry with the pass of its batch; a batch of nothing leaves nothing
two_batches : flat (batch 0 (lock 0 ∷ idle ∷ []) ∷ batch 2 [] ∷ batch 1 (idle ∷ []) ∷ []) ≡ made 0 (lock 0) ∷ made 0 idle ∷ made 1 idle ∷ []
two_batches = refl

no_batch : flat [] ≡ []
no_batch = refl

-- a batch of another pass is another front
not_another_pass : flat (batch 0 (idle ∷ []) ∷ []) ≡ flat (batch 1 (idle ∷ []) ∷ []) → ⊥
not_another_pass e = absurd (omega (arith, ap (λ (f : List Made). maker f 0) e))

-- the order of the batches is that of the front
not_another_order : flat (batch 0 (idle ∷ []) ∷ batch 1 (idle ∷ []) ∷ []) ≡ flat (batch 1 (idle ∷ []) ∷ batch 0 (idle ∷ []) ∷ []) → ⊥
not_another_order e = absurd (omega (arith, ap (λ (f : List Made). maker f 0) e))

-- three numbers from 5 on, and none
three_numbers : numbers 5 3 ≡ 5 ∷ 6 ∷ 7 ∷ []
three_numbers = refl

no_numbers : numbers 5 0 ≡ []
no_numbers = refl

-- Journals of fronts

-- pass 0 has the lock, pass 1 checks, and pass 0 gives it back
abbrev pub three : List Made
three = made 0 (lock 0) ∷ made 1 idle ∷ made 0 (unlock 0) ∷ []

-- the newest entry stands first
newest_first : past_in three ≡ unlock 0 ∷ idle ∷ lock 0 ∷ []
newest_first = refl

makers_of_three : (maker three 0 ≡ 0) × (maker three 1 ≡ 1) × (maker three 2 ≡ 0)
makers_of_three = (refl, refl, refl)

-- Places of a pass

within : (k : ℕ) → k < 2 → slice_index (0 ∷ 2 ∷ []) k < 3
within zero lt = omega arith
within (suc zero) lt = omega arith
within (suc (suc k)) lt = absurd (omega (arith, lt))

made_so : (k : ℕ) → k < 2 → maker three (slice_index (0 ∷ 2 ∷ []) k) ≡ 0
made_so zero lt = refl
made_so (suc zero) lt = refl
made_so (suc (suc k)) lt = absurd (omega (arith, lt))

rising : (j k : ℕ) → j < k → k < 2 → slice_index (0 ∷ 2 ∷ []) j < slice_index (0 ∷ 2 ∷ []) k
rising j zero less lt = absurd (omega (arith, less))
rising zero (suc zero) less lt = omega arith
rising (suc j) (suc zero) less lt = absurd (omega (arith, less))
rising j (suc (suc k)) less lt = absurd (omega (arith, lt))

pub places : IsMine 0 three (0 ∷ 2 ∷ [])
places = record { within = within; made = made_so; rising = rising }

-- no place, of a pass that made nothing or leaves out what it made, and one place: a list need not have all of them
pub no_places : (n : ℕ) (front : List Made) → IsMine n front []
no_places n front = record { within = λ k lt. absurd (omega (arith, lt)); made = λ k lt. absurd (omega (arith, lt)); rising = λ j k less lt. absurd (omega (arith, lt)) }

one_within : (i : ℕ) (front : List Made) → i < length front → (k : ℕ) → k < 1 → slice_index (i ∷ []) k < length front
one_within i front low zero lt = low
one_within i front low (suc k) lt = absurd (omega (arith, lt))

one_made : (n i : ℕ) (front : List Made) → maker front i ≡ n → (k : ℕ) → k < 1 → maker front (slice_index (i ∷ []) k) ≡ n
one_made n i front by zero lt = by
one_made n i front by (suc k) lt = absurd (omega (arith, lt))

pub one_place : (n i : ℕ) (front : List Made) → i < length front → maker front i ≡ n → IsMine n front (i ∷ [])
one_place n i front low by = record { within = one_within i front low; made = one_made n i front by; rising = λ j k less lt. absurd (omega (arith, less, lt)) }

-- a place behind the end, where `maker` answers 0
pub not_behind_the_end : (maker three 3 ≡ 0) × (IsMine 0 three (0 ∷ 3 ∷ []) → ⊥)
not_behind_the_end = (refl, λ m. absurd (omega (arith, m.within 1 (omega arith))))

-- a place of another's entry
pub not_anothers : IsMine 0 three (0 ∷ 1 ∷ []) → ⊥
not_anothers m = absurd (omega (arith, m.made 1 (omega arith)))

-- places that fall, and one that is named twice
pub not_falling : IsMine 0 three (2 ∷ 0 ∷ []) → ⊥
not_falling m = absurd (omega (arith, m.rising 0 1 (omega arith) (omega arith)))

pub not_twice : IsMine 0 three (2 ∷ 2 ∷ []) → ⊥
not_twice m = absurd (omega (arith, m.rising 0 1 (omega arith) (omega arith)))

-- Requests

-- one event of each kind, of application 3 where it names one
abbrev each_kind : List Event
each_kind = Submit (app 3) (firmware 2) ∷ Check ∷ Lock (app 3) a1 Low ∷ Unlock (app 3) a1 Low ∷ Send a1 ∷ Deliver 1 ∷ Finish a1 ∷ Report a1 ∷ Hear 1 ∷ Fail a1 usual 5 ∷ Withdraw a1 ∷ []

-- three of the eleven kinds are requests
askers : map asker each_kind ≡ Some 3 ∷ None ∷ Some 3 ∷ Some 3 ∷ None ∷ None ∷ None ∷ None ∷ None ∷ None ∷ None ∷ []
askers = refl

-- a request of 3 is of 3 alone; what is no request is nobody's, and anybody's own
of_three : (is_request (Some 3) ≡ true) × (is_of 3 (Some 3) ≡ true) × (is_of 4 (Some 3) ≡ false) × (is_own 3 (Some 3) ≡ true) × (is_own 4 (Some 3) ≡ false)
of_three = (refl, refl, refl, refl, refl)

of_nobody : (is_request None ≡ false) × (is_of 3 None ≡ false) × (is_own 3 None ≡ true)
of_nobody = (refl, refl, refl)

-- each request by its own pass, and a check by any
own_requests : all_asked (made 0 (lock 0) ∷ made 7 idle ∷ made 1 (lock 1) ∷ []) ≡ true
own_requests = refl

-- one by another pass, in the first place or in the last, is refused
not_anothers_request : (all_asked (made 1 (lock 0) ∷ made 1 (lock 1) ∷ []) ≡ false) × (all_asked (made 1 (lock 1) ∷ made 1 (lock 0) ∷ []) ≡ false)
not_anothers_request = (refl, refl)

own_entries : (all_own 0 [] ≡ true) × (all_own 0 (lock 0 ∷ idle ∷ unlock 0 ∷ []) ≡ true)
own_entries = (refl, refl)

not_own_entries : (all_own 1 (lock 0 ∷ idle ∷ []) ≡ false) × (all_own 0 (idle ∷ lock 0 ∷ lock 1 ∷ []) ≡ false)
not_own_entries = (refl, refl)

-- the places of what names application 0, from 0 and from 5 on, whoever made it
requests_of_0 : (requests_of 0 0 three ≡ 0 ∷ 2 ∷ []) × (requests_of 0 5 three ≡ 5 ∷ 7 ∷ []) × (requests_of 0 0 (made 9 (lock 0) ∷ []) ≡ 0 ∷ [])
requests_of_0 = (refl, refl, refl)

-- none names application 1, though its pass made the check
requests_of_1 : requests_of 1 0 three ≡ []
requests_of_1 = refl

-- of these places those of requests, in their order; a check and what is behind the end are none
requests_at : (requests_in three (2 ∷ 1 ∷ 0 ∷ 3 ∷ []) ≡ 2 ∷ 0 ∷ []) × (requests_in three [] ≡ [])
requests_at = (refl, refl)

-- Tickets

abbrev queued : ℕ → Entry
queued n = record { event = Submit (app 0) (firmware 2); reply = Queued n }

abbrev full : Entry
full = record { event = Submit (app 0) (firmware 2); reply = Full 64 }

-- a place in the queue is a ticket, and no other reply is
ticket_replies : (ticket_in (Queued 4) ≡ Some 4) × (ticket_in (Full 64) ≡ None) × (ticket_in Granted ≡ None) × (ticket_in Idle ≡ None)
ticket_replies = (refl, refl, refl, refl)

tickets_of : (ticket_of (Some (made 0 (queued 4))) ≡ Some 4) × (ticket_of (Some (made 0 full)) ≡ None) × (ticket_of None ≡ None)
tickets_of = (refl, refl, refl)

-- the last one counts, and not the first; a refused proposal behind it takes nothing away
last_counts : (last_ticket (queued 4 ∷ idle ∷ queued 6 ∷ full ∷ []) ≡ Some 6) × (last_ticket (full ∷ idle ∷ []) ≡ None) × (last_ticket [] ≡ None)
last_counts = (refl, refl, refl)

-- pass 0 has tickets 4 and 6, pass 1 has 5, and the last proposal of pass 0 found the queue full
abbrev three_tickets : List Made
three_tickets = made 0 (queued 4) ∷ made 1 (queued 5) ∷ made 0 (queued 6) ∷ made 0 full ∷ []

latest_of_each : (latest_in three_tickets (0 ∷ 2 ∷ 3 ∷ []) ≡ Some 6) × (latest_in three_tickets (0 ∷ []) ≡ Some 4) × (latest_in three_tickets (1 ∷ []) ≡ Some 5)
latest_of_each = (refl, refl, refl)

-- of no place, of a place without a ticket, and of one behind the end
latest_of_none : (latest_in three_tickets [] ≡ None) × (latest_in three_tickets (3 ∷ []) ≡ None) × (latest_in three_tickets (4 ∷ []) ≡ None)
latest_of_none = (refl, refl, refl)
