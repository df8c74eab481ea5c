-- Withdraws behind Sends, worked: which Send calls for a Withdraw, and which entries answer; beside each point what the point alone refuses.
use Rattle.std.proofs.Common.{ℕ, ◌≡◌, ◌∙◌, List, [], ◌∷◌, ◌++◌, Some, None, refl, sym, subst}
use Rattle.std.specs.Prelude.{Option, false}
use Rattle.std.proofs.lemmas.List.{append-nil}
use Rattle.st_net.specs.declared.entity.Entity.{Entity}
use Rattle.st_net.specs.declared.entity.Entity.TheVariants.{Device}
use Rattle.st_net.specs.declared.entity.Row.{Row}
use Rattle.st_net.specs.declared.entity.Var.{Var}
use Rattle.st_net.specs.declared.entity.Var.TheVariants.{Power, Firmware}
use Rattle.st_net.specs.declared.entity.Vals.{Vals}
use Rattle.st_net.specs.declared.topo.DeviceOpening.{DeviceOpening}
use Rattle.st_net.specs.Groups.{Group, no_group}
use Rattle.st_event.specs.declared.event.Event.{Event}
use Rattle.st_event.specs.declared.event.Event.TheVariants.{Send, Finish, Withdraw}
use Rattle.st_event.specs.declared.journal.Entry.{Entry}
use Rattle.st_event.specs.declared.reply.Reply.{Reply}
use Rattle.st_event.specs.declared.reply.Reply.TheVariants.{Sent, Settled, Blocked, NotBusy, Withdrawn}
use Rattle.st_event.specs.Observed.{observed}
use Rattle.st_world.specs.World.{WorldView}
use Rattle.st_world.specs.Rounds.{AnswersCalls, DidWithdraw, WithdrawsAll, WithdrawsInTurn, calls_by, calls_for, withdraws}
use Rattle.st_world.specs.declared.world.rounds.Rounded.TheVariants.{Did, JournalFull}

-- two switches; no report tells of either, so each variable of theirs is observed to be 1
abbrev switch : DeviceOpening
switch = record { tor = false; vals = record { v0 = 1; v1 = 1; v2 = 1; v3 = 1 }; health = 5 }

abbrev g : Group
g = record no_group { devices = switch ∷ switch ∷ [] }

abbrev a1 : Entity
a1 = Device 0

abbrev a2 : Entity
a2 = Device 1

abbrev row : Var → ℕ → Row
row v value = record { entity = a1; var = v; value = value }

abbrev entry : Event → Reply → Entry
entry event reply = record { event = event; reply = reply }

-- a Send that is blocked by a row that would change a value calls for a Withdraw of its entity
abbrev calls : Event → Reply → Option Entity
calls = calls_by (observed g [])

a_change_is_blocked : calls (Send a1) (Blocked (row Firmware 2)) ≡ Some a1
a_change_is_blocked = refl

-- a Send does not call that is blocked by a row whose value is the observed one, or that is not blocked; nor does what is no Send
blocked_as_it_is : calls (Send a1) (Blocked (row Power 1)) ≡ None
blocked_as_it_is = refl

a_command_was_sent : calls (Send a1) (Sent 1) ≡ None
a_command_was_sent = refl

settled_already : calls (Send a1) Settled ≡ None
settled_already = refl

no_send : calls (Finish a1) (Blocked (row Firmware 2)) ≡ None
no_send = refl

-- entries that answer, the newest first
abbrev blocked : Entry
blocked = entry (Send a1) (Blocked (row Firmware 2))

abbrev withdrawn : Entity → Entry
withdrawn e = entry (Withdraw e) (Withdrawn 1 (row Firmware 1 ∷ []))

abbrev finished : Entry
finished = entry (Finish a1) NotBusy

answered : AnswersCalls g (finished ∷ withdrawn a1 ∷ blocked ∷ []) []
answered = (refl, (refl, (refl, tt)))

-- a Send that calls is answered by a Withdraw, of its own entity, and directly; what does not call is not answered
not_answered : AnswersCalls g (finished ∷ blocked ∷ []) [] → ⊥
not_answered is = let at = is.0 in cc at

another_is_withdrawn : AnswersCalls g (withdrawn a2 ∷ blocked ∷ []) [] → ⊥
another_is_withdrawn is = let at = is.0 in cc at

not_directly : AnswersCalls g (withdrawn a1 ∷ finished ∷ blocked ∷ []) [] → ⊥
not_directly is = let at = is.0 in cc at

not_called_for : AnswersCalls g (withdrawn a1 ∷ []) [] → ⊥
not_called_for is = let at = is.0 in cc at

-- of a world with these entries
abbrev world : List Entry → WorldView
world past = record { history = record { group = g; past = past }; lines = []; room = 0 }

made_is : (made past : List Entry) → past ≡ made ++ [] → made ≡ past
made_is made past all = sym (append-nil made) ∙ sym all

-- all of a round was entered: its last entry calls for none
all_answered : DidWithdraw (world []) (world (finished ∷ withdrawn a1 ∷ blocked ∷ [])) (Did 1)
all_answered = record { made = finished ∷ withdrawn a1 ∷ blocked ∷ []; all = refl; answers = answered; no_more = refl }

last_calls : WithdrawsAll (world []) (world (blocked ∷ [])) → ⊥
last_calls is = let none = subst (λ (made : List Entry). calls_for g made [] ≡ None) (made_is is.made (blocked ∷ []) is.all) is.no_more in cc none

-- a round that met a full journal may end at a Send that calls, but no Send before the last goes unanswered
cut_short : DidWithdraw (world []) (world (blocked ∷ [])) (JournalFull 200000)
cut_short = record { made = blocked ∷ []; all = refl; answers = (refl, tt) }

unanswered_before : WithdrawsInTurn (world []) (world (finished ∷ blocked ∷ [])) → ⊥
unanswered_before is = not_answered (subst (λ (made : List Entry). AnswersCalls g made []) (made_is is.made (finished ∷ blocked ∷ []) is.all) is.answers)
