-- Worked examples: what is shown of entities after some journals. The groups are two ToRs, each linked to two switches, with one promise
-- between them; each journal has the replies that its events call for.
use Rattle.std.proofs.Common.{◌≡◌, ℕ, true, false, Bool, List, [], ◌∷◌, ◌++◌, Option, Some, None, refl}
use Rattle.st_net.specs.declared.entity.Entity.{Entity}
use Rattle.st_net.specs.declared.entity.Entity.TheVariants.{Link}
use Rattle.st_net.specs.declared.entity.Prio.TheVariants.{High}
use Rattle.st_net.specs.declared.entity.Vals.{Vals}
use Rattle.st_net.specs.declared.entity.Var.TheVariants.{Power, Firmware}
use Rattle.st_event.specs.declared.event.Event.{Event}
use Rattle.st_event.specs.declared.event.Event.TheVariants.{Submit, Check, Lock, Send, Deliver, Report, Hear, Fail}
use Rattle.st_player.specs.declared.state.Carriage.{Carriage}
use Rattle.st_player.specs.declared.state.Carriage.TheVariants as in_net
use Rattle.st_player.specs.declared.state.Knowledge.{Knowledge}
use Rattle.st_player.specs.declared.state.Knowledge.TheVariants as known
use Rattle.st_player.specs.States.{state_of}
use Rattle.st_player.proofs.WorkedGroup.{a1, a2, l4, q, run, usual}

abbrev drained : Vals
drained = record { v0 = 1; v1 = 1; v2 = 1; v3 = 0 }

abbrev off : Vals
off = record { v0 = 0; v1 = 1; v2 = 1; v3 = 1 }

abbrev carriage : List Event → Entity → Carriage
carriage events e = (state_of q (run q events) e).carriage

abbrev knowledge : List Event → Entity → Knowledge
knowledge events e = (state_of q (run q events) e).knowledge

abbrev untold : List Event → Entity → Bool
untold events e = (state_of q (run q events) e).untold

abbrev change : List Event
change = Submit (record { 0 = 0 }) (record { entity = a2; var = Firmware; value = 2 } ∷ []) ∷ Check ∷ Send a2 ∷ Deliver 1 ∷ []

-- at the opening it is up and sure
up_at_opening : carriage [] a2 ≡ in_net.Up
unfolding state_of
up_at_opening = refl

sure_at_opening : knowledge [] a2 ≡ known.Sure
unfolding state_of
sure_at_opening = refl

-- a failure that no report has told: it has failed, and it is still known to be sure
failed_untold : carriage (Fail a2 usual 0 ∷ []) a2 ≡ in_net.Failed
unfolding state_of
failed_untold = refl

sure_untold : knowledge (Fail a2 usual 0 ∷ []) a2 ≡ known.Sure
unfolding state_of
sure_untold = refl

is_untold : untold (Fail a2 usual 0 ∷ []) a2 ≡ true
unfolding state_of
is_untold = refl

-- a report that was made before the failure takes the mark away from nobody
early_report : untold (Report a2 ∷ Fail a2 usual 0 ∷ Hear 1 ∷ []) a2 ≡ true
unfolding state_of
early_report = refl

-- one that was made behind it tells: settled, as its values are the target's, and not sure
told : untold (Fail a2 usual 0 ∷ Report a2 ∷ Hear 1 ∷ []) a2 ≡ false
unfolding state_of
told = refl

settled_told : knowledge (Fail a2 usual 0 ∷ Report a2 ∷ Hear 1 ∷ []) a2 ≡ known.Settled
unfolding state_of
settled_told = refl

-- a command in work, which the checker knows of by no report
in_work : carriage change a2 ≡ in_net.Busy
unfolding state_of
in_work = refl

on_its_way : knowledge change a2 ≡ known.Waiting
unfolding state_of
on_its_way = refl

-- what the change waits for can't be set at level 1
blocked : knowledge (Fail a2 usual 1 ∷ Report a2 ∷ Hear 1 ∷ Submit (record { 0 = 0 }) (record { entity = a2; var = Power; value = 0 } ∷ []) ∷ Check ∷ Fail a2 usual 0 ∷ Report a2 ∷ Hear 2 ∷ []) a2 ≡ known.Blocked
unfolding state_of
blocked = refl

-- no power, and no routing
without_power : carriage (Fail a2 off 5 ∷ []) a2 ≡ in_net.Off
unfolding state_of
without_power = refl

without_routing : carriage (Fail a2 drained 5 ∷ []) a2 ≡ in_net.Drained
unfolding state_of
without_routing = refl

-- a link is shut where an end of it is
shut : (state_of q (run q (Fail a2 usual 0 ∷ [])) (Link 1)).is_open ≡ Some false
unfolding state_of
shut = refl

still_open : (state_of q (run q (Fail a2 usual 0 ∷ [])) (Link 0)).is_open ≡ Some true
unfolding state_of
still_open = refl

-- a lock's holder
locked : (state_of q (run q (Lock (record { 0 = 1 }) a2 High ∷ [])) a2).high ≡ Some (record { 0 = 1 })
unfolding state_of
locked = refl

-- since which entry it is known: since the opening while no report is heard, and then since the entry that made the report, and not the one
-- that heard it
abbrev since : List Event → ℕ
since events = (state_of q (run q events) a2).told

since_opening : since [] ≡ 0
unfolding state_of
since_opening = refl

not_heard : since (Report a2 ∷ []) ≡ 0
unfolding state_of
not_heard = refl

of_another : since (Report a1 ∷ Hear 1 ∷ []) ≡ 0
unfolding state_of
of_another = refl

since_report : since (Fail a2 usual 0 ∷ Report a2 ∷ Hear 1 ∷ []) ≡ 2
unfolding state_of
since_report = refl

-- the failure stands behind the report that is kept, and is not told by it
since_before : since (Report a2 ∷ Fail a2 usual 0 ∷ Hear 1 ∷ []) ≡ 1
unfolding state_of
since_before = refl

-- an older report that is heard later is passed over
since_newer : since (Report a2 ∷ Report a2 ∷ Hear 2 ∷ Hear 1 ∷ []) ≡ 2
unfolding state_of
since_newer = refl

-- the health that its report tells
abbrev known_health : List Event → Entity → Option ℕ
known_health events e = (state_of q (run q events) e).health

health_at_opening : known_health [] a2 ≡ Some 5
unfolding state_of
health_at_opening = refl

health_in_part : known_health (Fail a2 usual 3 ∷ Report a2 ∷ Hear 1 ∷ []) a2 ≡ Some 3
unfolding state_of
health_in_part = refl

health_of_link : known_health (Fail l4 usual 0 ∷ Report l4 ∷ Hear 1 ∷ []) l4 ≡ Some 0
unfolding state_of
health_of_link = refl

-- a failure that no report has told leaves it
health_untold : known_health (Report a2 ∷ Fail a2 usual 3 ∷ Hear 1 ∷ []) a2 ≡ Some 5
unfolding state_of
health_untold = refl

-- without power, and while a command is in work, a report hides it
health_without_power : known_health (Fail a2 off 5 ∷ Report a2 ∷ Hear 1 ∷ []) a2 ≡ None
unfolding state_of
health_without_power = refl

health_at_work : known_health (change ++ Report a2 ∷ Hear 1 ∷ []) a2 ≡ None
unfolding state_of
health_at_work = refl
