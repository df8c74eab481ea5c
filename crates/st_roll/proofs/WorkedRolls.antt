-- Rolls of two paths, worked: two ToRs, each linked to two switches, with a promise of half the capacity between the two.
use Rattle.std.proofs.Common.{◌≡◌, ℕ, ◌≤◌, List, [], ◌∷◌, length, Option, Some, None, refl, ap, arith}
use Rattle.std.specs.List.{range_with_len}
use Rattle.std.specs.Prelude.{◌≢◌, Bool, true, false, replicate}
use Rattle.st_net.specs.Demands.{is_held_in}
use Rattle.st_net.specs.declared.entity.AppId.{AppId}
use Rattle.st_net.specs.declared.entity.Entity.TheVariants.{Device}
use Rattle.st_net.specs.declared.entity.Prio.TheVariants.{High}
use Rattle.st_net.specs.declared.promise.Broken.{Broken}
use Rattle.st_net.specs.declared.promise.BrokenKind.TheVariants.{CutOff}
use Rattle.st_net.specs.declared.promise.BrokenOf.TheVariants.{Promise as of_promise}
use Rattle.st_net.specs.declared.topo.DeviceOpening.{DeviceOpening}
use Rattle.st_net.specs.declared.topo.LinkOpening.{LinkOpening}
use Rattle.st_net.specs.Groups.{Group, no_group}
use Rattle.st_event.specs.declared.event.Event.TheVariants.{Submit, Check, Lock}
use Rattle.st_event.specs.declared.journal.Entry.{Entry}
use Rattle.st_event.specs.declared.reply.Cause.{Cause}
use Rattle.st_event.specs.declared.reply.Cause.TheVariants.{Locked, Broken as broken_cause}
use Rattle.st_event.specs.declared.reply.Reply.TheVariants.{Queued, Decided, Granted}
use Rattle.st_event.specs.declared.reply.Verdict.TheVariants.{Accepted}
use Rattle.st_event.specs.Standing.{Standing, standing_of}
use Rattle.st_roll.specs.declared.plan.Batch.{Batch}
use Rattle.st_roll.specs.declared.plan.Left.{Left}
use Rattle.st_roll.specs.declared.plan.Stuck.{Stuck}
use Rattle.st_roll.specs.declared.plan.Why.TheVariants.{Cause as for_cause, Full}
use Rattle.st_roll.specs.Firmware.{firmware_rows}
use Rattle.st_roll.specs.declared.plan.Roll.{Roll}
use Rattle.st_roll.specs.Kept.{IsBrokenBy, IsBehind, IsBatch, IsStuck, IsRoll, times, devices_in}
use Rattle.st_roll.specs.Refusal.{device_refusal, left_up}
use Rattle.st_roll.specs.Roll.{roll_of, is_at}

abbrev device : Bool → DeviceOpening
device tor = record { tor = tor; vals = record { v0 = 1; v1 = 1; v2 = 1; v3 = 1 }; health = 5 }

abbrev link : ℕ → ℕ → LinkOpening
link a b = record { a = a; b = b; capacity = 10; vals = record { v0 = 1; v1 = 1; v2 = 0; v3 = 0 }; health = 1 }

abbrev q : Group
q = record no_group {
  device_names = [] ∷ [] ∷ [] ∷ [] ∷ [];
  link_names = [] ∷ [] ∷ [] ∷ [] ∷ [];
  devices = device true ∷ device true ∷ device false ∷ device false ∷ [];
  links = link 0 2 ∷ link 0 3 ∷ link 1 2 ∷ link 1 3 ∷ [];
  promises = record { a = 0; b = 1; percent = 50 } ∷ [];
}

-- two applications
abbrev te : AppId
te = record { 0 = 0 }

abbrev up : AppId
up = record { 0 = 1 }

-- the ToRs and the switches
abbrev all : List ℕ
all = 0 ∷ 1 ∷ 2 ∷ 3 ∷ []

-- the ToRs are cut off, with these devices on the first one's side
abbrev cut_off : List ℕ → Broken
cut_off side = record { of = of_promise 0; kind = CutOff; need = 10; has = 0; side = side }

abbrev is_stuck : ℕ → List ℕ → Stuck
is_stuck d side = record { device = d; cause = broken_cause (cut_off side) }

abbrev batch : List ℕ → List Left → Batch
batch devices left = record { devices = devices; left = left }

abbrev waits : ℕ → List ℕ → Left
waits d side = record { device = d; why = for_cause (broken_cause (cut_off side)) }

abbrev opening : Standing
opening = standing_of q []

-- the switches take turns, and each ToR is cut off by itself
take_turns : roll_of q opening te all 2 ≡ record {
  batches = batch (2 ∷ []) (waits 3 (0 ∷ []) ∷ []) ∷ batch (3 ∷ []) [] ∷ [];
  stuck = is_stuck 0 (0 ∷ []) ∷ is_stuck 1 (0 ∷ 2 ∷ 3 ∷ []) ∷ [];
  same = [];
}
take_turns = refl

-- all open with firmware 1
all_are_same : roll_of q opening te all 1 ≡ record { batches = []; stuck = []; same = all }
all_are_same = refl

-- the first switch is to have the firmware, and reports another one yet: it is the same, and while it changes the second is stuck
abbrev asked : List Entry
asked =
    record { event = Check; reply = Decided (record { ticket = 1; entry = 2; verdict = Accepted 1 }) }
    ∷ record { event = Submit te (firmware_rows 2 (2 ∷ [])); reply = Queued 1 }
    ∷ []

same_by_the_target : roll_of q (standing_of q asked) te all 2 ≡ record {
  batches = [];
  stuck = is_stuck 0 (0 ∷ []) ∷ is_stuck 1 (0 ∷ 3 ∷ []) ∷ is_stuck 3 (0 ∷ []) ∷ [];
  same = 2 ∷ [];
}
same_by_the_target = refl

-- another application's lock bars the first switch, and not the second
abbrev locked : List Entry
locked = record { event = Lock up (Device 2) High; reply = Granted } ∷ []

one_is_locked : roll_of q (standing_of q locked) te (2 ∷ 3 ∷ []) 2 ≡ record {
  batches = batch (3 ∷ []) [] ∷ [];
  stuck = record { device = 2; cause = Locked (Device 2) up High } ∷ [];
  same = [];
}
one_is_locked = refl

-- both switches break the promise, for every application; so the second stays behind the first for that cause, and not for a full batch
both_break : IsBrokenBy q opening 2 (2 ∷ 3 ∷ []) (cut_off (0 ∷ []))
both_break = record { among = omega arith; holds = refl; fails = refl; refused = λ app none. absurd cc }

stays_behind : IsBehind q opening 2 (2 ∷ []) 3 (for_cause (broken_cause (cut_off (0 ∷ []))))
stays_behind = both_break

not_full : IsBehind q opening 2 (2 ∷ []) 3 Full → ⊥
not_full is = omega (arith, is)

-- one switch breaks nothing, and is stuck for no cause
one_breaks_nothing : IsBrokenBy q opening 2 (2 ∷ []) (cut_off (0 ∷ [])) → ⊥
one_breaks_nothing is = let fails = is.fails in cc

one_is_not_stuck : IsStuck q opening te 2 (is_stuck 2 (0 ∷ [])) → ⊥
one_is_not_stuck is = cc

-- a stuck device's cause is its own: without the second ToR three devices are on the first one's side
abbrev side_length : Option Cause → ℕ
side_length (Some (broken_cause broken)) = length broken.side
side_length _ = 0

not_of_another : IsStuck q opening te 2 (is_stuck 1 (0 ∷ [])) → ⊥
not_of_another is = let sides : 3 ≡ 1 = ap side_length is in omega (arith, sides)

-- there is no second promise
not_among : IsBrokenBy q opening 2 (2 ∷ 3 ∷ []) (record (cut_off (0 ∷ [])) { of = of_promise 1 }) → ⊥
not_among is = omega (arith, is.among)

-- while both switches change, the promise fails already, and a device that is not of the group can't be set: all but that it holds is so
abbrev both_asked : Standing
both_asked = standing_of q (
    record { event = Check; reply = Decided (record { ticket = 1; entry = 2; verdict = Accepted 1 }) }
    ∷ record { event = Submit te (firmware_rows 2 (2 ∷ 3 ∷ [])); reply = Queued 1 }
    ∷ [])

fails_before : IsBrokenBy q both_asked 2 (9 ∷ []) (cut_off (0 ∷ [])) → ⊥
fails_before is = let holds = is.holds in cc

it_fails : is_held_in q (left_up q both_asked (firmware_rows 2 (9 ∷ []))) 0 ≡ false
it_fails = refl

it_is_refused : (app : AppId) → device_refusal q both_asked app 2 (9 ∷ []) ≢ None
it_is_refused app none = absurd cc

-- a batch without devices would be accepted, and is none
the_empty_batch : device_refusal q opening te 2 [] ≡ None
the_empty_batch = refl

not_empty : IsBatch q opening te 2 (batch [] []) → ⊥
not_empty is = omega (arith, is.some)

-- nobody needs these switches: 17 of them would be accepted, and are too many for a batch
abbrev lone : Group
lone = record no_group { device_names = replicate 17 []; devices = replicate 17 (device false) }

abbrev seventeen : List ℕ
seventeen = range_with_len 0 17

they_are_accepted : device_refusal lone (standing_of lone []) te 2 seventeen ≡ None
they_are_accepted = refl

not_seventeen : IsBatch lone (standing_of lone []) te 2 (batch seventeen []) → ⊥
not_seventeen is = let few : 17 ≤ 16 = is.few in omega (arith, few)

-- both switches at once are refused, and so they are no batch
not_both : IsBatch q opening te 2 (batch (2 ∷ 3 ∷ []) []) → ⊥
not_both is = let accepted = is.accepted in cc

-- a batch of one is not full, and so it leaves nobody as full
not_left_as_full : IsBatch q opening te 2 (batch (2 ∷ []) (record { device = 3; why = Full } ∷ [])) → ⊥
not_left_as_full is = let full : 16 ≤ 1 = is.behind 0 (waits 3 []) (omega arith) in omega (arith, full)

-- rolls of one switch, which is taken by itself
abbrev roll_with : List Batch → List Stuck → List ℕ → Roll
roll_with batches stuck same = record { batches = batches; stuck = stuck; same = same }

one_switch : roll_of q opening te (2 ∷ []) 2 ≡ roll_with (batch (2 ∷ []) [] ∷ []) [] []
one_switch = refl

-- its target has another firmware
not_the_same : IsRoll q opening te (2 ∷ []) 2 (roll_with [] [] (2 ∷ [])) → ⊥
not_the_same is = let same : false ≡ true = is.same 0 0 (omega arith) in cc

-- it is not stuck
not_stuck : IsRoll q opening te (2 ∷ []) 2 (roll_with [] (is_stuck 2 (0 ∷ []) ∷ []) []) → ⊥
not_stuck is = let stuck : None ≡ Some (broken_cause (cut_off (0 ∷ []))) = is.stuck 0 (is_stuck 0 []) (omega arith) in cc

-- it is in one part, and there once
not_left_out : IsRoll q opening te (2 ∷ []) 2 (roll_with [] [] []) → ⊥
not_left_out is = let each : 0 ≡ 1 = is.each 2 in omega (arith, each)

not_twice : IsRoll q opening te (2 ∷ []) 2 (roll_with (batch (2 ∷ []) [] ∷ batch (2 ∷ []) [] ∷ []) [] []) → ⊥
not_twice is = let each : 2 ≡ 1 = is.each 2 in omega (arith, each)

-- both switches are no batch of a roll
not_at_once : IsRoll q opening te (2 ∷ 3 ∷ []) 2 (roll_with (batch (2 ∷ 3 ∷ []) [] ∷ []) [] []) → ⊥
not_at_once is = let both = is.batches 0 (batch [] []) (omega arith) in not_both both
