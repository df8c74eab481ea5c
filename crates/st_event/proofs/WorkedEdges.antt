-- More small journals, computed: what does not come, and which of two things comes first.
use Rattle.std.proofs.Common.{◌≡◌, ℕ, List, [], ◌∷◌, ◌++◌, Some, None, refl}
use Rattle.std.specs.Prelude.{true, false, map, codes, take}
use Rattle.st_net.specs.declared.entity.Entity.{Entity}
use Rattle.st_net.specs.declared.entity.Entity.TheVariants.{Device, Link}
use Rattle.st_net.specs.declared.entity.Row.{Row}
use Rattle.st_net.specs.declared.entity.Var.TheVariants.{Power, Firmware, Config, Routing, LinkPower, Iface}
use Rattle.st_net.specs.declared.entity.Prio.TheVariants.{Low, High}
use Rattle.st_event.specs.declared.journal.Entry.{Entry}
use Rattle.st_event.specs.declared.event.Event.{Event}
use Rattle.st_event.specs.declared.event.Event.TheVariants.{Submit, Check, Lock, Unlock, Send, Deliver, Finish, Report as make_report, Hear, Fail, Withdraw}
use Rattle.st_event.specs.declared.reply.Reply.{Reply}
use Rattle.st_event.specs.declared.reply.Reply.TheVariants.{Queued, Granted, Released, NotYours, Sent, Blocked, Begun, Stale, NoSuch, Done, Reported, Taken, Old, Changed}
use Rattle.st_event.specs.declared.reply.Verdict.TheVariants.{Accepted, Refused}
use Rattle.st_event.specs.declared.reply.Lack.TheVariants.{Level}
use Rattle.st_event.specs.declared.reply.Cause.TheVariants.{NotControllable, Locked, Broken as broken_cause}
use Rattle.st_net.specs.declared.promise.Broken.{Broken}
use Rattle.st_net.specs.declared.promise.BrokenKind.TheVariants.{CutOff, Short}
use Rattle.st_net.specs.declared.promise.BrokenOf.TheVariants.{Promise as of_promise}
use Rattle.st_net.specs.Groups.{Group, no_group, promise_of}
use Rattle.st_net.specs.Asks.{ask_count, ask_of}
use Rattle.st_net.specs.Demands.{demand_count, HoldsIn, is_held_in, held_list, first_broken_of, broken_demand, broken_pair}
use Rattle.st_net.specs.Promises.{Keeps, is_kept, need_of}
use Rattle.st_event.specs.Proposals.{accepted, overlay_in, overlays, target}
use Rattle.st_event.specs.Moments.{is_altered_by, stamp, vals}
use Rattle.st_event.specs.Observed.{is_settled, sure, actual, untold, failed_between}
use Rattle.st_event.specs.Replies.{reply}
use Rattle.st_event.specs.Standing.{standing_of}
use Rattle.st_event.specs.Versions.{value_at, versions_after}
use Rattle.st_event.proofs.SmallGroups.{device_vals, usual, device, wide_link, link, two_paths, small, two_promises, q, t1, a1, a2, after, replies, te, up, row, propose, decided, breaks}
use Rattle.st_event.specs.Past.{target_at, is_spoiled}

-- Failures and what is known of them

-- a failure stands behind its entity's report of one number and before that of a greater one, and between no others
abbrev two_failures : List Event
two_failures = make_report a1 ∷ Fail a1 usual 5 ∷ make_report a1 ∷ make_report a2 ∷ Fail a1 usual 5 ∷ []

between_its_reports : (failed_between (after q two_failures) a1 0 1 ≡ false) × (failed_between (after q two_failures) a1 1 2 ≡ true) × (failed_between (after q two_failures) a1 2 3 ≡ true) × (failed_between (after q two_failures) a1 0 2 ≡ true) × (failed_between (after q two_failures) a2 0 1 ≡ false)
between_its_reports = (refl, refl, refl, refl, refl)

-- a failure is untold until a report that was made behind it is heard
told_by_later_report : (untold q (after q (make_report a1 ∷ Hear 1 ∷ Fail a1 usual 0 ∷ [])) a1 ≡ true) × (untold q (after q (Fail a1 usual 0 ∷ make_report a1 ∷ Hear 1 ∷ [])) a1 ≡ false) × (untold q (after q (make_report a1 ∷ Fail a1 usual 0 ∷ make_report a1 ∷ Hear 1 ∷ [])) a1 ≡ true) × (untold q (after q (make_report a1 ∷ Fail a1 usual 0 ∷ make_report a1 ∷ Hear 1 ∷ Hear 2 ∷ [])) a1 ≡ false)
told_by_later_report = (refl, refl, refl, refl)

untold_is_sure_and_down : let past = after q (make_report a1 ∷ Fail a1 usual 0 ∷ make_report a1 ∷ Hear 1 ∷ []) in (sure q past a1 ≡ true) × (actual q past a1 ≡ false)
untold_is_sure_and_down = (refl, refl)

-- an update that was finished behind a failure has the command's values, and nothing of the failure is left to tell
abbrev failed_at_work : List Event
failed_at_work = propose up a1 Firmware 2 ∷ Check ∷ Send a1 ∷ Deliver 1 ∷ Fail a1 (device_vals 1 7 1 1) 5 ∷ Finish a1 ∷ make_report a1 ∷ Hear 1 ∷ []

finished_behind_failure : (vals q (after q failed_at_work) a1 ≡ device_vals 1 2 1 1) × (sure q (after q failed_at_work) a1 ≡ true) × (actual q (after q failed_at_work) a1 ≡ true) × (untold q (after q failed_at_work) a1 ≡ false)
finished_behind_failure = (refl, refl, refl, refl)

spoiled_until_finished : (is_spoiled q (after q (take 5 failed_at_work)) a1 ≡ true) × (is_spoiled q (after q failed_at_work) a1 ≡ false)
spoiled_until_finished = (refl, refl)

-- Lacks

-- a first ToR, a first switch and a first link of these levels
abbrev three_devices : ℕ → ℕ → ℕ → Group
three_devices t a l = record no_group {
  name = codes "dc1";
  device_names = codes "t1" ∷ codes "t2" ∷ codes "a1" ∷ [];
  link_names = codes "l1" ∷ codes "l2" ∷ [];
  devices = device true usual t ∷ device true usual 5 ∷ device false usual a ∷ [];
  links = record { a = 0; b = 2; capacity = 10; vals = record { v0 = 1; v1 = 1; v2 = 0; v3 = 0 }; health = l } ∷ link 1 2 ∷ [];
}

-- of a link's lacks the first end's stands before the second's, and both before its own
first_end_first : replies (three_devices 2 3 0) (propose up (Link 0) Iface 2 ∷ Check ∷ []) ≡ Queued 1 ∷ decided 1 2 (Refused (NotControllable (row (Link 0) Iface 2) (Level t1 2 4))) ∷ []
first_end_first = refl

second_end_next : replies (three_devices 5 3 0) (propose up (Link 0) Iface 2 ∷ Check ∷ []) ≡ Queued 1 ∷ decided 1 2 (Refused (NotControllable (row (Link 0) Iface 2) (Level (Device 2) 3 4))) ∷ []
second_end_next = refl

-- a link without its level takes no interface, and takes its power
own_level_last : replies (three_devices 5 4 0) (propose up (Link 0) Iface 2 ∷ Check ∷ propose up (Link 0) LinkPower 0 ∷ Check ∷ []) ≡ Queued 1 ∷ decided 1 2 (Refused (NotControllable (row (Link 0) Iface 2) (Level (Link 0) 0 1))) ∷ Queued 2 ∷ decided 2 4 (Accepted 1) ∷ []
own_level_last = refl

-- the level stands before the power
level_before_power : let g = two_paths 50 (device false usual 2) (device false usual 5) in replies g (Submit up (row a1 Power 0 ∷ row a1 Config 2 ∷ []) ∷ Check ∷ []) ≡ Queued 1 ∷ decided 1 2 (Refused (NotControllable (row a1 Config 2) (Level a1 2 3))) ∷ []
level_before_power = refl

-- a device that opens off has level 1: it takes its power and no firmware
off_has_level_one : let g = two_paths 50 (device false (device_vals 0 1 1 1) 5) (device false usual 5) in replies g (Submit up (row a1 Power 1 ∷ row a1 Firmware 2 ∷ []) ∷ Check ∷ propose up a1 Power 1 ∷ Check ∷ []) ≡ Queued 1 ∷ decided 1 2 (Refused (NotControllable (row a1 Firmware 2) (Level a1 1 2))) ∷ Queued 2 ∷ decided 2 4 (Accepted 1) ∷ []
off_has_level_one = refl

-- a lack of a later row stands before a lock on an earlier one
lack_before_lock : let g = two_paths 50 (device false usual 5) (device false usual 0) in replies g (Lock te a1 Low ∷ Submit up (row a1 Firmware 2 ∷ row a2 Routing 0 ∷ []) ∷ Check ∷ []) ≡ Granted ∷ Queued 1 ∷ decided 1 3 (Refused (NotControllable (row a2 Routing 0) (Level a2 0 4))) ∷ []
lack_before_lock = refl

-- Commands

-- values that came of themselves to the target's are sent all the same, by the level that power needs, and leave the stamp
power_governs : replies q (propose up a1 Firmware 2 ∷ Check ∷ Fail a1 (device_vals 1 2 1 1) 5 ∷ make_report a1 ∷ Hear 1 ∷ Send a1 ∷ []) ≡ Queued 1 ∷ decided 1 2 (Accepted 1) ∷ Changed ∷ Reported 1 ∷ Taken ∷ Sent 1 ∷ []
power_governs = refl

power_blocks : replies q (propose up a1 Firmware 2 ∷ Check ∷ Fail a1 (device_vals 1 2 1 1) 0 ∷ make_report a1 ∷ Hear 1 ∷ Send a1 ∷ []) ≡ Queued 1 ∷ decided 1 2 (Accepted 1) ∷ Changed ∷ Reported 1 ∷ Taken ∷ Blocked (row a1 Power 1) ∷ []
power_blocks = refl

same_values_renew_nothing : stamp q (after q (propose up a1 Firmware 2 ∷ Check ∷ Fail a1 (device_vals 1 2 1 1) 5 ∷ make_report a1 ∷ Hear 1 ∷ [])) a1 ≡ 2
same_values_renew_nothing = refl

-- a report that was made at work neither settles nor renews, and its level blocks
abbrev heard_at_work : List Event
heard_at_work = propose up a1 Firmware 2 ∷ Check ∷ Send a1 ∷ Deliver 1 ∷ make_report a1 ∷ Hear 1 ∷ []

busy_report_settles_nothing : (stamp q (after q heard_at_work) a1 ≡ 2) × (is_settled q (after q heard_at_work) a1 ≡ false) × (reply q (after q heard_at_work) (Send a1) ≡ Blocked (row a1 Firmware 2))
busy_report_settles_nothing = (refl, refl, refl)

-- a command whose stamp is the fence is stale
equal_stamp_is_stale : replies q (propose up a1 Firmware 2 ∷ Check ∷ Send a1 ∷ Deliver 1 ∷ Deliver 1 ∷ Finish a1 ∷ Deliver 1 ∷ []) ≡ Queued 1 ∷ decided 1 2 (Accepted 1) ∷ Sent 1 ∷ Begun ∷ Stale 2 ∷ Done ∷ Stale 2 ∷ []
equal_stamp_is_stale = refl

-- numbers of messages, and numbers of one entity's reports, are two things
two_numbers_of_a_report : replies q (make_report a1 ∷ make_report a2 ∷ make_report a1 ∷ Hear 3 ∷ Hear 1 ∷ Hear 2 ∷ Hear 4 ∷ []) ≡ Reported 1 ∷ Reported 2 ∷ Reported 3 ∷ Taken ∷ Old 2 ∷ Taken ∷ NoSuch 3 ∷ []
two_numbers_of_a_report = refl

-- Promises

-- two ways from the first device to the second, over a switch that both take
abbrev one_way_in : ℕ → ℕ → Group
one_way_in from to = record no_group {
  name = codes "dc1";
  device_names = codes "t1" ∷ codes "t2" ∷ codes "a1" ∷ codes "a2" ∷ [];
  link_names = codes "l1" ∷ codes "l2" ∷ codes "l3" ∷ codes "l4" ∷ [];
  devices = device true usual 5 ∷ device true usual 5 ∷ device false usual 5 ∷ device false usual 5 ∷ [];
  links = wide_link 0 2 30 ∷ wide_link 2 1 10 ∷ wide_link 2 3 10 ∷ wide_link 3 1 10 ∷ [];
  promises = record { a = from; b = to; percent = 100 } ∷ [];
}

-- the least side is not always the first ToR alone, and is that of the promise's first end
side_of_two : replies (one_way_in 0 1) (propose up a2 Firmware 2 ∷ Check ∷ []) ≡ Queued 1 ∷ decided 1 2 (Refused (broken_cause (record { of = of_promise 0; kind = Short; need = 20; has = 10; side = 0 ∷ 2 ∷ [] }))) ∷ []
side_of_two = refl

side_of_other_end : replies (one_way_in 1 0) (propose up a2 Firmware 2 ∷ Check ∷ []) ≡ Queued 1 ∷ decided 1 2 (Refused (broken_cause (record { of = of_promise 0; kind = Short; need = 20; has = 10; side = 1 ∷ [] }))) ∷ []
side_of_other_end = refl

-- a promise of 0 percent asks for a walk
walk_is_asked_for : replies (small 0) (propose up a1 Routing 0 ∷ propose up a2 Routing 0 ∷ Check ∷ Check ∷ []) ≡ Queued 1 ∷ Queued 2 ∷ decided 1 3 (Accepted 1) ∷ decided 2 4 (breaks CutOff 0 0) ∷ []
walk_is_asked_for = refl

-- a pair that is never joined needs 0; its promise does not hold, and refuses nothing
abbrev never_joined : Group
never_joined = record no_group {
  name = codes "dc1";
  device_names = codes "t1" ∷ codes "t2" ∷ codes "a1" ∷ [];
  link_names = codes "l1" ∷ [];
  devices = device true usual 5 ∷ device true usual 5 ∷ device false usual 5 ∷ [];
  links = link 0 2 ∷ [];
  promises = record { a = 0; b = 1; percent = 100 } ∷ [];
}

never_held_refuses_nothing : (need_of never_joined (promise_of never_joined 0) ≡ 0) × (is_kept never_joined (actual never_joined []) (promise_of never_joined 0) ≡ false) × (replies never_joined (propose up t1 Firmware 2 ∷ Check ∷ []) ≡ Queued 1 ∷ decided 1 2 (Accepted 1) ∷ [])
never_held_refuses_nothing = (refl, refl, refl)

-- a need is rounded up
need_rounds_up : map (λ n. need_of (small n) (promise_of (small n) 0)) (0 ∷ 1 ∷ 5 ∷ 50 ∷ 51 ∷ 99 ∷ 100 ∷ []) ≡ 0 ∷ 1 ∷ 1 ∷ 10 ∷ 11 ∷ 20 ∷ 20 ∷ []
need_rounds_up = refl

-- two rows' entities leave the sure set together; the entity of a row that alters nothing stays
rows_leave_together : replies q (Submit up (row a1 Firmware 2 ∷ row a2 Firmware 2 ∷ []) ∷ Check ∷ Submit up (row a1 Firmware 2 ∷ row a2 Firmware 1 ∷ []) ∷ Check ∷ []) ≡ Queued 1 ∷ decided 1 2 (breaks CutOff 10 0) ∷ Queued 2 ∷ decided 2 4 (Accepted 1) ∷ []
rows_leave_together = refl

-- Demands

-- three ToRs at one switch, all of them up at the opening, and with the second one drained
abbrev all_up : Group
all_up = two_promises (device true usual 5)

abbrev one_drained : Group
one_drained = two_promises (device true (device_vals 1 1 1 0) 5)

abbrev switch : Entity
switch = Device 3

-- the demands are the promises, by their numbers
demands_are_promises : (demand_count all_up ≡ 2) × (HoldsIn all_up (actual all_up []) 0 ≡ Keeps all_up (actual all_up []) (record { a = 0; b = 1; percent = 50 })) × (HoldsIn all_up (actual all_up []) 1 ≡ Keeps all_up (actual all_up []) (record { a = 0; b = 2; percent = 80 }))
demands_are_promises = (refl, refl, refl)

-- each is told by its number
demands_told : (map (is_held_in all_up (actual all_up [])) (0 ∷ 1 ∷ []) ≡ true ∷ true ∷ []) × (map (is_held_in one_drained (actual one_drained [])) (0 ∷ 1 ∷ []) ≡ false ∷ true ∷ [])
demands_told = (refl, refl)

-- and all of them in order
all_demands_told : (held_list all_up (actual all_up []) ≡ true ∷ true ∷ []) × (held_list one_drained (actual one_drained []) ≡ false ∷ true ∷ [])
all_demands_told = (refl, refl)

-- what is asked of the network is the promises, by their numbers
asks_are_promises : (ask_count all_up ≡ 2) × (map (ask_of all_up) (0 ∷ 1 ∷ []) ≡ record { a = 0; b = 1; percent = 50 } ∷ record { a = 0; b = 2; percent = 80 } ∷ [])
asks_are_promises = (refl, refl)

-- a broken one has the number of its own promise, and its pair in the order in which that was declared
number_of_broken : let broken : ℕ → Broken = λ i. record { of = of_promise i; kind = CutOff; need = 5; has = 0; side = 0 ∷ [] } in (broken_demand all_up (broken 0) ≡ 0) × (broken_demand all_up (broken 1) ≡ 1)
number_of_broken = (refl, refl)

pair_of_broken : let broken : ℕ → Broken = λ i. record { of = of_promise i; kind = CutOff; need = 5; has = 0; side = 0 ∷ [] } in (broken_pair all_up (broken 0) ≡ (0, 1)) × (broken_pair all_up (broken 1) ≡ (0, 2)) × (broken_pair (one_way_in 1 0) (broken 0) ≡ (1, 0))
pair_of_broken = (refl, refl, refl)

-- of two demands that break the first one is named, with its number, its need and its side
first_is_named : replies all_up (propose up switch Firmware 2 ∷ Check ∷ []) ≡ Queued 1 ∷ decided 1 2 (breaks CutOff 5 0) ∷ []
first_is_named = refl

-- the second promise is broken, of this side
abbrev breaks_second : List ℕ → Reply
breaks_second side = decided 1 2 (Refused (broken_cause (record { of = of_promise 1; kind = CutOff; need = 8; has = 0; side = side })))

-- one that failed before is passed over, and so is one that goes on to hold; what is named has its number among all
failed_before_is_passed : replies one_drained (propose up switch Firmware 2 ∷ Check ∷ []) ≡ Queued 1 ∷ breaks_second (0 ∷ []) ∷ []
failed_before_is_passed = refl

held_on_is_passed : replies all_up (propose up (Device 2) Firmware 2 ∷ Check ∷ []) ≡ Queued 1 ∷ breaks_second (0 ∷ 1 ∷ 3 ∷ []) ∷ []
held_on_is_passed = refl

-- with the same set before and after nothing is broken, also where a demand does not hold
nothing_is_broken : (first_broken_of all_up (actual all_up []) (actual all_up []) ≡ None) × (first_broken_of one_drained (actual one_drained []) (actual one_drained []) ≡ None)
nothing_is_broken = (refl, refl)

-- Overlays and versions

abbrev two_rows : List Row
two_rows = row a1 Firmware 2 ∷ row a2 Firmware 1 ∷ []

-- a check overlays what it accepts; a refusal overlays nothing, and neither does another event, whatever its reply says
overlaid_by_acceptance : (overlay_in Check (decided 1 2 (Accepted 1)) two_rows ≡ Some two_rows) × (overlay_in Check (decided 1 2 (breaks CutOff 5 0)) two_rows ≡ None) × (overlay_in Check Granted two_rows ≡ None)
overlaid_by_acceptance = (refl, refl, refl)

overlaid_by_checks_alone : map (λ event. overlay_in event (decided 1 2 (Accepted 1)) two_rows) (Submit up two_rows ∷ Lock up a1 Low ∷ Unlock up a1 Low ∷ Send a1 ∷ Deliver 1 ∷ Finish a1 ∷ make_report a1 ∷ Hear 1 ∷ Fail a1 usual 5 ∷ Withdraw a1 ∷ []) ≡ None ∷ None ∷ None ∷ None ∷ None ∷ None ∷ None ∷ None ∷ None ∷ None ∷ []
overlaid_by_checks_alone = refl

-- an overlay alters the entity whose value it moves, and not one that it sets to the value that it had
altered_by_rows : (map (is_altered_by q (target q []) (Some two_rows)) (a1 ∷ a2 ∷ t1 ∷ []) ≡ true ∷ false ∷ false ∷ []) × (is_altered_by q (target q []) None a1 ≡ false)
altered_by_rows = (refl, refl)

-- in a journal that is not legal an acceptance may stand before its proposal: its overlay has no rows, and the proposal counts as accepted
abbrev decided_first : List Entry
decided_first = record { event = Submit up two_rows; reply = Queued 1 } ∷ record { event = Check; reply = decided 1 1 (Accepted 1) } ∷ []

overlays_of_illegal : (overlays decided_first ≡ [] ∷ []) × (accepted decided_first ≡ two_rows ∷ [])
overlays_of_illegal = (refl, refl)

-- the values at each version, and behind the last one
abbrev two_versions : List Event
two_versions = propose te a1 Config 5 ∷ propose up a1 Config 7 ∷ Check ∷ Check ∷ []

values_by_versions : map (λ v. value_at q (after q two_versions) v a1 Config) (0 ∷ 1 ∷ 2 ∷ 3 ∷ []) ≡ 1 ∷ 5 ∷ 7 ∷ 7 ∷ []
values_by_versions = refl

-- an acceptance makes the next version and leaves those before it; what overlays nothing makes none
next_version : let past = after q (take 3 two_versions) in map (λ v. versions_after (standing_of q past) Check (decided 2 4 (Accepted 2)) (value_at q past) v a1 Config) (0 ∷ 1 ∷ 2 ∷ []) ≡ 1 ∷ 5 ∷ 7 ∷ []
next_version = refl

no_version : let past = after q (take 3 two_versions) in (versions_after (standing_of q past) (Send a1) (decided 2 4 (Accepted 2)) (value_at q past) 2 a1 Config ≡ 5) × (versions_after (standing_of q past) Check (decided 2 4 (breaks CutOff 10 0)) (value_at q past) 2 a1 Config ≡ 5)
no_version = (refl, refl)

-- Stamps and targets

-- a target that came back to what was observed is not settled before a command of its stamp was carried out
abbrev came_back : List Event
came_back = propose up a1 Firmware 2 ∷ Check ∷ propose up a1 Firmware 1 ∷ Check ∷ []

back_is_not_settled : (stamp q (after q came_back) a1 ≡ 4) × (is_settled q (after q came_back) a1 ≡ false) × (target q (after q came_back) a1 Firmware ≡ 1) × (replies q (came_back ++ propose up a2 Firmware 2 ∷ Check ∷ []) ≡ Queued 1 ∷ decided 1 2 (Accepted 1) ∷ Queued 2 ∷ decided 2 4 (Accepted 2) ∷ Queued 3 ∷ decided 3 6 (breaks CutOff 10 0) ∷ [])
back_is_not_settled = (refl, refl, refl, refl)

-- the target behind so many entries
targets_by_entries : map (λ n. (target_at q (after q two_versions) n a1).v2) (0 ∷ 2 ∷ 3 ∷ 4 ∷ 100 ∷ []) ≡ 1 ∷ 1 ∷ 5 ∷ 7 ∷ 7 ∷ []
targets_by_entries = refl

-- a report that is heard twice renews once, and a later one of the old fence does not renew the new stamp
renewed_once : let past = after q (Fail a1 (device_vals 1 9 1 1) 5 ∷ make_report a1 ∷ Hear 1 ∷ make_report a1 ∷ Hear 1 ∷ Hear 2 ∷ []) in (stamp q past a1 ≡ 3) × (is_settled q past a1 ≡ false)
renewed_once = (refl, refl)

-- Locks

-- an entity's two locks have holders of their own, and the high one counts while it is held
two_locks_of_one : replies q (Lock te a1 High ∷ Lock up a1 Low ∷ propose up a1 Firmware 2 ∷ propose te a1 Firmware 3 ∷ Check ∷ Check ∷ Unlock up a1 High ∷ Unlock te a1 Low ∷ Unlock te a1 High ∷ propose te a1 Firmware 4 ∷ Check ∷ []) ≡
    Granted ∷ Granted ∷ Queued 1 ∷ Queued 2 ∷ decided 1 5 (Refused (Locked a1 te High)) ∷ decided 2 6 (Accepted 1) ∷ NotYours (Some te) ∷ NotYours (Some up) ∷ Released ∷ Queued 3 ∷ decided 3 11 (Refused (Locked a1 up Low)) ∷ []
two_locks_of_one = refl
