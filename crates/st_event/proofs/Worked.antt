-- Small journals, computed: each law gives the events of a journal with the replies that the definitions call for, or what they say of it.
use Rattle.std.proofs.Common.{◌≡◌, ℕ, zero, suc, List, [], ◌∷◌, ◌++◌, Some, None, refl}
use Rattle.std.specs.Prelude.{true, false, map, take}
use Rattle.st_net.specs.declared.entity.Entity.TheVariants.{Link}
use Rattle.st_net.specs.declared.entity.Var.TheVariants.{Power, Firmware, Config, Routing, LinkPower, Iface}
use Rattle.st_net.specs.declared.entity.Prio.TheVariants.{Low, High}
use Rattle.st_event.specs.declared.event.Event.{Event}
use Rattle.st_event.specs.declared.event.Event.TheVariants.{Submit, Check, Lock, Unlock, Send, Deliver, Finish, Report as make_report, Hear, Fail}
use Rattle.st_event.specs.declared.reply.Reply.TheVariants.{Queued, Full, Idle, Granted, Held, Released, NotYours, Sent, Settled, Blocked, Begun, Stale, NoSuch, Done, NotBusy, Reported, Taken, Old, Changed}
use Rattle.st_event.specs.declared.reply.Verdict.TheVariants.{Accepted, Refused}
use Rattle.st_event.specs.declared.reply.Lack.TheVariants.{Level, PowerOff}
use Rattle.st_event.specs.declared.reply.Cause.TheVariants.{NotControllable, Locked}
use Rattle.st_net.specs.declared.promise.BrokenKind.TheVariants.{CutOff, Short}
use Rattle.st_net.specs.Groups.{Group, promise_of}
use Rattle.st_net.specs.Merge.{merge_of}
use Rattle.st_net.specs.Promises.{is_kept, need_of}
use Rattle.st_event.specs.Proposals.{accepted, overlays, version, target}
use Rattle.st_event.specs.Moments.{stamp, fence, busy, vals}
use Rattle.st_event.specs.Observed.{observed, is_settled, sure, actual, untold, failed_between}
use Rattle.st_event.specs.Replies.{reply}
use Rattle.st_event.proofs.SmallGroups.{device_vals, usual, device, two_paths, small, q, t1, a1, a2, after, replies, te, up, row, propose, decided, breaks}

-- Promises

need_is_half_of_twenty : need_of q (promise_of q 0) ≡ 10
need_is_half_of_twenty = refl

-- the second switch may not change while the first does
second_switch_waits : replies q (propose up a1 Firmware 2 ∷ propose up a2 Firmware 2 ∷ Check ∷ Check ∷ []) ≡
    Queued 1 ∷ Queued 2 ∷ decided 1 3 (Accepted 1) ∷ decided 2 4 (breaks CutOff 10 0) ∷ []
second_switch_waits = refl

-- once it is seen to have changed, the second may
then_accepted : replies q (propose up a1 Firmware 2 ∷ Check ∷ Send a1 ∷ Deliver 1 ∷ Finish a1 ∷ make_report a1 ∷ Hear 1 ∷ propose up a2 Firmware 2 ∷ Check ∷ []) ≡
    Queued 1 ∷ decided 1 2 (Accepted 1) ∷ Sent 1 ∷ Begun ∷ Done ∷ Reported 1 ∷ Taken ∷ Queued 2 ∷ decided 2 9 (Accepted 2) ∷ []
then_accepted = refl

-- it is settled before, not while it changes, and again once that is heard
abbrev change : List Event
change = propose up a1 Firmware 2 ∷ Check ∷ Send a1 ∷ Deliver 1 ∷ Finish a1 ∷ make_report a1 ∷ Hear 1 ∷ []

settled_once_heard : map (λ n. is_settled q (after q (take n change)) a1) (1 ∷ 2 ∷ 3 ∷ 4 ∷ 5 ∷ 6 ∷ 7 ∷ []) ≡ true ∷ false ∷ false ∷ false ∷ false ∷ false ∷ true ∷ []
settled_once_heard = refl

-- meanwhile it is out of the sure set, busy once it has begun, and the promise holds in the sure set and in the network
kept_while_changing : map (λ n. is_kept q (sure q (after q (take n change))) (promise_of q 0)) (0 ∷ 1 ∷ 2 ∷ 3 ∷ 4 ∷ 5 ∷ 6 ∷ 7 ∷ []) ≡ true ∷ true ∷ true ∷ true ∷ true ∷ true ∷ true ∷ true ∷ []
kept_while_changing = refl

kept_in_network : map (λ n. is_kept q (actual q (after q (take n change))) (promise_of q 0)) (0 ∷ 1 ∷ 2 ∷ 3 ∷ 4 ∷ 5 ∷ 6 ∷ 7 ∷ []) ≡ true ∷ true ∷ true ∷ true ∷ true ∷ true ∷ true ∷ true ∷ []
kept_in_network = refl

busy_between : map (λ n. busy q (after q (take n change)) a1) (3 ∷ 4 ∷ 5 ∷ []) ≡ false ∷ true ∷ false ∷ []
busy_between = refl

-- a greater need is short of capacity; of the two cuts of that value the least side is named
short_of_capacity : replies (small 60) (propose up a1 Firmware 2 ∷ Check ∷ []) ≡ Queued 1 ∷ decided 1 2 (breaks Short 12 10) ∷ []
short_of_capacity = refl

-- a ToR of the pair can't change at all
tor_cut_off : replies q (propose up t1 Firmware 2 ∷ Check ∷ []) ≡ Queued 1 ∷ decided 1 2 (breaks CutOff 10 0) ∷ []
tor_cut_off = refl

-- two switches that open drained
abbrev drained : Group
drained = two_paths 50 (device false (device_vals 1 1 1 0) 5) (device false (device_vals 1 1 1 0) 5)

abbrev undrain : List Event
undrain = propose up a1 Routing 1 ∷ Check ∷ []

-- a promise that does not hold at the start is not refused
broken_at_start : replies drained undrain ≡ Queued 1 ∷ decided 1 2 (Accepted 1) ∷ []
broken_at_start = refl

held_at_no_time : (is_kept drained (actual drained []) (promise_of drained 0) ≡ false) × (is_kept drained (actual drained (after drained undrain)) (promise_of drained 0) ≡ false)
held_at_no_time = (refl, refl)

-- links lose their power and change as devices do
links_are_judged : replies q (propose up (Link 0) LinkPower 0 ∷ propose up (Link 2) Iface 2 ∷ propose up (Link 1) LinkPower 0 ∷ Check ∷ Check ∷ Check ∷ []) ≡
    Queued 1 ∷ Queued 2 ∷ Queued 3 ∷ decided 1 4 (Accepted 1) ∷ decided 2 5 (Accepted 2) ∷ decided 3 6 (breaks CutOff 10 0) ∷ []
links_are_judged = refl

-- Locks

low_lock_bars : replies q (Lock te a1 Low ∷ propose up a1 Firmware 2 ∷ Check ∷ []) ≡
    Granted ∷ Queued 1 ∷ decided 1 3 (Refused (Locked a1 te Low)) ∷ []
low_lock_bars = refl

high_lock_wins : replies q (Lock te a1 Low ∷ propose up a1 Firmware 2 ∷ Check ∷ Lock up a1 High ∷ propose up a1 Firmware 2 ∷ propose te a1 Config 3 ∷ Check ∷ Check ∷ []) ≡
    Granted ∷ Queued 1 ∷ decided 1 3 (Refused (Locked a1 te Low)) ∷ Granted ∷ Queued 2 ∷ Queued 3 ∷ decided 2 7 (Accepted 1) ∷ decided 3 8 (Refused (Locked a1 up High)) ∷ []
high_lock_wins = refl

-- a release by another changes nothing; after the holder's own the other may have it
release_frees : replies q (Lock te a1 Low ∷ Unlock up a1 Low ∷ Lock te a1 Low ∷ Unlock te a1 Low ∷ Lock up a1 Low ∷ []) ≡
    Granted ∷ NotYours (Some te) ∷ Granted ∷ Released ∷ Granted ∷ []
release_frees = refl

-- Rows

-- a switch of health 2 can take firmware and no routing
level_named : let g = two_paths 50 (device false usual 2) (device false usual 5) in
    replies g (propose up a1 Routing 1 ∷ propose up a1 Firmware 2 ∷ Check ∷ Check ∷ []) ≡
    Queued 1 ∷ Queued 2 ∷ decided 1 3 (Refused (NotControllable (row a1 Routing 1) (Level a1 2 4))) ∷ decided 2 4 (Accepted 1) ∷ []
level_named = refl

-- with its power off in the target it can take no config
power_off_named : replies q (Submit up (row a1 Power 0 ∷ row a1 Config 2 ∷ []) ∷ Check ∷ []) ≡
    Queued 1 ∷ decided 1 2 (Refused (NotControllable (row a1 Config 2) PowerOff)) ∷ []
power_off_named = refl

-- a link's row names the first end that lacks the level
end_named : let g = two_paths 50 (device false usual 3) (device false usual 5) in
    replies g (propose up (Link 0) LinkPower 1 ∷ Check ∷ []) ≡ Queued 1 ∷ decided 1 2 (Refused (NotControllable (row (Link 0) LinkPower 1) (Level a1 3 4))) ∷ []
end_named = refl

-- Versions and stamps

abbrev two_writers : List Event
two_writers = propose te a1 Config 5 ∷ propose up a1 Config 7 ∷ Check ∷ Check ∷ []

last_writer_wins : (version (after q two_writers) ≡ 2) × (target q (after q two_writers) a1 Config ≡ 7) × (merge_of q (take 1 (accepted (after q two_writers))) a1 Config ≡ 5)
last_writer_wins = (refl, refl, refl)

-- each acceptance overlays the target by its entry, and a refusal does not
overlays_by_entry : (overlays (after q two_writers) ≡ (row a1 Config 5 ∷ []) ∷ (row a1 Config 7 ∷ []) ∷ []) × (overlays (after q (take 3 two_writers)) ≡ (row a1 Config 5 ∷ []) ∷ []) × (overlays (after q (propose up t1 Firmware 2 ∷ Check ∷ [])) ≡ [])
overlays_by_entry = (refl, refl, refl)

-- a row that changes nothing takes a version and leaves the stamp
abbrev no_change : List Event
no_change = propose up a1 Firmware 1 ∷ propose up a2 Firmware 2 ∷ Check ∷ Check ∷ []

no_change_accepted : replies q no_change ≡ Queued 1 ∷ Queued 2 ∷ decided 1 3 (Accepted 1) ∷ decided 2 4 (Accepted 2) ∷ []
no_change_accepted = refl

no_change_keeps_stamp : (stamp q (after q no_change) a1 ≡ 0) × (stamp q (after q no_change) a2 ≡ 4) × (is_settled q (after q no_change) a1 ≡ true) × (is_settled q (after q no_change) a2 ≡ false)
no_change_keeps_stamp = (refl, refl, refl, refl)

-- Messages

-- a command that comes again after a later one has begun is stale
abbrev repeated : List Event
repeated = propose up a1 Firmware 2 ∷ Check ∷ Send a1 ∷ Deliver 1 ∷ Finish a1 ∷ make_report a1 ∷ Hear 1 ∷ propose up a1 Firmware 3 ∷ Check ∷ Send a1 ∷ Deliver 2 ∷ Deliver 1 ∷ Finish a1 ∷ make_report a1 ∷ Hear 2 ∷ []

old_command_is_stale : replies q repeated ≡
    Queued 1 ∷ decided 1 2 (Accepted 1) ∷ Sent 1 ∷ Begun ∷ Done ∷ Reported 1 ∷ Taken ∷ Queued 2 ∷ decided 2 9 (Accepted 2) ∷ Sent 2 ∷ Begun ∷ Stale 9 ∷ Done ∷ Reported 2 ∷ Taken ∷ []
old_command_is_stale = refl

settled_by_later : (target q (after q repeated) a1 Firmware ≡ 3) × (is_settled q (after q repeated) a1 ≡ true)
settled_by_later = (refl, refl)

-- a report that is heard again is old
second_hearing_is_old : replies q (propose up a1 Firmware 2 ∷ Check ∷ Send a1 ∷ Deliver 1 ∷ Finish a1 ∷ make_report a1 ∷ Hear 1 ∷ Hear 1 ∷ []) ≡
    Queued 1 ∷ decided 1 2 (Accepted 1) ∷ Sent 1 ∷ Begun ∷ Done ∷ Reported 1 ∷ Taken ∷ Old 1 ∷ []
second_hearing_is_old = refl

-- a command that is lost leaves its entity as it was, and the next turn sends another
abbrev lost : List Event
lost = propose up a1 Firmware 2 ∷ Check ∷ Send a1 ∷ Finish a1 ∷ make_report a1 ∷ Hear 1 ∷ []

lost_command : (replies q lost ≡ Queued 1 ∷ decided 1 2 (Accepted 1) ∷ Sent 1 ∷ NotBusy ∷ Reported 1 ∷ Taken ∷ []) × (is_settled q (after q lost) a1 ≡ false)
lost_command = (refl, refl)

next_turn_settles : is_settled q (after q (lost ++ Send a1 ∷ Deliver 2 ∷ Finish a1 ∷ make_report a1 ∷ Hear 2 ∷ [])) a1 ≡ true
next_turn_settles = refl

-- a number that names no message yet names none later: the command that gets it is not begun
abbrev too_early : List Event
too_early = Deliver 1 ∷ propose up a1 Firmware 2 ∷ Check ∷ Send a1 ∷ []

early_number_names_none : (replies q too_early ≡ NoSuch 0 ∷ Queued 1 ∷ decided 1 3 (Accepted 1) ∷ Sent 1 ∷ []) × (fence q (after q too_early) a1 ≡ 0) × (busy q (after q too_early) a1 ≡ false)
early_number_names_none = (refl, refl, refl)

-- a report of one entity says nothing of another
other_report_is_not_observed : ((observed q (after q (make_report a2 ∷ Hear 1 ∷ [])) a1).number ≡ 0) × ((observed q (after q (make_report a2 ∷ Hear 1 ∷ [])) a2).number ≡ 1)
other_report_is_not_observed = (refl, refl)

-- of two reports the one with the greater number is kept, in whichever order they are heard
later_number_is_kept : replies q (make_report a1 ∷ make_report a1 ∷ Hear 2 ∷ Hear 1 ∷ []) ≡ Reported 1 ∷ Reported 2 ∷ Taken ∷ Old 2 ∷ []
later_number_is_kept = refl

-- a later command replaces the one in work
abbrev replaced : List Event
replaced = propose up a1 Firmware 2 ∷ Check ∷ Send a1 ∷ propose up a1 Firmware 3 ∷ Check ∷ Send a1 ∷ Deliver 1 ∷ Deliver 2 ∷ Finish a1 ∷ Finish a1 ∷ []

later_command_replaces : (replies q replaced ≡ Queued 1 ∷ decided 1 2 (Accepted 1) ∷ Sent 1 ∷ Queued 2 ∷ decided 2 5 (Accepted 2) ∷ Sent 2 ∷ Begun ∷ Begun ∷ Done ∷ NotBusy ∷ []) × (vals q (after q replaced) a1 ≡ device_vals 1 3 1 1)
later_command_replaces = (refl, refl)

-- Failures

abbrev drain : Event
drain = propose up a1 Routing 0

abbrev dead : Event
dead = Fail a2 usual 0

abbrev turn : List Event
turn = Send a1 ∷ Deliver 1 ∷ Finish a1 ∷ make_report a1 ∷ Hear 1 ∷ []

abbrev unreported : List Event
unreported = dead ∷ drain ∷ Check ∷ turn

-- a failure that was not reported
untold_failure : replies q unreported ≡ Changed ∷ Queued 1 ∷ decided 1 3 (Accepted 1) ∷ Sent 1 ∷ Begun ∷ Done ∷ Reported 1 ∷ Taken ∷ []
untold_failure = refl

-- the network loses the promise, which held at the start; the sure set has it still, by the entity that failed untold
lost_in_network : (is_kept q (actual q []) (promise_of q 0) ≡ true) × (is_kept q (actual q (after q unreported)) (promise_of q 0) ≡ false) × (is_kept q (sure q (after q unreported)) (promise_of q 0) ≡ true) × (untold q (after q unreported) a2 ≡ true)
lost_in_network = (refl, refl, refl, refl)

-- a failure that was reported
told_failure : replies q (dead ∷ make_report a2 ∷ Hear 1 ∷ drain ∷ Check ∷ []) ≡ Changed ∷ Reported 1 ∷ Taken ∷ Queued 1 ∷ decided 1 5 (breaks CutOff 10 0) ∷ []
told_failure = refl

-- it stands after the opening and before the report that tells it
failure_between : failed_between (after q (dead ∷ make_report a2 ∷ [])) a2 0 1 ≡ true
failure_between = refl

-- two switches that drain of themselves: the promise leaves the sure set as the second is heard of, and not before
abbrev first_drained : List Event
first_drained = Fail a1 (device_vals 1 1 1 0) 5 ∷ make_report a1 ∷ Hear 1 ∷ Fail a2 (device_vals 1 1 1 0) 5 ∷ make_report a2 ∷ []

loss_comes_by_hearing : (is_kept q (sure q (after q first_drained)) (promise_of q 0) ≡ true) × (is_kept q (sure q (after q (first_drained ++ Hear 2 ∷ []))) (promise_of q 0) ≡ false) × (failed_between (after q first_drained) a2 0 1 ≡ true)
loss_comes_by_hearing = (refl, refl, refl)

-- values that no command made are sent back: hearing of them renews the stamp
abbrev changed_by_itself : List Event
changed_by_itself = Fail a1 (device_vals 1 9 1 1) 5 ∷ make_report a1 ∷ Hear 1 ∷ []

renewed_stamp : (stamp q (after q changed_by_itself) a1 ≡ 3) × (stamp q (after q changed_by_itself) a2 ≡ 0)
renewed_stamp = (refl, refl)

renewed : replies q (changed_by_itself ++ Send a1 ∷ Deliver 1 ∷ Finish a1 ∷ make_report a1 ∷ Hear 2 ∷ []) ≡
    Changed ∷ Reported 1 ∷ Taken ∷ Sent 1 ∷ Begun ∷ Done ∷ Reported 2 ∷ Taken ∷ []
renewed = refl

settled_again : (stamp q (after q (changed_by_itself ++ Send a1 ∷ Deliver 1 ∷ Finish a1 ∷ make_report a1 ∷ Hear 2 ∷ [])) a1 ≡ 3) × (is_settled q (after q (changed_by_itself ++ Send a1 ∷ Deliver 1 ∷ Finish a1 ∷ make_report a1 ∷ Hear 2 ∷ [])) a1 ≡ true)
settled_again = (refl, refl)

-- a row of the target that can't be set any more holds the command back
blocked_row : replies q (propose te a1 Firmware 2 ∷ Check ∷ Fail a1 usual 1 ∷ make_report a1 ∷ Hear 1 ∷ Send a1 ∷ Finish a1 ∷ make_report a1 ∷ Hear 2 ∷ []) ≡
    Queued 1 ∷ decided 1 2 (Accepted 1) ∷ Changed ∷ Reported 1 ∷ Taken ∷ Blocked (row a1 Firmware 2) ∷ NotBusy ∷ Reported 2 ∷ Taken ∷ []
blocked_row = refl

-- Before anything

replies_at_opening : (replies q (Check ∷ Send a1 ∷ Deliver 1 ∷ Hear 0 ∷ Unlock te a1 Low ∷ []) ≡ Idle ∷ Settled ∷ NoSuch 0 ∷ NoSuch 0 ∷ NotYours None ∷ []) × (replies q (Lock te a1 Low ∷ Lock te a2 Low ∷ Lock up a1 Low ∷ []) ≡ Granted ∷ Granted ∷ Held te ∷ [])
replies_at_opening = (refl, refl)

-- The queue

abbrev times : ℕ → Event → List Event
times zero event = []
times (suc n) event = event ∷ times n event

-- one more than 64 proposals is not taken, and does not wait
queue_is_full : let past = after q (times 64 (propose up a1 Config 1)) in reply q past (propose up a1 Config 1) ≡ Full 64
queue_is_full = refl
