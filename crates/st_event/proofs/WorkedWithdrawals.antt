-- Small journals with withdrawals, computed: what is withdrawn and what not, and what it leaves.
use Rattle.std.proofs.Common.{◌≡◌, List, [], ◌∷◌, ◌++◌, Some, None, refl}
use Rattle.std.specs.Prelude.{true, false, map, take}
use Rattle.st_net.specs.declared.entity.Entity.TheVariants.{Link}
use Rattle.st_net.specs.declared.entity.Row.{Row}
use Rattle.st_net.specs.declared.entity.Var.TheVariants.{Power, Firmware, Config, Routing, Iface}
use Rattle.st_net.specs.declared.entity.Prio.TheVariants.{Low}
use Rattle.st_event.specs.declared.event.Event.{Event}
use Rattle.st_event.specs.declared.event.Event.TheVariants.{Submit, Check, Lock, Send, Deliver, Finish, Report as make_report, Hear, Fail, Withdraw}
use Rattle.st_event.specs.declared.reply.Reply.TheVariants.{Queued, Granted, Sent, Blocked, Begun, Done, NotBusy, Reported, Taken, Changed, Withdrawn, Kept}
use Rattle.st_event.specs.declared.reply.Verdict.TheVariants.{Accepted}
use Rattle.st_event.specs.Proposals.{accepted, makes_version, overlay_in, overlays, target, version, withdrawn}
use Rattle.st_event.specs.Moments.{fence, stamp}
use Rattle.st_event.specs.Observed.{is_settled, sure}
use Rattle.st_event.specs.Standing.{standing_of}
use Rattle.st_event.specs.Versions.{value_at, versions_after}
use Rattle.st_event.proofs.SmallGroups.{device_vals, usual, q, a1, a2, after, replies, te, up, row, propose, decided}

-- what is to become firmware 2 fails before it is sent: it can't be set any more, and the target goes back to firmware 1
abbrev blocked : List Event
blocked = propose up a1 Firmware 2 ∷ Check ∷ Fail a1 usual 1 ∷ make_report a1 ∷ Hear 1 ∷ Send a1 ∷ []

abbrev back : List Row
back = row a1 Firmware 1 ∷ []

abbrev one_round : List Event
one_round = blocked ++ Withdraw a1 ∷ Finish a1 ∷ make_report a1 ∷ Hear 2 ∷ []

withdrawn_behind_blocked : replies q one_round ≡ Queued 1 ∷ decided 1 2 (Accepted 1) ∷ Changed ∷ Reported 1 ∷ Taken ∷ Blocked (row a1 Firmware 2) ∷ Withdrawn 2 back ∷ NotBusy ∷ Reported 2 ∷ Taken ∷ []
withdrawn_behind_blocked = refl

-- the entity's stamp is the withdrawal's entry, so a command has to settle it: the next round sends it
unsettled_by_withdrawal : let past = after q one_round in (stamp q past a1 ≡ 7) × (fence q past a1 ≡ 0) × (is_settled q past a1 ≡ false) × (stamp q past a2 ≡ 0) × (is_settled q past a2 ≡ true)
unsettled_by_withdrawal = (refl, refl, refl, refl, refl)

settled_by_next_round : let events = one_round ++ Send a1 ∷ Deliver 1 ∷ Finish a1 ∷ make_report a1 ∷ Hear 3 ∷ [] in (replies q events ≡ replies q one_round ++ Sent 1 ∷ Begun ∷ Done ∷ Reported 3 ∷ Taken ∷ []) × (is_settled q (after q events) a1 ≡ true) × (sure q (after q events) a1 ≡ false)
settled_by_next_round = (refl, refl, refl)

-- it is a version of its own, in the order of entries, and no proposal
listed_in_order : let past = after q one_round in (overlays past ≡ (row a1 Firmware 2 ∷ []) ∷ back ∷ []) × (accepted past ≡ (row a1 Firmware 2 ∷ []) ∷ []) × (withdrawn past ≡ back ∷ []) × (version past ≡ 2) × (target q past a1 Firmware ≡ 1)
listed_in_order = (refl, refl, refl, refl, refl)

values_at_versions : map (λ v. value_at q (after q one_round) v a1 Firmware) (0 ∷ 1 ∷ 2 ∷ 3 ∷ []) ≡ 1 ∷ 2 ∷ 1 ∷ 1 ∷ []
values_at_versions = refl

next_version_by_withdrawal : let past = after q blocked in map (λ v. versions_after (standing_of q past) (Withdraw a1) (Withdrawn 2 back) (value_at q past) v a1 Firmware) (0 ∷ 1 ∷ 2 ∷ []) ≡ 1 ∷ 2 ∷ 1 ∷ []
next_version_by_withdrawal = refl

no_version_by_kept : let past = after q blocked in (versions_after (standing_of q past) (Withdraw a1) Kept (value_at q past) 2 a1 Firmware ≡ 2)
no_version_by_kept = refl

-- what waits goes on to wait under its ticket, and the next acceptance has the version behind the withdrawal's
waiting_stays : replies q (blocked ++ propose te a1 Power 0 ∷ Withdraw a1 ∷ Check ∷ []) ≡ replies q blocked ++ Queued 2 ∷ Withdrawn 2 back ∷ decided 2 9 (Accepted 3) ∷ []
waiting_stays = refl

-- a later overlay on the same variable is the target, whichever of the two it is
later_overlay_wins : (target q (after q (one_round ++ propose te a1 Power 0 ∷ Check ∷ [])) a1 Power ≡ 0) × (map (λ n. target q (after q (take n one_round)) a1 Firmware) (1 ∷ 2 ∷ 6 ∷ 7 ∷ []) ≡ 1 ∷ 2 ∷ 2 ∷ 1 ∷ [])
later_overlay_wins = (refl, refl)

-- nothing is withdrawn: at the opening, of what can be set, and of an entity that was observed to be as the target has it
kept_at_opening : replies q (Withdraw a1 ∷ Withdraw (Link 0) ∷ []) ≡ Kept ∷ Kept ∷ []
kept_at_opening = refl

kept_where_it_can_be_set : replies q (propose up a1 Firmware 2 ∷ Check ∷ Withdraw a1 ∷ []) ≡ Queued 1 ∷ decided 1 2 (Accepted 1) ∷ Kept ∷ []
kept_where_it_can_be_set = refl

kept_where_values_are_the_targets : replies q (propose up a1 Firmware 2 ∷ Check ∷ Fail a1 (device_vals 1 2 1 1) 0 ∷ make_report a1 ∷ Hear 1 ∷ Send a1 ∷ Withdraw a1 ∷ []) ≡ Queued 1 ∷ decided 1 2 (Accepted 1) ∷ Changed ∷ Reported 1 ∷ Taken ∷ Blocked (row a1 Power 1) ∷ Kept ∷ []
kept_where_values_are_the_targets = refl

-- once withdrawn there is nothing more to withdraw
kept_the_second_time : replies q (blocked ++ Withdraw a1 ∷ Withdraw a1 ∷ []) ≡ replies q blocked ++ Withdrawn 2 back ∷ Kept ∷ []
kept_the_second_time = refl

-- a failure that no report tells of withdraws nothing
kept_while_untold : replies q (propose up a1 Firmware 2 ∷ Check ∷ Fail a1 usual 1 ∷ Withdraw a1 ∷ []) ≡ Queued 1 ∷ decided 1 2 (Accepted 1) ∷ Changed ∷ Kept ∷ []
kept_while_untold = refl

-- all variables that differ go back, in order, also those that could be set; the others of the entity have no row
abbrev three_rows : List Event
three_rows = Submit up (row a1 Routing 0 ∷ row a1 Config 2 ∷ row a1 Firmware 2 ∷ []) ∷ Check ∷ Fail a1 (device_vals 1 7 1 1) 1 ∷ make_report a1 ∷ Hear 1 ∷ Withdraw a1 ∷ []

rows_in_order : replies q three_rows ≡ Queued 1 ∷ decided 1 2 (Accepted 1) ∷ Changed ∷ Reported 1 ∷ Taken ∷ Withdrawn 2 (row a1 Firmware 7 ∷ row a1 Config 1 ∷ row a1 Routing 1 ∷ []) ∷ []
rows_in_order = refl

-- of a link: its end's level is gone
link_goes_back : replies q (propose up (Link 0) Iface 2 ∷ Check ∷ Fail a1 usual 3 ∷ make_report a1 ∷ Hear 1 ∷ Send (Link 0) ∷ Withdraw (Link 0) ∷ []) ≡ Queued 1 ∷ decided 1 2 (Accepted 1) ∷ Changed ∷ Reported 1 ∷ Taken ∷ Blocked (row (Link 0) Iface 2) ∷ Withdrawn 2 (row (Link 0) Iface 1 ∷ []) ∷ []
link_goes_back = refl

-- no lock bars a withdrawal
no_lock_bars : replies q (Lock te a1 Low ∷ Fail a1 (device_vals 1 7 1 1) 0 ∷ make_report a1 ∷ Hear 1 ∷ Withdraw a1 ∷ []) ≡ Granted ∷ Changed ∷ Reported 1 ∷ Taken ∷ Withdrawn 1 (row a1 Firmware 7 ∷ []) ∷ []
no_lock_bars = refl

-- a command of before that comes late is carried out and settles nothing
late_command_settles_nothing : let events = propose up a1 Firmware 2 ∷ Check ∷ Send a1 ∷ Fail a1 usual 1 ∷ make_report a1 ∷ Hear 1 ∷ Withdraw a1 ∷ Deliver 1 ∷ Finish a1 ∷ make_report a1 ∷ Hear 2 ∷ [] in
    (replies q events ≡ Queued 1 ∷ decided 1 2 (Accepted 1) ∷ Sent 1 ∷ Changed ∷ Reported 1 ∷ Taken ∷ Withdrawn 2 back ∷ Begun ∷ Done ∷ Reported 2 ∷ Taken ∷ []) × (is_settled q (after q events) a1 ≡ false) × (stamp q (after q events) a1 ≡ 7)
late_command_settles_nothing = (refl, refl, refl)

-- the sure set is as before
sure_stays : let past = after q blocked in let now = after q (blocked ++ Withdraw a1 ∷ []) in map (sure q now) (a1 ∷ a2 ∷ Link 0 ∷ Link 1 ∷ []) ≡ map (sure q past) (a1 ∷ a2 ∷ Link 0 ∷ Link 1 ∷ [])
sure_stays = refl

-- only its own reply makes a Withdraw entry overlay, and only a Withdraw entry's Withdrawn does
overlaid_by_withdrawal : (overlay_in (Withdraw a1) (Withdrawn 2 back) [] ≡ Some back) × (overlay_in (Withdraw a1) Kept back ≡ None) × (overlay_in (Withdraw a1) (decided 1 2 (Accepted 1)) back ≡ None) × (overlay_in Check (Withdrawn 2 back) back ≡ None) × (overlay_in (Send a1) (Withdrawn 2 back) back ≡ None)
overlaid_by_withdrawal = (refl, refl, refl, refl, refl)

versions_made : (makes_version (Withdraw a1) (Withdrawn 2 back) ≡ true) × (makes_version (Withdraw a1) Kept ≡ false) × (makes_version Check (decided 1 2 (Accepted 1)) ≡ true) × (makes_version (Hear 1) (Withdrawn 2 back) ≡ false)
versions_made = (refl, refl, refl, refl)
