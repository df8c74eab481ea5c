-- What the replies of a legal journal name: entities, rows and promises of the group, applications that asked, and numbers of 32 bits.
use Rattle.std.proofs.Common.{◌≡◌, ◌≢◌, ℕ, zero, suc, ◌+◌, ◌*◌, ◌<◌, ◌≤◌, List, [], ◌∷◌, ◌++◌, length, refl, ap, sym, subst, inl, inr, arith, length-drop}
use Rattle.std.specs.Prelude.{Bool, true, false, not, ◌&&◌, ◌||◌, ◌==◌, nat_le, nat_lt, ◌^◌, min, ◌⊎◌, All, slice_index_or, Option, Some, None, option_map, if◌then◌else◌}
use Rattle.std.specs.List.{AllByRecursion}
use Rattle.std.proofs.lemmas.List.Elements.{recursion_from_All}
use Rattle.std.proofs.lemmas.Bool.{cases_lt}
use Rattle.std.proofs.Math.Nat.{mul-le-mul}
use Rattle.std.proofs.lemmas.Bool.Decides.{nat_tests}
use Rattle.std.proofs.lemmas.List.{append-nil, length-append}
use Rattle.st_net.specs.declared.entity.AppId.{AppId}
use Rattle.st_net.specs.declared.entity.Entity.{Entity}
use Rattle.st_net.specs.declared.entity.Entity.TheVariants.{Device, Link}
use Rattle.st_net.specs.declared.entity.Prio.{Prio}
use Rattle.st_net.specs.declared.entity.Prio.TheVariants.{Low, High}
use Rattle.st_net.specs.declared.entity.Row.{Row}
use Rattle.st_net.specs.declared.entity.Vals.{Vals}
use Rattle.st_net.specs.declared.entity.Var.{Var}
use Rattle.st_net.specs.declared.entity.Var.TheVariants.{Power, Firmware, Config, Routing, LinkPower, Iface}
use Rattle.st_net.specs.declared.message.Command.{Command}
use Rattle.st_net.specs.declared.message.Report.{Report}
use Rattle.st_net.specs.declared.promise.Broken.{Broken}
use Rattle.st_net.specs.declared.promise.Promise.{Promise}
use Rattle.st_net.specs.declared.topo.DeviceOpening.{DeviceOpening}
use Rattle.st_net.specs.declared.topo.LinkOpening.{LinkOpening}
use Rattle.st_net.specs.Cuts.{is_crossing, cut_value_from, cut_value, cut_of, least_over, least_cut, is_in_least_side, all_over, numbers_in, with_number}
use Rattle.st_net.specs.Entities.{value_of, vars_of, is_var_of, is_same_entity}
use Rattle.st_net.specs.Groups.{Group, IsSound, IsEntityOf, IsDevice, AreDevices, AreLinks, ArePromises, IsPromiseAmong, health_of, opening_of, no_device, no_link}
use Rattle.st_net.specs.Holders.{Holding, high_or_low, effective_of, holder_set, holder_freed, is_held_by, is_same_prio, is_free_for}
use Rattle.st_net.specs.Levels.{level_of}
use Rattle.st_net.specs.Merge.{vals_in, target_with}
use Rattle.st_net.specs.Numbered.{nth}
use Rattle.st_net.specs.Promises.{need_of, broken_at, is_broken, first_broken}
use Rattle.st_net.specs.Ranges.{RowFits, is_in_range, is_health_of}
use Rattle.st_net.specs.UpGraph.{is_up_link}
use Rattle.st_net.proofs.WalkLaws.{is_link_at}
use Rattle.st_event.specs.declared.event.Event.{Event}
use Rattle.st_event.specs.declared.event.Event.TheVariants.{Submit, Check, Lock, Unlock, Send, Deliver, Finish, Report as make_report, Hear, Fail, Withdraw}
use Rattle.st_event.specs.declared.event.Proposal.{Proposal}
use Rattle.st_event.specs.declared.journal.Entry.{Entry}
use Rattle.st_event.specs.declared.journal.TheConstants.{MAX_ENTRIES, MAX_PENDING}
use Rattle.st_event.specs.declared.reply.Cause.{Cause}
use Rattle.st_event.specs.declared.reply.Cause.TheVariants.{Locked, Broken as broken_cause}
use Rattle.st_event.specs.declared.reply.Lack.{Lack}
use Rattle.st_event.specs.declared.reply.Lack.TheVariants.{Level, PowerOff}
use Rattle.st_event.specs.declared.reply.Reply.{Reply}
use Rattle.st_event.specs.declared.reply.Reply.TheVariants.{Queued, Full, Granted, Held, Released, NotYours, Settled, Begun, Stale, Done, NotBusy, Taken, Old, Withdrawn, Kept}
use Rattle.st_event.specs.declared.reply.Verdict.{Verdict}
use Rattle.st_event.specs.Judge.{needs_of, lack_or, level_lack, power_lack, lack_at, lack_cause, first_lack, locked_cause, first_locked, cause_or, refusal_or_version}
use Rattle.st_event.specs.Legal.{Fits, IsLegal}
use Rattle.st_event.specs.Locks.{is_granted, is_released, holder_after, holder}
use Rattle.st_event.specs.Moments.{commands, reports, fence, busy, vals, health, health_after}
use Rattle.st_event.specs.Observed.{observed, is_settled, sure, sure_after}
use Rattle.st_event.specs.Proposals.{proposals, verdicts, pending, accepted_among, is_accepted, version, target, first_rows}
use Rattle.st_event.specs.Replies.{check_reply, lock_reply, first_other, governing, row_to, rows_back, kept_or_withdrawn, blocked_or_sent, deliver_reply, hear_reply, reply}
use Rattle.st_event.proofs.Accepting.{next_fits}
use Rattle.st_event.proofs.Made.{IsMade, Makes, report_now, observed_own}
use Rattle.st_event.proofs.Shown.{made_is_true}
use Rattle.st_event.proofs.Stamps.{stamp_small, fence_small}
use Rattle.st_event.proofs.Ranges.{back_in_range}
use Rattle.st_event.proofs.Targets.{legal_orderly}
use Rattle.st_event.proofs.Versions.{versions_few}
use Rattle.st_entry.specs.Keywords.{reply_word}
use Rattle.st_journal.specs.EntryWords.{replies_of, reply_among}
use Rattle.st_journal.specs.ReadingBack.{IsByApp}
use Rattle.st_world.proofs.RangeLaws.{target_in_range}
use Rattle.st_net.proofs.RangeLaws.{value_in_range}
use Rattle.st_world.proofs.WorldLaws.{few_tickets, few_commands, few_reports, low_numbers}
use Rattle.st_journal.proofs.PrintedEvents.{event_keyword}
use Rattle.st_journal.proofs.PrintedReplies.{Ascends, LackFits, BrokenFits, CauseFits, VerdictFits, HolderFits, ReplyFits, AreOwn, IsOfEvent, reply_keyword}
use Rattle.st_journal.proofs.OwnRows.{are_own}

-- healths and levels

device_is : (ds : List DeviceOpening) (i : ℕ) → AreDevices ds → i < length ds → IsDevice (slice_index_or ds i no_device)
device_is [] i are low = absurd (omega arith)
device_is (d ∷ ds) zero are low = are.0
device_is (d ∷ ds) (suc i) are low = device_is ds i are.1 (omega arith)

opening_health : (g : Group) (e : Entity) → IsSound g → IsEntityOf g e → health_of g e ≤ 5
opening_health g (Device i) sound own = (device_is g.devices i sound.devices own).health
opening_health g (Link i) sound own = let low : health_of g (Link i) ≤ 1 = (is_link_at (length g.devices) g.links i sound.links own).health in omega arith

health_small : (e : Entity) (health : ℕ) → is_health_of e health ≡ true → health ≤ 5
health_small (Device i) health is = let low : nat_le health 5 ≡ true = is in grind (arith, nat_tests)
health_small (Link i) health is = let low : nat_le health 1 ≡ true = is in grind (arith, nat_tests)

health_if : (b : Bool) (made before : ℕ) → made ≤ 5 → before ≤ 5 → (if b then made else before) ≤ 5
health_if true made before few less = few
health_if false made before few less = less

health_next : (g : Group) (event : Event) (e : Entity) (before : ℕ) → Fits g event → before ≤ 5 → health_after event e before ≤ 5
health_next g (Fail at made level) e before fits less = health_if (is_same_entity at e) level before (health_small at level fits.level) less
health_next g (Submit app rows) e before fits less = less
health_next g Check e before fits less = less
health_next g (Lock app at prio) e before fits less = less
health_next g (Unlock app at prio) e before fits less = less
health_next g (Send at) e before fits less = less
health_next g (Deliver n) e before fits less = less
health_next g (Finish at) e before fits less = less
health_next g (make_report at) e before fits less = less
health_next g (Hear n) e before fits less = less
health_next g (Withdraw at) e before fits less = less

few_health : (g : Group) (past : List Entry) (e : Entity) → IsSound g → IsLegal g past → IsEntityOf g e → health g past e ≤ 5
few_health g [] e sound legal own = opening_health g e sound own
few_health g (entry ∷ past) e sound legal own = health_next g entry.event e (health g past e) legal.0.fits (few_health g past e sound legal.1 own)

no_more : (b : Bool) (least health : ℕ) → least ≤ health → (if b then least else health) ≤ health
no_more true least health low = low
no_more false least health low = omega arith

level_small : (e : Entity) (vals : Vals) (health : ℕ) (busy : Bool) → level_of e vals health busy ≤ health
level_small (Device i) vals health busy = no_more (busy || vals.v0 == 0) (min health 1) health (omega arith)
level_small (Link i) vals health busy = no_more (busy || vals.v0 == 0) 0 health (omega arith)

-- a report's level, by the health of the agent that made it
made_now : (g : Group) (past : List Entry) (event : Event) (r : Report) → IsSound g → IsLegal g past → IsEntityOf g r.entity → Makes event (report_now g past) r → r.level ≤ 5
made_now g past (make_report e) r sound legal own is =
    let at : IsEntityOf g e = subst (λ (x : Report). IsEntityOf g x.entity) is own in
    let level : r.level ≡ level_of e (vals g past e) (health g past e) (busy g past e) = ap (λ (x : Report). x.level) is in
    omega (arith, level, level_small e (vals g past e) (health g past e) (busy g past e), few_health g past e sound legal at)
made_now g past _ r sound legal own is = absurd is

made_by : (g : Group) (past : List Entry) (event : Event) (r : Report) → IsSound g → IsLegal g past → IsEntityOf g r.entity → (IsMade g past r → r.level ≤ 5) → IsMade g past r ⊎ Makes event (report_now g past) r → r.level ≤ 5
made_by g past event r sound legal own earlier (inl before) = earlier before
made_by g past event r sound legal own earlier (inr makes) = made_now g past event r sound legal own makes

made_level : (g : Group) (past : List Entry) (r : Report) → IsSound g → IsLegal g past → IsEntityOf g r.entity → IsMade g past r → r.level ≤ 5
made_level g [] r sound legal own is =
    let level : r.level ≡ level_of r.entity (opening_of g r.entity) (health_of g r.entity) false = ap (λ (x : Report). x.level) is in
    omega (arith, level, level_small r.entity (opening_of g r.entity) (health_of g r.entity) false, opening_health g r.entity sound own)
made_level g (entry ∷ past) r sound legal own is = made_by g past entry.event r sound legal.1 own (made_level g past r sound legal.1 own) is

few_levels : (g : Group) (past : List Entry) (e : Entity) → IsSound g → IsLegal g past → IsEntityOf g e → (observed g past e).level ≤ 5
few_levels g past e sound legal own =
    let seen = observed_own g past e in
    made_level g past (observed g past e) sound legal (subst (IsEntityOf g) (sym seen.own) own) seen.made

-- the number of the report that is observed
low_observed : (g : Group) (past : List Entry) (e : Entity) → (observed g past e).number ≤ length past
low_observed g past e =
    let counted = (made_is_true g past (observed g past e) (observed_own g past e).made).counted in
    omega (arith, counted, low_numbers past (observed g past e).entity)

-- lacks

abbrev IfLack : Group → Option Lack → Type 0
IfLack g None = Unit {0}
IfLack g (Some lack) = LackFits g lack

or_lack : (g : Group) (a b : Option Lack) → IfLack g a → IfLack g b → IfLack g (lack_or a b)
or_lack g (Some lack) b first second = first
or_lack g None b first second = second

few_needs : (v : Var) → needs_of v ≤ 4
few_needs Power = omega arith
few_needs Firmware = omega arith
few_needs Config = omega arith
few_needs Routing = omega arith
few_needs LinkPower = omega arith
few_needs Iface = omega arith

level_if : (g : Group) (e : Entity) (level needs : ℕ) (b : Bool) → IsEntityOf g e → level ≤ 5 → needs ≤ 4 → IfLack g (if b then Some (Level e level needs) else None)
level_if g e level needs true own low few = (own, omega arith, omega arith)
level_if g e level needs false own low few = tt

power_if : (g : Group) (b : Bool) → IfLack g (if b then Some PowerOff else None)
power_if g true = tt
power_if g false = tt

module _ (g : Group) (apps : List (List ℕ)) (past : List Entry) (sound : IsSound g) (legal : IsLegal g past) where
  level_fits : (e : Entity) (needs : ℕ) → IsEntityOf g e → needs ≤ 4 → IfLack g (level_lack (observed g past) e needs)
  level_fits e needs own few = level_if g e (observed g past e).level needs (nat_lt (observed g past e).level needs) own (few_levels g past e sound legal own) few

  lack_fits : (after : Entity → Var → ℕ) (e : Entity) (v : Var) → IsEntityOf g e → IfLack g (lack_at g (observed g past) after e v)
  lack_fits after (Device i) v own =
      or_lack g (level_lack (observed g past) (Device i) (needs_of v)) (power_lack (needs_of v) (after (Device i) Power)) (level_fits (Device i) (needs_of v) own (few_needs v)) (power_if g (nat_le 2 (needs_of v) && not (after (Device i) Power == 1)))
  lack_fits after (Link i) v own =
      let link = slice_index_or g.links i no_link in
      let is = is_link_at (length g.devices) g.links i sound.links own in
      or_lack g (level_lack (observed g past) (Device link.a) 4) (lack_or (level_lack (observed g past) (Device link.b) 4) (level_lack (observed g past) (Link i) (needs_of v))) (level_fits (Device link.a) 4 is.a_in (omega arith))
      (or_lack g (level_lack (observed g past) (Device link.b) 4) (level_lack (observed g past) (Link i) (needs_of v)) (level_fits (Device link.b) 4 is.b_in (omega arith)) (level_fits (Link i) (needs_of v) own (few_needs v)))

-- causes

abbrev IfCause : Group → List (List ℕ) → Option Cause → Type 0
IfCause g apps None = Unit {0}
IfCause g apps (Some cause) = CauseFits g apps cause

or_cause : (g : Group) (apps : List (List ℕ)) (a b : Option Cause) → IfCause g apps a → IfCause g apps b → IfCause g apps (cause_or a b)
or_cause g apps (Some cause) b first second = first
or_cause g apps None b first second = second

lack_step : (g : Group) (apps : List (List ℕ)) (row : Row) (o : Option Lack) (next : Option Cause) → RowFits g row → IfLack g o → IfCause g apps next → IfCause g apps (lack_cause row o next)
lack_step g apps row (Some lack) next fits has later = (fits, has)
lack_step g apps row None next fits has later = later

lacks_fit : (g : Group) (apps : List (List ℕ)) (past : List Entry) (after : Entity → Var → ℕ) (rows : List Row) → IsSound g → IsLegal g past → AllByRecursion (RowFits g) rows → IfCause g apps (first_lack g (observed g past) after rows)
lacks_fit g apps past after [] sound legal fits = tt
lacks_fit g apps past after (row ∷ rows) sound legal fits =
    lack_step g apps row (lack_at g (observed g past) after row.entity row.var) (first_lack g (observed g past) after rows) fits.0 (lack_fits g apps past sound legal after row.entity row.var fits.0.entity) (lacks_fit g apps past after rows sound legal fits.1)

-- holders

abbrev IfHolding : List (List ℕ) → Option Holding → Type 0
IfHolding apps None = Unit {0}
IfHolding apps (Some holding) = holding.app.0 < length apps

effective_fits : (apps : List (List ℕ)) (high low : Option AppId) → HolderFits apps high → HolderFits apps low → IfHolding apps (high_or_low high low)
effective_fits apps (Some app) low first second = first
effective_fits apps None (Some app) first second = second
effective_fits apps None None first second = tt

locked_if : (g : Group) (apps : List (List ℕ)) (b : Bool) (e : Entity) (holding : Holding) (next : Option Cause) → IsEntityOf g e → holding.app.0 < length apps → IfCause g apps next → IfCause g apps (if b then next else Some (Locked e holding.app holding.prio))
locked_if g apps true e holding next own low later = later
locked_if g apps false e holding next own low later = (own, low)

locked_step : (g : Group) (apps : List (List ℕ)) (app : AppId) (e : Entity) (o : Option Holding) (next : Option Cause) → IsEntityOf g e → IfHolding apps o → IfCause g apps next → IfCause g apps (locked_cause app e o next)
locked_step g apps app e None next own has later = later
locked_step g apps app e (Some holding) next own has later = locked_if g apps (holding.app.0 == app.0) e holding next own has later

locks_fit : (g : Group) (apps : List (List ℕ)) (held : Entity → Prio → Option AppId) (app : AppId) (rows : List Row) → ((e : Entity) (q : Prio) → HolderFits apps (held e q)) → AllByRecursion (RowFits g) rows → IfCause g apps (first_locked held app rows)
locks_fit g apps held app [] has fits = tt
locks_fit g apps held app (row ∷ rows) has fits =
    locked_step g apps app row.entity (effective_of held row.entity) (first_locked held app rows) fits.0.entity (effective_fits apps (held row.entity High) (held row.entity Low) (has row.entity High) (has row.entity Low)) (locks_fit g apps held app rows has fits.1)

holder_if : (apps : List (List ℕ)) (b : Bool) (next before : Option AppId) → HolderFits apps next → HolderFits apps before → HolderFits apps (if b then next else before)
holder_if apps true next before first second = first
holder_if apps false next before first second = second

granted_fits : (apps : List (List ℕ)) (b : Bool) (before : Entity → Prio → Option AppId) (at : Entity) (prio : Prio) (app : AppId) → app.0 < length apps → ((e : Entity) (q : Prio) → HolderFits apps (before e q)) → (e : Entity) (q : Prio)
    → HolderFits apps ((if b then holder_set before at prio (Some app) else before) e q)
granted_fits apps true before at prio app low has e q = holder_if apps (is_same_entity at e && is_same_prio prio q) (Some app) (before e q) low (has e q)
granted_fits apps false before at prio app low has e q = has e q

freed_fits : (apps : List (List ℕ)) (b : Bool) (before : Entity → Prio → Option AppId) (at : Entity) (prio : Prio) → ((e : Entity) (q : Prio) → HolderFits apps (before e q)) → (e : Entity) (q : Prio)
    → HolderFits apps ((if b then holder_set before at prio None else before) e q)
freed_fits apps true before at prio has e q = holder_if apps (is_same_entity at e && is_same_prio prio q) None (before e q) tt (has e q)
freed_fits apps false before at prio has e q = has e q

released_fits : (apps : List (List ℕ)) (b : Bool) (before : Entity → Prio → Option AppId) (at : Entity) (prio : Prio) (app : AppId) → ((e : Entity) (q : Prio) → HolderFits apps (before e q)) → (e : Entity) (q : Prio)
    → HolderFits apps ((if b then holder_freed before at prio app else before) e q)
released_fits apps true before at prio app has e q = freed_fits apps (is_held_by app (before at prio)) before at prio has e q
released_fits apps false before at prio app has e q = has e q

holder_next : (apps : List (List ℕ)) (event : Event) (answer : Reply) (before : Entity → Prio → Option AppId) → IsByApp apps event → ((e : Entity) (q : Prio) → HolderFits apps (before e q)) → (e : Entity) (q : Prio) → HolderFits apps (holder_after event answer before e q)
holder_next apps (Lock app at prio) answer before own has e q = granted_fits apps (is_granted answer) before at prio app own has e q
holder_next apps (Unlock app at prio) answer before own has e q = released_fits apps (is_released answer) before at prio app has e q
holder_next apps _ answer before own has e q = has e q

-- whoever holds a lock asked for it
holders_fit : (apps : List (List ℕ)) (past : List Entry) → AllByRecursion (λ (entry : Entry). IsByApp apps entry.event) past → (e : Entity) (q : Prio) → HolderFits apps (holder past e q)
holders_fit apps [] all e q = tt
holders_fit apps (entry ∷ past) all e q = holder_next apps entry.event entry.reply (holder past) all.0 (holders_fit apps past all.1) e q

-- broken promises

one_capacity : (b : Bool) (capacity : ℕ) → capacity ≤ 1000000 → (if b then capacity else 0) ≤ 1000000
one_capacity true capacity low = low
one_capacity false capacity low = omega arith

cut_small : (n i : ℕ) (links : List LinkOpening) (up : Entity → Bool) (side : ℕ → Bool) → AreLinks n links → cut_value_from i links up side ≤ 1000000 * length links
cut_small n i [] up side are = omega arith
cut_small n i (link ∷ links) up side are =
    omega (arith, one_capacity (is_up_link up i link && is_crossing side link) link.capacity are.0.bounded, cut_small n (i + 1) links up side are.1)

least_low : (n : ℕ) (f : (ℕ → Bool) → ℕ) → least_over n f ≤ f (λ d. false)
least_low zero f = omega arith
least_low (suc n) f = omega (arith, least_low n f)

least_small : (g : Group) (up : Entity → Bool) (a b : ℕ) → IsSound g → least_cut (length g.devices) g.links up a b ≤ 4096000000
least_small g up a b sound =
    omega (arith, least_low (length g.devices) (λ side. cut_value g.links up (cut_of a b side)), cut_small (length g.devices) 0 g.links up (cut_of a b (λ d. false)) sound.links, sound.few_links)

need_small : (g : Group) (p : Promise) → IsSound g → p.percent ≤ 100 → need_of g p ≤ 4096000000
need_small g p sound share =
    let least = least_cut (length g.devices) g.links (λ e. true) p.a p.b in
    let low : least ≤ 4096000000 = least_small g (λ e. true) p.a p.b sound in
    let part : p.percent * least ≤ 100 * least = mul-le-mul share (omega arith) in
    omega arith

-- a least side has its first end
all_true : (n : ℕ) (test : (ℕ → Bool) → Bool) → ((side : ℕ → Bool) → test side ≡ true) → all_over n test ≡ true
all_true zero test is = is (λ d. false)
all_true (suc n) test is = rw (all_true n test is, all_true n (λ side. test (with_number side n)) (λ side. is (with_number side n))) refl

or_true : (b : Bool) → (b || true) ≡ true
or_true true = refl
or_true false = refl

apart_false : (a b : ℕ) → a ≢ b → (a == b) ≡ false
apart_false a b apart = grind (arith, nat_tests)

same_true : (a : ℕ) → (a == a) ≡ true
same_true a = grind (arith, nat_tests)

has_first : (g : Group) (up : Entity → Bool) (a b : ℕ) → a ≢ b → is_in_least_side (length g.devices) g.links up a b a ≡ true
has_first g up a b apart =
    all_true (length g.devices) (λ side. not (cut_value g.links up (cut_of a b side) == least_cut (length g.devices) g.links up a b) || cut_of a b side a)
    (λ side. rw (apart_false a b apart, same_true a) (or_true (not (cut_value g.links up (cut_of a b side) == least_cut (length g.devices) g.links up a b))))

-- the numbers of a set ascend
ascends_push : (xs : List ℕ) (n : ℕ) → Ascends xs → AllByRecursion (λ d. d < n) xs → Ascends (xs ++ n ∷ [])
ascends_push [] n ascends below = tt
ascends_push (x ∷ []) n ascends below = (below.0, tt)
ascends_push (x ∷ y ∷ xs) n ascends below = (ascends.0, ascends_push (y ∷ xs) n ascends.1 below.1)

below_push : (xs : List ℕ) (n : ℕ) → AllByRecursion (λ d. d < n) xs → AllByRecursion (λ d. d < suc n) (xs ++ n ∷ [])
below_push [] n below = (omega arith, tt)
below_push (x ∷ xs) n below = (omega (arith, below.0), below_push xs n below.1)

below_more : (xs : List ℕ) (n : ℕ) → AllByRecursion (λ d. d < n) xs → AllByRecursion (λ d. d < suc n) xs
below_more [] n below = tt
below_more (x ∷ xs) n below = (omega (arith, below.0), below_more xs n below.1)

pub record AreRising (n : ℕ) (xs : List ℕ) : Type 0 where
  pub ascends : Ascends xs
  pub below : AllByRecursion (λ d. d < n) xs

rising_if : (n : ℕ) (xs : List ℕ) (b : Bool) → AreRising n xs → AreRising (suc n) (xs ++ (if b then n ∷ [] else []))
rising_if n xs true are = record { ascends = ascends_push xs n are.ascends are.below; below = below_push xs n are.below }
rising_if n xs false are = subst (AreRising (suc n)) (sym (append-nil xs)) (record { ascends = are.ascends; below = below_more xs n are.below })

numbers_rise : (n : ℕ) (test : ℕ → Bool) → AreRising n (numbers_in n test)
numbers_rise zero test = record { ascends = tt; below = tt }
numbers_rise (suc n) test = rising_if n (numbers_in n test) (test n) (numbers_rise n test)

numbers_some : (n : ℕ) (test : ℕ → Bool) (d : ℕ) → d < n → test d ≡ true → 1 ≤ length (numbers_in n test)
numbers_some zero test d low is = absurd (omega arith)
numbers_some (suc n) test d low is = elim (cases_lt d n) [
  | inl below ↦ omega (arith, length-append (numbers_in n test) (if test n then n ∷ [] else []), numbers_some n test d below is)
  | inr high ↦ last (omega arith)
]
  where
    last : d ≡ n → 1 ≤ length (numbers_in n test ++ (if test n then n ∷ [] else []))
    last same = let own : test n ≡ true = subst (λ (k : ℕ). test k ≡ true) same is in rw own (omega (arith, length-append (numbers_in n test) (n ∷ [])))

broken_fits : (g : Group) (up : Entity → Bool) (i : ℕ) (p : Promise) → IsSound g → IsPromiseAmong g.devices p → i < length g.promises → BrokenFits g (broken_at g up i p)
broken_fits g up i p sound among low =
    let rising = numbers_rise (length g.devices) (is_in_least_side (length g.devices) g.links up p.a p.b) in
    record {
      demand = low;
      need = omega (arith, need_small g p sound among.share);
      has = omega (arith, least_small g up p.a p.b sound);
      some = numbers_some (length g.devices) (is_in_least_side (length g.devices) g.links up p.a p.b) p.a among.a_in (has_first g up p.a p.b among.apart);
      ascends = rising.ascends;
      within = rising.below;
    }

abbrev IfBroken : Group → Option Broken → Type 0
IfBroken g None = Unit {0}
IfBroken g (Some broken) = BrokenFits g broken

broken_if : (g : Group) (b : Bool) (broken : Broken) (next : Option Broken) → BrokenFits g broken → IfBroken g next → IfBroken g (if b then Some broken else next)
broken_if g true broken next fits later = fits
broken_if g false broken next fits later = later

promises_fit : (g : Group) (before after : Entity → Bool) (i : ℕ) (ps : List Promise) → IsSound g → ArePromises g.devices ps → i + length ps ≤ length g.promises → IfBroken g (first_broken g before after i ps)
promises_fit g before after i [] sound are few = tt
promises_fit g before after i (p ∷ ps) sound are few =
    broken_if g (is_broken g before after p) (broken_at g after i p) (first_broken g before after (i + 1) ps) (broken_fits g after i p sound are.0 (omega arith)) (promises_fit g before after (i + 1) ps sound are.1 (omega arith))

broken_cause_fits : (g : Group) (apps : List (List ℕ)) (o : Option Broken) → IfBroken g o → IfCause g apps (option_map broken_cause o)
broken_cause_fits g apps None has = tt
broken_cause_fits g apps (Some broken) has = has

-- verdicts

verdict_by : (g : Group) (apps : List (List ℕ)) (o : Option Cause) (accepts : ℕ) → IfCause g apps o → accepts + 1 < 2 ^ 32 → VerdictFits g apps (refusal_or_version o accepts)
verdict_by g apps (Some cause) accepts has less = has
verdict_by g apps None accepts has less = less

few_verdicts : (g : Group) (past : List Entry) → IsLegal g past → length (verdicts past) ≤ length past
few_verdicts g past legal = omega (arith, (legal_orderly g past legal).few, few_tickets past)

-- the reply to an event names what can be read back, and is one that the event takes
pub record IsAnswer (g : Group) (apps : List (List ℕ)) (n : ℕ) (event : Event) (answer : Reply) : Type 0 where
  pub fits : ReplyFits g apps n answer
  pub own : IsOfEvent event answer
  pub taken : reply_among (replies_of (event_keyword event)) (reply_word (reply_keyword answer)) ≡ Some (reply_keyword answer)

module _ (g : Group) (apps : List (List ℕ)) (past : List Entry) (sound : IsSound g) (legal : IsLegal g past) (room : length past < MAX_ENTRIES) (asked : AllByRecursion (λ (entry : Entry). IsByApp apps entry.event) past) where
  submit_answer : (app : AppId) (rows : List Row) (ticket waiting : ℕ) (b : Bool) → ticket < 2 ^ 32 → waiting < 2 ^ 32 → IsAnswer g apps (length past + 1) (Submit app rows) (if b then Queued ticket else Full waiting)
  submit_answer app rows ticket waiting true few less = record { fits = few; own = tt; taken = refl }
  submit_answer app rows ticket waiting false few less = record { fits = less; own = tt; taken = refl }

  check_answer : (queue : List Proposal) → pending past ≡ queue → IsAnswer g apps (length past + 1) Check (check_reply g past queue)
  check_answer [] first = record { fits = tt; own = tt; taken = refl }
  check_answer (p ∷ ps) first =
      let fit : AllByRecursion (RowFits g) p.rows = recursion_from_All (RowFits g) p.rows (subst (λ (queue : List Proposal). All (RowFits g) (first_rows queue)) first (next_fits g past legal)) in
      let lacks = lacks_fit g apps past (target_with (target g past) p.rows) p.rows sound legal fit in
      let locks = locks_fit g apps (holder past) p.app p.rows (holders_fit apps past asked) fit in
      let breaks = broken_cause_fits g apps (first_broken g (sure g past) (sure_after g past p.rows) 0 g.promises) (promises_fit g (sure g past) (sure_after g past p.rows) 0 g.promises sound sound.promises (omega arith)) in
      let later = or_cause g apps (first_locked (holder past) p.app p.rows) (option_map broken_cause (first_broken g (sure g past) (sure_after g past p.rows) 0 g.promises)) locks breaks in
      record {
        fits = record {
          ticket = omega (arith, few_verdicts g past legal);
          entry = refl;
          verdict = verdict_by g apps _ (version past) (or_cause g apps (first_lack g (observed g past) (target_with (target g past) p.rows) p.rows) _ lacks later) (omega (arith, versions_few past));
        };
        own = tt;
        taken = refl;
      }

  lock_if : (app holder : AppId) (e : Entity) (prio : Prio) (b : Bool) → holder.0 < length apps → IsAnswer g apps (length past + 1) (Lock app e prio) (if b then Granted else Held holder)
  lock_if app holder e prio true low = record { fits = tt; own = tt; taken = refl }
  lock_if app holder e prio false low = record { fits = low; own = tt; taken = refl }

  lock_answer : (app : AppId) (e : Entity) (prio : Prio) (o : Option AppId) → HolderFits apps o → IsAnswer g apps (length past + 1) (Lock app e prio) (lock_reply app o)
  lock_answer app e prio None has = record { fits = tt; own = tt; taken = refl }
  lock_answer app e prio (Some holder) has = lock_if app holder e prio (is_free_for app (Some holder)) has

  unlock_answer : (app : AppId) (e : Entity) (prio : Prio) (o : Option AppId) (b : Bool) → HolderFits apps o → IsAnswer g apps (length past + 1) (Unlock app e prio) (if b then Released else NotYours o)
  unlock_answer app e prio o true has = record { fits = tt; own = tt; taken = refl }
  unlock_answer app e prio o false has = record { fits = has; own = tt; taken = refl }

  blocked_answer : (e : Entity) (o : Option Lack) (row : Row) (sent : ℕ) → RowFits g row → sent + 1 < 2 ^ 32 → IsAnswer g apps (length past + 1) (Send e) (blocked_or_sent o row sent)
  blocked_answer e (Some lack) row sent fits less = record { fits = fits; own = tt; taken = refl }
  blocked_answer e None row sent fits less = record { fits = less; own = tt; taken = refl }

  send_if : (e : Entity) (b : Bool) (next : Reply) → IsAnswer g apps (length past + 1) (Send e) next → IsAnswer g apps (length past + 1) (Send e) (if b then Settled else next)
  send_if e true next answers = record { fits = tt; own = tt; taken = refl }
  send_if e false next answers = answers

  stale_if : (n fence : ℕ) (b : Bool) → fence < 2 ^ 32 → IsAnswer g apps (length past + 1) (Deliver n) (if b then Begun else Stale fence)
  stale_if n fence true less = record { fits = tt; own = tt; taken = refl }
  stale_if n fence false less = record { fits = less; own = tt; taken = refl }

  deliver_answer : (n : ℕ) (fences : Entity → ℕ) (sent : ℕ) (o : Option Command) → ((e : Entity) → fences e < 2 ^ 32) → sent < 2 ^ 32 → IsAnswer g apps (length past + 1) (Deliver n) (deliver_reply fences sent o)
  deliver_answer n fences sent None few less = record { fits = less; own = tt; taken = refl }
  deliver_answer n fences sent (Some c) few less = stale_if n (fences c.entity) (nat_lt (fences c.entity) c.stamp) (few c.entity)

  finish_if : (e : Entity) (b : Bool) → IsAnswer g apps (length past + 1) (Finish e) (if b then Done else NotBusy)
  finish_if e true = record { fits = tt; own = tt; taken = refl }
  finish_if e false = record { fits = tt; own = tt; taken = refl }

  old_if : (n kept : ℕ) (b : Bool) → kept < 2 ^ 32 → IsAnswer g apps (length past + 1) (Hear n) (if b then Taken else Old kept)
  old_if n kept true less = record { fits = tt; own = tt; taken = refl }
  old_if n kept false less = record { fits = less; own = tt; taken = refl }

  hear_answer : (n : ℕ) (kept : Entity → Report) (made : ℕ) (o : Option Report) → ((e : Entity) → (kept e).number < 2 ^ 32) → made < 2 ^ 32 → IsAnswer g apps (length past + 1) (Hear n) (hear_reply kept made o)
  hear_answer n kept made None few less = record { fits = less; own = tt; taken = refl }
  hear_answer n kept made (Some r) few less = old_if n (kept r.entity).number (nat_lt (kept r.entity).number r.number) (few r.entity)

  -- the variable that a command waits for is one of its entity
  other_is : (e : Entity) (value wanted : Var → ℕ) (default : Var) (vs : List Var) → is_var_of e default ≡ true → AllByRecursion (λ v. is_var_of e v ≡ true) vs → is_var_of e (first_other value wanted default vs) ≡ true
  other_is e value wanted default [] own all = own
  other_is e value wanted default (v ∷ vs) own all = by (value v == wanted v) (other_is e value wanted default vs own all.1) all.0
    where
      by : (b : Bool) → is_var_of e (first_other value wanted default vs) ≡ true → is_var_of e v ≡ true → is_var_of e (if b then first_other value wanted default vs else v) ≡ true
      by true later here = later
      by false later here = here

  governs : (e : Entity) (seen : Vals) (wanted : Var → ℕ) → is_var_of e (governing e seen wanted) ≡ true
  governs (Device i) seen wanted = other_is (Device i) (value_of (Device i) seen) wanted Power (Power ∷ Firmware ∷ Config ∷ Routing ∷ []) refl (refl, (refl, (refl, (refl, tt))))
  governs (Link i) seen wanted = other_is (Link i) (value_of (Link i) seen) wanted LinkPower (LinkPower ∷ Iface ∷ []) refl (refl, (refl, tt))

  wanted_value : (e : Entity) (v : Var) → is_var_of e v ≡ true → value_of e (vals_in g (target g past) e) v ≡ target g past e v
  wanted_value (Device i) Power own = refl
  wanted_value (Device i) Firmware own = refl
  wanted_value (Device i) Config own = refl
  wanted_value (Device i) Routing own = refl
  wanted_value (Device i) LinkPower own = absurd cc
  wanted_value (Device i) Iface own = absurd cc
  wanted_value (Link i) Power own = absurd cc
  wanted_value (Link i) Firmware own = absurd cc
  wanted_value (Link i) Config own = absurd cc
  wanted_value (Link i) Routing own = absurd cc
  wanted_value (Link i) LinkPower own = refl
  wanted_value (Link i) Iface own = refl

  target_row : (e : Entity) (v : Var) → IsEntityOf g e → is_var_of e v ≡ true → RowFits g (row_to e v (target g past e))
  target_row e v own is = record {
    entity = own;
    range = subst (λ (x : ℕ). is_in_range e v x ≡ true) (wanted_value e v is) (value_in_range e (vals_in g (target g past) e) v (target_in_range g past e sound legal own) is);
  }

  -- a withdrawal
  withdraw_by : (e : Entity) (lack : Option Lack) (rows : List Row) → AllByRecursion (RowFits g) rows → AreOwn e [] rows → IsAnswer g apps (length past + 1) (Withdraw e) (kept_or_withdrawn lack rows (version past))
  withdraw_by e None rows fits own = record { fits = tt; own = tt; taken = refl }
  withdraw_by e (Some lack) [] fits own = record { fits = tt; own = tt; taken = refl }
  withdraw_by e (Some lack) (row ∷ rows) fits own = record { fits = (omega (arith, versions_few past, room), omega arith, fits); own = (e, refl, own); taken = refl }

  withdraw_answer : (e : Entity) → IsEntityOf g e → IsAnswer g apps (length past + 1) (Withdraw e) (reply g past (Withdraw e))
  withdraw_answer e own =
      let value = value_of e (observed g past e).vals in
      let rows = rows_back e value (target g past e) (vars_of e) in
      withdraw_by e (lack_at g (observed g past) (target g past) e (governing e (observed g past e).vals (target g past e))) rows (recursion_from_All (RowFits g) rows (back_in_range g past e sound legal own)) (are_own e value (target g past e))

  pub answers : (event : Event) → Fits g event → IsAnswer g apps (length past + 1) event (reply g past event)
  answers (Submit app rows) fits =
      submit_answer app rows (length (proposals past) + 1) (length (pending past)) (nat_lt (length (pending past)) MAX_PENDING) (omega (arith, few_tickets past)) (omega (arith, few_tickets past, length-drop (length (verdicts past)) (proposals past)))
  answers Check fits = check_answer (pending past) refl
  answers (Lock app e prio) fits = lock_answer app e prio (holder past e prio) (holders_fit apps past asked e prio)
  answers (Unlock app e prio) fits = unlock_answer app e prio (holder past e prio) (is_held_by app (holder past e prio)) (holders_fit apps past asked e prio)
  answers (Send e) fits =
      let v = governing e (observed g past e).vals (target g past e) in
      send_if e (is_settled g past e) _ (blocked_answer e (lack_at g (observed g past) (target g past) e v) (row_to e v (target g past e)) (length (commands g past)) (target_row e v fits (governs e (observed g past e).vals (target g past e))) (omega (arith, few_commands g past)))
  answers (Deliver n) fits = deliver_answer n (fence g past) (length (commands g past)) (nth (commands g past) n) (λ e. omega (arith, fence_small g past e, stamp_small g past e)) (omega (arith, few_commands g past))
  answers (Finish e) fits = finish_if e (busy g past e)
  answers (make_report e) fits = record { fits = omega (arith, few_reports g past); own = tt; taken = refl }
  answers (Hear n) fits = hear_answer n (observed g past) (length (reports g past)) (nth (reports g past) n) (λ e. omega (arith, low_observed g past e)) (omega (arith, few_reports g past))
  answers (Fail e made level) fits = record { fits = tt; own = tt; taken = refl }
  answers (Withdraw e) fits = withdraw_answer e fits
