-- What an entry leaves as it was: all of an entity that it does not move, and what is shown of it, of links where it moves no end of theirs.
use Rattle.std.proofs.Common.{◌≡◌, ◌∙◌, ℕ, ◌+◌, List, [], ◌∷◌, ◌++◌, true, false, true≢false, Bool, Option, Some, None, inl, inr, refl, sym, ap, subst}
use Rattle.std.proofs.lemmas.Bool.{and_right}
use Rattle.std.specs.Prelude.{◌&&◌, ◌||◌, ◌==◌, not, nat_lt, if◌then◌else◌, is_some, option_map, slice_index_or}
use Rattle.st_net.specs.declared.entity.AppId.{AppId}
use Rattle.st_net.specs.declared.entity.Entity.{Entity}
use Rattle.st_net.specs.declared.entity.Entity.TheVariants.{Device, Link}
use Rattle.st_net.specs.declared.entity.Prio.{Prio}
use Rattle.st_net.specs.declared.entity.Prio.TheVariants.{Low, High}
use Rattle.st_net.specs.declared.entity.Row.{Row}
use Rattle.st_net.specs.declared.entity.Vals.{Vals}
use Rattle.st_net.specs.declared.entity.Var.{Var}
use Rattle.st_net.specs.declared.message.Command.{Command}
use Rattle.st_net.specs.declared.message.Report.{Report}
use Rattle.st_net.specs.Entities.{is_same_entity, value_of}
use Rattle.st_net.specs.Groups.{Group, IsEntityOf, no_link}
use Rattle.st_net.specs.Agents.{report_by}
use Rattle.st_net.specs.Holders.{holder_set, is_held_by}
use Rattle.st_net.specs.Levels.{carries, level_of}
use Rattle.st_net.specs.Merge.{vals_in}
use Rattle.st_net.specs.Numbered.{nth}
use Rattle.st_net.specs.Reports.{is_settled_by, is_sure_by, later_report}
use Rattle.st_event.specs.declared.event.Event.{Event}
use Rattle.st_event.specs.declared.event.Event.TheVariants.{Check, Lock, Unlock, Send, Deliver, Finish, Report as make_report, Hear, Fail, Withdraw}
use Rattle.st_event.specs.declared.journal.Entry.{Entry}
use Rattle.st_event.specs.declared.reply.Lack.{Lack}
use Rattle.st_event.specs.declared.reply.Reply.{Reply}
use Rattle.st_event.specs.declared.reply.Reply.TheVariants.{Settled as settled_reply}
use Rattle.st_event.specs.History.{History, with_entry}
use Rattle.st_event.specs.Judge.{lack_at, lack_or, level_lack, needs_of, power_lack}
use Rattle.st_event.specs.Legal.{Fits, IsLegal, IsNext}
use Rattle.st_event.specs.Locks.{holder, is_granted, is_released}
use Rattle.st_event.specs.Moments.{begins, busy, command_of, commands, fence, health, is_sent, is_taken, number, renews, reports, stamp, vals}
use Rattle.st_event.specs.Observed.{actual, failed_since, is_settled, observed, sure}
use Rattle.st_event.specs.Proposals.{first_rows, is_accepting, makes_version, pending, target}
use Rattle.st_event.specs.Replies.{blocked_or_sent, governing, reply, row_to}
use Rattle.st_net.proofs.Tests.{nth_last}
use Rattle.st_event.proofs.Standings.{quiet_stamp}
use Rattle.st_event.proofs.Targets.{target_same}
use Rattle.st_player.specs.declared.state.Carriage.TheVariants.{Busy, Up, Off, Failed, Drained}
use Rattle.st_player.specs.declared.state.Knowledge.TheVariants.{Sure, Settled, Blocked, Waiting}
use Rattle.st_player.specs.declared.state.State.{State}
use Rattle.st_player.specs.declared.touched.Touched.{Touched}
use Rattle.st_player.specs.declared.touched.Touched.TheVariants.{Nothing, Near}
use Rattle.st_player.specs.Causes.{overlay_of}
use Rattle.st_player.specs.Entries.{is_entity}
use Rattle.st_player.specs.Known.{health_told, known_since, since_after}
use Rattle.st_player.specs.States.{greatest, is_blocked, open_of, state_of}
use Rattle.st_player.specs.Touched.{IsTouchIn, LeavesPromisesIn, Touches, may_move, may_show, moved_by}

abbrev pub entry_of : Event → Reply → Entry
entry_of event answer = record { event = event; reply = answer }

-- an entry leaves all of an entity that looks back
pub record Stays (g : Group) (past : List Entry) (entry : Entry) (e : Entity) : Type 0 where
  pub busy_is : busy g past e ≡ busy g (entry ∷ past) e
  pub vals_is : vals g past e ≡ vals g (entry ∷ past) e
  pub health_is : health g past e ≡ health g (entry ∷ past) e
  pub observed_is : observed g past e ≡ observed g (entry ∷ past) e
  pub since_is : known_since g past e ≡ known_since g (entry ∷ past) e
  pub stamp_is : stamp g past e ≡ stamp g (entry ∷ past) e
  pub holder_is : (p : Prio) → holder past e p ≡ holder (entry ∷ past) e p
  pub failed_is : (n : ℕ) → failed_since past e n ≡ failed_since (entry ∷ past) e n
  pub goal_is : vals_in g (target g past) e ≡ vals_in g (target g (entry ∷ past)) e

-- no command of its own, no finish of its own
busy_still : (o : Option Command) (fenced : ℕ) (b finishes : Bool) → o ≡ None → finishes ≡ false → b ≡ (begins o fenced || (b && not finishes))
busy_still o fenced true finishes none other = rw (none, other) refl
busy_still o fenced false finishes none other = rw none refl

pub and_true : (b : Bool) → b ≡ (b && true)
and_true true = refl
and_true false = refl

not_its_command : (o : Option Command) (e : Entity) → is_entity (option_map (λ c. c.entity) o) e ≡ false → command_of e o ≡ None
not_its_command None e other = refl
not_its_command (Some c) e other = rw other refl

not_its_report : (o : Option Report) (e : Entity) (kept : Report) → is_entity (option_map (λ r. r.entity) o) e ≡ false → kept ≡ later_report e o kept
not_its_report None e kept other = refl
not_its_report (Some r) e kept other = rw other refl

not_its_maker : (o : Option Report) (e : Entity) (kept maker before : ℕ) → is_entity (option_map (λ r. r.entity) o) e ≡ false → before ≡ since_after e o kept maker before
not_its_maker None e kept maker before other = refl
not_its_maker (Some r) e kept maker before other = rw other refl

not_renewed : (o : Option Report) (e : Entity) (stamped : ℕ) (goal : Vals) → is_entity (option_map (λ r. r.entity) o) e ≡ false → renews o e stamped goal ≡ false
not_renewed None e stamped goal other = refl
not_renewed (Some r) e stamped goal other = rw other refl

not_its_lock : (b : Bool) (before : Entity → Prio → Option AppId) (at : Entity) (prio : Prio) (next : Option AppId) (e : Entity) (p : Prio) → is_same_entity at e ≡ false → before e p ≡ (if b then holder_set before at prio next else before) e p
not_its_lock true before at prio next e p other = rw other refl
not_its_lock false before at prio next e p other = refl

not_its_release : (b held : Bool) (before : Entity → Prio → Option AppId) (at : Entity) (prio : Prio) (e : Entity) (p : Prio) → is_same_entity at e ≡ false
    → before e p ≡ (if b then (if held then holder_set before at prio None else before) else before) e p
not_its_release true held before at prio e p other = not_its_lock held before at prio None e p other
not_its_release false held before at prio e p other = refl

-- no report is heard
silent : (g : Group) (past : List Entry) (event : Event) (answer : Reply) (e : Entity) → stamp g (entry_of event answer ∷ past) ≡ stamp g past → stamp g past e ≡ stamp g (entry_of event answer ∷ past) e
silent g past event answer e is = λ i. sym is i e

-- the target stays where no version is made
goal_same : (g : Group) (past : List Entry) (event : Event) (answer : Reply) (e : Entity) → makes_version event answer ≡ false → vals_in g (target g past) e ≡ vals_in g (target g (entry_of event answer ∷ past)) e
goal_same g past event answer e none = ap (λ (t : Entity → Var → ℕ). vals_in g t e) (sym (target_same g past (entry_of event answer) none))

-- what overlays nothing makes no version
makes_none : (past : List Entry) (event : Event) (answer : Reply) → overlay_of past (entry_of event answer) ≡ None → makes_version event answer ≡ false
makes_none past Check answer is = by_verdict (is_accepting answer) is
  where
    by_verdict : (accepts : Bool) → (if accepts then Some (first_rows (pending past)) else None) ≡ None → accepts ≡ false
    by_verdict true is = cc
    by_verdict false is = refl
makes_none past (Withdraw at) answer is = ap is_some is
makes_none past _ answer is = refl

pub stays_at : (g : Group) (past : List Entry) (event : Event) (answer : Reply) (e : Entity) → makes_version event answer ≡ false → is_entity (moved_by g past event) e ≡ false → Stays g past (entry_of event answer) e
stays_at g past (Lock app at prio) answer e none other = record {
  busy_is = and_true (busy g past e);
  vals_is = refl;
  health_is = refl;
  observed_is = refl;
  since_is = refl;
  stamp_is = silent g past (Lock app at prio) answer e (quiet_stamp g past (Lock app at prio) answer none refl);
  holder_is = λ p. not_its_lock (is_granted answer) (holder past) at prio (Some app) e p other;
  failed_is = λ n. refl;
  goal_is = goal_same g past (Lock app at prio) answer e none;
}
stays_at g past (Unlock app at prio) answer e none other = record {
  busy_is = and_true (busy g past e);
  vals_is = refl;
  health_is = refl;
  observed_is = refl;
  since_is = refl;
  stamp_is = silent g past (Unlock app at prio) answer e (quiet_stamp g past (Unlock app at prio) answer none refl);
  holder_is = λ p. not_its_release (is_released answer) (is_held_by app (holder past at prio)) (holder past) at prio e p other;
  failed_is = λ n. refl;
  goal_is = goal_same g past (Unlock app at prio) answer e none;
}
stays_at g past (Deliver n) answer e none other = record {
  busy_is = busy_still (command_of e (nth (commands g past) n)) _ (busy g past e) false (not_its_command (nth (commands g past) n) e other) refl;
  vals_is = refl;
  health_is = refl;
  observed_is = refl;
  since_is = refl;
  stamp_is = silent g past (Deliver n) answer e (quiet_stamp g past (Deliver n) answer none refl);
  holder_is = λ p. refl;
  failed_is = λ n. refl;
  goal_is = goal_same g past (Deliver n) answer e none;
}
stays_at g past (Finish at) answer e none other = record {
  busy_is = busy_still None 0 (busy g past e) (is_same_entity at e) refl other;
  vals_is = rw other refl;
  health_is = refl;
  observed_is = refl;
  since_is = refl;
  stamp_is = silent g past (Finish at) answer e (quiet_stamp g past (Finish at) answer none refl);
  holder_is = λ p. refl;
  failed_is = λ n. refl;
  goal_is = goal_same g past (Finish at) answer e none;
}
stays_at g past (Hear n) answer e none other = record {
  busy_is = and_true (busy g past e);
  vals_is = refl;
  health_is = refl;
  observed_is = not_its_report (nth (reports g past) n) e (observed g past e) other;
  since_is = not_its_maker (nth (reports g past) n) e _ _ (known_since g past e) other;
  stamp_is = rw (and_right (is_taken answer) _ (not_renewed (nth (reports g past) n) e (stamp g past e) (vals_in g (target g past) e) other)) refl;
  holder_is = λ p. refl;
  failed_is = λ n. refl;
  goal_is = goal_same g past (Hear n) answer e none;
}
stays_at g past (Fail at new level) answer e none other = record {
  busy_is = and_true (busy g past e);
  vals_is = rw other refl;
  health_is = rw other refl;
  observed_is = refl;
  since_is = refl;
  stamp_is = silent g past (Fail at new level) answer e (quiet_stamp g past (Fail at new level) answer none refl);
  holder_is = λ p. refl;
  failed_is = λ n. rw other refl;
  goal_is = goal_same g past (Fail at new level) answer e none;
}
stays_at g past event answer e none other = record {
  busy_is = and_true (busy g past e);
  vals_is = refl;
  health_is = refl;
  observed_is = refl;
  since_is = refl;
  stamp_is = silent g past event answer e (quiet_stamp g past event answer none refl);
  holder_is = λ p. refl;
  failed_is = λ n. refl;
  goal_is = goal_same g past event answer e none;
}

-- the ends of a link stay
abbrev pub EndsStay : Group → List Entry → Entry → Entity → Type 0
EndsStay g past entry (Device i) = Unit {0}
EndsStay g past entry (Link i) = Stays g past entry (Device (slice_index_or g.links i no_link).a) × Stays g past entry (Device (slice_index_or g.links i no_link).b)

-- the network and the sure set
pub actual_stays : (g : Group) (past : List Entry) (entry : Entry) (e : Entity) → Stays g past entry e → actual g past e ≡ actual g (entry ∷ past) e
actual_stays g past entry e s = λ i. not (s.busy_is i) && carries e (s.vals_is i) (level_of e (s.vals_is i) (s.health_is i) (s.busy_is i))

pub sure_stays : (g : Group) (past : List Entry) (entry : Entry) (e : Entity) → Stays g past entry e → sure g past e ≡ sure g (entry ∷ past) e
sure_stays g past entry e s = λ i. is_sure_by e (s.observed_is i) (s.stamp_is i) (s.goal_is i)

-- whether a command of an entity is barred: not by how many were sent
abbrev blocked_from : Bool → Option Lack → Bool
blocked_from settled lack = if settled then false else is_some lack

blocked_is : (settled : Bool) (lack : Option Lack) (row : Row) (n : ℕ) → is_blocked (if settled then settled_reply else blocked_or_sent lack row n) ≡ blocked_from settled lack
blocked_is true lack row n = refl
blocked_is false None row n = refl
blocked_is false (Some lack) row n = refl

abbrev waits_for : Group → List Entry → Entity → Var
waits_for g past e = governing e (observed g past e).vals (target g past e)

abbrev lacks : Group → List Entry → Entity → Option Lack
lacks g past e = lack_at g (observed g past) (target g past) e (waits_for g past e)

blocked_at : (g : Group) (past : List Entry) (e : Entity) → is_blocked (reply g past (Send e)) ≡ blocked_from (is_settled g past e) (lacks g past e)
blocked_at g past e = blocked_is (is_settled g past e) (lacks g past e) (row_to e (waits_for g past e) (target g past e)) _

-- what a command waits for goes by the values that the entity is to have
waits_by : (g : Group) (goal : Entity → Var → ℕ) (e : Entity) (seen : Vals) → governing e seen (goal e) ≡ governing e seen (value_of e (vals_in g goal e))
waits_by g goal (Device k) seen = refl
waits_by g goal (Link k) seen = refl

waits_stay : (g : Group) (past : List Entry) (entry : Entry) (e : Entity) → Stays g past entry e → waits_for g past e ≡ waits_for g (entry ∷ past) e
waits_stay g past entry e s =
    let same : governing e (observed g past e).vals (value_of e (vals_in g (target g past) e)) ≡ governing e (observed g (entry ∷ past) e).vals (value_of e (vals_in g (target g (entry ∷ past)) e)) =
    λ i. governing e (s.observed_is i).vals (value_of e (s.goal_is i)) in
    waits_by g (target g past) e (observed g past e).vals ∙ (same ∙ sym (waits_by g (target g (entry ∷ past)) e (observed g (entry ∷ past) e).vals))

lacks_stay : (g : Group) (past : List Entry) (entry : Entry) (e : Entity) → Stays g past entry e → EndsStay g past entry e → lacks g past e ≡ lacks g (entry ∷ past) e
lacks_stay g past entry (Device k) s ends =
    let waits = waits_stay g past entry (Device k) s in
    λ i. lack_or (level_lack (λ at. s.observed_is i) (Device k) (needs_of (waits i))) (power_lack (needs_of (waits i)) (s.goal_is i).v0)
lacks_stay g past entry (Link k) s ends =
    let link = slice_index_or g.links k no_link in
    let waits = waits_stay g past entry (Link k) s in
    λ i. lack_or (level_lack (λ at. ends.0.observed_is i) (Device link.a) 4)
    (lack_or (level_lack (λ at. ends.1.observed_is i) (Device link.b) 4)
    (level_lack (λ at. s.observed_is i) (Link k) (needs_of (waits i))))

blocked_stays : (g : Group) (past : List Entry) (entry : Entry) (e : Entity) → Stays g past entry e → EndsStay g past entry e → is_blocked (reply g past (Send e)) ≡ is_blocked (reply g (entry ∷ past) (Send e))
blocked_stays g past entry e s ends =
    let lack = lacks_stay g past entry e s ends in
    let same : blocked_from (is_settled g past e) (lacks g past e) ≡ blocked_from (is_settled g (entry ∷ past) e) (lacks g (entry ∷ past) e) = λ i. blocked_from (is_settled_by (s.observed_is i) (s.stamp_is i) (s.goal_is i)) (lack i) in
    blocked_at g past e ∙ (same ∙ sym (blocked_at g (entry ∷ past) e))

open_stays : (g : Group) (past : List Entry) (entry : Entry) (e : Entity) → Stays g past entry e → EndsStay g past entry e → open_of g past e ≡ open_of g (entry ∷ past) e
open_stays g past entry (Device k) s ends = refl
open_stays g past entry (Link k) s ends =
    let link = slice_index_or g.links k no_link in
    let here = actual_stays g past entry (Link k) s in
    let from = actual_stays g past entry (Device link.a) ends.0 in
    let to = actual_stays g past entry (Device link.b) ends.1 in
    λ i. Some (here i && from i && to i)

-- a state by what it is made of
abbrev state_from : Entity → Bool → Vals → ℕ → Report → ℕ → ℕ → Vals → Bool → Bool → Option AppId → Option AppId → Option Bool → State
state_from e b v h r since s t barred failed low high opened = record {
  carriage =
      if b then Busy
      else (if not b && carries e v (level_of e v h b) then Up
      else (if v.v0 == 0 then Off
      else (if nat_lt (level_of e v h b) (greatest e) then Failed
      else Drained)));
  knowledge =
      if is_sure_by e r s t then Sure
      else (if is_settled_by r s t then Settled
      else (if barred then Blocked
      else Waiting));
  untold = failed;
  target = t;
  seen = r.vals;
  real = v;
  level = r.level;
  works = level_of e v h b;
  stamp = s;
  fence = r.fence;
  told = since;
  health = health_told r;
  low = low;
  high = high;
  is_open = opened;
}

state_is : (g : Group) (past : List Entry) (e : Entity) → state_of g past e
    ≡ state_from e (busy g past e) (vals g past e) (health g past e) (observed g past e) (known_since g past e) (stamp g past e) (vals_in g (target g past) e) (is_blocked (reply g past (Send e))) (failed_since past e (observed g past e).number) (holder past e Low) (holder past e High) (open_of g past e)
unfolding state_of
state_is g past e = refl

pub state_stays : (g : Group) (past : List Entry) (entry : Entry) (e : Entity) → Stays g past entry e → EndsStay g past entry e → state_of g past e ≡ state_of g (entry ∷ past) e
state_stays g past entry e s ends =
    let barred = blocked_stays g past entry e s ends in
    let failed : failed_since past e (observed g past e).number ≡ failed_since (entry ∷ past) e (observed g (entry ∷ past) e).number =
    s.failed_is (observed g past e).number ∙ ap (λ (r : Report). failed_since (entry ∷ past) e r.number) s.observed_is in
    let opened = open_stays g past entry e s ends in
    let same : state_from e (busy g past e) (vals g past e) (health g past e) (observed g past e) (known_since g past e) (stamp g past e) (vals_in g (target g past) e) (is_blocked (reply g past (Send e))) (failed_since past e (observed g past e).number) (holder past e Low) (holder past e High) (open_of g past e)
    ≡ state_from e (busy g (entry ∷ past) e) (vals g (entry ∷ past) e) (health g (entry ∷ past) e) (observed g (entry ∷ past) e) (known_since g (entry ∷ past) e) (stamp g (entry ∷ past) e) (vals_in g (target g (entry ∷ past)) e) (is_blocked (reply g (entry ∷ past) (Send e))) (failed_since (entry ∷ past) e (observed g (entry ∷ past) e).number) (holder (entry ∷ past) e Low) (holder (entry ∷ past) e High) (open_of g (entry ∷ past) e) =
    λ i. state_from e (s.busy_is i) (s.vals_is i) (s.health_is i) (s.observed_is i) (s.since_is i) (s.stamp_is i) (s.goal_is i) (barred i) (failed i) (s.holder_is Low i) (s.holder_is High i) (opened i) in
    state_is g past e ∙ (same ∙ sym (state_is g (entry ∷ past) e))

neither : (a b : Bool) → (a || b) ≡ false → (a ≡ false) × (b ≡ false)
neither true b is = absurd (true≢false is)
neither false b is = (refl, is)

-- whatever may not be shown anew stays, with its ends
abbrev pub StayAll : Group → List Entry → Entry → Touched → Type 0
StayAll g past entry touched = (e : Entity) → may_move touched e ≡ false → Stays g past entry e

pub shown_stays : (g : Group) (past : List Entry) (entry : Entry) (touched : Touched) (e : Entity) → StayAll g past entry touched → may_show g touched e ≡ false → state_of g past e ≡ state_of g (entry ∷ past) e
shown_stays g past entry touched (Device k) all other = state_stays g past entry (Device k) (all (Device k) other) tt
shown_stays g past entry touched (Link k) all other =
    let link = slice_index_or g.links k no_link in
    let here = neither (may_move touched (Link k)) _ other in
    let ends = neither (may_move touched (Device link.a)) (may_move touched (Device link.b)) here.1 in
    state_stays g past entry (Link k) (all (Link k) here.0) (all (Device link.a) ends.0, all (Device link.b) ends.1)

-- what is sent or reported is of the group's entities
not_first : {X : Type 0} (x : X) (b : Bool) → (if b then None else None) ≡ Some x → ⊥
not_first x true is = cc
not_first x false is = cc

sent_here : (g : Group) (sent : Bool) (before : List Command) (last : Command) (n : ℕ) (c : Command) → IsEntityOf g last.entity → ((n : ℕ) (c : Command) → nth before n ≡ Some c → IsEntityOf g c.entity)
    → nth (if sent then before ++ last ∷ [] else before) n ≡ Some c → IsEntityOf g c.entity
sent_here g true before last n c here all is = elim (nth_last before last c n is) [
  | inl was ↦ all n c was
  | inr now ↦ subst (λ (x : Command). IsEntityOf g x.entity) (sym now) here
]
sent_here g false before last n c here all is = all n c is

sent_by : (g : Group) (past : List Entry) (event : Event) (answer : Reply) (n : ℕ) (c : Command) → Fits g event → ((n : ℕ) (c : Command) → nth (commands g past) n ≡ Some c → IsEntityOf g c.entity)
    → nth (commands g (entry_of event answer ∷ past)) n ≡ Some c → IsEntityOf g c.entity
sent_by g past (Send e) answer n c fits all is = sent_here g (is_sent answer) (commands g past) (record { entity = e; stamp = stamp g past e; vals = vals_in g (target g past) e }) n c fits all is
sent_by g past _ answer n c fits all is = all n c is

pub sent_own : (g : Group) (past : List Entry) → IsLegal g past → (n : ℕ) (c : Command) → nth (commands g past) n ≡ Some c → IsEntityOf g c.entity
sent_own g [] legal n c is = absurd (not_first c (n == 0) is)
sent_own g (entry ∷ past) legal n c is = sent_by g past entry.event entry.reply n c legal.0.fits (sent_own g past legal.1) is

made_here : (g : Group) (before : List Report) (last : Report) (n : ℕ) (r : Report) → IsEntityOf g last.entity → ((n : ℕ) (r : Report) → nth before n ≡ Some r → IsEntityOf g r.entity)
    → nth (before ++ last ∷ []) n ≡ Some r → IsEntityOf g r.entity
made_here g before last n r here all is = elim (nth_last before last r n is) [
  | inl was ↦ all n r was
  | inr now ↦ subst (λ (x : Report). IsEntityOf g x.entity) (sym now) here
]

made_by : (g : Group) (past : List Entry) (event : Event) (answer : Reply) (n : ℕ) (r : Report) → Fits g event → ((n : ℕ) (r : Report) → nth (reports g past) n ≡ Some r → IsEntityOf g r.entity)
    → nth (reports g (entry_of event answer ∷ past)) n ≡ Some r → IsEntityOf g r.entity
made_by g past (make_report e) answer n r fits all is = made_here g (reports g past) (report_by e (number past e + 1) (fence g past e) (busy g past e) (vals g past e) (health g past e)) n r fits all is
made_by g past _ answer n r fits all is = all n r is

pub made_own : (g : Group) (past : List Entry) → IsLegal g past → (n : ℕ) (r : Report) → nth (reports g past) n ≡ Some r → IsEntityOf g r.entity
made_own g [] legal n r is = absurd (not_first r (n == 0) is)
made_own g (entry ∷ past) legal n r is = made_by g past entry.event entry.reply n r legal.0.fits (made_own g past legal.1) is

-- the entity that an entry moves is of the group
it_own : (g : Group) (e at : Entity) → IsEntityOf g e → Some e ≡ Some at → IsEntityOf g at
it_own g e at here is = let same : e ≡ at = cc in subst (IsEntityOf g) same here

its_command : (g : Group) (at : Entity) (o : Option Command) → ((c : Command) → o ≡ Some c → IsEntityOf g c.entity) → option_map (λ c. c.entity) o ≡ Some at → IsEntityOf g at
its_command g at None own is = cc
its_command g at (Some c) own is = it_own g c.entity at (own c refl) is

its_report : (g : Group) (at : Entity) (o : Option Report) → ((r : Report) → o ≡ Some r → IsEntityOf g r.entity) → option_map (λ r. r.entity) o ≡ Some at → IsEntityOf g at
its_report g at None own is = cc
its_report g at (Some r) own is = it_own g r.entity at (own r refl) is

moved_own : (g : Group) (past : List Entry) (event : Event) (at : Entity) → IsLegal g past → Fits g event → moved_by g past event ≡ Some at → IsEntityOf g at
moved_own g past (Lock app e prio) at legal fits is = it_own g e at fits is
moved_own g past (Unlock app e prio) at legal fits is = it_own g e at fits is
moved_own g past (Deliver n) at legal fits is = its_command g at (nth (commands g past) n) (sent_own g past legal n) is
moved_own g past (Finish e) at legal fits is = it_own g e at fits is
moved_own g past (Hear n) at legal fits is = its_report g at (nth (reports g past) n) (made_own g past legal n) is
moved_own g past (Fail e new level) at legal fits is = it_own g e at fits.entity is
moved_own g past _ at legal fits is = cc

-- nothing changes but what an entry may move
pub leaves : (g : Group) (past : List Entry) (entry : Entry) (touched : Touched) → IsTouchIn g touched → StayAll g past entry touched → LeavesPromisesIn touched (record { group = g; past = past }) (record { group = g; past = entry ∷ past })
    → Touches (record { group = g; past = past }) (record { group = g; past = entry ∷ past }) touched
leaves g past entry touched within all promises = record {
  group = refl;
  within = within;
  states = λ e other. shown_stays g past entry touched e all other;
  network = λ e other. actual_stays g past entry e (all e other);
  sure_is = λ e other. sure_stays g past entry e (all e other);
  promises = promises;
}

-- an entry that overlays nothing moves at most one entity
stay_apart : (g : Group) (past : List Entry) (entry : Entry) (touched : Touched) → overlay_of past entry ≡ None → ((e : Entity) → may_move touched e ≡ false → is_entity (moved_by g past entry.event) e ≡ false) → StayAll g past entry touched
stay_apart g past entry touched none apart e other = stays_at g past entry.event entry.reply e (makes_none past entry.event entry.reply none) (apart e other)

pub leaves_others : (h : History) (entry : Entry) (at : Entity) → IsLegal h.group h.past → IsNext h.group h.past entry → overlay_of h.past entry ≡ None → moved_by h.group h.past entry.event ≡ Some at → Touches h (with_entry h entry) (Near at)
leaves_others h entry at legal next none is =
    leaves h.group h.past entry (Near at) (moved_own h.group h.past entry.event at legal next.fits is) (stay_apart h.group h.past entry (Near at) none (λ e other. ap (λ (o : Option Entity). is_entity o e) is ∙ other)) tt

pub leaves_all : (h : History) (entry : Entry) → overlay_of h.past entry ≡ None → moved_by h.group h.past entry.event ≡ None → Touches h (with_entry h entry) Nothing
leaves_all h entry none is = leaves h.group h.past entry Nothing tt (stay_apart h.group h.past entry Nothing none (λ e other. ap (λ (o : Option Entity). is_entity o e) is)) tt
