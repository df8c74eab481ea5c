-- What a turn of an entity, either of its halves, and each part of them leave: few entries more, and of a poll nothing more that is overlaid.
use Rattle.std.proofs.Common.{◌≡◌, ℕ, zero, suc, ◌+◌, ◌*◌, ◌≤◌, List, [], ◌∷◌, ◌++◌, length, refl, ap, sym, ◌∙◌, subst, arith, length-append}
use Rattle.std.specs.Prelude.{Bool, true, false, ◌==◌, nat_lt, All, if◌then◌else◌}
use Rattle.std.proofs.lemmas.List.{length-map}
use Rattle.std.proofs.lemmas.List.Elements.{All-nil, All-head, All-tail, All-map}
use Rattle.st_net.specs.declared.entity.AppId.{AppId}
use Rattle.st_net.specs.declared.entity.Entity.{Entity}
use Rattle.st_net.specs.declared.entity.Row.{Row}
use Rattle.st_net.specs.Groups.{Group}
use Rattle.st_event.specs.declared.event.Event.{Event}
use Rattle.st_event.specs.declared.event.Event.TheVariants.{Submit, Check, Send, Deliver, Finish, Report as make_report, Hear, Withdraw}
use Rattle.st_event.specs.declared.event.Proposal.{Proposal}
use Rattle.st_event.specs.declared.reply.Reply.{Reply}
use Rattle.st_event.specs.declared.reply.Reply.TheVariants.{Sent, Reported}
use Rattle.st_event.specs.declared.journal.Entry.{Entry}
use Rattle.st_event.specs.declared.journal.TheConstants.{MAX_ENTRIES, MAX_PENDING}
use Rattle.st_event.specs.Events.{may_overlay}
use Rattle.st_event.specs.Proposals.{overlays, pending}
use Rattle.st_event.specs.Services.{entry_after}
use Rattle.st_event.proofs.Accepting.{overlays_none}
use Rattle.st_event.proofs.Targets.{overlays_same}
use Rattle.st_wire.specs.declared.line.WireKind.TheVariants.{Command as command_kind, Report as report_kind}
use Rattle.st_wire.specs.declared.line.WireLine.{WireLine}
use Rattle.st_wire.specs.Deliveries.{deliveries}
use Rattle.st_wire.proofs.DeliveryLaws.{few_deliveries}
use Rattle.st_world.specs.declared.world.rounds.Going.{Going}
use Rattle.st_world.specs.World.{WorldView, IsBeginning}
use Rattle.st_world.specs.Rounds.{Course, enter, enter_all, follow_ups_of, follow_ups, enter_told, is_called_back, send_turn, update_turn, poll, turn, Goes, IsPartOf}
use Rattle.st_world.specs.Acts.{checked_while, proposed, with_room}
use Rattle.st_world.proofs.RunLaws.{entered, beginning-self}

-- how many entries there are more

-- a beginning is no longer than what it begins
pub beginning-length : (past whole : List Entry) → IsBeginning past whole → length past ≤ length whole
beginning-length past whole begins = omega (arith, ap length begins.1, length-append begins.0 past)

entered-length : (course : Course) (entry : Entry) (stopped room : Bool) → length (entered course entry stopped room).past ≤ length course.past + 1
entered-length course entry true room = omega arith
entered-length course entry false true = omega arith
entered-length course entry false false = omega arith

pub enter-length : (g : Group) (course : Course) (event : Event) → length (enter g course event).past ≤ length course.past + 1
enter-length g course event = entered-length course (entry_after g course.past event) course.stopped (nat_lt (length course.past) MAX_ENTRIES)

pub enter_all-length : (g : Group) (course : Course) (events : List Event) → length (enter_all g course events).past ≤ length course.past + length events
enter_all-length g course [] = omega arith
enter_all-length g course (event ∷ events) =
    let first = enter-length g course event in
    let rest = enter_all-length g (enter g course event) events in
    omega (arith, first, rest)

follow_ups_of-length : (g : Group) (lines : List WireLine) (past : List Entry) (reply : Reply) → length (follow_ups_of g lines past reply) ≤ 1 + length lines
follow_ups_of-length g lines past (Sent n) = let few = few_deliveries lines command_kind n in omega (arith, few, length-map (deliveries lines command_kind n) Deliver)
follow_ups_of-length g lines past (Reported n) = let few = few_deliveries lines report_kind n in omega (arith, few, length-map (deliveries lines report_kind n) Hear)
follow_ups_of-length g lines past _ = omega arith

follow_ups-length : (g : Group) (lines : List WireLine) (past : List Entry) → length (follow_ups g lines past) ≤ 1 + length lines
follow_ups-length g lines [] = omega arith
follow_ups-length g lines (entry ∷ past) = follow_ups_of-length g lines (entry ∷ past) entry.reply

pub enter_told-length : (g : Group) (lines : List WireLine) (course : Course) (event : Event) → length (enter_told g lines course event).past ≤ length course.past + (2 + length lines)
enter_told-length g lines course event =
    let next = enter g course event in
    let first = enter-length g course event in
    let rest = enter_all-length g next (follow_ups g lines next.past) in
    let few = follow_ups-length g lines next.past in
    omega (arith, first, rest, few)

pub poll-length : (g : Group) (lines : List WireLine) (course : Course) (e : Entity) → length (poll g lines course e).past ≤ length course.past + (2 + length lines)
poll-length g lines course e = enter_told-length g lines course (make_report e)

called-length : (g : Group) (course : Course) (e : Entity) (called : Bool) → length (if called then enter g course (Withdraw e) else course).past ≤ length course.past + 1
called-length g course e true = enter-length g course (Withdraw e)
called-length g course e false = omega arith

pub send_turn-length : (g : Group) (lines : List WireLine) (course : Course) (e : Entity) → length (send_turn g lines course e).past ≤ length course.past + (3 + length lines)
send_turn-length g lines course e =
    let told = enter_told g lines course (Send e) in
    let first = enter_told-length g lines course (Send e) in
    let last = called-length g told e (is_called_back g told.past e) in
    omega (arith, first, last)

pub update_turn-length : (g : Group) (lines : List WireLine) (course : Course) (e : Entity) → length (update_turn g lines course e).past ≤ length course.past + (4 + length lines)
update_turn-length g lines course e =
    let sent = send_turn g lines course e in
    let first = send_turn-length g lines course e in
    let last = enter-length g sent (Finish e) in
    omega (arith, first, last)

pub turn-length : (g : Group) (lines : List WireLine) (course : Course) (e : Entity) → length (turn g lines course e).past ≤ length course.past + (6 + 2 * length lines)
turn-length g lines course e =
    let first = update_turn-length g lines course e in
    let last = poll-length g lines (update_turn g lines course e) e in
    omega (arith, first, last)

-- what is overlaid

-- how many entries of a journal may overlay the target
abbrev pub overlay_count : List Entry → ℕ
overlay_count [] = 0
overlay_count (entry ∷ past) = if may_overlay entry.event then suc (overlay_count past) else overlay_count past

pub overlay_count-append : (more past : List Entry) → overlay_count (more ++ past) ≡ overlay_count more + overlay_count past
overlay_count-append [] past = omega arith
overlay_count-append (entry ∷ more) past = by_kind (may_overlay entry.event) (overlay_count-append more past)
  where
    by_kind : (b : Bool) → overlay_count (more ++ past) ≡ overlay_count more + overlay_count past → (if b then suc (overlay_count (more ++ past)) else overlay_count (more ++ past)) ≡ (if b then suc (overlay_count more) else overlay_count more) + overlay_count past
    by_kind true same = omega (arith, same)
    by_kind false same = same

-- entries of which none may, overlay nothing
pub none-overlay : (made past : List Entry) → overlay_count made ≡ 0 → overlays (made ++ past) ≡ overlays past
none-overlay [] past none = refl
none-overlay (entry ∷ made) past none = by_kind (may_overlay entry.event) refl none (none-overlay made past)
  where
    by_kind : (b : Bool) → may_overlay entry.event ≡ b → (if b then suc (overlay_count made) else overlay_count made) ≡ 0 → (overlay_count made ≡ 0 → overlays (made ++ past) ≡ overlays past) → overlays (entry ∷ made ++ past) ≡ overlays past
    by_kind true is some rest = absurd (omega (arith, some))
    by_kind false is none rest = overlays_same (made ++ past) entry (overlays_none entry.event entry.reply is) ∙ rest none

-- a part of a course that makes none overlays nothing
pub part-overlays : (past new whole : List Entry) → overlay_count whole ≡ overlay_count past → IsBeginning past new → IsBeginning new whole → overlays new ≡ overlays past
part-overlays past new whole same began part =
    let made = began.0 in
    let first : overlay_count new ≡ overlay_count made + overlay_count past = ap overlay_count began.1 ∙ overlay_count-append made past in
    let all : overlay_count whole ≡ overlay_count part.0 + overlay_count new = ap overlay_count part.1 ∙ overlay_count-append part.0 new in
    let none : overlay_count made ≡ 0 = omega (arith, first, all, same) in
    ap overlays began.1 ∙ none-overlay made past none

-- events that may not

abbrev IsQuiet : Event → Type 0
IsQuiet event = may_overlay event ≡ false

entered-quiet : (course : Course) (entry : Entry) (stopped room : Bool) → IsQuiet entry.event → overlay_count (entered course entry stopped room).past ≡ overlay_count course.past
entered-quiet course entry true room none = refl
entered-quiet course entry false true none = rw none refl
entered-quiet course entry false false none = refl

pub enter-quiet : (g : Group) (course : Course) (event : Event) → may_overlay event ≡ false → overlay_count (enter g course event).past ≡ overlay_count course.past
enter-quiet g course event none = entered-quiet course (entry_after g course.past event) course.stopped (nat_lt (length course.past) MAX_ENTRIES) none

enter_all-quiet : (g : Group) (course : Course) (events : List Event) → All IsQuiet events → overlay_count (enter_all g course events).past ≡ overlay_count course.past
enter_all-quiet g course [] none = refl
enter_all-quiet g course (event ∷ events) none =
    enter_all-quiet g (enter g course event) events (All-tail IsQuiet event events none) ∙ enter-quiet g course event (All-head IsQuiet event events none)

follow_ups_of-quiet : (g : Group) (lines : List WireLine) (past : List Entry) (reply : Reply) → All IsQuiet (follow_ups_of g lines past reply)
follow_ups_of-quiet g lines past (Sent n) = All-map IsQuiet Deliver (deliveries lines command_kind n) (λ k d low. refl)
follow_ups_of-quiet g lines past (Reported n) = All-map IsQuiet Hear (deliveries lines report_kind n) (λ k d low. refl)
follow_ups_of-quiet g lines past _ = All-nil IsQuiet

follow_ups-quiet : (g : Group) (lines : List WireLine) (past : List Entry) → All IsQuiet (follow_ups g lines past)
follow_ups-quiet g lines [] = All-nil IsQuiet
follow_ups-quiet g lines (entry ∷ past) = follow_ups_of-quiet g lines (entry ∷ past) entry.reply

enter_told-quiet : (g : Group) (lines : List WireLine) (course : Course) (event : Event) → may_overlay event ≡ false → overlay_count (enter_told g lines course event).past ≡ overlay_count course.past
enter_told-quiet g lines course event none =
    let next = enter g course event in
    enter_all-quiet g next (follow_ups g lines next.past) (follow_ups-quiet g lines next.past) ∙ enter-quiet g course event none

pub poll-quiet : (g : Group) (lines : List WireLine) (course : Course) (e : Entity) → overlay_count (poll g lines course e).past ≡ overlay_count course.past
poll-quiet g lines course e = enter_told-quiet g lines course (make_report e) refl

-- so they overlay nothing, nor does a part of them

pub enter-overlays : (g : Group) (course : Course) (event : Event) (new : List Entry) → may_overlay event ≡ false → IsBeginning course.past new → IsBeginning new (enter g course event).past → overlays new ≡ overlays course.past
enter-overlays g course event new none began part = part-overlays course.past new (enter g course event).past (enter-quiet g course event none) began part

pub poll-overlays : (g : Group) (lines : List WireLine) (course : Course) (e : Entity) (new : List Entry) → IsBeginning course.past new → IsBeginning new (poll g lines course e).past → overlays new ≡ overlays course.past
poll-overlays g lines course e new began part = part-overlays course.past new (poll g lines course e).past (poll-quiet g lines course e) began part

-- a course that was gone through is a part of itself
pub goes_part : (old new : WorldView) (course : Course) (going : Going) → IsBeginning old.history.past course.past → Goes new course going → IsPartOf old new course
goes_part old new course going grows goes =
    let stands : course.past ≡ new.history.past = ap (λ (r : Course). r.past) (sym goes) in
    record {
      began = subst (λ (past : List Entry). IsBeginning old.history.past past) stands grows;
      part = subst (λ (past : List Entry). IsBeginning past course.past) stands (beginning-self course.past);
    }

-- proposals and checks

by_full-length : (g : Group) (course : Course) (b : Bool) → length (if b then enter g course Check else course).past ≤ length course.past + 1
by_full-length g course true = enter-length g course Check
by_full-length g course false = omega arith

pub with_room-length : (g : Group) (course : Course) → length (with_room g course).past ≤ length course.past + 1
with_room-length g course = by_full-length g course (length (pending course.past) == MAX_PENDING)

pub proposed-length : (g : Group) (course : Course) (app : AppId) (rows : List Row) → length (proposed g course app rows).past ≤ length course.past + 2
proposed-length g course app rows =
    let first = with_room-length g course in
    let last = enter-length g (with_room g course) (Submit app rows) in
    omega (arith, first, last)

pub while-length : (g : Group) (waits : List Proposal → Bool) (n : ℕ) (course : Course) → length (checked_while g waits n course).past ≤ length course.past + n
unfolding checked_while
while-length g waits zero course = omega arith
while-length g waits (suc n) course = by_waiting (waits (pending course.past)) (while-length g waits n (enter g course Check)) (enter-length g course Check)
  where
    by_waiting : (b : Bool) → length (checked_while g waits n (enter g course Check)).past ≤ length (enter g course Check).past + n → length (enter g course Check).past ≤ length course.past + 1 → length (if b then checked_while g waits n (enter g course Check) else course).past ≤ length course.past + suc n
    by_waiting true rest first = omega (arith, rest, first)
    by_waiting false rest first = omega arith
