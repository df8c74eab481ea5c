-- Steps of a world as the course of their events, and what is left of a course from where a world stands.
use Rattle.std.proofs.Common.{◌≡◌, ℕ, ◌+◌, ◌-◌, ◌^◌, ◌<◌, List, [], ◌∷◌, length, map, drop, get_or, refl, ap, sym, ◌∙◌, subst, add-one, drop-cons, arith}
use Rattle.std.specs.Prelude.{false, not, ◌==◌, All, Some, slice_get, reverse, Result, Ok, Err, OnErr}
use Rattle.std.specs.List.{filter}
use Rattle.std.proofs.lemmas.Result.{on_err_weaker}
use Rattle.std.proofs.lemmas.List.{get_or-reverse, length-reverse}
use Rattle.std.proofs.lemmas.Option.{slice_get_within, get_or_from_slice_get}
use Rattle.std.proofs.lemmas.List.Sums.{length-filter, count_by-le-length}
use Rattle.st_net.specs.declared.entity.Entity.{Entity}
use Rattle.st_net.specs.declared.entity.Entity.TheVariants.{Device}
use Rattle.st_net.specs.declared.entity.Row.{Row}
use Rattle.st_net.specs.declared.entity.Var.{Var}
use Rattle.st_net.specs.Entities.{value_of}
use Rattle.st_net.specs.declared.message.Report.{Report}
use Rattle.st_net.specs.Groups.{Group, IsEntityOf, IsSound}
use Rattle.st_net.specs.InOrder.{entities_of, place_in, report_in, stamp_in}
use Rattle.st_net.specs.Merge.{vals_in}
use Rattle.st_net.specs.Reports.{is_settled_by}
use Rattle.st_net.proofs.EntityOrder.{entities_count}
use Rattle.st_net.proofs.Tests.{less}
use Rattle.st_event.specs.declared.event.Event.{Event}
use Rattle.st_event.specs.declared.event.Event.TheVariants.{Finish}
use Rattle.st_event.specs.declared.reply.Reply.{Reply}
use Rattle.st_event.specs.declared.reply.Reply.TheVariants.{Blocked}
use Rattle.st_event.specs.declared.journal.Entry.{Entry}
use Rattle.st_event.specs.declared.journal.TheConstants.{MAX_ENTRIES}
use Rattle.st_event.specs.History.{History}
use Rattle.st_event.specs.Legal.{IsLegal}
use Rattle.st_event.specs.Observed.{is_settled, observed}
use Rattle.st_event.specs.Services.{entry_after}
use Rattle.st_event.proofs.Promises.{entry_of}
use Rattle.st_event.specs.Standing.{Standing, standing_of}
use Rattle.st_wire.specs.declared.line.WireLine.{WireLine}
use Rattle.st_overlay.specs.Values.{Values, IsTableOf, value_in}
use Rattle.st_store.specs.Store.{StoreView, IsStoreOf}
use Rattle.st_plan.specs.Unsettled.{unsettled_in}
use Rattle.st_control.specs.Control.{ControlView, standing_in}
use Rattle.st_control.proofs.SendLemmas.{seen_at}
use Rattle.st_world.specs.Machine.{MachineView}
use Rattle.st_world.specs.declared.world.Stepped.TheVariants.{Did}
use Rattle.st_world.specs.declared.world.rounds.Going.{Going}
use Rattle.st_world.specs.declared.world.rounds.Going.TheVariants.{On, Full}
use Rattle.st_world.specs.World.{WorldView, Agrees, IsBeginning, Steps}
use Rattle.st_world.specs.Rounds.{Course, course_from, course_with, enter, enter_all, follow_ups_of, follow_ups, blocks_change, is_called_back, called_back, poll, turn, turns, round, unsettled, HasSameSetting, IsPartOf, SettlesSent}
use Rattle.st_world.proofs.RunLaws.{entered, beginning-self, beginning-more, enter-grows, enter_all-grows, turn-grows, turns-grows, enter_all-stopped, turns-stopped, unsettled_fit}
use Rattle.st_world.proofs.SettleLaws.{round_made}

-- what is left of a course

-- a world that was reached on the way of a course: what is left, from where the world stands, ends as all of the course
pub record IsOnWay (old now : WorldView) (whole left : Course) : Type 0 where
  pub began : IsBeginning old.history.past now.history.past
  pub setting : HasSameSetting old now
  pub ends : left ≡ whole

-- the setting is as at the start, since it is as it was in between
setting_whole : (old now new : WorldView) → HasSameSetting old now → HasSameSetting now new → HasSameSetting old new
setting_whole old now new before after = record { group = after.group ∙ before.group; lines = after.lines ∙ before.lines }

-- on the way of what was left on the way
way_more : (old now next : WorldView) (whole left less : Course) → IsOnWay old now whole left → IsOnWay now next left less → IsOnWay old next whole less
way_more old now next whole left less way more = record {
  began = beginning-more old.history.past now.history.past next.history.past way.began more.began;
  setting = setting_whole old now next way.setting more.setting;
  ends = more.ends ∙ way.ends;
}

-- a first part was entered whole: what follows the first part is left
pub way_from : (rest : Group → List WireLine → Course → Course) (old now : WorldView) (first : Course) (going : Going) → IsBeginning old.history.past first.past → course_with going now ≡ first → going ≡ On → HasSameSetting old now → IsOnWay old now (rest old.history.group old.lines first) (rest now.history.group now.lines (course_from now.history.past))
way_from rest old now first going grows is on setting = record {
  began = subst (λ (course : Course). IsBeginning old.history.past course.past) (sym is) grows;
  setting = setting;
  ends = ap (λ (g : Group). rest g now.lines (course_from now.history.past)) setting.group ∙ ap (λ (lines : List WireLine). rest old.history.group lines (course_from now.history.past)) setting.lines ∙ ap (λ (at : Going). rest old.history.group old.lines (course_with at now)) (sym on) ∙ ap (rest old.history.group old.lines) is;
}

-- a part of what is left makes a part of all
part_of_whole : (old now new : WorldView) (whole left : Course) → IsOnWay old now whole left → IsPartOf now new left → IsPartOf old new whole
part_of_whole old now new whole left way p = record { began = beginning-more old.history.past now.history.past new.history.past way.began p.began; part = subst (λ (course : Course). IsBeginning new.history.past course.past) way.ends p.part }

-- and where the last call met an `Err`
pub part_whole : {T E : Type 0} (r : Result T E) (old now new : WorldView) (whole left : Course) → IsOnWay old now whole left → OnErr r (IsPartOf now new left) → OnErr r (IsPartOf old new whole)
part_whole r old now new whole left way part = on_err_weaker r (part_of_whole old now new whole left way) part

-- what holds anyway holds at an `Err`
err_of : {T E P : Type 0} (r : Result T E) → P → OnErr r P
err_of (Ok x) holds = tt
err_of (Err e) holds = holds

-- a part of what a course begins with is a part of the course
pub part_more : {T E : Type 0} (r : Result T E) (old new : WorldView) (first whole : Course) → IsBeginning first.past whole.past → IsPartOf old new first → OnErr r (IsPartOf old new whole)
part_more r old new first whole grows part = err_of r (record { began = part.began; part = beginning-more new.history.past first.past whole.past part.part grows })

-- where nothing was entered, no part of the course was
pub none_entered : {T E : Type 0} (r : Result T E) (old new : WorldView) (course : Course) → IsBeginning old.history.past course.past → new.history ≡ old.history → OnErr r (IsPartOf old new course)
none_entered r old new course grows same =
    let stands : old.history.past ≡ new.history.past = ap (λ (h : History). h.past) (sym same) in
    err_of r (record { began = subst (λ (past : List Entry). IsBeginning old.history.past past) stands (beginning-self old.history.past); part = subst (λ (past : List Entry). IsBeginning past course.past) stands grows })

-- one event

-- where there is room, the event is entered with the reply that is called for
pub enters_next : (old new : History) (event : Event) (answer : Reply) → Steps old new event (Did answer) → course_from new.past ≡ enter old.group (course_from old.past) event
enters_next old new event answer steps =
    ap (λ (h : History). course_from h.past) steps.1
    ∙ ap (λ (a : Reply). course_from (entry_of event a ∷ old.past)) steps.0.answer
    ∙ sym (ap (entered (course_from old.past) (entry_after old.group old.past event) false) (less (length old.past) MAX_ENTRIES steps.0.room))

-- what follows the newest entry
abbrev pub with_newest : Group → List WireLine → Course → Course
with_newest g lines course = enter_all g course (follow_ups g lines course.past)

first_is : (entries : List Entry) (entry : Entry) → 0 < length entries → get_or entries 0 entry ≡ entry → entries ≡ entry ∷ drop 1 entries
first_is [] entry some is = absurd (omega arith)
first_is (e ∷ es) entry some is = ap (λ (x : Entry). x ∷ es) is

-- the last of the entries as the code keeps them is the newest
newest_is : (items : List Entry) (newest : Entry) → slice_get items (length items - 1) ≡ Some newest → reverse items ≡ newest ∷ drop 1 (reverse items)
newest_is items newest last =
    let within = slice_get_within items (length items - 1) newest last in
    let low : 0 < length items = omega (arith, within) in
    let place : length items - 1 - 0 ≡ length items - 1 = omega arith in
    let found = get_or-reverse items 0 newest low ∙ ap (λ (i : ℕ). get_or items i newest) place ∙ get_or_from_slice_get items (length items - 1) newest newest last in
    first_is (reverse items) newest (omega (arith, low, length-reverse items)) found

pub follow_newest : (g : Group) (lines : List WireLine) (items : List Entry) (newest : Entry) → slice_get items (length items - 1) ≡ Some newest → follow_ups g lines (reverse items) ≡ follow_ups_of g lines (newest ∷ drop 1 (reverse items)) newest.reply
follow_newest g lines items newest last = ap (follow_ups g lines) (newest_is items newest last)

-- whether the newest entry calls for a withdrawal, by its reply and by what was observed of the entity
called_newest : (g : Group) (items : List Entry) (newest : Entry) (row : Row) (e : Entity) (n : ℕ) → slice_get items (length items - 1) ≡ Some newest → newest.reply ≡ Blocked row → n ≡ value_of e (observed g (reverse items) e).vals row.var → not (n == row.value) ≡ is_called_back g (reverse items) e
called_newest g items newest row e n last blocked is =
    let at = newest_is items newest last in
    let here : n ≡ value_of e (observed g (newest ∷ drop 1 (reverse items)) e).vals row.var = is ∙ ap (λ (past : List Entry). value_of e (observed g past e).vals row.var) at in
    ap (λ (k : ℕ). not (k == row.value)) here
    ∙ sym (ap (λ (r : Reply). blocks_change (value_of e (observed g (newest ∷ drop 1 (reverse items)) e).vals) r) blocked)
    ∙ sym (ap (λ (past : List Entry). is_called_back g past e) at)

pub seen_newest : (m : MachineView) (items : List Entry) (newest : Entry) (row : Row) (e : Entity) (d : Report) (place n : ℕ) → Agrees m items → IsStoreOf m.checker.group m.checker.store → slice_get items (length items - 1) ≡ Some newest → newest.reply ≡ Blocked row → place ≡ place_in m.checker.group e → IsEntityOf m.checker.group e → n ≡ value_of e (get_or m.checker.store.observed place d).vals row.var → not (n == row.value) ≡ is_called_back m.checker.group (reverse items) e
seen_newest m items newest row e d place n agrees of last blocked is here value =
    let g = m.checker.group in
    let seen : get_or m.checker.store.observed place d ≡ observed g (reverse items) e = seen_at g m.checker.store.observed e place d is here of.reports ∙ ap (λ (s : Standing). s.observed e) agrees.standing in
    called_newest g items newest row e n last blocked (value ∙ ap (λ (r : Report). value_of e r.vals row.var) seen)

-- one part after another. `first` is the next of the parts that are left, and `rest` are those behind it

-- the first item of those that are left
first_left : {X : Type 0} (xs : List X) (i : ℕ) (default : X) → i < length xs → drop i xs ≡ get_or xs i default ∷ drop (i + 1) xs
first_left xs i default low = rw (add-one, drop-cons xs i default low) refl

-- the next part was entered whole
pub part_goes : (rest : Group → List WireLine → Course → Course) (old now next : WorldView) (whole left first : Course) (going : Going) → IsOnWay old now whole left → left ≡ rest now.history.group now.lines first → IsBeginning now.history.past first.past → course_with going next ≡ first → going ≡ On → HasSameSetting now next → IsOnWay old next whole (rest next.history.group next.lines (course_from next.history.past))
part_goes rest old now next whole left first going way split grows is on setting =
    let here = way_from rest now next first going grows is on setting in
    way_more old now next whole left (rest next.history.group next.lines (course_from next.history.past)) way (record { began = here.began; setting = here.setting; ends = here.ends ∙ sym split })

-- the next part met a full journal: the course stops there, whatever was to follow
pub stops_there : (rest : Course → Course) (now : WorldView) (first : Course) (going : Going) → course_with going now ≡ first → going ≡ Full → rest (course_with Full now) ≡ course_with Full now → course_with Full now ≡ rest first
stops_there rest now first going is full stays = sym stays ∙ ap (λ (at : Going). rest (course_with at now)) (sym full) ∙ ap rest is

-- a part of the next part was entered
pub part_parts : {T E : Type 0} (r : Result T E) (old now next : WorldView) (whole left behind first : Course) → IsOnWay old now whole left → left ≡ behind → IsBeginning first.past behind.past → IsPartOf now next first → OnErr r (IsPartOf old next whole)
part_parts r old now next whole left behind first way split grows part =
    part_whole r old now next whole left way (part_more r now next first left (subst (λ (course : Course). IsBeginning first.past course.past) (sym split) grows) part)

-- messages that arrive one after another

-- the arrivals of these messages, from where a world stands
abbrev pub arrivals_from : (ℕ → Event) → WorldView → List ℕ → Course
arrivals_from make w numbers = enter_all w.history.group (course_from w.history.past) (map make numbers)

-- on the way of the arrivals of these messages, those from place i on are left
abbrev pub IsArriving : (ℕ → Event) → WorldView → WorldView → List ℕ → ℕ → Type 0
IsArriving make old now numbers i = IsOnWay old now (arrivals_from make old numbers) (arrivals_from make now (drop i numbers))

-- the arrival at a place, from where a world stands
abbrev arrival_at : (ℕ → Event) → WorldView → List ℕ → ℕ → Course
arrival_at make w numbers i = enter w.history.group (course_from w.history.past) (make (get_or numbers i 0))

-- the arrivals behind a place
abbrev arrivals_behind : (ℕ → Event) → List ℕ → ℕ → Group → List WireLine → Course → Course
arrivals_behind make numbers i g lines course = enter_all g course (map make (drop (i + 1) numbers))

-- the arrivals that are left are that at the place, and then those behind it
first_arrival : (make : ℕ → Event) (w : WorldView) (numbers : List ℕ) (i : ℕ) → i < length numbers → arrivals_from make w (drop i numbers) ≡ arrivals_behind make numbers i w.history.group w.lines (arrival_at make w numbers i)
first_arrival make w numbers i low = ap (arrivals_from make w) (first_left numbers i 0 low)

-- one message more arrived
pub arrival_goes : (make : ℕ → Event) (old now next : WorldView) (numbers : List ℕ) (i : ℕ) (going : Going) → IsArriving make old now numbers i → i < length numbers → course_with going next ≡ arrival_at make now numbers i → going ≡ On → HasSameSetting now next → IsArriving make old next numbers (i + 1)
arrival_goes make old now next numbers i going way low =
    part_goes (arrivals_behind make numbers i) old now next (arrivals_from make old numbers) (arrivals_from make now (drop i numbers)) (arrival_at make now numbers i) going way
    (first_arrival make now numbers i low) (enter-grows now.history.group (course_from now.history.past) (make (get_or numbers i 0)))

-- the next one met a full journal
pub arrival_stops : (make : ℕ → Event) (old now next : WorldView) (numbers : List ℕ) (i : ℕ) (going : Going) → IsArriving make old now numbers i → i < length numbers → course_with going next ≡ arrival_at make now numbers i → going ≡ Full → course_with Full next ≡ arrivals_from make old numbers
arrival_stops make old now next numbers i going way low is full =
    stops_there (arrivals_behind make numbers i now.history.group now.lines) next (arrival_at make now numbers i) going is full (enter_all-stopped now.history.group (course_with Full next) (map make (drop (i + 1) numbers)) refl)
    ∙ sym (first_arrival make now numbers i low)
    ∙ way.ends

-- the next one met an `Err`
pub arrival_parts : {T E : Type 0} (r : Result T E) (make : ℕ → Event) (old now next : WorldView) (numbers : List ℕ) (i : ℕ) → IsArriving make old now numbers i → i < length numbers → IsPartOf now next (arrival_at make now numbers i) → OnErr r (IsPartOf old next (arrivals_from make old numbers))
arrival_parts r make old now next numbers i way low =
    let first = arrival_at make now numbers i in
    part_parts r old now next (arrivals_from make old numbers) (arrivals_from make now (drop i numbers)) (arrivals_behind make numbers i now.history.group now.lines first) first way
    (first_arrival make now numbers i low) (enter_all-grows now.history.group first (map make (drop (i + 1) numbers)))

-- before any message arrived
pub no_follow_up_part : {T E : Type 0} (r : Result T E) (w : WorldView) (events : List Event) → OnErr r (IsPartOf w w (enter_all w.history.group (course_from w.history.past) events))
no_follow_up_part r w events = none_entered r w w (enter_all w.history.group (course_from w.history.past) events) (enter_all-grows w.history.group (course_from w.history.past) events) refl

-- a turn

-- what a blocked Send calls for
abbrev pub calling_back : Entity → Group → List WireLine → Course → Course
calling_back e g lines course = called_back g course e

-- the finish that ends an update
abbrev pub finishing : Entity → Group → List WireLine → Course → Course
finishing e g lines course = enter g course (Finish e)

-- the poll that follows it
abbrev pub polling : Entity → Group → List WireLine → Course → Course
polling e g lines course = poll g lines course e

-- turns one after another

-- the turns of these entities, from where a world stands
abbrev pub turns_from : WorldView → List Entity → Course
turns_from w es = turns w.history.group w.lines (course_from w.history.past) es

-- on the way of the turns of these entities, those from place i on are left
abbrev pub IsTurning : WorldView → WorldView → List Entity → ℕ → Type 0
IsTurning old now es i = IsOnWay old now (turns_from old es) (turns_from now (drop i es))

-- the turn at a place, from where a world stands
abbrev turn_at : WorldView → List Entity → ℕ → Course
turn_at w es i = turn w.history.group w.lines (course_from w.history.past) (get_or es i (Device 0))

-- the turns behind a place
abbrev turns_behind : List Entity → ℕ → Group → List WireLine → Course → Course
turns_behind es i g lines course = turns g lines course (drop (i + 1) es)

-- the turns that are left are that at the place, and then those behind it
first_turn : (w : WorldView) (es : List Entity) (i : ℕ) → i < length es → turns_from w (drop i es) ≡ turns_behind es i w.history.group w.lines (turn_at w es i)
first_turn w es i low = ap (turns_from w) (first_left es i (Device 0) low)

-- one entity more had its turn
pub turn_goes : (old now next : WorldView) (es : List Entity) (i : ℕ) (going : Going) → IsTurning old now es i → i < length es → course_with going next ≡ turn_at now es i → going ≡ On → HasSameSetting now next → IsTurning old next es (i + 1)
turn_goes old now next es i going way low =
    part_goes (turns_behind es i) old now next (turns_from old es) (turns_from now (drop i es)) (turn_at now es i) going way
    (first_turn now es i low) (turn-grows now.history.group now.lines (course_from now.history.past) (get_or es i (Device 0)))

-- the next turn met a full journal
pub turn_stops : (old now next : WorldView) (es : List Entity) (i : ℕ) (going : Going) → IsTurning old now es i → i < length es → course_with going next ≡ turn_at now es i → going ≡ Full → course_with Full next ≡ turns_from old es
turn_stops old now next es i going way low is full =
    stops_there (turns_behind es i now.history.group now.lines) next (turn_at now es i) going is full (turns-stopped now.history.group now.lines (course_with Full next) (drop (i + 1) es) refl)
    ∙ sym (first_turn now es i low)
    ∙ way.ends

-- a part of the next turn was entered
pub turn_parts : {T E : Type 0} (r : Result T E) (old now next : WorldView) (es : List Entity) (i : ℕ) → IsTurning old now es i → i < length es → IsPartOf now next (turn_at now es i) → OnErr r (IsPartOf old next (turns_from old es))
turn_parts r old now next es i way low =
    let first = turn_at now es i in
    part_parts r old now next (turns_from old es) (turns_from now (drop i es)) (turns_behind es i now.history.group now.lines first) first way
    (first_turn now es i low) (turns-grows now.history.group now.lines first (drop (i + 1) es))

-- the entities that are not settled

-- those of a group by what is known of each entity
abbrev unsettled_by : Group → (Entity → Report) → (Entity → ℕ) → (Entity → Var → ℕ) → List Entity
unsettled_by g reports stamps values = filter (λ e. not (is_settled_by (reports e) (stamps e) (vals_in g values e))) (entities_of g)

-- the unsettled entities by what a checker keeps are those by the journal, where the checker stands as the journal leaves the group
unsettled_in_checker : (g : Group) (past : List Entry) (k : ControlView) → k.group ≡ g → standing_in k ≡ standing_of g past → unsettled_in g k.store.observed k.store.target k.stamps ≡ unsettled g past
unsettled_in_checker g past k group stands =
    ap (λ (h : Group). unsettled_by g (report_in h k.store.observed) (stamp_in g k.stamps) (value_in k.store.target)) (sym group)
    ∙ ap (λ (h : Group). unsettled_by g (report_in k.group k.store.observed) (stamp_in h k.stamps) (value_in k.store.target)) (sym group)
    ∙ ap (λ (s : Standing). unsettled_by g s.observed s.stamp s.target) stands

-- the unsettled entities by what the store, the target, the kept reports and the stamps of the checker are
pub planned : (g : Group) (past : List Entry) (k : ControlView) (s : StoreView) (reports : List Report) (t : Values) (stamps : List ℕ) → k.group ≡ g → standing_in k ≡ standing_of g past → s ≡ k.store → reports ≡ s.observed → t ≡ s.target → stamps ≡ k.stamps → unsettled_in g reports t stamps ≡ unsettled g past
planned g past k s reports t stamps group stands store observed table kept =
    ap (λ (x : List Report). unsettled_in g x t stamps) observed
    ∙ ap (λ (x : Values). unsettled_in g s.observed x stamps) table
    ∙ ap (unsettled_in g s.observed s.target) kept
    ∙ ap (λ (x : StoreView). unsettled_in g x.observed x.target k.stamps) store
    ∙ unsettled_in_checker g past k group stands

-- the target of the checker is a table of the group
pub planned_table : (g h : Group) (s : StoreView) (t : Values) → h ≡ g → IsStoreOf h s → t ≡ s.target → IsTableOf g t
planned_table g h s t group store table = subst (λ (x : Values). IsTableOf g x) (sym table) (subst (λ (x : Group). IsTableOf x s.target) group store.table)

-- the unsettled entities are entities of the group
pub planned_own : (g : Group) (past : List Entry) (entities : List Entity) → entities ≡ unsettled g past → All (IsEntityOf g) entities
planned_own g past entities is = subst (λ (es : List Entity). All (IsEntityOf g) es) (sym is) (unsettled_fit g past)

-- there are no more than a number of 32 bits can tell
few_unsettled : (g : Group) (past : List Entry) → IsSound g → length (unsettled g past) < 2 ^ 32
few_unsettled g past sound =
    let kept = length-filter (λ e. not (is_settled g past e)) (entities_of g) in
    let few = count_by-le-length (λ e. not (is_settled g past e)) (entities_of g) in
    let devices = sound.few_devices in
    let links = sound.few_links in
    let all = entities_count g in
    omega (arith, kept, few, devices, links, all)

-- the count of the unsettled entities fits, also of a group that is equal to a sound one
pub count_fits : (g h : Group) (past : List Entry) (entities : List Entity) (count : ℕ) → IsSound g → h ≡ g → entities ≡ unsettled h past → count ≡ length entities → count < 2 ^ 32
count_fits g h past entities count sound group is counted =
    let few = few_unsettled h past (subst (λ (x : Group). IsSound x) (sym group) sound) in
    let same = counted ∙ ap (λ (es : List Entity). length es) is in
    rw same few

-- a round

-- the turns of the entities that are not settled are the round
pub round_entered : (old new : WorldView) (es items : List Entity) (going other : Going) → course_with going new ≡ turns_from old es → going ≡ other → es ≡ items → items ≡ unsettled old.history.group old.history.past → course_with other new ≡ round old.history.group old.lines old.history.past
round_entered old new es items going other is at read all =
    ap (λ (x : Going). course_with x new) (sym at) ∙ is ∙ ap (turns_from old) read ∙ ap (turns_from old) all

-- a course that was entered is a part of itself
pub all_part : {T E : Type 0} (r : Result T E) (old new : WorldView) (whole : Course) (going : Going) → IsBeginning old.history.past whole.past → course_with going new ≡ whole → OnErr r (IsPartOf old new whole)
all_part r old new whole going grows is =
    let stands : whole.past ≡ new.history.past = ap (λ (course : Course). course.past) (sym is) in
    err_of r (record {
      began = subst (λ (past : List Entry). IsBeginning old.history.past past) stands grows;
      part = subst (λ (past : List Entry). IsBeginning past whole.past) stands (beginning-self whole.past);
    })

-- a round that met no full journal settles what it is to settle
pub round_did_settle : (old new : WorldView) → IsLegal old.history.group old.history.past → course_with On new ≡ round old.history.group old.lines old.history.past → HasSameSetting old new → SettlesSent old new
round_did_settle old new legal is setting =
    let made = round_made old.history.group old.lines old.history.past new.history.past legal (sym is) in
    record {
      made = made.0;
      all = made.1;
      settled = λ none e sent never. ap (λ (g : Group). is_settled g new.history.past e) setting.group ∙ made.2 none e sent never;
    }
