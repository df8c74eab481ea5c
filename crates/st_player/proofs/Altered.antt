-- What an overlay leaves as it was: each entity whose target its rows do not alter, the network, and which promises hold in the sure set.
use Rattle.std.proofs.Common.{◌≡◌, ◌∙◌, ℕ, suc, ◌+◌, ◌<◌, ◌≤◌, List, [], ◌∷◌, ◌++◌, length, map, true, false, Bool, Option, Some, None, refl, sym, ap, ap₂, inl, inr, arith}
use Rattle.std.proofs.Math.Bool.{and-false, or-false}
use Rattle.std.proofs.lemmas.List.Elements.{All-pop}
use Rattle.std.specs.Prelude.{◌&&◌, ◌⊎◌, not, All, slice_index_or, if◌then◌else◌}
use Rattle.st_net.specs.declared.entity.Entity.{Entity}
use Rattle.st_net.specs.declared.entity.Row.{Row}
use Rattle.st_net.specs.declared.entity.Var.{Var}
use Rattle.st_net.specs.declared.message.Report.{Report}
use Rattle.st_net.specs.declared.promise.Promise.{Promise}
use Rattle.st_net.specs.Demands.{HoldsIn, held_list}
use Rattle.st_net.specs.Groups.{Group, IsSound, no_promise, promise_of}
use Rattle.st_net.specs.Levels.{carries, level_of}
use Rattle.st_net.specs.Merge.{alters, target_with, vals_in}
use Rattle.st_net.specs.Numbered.{nth}
use Rattle.st_net.specs.Promises.{is_kept}
use Rattle.st_net.specs.Ranges.{RowFits}
use Rattle.st_net.specs.Reports.{later_report}
use Rattle.st_net.specs.Sets.{IsWithin, Marks, MarksOf, is_in}
use Rattle.st_net.proofs.DemandLaws.{holds_with_more, tells_demands}
use Rattle.st_event.specs.declared.event.Event.{Event}
use Rattle.st_event.specs.declared.event.Event.TheVariants.{Check, Withdraw}
use Rattle.st_event.specs.declared.journal.Entry.{Entry}
use Rattle.st_event.specs.declared.reply.Reply.{Reply}
use Rattle.st_event.specs.History.{History, with_entry}
use Rattle.st_event.specs.Legal.{IsLegal, IsNext}
use Rattle.st_event.specs.Moments.{busy, health, heard, is_taken, reports, stamp, vals}
use Rattle.st_event.specs.Network.{NamesLoss}
use Rattle.st_event.specs.Observed.{actual, observed, sure}
use Rattle.st_event.specs.Overlaid.{overlaid_by}
use Rattle.st_event.specs.Proposals.{first_rows, overlay_in, overlays, pending, target, with_overlay}
use Rattle.st_event.proofs.Made.{observed_own}
use Rattle.st_event.proofs.Promises.{keeps_or_names}
use Rattle.st_event.proofs.Ranges.{all_in_range}
use Rattle.st_event.proofs.Shown.{made_is_true}
use Rattle.st_event.proofs.Stamps.{fence_small, stamp_small}
use Rattle.st_event.proofs.SureIsUp.{sure_parts}
use Rattle.st_event.proofs.SureSteps.{unaltered}
use Rattle.st_event.proofs.Targets.{target_overlaid}
use Rattle.st_player.specs.declared.touched.Touched.TheVariants.{Altered}
use Rattle.st_player.specs.Causes.{overlay_of}
use Rattle.st_player.specs.Touched.{Touches}
use Rattle.st_player.proofs.Untouched.{Stays, StayAll, and_true, entry_of, leaves, sure_stays}

-- an entry overlays the target with these rows
abbrev IsLaid : List Entry → Event → Reply → List Row → Type 0
IsLaid past event answer rows = overlay_in event answer (first_rows (pending past)) ≡ Some rows

abbrev IsAltered : Group → List Entry → List Row → Entity → Bool → Type 0
IsAltered g past rows e is = alters g (target g past) rows e ≡ is

-- the rows fit, as all that was ever overlaid
pub overlay_fits : (g : Group) (past : List Entry) (entry : Entry) (rows : List Row) → IsSound g → IsLegal g past → IsNext g past entry → overlay_of past entry ≡ Some rows → All (RowFits g) rows
overlay_fits g past entry rows sound legal next laid =
    let more : overlays (entry ∷ past) ≡ overlays past ++ rows ∷ [] = ap (λ (o : Option (List Row)). with_overlay o (overlays past)) laid in
    (All-pop (All (RowFits g)) (overlays (entry ∷ past)) (overlays past) (Some rows) more (all_in_range g (entry ∷ past) sound (next, legal)).overlaid).1

-- what overlays the target hears no report
hears_none : (past : List Entry) (event : Event) (answer : Reply) (rows : List Row) (reports : ℕ → Option Report) → IsLaid past event answer rows → heard event reports ≡ None
hears_none past Check answer rows reports laid = refl
hears_none past (Withdraw at) answer rows reports laid = refl
hears_none past _ answer rows reports laid = cc

-- the stamp moves only where the target is altered
stamp_by : (g : Group) (past : List Entry) (event : Event) (answer : Reply) (rows : List Row) (e : Entity) → IsLaid past event answer rows → stamp g (entry_of event answer ∷ past) e ≡ (if alters g (target g past) rows e then length past + 1 else stamp g past e)
stamp_by g past event answer rows e laid =
    let silent = hears_none past event answer rows (nth (reports g past)) laid in
    rw (laid, silent, and-false (is_taken answer), or-false (alters g (target g past) rows e)) refl

stamp_stays : (g : Group) (past : List Entry) (event : Event) (answer : Reply) (rows : List Row) (e : Entity) → IsLaid past event answer rows → IsAltered g past rows e false → stamp g past e ≡ stamp g (entry_of event answer ∷ past) e
stamp_stays g past event answer rows e laid other = sym (stamp_by g past event answer rows e laid ∙ ap (λ (is : Bool). if is then length past + 1 else stamp g past e) other)

stamp_moves : (g : Group) (past : List Entry) (event : Event) (answer : Reply) (rows : List Row) (e : Entity) → IsLaid past event answer rows → IsAltered g past rows e true → stamp g (entry_of event answer ∷ past) e ≡ length past + 1
stamp_moves g past event answer rows e laid altered = stamp_by g past event answer rows e laid ∙ ap (λ (is : Bool). if is then length past + 1 else stamp g past e) altered

goal_stays : (g : Group) (past : List Entry) (event : Event) (answer : Reply) (rows : List Row) (e : Entity) → IsLaid past event answer rows → IsAltered g past rows e false → vals_in g (target g past) e ≡ vals_in g (target g (entry_of event answer ∷ past)) e
goal_stays g past event answer rows e laid other =
    let laid_over : target g (entry_of event answer ∷ past) ≡ target_with (target g past) rows = target_overlaid g past (entry_of event answer) ∙ ap (λ (o : Option (List Row)). overlaid_by o (target g past)) laid in
    sym (ap (λ (t : Entity → Var → ℕ). vals_in g t e) laid_over ∙ unaltered g (target g past) rows e other)

-- what is not altered stays
stays_unaltered : (g : Group) (past : List Entry) (event : Event) (answer : Reply) (rows : List Row) (e : Entity) → IsLaid past event answer rows → IsAltered g past rows e false → Stays g past (entry_of event answer) e
stays_unaltered g past Check answer rows e laid other = record {
  busy_is = and_true (busy g past e);
  vals_is = refl;
  health_is = refl;
  observed_is = refl;
  since_is = refl;
  stamp_is = stamp_stays g past Check answer rows e laid other;
  holder_is = λ p. refl;
  failed_is = λ n. refl;
  goal_is = goal_stays g past Check answer rows e laid other;
}
stays_unaltered g past (Withdraw at) answer rows e laid other = record {
  busy_is = and_true (busy g past e);
  vals_is = refl;
  health_is = refl;
  observed_is = refl;
  since_is = refl;
  stamp_is = stamp_stays g past (Withdraw at) answer rows e laid other;
  holder_is = λ p. refl;
  failed_is = λ n. refl;
  goal_is = goal_stays g past (Withdraw at) answer rows e laid other;
}
stays_unaltered g past _ answer rows e laid other = absurd cc

-- the network stays, and what is known of each entity
network_stays : (g : Group) (past : List Entry) (event : Event) (answer : Reply) (rows : List Row) (e : Entity) → IsLaid past event answer rows → actual g past e ≡ actual g (entry_of event answer ∷ past) e
network_stays g past Check answer rows e laid =
    let idle = and_true (busy g past e) in
    λ i. not (idle i) && carries e (vals g past e) (level_of e (vals g past e) (health g past e) (idle i))
network_stays g past (Withdraw at) answer rows e laid =
    let idle = and_true (busy g past e) in
    λ i. not (idle i) && carries e (vals g past e) (level_of e (vals g past e) (health g past e) (idle i))
network_stays g past _ answer rows e laid = absurd cc

known_stays : (g : Group) (past : List Entry) (event : Event) (answer : Reply) (rows : List Row) (e : Entity) → IsLaid past event answer rows → observed g (entry_of event answer ∷ past) e ≡ observed g past e
known_stays g past event answer rows e laid = ap (λ (o : Option Report). later_report e o (observed g past e)) (hears_none past event answer rows (nth (reports g past)) laid)

-- no report shows a stamp that is given now
not_yet : (g : Group) (past : List Entry) (e : Entity) → (observed g past e).fence ≤ length past
not_yet g past e =
    let r = observed g past e in
    let shown = (made_is_true g past r (observed_own g past e).made).behind in
    omega (arith, shown, fence_small g past r.entity, stamp_small g past r.entity)

-- so no entity comes into the sure set
none_comes : (g : Group) (past : List Entry) (event : Event) (answer : Reply) (rows : List Row) → IsLaid past event answer rows → IsWithin (sure g (entry_of event answer ∷ past)) (sure g past)
none_comes g past event answer rows laid e is = by_test (alters g (target g past) rows e) refl
  where
    by_test : (b : Bool) → IsAltered g past rows e b → sure g past e ≡ true
    by_test false other = sure_stays g past (entry_of event answer) e (stays_unaltered g past event answer rows e laid other) ∙ is
    by_test true altered =
        let here = entry_of event answer ∷ past in
        let parts = sure_parts e (observed g here e) (stamp g here e) (vals_in g (target g here) e) is in
        let now : (observed g past e).fence ≡ length past + 1 = ap (λ (r : Report). r.fence) (sym (known_stays g past event answer rows e laid)) ∙ (parts.fence ∙ stamp_moves g past event answer rows e laid altered) in
        let low = not_yet g past e in
        absurd (let no : ⊥ = omega (arith, now, low) in no)

-- each promise holds as before
same_where : (p q : Bool) → (p ≡ true → q ≡ true) → (q ≡ true → p ≡ true) → p ≡ q
same_where true q to from = sym (to refl)
same_where false true to from = from refl
same_where false false to from = refl

kept_each : (g : Group) (up next : Entity → Bool) (ps : List Promise) → ((i : ℕ) → i < length ps → is_kept g up (slice_index_or ps i no_promise) ≡ is_kept g next (slice_index_or ps i no_promise)) → map (is_kept g up) ps ≡ map (is_kept g next) ps
kept_each g up next [] each = refl
kept_each g up next (p ∷ ps) each =
    ap₂ (λ (b : Bool) (bs : List Bool). b ∷ bs) (each 0 (omega arith)) (kept_each g up next ps (λ i low. each (suc i) (omega (arith, low))))

-- what hears no report names no loss
keeps_on : (g : Group) (past : List Entry) (entry : Entry) (i : ℕ) → heard entry.event (nth (reports g past)) ≡ None → (HoldsIn g (sure g (entry ∷ past)) i ⊎ NamesLoss g past entry) → HoldsIn g (sure g (entry ∷ past)) i
keeps_on g past entry i silent (inl holds) = holds
keeps_on g past entry i silent (inr names) = let some = names.hears in absurd cc

kept_stays : (g : Group) (past : List Entry) (event : Event) (answer : Reply) (rows : List Row) → IsSound g → IsLegal g past → IsNext g past (entry_of event answer) → IsLaid past event answer rows → held_list g (sure g past) ≡ held_list g (sure g (entry_of event answer ∷ past))
kept_stays g past event answer rows sound legal next laid = kept_each g (sure g past) (sure g (entry_of event answer ∷ past)) g.promises (λ i low.
    let entry = entry_of event answer in
    let before = tells_demands g sound (sure g past) i low in
    let after = tells_demands g sound (sure g (entry ∷ past)) i low in
    let silent = hears_none past event answer rows (nth (reports g past)) laid in
    same_where (is_kept g (sure g past) (promise_of g i)) (is_kept g (sure g (entry ∷ past)) (promise_of g i))
    (λ is. after.1 (keeps_on g past entry i silent (keeps_or_names g past entry i sound legal next low (before.0 is))))
    (λ is. before.1 (holds_with_more g (sure g (entry ∷ past)) (sure g past) i (none_comes g past event answer rows laid) (after.0 is))))

-- an overlay moves the entities whose target it alters
pub leaves_unaltered : (h : History) (entry : Entry) (rows : List Row) (set : Marks) → IsSound h.group → IsLegal h.group h.past → IsNext h.group h.past entry → overlay_of h.past entry ≡ Some rows → MarksOf h.group set → is_in set ≡ alters h.group (target h.group h.past) rows → Touches h (with_entry h entry) (Altered set)
leaves_unaltered h entry rows set sound legal next laid marks is =
    let all : StayAll h.group h.past entry (Altered set) = λ e other. stays_unaltered h.group h.past entry.event entry.reply rows e laid (ap (λ (s : Entity → Bool). s e) (sym is) ∙ other) in
    leaves h.group h.past entry (Altered set) marks all (record { network = λ e. network_stays h.group h.past entry.event entry.reply rows e laid; kept = kept_stays h.group h.past entry.event entry.reply rows sound legal next laid })
