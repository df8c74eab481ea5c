-- What each report shows: the state of its agent, until a later command begins or the entity fails.
use Rattle.std.proofs.Common.{◌≡◌, ℕ, ◌+◌, ◌≤◌, List, [], ◌∷◌, Option, Some, None, refl, sym, ◌∙◌, subst, inl, inr, arith}
use Rattle.std.specs.Prelude.{Bool, true, false, ◌&&◌, nat_le, if◌then◌else◌}
use Rattle.std.proofs.lemmas.Bool.Decides.{nat_tests}
use Rattle.st_net.specs.declared.entity.Entity.{Entity}
use Rattle.st_net.specs.declared.entity.Vals.{Vals}
use Rattle.st_net.specs.declared.message.Command.{Command}
use Rattle.st_net.specs.declared.message.Report.{Report}
use Rattle.st_event.specs.declared.event.Event.{Event}
use Rattle.st_event.specs.declared.event.Event.TheVariants.{Finish, Fail, Report as make_report}
use Rattle.st_event.specs.declared.reply.Reply.{Reply}
use Rattle.st_event.specs.declared.journal.Entry.{Entry}
use Rattle.st_net.specs.Entities.{is_same_entity}
use Rattle.st_net.specs.Groups.{Group}
use Rattle.st_net.specs.Numbered.{nth}
use Rattle.st_event.specs.Moments.{told, fence_after, begins, vals_after, health_after, is_report_of, is_fail_of, commands, fence, work, vals, health, number}
use Rattle.st_net.specs.Reports.{opening_report}
use Rattle.st_event.specs.Observed.{failed_since}
use Rattle.st_event.specs.Facts.{IsShown, IsTrueOf}
use Rattle.st_net.proofs.Tests.{neither, not_both, at_most, same_self}
use Rattle.st_event.proofs.Made.{IsMade, Makes, report_now}
use Rattle.st_event.proofs.Stamps.{fence_grows}

number_grows_if : (b : Bool) (n : ℕ) → n ≤ (if b then n + 1 else n)
number_grows_if true n = omega arith
number_grows_if false n = omega arith

pub number_grows : (past : List Entry) (entry : Entry) (e : Entity) → number past e ≤ number (entry ∷ past) e
number_grows past entry e = number_grows_if (is_report_of e entry.event) (number past e)

not_begun : (o : Option Command) (f : ℕ) → fence_after o f ≡ f → begins o f ≡ false
not_begun None f same = refl
not_begun (Some c) f same = grind (arith, nat_tests)

finish_idle : (b : Bool) (work vals : Vals) → (if b && false then work else vals) ≡ vals
finish_idle true work vals = refl
finish_idle false work vals = refl

vals_stay : (event : Event) (e : Entity) (work vals : Vals) → is_fail_of e event ≡ false → vals_after event e false work vals ≡ vals
vals_stay (Finish at) e work vals none = finish_idle (is_same_entity at e) work vals
vals_stay (Fail at new health) e work vals none = rw none refl
vals_stay _ e work vals none = refl

health_stays : (event : Event) (e : Entity) (health : ℕ) → is_fail_of e event ≡ false → health_after event e health ≡ health
health_stays (Fail at new level) e health none = rw none refl
health_stays _ e health none = refl

-- an agent that is not busy stays as it is while no command begins and the entity doesn't fail
still_shown : (g : Group) (past : List Entry) (entry : Entry) (r : Report) → begins (told r.entity entry.event (nth (commands g past))) (fence g past r.entity) ≡ false → is_fail_of r.entity entry.event ≡ false → IsShown g past r → IsShown g (entry ∷ past) r
still_shown g past entry r begun none shown =
    let values : vals g (entry ∷ past) r.entity ≡ vals g past r.entity = rw shown.idle (vals_stay entry.event r.entity (work g past r.entity) (vals g past r.entity) none) in
    let health : health g (entry ∷ past) r.entity ≡ health g past r.entity = health_stays entry.event r.entity (health g past r.entity) none in
    record {
      idle = rw (begun, shown.idle) refl;
      values = values ∙ shown.values;
      level = rw (values, health) shown.level;
    }

-- a report stays true
stays_true : (g : Group) (past : List Entry) (entry : Entry) (r : Report) → IsTrueOf g past r → IsTrueOf g (entry ∷ past) r
stays_true g past entry r is = record {
  behind = let grows = fence_grows (told r.entity entry.event (nth (commands g past))) (fence g past r.entity) in let low = is.behind in omega (arith, grows, low);
  counted = let grows = number_grows past entry r.entity in let low = is.counted in omega (arith, grows, low);
  shows = λ idle same none.
      let grows = fence_grows (told r.entity entry.event (nth (commands g past))) (fence g past r.entity) in
      let low = is.behind in
      let now : r.fence ≡ fence g past r.entity = omega (arith, grows, low, same) in
      let stays : fence_after (told r.entity entry.event (nth (commands g past))) (fence g past r.entity) ≡ fence g past r.entity = omega (arith, same, now) in
      let parts = neither (is_fail_of r.entity entry.event && nat_le r.number (number past r.entity)) (failed_since past r.entity r.number) none in
      let unfailed = not_both (is_fail_of r.entity entry.event) (nat_le r.number (number past r.entity)) parts.0 (at_most r.number (number past r.entity) is.counted) in
      still_shown g past entry r (not_begun (told r.entity entry.event (nth (commands g past))) (fence g past r.entity) stays) unfailed (is.shows idle now parts.1);
}

-- a report is true when it is made
made_true : (g : Group) (past : List Entry) (e : Entity) (reply : Reply) → IsTrueOf g (record { event = make_report e; reply = reply } ∷ past) (report_now g past e)
made_true g past e reply = record {
  behind = omega arith;
  counted = rw (same_self e) (omega arith);
  shows = λ idle same none. record { idle = rw idle refl; values = refl; level = rw idle refl };
}

makes_true : (g : Group) (past : List Entry) (event : Event) (reply : Reply) (r : Report) → Makes event (report_now g past) r → IsTrueOf g (record { event = event; reply = reply } ∷ past) r
makes_true g past (make_report e) reply r is = subst (λ (x : Report). IsTrueOf g (record { event = make_report e; reply = reply } ∷ past) x) (sym is) (made_true g past e reply)
makes_true g past _ reply r is = absurd is

true_from : (g : Group) (past : List Entry) (entry : Entry) (r : Report) → IsMade g (entry ∷ past) r → (IsMade g past r → IsTrueOf g past r) → IsTrueOf g (entry ∷ past) r
true_from g past entry r (inl made) before = stays_true g past entry r (before made)
true_from g past entry r (inr makes) before = makes_true g past entry.event entry.reply r makes

opening_true : (g : Group) (e : Entity) → IsTrueOf g [] (opening_report g e)
opening_true g e = record { behind = omega arith; counted = omega arith; shows = λ idle same none. record { idle = refl; values = refl; level = refl } }

-- each report that was made is true
pub made_is_true : (g : Group) (past : List Entry) (r : Report) → IsMade g past r → IsTrueOf g past r
made_is_true g [] r made = subst (λ (x : Report). IsTrueOf g [] x) (sym made) (opening_true g r.entity)
made_is_true g (entry ∷ past) r made = true_from g past entry r made (made_is_true g past r)
