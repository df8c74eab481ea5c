-- Commands and agents have the values that the target had at their stamp.
use Rattle.std.proofs.Common.{◌≡◌, ℕ, ◌+◌, ◌≤◌, List, [], ◌∷◌, length, Option, Some, None, refl, ap, sym, ◌∙◌, subst, inl, inr, arith}
use Rattle.std.specs.Prelude.{Bool, true, false, ◌&&◌, not, nat_le, nat_lt, max, if◌then◌else◌}
use Rattle.std.proofs.lemmas.Bool.Decides.{nat_tests}
use Rattle.st_net.specs.declared.entity.Entity.{Entity}
use Rattle.st_net.specs.declared.entity.Vals.{Vals}
use Rattle.st_net.specs.declared.message.Command.{Command}
use Rattle.st_event.specs.declared.event.Event.{Event}
use Rattle.st_event.specs.declared.event.Event.TheVariants.{Send, Finish, Fail}
use Rattle.st_net.specs.declared.entity.Var.{Var}
use Rattle.st_event.specs.declared.journal.Entry.{Entry}
use Rattle.st_net.specs.Groups.{Group}
use Rattle.st_event.specs.Proposals.{target, pending, first_rows, overlay_in}
use Rattle.st_net.specs.Merge.{vals_in}
use Rattle.st_net.specs.Numbered.{nth}
use Rattle.st_event.specs.Moments.{told, begins, fence_after, work_after, vals_after, is_fail_of, is_finish_of, stamp, commands, fence, busy, work, vals, is_altered_by}
use Rattle.st_event.specs.Past.{target_at, is_spoiled}
use Rattle.st_net.specs.declared.entity.Row.{Row}
use Rattle.st_event.specs.Overlaid.{overlaid_by}
use Rattle.st_event.specs.Legal.{IsLegal, IsNext}
use Rattle.st_event.specs.Facts.{IsInStep}
use Rattle.st_net.proofs.Tests.{neither, at_most}
use Rattle.st_event.proofs.Made.{IsSent, Sends, command_now, told_sent}
use Rattle.st_event.proofs.Stamps.{is_stamped, stamp_small, sent_past, fence_small}
use Rattle.st_event.proofs.Targets.{target_overlaid}
use Rattle.st_event.proofs.SureSteps.{unaltered}
use Rattle.st_event.proofs.Promises.{opening_same}

not_at_most : (n : ℕ) → nat_le (n + 1) n ≡ false
not_at_most n = grind (arith, nat_tests)

-- what the target was stays so
pub past_stays : (g : Group) (past : List Entry) (entry : Entry) (s : ℕ) (e : Entity) → s ≤ length past → target_at g (entry ∷ past) s e ≡ target_at g past s e
past_stays g past entry s e low = rw (at_most s (length past) low) refl

kept_by_overlay : (g : Group) (before : Entity → Var → ℕ) (o : Option (List Row)) (e : Entity) → is_altered_by g before o e ≡ false → vals_in g (overlaid_by o before) e ≡ vals_in g before e
kept_by_overlay g before None e none = refl
kept_by_overlay g before (Some rows) e none = unaltered g before rows e none

kept_at : (g : Group) (past : List Entry) (entry : Entry) (e : Entity) → is_stamped g past entry e ≡ false → vals_in g (target g (entry ∷ past)) e ≡ vals_in g (target g past) e
kept_at g past entry e none =
    let overlay = overlay_in entry.event entry.reply (first_rows (pending past)) in
    let parts = neither (is_altered_by g (target g past) overlay e) _ none in
    ap (λ (t : Entity → Var → ℕ). vals_in g t e) (target_overlaid g past entry) ∙ kept_by_overlay g (target g past) overlay e parts.0

stamped_or_not : (g : Group) (past : List Entry) (entry : Entry) (e : Entity) (b : Bool) → is_stamped g past entry e ≡ b → IsLegal g past → IsNext g past entry → vals_in g (target g past) e ≡ target_at g past (stamp g past e) e → vals_in g (target g (entry ∷ past)) e ≡ target_at g (entry ∷ past) (stamp g (entry ∷ past) e) e
stamped_or_not g past entry e true is legal next before = rw (is, not_at_most (length past)) refl
stamped_or_not g past entry e false is legal next before =
    let same : stamp g (entry ∷ past) e ≡ stamp g past e = rw is refl in
    kept_at g past entry e is ∙ before ∙ sym (past_stays g past entry (stamp g past e) e (stamp_small g past e)) ∙ ap (λ (s : ℕ). target_at g (entry ∷ past) s e) (sym same)

-- an entity's target is what it was at the entity's stamp
pub target_of_stamp : (g : Group) (past : List Entry) (e : Entity) → IsLegal g past → vals_in g (target g past) e ≡ target_at g past (stamp g past e) e
target_of_stamp g [] e legal = refl
target_of_stamp g (entry ∷ past) e legal = stamped_or_not g past entry e (is_stamped g past entry e) refl legal.1 legal.0 (target_of_stamp g past e legal.1)

sends_target : (g : Group) (past : List Entry) (event : Event) (c : Command) → IsLegal g past → Sends event (command_now g past) c → c.vals ≡ target_at g past c.stamp c.entity
sends_target g past (Send e) c legal is = subst (λ (x : Command). x.vals ≡ target_at g past x.stamp x.entity) (sym is) (target_of_stamp g past e legal)
sends_target g past _ c legal is = absurd is

sends_low : (g : Group) (past : List Entry) (event : Event) (c : Command) → Sends event (command_now g past) c → c.stamp ≤ length past
sends_low g past (Send e) c is = let low = stamp_small g past e in rw is low
sends_low g past _ c is = absurd is

sent_from : (g : Group) (past : List Entry) (entry : Entry) (c : Command) → IsLegal g past → IsSent g (entry ∷ past) c → (IsSent g past c → c.vals ≡ target_at g past c.stamp c.entity) → c.vals ≡ target_at g (entry ∷ past) c.stamp c.entity
sent_from g past entry c legal (inl sent) before =
    let most = sent_past g past c sent in
    let low = stamp_small g past c.entity in
    before sent ∙ sym (past_stays g past entry c.stamp c.entity (omega (arith, most, low)))
sent_from g past entry c legal (inr sends) before = sends_target g past entry.event c legal sends ∙ sym (past_stays g past entry c.stamp c.entity (sends_low g past entry.event c sends))

-- a command that was sent has the values that its entity's target had at its stamp
pub sent_target : (g : Group) (past : List Entry) (c : Command) → IsLegal g past → IsSent g past c → c.vals ≡ target_at g past c.stamp c.entity
sent_target g [] c legal sent = absurd sent
sent_target g (entry ∷ past) c legal sent = sent_from g past entry c legal.1 sent (sent_target g past c legal.1)

fence_low : (g : Group) (past : List Entry) (e : Entity) → fence g past e ≤ length past
fence_low g past e = let p = fence_small g past e in let q = stamp_small g past e in omega (arith, p, q)

begun_fence : (c : Command) (f : ℕ) → nat_lt f c.stamp ≡ true → max f c.stamp ≡ c.stamp
begun_fence c f is = grind (arith, nat_tests)

same_fence : (o : Option Command) (f : ℕ) → begins o f ≡ false → fence_after o f ≡ f
same_fence None f none = refl
same_fence (Some c) f none = grind (arith, nat_tests)

same_work : (o : Option Command) (f : ℕ) (before : Vals) → begins o f ≡ false → work_after o f before ≡ before
same_work None f before none = refl
same_work (Some c) f before none = rw none refl

vals_by_finish : (event : Event) (e : Entity) (busy : Bool) (work before : Vals) → is_fail_of e event ≡ false → vals_after event e busy work before ≡ (if is_finish_of e event && busy then work else before)
vals_by_finish (Finish at) e busy work before none = refl
vals_by_finish (Fail at new health) e busy work before none = rw none refl
vals_by_finish _ e busy work before none = refl

working_before : (b f : Bool) → (b && not f) ≡ true → b ≡ true
working_before true f is = refl
working_before false f is = is

-- a command begins
begun_in_step : (g : Group) (past : List Entry) (entry : Entry) (e : Entity) (c : Command) → IsLegal g past → told e entry.event (nth (commands g past)) ≡ Some c → nat_lt (fence g past e) c.stamp ≡ true → IsInStep g (entry ∷ past) e
begun_in_step g past entry e c legal is newer =
    let told = told_sent g past e entry.event c is in
    let most = sent_past g past c told.sent in
    let low = stamp_small g past c.entity in
    let values : c.vals ≡ target_at g past c.stamp e = subst (λ (x : Entity). c.vals ≡ target_at g past c.stamp x) told.own (sent_target g past c legal told.sent) in
    let fences : fence g (entry ∷ past) e ≡ c.stamp = rw is (begun_fence c (fence g past e) newer) in
    let works : work g (entry ∷ past) e ≡ c.vals = rw (is, newer) refl in
    let begun : busy g (entry ∷ past) e ≡ true = rw (is, newer) refl in
    record {
      working = λ at_work. works ∙ values ∙ sym (past_stays g past entry c.stamp e (omega (arith, most, low))) ∙ ap (λ (s : ℕ). target_at g (entry ∷ past) s e) (sym fences);
      done = λ idle unspoiled. let no : true ≡ false = sym begun ∙ idle in cc;
    }

finished_or_not : (finish busy spoiled : Bool) (work vals goal : Vals) → (busy && not finish) ≡ false → (spoiled && not (finish && busy)) ≡ false → (busy ≡ true → work ≡ goal) → (busy ≡ false → spoiled ≡ false → vals ≡ goal) → (if finish && busy then work else vals) ≡ goal
finished_or_not true true spoiled work vals goal idle unspoiled working done = working refl
finished_or_not true false true work vals goal idle unspoiled working done = cc
finished_or_not true false false work vals goal idle unspoiled working done = done refl refl
finished_or_not false true spoiled work vals goal idle unspoiled working done = cc
finished_or_not false false true work vals goal idle unspoiled working done = cc
finished_or_not false false false work vals goal idle unspoiled working done = done refl refl

-- no command begins
other_in_step : (g : Group) (past : List Entry) (entry : Entry) (e : Entity) → begins (told e entry.event (nth (commands g past))) (fence g past e) ≡ false → IsInStep g past e → IsInStep g (entry ∷ past) e
other_in_step g past entry e none is =
    let o = told e entry.event (nth (commands g past)) in
    let fences : fence g (entry ∷ past) e ≡ fence g past e = same_fence o (fence g past e) none in
    let works : work g (entry ∷ past) e ≡ work g past e = same_work o (fence g past e) (work g past e) none in
    let busies : busy g (entry ∷ past) e ≡ (busy g past e && not (is_finish_of e entry.event)) = rw none refl in
    let stays : target_at g past (fence g past e) e ≡ target_at g (entry ∷ past) (fence g (entry ∷ past) e) e = sym (past_stays g past entry (fence g past e) e (fence_low g past e)) ∙ ap (λ (s : ℕ). target_at g (entry ∷ past) s e) (sym fences) in
    record {
      working = λ at_work. works ∙ (is.working (working_before (busy g past e) (is_finish_of e entry.event) (sym busies ∙ at_work)) ∙ stays);
      done = λ idle unspoiled.
          let parts = neither (is_fail_of e entry.event) (is_spoiled g past e && not (is_finish_of e entry.event && busy g past e)) unspoiled in
          let values : vals g (entry ∷ past) e ≡ (if is_finish_of e entry.event && busy g past e then work g past e else vals g past e) = vals_by_finish entry.event e (busy g past e) (work g past e) (vals g past e) parts.0 in
          (values ∙ finished_or_not (is_finish_of e entry.event) (busy g past e) (is_spoiled g past e) (work g past e) (vals g past e) (target_at g past (fence g past e) e) (sym busies ∙ idle) parts.1 is.working is.done ∙ stays);
    }

in_step_by : (g : Group) (past : List Entry) (entry : Entry) (e : Entity) (o : Option Command) (b : Bool) → told e entry.event (nth (commands g past)) ≡ o → begins o (fence g past e) ≡ b → IsLegal g past → IsInStep g past e → IsInStep g (entry ∷ past) e
in_step_by g past entry e None b is begun legal before = other_in_step g past entry e (rw is refl) before
in_step_by g past entry e (Some c) true is begun legal before = begun_in_step g past entry e c legal is begun
in_step_by g past entry e (Some c) false is begun legal before = other_in_step g past entry e (rw is begun) before

-- each agent is in step with the target that was at its fence
pub agents_in_step : (g : Group) (past : List Entry) (e : Entity) → IsLegal g past → IsInStep g past e
agents_in_step g [] e legal = record { working = λ at_work. cc; done = λ idle unspoiled. sym (opening_same g e) }
agents_in_step g (entry ∷ past) e legal =
    in_step_by g past entry e (told e entry.event (nth (commands g past))) (begins (told e entry.event (nth (commands g past))) (fence g past e)) refl refl legal.1 (agents_in_step g past e legal.1)
