-- What is observed is the report with the greatest number that was heard, and the fence the greatest stamp that was delivered.
use Rattle.std.proofs.Common.{◌≡◌, ℕ, ◌≤◌, List, [], ◌∷◌, Option, Some, None, refl, sym, ◌∙◌, subst, inl, inr, arith}
use Rattle.std.specs.Prelude.{Bool, true, false, ◌&&◌, max, nat_lt, if◌then◌else◌, ◌⊎◌}
use Rattle.st_net.specs.declared.entity.Entity.{Entity}
use Rattle.st_net.specs.declared.message.Command.{Command}
use Rattle.st_net.specs.declared.message.Report.{Report}
use Rattle.st_event.specs.declared.journal.Entry.{Entry}
use Rattle.st_net.specs.Entities.{is_same_entity}
use Rattle.st_net.specs.Groups.{Group}
use Rattle.st_net.specs.Numbered.{nth}
use Rattle.st_event.specs.Moments.{heard, told, fence_after, commands, reports, fence}
use Rattle.st_net.specs.Reports.{opening_report, later_report}
use Rattle.st_event.specs.Observed.{observed}
use Rattle.st_event.specs.Heard.{WasHeard, WasTold}
use Rattle.st_net.proofs.Tests.{same_self, both, less_is, not_less}
use Rattle.st_event.proofs.Stamps.{fence_grows}

newer_if : (e : Entity) (r kept : Report) (b : Bool) → (is_same_entity r.entity e && nat_lt kept.number r.number) ≡ b → kept.number ≤ (if b then r else kept).number
newer_if e r kept true is = let less = less_is kept.number r.number (both (is_same_entity r.entity e) (nat_lt kept.number r.number) is).1 in omega (arith, less)
newer_if e r kept false is = omega arith

number_rises : (e : Entity) (o : Option Report) (kept : Report) → kept.number ≤ (later_report e o kept).number
number_rises e None kept = omega arith
number_rises e (Some r) kept = newer_if e r kept (is_same_entity r.entity e && nat_lt kept.number r.number) refl

reached_if : (r kept : Report) (b : Bool) → nat_lt kept.number r.number ≡ b → r.number ≤ (if b then r else kept).number
reached_if r kept true is = omega arith
reached_if r kept false is = not_less kept.number r.number is

number_reached : (r kept : Report) → r.number ≤ (later_report r.entity (Some r) kept).number
number_reached r kept = rw (same_self r.entity) (reached_if r kept (nat_lt kept.number r.number) refl)

heard_at : (g : Group) (past : List Entry) (entry : Entry) (r : Report) → ((heard entry.event (nth (reports g past)) ≡ Some r) ⊎ WasHeard g past r) → (WasHeard g past r → r.number ≤ (observed g past r.entity).number) → r.number ≤ (observed g (entry ∷ past) r.entity).number
heard_at g past entry r (inl is) before = subst (λ (o : Option Report). r.number ≤ (later_report r.entity o (observed g past r.entity)).number) (sym is) (number_reached r (observed g past r.entity))
heard_at g past entry r (inr was) before =
    let rises = number_rises r.entity (heard entry.event (nth (reports g past))) (observed g past r.entity) in
    let old = before was in
    omega (arith, rises, old)

-- no report that was heard of an entity has a greater number than the one that is observed
pub observed_greatest : (g : Group) (past : List Entry) (r : Report) → WasHeard g past r → r.number ≤ (observed g past r.entity).number
observed_greatest g [] r was = absurd was
observed_greatest g (entry ∷ past) r was = heard_at g past entry r was (observed_greatest g past r)

-- a choice of the two
kept_or_heard : (e : Entity) (o : Option Report) (kept : Report) → (later_report e o kept ≡ kept) ⊎ (o ≡ Some (later_report e o kept))
kept_or_heard e None kept = inl refl
kept_or_heard e (Some r) kept = by_test e r kept (is_same_entity r.entity e && nat_lt kept.number r.number)
  where
    by_test : (e : Entity) (r kept : Report) (b : Bool) → ((if b then r else kept) ≡ kept) ⊎ (Some r ≡ Some (if b then r else kept))
    by_test e r kept true = inr refl
    by_test e r kept false = inl refl

observed_from : (g : Group) (past : List Entry) (entry : Entry) (e : Entity) → ((observed g (entry ∷ past) e ≡ observed g past e) ⊎ (heard entry.event (nth (reports g past)) ≡ Some (observed g (entry ∷ past) e))) → ((observed g past e ≡ opening_report g e) ⊎ WasHeard g past (observed g past e)) → (observed g (entry ∷ past) e ≡ opening_report g e) ⊎ WasHeard g (entry ∷ past) (observed g (entry ∷ past) e)
observed_from g past entry e (inl same) (inl opening) = inl (same ∙ opening)
observed_from g past entry e (inl same) (inr was) = inr (inr (subst (λ (r : Report). WasHeard g past r) (sym same) was))
observed_from g past entry e (inr is) before = inr (inl is)

-- and it was heard, or is the opening one
pub observed_heard : (g : Group) (past : List Entry) (e : Entity) → (observed g past e ≡ opening_report g e) ⊎ WasHeard g past (observed g past e)
observed_heard g [] e = inl refl
observed_heard g (entry ∷ past) e = observed_from g past entry e (kept_or_heard e (heard entry.event (nth (reports g past))) (observed g past e)) (observed_heard g past e)

fence_reached : (o : Option Command) (c : Command) (before : ℕ) → o ≡ Some c → c.stamp ≤ fence_after o before
fence_reached o c before is = subst (λ (x : Option Command). c.stamp ≤ fence_after x before) (sym is) (most c before)
  where
    most : (c : Command) (before : ℕ) → c.stamp ≤ max before c.stamp
    most c before = omega arith

told_from : (g : Group) (past : List Entry) (entry : Entry) (c : Command) → ((told c.entity entry.event (nth (commands g past)) ≡ Some c) ⊎ WasTold g past c) → (WasTold g past c → c.stamp ≤ fence g past c.entity) → c.stamp ≤ fence g (entry ∷ past) c.entity
told_from g past entry c (inl is) before = fence_reached (told c.entity entry.event (nth (commands g past))) c (fence g past c.entity) is
told_from g past entry c (inr was) before =
    let grows = fence_grows (told c.entity entry.event (nth (commands g past))) (fence g past c.entity) in
    let old = before was in
    omega (arith, grows, old)

-- no command that was delivered to an entity has a greater stamp than its fence
pub fence_greatest : (g : Group) (past : List Entry) (c : Command) → WasTold g past c → c.stamp ≤ fence g past c.entity
fence_greatest g [] c was = absurd was
fence_greatest g (entry ∷ past) c was = told_from g past entry c was (fence_greatest g past c)
