-- A later report of an entity has no lower fence; where it has the same one and the entity did not fail in between, it shows the same.
use Rattle.std.proofs.Common.{◌≡◌, ℕ, ◌+◌, ◌<◌, ◌≤◌, List, [], ◌∷◌, refl, ap, sym, ◌∙◌, subst, inl, inr, arith}
use Rattle.std.specs.Prelude.{Bool, true, false, ◌&&◌, nat_le, nat_lt}
use Rattle.std.proofs.lemmas.Bool.{or_from}
use Rattle.st_net.specs.declared.entity.Entity.{Entity}
use Rattle.st_net.specs.declared.message.Report.{Report}
use Rattle.st_event.specs.declared.event.Event.{Event}
use Rattle.st_event.specs.declared.event.Event.TheVariants.{Report as make_report}
use Rattle.st_event.specs.declared.journal.Entry.{Entry}
use Rattle.st_net.specs.Levels.{level_of}
use Rattle.st_net.specs.Groups.{Group}
use Rattle.st_event.specs.Moments.{is_fail_of, fence, busy, vals, health, number}
use Rattle.st_event.specs.Observed.{failed_since, failed_between}
use Rattle.st_event.specs.Facts.{IsTrueOf, IsLaterThan}
use Rattle.st_net.proofs.Tests.{neither, not_both, less}
use Rattle.st_event.proofs.Made.{IsMade, Makes, report_now}
use Rattle.st_event.proofs.Shown.{made_is_true, number_grows}

late_enough : (p q r : Bool) → (p && q && r) ≡ false → r ≡ true → (p && q) ≡ false
late_enough p q r none is = not_both (p && q) r none is

-- what did not fail before a number that is not reached yet did not fail since
unfailed_since : (past : List Entry) (e : Entity) (from to : ℕ) → number past e < to → failed_between past e from to ≡ false → failed_since past e from ≡ false
unfailed_since [] e from to more none = refl
unfailed_since (entry ∷ past) e from to more none =
    let grows = number_grows past entry e in
    let before : number past e < to = omega (arith, grows, more) in
    let parts = neither (is_fail_of e entry.event && nat_le from (number past e) && nat_lt (number past e) to) (failed_between past e from to) none in
    or_from (is_fail_of e entry.event && nat_le from (number past e)) (failed_since past e from) (late_enough (is_fail_of e entry.event) (nat_le from (number past e)) (nat_lt (number past e) to) parts.0 (less (number past e) to before)) (unfailed_since past e from to before parts.1)

-- the report is one of the entity, with its next number, and shows the state of the agent
now_after : (g : Group) (past : List Entry) (entry : Entry) (o : Report) (e : Entity) → o.entity ≡ e → IsTrueOf g past o → IsLaterThan (entry ∷ past) o (report_now g past e)
now_after g past entry o e own is =
    let at = sym own in
    record {
      behind = subst (λ (x : Entity). o.fence ≤ fence g past x) own is.behind;
      shows = λ idle same none.
          let here : o.fence ≡ fence g past o.entity = same ∙ ap (fence g past) at in
          let parts = neither (is_fail_of o.entity entry.event && nat_le o.number (number past o.entity) && nat_lt (number past o.entity) (number past e + 1)) (failed_between past o.entity o.number (number past e + 1)) none in
          let next : number past o.entity < number past e + 1 = let eq : number past o.entity ≡ number past e = ap (number past) own in omega (arith, eq) in
          let shown = is.shows idle here (unfailed_since past o.entity o.number (number past e + 1) next parts.1) in
          let still : busy g past e ≡ false = subst (λ (x : Entity). busy g past x ≡ false) own shown.idle in
          record {
            idle = still;
            values = subst (λ (x : Entity). vals g past x ≡ o.vals) own shown.values;
            level = rw still (subst (λ (x : Entity). level_of x (vals g past x) (health g past x) false ≡ o.level) own shown.level);
          };
    }

older_first : (past : List Entry) (entry : Entry) (o r : Report) → IsLaterThan past o r → IsLaterThan (entry ∷ past) o r
older_first past entry o r is = record {
  behind = is.behind;
  shows = λ idle same none. is.shows idle same (neither (is_fail_of o.entity entry.event && nat_le o.number (number past o.entity) && nat_lt (number past o.entity) r.number) (failed_between past o.entity o.number r.number) none).1;
}

makes_after : (g : Group) (past : List Entry) (entry : Entry) (event : Event) (o r : Report) → Makes event (report_now g past) r → o.entity ≡ r.entity → IsTrueOf g past o → IsLaterThan (entry ∷ past) o r
makes_after g past entry (make_report e) o r makes own is = subst (λ (x : Report). IsLaterThan (entry ∷ past) o x) (sym makes) (now_after g past entry o e (own ∙ ap (λ (x : Report). x.entity) makes) is)
makes_after g past entry _ o r makes own is = absurd makes

-- a report that is made has the next number of its entity
pub makes_next : (g : Group) (past : List Entry) (event : Event) (r : Report) → Makes event (report_now g past) r → r.number ≡ number past r.entity + 1
makes_next g past (make_report e) r makes = rw makes refl
makes_next g past _ r makes = absurd makes

pair_from : (g : Group) (past : List Entry) (entry : Entry) (o r : Report) → IsMade g (entry ∷ past) o → IsMade g (entry ∷ past) r → o.entity ≡ r.entity → o.number < r.number → (IsMade g past o → IsMade g past r → IsLaterThan past o r) → IsLaterThan (entry ∷ past) o r
pair_from g past entry o r (inl x) (inl y) own less before = older_first past entry o r (before x y)
pair_from g past entry o r (inl x) (inr y) own less before = makes_after g past entry entry.event o r y own (made_is_true g past o x)
pair_from g past entry o r (inr x) (inl y) own less before =
    let next = makes_next g past entry.event o x in
    let old = (made_is_true g past r y).counted in
    let eq : number past o.entity ≡ number past r.entity = ap (number past) own in
    absurd (omega (arith, next, old, eq, less))
pair_from g past entry o r (inr x) (inr y) own less before =
    let next = makes_next g past entry.event o x in
    let new = makes_next g past entry.event r y in
    let eq : number past o.entity ≡ number past r.entity = ap (number past) own in
    absurd (omega (arith, next, new, eq, less))

pub made_later : (g : Group) (past : List Entry) (o r : Report) → IsMade g past o → IsMade g past r → o.entity ≡ r.entity → o.number < r.number → IsLaterThan past o r
made_later g [] o r x y own less =
    let p : o.number ≡ 0 = ap (λ (z : Report). z.number) x in
    let q : r.number ≡ 0 = ap (λ (z : Report). z.number) y in
    absurd (omega (arith, p, q, less))
made_later g (entry ∷ past) o r x y own less = pair_from g past entry o r x y own less (λ p q. made_later g past o r p q own less)
