-- What one entry makes of the sure set.
use Rattle.std.proofs.Common.{◌≡◌, ℕ, List, ◌∷◌, length, Option, Some, None, refl, ap, sym, ◌∙◌, subst, inl, inr, arith}
use Rattle.std.specs.Prelude.{Bool, true, false, ◌&&◌, ◌==◌, not, nat_lt, ◌⊎◌}
use Rattle.std.proofs.lemmas.Bool.{and_right, not-false, not-true}
use Rattle.st_net.specs.declared.entity.Entity.{Entity}
use Rattle.st_net.specs.declared.entity.Row.{Row}
use Rattle.st_net.specs.declared.entity.Var.{Var}
use Rattle.st_net.specs.declared.message.Report.{Report}
use Rattle.st_event.specs.declared.event.Proposal.{Proposal}
use Rattle.st_event.specs.declared.event.Event.{Event}
use Rattle.st_event.specs.declared.event.Event.TheVariants.{Check, Hear}
use Rattle.st_event.specs.declared.reply.Reply.TheVariants.{Decided, Taken}
use Rattle.st_event.specs.declared.journal.Entry.{Entry}
use Rattle.st_net.specs.Entities.{is_same_entity, is_same_vals}
use Rattle.st_net.specs.Groups.{Group}
use Rattle.st_net.specs.Merge.{target_with, vals_in, alters}
use Rattle.st_net.specs.Sets.{IsWithin}
use Rattle.st_event.specs.Proposals.{is_acceptance, is_accepted, first_rows, makes_version, pending, target}
use Rattle.st_net.specs.Numbered.{nth}
use Rattle.st_event.specs.Moments.{heard, renews, is_taken, stamp, reports}
use Rattle.st_event.specs.Observed.{observed, sure, sure_after, failed_between}
use Rattle.st_event.specs.Replies.{reply, hear_reply, receipt_of}
use Rattle.st_event.specs.Legal.{IsLegal, IsNext}
use Rattle.st_event.specs.Network.{NamesLoss}
use Rattle.st_net.proofs.Tests.{both, same_entity, same_self, same_vals, same_vals_self, less_is}
use Rattle.st_event.proofs.Made.{IsMade, heard_made, observed_own}
use Rattle.st_event.proofs.Stamps.{fence_small}
use Rattle.st_event.proofs.Shown.{made_is_true}
use Rattle.st_event.proofs.Later.{made_later}
use Rattle.st_event.proofs.SureIsUp.{IsSureBy, sure_parts, sure_made}
use Rattle.st_event.proofs.Targets.{overlay_none, target_same, target_next}
use Rattle.st_event.proofs.Withdrawals.{withdrawal_within}

-- an acceptance: what stays sure

pub unaltered : (g : Group) (target : Entity → Var → ℕ) (rows : List Row) (e : Entity) → alters g target rows e ≡ false → vals_in g (target_with target rows) e ≡ vals_in g target e
unaltered g target rows e none = same_vals (vals_in g (target_with target rows) e) (vals_in g target e) (not-false (is_same_vals (vals_in g (target_with target rows) e) (vals_in g target e)) none)

stays_sure : (g : Group) (past : List Entry) (p : Proposal) (rest : List Proposal) (e : Entity) → pending past ≡ p ∷ rest → is_accepted (receipt_of g past p).verdict ≡ true → sure g past e ≡ true → alters g (target g past) p.rows e ≡ false → sure g (record { event = Check; reply = Decided (receipt_of g past p) } ∷ past) e ≡ true
stays_sure g past p rest e first accepts is none =
    let moved = target_next g past (receipt_of g past p) p rest first accepts in
    rw (moved, unaltered g (target g past) p.rows e none, accepts, first, none) is

-- after an acceptance the sure set has what was sure and is not altered
pub accepted_within : (g : Group) (past : List Entry) (p : Proposal) (rest : List Proposal) → pending past ≡ p ∷ rest → is_accepted (receipt_of g past p).verdict ≡ true → IsWithin (sure_after g past p.rows) (sure g (record { event = Check; reply = Decided (receipt_of g past p) } ∷ past))
accepted_within g past p rest first accepts e is =
    let parts = both (sure g past e) (not (alters g (target g past) p.rows e)) is in
    stays_sure g past p rest e first accepts parts.0 (not-true (alters g (target g past) p.rows e) parts.1)

-- another entry: what a report that is heard makes of it

hears_at : (g : Group) (past : List Entry) (event : Event) (r : Report) → heard event (nth (reports g past)) ≡ Some r → reply g past event ≡ hear_reply (observed g past) (length (reports g past)) (Some r)
hears_at g past (Hear n) r is = ap (hear_reply (observed g past) (length (reports g past))) is
hears_at g past _ r is = cc

-- the reply to a report is Taken where its number is greater than the kept one's
pub hears_newer : (g : Group) (past : List Entry) (entry : Entry) (r : Report) → IsNext g past entry → heard entry.event (nth (reports g past)) ≡ Some r → nat_lt (observed g past r.entity).number r.number ≡ true → entry.reply ≡ Taken
hears_newer g past entry r next hears newer = next.answer ∙ hears_at g past entry.event r hears ∙ rw newer refl

pub hears_older : (g : Group) (past : List Entry) (entry : Entry) (r : Report) → IsNext g past entry → heard entry.event (nth (reports g past)) ≡ Some r → nat_lt (observed g past r.entity).number r.number ≡ false → is_taken entry.reply ≡ false
hears_older g past entry r next hears older = ap is_taken (next.answer ∙ hears_at g past entry.event r hears) ∙ rw older refl

-- an entry that makes no version and leaves what is observed, and does not renew, leaves the entity sure
sure_kept : (g : Group) (past : List Entry) (entry : Entry) (e : Entity) → makes_version entry.event entry.reply ≡ false → target g (entry ∷ past) ≡ target g past → observed g (entry ∷ past) e ≡ observed g past e → (is_taken entry.reply && renews (heard entry.event (nth (reports g past))) e (stamp g past e) (vals_in g (target g past) e)) ≡ false → sure g past e ≡ true → sure g (entry ∷ past) e ≡ true
sure_kept g past entry e none moved view renewed is =
    let stamps : stamp g (entry ∷ past) e ≡ stamp g past e = rw (overlay_none entry.event entry.reply (first_rows (pending past)) none, renewed) refl in
    rw (moved, view, stamps) is

nothing_heard : (g : Group) (past : List Entry) (entry : Entry) (e : Entity) → makes_version entry.event entry.reply ≡ false → target g (entry ∷ past) ≡ target g past → heard entry.event (nth (reports g past)) ≡ None → sure g past e ≡ true → sure g (entry ∷ past) e ≡ true
nothing_heard g past entry e none moved silent is =
    sure_kept g past entry e none moved (rw silent refl) (rw silent (and_right (is_taken entry.reply) false refl)) is

-- a report of another entity
other_heard : (g : Group) (past : List Entry) (entry : Entry) (r : Report) (e : Entity) → makes_version entry.event entry.reply ≡ false → target g (entry ∷ past) ≡ target g past → heard entry.event (nth (reports g past)) ≡ Some r → is_same_entity r.entity e ≡ false → sure g past e ≡ true → sure g (entry ∷ past) e ≡ true
other_heard g past entry r e none moved hears other is =
    sure_kept g past entry e none moved (rw (hears, other) refl) (rw (hears, other) (and_right (is_taken entry.reply) false refl)) is

-- a report that is not newer than the kept one
old_heard : (g : Group) (past : List Entry) (entry : Entry) (r : Report) → IsNext g past entry → makes_version entry.event entry.reply ≡ false → target g (entry ∷ past) ≡ target g past → heard entry.event (nth (reports g past)) ≡ Some r → nat_lt (observed g past r.entity).number r.number ≡ false → sure g past r.entity ≡ true → sure g (entry ∷ past) r.entity ≡ true
old_heard g past entry r next none moved hears older is =
    let untaken = hears_older g past entry r next hears older in
    sure_kept g past entry r.entity none moved (rw (hears, older, and_right (is_same_entity r.entity r.entity) false refl) refl) (rw untaken refl) is

-- what a newer report shows of a sure entity that did not fail in between
newer_view : (g : Group) (past : List Entry) (r : Report) → IsMade g past r → nat_lt (observed g past r.entity).number r.number ≡ true → failed_between past r.entity (observed g past r.entity).number r.number ≡ false → sure g past r.entity ≡ true → IsSureBy r.entity r (stamp g past r.entity) (vals_in g (target g past) r.entity)
newer_view g past r made newer none is =
    let kept = observed g past r.entity in
    let own = observed_own g past r.entity in
    let parts = sure_parts r.entity kept (stamp g past r.entity) (vals_in g (target g past) r.entity) is in
    let later = made_later g past kept r own.made made own.own (less_is kept.number r.number newer) in
    let behind = later.behind in
    let low = (made_is_true g past r made).behind in
    let small = fence_small g past r.entity in
    let fences : kept.fence ≡ r.fence = omega (arith, behind, low, small, parts.fence) in
    let view = later.shows parts.idle fences (ap (λ (x : Entity). failed_between past x kept.number r.number) own.own ∙ none) in
    record {
      idle = view.idle;
      fence = sym fences ∙ parts.fence;
      values = view.values ∙ parts.values;
      carries = rw (view.values, view.level) parts.carries;
    }

not_other : (p q v : Bool) → v ≡ true → (p && q && not v) ≡ false
not_other p q v is = rw is (and_right (p && q) false refl)

new_heard : (g : Group) (past : List Entry) (entry : Entry) (r : Report) → makes_version entry.event entry.reply ≡ false → target g (entry ∷ past) ≡ target g past → heard entry.event (nth (reports g past)) ≡ Some r → is_same_entity r.entity r.entity ≡ true → nat_lt (observed g past r.entity).number r.number ≡ true → IsSureBy r.entity r (stamp g past r.entity) (vals_in g (target g past) r.entity) → sure g (entry ∷ past) r.entity ≡ true
new_heard g past entry r none moved hears self newer view =
    let same : is_same_vals r.vals (vals_in g (target g past) r.entity) ≡ true = rw view.values (same_vals_self (vals_in g (target g past) r.entity)) in
    let unrenewed : renews (Some r) r.entity (stamp g past r.entity) (vals_in g (target g past) r.entity) ≡ false = not_other (is_same_entity r.entity r.entity && not r.busy) (r.fence == stamp g past r.entity) (is_same_vals r.vals (vals_in g (target g past) r.entity)) same in
    let stamps : stamp g (entry ∷ past) r.entity ≡ stamp g past r.entity = rw (overlay_none entry.event entry.reply (first_rows (pending past)) none, hears, unrenewed, and_right (is_taken entry.reply) false refl) refl in
    let now : observed g (entry ∷ past) r.entity ≡ r = rw (hears, self, newer) refl in
    rw (moved, now, stamps) (sure_made r.entity r (stamp g past r.entity) (vals_in g (target g past) r.entity) view)

-- a report of the entity, where it did not fail between the kept one and this one
own_heard : (g : Group) (past : List Entry) (entry : Entry) (r : Report) (b : Bool) → nat_lt (observed g past r.entity).number r.number ≡ b → IsNext g past entry → makes_version entry.event entry.reply ≡ false → target g (entry ∷ past) ≡ target g past → heard entry.event (nth (reports g past)) ≡ Some r → is_same_entity r.entity r.entity ≡ true → failed_between past r.entity (observed g past r.entity).number r.number ≡ false → sure g past r.entity ≡ true → sure g (entry ∷ past) r.entity ≡ true
own_heard g past entry r true newer next none moved hears self unfailed is = new_heard g past entry r none moved hears self newer (newer_view g past r (heard_made g past entry.event r hears) newer unfailed is)
own_heard g past entry r false older next none moved hears self unfailed is = old_heard g past entry r next none moved hears older is

some_heard : (g : Group) (past : List Entry) (entry : Entry) (r : Report) (e : Entity) (b : Bool) → is_same_entity r.entity e ≡ b → IsNext g past entry → makes_version entry.event entry.reply ≡ false → target g (entry ∷ past) ≡ target g past → heard entry.event (nth (reports g past)) ≡ Some r → failed_between past r.entity (observed g past r.entity).number r.number ≡ false → sure g past e ≡ true → sure g (entry ∷ past) e ≡ true
some_heard g past entry r e true same next none moved hears unfailed is =
    let own = same_entity r.entity e same in
    subst (λ (x : Entity). sure g (entry ∷ past) x ≡ true) own
    (own_heard g past entry r (nat_lt (observed g past r.entity).number r.number) refl next none moved hears (same_self r.entity) unfailed (subst (λ (x : Entity). sure g past x ≡ true) (sym own) is))
some_heard g past entry r e false other next none moved hears unfailed is = other_heard g past entry r e none moved hears other is

-- an entity other than the report's
not_own : (g : Group) (past : List Entry) (entry : Entry) (r : Report) (e : Entity) (b : Bool) → is_same_entity r.entity e ≡ b → makes_version entry.event entry.reply ≡ false → target g (entry ∷ past) ≡ target g past → heard entry.event (nth (reports g past)) ≡ Some r → (sure g past r.entity ≡ true → sure g (entry ∷ past) r.entity ≡ true) → sure g past e ≡ true → sure g (entry ∷ past) e ≡ true
not_own g past entry r e true same none moved hears own is =
    let it = same_entity r.entity e same in
    subst (λ (x : Entity). sure g (entry ∷ past) x ≡ true) it (own (subst (λ (x : Entity). sure g past x ≡ true) (sym it) is))
not_own g past entry r e false other none moved hears own is = other_heard g past entry r e none moved hears other is

-- a report that is heard after a failure is a loss that is named, where its entity leaves the sure set by it
after_failure : (g : Group) (past : List Entry) (entry : Entry) (r : Report) (newer was now : Bool) → nat_lt (observed g past r.entity).number r.number ≡ newer → sure g past r.entity ≡ was → sure g (entry ∷ past) r.entity ≡ now → IsNext g past entry → makes_version entry.event entry.reply ≡ false → target g (entry ∷ past) ≡ target g past → heard entry.event (nth (reports g past)) ≡ Some r → failed_between past r.entity (observed g past r.entity).number r.number ≡ true → IsWithin (sure g past) (sure g (entry ∷ past)) ⊎ NamesLoss g past entry
after_failure g past entry r true true false newer was left next none moved hears failed = inr (record { report = r; hears = hears; takes = hears_newer g past entry r next hears newer; was = was; left = left; failed = failed })
after_failure g past entry r newer was true _ _ stays next none moved hears failed = inl (λ e is. not_own g past entry r e (is_same_entity r.entity e) refl none moved hears (λ _. stays) is)
after_failure g past entry r newer false now _ unsure _ next none moved hears failed = inl (λ e is. not_own g past entry r e (is_same_entity r.entity e) refl none moved hears (λ sure. let no : false ≡ true = sym unsure ∙ sure in cc) is)
after_failure g past entry r false was now older _ _ next none moved hears failed = inl (λ e is. not_own g past entry r e (is_same_entity r.entity e) refl none moved hears (old_heard g past entry r next none moved hears older) is)

by_report : (g : Group) (past : List Entry) (entry : Entry) (r : Report) (b : Bool) → failed_between past r.entity (observed g past r.entity).number r.number ≡ b → IsNext g past entry → makes_version entry.event entry.reply ≡ false → target g (entry ∷ past) ≡ target g past → heard entry.event (nth (reports g past)) ≡ Some r → IsWithin (sure g past) (sure g (entry ∷ past)) ⊎ NamesLoss g past entry
by_report g past entry r true failed next none moved hears = after_failure g past entry r (nat_lt (observed g past r.entity).number r.number) (sure g past r.entity) (sure g (entry ∷ past) r.entity) refl refl refl next none moved hears failed
by_report g past entry r false unfailed next none moved hears = inl (λ e is. some_heard g past entry r e (is_same_entity r.entity e) refl next none moved hears unfailed is)

by_heard : (g : Group) (past : List Entry) (entry : Entry) (o : Option Report) → heard entry.event (nth (reports g past)) ≡ o → IsNext g past entry → makes_version entry.event entry.reply ≡ false → target g (entry ∷ past) ≡ target g past → IsWithin (sure g past) (sure g (entry ∷ past)) ⊎ NamesLoss g past entry
by_heard g past entry None silent next none moved = inl (λ e is. nothing_heard g past entry e none moved silent is)
by_heard g past entry (Some r) hears next none moved = by_report g past entry r (failed_between past r.entity (observed g past r.entity).number r.number) refl next none moved hears

-- an entry that accepts nothing leaves each sure entity so, or names a loss

same_or_moved : (g : Group) (past : List Entry) (entry : Entry) (b : Bool) → makes_version entry.event entry.reply ≡ b → IsNext g past entry → is_acceptance entry.event entry.reply ≡ false → IsWithin (sure g past) (sure g (entry ∷ past)) ⊎ NamesLoss g past entry
same_or_moved g past entry true moves next none = inl (withdrawal_within g past entry next moves none)
same_or_moved g past entry false is next none = by_heard g past entry (heard entry.event (nth (reports g past))) refl next is (target_same g past entry is)

pub stays_or_names : (g : Group) (past : List Entry) (entry : Entry) → IsLegal g past → IsNext g past entry → is_acceptance entry.event entry.reply ≡ false → IsWithin (sure g past) (sure g (entry ∷ past)) ⊎ NamesLoss g past entry
stays_or_names g past entry legal next none = same_or_moved g past entry (makes_version entry.event entry.reply) refl next none
