-- What hearing a report comes to, over what a checker keeps.
use Rattle.std.proofs.Common.{◌≡◌, ℕ, List, get_or, set, refl, sym, ◌∙◌, ap}
use Rattle.std.specs.Prelude.{Bool, true, false, not, ◌&&◌, ◌==◌, nat_lt, Some, if◌then◌else◌}
use Rattle.st_net.specs.declared.entity.Entity.{Entity}
use Rattle.st_net.specs.declared.message.Report.{Report}
use Rattle.st_net.specs.declared.entity.Vals.{Vals}
use Rattle.st_net.specs.Entities.{is_same_vals}
use Rattle.st_net.specs.Groups.{Group, IsEntityOf}
use Rattle.st_net.specs.Merge.{vals_in}
use Rattle.st_net.specs.InOrder.{place_in, report_in, stamp_in}
use Rattle.st_event.specs.Moments.{is_taken}
use Rattle.st_event.specs.Replies.{hear_reply}
use Rattle.st_event.specs.Standing.{stamp_renewed}
use Rattle.st_overlay.specs.Values.{value_in, vals_at}
use Rattle.st_store.specs.declared.reports.Keep.{Keep}
use Rattle.st_store.specs.declared.reports.Keep.TheVariants.{Taken, Old}
use Rattle.st_store.specs.Changes.{value_at}
use Rattle.st_store.specs.Reports.{keep_answer}
use Rattle.st_store.specs.Store.{StoreView, IsStoreOf, Keeps}
use Rattle.st_control.specs.Control.{ControlView, reply_of_keep, Hears}
use Rattle.st_control.specs.Inside.{IsConsistent}
use Rattle.st_control.proofs.StampLaws.{stamp_at, is_other_at, renewed_is, unrenewed_is}

reply_by : (later : Bool) (kept made : ℕ) → reply_of_keep (if later then Taken else Old kept) ≡ (if later then reply_of_keep Taken else reply_of_keep (Old kept))
reply_by true kept made = refl
reply_by false kept made = refl

-- the answer of the store is the reply that is called for
heard_as : (observed : Entity → Report) (r : Report) (keep : Keep) (made : ℕ) → keep ≡ keep_answer (observed r.entity) r → reply_of_keep keep ≡ hear_reply observed made (Some r)
heard_as observed r keep made is = ap reply_of_keep is ∙ reply_by (nat_lt (observed r.entity).number r.number) (observed r.entity).number made

-- whether a report shows other values than the target's, by what stands in the place of its entity
pub shows_as : {shared : Group} (k : ControlView) (r : Report) (place stamp : ℕ) (vals : Vals) (shown : Bool) → IsConsistent k shared → IsEntityOf k.group r.entity → place ≡ place_in k.group r.entity → stamp ≡ get_or k.stamps place stamp → vals ≡ vals_at k.store.target r.entity → shown ≡ (not r.busy && r.fence == stamp && not (is_same_vals r.vals vals)) → shown ≡ is_other_at k.group (value_in k.store.target) r (stamp_in k.group k.stamps) r.entity
shows_as k r place stamp vals shown consistent here is read target shows =
    let stamp_is : stamp ≡ stamp_in k.group k.stamps r.entity = read ∙ stamp_at k.group k.stamps r.entity place stamp is here consistent.stamp_count in
    let vals_are : vals ≡ vals_in k.group (value_in k.store.target) r.entity = target ∙ sym (consistent.store_of.table.values r.entity) in
    rw (← stamp_is, ← vals_are) shows

-- the stamps once a report is heard: where it is taken and renews its entity
abbrev pub stamps_heard : ControlView → ℕ → Report → Keep → Entity → ℕ
stamps_heard k n r keep = if is_taken (reply_of_keep keep) then stamp_renewed k.group (value_in k.store.target) (Some r) n (stamp_in k.group k.stamps) else stamp_in k.group k.stamps

pub stamps_renewed : {shared : Group} (k : ControlView) (n place : ℕ) (r : Report) (keep : Keep) → IsConsistent k shared → IsEntityOf k.group r.entity → place ≡ place_in k.group r.entity → keep ≡ Taken → is_other_at k.group (value_in k.store.target) r (stamp_in k.group k.stamps) r.entity ≡ true → stamp_in k.group (set k.stamps place n) ≡ stamps_heard k n r keep
stamps_renewed k n place r keep consistent here is taken other = rw (is, taken) (renewed_is k.group (value_in k.store.target) r n k.stamps here consistent.stamp_count other)

-- where it is taken and does not
pub stamps_left : (k : ControlView) (n : ℕ) (r : Report) (keep : Keep) → keep ≡ Taken → is_other_at k.group (value_in k.store.target) r (stamp_in k.group k.stamps) r.entity ≡ false → stamp_in k.group k.stamps ≡ stamps_heard k n r keep
stamps_left k n r keep taken none = rw taken (unrenewed_is k.group (value_in k.store.target) r n k.stamps none)

-- and where it is old
pub stamps_kept : (k : ControlView) (n : ℕ) (r : Report) (keep : Keep) → is_taken (reply_of_keep keep) ≡ false → stamp_in k.group k.stamps ≡ stamps_heard k n r keep
stamps_kept k n r keep old = rw old refl

-- a report that the store keeps, or drops, is heard, where the stamps are as they are then called for
pub hears : {shared : Group} (k : ControlView) (new : StoreView) (stamps : List ℕ) (n : ℕ) (r : Report) (keep : Keep) → IsConsistent k shared → ((g : Group) → IsStoreOf g k.store → Keeps g k.store new r keep) → new ≡ record k.store { observed = new.observed } → stamp_in k.group stamps ≡ stamps_heard k n r keep → Hears k (record k { store = new; stamps = stamps }) n r keep
hears k new stamps n r keep consistent keeps rest stamped =
    let kept = keeps k.group consistent.store_of in
    record {
      reply = λ made. heard_as (report_in k.group k.store.observed) r keep made kept.answer;
      standing = rw (ap (λ (s : StoreView). s.tickets) rest, ap (λ (s : StoreView). s.decided) rest, ap (λ (s : StoreView). s.pending) rest, ap (λ (s : StoreView). s.version) rest, ap (λ (s : StoreView). s.target) rest, kept.observed, stamped) refl;
      group = refl;
      versions = ap (λ (s : StoreView). value_at s.versions) rest;
    }
