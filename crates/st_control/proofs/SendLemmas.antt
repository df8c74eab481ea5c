-- What an entity is to be sent, over what a checker keeps.
use Rattle.std.proofs.Common.{◌≡◌, ℕ, List, length, get_or, refl, sym, ◌∙◌, ap, subst}
use Rattle.std.specs.Prelude.{false, None}
use Rattle.st_net.specs.declared.entity.Entity.{Entity}
use Rattle.st_net.specs.declared.entity.Vals.{Vals}
use Rattle.st_net.specs.declared.entity.Row.{Row}
use Rattle.st_net.specs.Entities.{value_of}
use Rattle.st_net.specs.declared.message.Report.{Report}
use Rattle.st_net.specs.Groups.{Group, IsEntityOf}
use Rattle.st_net.specs.Merge.{vals_in}
use Rattle.st_net.specs.Reports.{opening_report, is_settled_by}
use Rattle.st_net.specs.InOrder.{entity_count, place_in, report_in, stamp_in}
use Rattle.st_net.proofs.InOrder.{item_in_at}
use Rattle.st_event.specs.Judge.{lack_at}
use Rattle.st_event.specs.Replies.{governing, row_to}
use Rattle.st_event.specs.Standing.{settled_in}
use Rattle.st_overlay.specs.Values.{IsTableOf, vals_at, value_in}
use Rattle.st_control.specs.declared.send.SendStep.TheVariants.{Command}
use Rattle.st_control.specs.Control.{ControlView, standing_in, Sends}

-- the kept report of an entity stands in its place
pub seen_at : (g : Group) (observed : List Report) (e : Entity) (place : ℕ) (d : Report) → place ≡ place_in g e → IsEntityOf g e → length observed ≡ entity_count g → get_or observed place d ≡ report_in g observed e
seen_at g observed e place d is here count = ap (λ (i : ℕ). get_or observed i d) is ∙ sym (item_in_at g observed (opening_report g) e d here count)

-- an entity that is not settled by this, and of which this row lacks nothing, is sent a command
pub sends_command : (k : ControlView) (e : Entity) (r : Report) (stamp : ℕ) (vals : Vals) (row : Row) → r ≡ report_in k.group k.store.observed e → stamp ≡ stamp_in k.group k.stamps e → vals ≡ vals_at k.store.target e → IsTableOf k.group k.store.target → is_settled_by r stamp vals ≡ false → row ≡ row_to e (governing e r.vals (value_of e vals)) (value_of e vals) → lack_at k.group (report_in k.group k.store.observed) (value_in k.store.target) row.entity row.var ≡ None → Sends k e (Command (record { entity = e; stamp = stamp; vals = vals }))
sends_command k e r stamp vals row seen stamp_is vals_are table unsettled governs free =
    let target_is : vals ≡ vals_in k.group (value_in k.store.target) e = vals_are ∙ sym (table.values e) in
    let open_yet : settled_in k.group (standing_in k) e ≡ false = rw (← seen, ← stamp_is, ← target_is) unsettled in
    let none : lack_at k.group (report_in k.group k.store.observed) (value_in k.store.target) e (governing e (report_in k.group k.store.observed e).vals (value_in k.store.target e)) ≡ None =
    rw (← seen, ← vals_are) (subst (λ (x : Row). lack_at k.group (report_in k.group k.store.observed) (value_in k.store.target) x.entity x.var ≡ None) governs free) in
    record {
      reply = λ w n. rw (open_yet, none) refl;
      command = λ command made. rw (← stamp_is, ← target_is) cc;
    }
