use Rattle.std.proofs.Common.{◌≡◌, ◌∙◌, Bool, ap, sym, subst}
use Rattle.std.specs.Prelude.{◌&&◌, not}
use Rattle.st_net.specs.declared.entity.Entity.{Entity}
use Rattle.st_net.specs.Groups.{Group}
use Rattle.st_net.specs.Sets.{Marks, MarksOf, HasSameMarks, is_in}
use Rattle.st_net.proofs.SetLaws.{marks_kept}
use Rattle.st_event.specs.Observed.{sure, sure_after}
use Rattle.st_event.specs.Standing.{sure_in}
use Rattle.st_control.specs.Control.{standing_in}
use Rattle.st_player.proofs.weighing.weigh.Goals as goal

-- the marks of two sets of one group are as many
same_marks : (g : Group) (a b : Marks) → MarksOf g a → MarksOf g b → HasSameMarks a b
same_marks g a b first second = record { devices = second.devices ∙ sym first.devices; links = second.links ∙ sym first.links }

pub remove_all-requires : goal.remove_all-requires
remove_all-requires c =
    let g = c.args.world.now.history.group in
    let sure_of : MarksOf g c.in_ok-sure.sure = subst (λ (h : Group). MarksOf h c.in_ok-sure.sure) c.control.ensures.group c.in_ok-sure.ensures.of in
    same_marks g c.in_ok-after.after c.in_ok-changed.changed (subst (λ (m : Marks). MarksOf g m) (sym c.in_ok-after.ensures) sure_of) c.in_ok-changed.ensures.of

pub returns : goal.returns
returns c =
    let rows = c.args.rows.now in
    let g = c.args.world.now.history.group in
    let past = c.args.world.now.history.past in
    let k = c.control.result.now in
    let sure_of : MarksOf g c.in_ok-sure.sure = subst (λ (h : Group). MarksOf h c.in_ok-sure.sure) c.control.ensures.group c.in_ok-sure.ensures.of in
    let sure_set : is_in c.in_ok-sure.sure ≡ sure g past =
    c.in_ok-sure.ensures.sure ∙ (ap (λ (h : Group). sure_in h (standing_in k)) c.control.ensures.group ∙ ap (sure_in g) c.control.ensures.standing) in
    let after : is_in c.remove_all.new.self ≡ sure_after g past rows =
    c.remove_all.ensures.members
    ∙ (ap (λ (s : Marks). λ (e : Entity). is_in s e && not (is_in c.in_ok-changed.changed e)) c.in_ok-after.ensures
    ∙ (ap (λ (s : Entity → Bool). λ (e : Entity). s e && not (is_in c.in_ok-changed.changed e)) sure_set
    ∙ ap (λ (t : Entity → Bool). λ (e : Entity). sure g past e && not (t e)) c.in_ok-changed.ensures.altered)) in
    record {
      changed_of = c.in_ok-changed.ensures.of;
      sure_of = sure_of;
      after_of = marks_kept g c.in_ok-after.after c.remove_all.new.self (subst (λ (m : Marks). MarksOf g m) (sym c.in_ok-after.ensures) sure_of) c.remove_all.ensures.same;
      changed_is = c.in_ok-changed.ensures.altered;
      sure_is = sure_set;
      after_is = after;
    }
