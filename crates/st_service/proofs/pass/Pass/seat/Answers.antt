-- A place more: it has its number, and has seen and made nothing. Where there was no memory for it the places are the same.
use Rattle.std.proofs.Common.{ℕ, ◌≡◌, ◌<◌, List, length, map, get_or, sum_by, sym, ap, subst, ◌∙◌}
use Rattle.std.proofs.lemmas.List.{length-map}
use Rattle.st_event.specs.Legal.{IsLegal}
use Rattle.st_service.specs.declared.line.Batch.{Batch}
use Rattle.st_service.specs.declared.place.Place.{Place}
use Rattle.st_service.specs.Lines.{flat}
use Rattle.st_service.specs.Made.{past_in}
use Rattle.st_service.specs.Passes.{Holder}
use Rattle.st_service.proofs.Mines.{items_more}
use Rattle.st_service.proofs.PlaceItems.{units_more}
use Rattle.st_service.proofs.pass.Pass.seat.Goals as goal

pub invariant_of-self : goal.invariant_of-self
invariant_of-self g c =
    let units = λ (q : Place g.row.J.Denot g.J.Naming). length q.mine.items in
    let good = λ (k : ℕ) (q : Place g.row.J.Denot g.J.Naming). (q.group ≡ k) × (q.number ≡ c.self.inside.number) × IsLegal (g.J.Naming.group k) (past_in (flat q.seen.log)) in
    let stands = λ (l : List (Place g.row.J.Denot g.J.Naming)). ((k : ℕ) (d : Place g.row.J.Denot g.J.Naming) → k < length l → good k (get_or l k d)) × (c.self.inside.share.parts ≡ 1) × (c.self.inside.share.amount ≡ sum_by units l) in
    subst stands (sym c.in_err-push.ensures.items) c.self.invariant

pub invariant_of-self-2 : goal.invariant_of-self-2
invariant_of-self-2 g c =
    let log = λ (q : Place g.row.J.Denot g.J.Naming). flat q.seen.log in
    let units = λ (q : Place g.row.J.Denot g.J.Naming). length q.mine.items in
    let good = λ (k : ℕ) (q : Place g.row.J.Denot g.J.Naming). (q.group ≡ k) × (q.number ≡ c.self.inside.number) × IsLegal (g.J.Naming.group k) (past_in (flat q.seen.log)) in
    let stands = λ (l : List (Place g.row.J.Denot g.J.Naming)). ((k : ℕ) (d : Place g.row.J.Denot g.J.Naming) → k < length l → good k (get_or l k d)) × (c.self.inside.share.parts ≡ 1) × (c.self.inside.share.amount ≡ sum_by units l) in
    let places = c.self.inside.places.items in
    let place = c.args.place in
    let inv = c.self.invariant in
    let fronts : map log places ≡ c.args.self.now.fronts = ap (λ (h : Holder). h.fronts) c.self.view_is in
    let next : place.group ≡ length places = c.requires.next.0 ∙ (sym (ap length fronts) ∙ length-map places log) in
    let number : place.number ≡ c.self.inside.number = c.requires.next.1 ∙ sym (ap (λ (h : Holder). h.number) c.self.view_is) in
    let legal : IsLegal (g.J.Naming.group (length places)) (past_in (flat place.seen.log)) = subst (λ (l : List Batch). IsLegal (g.J.Naming.group (length places)) (past_in (flat l))) (sym c.requires.opens.0) tt in
    subst stands (sym c.in_ok-push.ensures.items) (items_more good places place inv.0 (next, number, legal), inv.1, units_more units places place c.self.inside.share.amount (ap length c.requires.opens.1) inv.2)
