-- What a look leaves with a pass: the pass's place of the room goes on, and the pass is taught what the room overlays.
use Rattle.std.proofs.Common.{ℕ, ◌≡◌, ◌<◌, ◌+◌, length, map, set, sym, ap, subst, ◌∙◌, arith}
use Rattle.std.proofs.lemmas.List.{length-map}
use Rattle.st_event.specs.Legal.{IsLegal}
use Rattle.st_service.specs.declared.place.Place.{Place}
use Rattle.st_service.specs.Kept.{Kept}
use Rattle.st_service.specs.Lines.{flat}
use Rattle.st_service.specs.Made.{past_in}
use Rattle.st_service.specs.Passes.{Holder, no_reader}
use Rattle.st_service.proofs.HoldLaws.{look_grows}
use Rattle.st_service.proofs.HolderLaws.{holder, kept_set}
use Rattle.st_service.proofs.Mines.{wrote_at, item_is}
use Rattle.st_service.proofs.PlaceItems.{items_set, units_set}
use Rattle.st_service.proofs.pass.Pass.look_in.Goals as goal

pub returns-clause-kept : goal.returns-clause-kept
returns-clause-kept g c =
    let log = λ (q : Place g.row.J.Denot g.J.Naming). flat q.seen.log in
    let mine = λ (q : Place g.row.J.Denot g.J.Naming). q.mine.items in
    let reader = λ (q : Place g.row.J.Denot g.J.Naming). q.reader in
    let places = c.self.inside.places.items in
    let n = c.args.room.now.group in
    let old = c.index_mut.result.now in
    let new = c.look.new.place in
    let fronts : map log places ≡ c.args.self.now.fronts = ap (λ (h : Holder). h.fronts) c.self.view_is in
    let there : n < length places = omega (arith, c.requires.room, ap length fronts, length-map places log) in
    let grows = look_grows 0 (flat old.seen.log) (flat new.seen.log) old.mine.items new.mine.items c.look.ensures.seen (ap (λ v. v.items) c.look.ensures.place.2) in
    subst (λ (h : Holder). Kept h (holder log mine reader c.self.inside.number (set places n new) c.self.inside.log) n 0) c.self.view_is
    (kept_set log mine reader c.self.inside.number c.self.inside.log c.self.inside.log places n 0 old new there c.index_mut.ensures.value grows c.look.ensures.reader)

pub returns-clause-reads : goal.returns-clause-reads
returns-clause-reads g c =
    let log = λ (q : Place g.row.J.Denot g.J.Naming). flat q.seen.log in
    let reader = λ (q : Place g.row.J.Denot g.J.Naming). q.reader in
    let places = c.self.inside.places.items in
    let n = c.args.room.now.group in
    let new = c.look.new.place in
    let fronts : map log places ≡ c.args.self.now.fronts = ap (λ (h : Holder). h.fronts) c.self.view_is in
    let there : n < length places = omega (arith, c.requires.room, ap length fronts, length-map places log) in
    rw (wrote_at log places n new there, item_is reader places n new no_reader there) c.look.ensures.reads

pub invariant_of-self : goal.invariant_of-self
invariant_of-self g c =
    let log = λ (q : Place g.row.J.Denot g.J.Naming). flat q.seen.log in
    let units = λ (q : Place g.row.J.Denot g.J.Naming). length q.mine.items in
    let good = λ (k : ℕ) (q : Place g.row.J.Denot g.J.Naming). (q.group ≡ k) × (q.number ≡ c.self.inside.number) × IsLegal (g.J.Naming.group k) (past_in (flat q.seen.log)) in
    let places = c.self.inside.places.items in
    let n = c.args.room.now.group in
    let old = c.index_mut.result.now in
    let new = c.look.new.place in
    let at = c.index_mut.ensures.value in
    let inv = c.self.invariant in
    let fronts : map log places ≡ c.args.self.now.fronts = ap (λ (h : Holder). h.fronts) c.self.view_is in
    let there : n < length places = omega (arith, c.requires.room, ap length fronts, length-map places log) in
    let was : good n old = subst (good n) (sym at) (inv.0 n old there) in
    let same = c.look.ensures.place in
    let here : good n new = (same.0 ∙ was.0, same.1 ∙ was.1, c.look.ensures.legal was.2) in
    let before = c.self.inside.share.amount in
    (items_set good places n new there inv.0 here, inv.1, units_set units places n old new before before there at inv.2 (ap (λ v. before + length v.items) (sym same.2)))

pub returns-clause-journal : goal.returns-clause-journal
returns-clause-journal g c =
    let log = λ (q : Place g.row.J.Denot g.J.Naming). flat q.seen.log in
    let places = c.self.inside.places.items in
    let n = c.args.room.now.group in
    let fronts : map log places ≡ c.args.self.now.fronts = ap (λ (h : Holder). h.fronts) c.self.view_is in
    let there : n < length places = omega (arith, c.requires.room, ap length fronts, length-map places log) in
    rw (wrote_at log places n c.look.new.place there) c.look.ensures.journal
