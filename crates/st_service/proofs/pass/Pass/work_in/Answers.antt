-- What a hold leaves with a pass: the pass's place of the room goes on, its units are those of its entries, and the pass is taught what the room overlays.
use Rattle.std.proofs.Common.{ℕ, ◌≡◌, ◌<◌, length, List, [], map, get_or, set, sym, ap, subst, ◌∙◌, arith}
use Rattle.std.proofs.lemmas.List.{length-map}
use Rattle.st_event.specs.Legal.{IsLegal}
use Rattle.st_service.specs.declared.place.Place.{Place}
use Rattle.st_service.specs.Kept.{Kept}
use Rattle.st_service.specs.Lines.{flat}
use Rattle.st_service.specs.Made.{Made, past_in}
use Rattle.st_service.specs.Passes.{Holder, front_at, mine_at, no_reader}
use Rattle.st_service.specs.Shares.{work_share}
use Rattle.st_service.specs.Works.{MayDo}
use Rattle.st_service.proofs.HolderLaws.{holder, kept_set}
use Rattle.st_service.proofs.Mines.{read_at, wrote_at, item_is}
use Rattle.st_service.proofs.PlaceItems.{items_set, units_set}
use Rattle.st_service.proofs.pass.Pass.work_in.Goals as goal

pub returns-clause-kept : goal.returns-clause-kept
returns-clause-kept g c =
    let log = λ (q : Place g.row.J.Denot g.J.Naming). flat q.seen.log in
    let mine = λ (q : Place g.row.J.Denot g.J.Naming). q.mine.items in
    let reader = λ (q : Place g.row.J.Denot g.J.Naming). q.reader in
    let places = c.self.inside.places.items in
    let n = c.args.room.now.group in
    let most = work_share c.args.work (g.J.Naming.group n) (g.J.Naming.lines n) in
    let fronts : map log places ≡ c.args.self.now.fronts = ap (λ (h : Holder). h.fronts) c.self.view_is in
    let there : n < length places = omega (arith, c.requires.room, ap length fronts, length-map places log) in
    subst (λ (h : Holder). Kept h (holder log mine reader c.self.inside.number (set places n c.work.new.place) c.self.inside.log) n most) c.self.view_is
    (kept_set log mine reader c.self.inside.number c.self.inside.log c.self.inside.log places n most c.index_mut.result.now c.work.new.place there c.index_mut.ensures.value c.work.ensures.grows c.work.ensures.reader)

pub returns-clause-entered : goal.returns-clause-entered
returns-clause-entered g c =
    let log = λ (q : Place g.row.J.Denot g.J.Naming). flat q.seen.log in
    let mine = λ (q : Place g.row.J.Denot g.J.Naming). q.mine.items in
    let places = c.self.inside.places.items in
    let n = c.args.room.now.group in
    let old = c.index_mut.result.now in
    let fronts : map log places ≡ c.args.self.now.fronts = ap (λ (h : Holder). h.fronts) c.self.view_is in
    let mines : map mine places ≡ c.args.self.now.mines = ap (λ (h : Holder). h.mines) c.self.view_is in
    let there : n < length places = omega (arith, c.requires.room, ap length fronts, length-map places log) in
    let number : c.args.self.now.number ≡ old.number = sym (ap (λ (q : Place g.row.J.Denot g.J.Naming). q.number) c.index_mut.ensures.value ∙ ((c.self.invariant.0 n old there).1 ∙ ap (λ (h : Holder). h.number) c.self.view_is)) in
    let front : front_at c.args.self.now.fronts n ≡ flat old.seen.log = ap (λ (l : List (List Made)). get_or l n []) (sym fronts) ∙ read_at log places n old there c.index_mut.ensures.value in
    let numbers : mine_at c.args.self.now.mines n ≡ old.mine.items = ap (λ (l : List (List ℕ)). get_or l n []) (sym mines) ∙ read_at mine places n old there c.index_mut.ensures.value in
    rw (number, front, numbers, wrote_at log places n c.work.new.place there, wrote_at mine places n c.work.new.place there) c.work.ensures.entered

pub returns-clause-reads : goal.returns-clause-reads
returns-clause-reads g c =
    let log = λ (q : Place g.row.J.Denot g.J.Naming). flat q.seen.log in
    let reader = λ (q : Place g.row.J.Denot g.J.Naming). q.reader in
    let places = c.self.inside.places.items in
    let n = c.args.room.now.group in
    let new = c.work.new.place in
    let fronts : map log places ≡ c.args.self.now.fronts = ap (λ (h : Holder). h.fronts) c.self.view_is in
    let there : n < length places = omega (arith, c.requires.room, ap length fronts, length-map places log) in
    rw (wrote_at log places n new there, item_is reader places n new no_reader there) c.work.ensures.reads

pub invariant_of-self : goal.invariant_of-self
invariant_of-self g c =
    let log = λ (q : Place g.row.J.Denot g.J.Naming). flat q.seen.log in
    let units = λ (q : Place g.row.J.Denot g.J.Naming). length q.mine.items in
    let good = λ (k : ℕ) (q : Place g.row.J.Denot g.J.Naming). (q.group ≡ k) × (q.number ≡ c.self.inside.number) × IsLegal (g.J.Naming.group k) (past_in (flat q.seen.log)) in
    let places = c.self.inside.places.items in
    let n = c.args.room.now.group in
    let old = c.index_mut.result.now in
    let new = c.work.new.place in
    let at = c.index_mut.ensures.value in
    let inv = c.self.invariant in
    let fronts : map log places ≡ c.args.self.now.fronts = ap (λ (h : Holder). h.fronts) c.self.view_is in
    let there : n < length places = omega (arith, c.requires.room, ap length fronts, length-map places log) in
    let was : good n old = subst (good n) (sym at) (inv.0 n old there) in
    let same = c.work.ensures.place in
    let here : good n new = (same.0 ∙ was.0, same.1 ∙ was.1, c.work.ensures.legal was.2) in
    let before = c.self.inside.share.amount in
    (items_set good places n new there inv.0 here, c.work.ensures.share.0 ∙ inv.1, units_set units places n old new before c.work.new.share.amount there at inv.2 c.work.ensures.share.1)

pub returns-clause-journal : goal.returns-clause-journal
returns-clause-journal g c =
    let log = λ (q : Place g.row.J.Denot g.J.Naming). flat q.seen.log in
    let places = c.self.inside.places.items in
    let n = c.args.room.now.group in
    let fronts : map log places ≡ c.args.self.now.fronts = ap (λ (h : Holder). h.fronts) c.self.view_is in
    let there : n < length places = omega (arith, c.requires.room, ap length fronts, length-map places log) in
    rw (wrote_at log places n c.work.new.place there) c.work.ensures.journal

pub work-requires-clause-may : goal.work-requires-clause-may
work-requires-clause-may g c =
    let log = λ (q : Place g.row.J.Denot g.J.Naming). flat q.seen.log in
    let places = c.self.inside.places.items in
    let n = c.args.room.now.group in
    let old = c.index_mut.result.now in
    let fronts : map log places ≡ c.args.self.now.fronts = ap (λ (h : Holder). h.fronts) c.self.view_is in
    let there : n < length places = omega (arith, c.requires.room, ap length fronts, length-map places log) in
    let front : front_at c.args.self.now.fronts n ≡ flat old.seen.log = ap (λ (l : List (List Made)). get_or l n []) (sym fronts) ∙ read_at log places n old there c.index_mut.ensures.value in
    subst (λ (f : List Made). MayDo c.args.work (past_in f)) front c.requires.may
