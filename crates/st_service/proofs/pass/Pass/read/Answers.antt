-- What a read leaves with a pass: its reader goes on, what it has seen and made stays, and the log has one line more.
use Rattle.std.proofs.Common.{ℕ, ◌≡◌, ◌<◌, ◌+◌, ◌∷◌, ◌++◌, [], length, map, get_or, set, sym, ap, subst, ◌∙◌, arith, Result, Ok, Err}
use Rattle.std.specs.Prelude.{OnOk}
use Rattle.std.proofs.lemmas.List.{length-map}
use mathlib.Core.List.{IsPrefix}
use Rattle.st_net.specs.Merge.{merge_of}
use Rattle.st_event.specs.Legal.{IsLegal}
use Rattle.st_event.specs.declared.act.LogEntry.{LogEntry}
use Rattle.st_event.specs.declared.act.LogSaw.TheVariants.{Seen}
use Rattle.st_board.specs.Published.{Published}
use Rattle.st_service.specs.declared.place.Place.{Place}
use Rattle.st_line.specs.Lines.{Reached}
use Rattle.st_service.specs.declared.line.Batch.{Batch}
use Rattle.st_service.specs.Kept.{Kept}
use Rattle.st_service.specs.Lines.{flat}
use Rattle.st_service.specs.Made.{past_in}
use Rattle.st_service.specs.Passes.{Holder, reader_at, no_reader}
use Rattle.st_event.proofs.Prefixes.{prefix_self}
use Rattle.st_service.proofs.HoldLaws.{look_grows}
use Rattle.st_service.proofs.HolderLaws.{holder, kept_set}
use Rattle.st_service.proofs.Mines.{kept_all, item_was, item_is}
use Rattle.st_service.proofs.PlaceItems.{items_set, units_set}
use Rattle.st_service.proofs.pass.Pass.read.Goals as goal

ok_kept : {A E : Type 0} (r : Result A E) (P Q : Type 0) → OnOk r P → (P → Q) → OnOk r Q
ok_kept (Ok x) P Q h f = f h
ok_kept (Err e) P Q h f = tt

pub returns-clause-entries : goal.returns-clause-entries
returns-clause-entries g c =
    let log = λ (q : Place g.row.J.Denot g.J.Naming). flat q.seen.log in
    let mine = λ (q : Place g.row.J.Denot g.J.Naming). q.mine.items in
    let places = c.self.inside.places.items in
    let fronts : map log places ≡ c.args.self.now.fronts = ap (λ (h : Holder). h.fronts) c.self.view_is in
    let mines : map mine places ≡ c.args.self.now.mines = ap (λ (h : Holder). h.mines) c.self.view_is in
    let at = c.index_mut.ensures.value in
    (kept_all log places c.args.group c.index_mut.result.now c.read-seen.new.self at (ap (λ (l : Reached Batch). flat l.log) c.read-seen.ensures.same.2) ∙ fronts, kept_all mine places c.args.group c.index_mut.result.now c.read-seen.new.self at (ap (λ v. v.items) c.read-seen.ensures.same.3) ∙ mines)

pub returns-clause-logged : goal.returns-clause-logged
returns-clause-logged g c =
    let reader = λ (q : Place g.row.J.Denot g.J.Naming). q.reader in
    let places = c.self.inside.places.items in
    let n = c.args.group in
    let old = c.index_mut.result.now in
    let new = c.read-seen.new.self in
    let at = c.index_mut.ensures.value in
    let log = λ (q : Place g.row.J.Denot g.J.Naming). flat q.seen.log in
    let fronts : map log places ≡ c.args.self.now.fronts = ap (λ (h : Holder). h.fronts) c.self.view_is in
    let there : n < length places = omega (arith, c.requires.room.0, ap length fronts, length-map places log) in
    let was : reader_at c.args.self.now.readers n ≡ old.reader = ap (λ (h : Holder). reader_at h.readers n) (sym c.self.view_is) ∙ item_was reader places n old no_reader there at in
    let now : Published = get_or (map reader (set places n new)) n no_reader in
    let is : now ≡ new.reader = item_is reader places n new no_reader there in
    let here : old.group ≡ n = ap (λ (q : Place g.row.J.Denot g.J.Naming). q.group) at ∙ (c.self.invariant.0 n old there).0 in
    let version : c.read-seen.result.version ≡ length now.proposals = c.read-seen.ensures.version ∙ ap (λ (p : Published). length p.proposals) (sym is) in
    let value : c.read-seen.result.value ≡ merge_of (g.J.Naming.group n) now.proposals c.args.entity c.args.var =
    c.read-seen.ensures.value ∙ (ap (λ (k : ℕ). merge_of (g.J.Naming.group k) new.reader.proposals c.args.entity c.args.var) here ∙ ap (λ (p : Published). merge_of (g.J.Naming.group n) p.proposals c.args.entity c.args.var) (sym is)) in
    let line : ℕ → ℕ → LogEntry = λ v w. record { group = n; entity = c.args.entity; var = c.args.var; saw = Seen v w } in
    let old_log = c.args.self.now.log in
    ok_kept c.add.result _ _ c.add.ensures.ok (λ added.
    let log_is : c.add.new.self ≡ c.self.inside.log ++ line c.read-seen.result.version c.read-seen.result.value ∷ [] = added in
    record {
      later = subst (λ (p : Published). IsPrefix p.proposals now.proposals) (sym was) (subst (λ (p : Published). IsPrefix old.reader.proposals p.proposals) (sym is) c.read-seen.ensures.later);
      log = log_is ∙ (ap (λ (h : Holder). h.log ++ line c.read-seen.result.version c.read-seen.result.value ∷ []) c.self.view_is
          ∙ (ap (λ (v : ℕ). old_log ++ line v c.read-seen.result.value ∷ []) version ∙ ap (λ (w : ℕ). old_log ++ line (length now.proposals) w ∷ []) value));
    })

pub returns-clause-kept : goal.returns-clause-kept
returns-clause-kept g c =
    let log = λ (q : Place g.row.J.Denot g.J.Naming). flat q.seen.log in
    let mine = λ (q : Place g.row.J.Denot g.J.Naming). q.mine.items in
    let reader = λ (q : Place g.row.J.Denot g.J.Naming). q.reader in
    let places = c.self.inside.places.items in
    let n = c.args.group in
    let old = c.index_mut.result.now in
    let new = c.read-seen.new.self in
    let same = c.read-seen.ensures.same in
    let fronts : map log places ≡ c.args.self.now.fronts = ap (λ (h : Holder). h.fronts) c.self.view_is in
    let there : n < length places = omega (arith, c.requires.room.0, ap length fronts, length-map places log) in
    let seen : IsPrefix (flat old.seen.log) (flat new.seen.log) = subst (λ (l : Reached Batch). IsPrefix (flat old.seen.log) (flat l.log)) (sym same.2) (prefix_self (flat old.seen.log)) in
    let grows = look_grows 0 (flat old.seen.log) (flat new.seen.log) old.mine.items new.mine.items seen (ap (λ v. v.items) same.3) in
    subst (λ (h : Holder). Kept h (holder log mine reader c.self.inside.number (set places n new) c.add.new.self) n 0) c.self.view_is
    (kept_set log mine reader c.self.inside.number c.self.inside.log c.add.new.self places n 0 old new there c.index_mut.ensures.value grows c.read-seen.ensures.later)

pub invariant_of-self : goal.invariant_of-self
invariant_of-self g c =
    let log = λ (q : Place g.row.J.Denot g.J.Naming). flat q.seen.log in
    let units = λ (q : Place g.row.J.Denot g.J.Naming). length q.mine.items in
    let good = λ (k : ℕ) (q : Place g.row.J.Denot g.J.Naming). (q.group ≡ k) × (q.number ≡ c.self.inside.number) × IsLegal (g.J.Naming.group k) (past_in (flat q.seen.log)) in
    let places = c.self.inside.places.items in
    let n = c.args.group in
    let old = c.index_mut.result.now in
    let new = c.read-seen.new.self in
    let at = c.index_mut.ensures.value in
    let inv = c.self.invariant in
    let fronts : map log places ≡ c.args.self.now.fronts = ap (λ (h : Holder). h.fronts) c.self.view_is in
    let there : n < length places = omega (arith, c.requires.room.0, ap length fronts, length-map places log) in
    let was : good n old = subst (good n) (sym at) (inv.0 n old there) in
    let same = c.read-seen.ensures.same in
    let legal : IsLegal (g.J.Naming.group n) (past_in (flat new.seen.log)) = subst (λ (l : Reached Batch). IsLegal (g.J.Naming.group n) (past_in (flat l.log))) (sym same.2) was.2 in
    let here : good n new = (same.0 ∙ was.0, same.1 ∙ was.1, legal) in
    let before = c.self.inside.share.amount in
    (items_set good places n new there inv.0 here, inv.1, units_set units places n old new before before there at inv.2 (ap (λ v. before + length v.items) (sym same.3)))
