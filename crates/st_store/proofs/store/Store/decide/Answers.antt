use Rattle.std.proofs.Common.{ℕ, ◌<◌, List, [], ◌∷◌, ◌++◌, subst, sym, refl, ap, ◌∙◌}
use Rattle.std.specs.Prelude.{All, length}
use Rattle.st_overlay.specs.Values.{IsRowIn}
use Rattle.st_store.specs.declared.pending.Pending.{Pending}
use Rattle.st_store.specs.Store.{StoreView}
use Rattle.st_store.specs.Inside.{store_of}
use Rattle.st_store.proofs.QueueLaws.{oldest_fits, IsConsistent-decided}
use Rattle.st_store.proofs.store.Store.decide.Goals as goal

pub merge_if-requires-clause-rows : goal.merge_if-requires-clause-rows
merge_if-requires-clause-rows c =
    let some = subst (λ (s : StoreView). 0 < length s.pending) (sym c.self.view_is) c.requires.waits in
    rw c.as_slice-rows.ensures
    (subst (λ (p : Pending). All (IsRowIn c.self.inside.versions.target) p.rows) (sym c.index.ensures)
    (oldest_fits c.self.inside.versions.target c.self.inside.queue.items c.index.result.now some c.self.invariant.fits))

pub invariant_of-self-2 : goal.invariant_of-self-2
invariant_of-self-2 c =
    let some = subst (λ (s : StoreView). 0 < length s.pending) (sym c.self.view_is) c.requires.waits in
    IsConsistent-decided c.self.inside.queue.items c.pop_front-decided.new.self.items (store_of c.self.inside) c.push_reserved.new.self.items c.args.entry c.args.accept c.self.inside.versions c.merge_if.new.self c.as_slice-rows.result.now c.self.invariant refl some c.pop_front-decided.ensures.rest (c.push_reserved.ensures.items ∙ ap (λ (entries : List ℕ). entries ++ c.args.entry ∷ []) c.reserve.ensures.items) refl c.in_ok-merge_if.ensures.ok
