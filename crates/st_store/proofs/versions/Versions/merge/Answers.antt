use Rattle.std.proofs.Common.{◌+◌, subst, sym, ap, ◌∙◌}
use Rattle.std.specs.Prelude.{All, true}
use Rattle.st_overlay.specs.Values.{IsRowIn}
use Rattle.st_store.specs.Changes.{ChangeLists, entered}
use Rattle.st_store.specs.Rooms.{lists_of}
use Rattle.st_store.specs.Versions.{VersionsView, MergesIf}
use Rattle.st_store.proofs.VersionLaws.{merges, IsCurrent-merged}
use Rattle.st_store.proofs.versions.Versions.merge.Goals as goal

pub invariant_of-self-2 : goal.invariant_of-self-2
invariant_of-self-2 c =
    let old : VersionsView = record { version = c.self.inside.version; target = c.self.inside.table; changes = lists_of c.self.inside.changes } in
    let fits = subst (λ (v : VersionsView). All (IsRowIn v.target) c.args.rows.now) (sym c.self.view_is) c.requires.rows in
    let lists = c.enter.ensures ∙ ap (λ (lists : ChangeLists). entered (c.self.inside.version + 1) c.overlay.new.self lists c.args.rows.now) c.reserve_all.ensures.same in
    IsCurrent-merged old c.overlay.new.self c.args.rows.now c.self.invariant fits c.overlay.ensures.overlaid (lists_of c.enter.new.self) lists (c.overlay.ensures.rows fits)

pub returns-clause-ok : goal.returns-clause-ok
returns-clause-ok c =
    let old : VersionsView = record { version = c.self.inside.version; target = c.self.inside.table; changes = lists_of c.self.inside.changes } in
    let fits = subst (λ (v : VersionsView). All (IsRowIn v.target) c.args.rows.now) (sym c.self.view_is) c.requires.rows in
    let lists = c.enter.ensures ∙ ap (λ (lists : ChangeLists). entered (c.self.inside.version + 1) c.overlay.new.self lists c.args.rows.now) c.reserve_all.ensures.same in
    subst (λ (v : VersionsView). MergesIf true v (record { version = c.self.inside.version + 1; target = c.overlay.new.self; changes = lists_of c.enter.new.self }) c.args.rows.now) c.self.view_is
    (merges old c.overlay.new.self c.args.rows.now c.self.invariant fits c.overlay.ensures.overlaid (lists_of c.enter.new.self) lists (c.overlay.ensures.rows fits))
