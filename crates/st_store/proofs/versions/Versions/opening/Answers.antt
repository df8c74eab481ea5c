use Rattle.std.proofs.Common.{ap, ◌∙◌, refl}
use Rattle.st_store.specs.Changes.{unchanged}
use Rattle.st_store.specs.Rooms.{lists_of}
use Rattle.st_store.proofs.VersionLaws.{IsCurrent-opening, value_at-opening}
use Rattle.st_store.proofs.versions.Versions.opening.Goals as goal

pub invariant_of-result : goal.invariant_of-result
invariant_of-result c = IsCurrent-opening c.args.topo.now c.in_ok-table.table (lists_of c.in_ok-changes.changes) c.in_ok-table.ensures.of (c.in_ok-changes.ensures ∙ ap (unchanged c.args.topo.now) c.in_ok-copy.ensures)

pub returns : goal.returns
returns c = record {
  of = c.in_ok-table.ensures.of;
  version = refl;
  target = c.in_ok-table.ensures.values;
  values = value_at-opening c.args.topo.now c.in_ok-table.table (lists_of c.in_ok-changes.changes) c.in_ok-table.ensures.values (c.in_ok-changes.ensures ∙ ap (unchanged c.args.topo.now) c.in_ok-copy.ensures);
}
