use Rattle.std.proofs.Common.{◌<◌, leb, arith, rules, sym, ap, ◌∙◌, subst}
use Rattle.std.proofs.lemmas.List.Sorted.{IsPartitionPoint-from_clause, IsPartitionedBy-leb}
use Rattle.st_store.specs.declared.change.Change.{Change}
use Rattle.st_store.specs.Changes.{version_of, IsAscending}
use Rattle.st_store.proofs.ChangeLaws.{vals_upto-none, vals_upto-last}
use Rattle.st_store.proofs.change.EntityChanges.vals_at.Goals as goal

pub returns-then-count-eq0 : goal.returns-then-count-eq0
returns-then-count-eq0 c =
    let same = c.as_slice.ensures.value in
    let parted = IsPartitionedBy-leb version_of c.as_slice.result.now c.args.version (subst IsAscending (sym same) c.requires) in
    let point = IsPartitionPoint-from_clause (λ (x : Change). leb x.version c.args.version) _ _ c.partition_point-count.ensures.partitioned parted (λ a r q k. search rules) in
    sym (rw (← same) (vals_upto-none c.args.version c.as_slice.result.now c.args.opening c.partition_point-count.result (search rules) point.1))

pub returns-else-count-eq0 : goal.returns-else-count-eq0
returns-else-count-eq0 c =
    let same = c.as_slice.ensures.value in
    let parted = IsPartitionedBy-leb version_of c.as_slice.result.now c.args.version (subst IsAscending (sym same) c.requires) in
    let point = IsPartitionPoint-from_clause (λ (x : Change). leb x.version c.args.version) _ _ c.partition_point-count.ensures.partitioned parted (λ a r q k. search rules) in
    let some : 0 < c.partition_point-count.result = omega arith in
    ap (λ (x : Change). x.vals) c.index.ensures
    ∙ sym (rw (← same) (vals_upto-last c.args.version c.as_slice.result.now c.args.opening c.partition_point-count.result c.index.result.now some c.partition_point-count.ensures.bound (λ j d lt. point.0 j d (omega arith) lt) point.1))
