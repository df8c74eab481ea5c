use Rattle.std.proofs.Common.{refl, ap, ◌∙◌, length}
use Rattle.st_net.specs.Sets.{is_in}
use Rattle.st_promise.proofs.FailingLaws.{failing_still, found_in, none_failing}
use Rattle.st_promise.proofs.book.Book.failing_in.Goals as goal

pub returns-then-is_within-clause-count : goal.returns-then-is_within-clause-count
returns-then-is_within-clause-count c =
    let found = found_in c.args.topo.now _ _ _ _ c.args.self.now c.self.inside.failing c.in-Some.failing c.self.view_is c.requires.book c.self.invariant.failing c.in-Some.is in
    ap length (c.in_ok-fails.ensures ∙ c.as_slice.ensures.value) ∙ found.1

pub returns-then-is_within-clause-fails : goal.returns-then-is_within-clause-fails
returns-then-is_within-clause-fails c =
    let found = found_in c.args.topo.now _ _ _ _ c.args.self.now c.self.inside.failing c.in-Some.failing c.self.view_is c.requires.book c.self.invariant.failing c.in-Some.is in
    rw (c.in_ok-fails.ensures, c.as_slice.ensures.value) (failing_still c.args.topo.now (is_in c.in-Some.failing.up) (is_in c.args.up.now) c.in-Some.failing.marks.items c.keeps_with_more.ensures c.held_means_kept.ensures found.2 (c.if-is_within.ensures.0 refl))

pub returns-clause-fails : goal.returns-clause-fails
returns-clause-fails c = rw c.in_ok-none.ensures (none_failing c.args.topo.now (is_in c.args.up.now) c.ask_count.result)
