use Rattle.std.proofs.Common.{◌≡◌, ◌+◌, length, ap, ◌∙◌, arith}
use Rattle.std.proofs.lemmas.List.{length_push}
use Rattle.st_journal.proofs.JournalLemmas.{filled_more}
use Rattle.st_journal.proofs.reader.groups.fill.Goals as goal

pub loop-group-preserved : goal.loop-group-preserved
loop-group-preserved c =
    let count : length c.push.new.self.items ≡ length c.loop-group.journals.items + 1 = ap length c.in_ok-push.ensures.items ∙ length_push c.loop-group.journals.items _ in
    record {
      filled = rw (c.in_ok-push.ensures.items, c.none.ensures) (filled_more c.loop-group.group c.args.count c.loop-group.journals.items c.loop-group-test.true ∙ c.loop-group.invariant.filled);
      few = omega (arith, count);
      first = omega arith;
    }
