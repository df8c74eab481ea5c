use Rattle.std.proofs.Common.{arith, ◌∙◌}
use Rattle.st_io.proofs.Pieces.{piece_within, piece_more}
use Rattle.st_io.proofs.writing.write_all.Goals as goal

pub loop-at-preserved : goal.loop-at-preserved
loop-at-preserved g c =
    let took = c.in-Took.ensures.step in
    record {
      within = piece_within c.args.text.now c.loop-at.at c.in-Took.n c.loop-at-test.true took.1.0;
      appended = piece_more _ _ _ c.args.text.now c.loop-at.at c.in-Took.n c.loop-at.invariant.appended took.2;
      still = c.in-Took.ensures.cause.still (λ e. cc) ∙ c.loop-at.invariant.still;
      untouched = λ none. absurd (omega arith);
    }
