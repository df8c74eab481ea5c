use Rattle.std.proofs.Common.{refl}
use Rattle.st_text.specs.Printed.{bytes_of}
use Rattle.st_text.proofs.PrintLemmas.{begun_next, by_next, err_of, words_by}
use Rattle.st_text.proofs.words.add_between.Goals as goal

pub returns-in_err-add_word-clause-err : goal.returns-in_err-add_word-clause-err
returns-in_err-add_word-clause-err c =
    err_of _ (begun_next _ _ _ _ c.in_ok-word.ensures.ok (begun_next _ _ _ _ c.loop-word.invariant c.in_err-add_word.ensures.err))

pub loop-word-preserved : goal.loop-word-preserved
loop-word-preserved c = by_next _ _ (words_by bytes_of) _ _ _ _ _ _ _ c.loop-word-test.true refl c.loop-word.invariant c.in_ok-add_word.ensures.ok
