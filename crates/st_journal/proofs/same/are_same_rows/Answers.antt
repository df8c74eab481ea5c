use Rattle.std.proofs.Common.{◌≡◌, ℕ, ◌+◌, ◌<◌, List, length, take, get_or, refl, arith}
use Rattle.std.specs.Prelude.{IsTrue}
use Rattle.std.proofs.lemmas.List.{take_more}
use Rattle.st_journal.proofs.same.are_same_rows.Goals as goal

-- lists that agree up to a place, and there, agree up to the next place
agree_more : {X : Type 0} (xs ys : List X) (i : ℕ) (past_end : X) → i < length xs → i < length ys → get_or xs i past_end ≡ get_or ys i past_end → take i xs ≡ take i ys → take (i + 1) xs ≡ take (i + 1) ys
agree_more xs ys i past_end low_x low_y same before = rw (take_more xs i past_end low_x, take_more ys i past_end low_y, before, same) refl

pub loop-i-preserved : goal.loop-i-preserved
loop-i-preserved c =
    let test : IsTrue c.is_same_row.result = cc in
    agree_more c.args.a.now c.args.b.now c.loop-i.i _ (omega arith) (omega arith) (c.is_same_row.ensures.0 test) c.loop-i.invariant
