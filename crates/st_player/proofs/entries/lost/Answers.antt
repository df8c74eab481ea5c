use Rattle.std.proofs.Common.{◌<◌, ◌+◌, ◌∙◌, ap, length, arith, refl, get_or, false}
use Rattle.st_player.specs.Entries.{lost_from}
use Rattle.st_player.proofs.PassLemmas.{lost_put, lost_skip, not_before, still_after}
use Rattle.st_player.proofs.entries.lost.Goals as goal
use Rattle.st_player.proofs.entries.lost.Goals.{then-held+then-not-after-i+in_ok-push, else-held, else-held-via-then-held+else-not-after-i, else-held-via-else-held}

pub loop-i-preserved : goal.loop-i-preserved
loop-i-preserved c =
    let before = c.args.before.now in
    let after = c.args.after.now in
    let i = c.loop-i.i in
    let low : i < length before = c.loop-i-test.true in
    let here : i < length after = omega (arith, low, c.requires.count) in
    let whole = lost_from 0 before after in
    elim c.if-held.branch [
      | then-held+then-not-after-i+in_ok-push w ↦ lost_put c.loop-i.numbers.items c.if-held.numbers.items whole i (i + 1) before after refl low here w.if-held.true w.if-not-after-i.true (ap (λ v. v.items) w.numbers-is ∙ w.in_ok-push.ensures.items) c.loop-i.invariant
      | else-held w ↦ rw w.numbers-is (lost_skip c.loop-i.numbers.items whole i (i + 1) before after refl low here (elim w.else-held.branch [
        | else-held-via-then-held+else-not-after-i v ↦ still_after (get_or before i false) (get_or after i false) v.if-not-after-i.false
        | else-held-via-else-held v ↦ not_before (get_or before i false) (get_or after i false) v.if-held.false
      ]) c.loop-i.invariant)
    ]
