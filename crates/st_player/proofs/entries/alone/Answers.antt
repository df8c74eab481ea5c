use Rattle.std.proofs.Common.{◌∙◌, ◌++◌, ◌∷◌, [], ℕ, List, ap, arith}
use Rattle.st_player.proofs.AboutLemmas.{found_alone, not_found}
use Rattle.st_player.proofs.entries.alone.Goals as goal
use Rattle.st_player.proofs.entries.alone.Goals.{then-has+in_ok-push, else-has}

pub overflow_cast-place : goal.overflow_cast-place
overflow_cast-place c = omega (arith, c.place.ensures.within, c.is_sound.ensures.few_devices, c.is_sound.ensures.few_links)

pub returns : goal.returns
returns c =
    let g = c.args.topo.now in
    let at = c.args.entity in
    elim c.if-has.branch [
      | then-has+in_ok-push w ↦ ap (λ v. v.items) w.numbers-is ∙ (w.in_ok-push.ensures.items ∙ (ap (λ (xs : List ℕ). xs ++ w.place.result ∷ []) c.new-numbers.ensures.items ∙ (ap (λ (n : ℕ). n ∷ []) w.place.ensures.place ∙ found_alone g at (c.has.ensures.0 w.if-has.true))))
      | else-has w ↦ ap (λ v. v.items) w.numbers-is ∙ (c.new-numbers.ensures.items ∙ not_found g at (λ own. let here = c.has.ensures.1 own in let out = w.if-has.false in cc))
    ]
