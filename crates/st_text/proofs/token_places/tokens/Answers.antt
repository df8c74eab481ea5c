use Rattle.std.proofs.Common.{arith, ◌≡◌, ℕ, List, true, length, get_or, subst, sym, ◌∙◌}
use Rattle.st_text.specs.Tokens.{is_blank}
use Rattle.st_text.proofs.TokenLemmas.{TokensSoFar, tokens_break_filled, tokens_break_unfilled, tokens_go_on, tokens_end, tokens_last}
use Rattle.st_text.proofs.token_places.tokens.Goals as goal
use Rattle.st_text.proofs.token_places.tokens.Goals.{then-is_blank, then-start-at+in_ok-push, else-start-at, else-is_blank, then-start-line+in_ok-push-2, else-start-line}

pub loop-at-preserved : goal.loop-at-preserved
loop-at-preserved c = elim c.if-is_blank.branch [
  | then-is_blank w ↦
      (let blank : is_blank (get_or c.args.line.now c.loop-at.at 0) ≡ true = sym c.is_blank.ensures ∙ w.if-is_blank.true in
      elim w.if-start-at.branch [
        | then-start-at+in_ok-push v ↦ rw (w.start-is, w.tokens-is, v.tokens-is, v.in_ok-push.ensures.items)
            (tokens_break_filled _ _ _ _ c.loop-at.invariant c.loop-at-test.true blank v.if-start-at.true)
        | else-start-at v ↦ rw (w.start-is, w.tokens-is, v.tokens-is)
            (tokens_break_unfilled _ _ _ _ c.loop-at.invariant c.loop-at-test.true blank v.if-start-at.false)
      ])
  | else-is_blank w ↦ rw (w.start-is, w.tokens-is)
      (tokens_go_on _ _ _ _ c.loop-at.invariant c.loop-at-test.true (sym c.is_blank.ensures ∙ w.if-is_blank.false))
]

pub returns : goal.returns
returns c =
    let line : List ℕ = c.args.line.now in
    let at_end : c.loop-at.at ≡ length line = omega arith in
    let so : TokensSoFar line c.loop-at.start (length line) c.loop-at.tokens.items =
    subst (λ (n : ℕ). TokensSoFar line c.loop-at.start n c.loop-at.tokens.items) at_end c.loop-at.invariant in
    elim c.if-start-line.branch [
      | then-start-line+in_ok-push-2 w ↦ rw (w.tokens-is, w.in_ok-push-2.ensures.items)
          (tokens_last _ _ _ so w.if-start-line.true)
      | else-start-line w ↦ rw w.tokens-is (tokens_end _ _ _ so w.if-start-line.false)
    ]
