use Rattle.std.proofs.Common.{arith, ◌≡◌, ℕ, List, length, subst, sym, ◌∙◌}
use Rattle.st_text.proofs.LineLemmas.{LinesSoFar, lines_break, lines_go_on, lines_end, lines_last}
use Rattle.st_text.proofs.line_places.lines.Goals as goal
use Rattle.st_text.proofs.line_places.lines.Goals.{then-is_line_feed+in_ok-push, else-is_line_feed, in-Some+in_ok-push-2, in_default}

pub loop-at-preserved : goal.loop-at-preserved
loop-at-preserved c = elim c.if-is_line_feed.branch [
  | then-is_line_feed+in_ok-push w ↦ rw (w.start-is, w.lines-is, w.in_ok-push.ensures.items)
      (lines_break _ _ _ _ _ c.loop-at.invariant c.loop-at-test.true
      (sym c.is_line_feed.ensures ∙ w.if-is_line_feed.true) w.line_between.ensures)
  | else-is_line_feed w ↦ rw (w.start-is, w.lines-is)
      (lines_go_on _ _ _ _ c.loop-at.invariant c.loop-at-test.true (sym c.is_line_feed.ensures ∙ w.if-is_line_feed.false))
]

pub returns : goal.returns
returns c =
    let bytes : List ℕ = c.args.bytes.now in
    let at_end : c.loop-at.at ≡ length bytes = omega arith in
    let so : LinesSoFar bytes c.loop-at.start (length bytes) c.loop-at.lines.items =
    subst (λ (n : ℕ). LinesSoFar bytes c.loop-at.start n c.loop-at.lines.items) at_end c.loop-at.invariant in
    elim c.match-rest_from.branch [
      | in-Some+in_ok-push-2 w ↦ rw (w.lines-is, w.in_ok-push-2.ensures.items)
          (lines_last _ _ _ _ so w.in-Some.ensures.some w.in-Some.ensures.line)
      | in_default w ↦ rw w.lines-is (lines_end _ _ _ so w.in_default.ensures.none)
    ]
