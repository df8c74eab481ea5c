use Rattle.st_control.proofs.control.Control.weigh_rows.Goals as goal

pub returns-clause-judged : goal.returns-clause-judged
returns-clause-judged c = record {
  first = rw (← c.self.view_is, ← c.target-table.ensures.target, ← c.observed.ensures, ← c.as_slice-rows.ensures) c.judge_rows-refusal.ensures.first;
  marks = rw (← c.self.view_is) c.in_ok-changed.ensures.of;
  altered = rw (← c.self.view_is, ← c.target-table.ensures.target, ← c.as_slice-rows.ensures) c.in_ok-changed.ensures.altered;
}
