use Rattle.std.proofs.Common.{◌≡◌, ℕ, ◌<◌, length, arith, sym, ◌∙◌}
use Rattle.std.specs.Prelude.{true, false, slice_index_or}
use Rattle.st_net.specs.Sets.{is_in}
use Rattle.st_flow.proofs.Rows.{row_at-read}
use Rattle.st_promise.proofs.IndexLaws.{marked_to, written}
use Rattle.st_promise.proofs.flow_index.FlowIndex.touched.Goals.{then-not-is_up, else-not-is_up}
use Rattle.st_promise.proofs.flow_index.FlowIndex.touched.Goals as goal

pub loop-link-preserved : goal.loop-link-preserved
loop-link-preserved c =
    let g = c.args.topo.now in
    let up = is_in c.args.up.now in
    let lists = c.args.self.now.lists.items in
    elim c.if-not-is_up.branch [
      | then-not-is_up w ↦ (
          let old = c.loop-link.touched.items in
          let new = w.mark_all.new.marks in
          let low : c.loop-link.link < length lists = omega (arith, c.loop-link-test.true, c.link_count-link-end.ensures, c.requires.links) in
          let row = row_at-read lists c.loop-link.link w.index.result.now low w.index.ensures in
          let count : length new ≡ length old = rw w.as_mut_slice.ensures.value at w.mark_all.ensures.count in
          let marks = written new old c.loop-link.touched.len count (omega (arith, c.loop-link.touched.ok.0)) in
          let kept : (i : ℕ) → slice_index_or old i false ≡ true → slice_index_or new i false ≡ true = λ i is. w.mark_all.ensures.kept i (rw w.as_mut_slice.ensures.value is) in
          rw (w.touched-is, marks) (record {
            count = count ∙ c.loop-link.invariant.count;
            untouched = marked_to g up lists old new c.loop-link.link c.loop-link.invariant.untouched kept (λ i i_low unmarked member.
                let marked : slice_index_or new i false ≡ true = w.mark_all.ensures.marked i (rw w.as_mut_slice.ensures.value (omega (arith, i_low, c.loop-link.invariant.count))) (rw w.as_slice.ensures.value (rw row at member)) in
                absurd cc);
          }))
      | else-not-is_up w ↦ rw w.touched-is (record {
        count = c.loop-link.invariant.count;
        untouched = marked_to g up lists c.loop-link.touched.items c.loop-link.touched.items c.loop-link.link c.loop-link.invariant.untouched (λ i is. is) (λ i low unmarked member. sym c.is_up.ensures ∙ w.if-not-is_up.false);
      })
    ]
