use Rattle.std.proofs.Common.{◌≡◌, ◌+◌, ◌<◌, length, true, ap, sym, ◌∙◌, arith}
use Rattle.std.proofs.lemmas.List.{length_push}
use Rattle.st_net.specs.Promises.{is_kept}
use Rattle.st_net.specs.Sets.{is_in}
use Rattle.st_net.specs.Asks.{ask_count, ask_of}
use Rattle.st_net.proofs.GroupLaws.{ask_at}
use Rattle.st_promise.proofs.BookLaws.{fields_of, ask_read, lists_count}
use Rattle.st_promise.proofs.IndexLaws.{shown_whole, both_so}
use Rattle.st_promise.proofs.WithinLaws.{marked_more}
use Rattle.st_promise.proofs.book.Book.shown_in.Goals.{then-is_marked, else-is_marked}
use Rattle.st_promise.proofs.book.Book.shown_in.Goals as goal

pub touched-requires-clause-links : goal.touched-requires-clause-links
touched-requires-clause-links c =
    let are = fields_of c.args.topo.now _ _ _ _ c.args.self.now c.self.view_is c.requires.book in
    lists_count c.args.topo.now _ _ _ _ are c.self.invariant.lists_each

pub starts-holds-requires : goal.starts-holds-requires
starts-holds-requires c =
    let are = fields_of c.args.topo.now _ _ _ _ c.args.self.now c.self.view_is c.requires.book in
    let low : c.loop-i.i < ask_count c.args.topo.now = omega (arith, c.loop-i-test.true, c.ask_count-i-end.ensures) in
    let read = ask_read c.args.topo.now _ _ _ c.loop-i.i c.index-else-is_marked.result.now are low c.index-else-is_marked.ensures in
    let ask = ask_at _ c.loop-i.i c.is_sound.ensures low in
    rw read (omega (arith, ask.a_in, c.requires.marks.devices))

pub loop-i-preserved : goal.loop-i-preserved
loop-i-preserved c =
    let g = c.args.topo.now in
    let up = is_in c.args.up.now in
    let are = fields_of g _ _ _ _ c.args.self.now c.self.view_is c.requires.book in
    let low : c.loop-i.i < ask_count g = omega (arith, c.loop-i-test.true, c.ask_count-i-end.ensures) in
    let here : c.if-is_marked.holds ≡ true → is_kept g up (ask_of g c.loop-i.i) ≡ true = λ is. elim c.if-is_marked.branch [
      | then-is_marked w ↦ w.shows-holds.ensures (sym w.holds-is ∙ is)
      | else-is_marked w ↦ (
          let parts = both_so _ _ (sym w.starts-holds.ensures ∙ sym w.holds-is ∙ is) in
          let first = ask_read g _ _ _ c.loop-i.i w.index-else-is_marked.result.now are low w.index-else-is_marked.ensures in
          let unmarked = rw c.as_slice.ensures.value at (sym c.is_marked.ensures ∙ w.if-is_marked.false) in
          shown_whole g _ _ _ c.self.inside.flows.items c.self.inside.index.lists.items up c.loop-i.i w.index.result.now c.is_sound.ensures are c.self.invariant.flows c.self.invariant.entered low w.index.ensures (c.in_ok-touched.ensures.untouched c.loop-i.i low unmarked) parts.0 (rw first at parts.1))
    ] in
    rw c.in_ok-push.ensures.items (record {
      count = length_push c.loop-i.shown.items c.if-is_marked.holds ∙ ap (λ n. n + 1) c.loop-i.invariant.count;
      kept = marked_more (λ k. is_kept g up (ask_of g k) ≡ true) c.loop-i.shown.items c.loop-i.i c.if-is_marked.holds c.loop-i.invariant.count c.loop-i.invariant.kept here;
    })
