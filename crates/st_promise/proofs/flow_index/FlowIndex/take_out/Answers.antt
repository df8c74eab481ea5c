use Rattle.std.proofs.Common.{◌≡◌, ◌<◌, ◌==◌, not, length, get_or, ◌∙◌, arith, rules, length-set}
use Rattle.std.specs.List.{filter}
use Rattle.std.proofs.lemmas.Fn.{filter_same}
use Rattle.st_flow.proofs.Rows.{row_at-read}
use Rattle.st_promise.specs.declared.kept_flow.Share.{Share}
use Rattle.st_promise.proofs.IndexLaws.{entered_with, member_filter}
use Rattle.st_promise.proofs.flow_index.FlowIndex.take_out.Goals as goal

pub loop-share-preserved : goal.loop-share-preserved
loop-share-preserved c =
    let no_share : Share = record { link = 0; head = 0; amount = 0 } in
    let lists = c.loop-share.self.lists.items in
    let shares = c.args.flow.now.shares.items in
    let x = (get_or shares c.loop-share.share-index no_share).link in
    let value = c.deref-share-items.ensures.value in
    let next : c.loop-share.share-index < length shares = rw value at c.loop-share-test.true in
    let low : x < length lists = (let at = c.requires c.loop-share.share-index no_share next in omega (arith, at, c.loop-share.invariant.count)) in
    let row = row_at-read lists x c.index_mut.result.now low (rw value at c.index_mut.ensures.value) in
    let rest : c.retain.new.self.items ≡ filter (λ p. not (p == c.args.i)) c.index_mut.result.now.items = filter_same _ _ _ (λ y b f' k. search rules) _ _ c.retain.ensures.filtered in
    rw value (record {
      count = length-set lists x c.retain.new.self ∙ c.loop-share.invariant.count;
      others = λ j s apart here. entered_with lists x c.retain.new.self j low (λ m. rw rest (member_filter c.index_mut.result.now.items c.args.i j apart (rw row at m))) s (c.loop-share.invariant.others j s apart here);
    })
