use Rattle.std.proofs.Common.{ℕ, ◌<◌, ◌≤◌, length, take, get_or, set, List, Vec, ◌∙◌, sym, arith, length-set}
use Rattle.std.specs.declared.alloc.Global.{Global}
use Rattle.std.proofs.lemmas.List.{take_all}
use Rattle.std.proofs.lemmas.List.Elements.{All-more, All-weaker, All-same}
use Rattle.st_flow.proofs.Rows.{row_at-read, row_at-set_same}
use Rattle.st_promise.specs.declared.kept_flow.Share.{Share}
use Rattle.st_promise.specs.FlowIndex.{IsEntered}
use Rattle.st_promise.proofs.IndexLaws.{entered_with, member_push, member_here}
use Rattle.st_promise.proofs.flow_index.FlowIndex.enter.Goals as goal

pub returns-in_err-push-clause-kept : goal.returns-in_err-push-clause-kept
returns-in_err-push-clause-kept c = λ j s here.
    let no_share : Share = record { link = 0; head = 0; amount = 0 } in
    let lists = c.loop-share.self.lists.items in
    let shares = c.args.flow.now.shares.items in
    let x = (get_or shares c.loop-share.share-index no_share).link in
    let value = c.deref-share-items.ensures.value in
    let next : c.loop-share.share-index < length shares = rw value at c.loop-share-test.true in
    let low : x < length lists = (let at = c.requires c.loop-share.share-index no_share next in omega (arith, at, c.loop-share.invariant.count)) in
    let row = row_at-read lists x c.index_mut.result.now low (rw value at c.index_mut.ensures.value) in
    rw value (entered_with lists x c.push.new.self j low (λ m. rw c.in_err-push.ensures.items (rw row at m)) s (c.loop-share.invariant.kept j s here))

pub loop-share-preserved : goal.loop-share-preserved
loop-share-preserved c =
    let no_share : Share = record { link = 0; head = 0; amount = 0 } in
    let lists = c.loop-share.self.lists.items in
    let shares = c.args.flow.now.shares.items in
    let x = (get_or shares c.loop-share.share-index no_share).link in
    let new : List (Vec ℕ Global) = set lists x c.push.new.self in
    let value = c.deref-share-items.ensures.value in
    let next : c.loop-share.share-index < length shares = rw value at c.loop-share-test.true in
    let low : x < length lists = (let at = c.requires c.loop-share.share-index no_share next in omega (arith, at, c.loop-share.invariant.count)) in
    let row = row_at-read lists x c.index_mut.result.now low (rw value at c.index_mut.ensures.value) in
    let stays : (j : ℕ) (s : Share) → IsEntered lists j s → IsEntered new j s = λ j. entered_with lists x c.push.new.self j low (λ m. rw c.in_ok-push.ensures.items (member_push c.index_mut.result.now.items c.args.i j (rw row at m))) in
    rw value (record {
      count = length-set lists x c.push.new.self ∙ c.loop-share.invariant.count;
      entered = All-more (IsEntered new c.args.i) shares c.loop-share.share-index no_share next (All-weaker (IsEntered lists c.args.i) (IsEntered new c.args.i) (stays c.args.i) (take c.loop-share.share-index shares) c.loop-share.invariant.entered) (rw (row_at-set_same lists x c.push.new.self low, c.in_ok-push.ensures.items) (member_here c.index_mut.result.now.items c.args.i));
      kept = λ j s here. stays j s (c.loop-share.invariant.kept j s here);
    })

pub returns-clause-entered : goal.returns-clause-entered
returns-clause-entered c =
    let shares = c.args.flow.now.shares.items in
    let end : length shares ≤ c.loop-share.share-index = rw c.deref-share-items.ensures.value at c.loop-share-test.false in
    All-same (IsEntered c.loop-share.self.lists.items c.args.i) shares (take c.loop-share.share-index shares) (sym (take_all c.loop-share.share-index shares end)) c.loop-share.invariant.entered
