use Rattle.std.proofs.Common.{◌≡◌, ◌<◌, length, arith, rules, w64, FitsSigned, ◌∙◌, pos}
use Rattle.std.specs.Prelude.{true, slice_index_or}
use Rattle.std.proofs.lemmas.Int.{to_z-of_z}
use Rattle.std.proofs.lemmas.List.Elements.{All-push}
use Rattle.std.proofs.lemmas.Option.{get_or_from_slice_get}
use Rattle.st_net.specs.Groups.{no_link}
use Rattle.st_promise.specs.UpNetwork.{edge_of, up_edges}
use Rattle.st_promise.specs.KeptFlow.{IsShareOf, IsEndIn}
use Rattle.st_promise.proofs.ShareLaws.{tell_with, tell_without, tell_all, share_in, share_end}
use Rattle.st_promise.proofs.kept_flow.KeptFlow.of.Goals as goal
use Rattle.st_promise.proofs.kept_flow.KeptFlow.of.Goals.{in-Some+in_ok-push, in_default}

pub loop-link-preserved : goal.loop-link-preserved
loop-link-preserved c =
    let low : c.loop-link.link < length c.args.topo.now.links = omega (arith, c.loop-link-test.true, c.link_count-link-end.ensures) in
    let here : c.loop-link.link < length c.args.flow.now = omega (arith, low, c.requires.links) in
    let read = get_or_from_slice_get c.args.flow.now c.loop-link.link c.amount.result (pos 0) c.amount.ensures in
    let f : FitsSigned w64 c.amount.result = search rules in
    elim c.match-share_of.branch [
      | in-Some+in_ok-push w ↦ (
          let amount : IsShareOf c.loop-link.link (edge_of true (slice_index_or c.args.topo.now.links c.loop-link.link no_link)) c.amount.result w.in-Some.share = rw (to_z-of_z w64 c.amount.result f) at w.in-Some.ensures.some in
          let share : IsShareOf c.loop-link.link (edge_of true (slice_index_or c.args.topo.now.links c.loop-link.link no_link)) (slice_index_or c.args.flow.now c.loop-link.link (pos 0)) w.in-Some.share = rw read amount in
          rw (w.shares-is, w.in_ok-push.ensures.items) (record {
            in_range = All-push (λ s. (s.link < length c.args.topo.now.links) × (s.head < length c.args.topo.now.devices)) c.loop-link.shares.items w.in-Some.share c.loop-link.invariant.in_range (share_in (length c.args.topo.now.devices) c.loop-link.link c.args.topo.now.links c.amount.result w.in-Some.share c.is_sound.ensures.links low amount);
            ends = All-push (IsEndIn (up_edges 0 c.args.topo.now.links (λ e. true))) c.loop-link.shares.items w.in-Some.share c.loop-link.invariant.ends (share_end c.loop-link.link c.args.topo.now.links c.amount.result w.in-Some.share low amount);
            amounts = tell_with c.args.topo.now.links c.args.flow.now c.loop-link.link c.loop-link.shares.items w.in-Some.share c.loop-link.invariant.amounts low here share;
          }))
      | in_default w ↦ (
          let none : c.amount.result ≡ pos 0 = rw (to_z-of_z w64 c.amount.result f) at w.in_default.ensures.none in
          rw w.shares-is (record {
            in_range = c.loop-link.invariant.in_range;
            ends = c.loop-link.invariant.ends;
            amounts = tell_without c.args.topo.now.links c.args.flow.now c.loop-link.link c.loop-link.shares.items c.loop-link.invariant.amounts low here (read ∙ none);
          }))
    ]

pub returns-clause-amounts : goal.returns-clause-amounts
returns-clause-amounts c = tell_all c.args.topo.now.links c.args.flow.now c.loop-link.link c.loop-link.shares.items c.loop-link.invariant.amounts (omega (arith, c.loop-link-test.false, c.link_count-link-end.ensures)) (omega (arith, c.loop-link-test.false, c.link_count-link-end.ensures, c.requires.links))
