use Rattle.std.proofs.Common.{◌<◌, length, arith}
use Rattle.std.proofs.lemmas.List.Elements.{All-push}
use Rattle.st_net.proofs.GroupLaws.{ask_at}
use Rattle.st_promise.proofs.cut_tree.asked_tors.Goals as goal
use Rattle.st_promise.proofs.cut_tree.asked_tors.Goals.{then-index+in_ok-push, else-index}

pub index_mut-requires : goal.index_mut-requires
index_mut-requires c =
    let ask = ask_at _ c.loop-i.i c.is_sound.ensures (omega (arith, c.loop-i-test.true, c.ask_count-i-end.ensures)) in
    rw c.ask-ask.ensures (omega (arith, ask.a_in, c.loop-i.invariant, c.loop-i.marks.ok))

pub index_mut-requires-then-ask-gt0 : goal.index_mut-requires-then-ask-gt0
index_mut-requires-then-ask-gt0 c =
    let ask = ask_at _ c.loop-i.i c.is_sound.ensures (omega (arith, c.loop-i-test.true, c.ask_count-i-end.ensures)) in
    rw c.ask-ask.ensures (omega (arith, ask.b_in, c.loop-i.invariant, c.loop-i.marks.ok))

pub loop-device-preserved : goal.loop-device-preserved
loop-device-preserved c =
    let low : c.loop-device.device < length c.args.topo.now.devices = omega (arith, c.loop-device-test.true, c.device_count-device-end.ensures) in
    elim c.if-index.branch [
      | then-index+in_ok-push w ↦ rw (w.tors-is, w.in_ok-push.ensures.items) (All-push (λ d. d < length c.args.topo.now.devices) c.loop-device.tors.items c.loop-device.device c.loop-device.invariant low)
      | else-index w ↦ rw w.tors-is c.loop-device.invariant
    ]
