use Rattle.std.proofs.Common.{◌≡◌, ◌∙◌, ap, refl}
use Rattle.std.specs.Prelude.{slice_index_or}
use Rattle.st_net.specs.Faults.{group_of}
use Rattle.st_event.specs.History.{History}
use Rattle.st_serial.specs.Serial.{opened, state_of, states_of}
use Rattle.st_serial.proofs.Runs.{opened_next}
use Rattle.st_serial.proofs.Worlds.{states_push}
use Rattle.st_serial.proofs.running.open_worlds.Goals as goal

pub loop-i-preserved : goal.loop-i-preserved
loop-i-preserved c =
    let i = c.loop-i.i in
    let parts = slice_index_or c.args.groups.now i c.index-groups-i.result in
    let lines = slice_index_or c.args.wires.now i c.index-wires-i.result in
    let topo : c.in_ok-topo_of.field-0 ≡ group_of parts = c.in_ok-topo_of.ensures ∙ ap group_of c.index-groups-i.is in
    let losses : c.in_ok-losses.losses ≡ lines = c.in_ok-losses.ensures ∙ c.as_slice.ensures ∙ c.index-wires-i.is in
    let world = c.in_ok-start.field-0 in
    let here : state_of world ≡ opened parts lines = ap (λ (h : History). record { history = h; lines = world.lines }) c.in_ok-start.ensures.history ∙ rw (c.in_ok-start.ensures.lines, topo, losses) refl in
    opened_next c.args.groups.now c.args.wires.now i c.index-groups-i.result c.index-wires-i.result (states_of c.loop-i.worlds.items) (states_of c.push.new.self.items) (state_of world) c.loop-i-test.true c.requires.each c.loop-i.invariant (states_push c.loop-i.worlds.items c.push.new.self.items world c.in_ok-push.ensures.items) here
