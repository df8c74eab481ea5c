use Rattle.std.proofs.Common.{sym, ap, ◌∙◌, length}
use Rattle.st_net.specs.declared.message.Report.{Report}
use Rattle.st_net.specs.Levels.{carries}
use Rattle.st_event.specs.Moments.{commands}
use Rattle.st_control.specs.Control.{reply_of_send}
use Rattle.st_player.proofs.StateLemmas.{sends_reply, is_sure, is_still, is_barred, is_on_its_way}
use Rattle.st_player.proofs.state.knowledge_of.Goals as goal

pub returns-in-Settled : goal.returns-in-Settled
returns-in-Settled c =
    let g = c.args.world.now.history.group in
    let past = c.args.world.now.history.past in
    let e = c.args.entity in
    let says = sends_reply g past e c.control.result.now c.send.result c.control.ensures.group c.control.ensures.standing c.send.ensures in
    is_sure g past e (ap (reply_of_send (length (commands g past))) (sym c.in-Settled.is) ∙ says)
    (ap (λ (r : Report). carries e r.vals r.level) (sym c.observed_of-seen.ensures) ∙ sym c.carries.ensures ∙ c.if-carries.true)

pub returns-in-Settled-2 : goal.returns-in-Settled-2
returns-in-Settled-2 c =
    let g = c.args.world.now.history.group in
    let past = c.args.world.now.history.past in
    let e = c.args.entity in
    let says = sends_reply g past e c.control.result.now c.send.result c.control.ensures.group c.control.ensures.standing c.send.ensures in
    is_still g past e (ap (reply_of_send (length (commands g past))) (sym c.in-Settled-2.is) ∙ says)
    (ap (λ (r : Report). carries e r.vals r.level) (sym c.observed_of-seen.ensures) ∙ sym c.carries.ensures ∙ c.if-carries.false)

pub returns-in-Blocked : goal.returns-in-Blocked
returns-in-Blocked c =
    let g = c.args.world.now.history.group in
    let past = c.args.world.now.history.past in
    let e = c.args.entity in
    let says = sends_reply g past e c.control.result.now c.send.result c.control.ensures.group c.control.ensures.standing c.send.ensures in
    is_barred g past e c.in-Blocked.row (ap (reply_of_send (length (commands g past))) (sym c.in-Blocked.is) ∙ says)

pub returns-in-Command : goal.returns-in-Command
returns-in-Command c =
    let g = c.args.world.now.history.group in
    let past = c.args.world.now.history.past in
    let e = c.args.entity in
    let says = sends_reply g past e c.control.result.now c.send.result c.control.ensures.group c.control.ensures.standing c.send.ensures in
    is_on_its_way g past e _ (ap (reply_of_send (length (commands g past))) (sym c.in-Command.is) ∙ says)
