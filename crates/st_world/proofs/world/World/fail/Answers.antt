use Rattle.std.proofs.Common.{◌≡◌, sym, ap, subst, ◌∙◌}
use Rattle.st_net.specs.declared.entity.Vals.{Vals}
use Rattle.st_agent.specs.State.{AgentState}
use Rattle.st_event.specs.Legal.{FailFits}
use Rattle.st_event.specs.Moments.{vals}
use Rattle.st_world.specs.Acts.{failed_vals as failed_vals_lem}
use Rattle.st_world.proofs.RangeLaws.{fail_fits}
use Rattle.st_world.proofs.world.World.fail.Goals as goal

pub enter-requires : goal.enter-requires
enter-requires c =
    let g = c.args.self.now.history.group in
    let past = c.args.self.now.history.past in
    let e = c.args.entity in
    let before : c.vals.result ≡ vals g past e = c.vals.ensures ∙ ap (λ (a : AgentState). a.agent.vals) c.agent.ensures in
    let after : c.failed_vals-vals.result ≡ failed_vals_lem e (vals g past e) c.args.rows.now = c.failed_vals-vals.ensures ∙ ap (λ (v : Vals). failed_vals_lem e v c.args.rows.now) before in
    subst (λ (v : Vals). FailFits g e v c.args.health) (sym after) (fail_fits g past e c.args.health c.args.rows.now c.is_legal.ensures.sound c.is_legal.ensures.legal c.requires)
