use Rattle.std.proofs.Common.{◌∙◌, ap, sym, Option, ℕ}
use Rattle.st_net.specs.declared.entity.Prio.TheVariants.{Low, High}
use Rattle.st_net.specs.declared.message.Report.{Report}
use Rattle.st_event.specs.Standing.{Standing}
use Rattle.st_net.specs.Agents.{agent_level}
use Rattle.st_agent.specs.State.{AgentState}
use Rattle.st_locks.specs.LockRows.{LockRows, holder_in}
use Rattle.st_player.specs.Inside.{carriage_in, is_since, last_fail}
use Rattle.st_player.specs.Known.{health_told}
use Rattle.st_player.specs.States.{state_of}
use Rattle.st_player.proofs.StateLemmas.{carriage_is, works_is, untold_is}
use Rattle.st_player.proofs.state.state_of.Goals as goal

pub returns : goal.returns
unfolding state_of
returns c =
    let g = c.args.world.now.history.group in
    let past = c.args.world.now.history.past in
    let e = c.args.entity in
    let agent = c.agent-agent.ensures in
    let seen = c.observed_of-seen.ensures in
    let carriage = c.carriage_by.ensures ∙ ap (λ (a : AgentState). carriage_in e a.agent) agent ∙ carriage_is g past e in
    let works = c.level.ensures ∙ ap (λ (a : AgentState). agent_level a.entity a.agent) agent ∙ works_is g past e in
    let untold = c.is_since.ensures ∙ ap (λ (f : Option ℕ). is_since f c.observed_of-seen.result.number) c.requires.failed
    ∙ ap (λ (r : Report). is_since (last_fail past e) r.number) seen ∙ sym (untold_is past e _) in
    λ i. record {
      carriage = carriage i;
      knowledge = c.knowledge_of.ensures i;
      untold = untold i;
      target = c.target_of.ensures i;
      seen = (seen i).vals;
      real = (c.vals.ensures ∙ ap (λ (a : AgentState). a.agent.vals) agent) i;
      level = (seen i).level;
      works = works i;
      stamp = c.stamp_of.ensures i;
      fence = (seen i).fence;
      told = c.requires.since i;
      health = (c.health_told.ensures ∙ ap health_told seen) i;
      low = (c.holder.ensures ∙ ap (λ (l : LockRows). holder_in l e Low) c.locks-locks.ensures.locks ∙ ap (λ (t : Standing). t.holder e Low) c.control.ensures.standing) i;
      high = (c.holder-2.ensures ∙ ap (λ (l : LockRows). holder_in l e High) c.locks-locks.ensures.locks ∙ ap (λ (t : Standing). t.holder e High) c.control.ensures.standing) i;
      is_open = c.open_of.ensures i;
    }
