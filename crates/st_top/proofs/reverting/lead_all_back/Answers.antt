use Rattle.std.proofs.Common.{◌+◌, ◌<◌, ◌∙◌, ap, sym, set, Some, length, arith}
use Rattle.st_world.specs.Rounds.{is_full}
use Rattle.st_serial.specs.Serial.{states_of}
use Rattle.st_top.proofs.LedBack.{told_next, world_full, world_led}
use Rattle.st_top.proofs.reverting.lead_all_back.Goals as goal

pub returns-in-Full-clause-worlds : goal.returns-in-Full-clause-worlds
returns-in-Full-clause-worlds c =
    let low : c.loop-world.world-index < length c.loop-world.worlds = omega (arith, c.loop-world-test.true, c.loop-world.auto.worlds) in
    ap (λ m. record { groups = states_of (set c.loop-world.worlds c.loop-world.world-index c.lead_back.new.world); full = Some m }) c.loop-world.invariant.number
    ∙ world_full c.args.version c.loop-world.world-index c.loop-world.worlds c.world-item.result c.lead_back.new.world c.in_ok-lead_back.field-0 low (c.in_ok-lead_back.ensures.setting, c.in_ok-lead_back.ensures.course) (ap is_full c.in-Full.is)
    ∙ sym c.loop-world.invariant.past

pub loop-world-preserved : goal.loop-world-preserved
loop-world-preserved c =
    let low : c.loop-world.world-index < length c.loop-world.worlds = omega (arith, c.loop-world-test.true, c.loop-world.auto.worlds) in
    record {
      number = ap (λ n. n + 1) c.loop-world.invariant.number;
      past = c.loop-world.invariant.past ∙ sym (world_led c.args.version c.loop-world.world-index c.loop-world.worlds c.world-item.result c.lead_back.new.world c.in_ok-lead_back.field-0 low (c.in_ok-lead_back.ensures.setting, c.in_ok-lead_back.ensures.course) (ap is_full c.in_default.is));
      told = c.loop-world.invariant.told ∙ told_next c.args.version c.loop-world.world-index c.loop-world.worlds c.world-item.result c.lead_back.new.world c.loop-world.out c.lead_back.new.out low c.in_ok-lead_back.ensures.line;
    }
