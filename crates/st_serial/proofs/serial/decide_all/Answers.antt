use Rattle.std.proofs.Common.{◌+◌, ◌<◌, ◌∙◌, ap, sym, set, Some, length, arith}
use Rattle.st_world.specs.Rounds.{is_full}
use Rattle.st_serial.specs.Serial.{states_of}
use Rattle.st_serial.proofs.Worlds.{world_full, world_decided}
use Rattle.st_serial.proofs.serial.decide_all.Goals as goal

pub returns-in-Full : goal.returns-in-Full
returns-in-Full c =
    let low : c.loop-world.world-index < length c.loop-world.worlds = omega (arith, c.loop-world-test.true, c.loop-world.auto.worlds) in
    ap (λ m. record { groups = states_of (set c.loop-world.worlds c.loop-world.world-index c.check_all.new.self); full = Some m }) c.loop-world.invariant.number
    ∙ world_full c.loop-world.world-index c.loop-world.worlds c.world-item.result c.check_all.new.self c.in_ok-check_all.field-0 low (c.check_all.ensures.setting, c.in_ok-check_all.ensures.ok) (ap is_full c.in-Full.is)
    ∙ sym c.loop-world.invariant.past

pub loop-world-preserved : goal.loop-world-preserved
loop-world-preserved c =
    let low : c.loop-world.world-index < length c.loop-world.worlds = omega (arith, c.loop-world-test.true, c.loop-world.auto.worlds) in
    record {
      number = ap (λ n. n + 1) c.loop-world.invariant.number;
      past = c.loop-world.invariant.past ∙ sym (world_decided c.loop-world.world-index c.loop-world.worlds c.world-item.result c.check_all.new.self c.in_ok-check_all.field-0 low (c.check_all.ensures.setting, c.in_ok-check_all.ensures.ok) (ap is_full c.in_default.is));
    }
