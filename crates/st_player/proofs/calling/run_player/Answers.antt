use Rattle.std.proofs.Common.{ℕ, Option, refl, inr, subst}
use Rattle.st_replay.specs.declared.status.Status.TheVariants.{OutOfMemory}
use Rattle.st_player.specs.Calls.{Ends, Stream}
use Rattle.st_player.proofs.calling.run_player.Goals as goal

pub returns-in-Ok : goal.returns-in-Ok
returns-in-Ok g c =
    let old : Stream = record { bytes = g.S.Source.left c.args.source.now; faults = g.S.Source.faults c.args.source.now } in
    let new : Stream = record { bytes = g.S.Source.left c.player.new.source; faults = g.S.Source.faults c.player.new.source } in
    let before : Stream = record { bytes = g.K.Sink.held c.args.sink.now; faults = g.K.Sink.faults c.args.sink.now } in
    let now : Stream = record { bytes = g.K.Sink.held c.player.new.sink; faults = g.K.Sink.faults c.player.new.sink } in
    record {
      status = c.player.result;
      ends = subst (λ (from : Option ℕ). Ends from old new before now c.player.result) c.in-Ok.ensures c.player.ensures;
      exit = c.ended.ensures;
    }

pub returns-in-Err : goal.returns-in-Err
returns-in-Err g c = record {
  status = OutOfMemory;
  ends = inr (record { status_is = refl; unwritten = refl });
  exit = c.ended-in-Err.ensures;
}
