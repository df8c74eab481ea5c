use Rattle.std.proofs.Common.{ℕ, List, refl, inl, inr, subst}
use Rattle.st_io.specs.Output.{Writes}
use Rattle.st_player.proofs.calling.player.Goals as goal

pub returns-in-Ok : goal.returns-in-Ok
returns-in-Ok g c =
    let before = c.args.sink.now in
    let now = c.write_all.new.sink in
    inl (record {
      played = c.in-Ok.played;
      called = c.in-Ok.ensures;
      written = c.write_all.result;
      writes = subst (λ (text : List ℕ). Writes (g.K.Sink.held before) (g.K.Sink.held now) (g.K.Sink.faults before) (g.K.Sink.faults now) text c.write_all.result) c.bytes.ensures c.write_all.ensures.written;
      status_is = c.told.ensures;
    })

pub returns-in-Err : goal.returns-in-Err
returns-in-Err g c = inr (record { status_is = refl; unwritten = refl })
