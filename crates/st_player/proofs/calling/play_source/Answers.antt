use Rattle.std.proofs.Common.{ℕ, List, subst}
use Rattle.std.proofs.lemmas.Result.{IfOk-weaker}
use Rattle.st_io.specs.declared.reading.ReadEnd.{ReadEnd}
use Rattle.st_io.specs.declared.reading.ReadEnd.TheVariants as reads
use Rattle.st_io.specs.Input.{ReadsInput}
use Rattle.st_player.specs.Calls.{Stream}
use Rattle.st_player.specs.Playing.{Plays}
use Rattle.st_player.proofs.ReplayLemmas.{source_comes}
use Rattle.st_player.proofs.calling.play_source.Goals as goal

pub returns-in-End : goal.returns-in-End
returns-in-End g c =
    let old : Stream = record { bytes = g.S.Source.left c.args.source.now; faults = g.S.Source.faults c.args.source.now } in
    let new : Stream = record { bytes = g.S.Source.left c.read_all.new.source; faults = g.S.Source.faults c.read_all.new.source } in
    let bytes = c.in_ok-input.input.bytes.items in
    let read = subst (λ (e : ReadEnd). ReadsInput old.bytes new.bytes old.faults new.faults bytes e) c.in-End.is c.in_ok-input.ensures.input in
    IfOk-weaker _ _ _ (λ played is. source_comes c.args.from old new bytes reads.End played read (subst (λ (bs : List ℕ). Plays c.args.from bs played) c.as_slice.ensures.value is)) c.play.ensures

pub returns-in-Failed : goal.returns-in-Failed
returns-in-Failed g c =
    let old : Stream = record { bytes = g.S.Source.left c.args.source.now; faults = g.S.Source.faults c.args.source.now } in
    let new : Stream = record { bytes = g.S.Source.left c.read_all.new.source; faults = g.S.Source.faults c.read_all.new.source } in
    let bytes = c.in_ok-input.input.bytes.items in
    let read = subst (λ (e : ReadEnd). ReadsInput old.bytes new.bytes old.faults new.faults bytes e) c.in-Failed.is c.in_ok-input.ensures.input in
    IfOk-weaker _ _ _ (λ played is. source_comes c.args.from old new bytes reads.Failed played read (is)) c.fault.ensures

pub returns : goal.returns
returns g c =
    let old : Stream = record { bytes = g.S.Source.left c.args.source.now; faults = g.S.Source.faults c.args.source.now } in
    let new : Stream = record { bytes = g.S.Source.left c.read_all.new.source; faults = g.S.Source.faults c.read_all.new.source } in
    let bytes = c.in_ok-input.input.bytes.items in
    let read = subst (λ (e : ReadEnd). ReadsInput old.bytes new.bytes old.faults new.faults bytes e) c.in-TooLong.is c.in_ok-input.ensures.input in
    IfOk-weaker _ _ _ (λ played is. source_comes c.args.from old new bytes reads.TooLong played read (is)) c.fault-in-TooLong.ensures
