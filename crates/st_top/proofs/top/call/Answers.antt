use Rattle.std.proofs.Common.{map}
use Rattle.std.specs.Prelude.{string_bytes}
use Rattle.st_top.specs.Answer.{SourceState, SinkState}
use Rattle.st_top.specs.Ways.{way_of}
use Rattle.st_top.proofs.Endings.{after_fault, call_well, read_fault, write_fault, written_ends}
use Rattle.st_top.proofs.top.call.Goals as goal

pub returns-in-Ok-clause-ends : goal.returns-in-Ok-clause-ends
returns-in-Ok-clause-ends g c =
    let way = way_of (map string_bytes c.args.words.now) in
    let old : SourceState = record { left = g.S.Source.left c.args.source.now; faults = g.S.Source.faults c.args.source.now } in
    let new : SourceState = record { left = g.S.Source.left c.prepare.new.source; faults = g.S.Source.faults c.prepare.new.source } in
    let before : SinkState = record { held = g.K.Sink.held c.args.sink.now; faults = g.K.Sink.faults c.args.sink.now } in
    let now : SinkState = record { held = g.K.Sink.held c.write_ending.new.sink; faults = g.K.Sink.faults c.write_ending.new.sink } in
    let ends = written_ends way old new before now c.in-Ok.ending c.write_ending.result c.in-Ok.ensures.comes c.write_ending.ensures in
    ends

pub returns-in-Ok-clause-complete : goal.returns-in-Ok-clause-complete
returns-in-Ok-clause-complete g c =
    let way = way_of (map string_bytes c.args.words.now) in
    let old : SourceState = record { left = g.S.Source.left c.args.source.now; faults = g.S.Source.faults c.args.source.now } in
    let new : SourceState = record { left = g.S.Source.left c.prepare.new.source; faults = g.S.Source.faults c.prepare.new.source } in
    let before : SinkState = record { held = g.K.Sink.held c.args.sink.now; faults = g.K.Sink.faults c.args.sink.now } in
    let now : SinkState = record { held = g.K.Sink.held c.write_ending.new.sink; faults = g.K.Sink.faults c.write_ending.new.sink } in
    let ends = written_ends way old new before now c.in-Ok.ending c.write_ending.result c.in-Ok.ensures.comes c.write_ending.ensures in
    λ can still kept. call_well way old new before now (record { journals = c.write_ending.result.journals; logs = c.write_ending.result.logs }) c.write_ending.result.status ends can still kept

pub returns-in-Ok-clause-read_counted : goal.returns-in-Ok-clause-read_counted
returns-in-Ok-clause-read_counted g c =
    let way = way_of (map string_bytes c.args.words.now) in
    let old : SourceState = record { left = g.S.Source.left c.args.source.now; faults = g.S.Source.faults c.args.source.now } in
    let new : SourceState = record { left = g.S.Source.left c.prepare.new.source; faults = g.S.Source.faults c.prepare.new.source } in
    let before : SinkState = record { held = g.K.Sink.held c.args.sink.now; faults = g.K.Sink.faults c.args.sink.now } in
    let now : SinkState = record { held = g.K.Sink.held c.write_ending.new.sink; faults = g.K.Sink.faults c.write_ending.new.sink } in
    let ends = written_ends way old new before now c.in-Ok.ending c.write_ending.result c.in-Ok.ensures.comes c.write_ending.ensures in
    λ rose. after_fault way old new before now (record { journals = c.write_ending.result.journals; logs = c.write_ending.result.logs }) c.write_ending.result.status ends rose

pub returns-in-Ok-clause-read_told : goal.returns-in-Ok-clause-read_told
returns-in-Ok-clause-read_told g c =
    let way = way_of (map string_bytes c.args.words.now) in
    let old : SourceState = record { left = g.S.Source.left c.args.source.now; faults = g.S.Source.faults c.args.source.now } in
    let new : SourceState = record { left = g.S.Source.left c.prepare.new.source; faults = g.S.Source.faults c.prepare.new.source } in
    let before : SinkState = record { held = g.K.Sink.held c.args.sink.now; faults = g.K.Sink.faults c.args.sink.now } in
    let now : SinkState = record { held = g.K.Sink.held c.write_ending.new.sink; faults = g.K.Sink.faults c.write_ending.new.sink } in
    let ends = written_ends way old new before now c.in-Ok.ending c.write_ending.result c.in-Ok.ensures.comes c.write_ending.ensures in
    λ same below is. read_fault way old new before now (record { journals = c.write_ending.result.journals; logs = c.write_ending.result.logs }) c.write_ending.result.status ends same below is

pub returns-in-Ok-clause-write_told : goal.returns-in-Ok-clause-write_told
returns-in-Ok-clause-write_told g c =
    let way = way_of (map string_bytes c.args.words.now) in
    let old : SourceState = record { left = g.S.Source.left c.args.source.now; faults = g.S.Source.faults c.args.source.now } in
    let new : SourceState = record { left = g.S.Source.left c.prepare.new.source; faults = g.S.Source.faults c.prepare.new.source } in
    let before : SinkState = record { held = g.K.Sink.held c.args.sink.now; faults = g.K.Sink.faults c.args.sink.now } in
    let now : SinkState = record { held = g.K.Sink.held c.write_ending.new.sink; faults = g.K.Sink.faults c.write_ending.new.sink } in
    let ends = written_ends way old new before now c.in-Ok.ending c.write_ending.result c.in-Ok.ensures.comes c.write_ending.ensures in
    λ same below is. write_fault way old new before now (record { journals = c.write_ending.result.journals; logs = c.write_ending.result.logs }) c.write_ending.result.status ends same below is
