use Rattle.std.proofs.Common.{◌≡◌, refl, ap, ◌∙◌, inl, map, subst}
use Rattle.std.specs.Prelude.{false, string_bytes}
use Rattle.std.proofs.KnownBytes.{Keeps-refl}
use Rattle.st_replay.specs.declared.status.Status.TheVariants.{OutOfMemory}
use Rattle.st_top.specs.Answer.{EndsWith, IsUnread, Results, SinkState, SourceState, no_results}
use Rattle.st_top.specs.Program.{words_in}
use Rattle.st_top.specs.Ways.{is_read_on, way_of}
use Rattle.st_replay.specs.Statuses.{exit_code_of}
use Rattle.st_top.proofs.program.run_program.Goals as goal

pub returns-in-Err-clause-ends : goal.returns-in-Err-clause-ends
returns-in-Err-clause-ends g c = record {
  status = OutOfMemory;
  results = no_results;
  ends = (inl (record { held = Keeps-refl (g.K.Sink.held c.args.sink.now); none = refl }), refl);
  exit = c.ended-in-Err.ensures ∙ ap exit_code_of c.out_of_memory.ensures.status;
}

pub returns-in-Err-clause-idle : goal.returns-in-Err-clause-idle
returns-in-Err-clause-idle g c = λ none. record { left = Keeps-refl (g.S.Source.left c.args.source.now); faults = refl }

pub returns-in-Ok-clause-ends : goal.returns-in-Ok-clause-ends
returns-in-Ok-clause-ends g c =
    let old : SourceState = record { left = g.S.Source.left c.args.source.now; faults = g.S.Source.faults c.args.source.now } in
    let new : SourceState = record { left = g.S.Source.left c.statesman.new.source; faults = g.S.Source.faults c.statesman.new.source } in
    let before : SinkState = record { held = g.K.Sink.held c.args.sink.now; faults = g.K.Sink.faults c.args.sink.now } in
    let now : SinkState = record { held = g.K.Sink.held c.statesman.new.sink; faults = g.K.Sink.faults c.statesman.new.sink } in
    let results : Results = record { journals = c.statesman.result.journals; logs = c.statesman.result.logs } in
    let words : map string_bytes c.as_slice.result.now ≡ words_in c.args.args = ap (map string_bytes) c.as_slice.ensures.value ∙ c.in-Ok.ensures in
    record {
      status = c.statesman.result.status;
      results = results;
      ends = subst (λ ws. EndsWith ws old new before now results c.statesman.result.status) words c.statesman.ensures.ends;
      exit = c.ended.ensures;
    }

pub returns-in-Ok-clause-idle : goal.returns-in-Ok-clause-idle
returns-in-Ok-clause-idle g c =
    let old : SourceState = record { left = g.S.Source.left c.args.source.now; faults = g.S.Source.faults c.args.source.now } in
    let new : SourceState = record { left = g.S.Source.left c.statesman.new.source; faults = g.S.Source.faults c.statesman.new.source } in
    let words : map string_bytes c.as_slice.result.now ≡ words_in c.args.args = ap (map string_bytes) c.as_slice.ensures.value ∙ c.in-Ok.ensures in
    subst (λ ws. is_read_on (way_of ws) ≡ false → IsUnread old new) words c.statesman.ensures.idle
