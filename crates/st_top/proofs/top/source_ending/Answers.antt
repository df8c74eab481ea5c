use Rattle.std.proofs.lemmas.Result.{IfOk-weaker}
use Rattle.st_io.specs.declared.reading.ReadEnd.{ReadEnd}
use Rattle.st_io.specs.Input.{ReadsInput}
use Rattle.st_top.proofs.Endings.{end_comes}
use Rattle.std.proofs.Common.{refl, subst}
use Rattle.st_top.proofs.top.source_ending.Goals as goal

pub returns-in-End-clause-comes : goal.returns-in-End-clause-comes
returns-in-End-clause-comes g c =
    let old = c.args.source.now in
    let new = c.read_all.new.source in
    let read = subst (λ (e : ReadEnd). ReadsInput (g.S.Source.left old) (g.S.Source.left new) (g.S.Source.faults old) (g.S.Source.faults new) c.in_ok-input.input.bytes.items e) c.in-End.is c.in_ok-input.ensures.input in
    let bytes = c.in_ok-input.input.bytes.items in
    IfOk-weaker _ _ _ (λ ending is. end_comes c.args.reading (record { left = g.S.Source.left old; faults = g.S.Source.faults old }) (record { left = g.S.Source.left new; faults = g.S.Source.faults new }) bytes bytes ending read refl is) (c.requires.gives c.in_ok-input.input.bytes c.decide.result c.decide.ensures)
