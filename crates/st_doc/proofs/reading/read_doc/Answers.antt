use Rattle.std.proofs.Common.{sym, subst, take, map}
use Rattle.std.proofs.lemmas.List.{length-take-le}
use Rattle.std.proofs.lemmas.Result.{IfOk-weaker}
use Rattle.st_text.specs.Lines.{line_in, AreLinesOf}
use Rattle.st_grammar.specs.Reading.{declared_on}
use Rattle.st_grammar.proofs.FirstBad.{tells}
use Rattle.st_grammar.proofs.SoundDocs.{read_sound}
use Rattle.st_doc.proofs.JournalPlaces.{count_low, read_exact, read_placed}
use Rattle.st_doc.proofs.reading.read_doc.Goals as goal

pub slice_bounds-read_at-end : goal.slice_bounds-read_at-end
slice_bounds-read_at-end c =
    let low = count_low c.args.journals c.args.bytes.now c.as_slice-places.result.now c.in_ok-count.count c.in_ok-count.ensures in
    sym (length-take-le c.in_ok-count.count c.as_slice-places.result.now low)

pub place_behind-requires-clause-behind : goal.place_behind-requires-clause-behind
place_behind-requires-clause-behind c = count_low c.args.journals c.args.bytes.now c.as_slice-places.result.now c.in_ok-count.count c.in_ok-count.ensures

pub returns-clause-exact : goal.returns-clause-exact
returns-clause-exact c =
    let are = subst (AreLinesOf c.args.bytes.now) (sym c.as_slice-places.ensures.value) c.in_ok-places.ensures in
    read_exact c.read_at.result c.args.journals c.args.bytes.now c.as_slice-places.result.now c.in_ok-count.count c.place_behind.result c.new.result are c.in_ok-count.ensures c.place_behind.ensures c.new.ensures c.read_at.ensures

pub returns-clause-tells : goal.returns-clause-tells
returns-clause-tells c = IfOk-weaker _ _ _ (λ read. tells c.args.journals c.args.bytes.now read) (returns-clause-exact c)

pub returns-clause-sound : goal.returns-clause-sound
returns-clause-sound c = IfOk-weaker _ _ _ (λ read. read_sound c.args.journals c.args.bytes.now read) (returns-clause-exact c)

pub returns-clause-within : goal.returns-clause-within
returns-clause-within c =
    let are = subst (AreLinesOf c.args.bytes.now) (sym c.as_slice-places.ensures.value) c.in_ok-places.ensures in
    let declared = declared_on c.new.result (map (line_in c.args.bytes.now) (take c.in_ok-count.count c.as_slice-places.result.now)) in
    read_placed c.read_at.result c.args.bytes.now c.as_slice-places.result.now c.in_ok-count.count c.place_behind.result declared are c.place_behind.ensures c.read_at.ensures
