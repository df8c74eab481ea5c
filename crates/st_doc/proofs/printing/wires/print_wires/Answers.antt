use Rattle.std.proofs.Common.{◌≡◌, rules, length}
use Rattle.std.proofs.lemmas.List.{length_push}
use Rattle.std.specs.Iterator.Adapters.{zip_first, zip_second}
use Rattle.std.specs.Slice.Iter.{iter_rest}
use Rattle.std.proofs.lemmas.Slice.Zip.{zip_turn, zip_end}
use Rattle.st_doc.proofs.TextLemmas.{wires_next, wires_end}
use Rattle.st_doc.proofs.printing.wires.print_wires.Goals as goal

pub loop-group-preserved : goal.loop-group-preserved
loop-group-preserved c =
    let first : iter_rest (zip_first c.into_iter-group-iterator.result) ≡ c.args.groups.now = search rules in
    let second : iter_rest (zip_second c.into_iter-group-iterator.result) ≡ c.args.wires.now = search rules in
    let turn = zip_turn c.args.groups.now c.args.wires.now c.loop-group.yielded c.into_iter-group-iterator.result c.loop-group.group-iterator c.next.new.self c.next.result first second c.loop-group.yielded_by (c.in-Some.group, c.in-Some.lines) c.in-Some.is c.next.ensures.steps in
    rw (length_push c.loop-group.yielded (c.in-Some.group, c.in-Some.lines))
    (wires_next c.args.groups.now c.args.wires.now (length c.loop-group.yielded) c.in-Some.group.now c.in-Some.lines.now _ _ _ turn.0 turn.1 (turn.2 c.in-Some.group.now) (turn.3 c.in-Some.lines.now) c.loop-group.invariant
    (rw (c.bytes.ensures.bytes, c.as_slice.ensures) at c.in_ok-print_group_wires.ensures))

pub returns : goal.returns
returns c =
    let first : iter_rest (zip_first c.into_iter-group-iterator.result) ≡ c.args.groups.now = search rules in
    let second : iter_rest (zip_second c.into_iter-group-iterator.result) ≡ c.args.wires.now = search rules in
    let count = zip_end c.args.groups.now c.args.wires.now c.loop-group.yielded c.into_iter-group-iterator.result c.loop-group.group-iterator c.next.new.self c.next.result first second c.loop-group.yielded_by c.in-None.is c.next.ensures.steps in
    wires_end c.args.groups.now c.args.wires.now (length c.loop-group.yielded) _ _ count c.loop-group.invariant
