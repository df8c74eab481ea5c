use Rattle.std.proofs.Common.{◌<◌, length, arith}
use Rattle.std.proofs.lemmas.Result.{on_ok_weaker}
use Rattle.st_doc.specs.ReaderInside.{draft_of}
use Rattle.st_doc.proofs.WireLemmas.{still_knows, wire_after}
use Rattle.st_doc.proofs.reader.Reader.add_wire.Goals as goal

pub invariant_of-self : goal.invariant_of-self
invariant_of-self c = still_knows (draft_of c.self.inside) c.args.place c.index_mut.result.now c.add_wire.new.self c.self.inside.group_index c.self.inside.app_index c.self.invariant c.index_mut.ensures.value c.add_wire.ensures.name

pub returns-then-place-len : goal.returns-then-place-len
returns-then-place-len c =
    let less : c.args.place < length c.self.inside.groups.items = omega (arith, c.if-place-len.true, c.len.ensures, c.self.inside.groups.ok) in
    on_ok_weaker c.add_wire.result (λ more. wire_after (draft_of c.self.inside) c.args.self.now c.args.place c.index_mut.result.now c.add_wire.new.self c.args.line c.self.view_is less c.index_mut.ensures.value more) c.add_wire.ensures.ok
