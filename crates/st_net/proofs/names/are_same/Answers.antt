use Rattle.std.proofs.Common.{◌≡◌, true, arith}
use Rattle.std.specs.Prelude.{bytes_eq}
use Rattle.std.proofs.lemmas.Slice.Eq.{bytes_eq-Decides}
use Rattle.st_net.proofs.SameLists.{same_one_more}
use Rattle.st_net.proofs.names.are_same.Goals as goal

pub loop-i-preserved : goal.loop-i-preserved
loop-i-preserved c =
    let test : bytes_eq c.index-a-i.result c.index-b-i.result ≡ true = cc in
    same_one_more c.args.a.now c.args.b.now c.loop-i.i c.index-a-i.result c.index-b-i.result (omega arith) (omega arith) c.index-a-i.is c.index-b-i.is ((bytes_eq-Decides c.index-a-i.result c.index-b-i.result).0 test) c.loop-i.invariant
