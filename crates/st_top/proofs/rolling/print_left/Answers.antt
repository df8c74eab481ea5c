use Rattle.std.proofs.Common.{[], ◌∷◌, codes, decimal}
use Rattle.st_text.proofs.PrintLemmas.{ok_by}
use Rattle.st_net.specs.declared.entity.Entity.TheVariants.{Device}
use Rattle.st_net.specs.Groups.{name_of}
use Rattle.st_top.specs.Rolling.{why_words}
use Rattle.st_top.proofs.TextLines.{line_added}
use Rattle.st_top.proofs.rolling.print_left.Goals as goal

pub returns : goal.returns
returns c =
    let left = c.args.left.now in
    ok_by c.word.result (λ end. line_added c.args.out.now c.begin_line.new.out c.print_why.new.out c.word.new.self (codes "left") (decimal c.args.number ∷ name_of c.args.topo.now (Device left.device) ∷ []) (why_words c.args.topo.now c.args.apps.now left.why) (rw c.entity_name-name.ensures at c.in_ok-begin_line.ensures.ok) c.in_ok-print_why.ensures end) c.word.ensures.ok
