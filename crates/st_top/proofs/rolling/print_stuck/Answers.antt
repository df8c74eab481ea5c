use Rattle.std.proofs.Common.{[], ◌∷◌, codes}
use Rattle.st_text.proofs.PrintLemmas.{ok_by}
use Rattle.st_entry.specs.Causes.{cause_words}
use Rattle.st_net.specs.declared.entity.Entity.TheVariants.{Device}
use Rattle.st_net.specs.Groups.{name_of}
use Rattle.st_top.proofs.TextLines.{line_added}
use Rattle.st_top.proofs.rolling.print_stuck.Goals as goal

pub returns : goal.returns
returns c =
    let stuck = c.args.stuck.now in
    ok_by c.word.result (λ end. line_added c.args.out.now c.begin_line.new.out c.print_cause.new.out c.word.new.self (codes "stuck") (name_of c.args.topo.now (Device stuck.device) ∷ []) (cause_words c.args.topo.now c.args.apps.now stuck.cause) (rw c.entity_name-name.ensures at c.in_ok-begin_line.ensures.ok) c.in_ok-print_cause.ensures end) c.word.ensures.ok
