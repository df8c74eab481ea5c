use Rattle.std.proofs.Common.{◌∙◌, map, sym}
use Rattle.std.specs.Prelude.{string_bytes}
use Rattle.std.proofs.lemmas.Result.{IfOk-weaker}
use Rattle.st_top.specs.Ways.{way_of}
use Rattle.st_top.proofs.Endings.{tree_comes, unread}
use Rattle.st_top.proofs.top.prepare.Goals as goal

pub returns-in-Makes-clause-comes : goal.returns-in-Makes-clause-comes
returns-in-Makes-clause-comes g c =
    let way = way_of (map string_bytes c.args.words.now) in
    IfOk-weaker _ _ _ (λ ending is. tree_comes way c.in-Makes.task c.in-Makes.tree (record { left = g.S.Source.left c.args.source.now; faults = g.S.Source.faults c.args.source.now }) ending (sym c.in_ok-way_asked.ensures ∙ c.in-Makes.is) is) c.tree_ending.ensures

pub returns-in-Makes-clause-idle : goal.returns-in-Makes-clause-idle
returns-in-Makes-clause-idle g c = λ is. unread (record { left = g.S.Source.left c.args.source.now; faults = g.S.Source.faults c.args.source.now })
