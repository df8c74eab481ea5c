use Rattle.std.proofs.Common.{◌≡◌, ap, sym, ◌∙◌, subst, List}
use mathlib.Core.List.{IsPrefix}
use Rattle.st_line.specs.LineInside.{entries_of, last_line}
use Rattle.st_line.specs.Lines.{LineName}
use Rattle.st_line.proofs.Chains.{entries_prefix}
use Rattle.st_line.proofs.log.Log.learn.Goals as goal

pub returns-clause-mine : goal.returns-clause-mine
returns-clause-mine g c =
    let k = last_line c.self.inside.named.log in
    subst (λ (l : List g.row.E.Denot). IsPrefix l (entries_of k c.learn.new.self.log)) (ap (λ r. r.log) c.self.view_is) (entries_prefix k c.self.inside.seen.log c.learn.new.self.log c.learn.ensures.2)

pub returns-clause-other : goal.returns-clause-other
returns-clause-other g c =
    let k = last_line c.self.inside.named.log in
    let same : last_line c.other.inside.named.log ≡ k = ap (λ r. r.book.key) c.other.view_is ∙ (ap (λ (n : LineName). n.key) c.requires ∙ sym (ap (λ r. r.book.key) c.self.view_is)) in
    let log : entries_of k c.other.inside.seen.log ≡ c.args.other.now.log = ap (λ j. entries_of j c.other.inside.seen.log) (sym same) ∙ ap (λ r. r.log) c.other.view_is in
    subst (λ (l : List g.row.E.Denot). IsPrefix l (entries_of k c.learn.new.self.log)) log (entries_prefix k c.other.inside.seen.log c.learn.new.self.log c.learn.ensures.3)
