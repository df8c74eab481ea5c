-- The step tells that the writer's links are all of its line, and what was seen of it is among them.
use Rattle.std.proofs.Common.{◌≡◌, ap, sym, ◌∙◌, subst, List, filter_map}
use mathlib.Core.List.{IsPrefix}
use Rattle.st_line.specs.declared.link.Link.{Link}
use Rattle.st_line.specs.LineInside.{entries_of, last_line, links_of}
use Rattle.st_line.specs.Lines.{LineName}
use Rattle.st_line.proofs.Chains.{entries_prefix, later, looks_moves}
use Rattle.st_line.proofs.writer.Writer.has_all.Goals as goal

pub compare_exchange-requires : goal.compare_exchange-requires
compare_exchange-requires g c =
    let inv = c.self.invariant in
    let h = inv.head in
    let book = ap (λ s. s.book) c.again-seen.ensures in (
      ap (λ w. w.tracked) h,
      c.learn.ensures.0 ∙ (book ∙ sym (ap (λ w. w.book) h)),
      inv.book ∙ sym (ap (λ w. w.book) h),
      c.plain-offer.ensures.0,
      rw (ap (λ w. w.key) h) (looks_moves c.learn.new.self.log c.self.inside.right.nib c.plain-offer.result.state c.plain-offer.result.ask inv.right),
    )

pub returns-clause-all : goal.returns-clause-all
returns-clause-all g c =
    let k = last_line c.self.inside.named.log in
    let mine = c.self.inside.seen.log in
    let seen = c.log.inside.seen.log in
    let both = c.learn.new.self.log in
    let now = c.compare_exchange.new.seen.log in
    let same : last_line c.log.inside.named.log ≡ k = ap (λ r. r.book.key) c.log.view_is ∙ (ap (λ (n : LineName). n.key) c.requires ∙ sym (ap (λ r. r.book.key) c.self.view_is)) in
    let log : entries_of k seen ≡ c.args.log.now.log = ap (λ j. entries_of j seen) (sym same) ∙ ap (λ r. r.log) c.log.view_is in
    let begins : IsPrefix mine both = subst (λ s. IsPrefix s.log both) c.again-seen.ensures c.learn.ensures.2 in
    let all : links_of k now ≡ links_of k mine = c.compare_exchange.ensures.7.1 k mine begins (sym c.self.invariant.next) in
    let entries : entries_of k now ≡ entries_of k mine = ap (filter_map (λ (l : Link g.row.E.Denot). l.entry)) all in
    subst (λ (xs : List g.row.E.Denot). IsPrefix xs (entries_of k mine)) log
    (subst (λ (ys : List g.row.E.Denot). IsPrefix (entries_of k seen) ys) entries (entries_prefix k seen now (later seen both now c.learn.ensures.3 c.compare_exchange.ensures.6)))
