use Rattle.std.proofs.Common.{◌≡◌, ◌++◌, ◌∷◌, [], ap, sym, ◌∙◌, true, is_some}
use Rattle.st_line.specs.LineInside.{entries_of, last_line, head_of, right_of}
use Rattle.st_line.proofs.Chains.{adds_moves, added, next_added}
use Rattle.st_line.proofs.writer.Writer.add.Goals as goal

pub compare_exchange-requires : goal.compare_exchange-requires
compare_exchange-requires g c =
    let inv = c.self.invariant in
    let h = inv.head in
    let offer = c.plain-offer.ensures in
    let ask = c.plain-offer.result.ask in
    let line : ask.line ≡ last_line c.self.inside.named.log = ap (λ l. l.line) offer.1 in
    let some : is_some ask.entry ≡ true = ap (λ l. is_some l.entry) offer.1 in
    let key : right_of ask.line c.self.inside.seen.log ≡ c.self.inside.right.nib.key = ap (λ k. right_of k c.self.inside.seen.log) line ∙ sym inv.next in (
      ap (λ w. w.tracked) h,
      c.deal-next.ensures.book.0 ∙ sym (ap (λ w. w.book) h),
      inv.book ∙ sym (ap (λ w. w.book) h),
      offer.0,
      rw (ap (λ w. w.key) h) (adds_moves c.deal-next.new.seen.log c.self.inside.right.nib c.plain-offer.result.state ask c.self.inside.seen.log inv.right some c.deal-next.ensures.later key),
    )

pub invariant_of-self : goal.invariant_of-self
invariant_of-self g c =
    let inv = c.self.invariant in
    let offer = c.plain-offer.ensures in
    let ask = c.plain-offer.result.ask in
    let k = last_line c.self.inside.named.log in
    let line : ask.line ≡ k = ap (λ l. l.line) offer.1 in
    let book = c.compare_exchange.ensures.0 ∙ c.deal-next.ensures.book.0 in
    let key : right_of ask.line c.self.inside.seen.log ≡ c.self.inside.right.nib.key = ap (λ j. right_of j c.self.inside.seen.log) line ∙ sym inv.next in
    let all = c.compare_exchange.ensures.7 c.self.inside.seen.log c.deal-next.ensures.later key in
    let next : right_of k c.compare_exchange.new.seen.log ≡ c.deal-next.result.nib.key = ap (λ j. right_of j c.compare_exchange.new.seen.log) (sym line) ∙ (next_added ask.line c.self.inside.seen.log c.compare_exchange.new.seen.log ask all ∙ ap (λ l. l.next) offer.1) in
    record {
      head = inv.head ∙ ap head_of (sym book);
      book = c.deal-next.ensures.book.1 ∙ sym book;
      right = c.deal-next.ensures.right;
      next = sym next;
    }

pub returns-clause-log : goal.returns-clause-log
returns-clause-log g c =
    let inv = c.self.invariant in
    let offer = c.plain-offer.ensures in
    let ask = c.plain-offer.result.ask in
    let k = last_line c.self.inside.named.log in
    let line : ask.line ≡ k = ap (λ l. l.line) offer.1 in
    let key : right_of ask.line c.self.inside.seen.log ≡ c.self.inside.right.nib.key = ap (λ j. right_of j c.self.inside.seen.log) line ∙ sym inv.next in
    let all = c.compare_exchange.ensures.7 c.self.inside.seen.log c.deal-next.ensures.later key in
    let entries : entries_of ask.line c.compare_exchange.new.seen.log ≡ entries_of ask.line c.self.inside.seen.log ++ g.M.Tells.entry c.args.about.now ∷ [] = added ask.line c.self.inside.seen.log c.compare_exchange.new.seen.log ask (g.M.Tells.entry c.args.about.now) all (ap (λ l. l.entry) offer.1) in
    let mine : entries_of k c.self.inside.seen.log ≡ c.args.self.now.log = ap (λ r. r.log) c.self.view_is in
    ap (λ j. entries_of j c.compare_exchange.new.seen.log) (sym line) ∙ (entries ∙ (ap (λ j. entries_of j c.self.inside.seen.log ++ g.M.Tells.entry c.args.about.now ∷ []) line ∙ ap (λ es. es ++ g.M.Tells.entry c.args.about.now ∷ []) mine))
