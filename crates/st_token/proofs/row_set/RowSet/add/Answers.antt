use Rattle.std.proofs.Common.{◌≡◌, List, true, refl, subst, sym}
use Rattle.st_net.specs.declared.entity.Row.{Row}
use Rattle.st_net.specs.Ranges.{is_free_of}
use Rattle.st_token.proofs.RowLemmas.{not_set, row_added}
use Rattle.st_token.proofs.row_set.RowSet.add.Goals as goal

pub add-requires : goal.add-requires
add-requires c = not_set c.args.row _ _ _ _ c.self.invariant c.self.view_is c.variable_of.ensures c.requires.range c.requires.fresh

pub invariant_of-self-2 : goal.invariant_of-self-2
invariant_of-self-2 c = row_added _ _ _ _ c.args.row c.self.invariant (rw (c.push_reserved.ensures.items, c.in_ok-reserve.ensures.items) refl) (rw (c.in_ok-add.ensures.ok, c.variable_of.ensures) refl) c.requires.range
    (subst (λ (rows : List Row). is_free_of c.args.row.entity c.args.row.var rows ≡ true) (sym c.self.view_is) c.requires.fresh)
