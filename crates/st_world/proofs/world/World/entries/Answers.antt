use Rattle.std.proofs.Common.{◌≡◌, ◌≤◌, List, length, reverse, ap, sym, subst, arith}
use Rattle.st_event.specs.declared.journal.Entry.{Entry}
use Rattle.st_event.specs.declared.journal.TheConstants.{MAX_ENTRIES}
use Rattle.st_event.specs.Legal.{IsLegal}
use Rattle.st_world.specs.World.{WorldView}
use Rattle.st_world.proofs.WorldLaws.{few_items}
use Rattle.st_world.proofs.world.World.entries.Goals as goal

few_made : (w : WorldView) (items : List Entry) → IsLegal w.history.group w.history.past → reverse items ≡ w.history.past → length items ≤ MAX_ENTRIES
few_made w items legal same = few_items w.history.group items (subst (IsLegal w.history.group) (sym same) legal)

pub overflow_cast-result : goal.overflow_cast-result
overflow_cast-result c = omega (arith, c.len.ensures, few_made c.args.self.now c.self.inside.journal.items c.is_legal.ensures.legal (ap (λ (w : WorldView). w.history.past) c.self.view_is))

pub returns-clause-few : goal.returns-clause-few
returns-clause-few c = omega (arith, c.len.ensures, few_made c.args.self.now c.self.inside.journal.items c.is_legal.ensures.legal (ap (λ (w : WorldView). w.history.past) c.self.view_is))
