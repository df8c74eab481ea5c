use Rattle.std.proofs.Common.{sym, subst}
use Rattle.st_net.specs.Sets.{Marks, MarksOf, is_in}
use Rattle.st_promise.specs.Book.{AreFailing}
use Rattle.st_promise.proofs.FailingLaws.{found_kept}
use Rattle.st_promise.proofs.book.Book.keep_failing.Goals.{in-Ok+in-Some-1, in-Ok+in-None-1, in_default}
use Rattle.st_promise.proofs.book.Book.keep_failing.Goals as goal

pub invariant_of-self : goal.invariant_of-self
invariant_of-self c =
    elim c.match-copy.branch [
      | in-Ok+in-Some-1 w ↦ rw w.self-inside-is (record {
        flows = c.self.invariant.flows;
        lists_each = c.self.invariant.lists_each;
        entered = c.self.invariant.entered;
        failing = found_kept c.args.topo.now _ _ _ _ c.args.self.now (record { up = w.in-Ok.up; marks = c.args.marks }) c.self.view_is c.requires.book (subst (λ (s : Marks). MarksOf c.args.topo.now s) (sym w.in-Ok.ensures) c.requires.marks) c.requires.count (subst (λ (s : Marks). AreFailing c.args.topo.now (is_in s) c.args.marks.items) (sym w.in-Ok.ensures) c.requires.fails);
      })
      | in-Ok+in-None-1 w ↦ rw w.self-inside-is (record {
        flows = c.self.invariant.flows;
        lists_each = c.self.invariant.lists_each;
        entered = c.self.invariant.entered;
        failing = found_kept c.args.topo.now _ _ _ _ c.args.self.now (record { up = w.in-Ok.up; marks = c.args.marks }) c.self.view_is c.requires.book (subst (λ (s : Marks). MarksOf c.args.topo.now s) (sym w.in-Ok.ensures) c.requires.marks) c.requires.count (subst (λ (s : Marks). AreFailing c.args.topo.now (is_in s) c.args.marks.items) (sym w.in-Ok.ensures) c.requires.fails);
      })
      | in_default w ↦ rw w.self-inside-is c.self.invariant
    ]
