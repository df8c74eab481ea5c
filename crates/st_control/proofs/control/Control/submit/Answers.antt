use Rattle.std.proofs.Common.{ℕ, subst, sym}
use Rattle.std.specs.Prelude.{IfOk}
use Rattle.st_net.specs.Ranges.{RowsFit}
use Rattle.st_event.specs.declared.event.Event.TheVariants.{Submit}
use Rattle.st_control.specs.Inside.{checker_of}
use Rattle.st_control.specs.Control.{ControlView, Moves, reply_of_put}
use Rattle.st_control.proofs.RunLaws.{put_ok}
use Rattle.st_control.proofs.StoreLaws.{store_after_put}
use Rattle.st_control.proofs.control.Control.submit.Goals as goal

pub invariant_of-self : goal.invariant_of-self
invariant_of-self c =
    let kept = store_after_put c.self.inside.topo c.self.inside.store c.put.new.self (record { app = c.args.app; rows = c.args.rows }) c.put.result c.self.invariant.store_of c.self.invariant.fits (subst (λ (k : ControlView). RowsFit k.group c.args.rows) (sym c.self.view_is) c.requires.fits) c.put.ensures.store c.put.ensures.err in
    record {
      store_of = kept.of;
      fits = kept.fits;
      lock_rows = c.self.invariant.lock_rows;
      stamp_count = c.self.invariant.stamp_count;
      book_is = c.self.invariant.book_is;
      shared_is = c.self.invariant.shared_is;
    }

pub returns-clause-ok : goal.returns-clause-ok
returns-clause-ok c =
    subst (λ (old : ControlView). IfOk c.put.result (λ put. (n : ℕ) → Moves old (record (checker_of c.self.inside) { store = c.put.new.self }) n (Submit c.args.app c.args.rows) (reply_of_put put))) c.self.view_is
    (put_ok (checker_of c.self.inside) c.put.new.self c.args.app c.args.rows c.put.result c.put.ensures.answer c.put.ensures.store)
