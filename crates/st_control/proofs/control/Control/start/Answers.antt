use Rattle.std.proofs.Common.{refl, sym, ◌∙◌}
use Rattle.st_event.proofs.Versions.{value_at-opening}
use Rattle.st_control.proofs.control.Control.start.Goals as goal

pub returns : goal.returns
returns c =
    let start = c.in_ok-store.ensures.store in
    record {
      group = refl;
      runs = c.in_ok-book.ensures.no_runs;
      standing = rw (start.tickets, start.decided, start.pending, start.version, start.target, start.observed, c.in_ok-store.ensures.opening, c.in_ok-store.ensures.free) refl;
      versions = start.versions ∙ sym (value_at-opening c.args.topo);
    }
