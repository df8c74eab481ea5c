-- Of no concern to callers: the fields of a checker, and what holds of the fields between calls.
use Rattle.std.specs.Prelude.{◌≡◌, length, All}
use Rattle.st_net.specs.Groups.{Group}
use Rattle.st_net.specs.Ranges.{RowsFit}
use Rattle.st_event.specs.declared.event.Proposal.{Proposal}
use Rattle.st_locks.specs.LockRows.{LocksOf}
use Rattle.st_promise.specs.Book.{IsBookOf}
use Rattle.st_store.specs.Store.{IsStoreOf}
use Rattle.st_control.specs.declared.control.Control.TheInside.{Inside}
use Rattle.st_control.specs.Control.{ControlView}
use Rattle.st_net.specs.InOrder.{entity_count}

abbrev pub checker_of : Inside → ControlView
checker_of c = record {
  group = c.topo;
  book = c.book.of;
  flows_run = c.book.flows_run;
  store = c.store;
  locks = c.locks;
  stamps = c.stamps.items;
}

-- the rows of a proposal fit the group
abbrev pub FitsGroup : Group → Proposal → Type 0
FitsGroup g p = RowsFit g p.rows

-- a value, a report, a lock and a stamp for each entity, and the book of the promises; rows that fit; and the group that is shared
pub record IsConsistent (k : ControlView) (shared : Group) : Type 0 where
  pub store_of : IsStoreOf k.group k.store
  pub fits : All (FitsGroup k.group) k.store.pending
  pub lock_rows : LocksOf k.group k.locks
  pub stamp_count : length k.stamps ≡ entity_count k.group
  pub book_is : IsBookOf k.group k.book
  pub shared_is : shared ≡ k.group
