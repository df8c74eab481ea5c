-- Of no concern to callers: the fields of a store, and what they keep.
use Rattle.std.specs.Prelude.{◌≡◌, ℕ, ◌+◌, ◌≤◌, ◌<◌, List, length, map, slice_index_or, All}
use Rattle.st_event.specs.declared.event.Proposal.{Proposal}
use Rattle.st_event.specs.declared.journal.TheConstants.{MAX_PENDING}
use Rattle.st_overlay.specs.Values.{Values, IsRowIn}
use Rattle.st_store.specs.declared.pending.Pending.{Pending}
use Rattle.st_store.specs.declared.store.Store.TheInside.{Inside}
use Rattle.st_store.specs.Store.{StoreView, IsCounted, proposal_of}

abbrev pub store_of : Inside → StoreView
store_of s = record {
  pending = map proposal_of s.queue.items;
  tickets = s.tickets;
  decided = s.decided.items;
  version = s.versions.version;
  target = s.versions.target;
  versions = s.versions.changes;
  observed = s.observed.items;
}

-- the tickets from one on, in order
abbrev pub AreNumbered : ℕ → List Pending → Type 0
AreNumbered before queue = (k : ℕ) (d : Pending) → k < length queue → (slice_index_or queue k d).ticket ≡ before + k + 1

-- the table has the rows of a proposal
abbrev pub FitsTable : Values → Proposal → Type 0
FitsTable t p = All (IsRowIn t) p.rows

-- rows that the target has, a report for each entity, and numbers that count what they say
pub record IsConsistent (queue : List Pending) (s : StoreView) : Type 0 where
  pub numbered : AreNumbered (length s.decided) queue
  pub fits : All (FitsTable s.target) s.pending
  pub counts : IsCounted s
  pub few : length s.pending ≤ MAX_PENDING
  pub reports : length s.observed ≡ length s.target.devices + length s.target.links
