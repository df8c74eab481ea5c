-- A store as contracts see it, and what one call of it does.
use Rattle.std.specs.Prelude.{◌≡◌, ℕ, ◌+◌, ◌<◌, ◌≤◌, ◌^◌, ◌⊎◌, nat_lt, Bool, List, [], ◌∷◌, ◌++◌, length, drop, if◌then◌else◌, Some}
use Rattle.st_net.specs.declared.entity.Entity.{Entity}
use Rattle.st_net.specs.declared.entity.Row.{Row}
use Rattle.st_net.specs.declared.entity.Var.{Var}
use Rattle.st_net.specs.declared.message.Report.{Report}
use Rattle.st_net.specs.Groups.{Group}
use Rattle.st_net.specs.Merge.{merge_of, target_with}
use Rattle.st_event.specs.declared.event.Proposal.{Proposal}
use Rattle.st_event.specs.declared.journal.TheConstants.{MAX_PENDING}
use Rattle.st_net.specs.Reports.{opening_report, later_report}
use Rattle.st_event.specs.Proposals.{first_rows}
use Rattle.st_overlay.specs.Values.{Values, IsTableOf, value_in}
use Rattle.st_store.specs.declared.pending.Pending.{Pending}
use Rattle.st_store.specs.declared.pending.Put.{Put}
use Rattle.st_store.specs.declared.pending.Put.TheVariants.{Ticket, Full}
use Rattle.st_store.specs.declared.reports.Keep.{Keep}
use Rattle.st_store.specs.declared.reports.Keep.TheVariants.{Taken, Old}
use Rattle.st_store.specs.declared.store.ValueAt.{ValueAt}
use Rattle.st_store.specs.declared.store.ValueAt.TheVariants.{Value, NoVersion}
use Rattle.st_store.specs.Changes.{ChangeLists, value_at, values_with}
use Rattle.st_net.specs.InOrder.{report_in}
use Rattle.st_store.specs.Reports.{keep_answer}

-- the proposals that wait, the oldest first; how many tickets were given; the entries that decided tickets 1, 2, 3 and so on; the version,
-- which is how many overlays were merged; the target; what it was at each version; and a report for each entity, in the order of entities
pub record StoreView : Type 0 where
  pub pending : List Proposal
  pub tickets : ℕ
  pub decided : List ℕ
  pub version : ℕ
  pub target : Values
  pub versions : ChangeLists
  pub observed : List Report

-- values and a report for each entity of the group
pub record IsStoreOf (g : Group) (s : StoreView) : Type 0 where
  pub table : IsTableOf g s.target
  pub reports : length s.observed ≡ length g.devices + length g.links

-- each ticket was decided or waits, and their number fits 32 bits
pub record IsCounted (s : StoreView) : Type 0 where
  pub counted : length s.decided + length s.pending ≡ s.tickets
  pub fits : s.tickets < 2 ^ 32

-- nothing was proposed, and nothing heard
pub record IsStart (g : Group) (s : StoreView) : Type 0 where
  pub of : IsStoreOf g s
  pub pending : s.pending ≡ []
  pub tickets : s.tickets ≡ 0
  pub decided : s.decided ≡ []
  pub version : s.version ≡ 0
  pub target : value_in s.target ≡ merge_of g []
  pub versions : value_at s.versions ≡ (λ v. merge_of g [])
  pub observed : report_in g s.observed ≡ opening_report g

abbrev pub proposal_of : Pending → Proposal
proposal_of p = record { app = p.app; rows = p.rows }

-- a ticket that was given and waits, and one that was never given
pub record IsWaiting (s : StoreView) (ticket : ℕ) : Type 0 where
  pub undecided : length s.decided < ticket
  pub given : ticket ≤ s.tickets

abbrev pub IsNeverGiven : StoreView → ℕ → Type 0
IsNeverGiven s ticket = (ticket ≡ 0) ⊎ (s.tickets < ticket)

-- a proposal that waits first, under the first ticket that is not decided
pub record IsOldest (s : StoreView) (p : Pending) : Type 0 where
  pub ticket : p.ticket ≡ length s.decided + 1
  pub first : s.pending ≡ proposal_of p ∷ drop 1 s.pending

-- the answer to a proposal: it is dropped exactly where MAX_PENDING wait
abbrev pub put_answer : StoreView → Put
put_answer s = if nat_lt (length s.pending) MAX_PENDING then Ticket (s.tickets + 1) else Full (length s.pending)

-- the store after that answer
abbrev pub store_put : Put → StoreView → Proposal → StoreView
store_put (Ticket ticket) s p = record s { pending = s.pending ++ p ∷ []; tickets = ticket }
store_put (Full pending) s p = s

-- the oldest proposal is decided by an entry, and merged as the next version where it is accepted
pub record Decides (old new : StoreView) (entry : ℕ) (accept : Bool) : Type 0 where
  pub pending : new.pending ≡ drop 1 old.pending
  pub tickets : new.tickets ≡ old.tickets
  pub decided : new.decided ≡ old.decided ++ entry ∷ []
  pub version : new.version ≡ (if accept then old.version + 1 else old.version)
  pub target : value_in new.target ≡ (if accept then target_with (value_in old.target) (first_rows old.pending) else value_in old.target)
  pub versions : value_at new.versions ≡ (if accept then values_with (value_at old.versions) old.version (first_rows old.pending) else value_at old.versions)
  pub observed : new.observed ≡ old.observed
  pub of : (g : Group) → IsStoreOf g old → IsStoreOf g new

-- rows are merged as the next version, and all else stays
pub record Withdraws (old new : StoreView) (rows : List Row) : Type 0 where
  pub pending : new.pending ≡ old.pending
  pub tickets : new.tickets ≡ old.tickets
  pub decided : new.decided ≡ old.decided
  pub version : new.version ≡ old.version + 1
  pub target : value_in new.target ≡ target_with (value_in old.target) rows
  pub versions : value_at new.versions ≡ values_with (value_at old.versions) old.version rows
  pub observed : new.observed ≡ old.observed
  pub of : (g : Group) → IsStoreOf g old → IsStoreOf g new

-- the answer for a version: its value, or that it is above the last one
abbrev pub IsValueAt : StoreView → ℕ → Entity → Var → ValueAt → Type 0
IsValueAt s v e x (Value value) = (v ≤ s.version) × (value ≡ value_at s.versions v e x)
IsValueAt s v e x (NoVersion latest) = (s.version < v) × (latest ≡ s.version)

-- of the kept report of an entity and this one, the later is kept
pub record Keeps (g : Group) (old new : StoreView) (report : Report) (keep : Keep) : Type 0 where
  pub answer : keep ≡ keep_answer (report_in g old.observed report.entity) report
  pub observed : report_in g new.observed ≡ (λ e. later_report e (Some report) (report_in g old.observed e))
  pub of : IsStoreOf g new

abbrev pub OldChangesNothing : Keep → StoreView → StoreView → Type 0
OldChangesNothing Taken old new = Unit {0}
OldChangesNothing (Old kept) old new = new ≡ old
