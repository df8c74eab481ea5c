-- Inside: what a search notes, and what holds of it while it goes on. No public clause speaks of a search.
use Rattle.std.specs.Prelude.{◌≡◌, ◌≢◌, ℕ, ◌+◌, ◌-◌, ◌<◌, ◌≤◌, ◌==◌, nat_lt, Bool, true, List, length, count_by, ℤ, pos, ◌≤ℤ◌, ◌<ℤ◌, ◌⊎◌, slice_index, slice_index_or}
use Rattle.st_flow.specs.declared.direction.Direction.TheVariants.{Against}
use Rattle.st_flow.specs.declared.edge.Edge.{Edge}
use Rattle.st_flow.specs.declared.search.Mark.{Mark}
use Rattle.st_flow.specs.declared.search.Search.{Search}
use Rattle.st_flow.specs.Network.{Network}
use Rattle.st_flow.specs.Residual.{other, room, turned, IsEnd, edge_at, amount_at, IsClosed}

-- the mark of a node that was not reached
abbrev pub no_mark : Mark
no_mark = record { level = 0; edge = 0; width = 0 }

-- the mark of the node y
abbrev pub mark_at : List Mark → ℕ → Mark
mark_at marks y = slice_index_or marks y no_mark

-- the nodes that a search has reached: those with a level
abbrev pub reached : List Mark → ℕ → Bool
reached marks y = nat_lt 0 (mark_at marks y).level

-- the node before y on its way from the start
abbrev pub before : List Edge → List Mark → ℕ → ℕ
before es marks y = other (edge_at es (mark_at marks y).edge) y

-- y was reached from a node of a lower level, by an edge that has room for as much as its mark says
pub record IsStep (es : List Edge) (fs : List ℤ) (marks : List Mark) (y : ℕ) : Type 0 where
  pub edge_in : (mark_at marks y).edge < length es
  pub is_end : IsEnd (edge_at es (mark_at marks y).edge) y
  pub has_room : pos (mark_at marks y).width ≤ℤ room (edge_at es (mark_at marks y).edge) (amount_at fs (mark_at marks y).edge) y
  pub narrows : (mark_at marks y).width ≤ (mark_at marks (before es marks y)).width
  pub from_reached : 0 < (mark_at marks (before es marks y)).level
  pub falls : (mark_at marks (before es marks y)).level < (mark_at marks y).level

-- a search from a
pub record IsSearch (nodes : ℕ) (es : List Edge) (fs : List ℤ) (a limit : ℕ) (marks : List Mark) : Type 0 where
  pub has_nodes : length marks ≡ nodes
  pub starts : 0 < (mark_at marks a).level
  pub start_width : (mark_at marks a).width ≡ limit
  pub steps : (y : ℕ) → 0 < (mark_at marks y).level → y ≢ a → IsStep es fs marks y
  pub wide : (y : ℕ) → 0 < (mark_at marks y).level → 0 < (mark_at marks y).width
  pub within : (y : ℕ) → (mark_at marks y).width ≤ limit
  pub inmost : (s : ℕ → Bool) → s a ≡ true → IsClosed es fs s → (y : ℕ) → 0 < (mark_at marks y).level → s y ≡ true

-- a search with the queue of the nodes that it has reached, each at the place that its level says
pub record IsSearching (nodes : ℕ) (es : List Edge) (fs : List ℤ) (a limit : ℕ) (marks : List Mark) (queue : List ℕ) : Type 0 where
  pub search : IsSearch nodes es fs a limit marks
  pub placed : (y : ℕ) → 0 < (mark_at marks y).level → (mark_at marks y).level ≤ length queue
  pub is_at : (y : ℕ) → 0 < (mark_at marks y).level → slice_index queue ((mark_at marks y).level - 1) ≡ y
  pub listed : (k : ℕ) → k < length queue → 0 < (mark_at marks (slice_index queue k)).level
  pub counted : count_by (λ m. m.level == 0) marks + length queue ≡ nodes

-- edge i leads from x to no node that is not reached
abbrev pub IsScanned : List Edge → List ℤ → List Mark → ℕ → ℕ → Type 0
IsScanned es fs marks x i = IsEnd (edge_at es i) x → pos 0 <ℤ room (edge_at es i) (amount_at fs i) (other (edge_at es i) x) → 0 < (mark_at marks (other (edge_at es i) x)).level

-- a search went on: what it had stays, and what came later has higher levels
pub record Grows (marks new_marks : List Mark) (reached_before : ℕ) : Type 0 where
  pub kept : (y : ℕ) → 0 < (mark_at marks y).level → mark_at new_marks y ≡ mark_at marks y
  pub later : (y : ℕ) → (mark_at marks y).level ≡ 0 → 0 < (mark_at new_marks y).level → reached_before < (mark_at new_marks y).level

-- a search that has looked along the edges of the first `next` nodes of its queue
pub record IsRunning (nodes : ℕ) (es : List Edge) (fs : List ℤ) (a limit next : ℕ) (marks : List Mark) (queue : List ℕ) : Type 0 where
  pub searching : IsSearching nodes es fs a limit marks queue
  pub done : (y : ℕ) → 0 < (mark_at marks y).level → (mark_at marks y).level ≤ next → (i : ℕ) → i < length es → IsScanned es fs marks y i

-- as much as a search was begun for, which its start notes
abbrev pub limit_of : Search → ℕ
limit_of s = (mark_at s.marks.items s.start).width

-- a search of the network g with the amounts fs, as the code keeps it
abbrev pub Runs : Network → List ℤ → Search → Type 0
Runs g fs s = IsRunning g.nodes g.edges fs s.start (limit_of s) s.next s.marks.items s.queue.items

-- the same search, further on
pub record IsFurther (old new : Search) : Type 0 where
  pub start : new.start ≡ old.start
  pub limit : limit_of new ≡ limit_of old

-- two searches of one network have reached no node in common
pub record IsApart (marks across : List Mark) : Type 0 where
  pub same_nodes : length across ≡ length marks
  pub apart : (y : ℕ) → 0 < (mark_at marks y).level → (mark_at across y).level ≡ 0

-- the two searches of a round: one along the flow fs, one against it, and they have reached no node in common
pub record IsRound (g : Network) (fs : List ℤ) (near far : Search) : Type 0 where
  pub along : Runs g fs near
  pub against : Runs g (turned Against fs) far
  pub apart : IsApart near.marks.items far.marks.items

-- edge i leads with room from the node x, which one search has reached, to a node that the search across has reached
pub record IsMeeting (es : List Edge) (fs : List ℤ) (marks across : List Mark) (i x : ℕ) : Type 0 where
  pub edge_in : i < length es
  pub is_end : IsEnd (edge_at es i) x
  pub has_room : pos 0 <ℤ room (edge_at es i) (amount_at fs i) (other (edge_at es i) x)
  pub is_reached : 0 < (mark_at marks x).level
  pub is_met : 0 < (mark_at across (other (edge_at es i) x)).level

-- the ways by which a search came to its nodes
pub record IsTree (es : List Edge) (fs : List ℤ) (a : ℕ) (marks : List Mark) : Type 0 where
  pub starts : 0 < (mark_at marks a).level
  pub steps : (y : ℕ) → 0 < (mark_at marks y).level → y ≢ a → IsStep es fs marks y

-- edge i has an end that was not reached
abbrev pub IsOutside : List Edge → List Mark → ℕ → Type 0
IsOutside es marks i = ((mark_at marks (edge_at es i).u).level ≡ 0) ⊎ ((mark_at marks (edge_at es i).v).level ≡ 0)
