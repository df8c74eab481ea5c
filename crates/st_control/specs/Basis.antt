-- A check away from its checker: the basis that a proposal is judged on, and the judgement of a basis.
use Rattle.std.specs.Prelude.{◌≡◌, ℕ, ◌+◌, ◌<◌, ◌≤◌, Bool, List, take, length, Option}
use Rattle.st_net.specs.declared.promise.Broken.{Broken}
use Rattle.st_net.specs.Groups.{Group}
use Rattle.st_net.specs.Merge.{without_altered}
use Rattle.st_net.specs.Demands.{first_broken_of}
use Rattle.st_net.specs.Sets.{Marks, MarksOf, is_in}
use Rattle.st_event.specs.Proposals.{first_rows}
use Rattle.st_event.specs.Standing.{sure_in}
use Rattle.st_overlay.specs.Values.{value_in}
use Rattle.st_promise.specs.Book.{AreNeedsOf, AreKept, held_asks}
use Rattle.st_promise.specs.ToFirst.{told_to}
use Rattle.st_control.specs.Control.{ControlView, standing_in}

-- a group and what its asks need; a ticket; the sure entities, and those that the proposal leaves as they are; and which asks were known
-- to hold while these are up
pub record BasisView : Type 0 where
  pub group : Group
  pub needs : List ℕ
  pub ticket : ℕ
  pub sure : Marks
  pub after : Marks
  pub known : List Bool

-- the needs are those of the group, each set has a mark for each entity of the group, and what is known to hold holds
pub record IsBasis (b : BasisView) : Type 0 where
  pub needs : AreNeedsOf b.group b.needs
  pub ticket : 0 < b.ticket
  pub sure : MarksOf b.group b.sure
  pub after : MarksOf b.group b.after
  pub known : AreKept b.group (is_in b.after) b.known

-- the group, the ticket and the sets of a basis; the first demand that holds in the one set and not in the other; and of each ask up to
-- that of this demand whether it holds in the other
pub record JudgedView : Type 0 where
  pub group : Group
  pub ticket : ℕ
  pub sure : Marks
  pub after : Marks
  pub first : Option Broken
  pub holds : List Bool

pub record IsJudged (j : JudgedView) : Type 0 where
  pub ticket : 0 < j.ticket
  pub sure : MarksOf j.group j.sure
  pub after : MarksOf j.group j.after
  pub first : j.first ≡ first_broken_of j.group (is_in j.sure) (is_in j.after)
  pub holds : j.holds ≡ take (told_to j.group j.first) (held_asks j.group (is_in j.after))

-- the judgement is of this basis
pub record IsJudgedOf (b : BasisView) (j : JudgedView) : Type 0 where
  pub group : j.group ≡ b.group
  pub ticket : j.ticket ≡ b.ticket
  pub sure : j.sure ≡ b.sure
  pub after : j.after ≡ b.after

-- the basis is what the oldest proposal of this checker is judged on
pub record IsBasisOf (k : ControlView) (b : BasisView) : Type 0 where
  pub group : b.group ≡ k.group
  pub oldest : b.ticket ≡ length k.store.decided + 1
  pub given : b.ticket ≤ k.store.tickets
  pub sure : is_in b.sure ≡ sure_in k.group (standing_in k)
  pub after : is_in b.after ≡ without_altered k.group (sure_in k.group (standing_in k)) (value_in k.store.target) (first_rows k.store.pending)
