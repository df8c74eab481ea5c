-- The verdict on a proposal by what a checker keeps, in the steps in which a proposal is judged.
use Rattle.std.specs.Prelude.{◌≡◌, Bool, not, ◌&&◌, List, ◌∷◌, drop, Option}
use Rattle.st_net.specs.declared.entity.AppId.{AppId}
use Rattle.st_net.specs.declared.entity.Entity.{Entity}
use Rattle.st_net.specs.declared.entity.Row.{Row}
use Rattle.st_net.specs.declared.promise.Broken.{Broken}
use Rattle.st_net.specs.Groups.{Group}
use Rattle.st_net.specs.Merge.{without_altered, alters, target_with}
use Rattle.st_net.specs.Demands.{first_broken_of}
use Rattle.st_net.specs.Sets.{Marks, MarksOf, is_in}
use Rattle.st_event.specs.declared.event.Proposal.{Proposal}
use Rattle.st_event.specs.declared.reply.Cause.{Cause}
use Rattle.st_event.specs.declared.reply.Verdict.{Verdict}
use Rattle.st_event.specs.Judge.{judge, cause_or, refusal_or_version, first_lack, first_locked}
use Rattle.st_event.specs.Standing.{Standing, sure_in, receipt_in}
use Rattle.st_overlay.specs.Values.{value_in}
use Rattle.st_store.specs.Changes.{value_at}
use Rattle.st_store.specs.Store.{StoreView}
use Rattle.st_control.specs.declared.control.checks.Decision.{Decision}
use Rattle.st_control.specs.declared.control.checks.Weighed.{Weighed}
use Rattle.st_control.specs.Control.{ControlView, standing_in}

-- the verdict on an application's rows, where the group stands as the checker keeps it
abbrev pub verdict_in : Group → Standing → AppId → List Row → Verdict
verdict_in g s app rows = judge g s.observed s.target s.holder (sure_in g s) (without_altered g (sure_in g s) s.target rows) s.version app rows

-- the first steps of a verdict, which look at the rows alone: the first row that can't be set, or else the first whose entity is barred
abbrev pub row_refusal : ControlView → AppId → List Row → Option Cause
row_refusal k app rows = cause_or (first_lack k.group (standing_in k).observed (target_with (value_in k.store.target) rows) rows) (first_locked (standing_in k).holder app rows)

-- the cause to refuse a proposal that its rows give, if they give one, and the entities that the rows alter
pub record AreJudgedIn (k : ControlView) (p : Proposal) (judged : Weighed) : Type 0 where
  pub first : judged.refusal ≡ row_refusal k p.app p.rows
  pub marks : MarksOf k.group judged.changed
  pub altered : is_in judged.changed ≡ alters k.group (value_in k.store.target) p.rows

-- the sure entities that are not marked to change
abbrev pub sure_without : ControlView → Marks → Entity → Bool
sure_without k changed = λ e. sure_in k.group (standing_in k) e && not (is_in changed e)

-- the last step of a verdict: the first demand that holds with the sure entities up, and not without those that change
abbrev pub first_broken_without : ControlView → Marks → Option Broken
first_broken_without k changed = first_broken_of k.group (sure_in k.group (standing_in k)) (sure_without k changed)

-- the cause to refuse a proposal, if there is one, which gives the verdict; and the entities that the rows alter
pub record IsJudgedIn (k : ControlView) (p : Proposal) (judged : Weighed) : Type 0 where
  pub decision : refusal_or_version judged.refusal k.store.version ≡ verdict_in k.group (standing_in k) p.app p.rows
  pub marks : MarksOf k.group judged.changed
  pub altered : is_in judged.changed ≡ alters k.group (value_in k.store.target) p.rows

-- the target has the values of the last version
abbrev pub IsLatest : StoreView → Type 0
IsLatest s = value_at s.versions s.version ≡ value_in s.target

-- a proposal is pending, the oldest gets the receipt that is called for, and the entities are those that its rows alter
pub record IsDue (k : ControlView) (decision : Decision) : Type 0 where
  pub oldest : Proposal
  pub first : k.store.pending ≡ oldest ∷ drop 1 k.store.pending
  pub receipt : decision.receipt ≡ receipt_in k.group (standing_in k) decision.receipt.entry oldest
  pub marks : MarksOf k.group decision.changed
  pub altered : is_in decision.changed ≡ alters k.group (value_in k.store.target) oldest.rows
