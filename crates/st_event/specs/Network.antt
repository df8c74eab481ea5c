-- What the network keeps while it is changed part by part.
use Rattle.std.specs.Prelude.{◌≡◌, ℕ, ◌<◌, Bool, true, false, List, [], ◌∷◌, Some, ◌⊎◌}
use Rattle.st_net.specs.declared.entity.Entity.{Entity}
use Rattle.st_net.specs.declared.message.Report.{Report}
use Rattle.st_event.specs.declared.event.Event.{Event}
use Rattle.st_event.specs.declared.event.Event.TheVariants.{Fail}
use Rattle.st_event.specs.declared.reply.Reply.TheVariants.{Taken}
use Rattle.st_event.specs.declared.journal.Entry.{Entry}
use Rattle.st_net.specs.Groups.{Group}
use Rattle.st_net.specs.Demands.{demand_count, HoldsIn}
use Rattle.st_net.specs.Sets.{IsWithin}
use Rattle.st_net.specs.Numbered.{nth}
use Rattle.st_event.specs.Moments.{heard, reports}
use Rattle.st_event.specs.Observed.{observed, sure, actual, untold, failed_between}

abbrev pub is_fail : Event → Bool
is_fail (Fail e vals health) = true
is_fail _ = false

-- no entity has failed
abbrev pub HasNoFail : List Entry → Type 0
HasNoFail [] = Unit {0}
HasNoFail (entry ∷ past) = (is_fail entry.event ≡ false) × HasNoFail past

-- the demand holds while these entities are up, and also while more are
pub record IsSafe (g : Group) (up : Entity → Bool) (i : ℕ) : Type 0 where
  pub here : HoldsIn g up i
  pub more : (wide : Entity → Bool) → IsWithin up wide → HoldsIn g wide i

-- the entry takes a report, by which its entity leaves the sure set; and the entity failed between the making of the report that was kept
-- before and of this one
pub record NamesLoss (g : Group) (past : List Entry) (entry : Entry) : Type 0 where
  pub report : Report
  pub hears : heard entry.event (nth (reports g past)) ≡ Some report
  pub takes : entry.reply ≡ Taken
  pub was : sure g past report.entity ≡ true
  pub left : sure g (entry ∷ past) report.entity ≡ false
  pub failed : failed_between past report.entity (observed g past report.entity).number report.number ≡ true

-- where the last entry takes a demand from the sure set, it names the loss
abbrev pub LossesNamed : Group → List Entry → Type 0
LossesNamed g [] = Unit {0}
LossesNamed g (entry ∷ past) = (i : ℕ) → i < demand_count g → HoldsIn g (sure g past) i → (HoldsIn g (sure g (entry ∷ past)) i → ⊥) → NamesLoss g past entry

-- a sure entity carries in the network, or failed since the report by which it is known; without a failure each demand that held at the
-- start holds in the sure set, in the network, and whatever else is up; a loss is named
pub record KeepsPromises (g : Group) (past : List Entry) : Type 0 where
  pub sure_is_up : (e : Entity) → sure g past e ≡ true → (actual g past e ≡ true) ⊎ (untold g past e ≡ true)
  pub kept_sure : HasNoFail past → (i : ℕ) → i < demand_count g → HoldsIn g (actual g []) i → IsSafe g (sure g past) i
  pub kept_actual : HasNoFail past → (i : ℕ) → i < demand_count g → HoldsIn g (actual g []) i → HoldsIn g (actual g past) i
  pub losses : LossesNamed g past
