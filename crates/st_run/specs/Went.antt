-- What commands leave with a pass, whatever became of them, and what they leave where each was done.
use Rattle.std.specs.Prelude.{ℕ, ◌≡◌, ◌+◌, ◌≤◌, ◌<◌, ◌==◌, List, [], ◌∷◌, ◌++◌, length, sum_by, if◌then◌else◌}
use mathlib.Core.List.{IsPrefix}
use Rattle.st_net.specs.Groups.{Group}
use Rattle.st_event.specs.declared.act.Act.{Act}
use Rattle.st_event.specs.declared.journal.TheConstants.{MAX_ENTRIES}
use Rattle.st_wire.specs.declared.line.WireLine.{WireLine}
use Rattle.st_world.specs.Acts.{group_number}
use Rattle.st_service.specs.Acts.{ActFull}
use Rattle.st_service.specs.Kept.{Kept}
use Rattle.st_service.specs.Passes.{Holder, front_at, mine_at}
use Rattle.st_service.specs.Shares.{act_share}
use Rattle.st_run.specs.declared.application.Came.{Came}
use Rattle.st_run.specs.declared.application.Came.TheVariants.{Through, ToFull, OutOfMemory}
use Rattle.st_run.specs.Jobs.{Did}

-- how many entries commands add on group n at the most
abbrev pub shares_on : ℕ → Group → List WireLine → List Act → ℕ
shares_on n g lines acts = sum_by (λ act. if group_number act == n then act_share act g lines else 0) acts

-- the pass is the same, of as many groups; its fronts went on, and on each group it made no more entries than the shares of these commands
pub record Went (groups : ℕ → Group) (lines : ℕ → List WireLine) (acts : List Act) (old new : Holder) : Type 0 where
  pub number : new.number ≡ old.number
  pub rooms : (length new.fronts ≡ length old.fronts) × (length new.mines ≡ length old.mines)
  pub fronts : (n : ℕ) → IsPrefix (front_at old.fronts n) (front_at new.fronts n)
  pub few : (n : ℕ) → length (mine_at new.mines n) ≤ length (mine_at old.mines n) + shares_on n (groups n) (lines n) acts

-- what the pass has seen of group n fills the group's journal
abbrev pub HasFull : Holder → ℕ → Type 0
HasFull p n = (n < length p.fronts) × (MAX_ENTRIES ≤ length (front_at p.fronts n))

-- a command met a full journal: what every call keeps was kept, and what is left is what such an act leaves
pub record MeetsFull (groups : ℕ → Group) (lines : ℕ → List WireLine) (act : Act) (old new : Holder) : Type 0 where
  pub kept : Kept old new (group_number act) (act_share act (groups (group_number act)) (lines (group_number act)))
  pub full : ActFull act old new

-- of these commands some were done, one after another, and the next met the journal of group n full. Behind that one the pass made no call
pub record StopsAt (groups : ℕ → Group) (lines : ℕ → List WireLine) (n : ℕ) (acts : List Act) (old new : Holder) : Type 0 where
  pub done : List Act
  pub last : Act
  pub begins : IsPrefix (done ++ last ∷ []) acts
  pub group : group_number last ≡ n
  pub mid : Holder
  pub did : Did groups lines done old mid
  pub met : MeetsFull groups lines last mid new

-- memory was not refused
abbrev pub HadMemory : Came → Type 0
HadMemory Through = Unit {0}
HadMemory (ToFull n) = Unit {0}
HadMemory OutOfMemory = ⊥

-- of how far the pass came: through all of the commands, or to a full journal, behind which the pass did nothing
abbrev pub CameTo : Came → (ℕ → Group) → (ℕ → List WireLine) → List Act → Holder → Holder → Type 0
CameTo Through groups lines acts old new = Did groups lines acts old new
CameTo (ToFull n) groups lines acts old new = HasFull new n × StopsAt groups lines n acts old new
CameTo OutOfMemory groups lines acts old new = Unit {0}
