-- What the duties of workers leave with their passes.
use Rattle.std.specs.Prelude.{ℕ, zero, suc, ◌≡◌, ◌<◌, Result, Ok, Err, List}
use Rattle.st_net.specs.Groups.{Group}
use Rattle.st_wire.specs.declared.line.WireLine.{WireLine}
use Rattle.st_world.specs.declared.world.rounds.Rounded.{Rounded}
use Rattle.st_world.specs.declared.world.rounds.Rounded.TheVariants.{Did, JournalFull}
use Rattle.st_service.specs.declared.offlock.OffLock.{OffLock}
use Rattle.st_service.specs.declared.offlock.OffLock.TheVariants.{Decided, Gone, Idle, JournalFull as met_full}
use Rattle.st_service.specs.declared.work.Part.TheVariants.{Update as update_half, Monitor as monitor_half}
use Rattle.st_service.specs.OffLock.{ChecksOff}
use Rattle.st_service.specs.Passes.{Holder, front_at, mine_at}
use Rattle.st_service.specs.Shares.{check_share, round_share}
use Rattle.st_service.specs.Turns.{RoundOf, RoundToFull}
use Rattle.st_run.specs.declared.application.Came.{Came}
use Rattle.st_run.specs.declared.application.Came.TheVariants.{Through, ToFull, OutOfMemory}
use Rattle.st_run.specs.declared.workers.Duty.{Duty}
use Rattle.st_run.specs.declared.workers.Duty.TheVariants.{Check, Update, Monitor}
use Rattle.st_run.specs.Went.{HasFull}

-- how many entries a duty adds at the most, each time
abbrev pub duty_share : Duty → Group → List WireLine → ℕ
duty_share Check g lines = check_share
duty_share Update g lines = round_share update_half g lines
duty_share Monitor g lines = round_share monitor_half g lines

-- a check that met no full journal
abbrev pub HadRoom : OffLock → Type 0
HadRoom (Decided receipt) = Unit {0}
HadRoom (Gone entry) = Unit {0}
HadRoom Idle = Unit {0}
HadRoom (met_full entries) = ⊥

-- a duty of group n was done once: a check, or a half of a round
abbrev pub DoesDuty : Duty → ℕ → Group → List WireLine → Holder → Holder → Type 0
DoesDuty Check n g lines old new = (off : OffLock) × HadRoom off × ChecksOff off g old.number (front_at old.fronts n) (mine_at old.mines n) (front_at new.fronts n) (mine_at new.mines n)
DoesDuty Update n g lines old new = RoundOf update_half g lines old.number (front_at old.fronts n) (mine_at old.mines n) (front_at new.fronts n) (mine_at new.mines n)
DoesDuty Monitor n g lines old new = RoundOf monitor_half g lines old.number (front_at old.fronts n) (mine_at old.mines n) (front_at new.fronts n) (mine_at new.mines n)

-- a duty of group n met a full journal
abbrev pub StopsDuty : Duty → ℕ → Group → List WireLine → Holder → Holder → Type 0
StopsDuty Check n g lines old new = (entries : ℕ) × ChecksOff (met_full entries) g old.number (front_at old.fronts n) (mine_at old.mines n) (front_at new.fronts n) (mine_at new.mines n)
StopsDuty Update n g lines old new = RoundToFull update_half g lines old.number (front_at old.fronts n) (mine_at old.mines n) (front_at new.fronts n) (mine_at new.mines n)
StopsDuty Monitor n g lines old new = RoundToFull monitor_half g lines old.number (front_at old.fronts n) (mine_at old.mines n) (front_at new.fronts n) (mine_at new.mines n)

-- a duty was done so many times, one after another
abbrev pub DoesTimes : ℕ → Duty → ℕ → Group → List WireLine → Holder → Holder → Type 0
DoesTimes zero duty n g lines old new = new ≡ old
DoesTimes (suc k) duty n g lines old new = (mid : Holder) × DoesTimes k duty n g lines old mid × DoesDuty duty n g lines mid new

-- of so many times a duty was done some, and the next time met a full journal
pub record StopsOf (times : ℕ) (duty : Duty) (n : ℕ) (g : Group) (lines : List WireLine) (old new : Holder) : Type 0 where
  pub done : ℕ
  pub few : done < times
  pub mid : Holder
  pub did : DoesTimes done duty n g lines old mid
  pub met : StopsDuty duty n g lines mid new

-- how far a pass came with a half of a round
abbrev pub came_by_half : {E : Type 0} → ℕ → Result Rounded E → Came
came_by_half group (Ok (Did unsettled)) = Through
came_by_half group (Ok (JournalFull entries)) = ToFull group
came_by_half group (Err error) = OutOfMemory

-- how far a pass came with a check
abbrev pub came_by_check : {E : Type 0} → ℕ → Result OffLock E → Came
came_by_check group (Ok (Decided receipt)) = Through
came_by_check group (Ok (Gone entry)) = Through
came_by_check group (Ok Idle) = Through
came_by_check group (Ok (met_full entries)) = ToFull group
came_by_check group (Err error) = OutOfMemory

-- of how far a worker's pass came with a duty: the duty was done, or met a full journal
abbrev pub DidOnce : Came → Duty → ℕ → Group → List WireLine → Holder → Holder → Type 0
DidOnce Through duty n g lines old new = DoesDuty duty n g lines old new
DidOnce (ToFull m) duty n g lines old new = (m ≡ n) × HasFull new m × StopsDuty duty n g lines old new
DidOnce OutOfMemory duty n g lines old new = Unit {0}

-- of how far a worker's pass came with a task: the duty was done as often as the task says, or up to a full journal
abbrev pub WorkedTo : Came → ℕ → Duty → ℕ → Group → List WireLine → Holder → Holder → Type 0
WorkedTo Through times duty n g lines old new = DoesTimes times duty n g lines old new
WorkedTo (ToFull m) times duty n g lines old new = (m ≡ n) × HasFull new m × StopsOf times duty n g lines old new
WorkedTo OutOfMemory times duty n g lines old new = Unit {0}
