-- Since which entry an entity is known as it is known, and what health its known report tells.
use Rattle.std.specs.Prelude.{◌≡◌, ◌⊎◌, ℕ, ◌+◌, ◌-◌, ◌==◌, ◌&&◌, ◌||◌, nat_lt, Bool, List, [], ◌∷◌, ◌++◌, length, drop, Option, Some, None, if◌then◌else◌, unwrap_or}
use Rattle.st_net.specs.declared.entity.Entity.{Entity}
use Rattle.st_net.specs.declared.message.Report.{Report}
use Rattle.st_net.specs.Agents.{report_by}
use Rattle.st_net.specs.Entities.{is_same_entity}
use Rattle.st_net.specs.Groups.{Group}
use Rattle.st_net.specs.Numbered.{nth}
use Rattle.st_net.specs.Reports.{opening_report}
use Rattle.st_event.specs.declared.event.Event.{Event}
use Rattle.st_event.specs.declared.event.Event.TheVariants.{Report as make_report, Hear}
use Rattle.st_event.specs.declared.journal.Entry.{Entry}
use Rattle.st_event.specs.Moments.{busy, fence, health, heard, number, reports, vals}
use Rattle.st_event.specs.Observed.{observed}

-- the numbers of the entries by which reports 1, 2, 3 and so on were made
abbrev pub makers_after : Event → ℕ → List ℕ → List ℕ
makers_after (make_report e) n before = before ++ n ∷ []
makers_after _ n before = before

abbrev pub makers : List Entry → List ℕ
makers [] = []
makers (entry ∷ past) = makers_after entry.event (length past + 1) (makers past)

-- the entry by which the report that an event hears was made; 0 where it hears none
abbrev pub maker_heard : Event → (ℕ → Option ℕ) → ℕ
maker_heard (Hear number) maker = unwrap_or (maker number) 0
maker_heard _ maker = 0

-- the maker of a report that is heard, where it is later than the one of this number that is kept; else the maker before
abbrev pub since_after : Entity → Option Report → ℕ → ℕ → ℕ → ℕ
since_after e None kept maker before = before
since_after e (Some r) kept maker before = if is_same_entity r.entity e && nat_lt kept r.number then maker else before

-- the entry by which the report that is kept of an entity was made: 0 where it is the opening's
abbrev pub known_since : Group → List Entry → Entity → ℕ
known_since g [] = λ e. 0
known_since g (entry ∷ past) = λ e. since_after e (heard entry.event (nth (reports g past))) (observed g past e).number (maker_heard entry.event (nth (makers past))) (known_since g past e)

-- whether a report hides the health: busy or without power an entity has no more than the level that power alone gives
abbrev pub hides_health : Report → Bool
hides_health r = r.busy || r.vals.v0 == 0

-- the health that a report tells: its level, where it hides none
abbrev pub health_told : Report → Option ℕ
health_told r = if hides_health r then None else Some r.level

-- the entries before the one of a number: none before entry 1, nor before the opening, whose number is 0
abbrev pub before_entry : ℕ → List Entry → List Entry
before_entry n past = drop (length past - (n - 1)) past

-- the entry of a number is one by which an entity made this report, as its agent was behind the entries before it
pub record HasMade (g : Group) (past : List Entry) (e : Entity) (n : ℕ) (r : Report) : Type 0 where
  pub before : List Entry
  pub entry : Entry
  pub later : List Entry
  pub split : past ≡ later ++ entry ∷ before
  pub at : n ≡ length before + 1
  pub makes : entry.event ≡ make_report e
  pub report : r ≡ report_by e (number before e + 1) (fence g before e) (busy g before e) (vals g before e) (health g before e)

-- a report is the opening's, which no entry made, or the entry of this number made it
abbrev pub IsKnownBy : Group → List Entry → Entity → ℕ → Report → Type 0
IsKnownBy g past e n r = ((n ≡ 0) × (r ≡ opening_report g e)) ⊎ HasMade g past e n r
