-- What rounds leave: each entity's turn as consecutive entries, each under a hold of its own.
use Rattle.std.specs.Prelude.{ℕ, zero, suc, ◌≡◌, ◌⊎◌, ◌≤◌, List, [], ◌∷◌, ◌++◌, length}
use mathlib.Core.List.{IsPrefix}
use Rattle.st_net.specs.declared.entity.Entity.{Entity}
use Rattle.st_net.specs.Groups.{Group}
use Rattle.st_event.specs.declared.journal.TheConstants.{MAX_ENTRIES}
use Rattle.st_wire.specs.declared.line.WireLine.{WireLine}
use Rattle.st_world.specs.Rounds.{course_from, unsettled}
use Rattle.st_world.specs.declared.world.rounds.Going.{Going}
use Rattle.st_world.specs.declared.world.rounds.Going.TheVariants.{On, Full}
use Rattle.st_world.specs.declared.world.rounds.Rounded.{Rounded}
use Rattle.st_world.specs.declared.world.rounds.Rounded.TheVariants.{Did, JournalFull}
use Rattle.st_service.specs.declared.work.Part.{Part}
use Rattle.st_service.specs.declared.work.Part.TheVariants.{Whole}
use Rattle.st_service.specs.Made.{Made, past_in}
use Rattle.st_service.specs.Puts.{Enters}
use Rattle.st_service.specs.Works.{part_of}

-- the turns of these entities, in order, each as consecutive entries, and nothing else
abbrev pub Turns : Part → Group → List WireLine → ℕ → List Entity → List Made → List ℕ → List Made → List ℕ → Type 0
Turns part g lines number [] before was after now = IsPrefix before after × (now ≡ was)
Turns part g lines number (e ∷ es) before was after now =
    (mid : List Made) × (next : List Made) × (got : List ℕ) × Enters (λ past. part_of part g lines (course_from past) e) On number mid before was next got × Turns part g lines number es next got after now

-- the turns of a beginning of these entities, of the last of which as much as the journal had room for
pub record ToFull (part : Part) (g : Group) (lines : List WireLine) (number : ℕ) (es : List Entity) (before : List Made) (was : List ℕ) (after : List Made) (now : List ℕ) : Type 0 where
  pub done : List Entity
  pub last : Entity
  pub begins : IsPrefix (done ++ last ∷ []) es
  pub mid : List Made
  pub got : List ℕ
  pub turns : Turns part g lines number done before was mid got
  pub seen : List Made
  pub enters : Enters (λ past. part_of part g lines (course_from past) last) Full number seen mid got after now

-- all of them, or as many as the journal had room for
abbrev pub Turned : Going → Part → Group → List WireLine → ℕ → List Entity → List Made → List ℕ → List Made → List ℕ → Type 0
Turned On part g lines number es before was after now = Turns part g lines number es before was after now
Turned Full part g lines number es before was after now = ToFull part g lines number es before was after now

-- the turns of the entities that are not settled in one front that was seen
abbrev pub RoundOf : Part → Group → List WireLine → ℕ → List Made → List ℕ → List Made → List ℕ → Type 0
RoundOf part g lines number before was after now = (f : List Made) × IsPrefix before f × Turns part g lines number (unsettled g (past_in f)) f was after now

-- those turns, as far as the journal had room
abbrev pub RoundToFull : Part → Group → List WireLine → ℕ → List Made → List ℕ → List Made → List ℕ → Type 0
RoundToFull part g lines number before was after now = (f : List Made) × IsPrefix before f × ToFull part g lines number (unsettled g (past_in f)) f was after now

-- and what is told of them: how many entities are not settled in the new front, or that an event met a full journal
abbrev pub RoundTold : Rounded → Part → Group → List WireLine → ℕ → List Made → List ℕ → List Made → List ℕ → Type 0
RoundTold (Did count) part g lines number before was after now = RoundOf part g lines number before was after now × (count ≡ length (unsettled g (past_in after)))
RoundTold (JournalFull entries) part g lines number before was after now = RoundToFull part g lines number before was after now × (entries ≡ MAX_ENTRIES)

-- so many rounds, one after another
abbrev pub RoundsMade : Group → List WireLine → ℕ → ℕ → List Made → List ℕ → List Made → List ℕ → Type 0
RoundsMade g lines number zero before was after now = IsPrefix before after × (now ≡ was)
RoundsMade g lines number (suc k) before was after now = (mid : List Made) × (got : List ℕ) × RoundOf Whole g lines number before was mid got × RoundsMade g lines number k mid got after now

-- every entity was settled in a front that was seen behind this one
abbrev pub WasSettled : Group → List Made → List Made → Type 0
WasSettled g mid after = (f : List Made) × IsPrefix mid f × IsPrefix f after × (unsettled g (past_in f) ≡ [])

-- as many rounds as were asked, or fewer where every entity was settled behind them
abbrev pub Settles : Group → List WireLine → ℕ → ℕ → List Made → List ℕ → List Made → List ℕ → Type 0
Settles g lines number asked before was after now =
    (k : ℕ) × (k ≤ asked) × (mid : List Made) × RoundsMade g lines number k before was mid now × IsPrefix mid after × ((k ≡ asked) ⊎ WasSettled g mid after)

-- of an answer to so many rounds
abbrev pub Settled : Going → Group → List WireLine → ℕ → ℕ → List Made → List ℕ → List Made → List ℕ → Type 0
Settled On g lines number asked before was after now = Settles g lines number asked before was after now
Settled Full g lines number asked before was after now = length after ≡ MAX_ENTRIES
