-- What comes of a journal that is replayed: a world that went through all of it, or the first entry whose reply is not the one that is
-- called for.
use Rattle.std.specs.Prelude.{Result, Ok, Err, Option, Some, None, ◌≡◌, ◌≢◌, ℕ, ◌+◌, List, [], ◌∷◌, ◌++◌, length, reverse}
use Rattle.st_net.specs.Groups.{Group}
use Rattle.st_event.specs.declared.journal.Entry.{Entry}
use Rattle.st_event.specs.Legal.{Fits, IsLegal}
use Rattle.st_event.specs.Replies.{reply}
use Rattle.st_world.specs.World.{WorldView}
use Rattle.st_journal.specs.declared.replaying.Replayed.{Replayed}
use Rattle.st_journal.specs.declared.replaying.Replayed.TheVariants.{Legal, Illegal}

-- a step may enter the entry's event
abbrev pub EventFits : Group → Entry → Type 0
EventFits g entry = Fits g entry.event

-- these entries, the oldest first, are a legal journal, and the world has gone through all of them and nothing else; its plan has no lines
pub record IsReplayOf (g : Group) (entries : List Entry) (w : WorldView) : Type 0 where
  pub legal : IsLegal g (reverse entries)
  pub history : w.history ≡ record { group = g; past = reverse entries }
  pub lines : w.lines ≡ []

-- the entry of this number, counted from 1, is the first with a reply that is not called for: those before it are legal, and call for another
pub record IsFirstWrong (g : Group) (entries : List Entry) (n : ℕ) : Type 0 where
  pub before : List Entry
  pub wrong : Entry
  pub after : List Entry
  pub entries_are : entries ≡ before ++ wrong ∷ after
  pub number : n ≡ length before + 1
  pub legal : IsLegal g (reverse before)
  pub differs : wrong.reply ≢ reply g (reverse before) wrong.event

abbrev pub Replays : Group → List Entry → Replayed → Type 0
Replays g entries (Legal world) = IsReplayOf g entries world
Replays g entries (Illegal n) = IsFirstWrong g entries n

-- an item is given back exactly where there is no number
abbrev pub IsBackUnless : {T E : Type 0} → T → Result (Option ℕ) E → Result T ℕ → Type 0
IsBackUnless item first (Ok back) = (back ≡ item) × (first ≡ Ok None)
IsBackUnless item first (Err n) = first ≡ Ok (Some n)

-- a journal with a first wrong entry is not legal, and has one such entry
abbrev pub WrongIsIllegal : Type 0
WrongIsIllegal = (g : Group) (entries : List Entry) (n : ℕ) → IsFirstWrong g entries n → ¬ IsLegal g (reverse entries)

abbrev pub FirstWrongIsOne : Type 0
FirstWrongIsOne = (g : Group) (entries : List Entry) (m n : ℕ) → IsFirstWrong g entries m → IsFirstWrong g entries n → m ≡ n
