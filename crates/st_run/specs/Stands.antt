-- Turns that stand in a journal, and lists that were laid into one another. A journal stands here with its newest entry first.
use Rattle.std.specs.Prelude.{ℕ, zero, suc, ◌≡◌, false, List, [], ◌∷◌, ◌++◌, All}
use Rattle.st_event.specs.declared.journal.Entry.{Entry}
use Rattle.st_world.specs.Rounds.{Course}
use Rattle.st_world.specs.World.{IsBeginning}

-- at least k runs of a course stand in a journal behind its beginning `from`, apart from each other: each as consecutive entries, and each the one
-- that the journal before it calls for
abbrev pub Stand : (List Entry → Course) → ℕ → List Entry → List Entry → Type 0
Stand course zero from past = IsBeginning from past
Stand course (suc k) from past =
    (before : List Entry) × (after : List Entry) × Stand course k from before × (course before ≡ record { past = after; stopped = false }) × IsBeginning after past

-- one of these lists begins with an item, and these are the lists without it
pub record Takes {X : Type 0} (x : X) (lists rest : List (List X)) : Type 0 where
  pub before : List (List X)
  pub list : List X
  pub behind : List (List X)
  pub were : lists ≡ before ++ (x ∷ list) ∷ behind
  pub are : rest ≡ before ++ list ∷ behind

-- an item stands for the first of one of these lists, and what remains of them has a property
pub record Begins {X Y : Type 0} (Is : X → Y → Type 0) (Remains : List (List Y) → Type 0) (x : X) (lists : List (List Y)) : Type 0 where
  pub first : Y
  pub rest : List (List Y)
  pub stands_for : Is x first
  pub taken : Takes first lists rest
  pub remains : Remains rest

-- a list is an interleaving of lists: it is empty and all of them are, or its first item stands for the first of one of them, and its rest is an
-- interleaving of what remains
abbrev pub IsInterleaving : {X Y : Type 0} → (X → Y → Type 0) → List X → List (List Y) → Type 0
IsInterleaving Is [] lists = All (λ l. l ≡ []) lists
IsInterleaving Is (x ∷ xs) lists = Begins Is (IsInterleaving Is xs) x lists
