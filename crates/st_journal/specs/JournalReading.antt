-- The journals that lines give, or their first bad line and that line's kind.
use Rattle.std.specs.Prelude.{◌≡◌, ℕ, ◌+◌, List, [], ◌∷◌, length, All, Result, Ok, Err}
use Rattle.st_text.specs.Lines.{lines_of}
use Rattle.st_net.specs.Groups.{Group}
use Rattle.st_event.specs.declared.journal.Entry.{Entry}
use Rattle.st_event.specs.declared.journal.Journal.{Journal}
use Rattle.st_event.specs.Legal.{Fits}
use Rattle.st_token.specs.declared.fault.LineFault.{LineFault}
use Rattle.st_token.specs.Steps.{◌>>=◌}
use Rattle.st_token.specs.Reading.{read_on, AreGood, IsFirstBad}
use Rattle.st_journal.specs.declared.reading.JournalsRead.{JournalsRead}
use Rattle.st_journal.specs.declared.reading.JournalsRead.TheVariants as reads
use Rattle.st_journal.specs.JournalLines.{JournalDraft, nothing, filled, journals_of, line_of}

-- a journal of each group in order, or the fault
abbrev pub journals_from : List Group → Result JournalDraft LineFault → Result (List Journal) LineFault
journals_from groups read = read >>= λ d. Ok (filled (length groups) (journals_of d))

-- the journals that the bytes give, or their fault; the first line has a number
abbrev pub journals_in : List Group → List (List ℕ) → ℕ → List ℕ → Result (List Journal) LineFault
journals_in groups apps first bytes = journals_from groups (read_on line_of (nothing groups apps) first (lines_of bytes))

-- what was read is the journals, or the fault
abbrev pub Reads : JournalsRead → Result (List Journal) LineFault → Type 0
Reads (reads.Journals journals) read = read ≡ Ok journals
Reads (reads.Fault line kind) read = read ≡ Err (record { line = line; kind = kind })

-- no line is bad: one after another, the lines give these journals, and an empty one of each group behind
pub record AreGiven (groups : List Group) (apps : List (List ℕ)) (lines : List (List ℕ)) (journals : List Journal) : Type 0 where
  pub draft : JournalDraft
  pub good : AreGood line_of (nothing groups apps) lines draft
  pub journals_are : journals ≡ filled (length groups) (journals_of draft)

-- what was read is what the lines give, one after another, or their first bad line; the first of all has a number
abbrev pub Tells : List Group → List (List ℕ) → ℕ → JournalsRead → List (List ℕ) → Type 0
Tells groups apps first (reads.Journals journals) lines = AreGiven groups apps lines journals
Tells groups apps first (reads.Fault line kind) lines = IsFirstBad line_of (nothing groups apps) first lines (record { line = line; kind = kind })

-- the journal of group number n, with events that a world may enter
pub record IsJournalOf (n : ℕ) (g : Group) (journal : Journal) : Type 0 where
  pub number : journal.group ≡ n
  pub fits : All (λ (entry : Entry). Fits g entry.event) journal.entries

-- one journal of each of these groups, in order, the first of which has number n
abbrev pub AreJournalsOf : ℕ → List Group → List Journal → Type 0
AreJournalsOf n [] [] = Unit {0}
AreJournalsOf n (g ∷ groups) (journal ∷ journals) = IsJournalOf n g journal × AreJournalsOf (n + 1) groups journals
AreJournalsOf n [] (journal ∷ journals) = ⊥
AreJournalsOf n (g ∷ groups) [] = ⊥

abbrev pub HasOneOfEach : List Group → JournalsRead → Type 0
HasOneOfEach groups (reads.Journals journals) = AreJournalsOf 0 groups journals
HasOneOfEach groups (reads.Fault line kind) = Unit {0}
