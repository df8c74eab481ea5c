-- What is read of a text: a document and a journal of each of its groups; and which of these is the first that is not legal.
use Rattle.std.specs.Prelude.{◌≡◌, ◌≤◌, ℕ, List, All, [], ◌∷◌, ◌++◌, drop, length, map, reverse, Option, Some, None, Result, Ok}
use Rattle.st_net.specs.Groups.{Group}
use Rattle.st_event.specs.declared.journal.Journal.{Journal}
use Rattle.st_event.specs.Legal.{IsLegal}
use Rattle.st_token.specs.declared.fault.LineFault.{LineFault}
use Rattle.st_token.specs.Steps.{◌>>=◌}
use Rattle.st_grammar.specs.declared.doc.Doc.{Doc}
use Rattle.st_grammar.specs.declared.doc.JournalAt.{JournalAt}
use Rattle.st_grammar.specs.Reading.{input_of}
use Rattle.st_event.specs.declared.journal.TheConstants.{MAX_ENTRIES}
use Rattle.st_journal.specs.declared.reading.JournalsRead.{JournalsRead}
use Rattle.st_journal.specs.declared.reading.JournalsRead.TheVariants as reads
use Rattle.st_journal.specs.JournalReading.{journals_in}
use Rattle.st_journal.specs.Replaying.{IsFirstWrong}
use Rattle.st_serial.specs.Kept.{groups_of}

-- the names of a document's applications
abbrev pub app_names : Doc → List (List ℕ)
app_names doc = map (λ script. script.name) doc.apps

-- the bytes of the journals, and the number of their first line; without journals there are no bytes
abbrev pub journal_bytes : Option JournalAt → List ℕ → List ℕ
journal_bytes None bytes = []
journal_bytes (Some at) bytes = drop at.byte bytes

abbrev pub journal_line : Option JournalAt → ℕ
journal_line None = 1
journal_line (Some at) = at.line

-- a document, and a journal of each of its groups in order
pub record Replay : Type 0 where
  pub doc : Doc
  pub journals : List Journal

abbrev pub replay_with : List ℕ → Doc → Result Replay LineFault
replay_with bytes doc =
    journals_in (groups_of doc) (app_names doc) (journal_line doc.journal_at) (journal_bytes doc.journal_at bytes) >>= λ journals. Ok (record { doc = doc; journals = journals })

-- what the bytes declare, or their fault
abbrev pub replay_of : List ℕ → Result Replay LineFault
replay_of bytes = input_of bytes >>= replay_with bytes

-- no more entries than a journal may have
abbrev pub HasFewEntries : Journal → Type 0
HasFewEntries journal = length journal.entries ≤ MAX_ENTRIES

abbrev pub HaveFewEntries : JournalsRead → Type 0
HaveFewEntries (reads.Journals journals) = All HasFewEntries journals
HaveFewEntries (reads.Fault line kind) = Unit {0}

-- each group has its journal, and it is legal
abbrev pub AreLegal : List Group → List Journal → Type 0
AreLegal [] [] = Unit {0}
AreLegal [] (journal ∷ journals) = ⊥
AreLegal (g ∷ groups) [] = ⊥
AreLegal (g ∷ groups) (journal ∷ journals) = IsLegal g (reverse journal.entries) × AreLegal groups journals

-- the journals before that of group n are legal, and its entry of this number, from 1, is the first with a reply that is not called for
pub record IsFirstIllegal (groups : List Group) (journals : List Journal) (n entry : ℕ) : Type 0 where
  pub before : List Group
  pub group : Group
  pub after : List Group
  pub journals_before : List Journal
  pub journal : Journal
  pub journals_after : List Journal
  pub groups_are : groups ≡ before ++ group ∷ after
  pub journals_are : journals ≡ journals_before ++ journal ∷ journals_after
  pub number : n ≡ length before
  pub legal : AreLegal before journals_before
  pub wrong : IsFirstWrong group journal.entries entry
