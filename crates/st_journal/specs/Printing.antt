-- The text of a journal: a line with its group's name, and a line for each entry.
use Rattle.std.specs.Prelude.{ℕ, ◌+◌, List, [], ◌∷◌, codes}
use Rattle.st_text.specs.Words.{text_of}
use Rattle.st_net.specs.Groups.{Group}
use Rattle.st_event.specs.declared.journal.Entry.{Entry}
use Rattle.st_entry.specs.Words.{Words}
use Rattle.st_entry.specs.Entries.{entry_words}

abbrev pub journal_words : Group → Words
journal_words g = codes "journal" ∷ g.name ∷ []

-- a line for each of these entries, the oldest first, of which the first has number n
abbrev pub entries_lines : Group → List (List ℕ) → ℕ → List Entry → List Words
entries_lines g apps n [] = []
entries_lines g apps n (entry ∷ entries) = entry_words g apps n entry ∷ entries_lines g apps (n + 1) entries

abbrev pub journal_lines : Group → List (List ℕ) → List Entry → List Words
journal_lines g apps entries = journal_words g ∷ entries_lines g apps 1 entries

-- the text that is printed, by the topology, the applications' names and the entries, the oldest first
abbrev pub journal_text : Group → List (List ℕ) → List Entry → List ℕ
journal_text g apps entries = text_of (journal_lines g apps entries)
