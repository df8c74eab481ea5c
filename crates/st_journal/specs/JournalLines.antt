-- What a line of journals adds to what the lines before it gave, or the first kind that applies to it.
use Rattle.std.specs.Prelude.{ℕ, ◌+◌, ◌-◌, zero, suc, List, [], ◌∷◌, ◌++◌, Bool, false, ◌&&◌, nat_le, nat_lt, length, map, if◌then◌else◌, Option, Some, None, option_map, Result, Ok, Err, ok_or, bytes_eq, codes, slice_get}
use Rattle.st_text.specs.AllowedBytes.{has_allowed_bytes}
use Rattle.st_text.specs.Tokens.{tokens_of}
use Rattle.st_net.specs.Groups.{Group}
use Rattle.st_event.specs.declared.journal.Entry.{Entry}
use Rattle.st_event.specs.declared.journal.Journal.{Journal}
use Rattle.st_token.specs.declared.fault.FaultKind.{FaultKind}
use Rattle.st_token.specs.declared.fault.FaultKind.TheVariants as kinds
use Rattle.st_token.specs.Steps.{◌>>=◌}
use Rattle.st_token.specs.Counts.{one_of}
use Rattle.st_token.specs.Spelling.{known_name_in, is_comment}
use Rattle.st_journal.specs.EntryReading.{entry_of}

-- the groups that have journals, and the names of applications; the journals of the first groups, one of each in order; and the entries so far of
-- the journal that is begun, which is the next group's
pub record JournalDraft : Type 0 where
  pub groups : List Group
  pub apps : List (List ℕ)
  pub ended : List Journal
  pub begun : Option (List Entry)

abbrev pub nothing : List Group → List (List ℕ) → JournalDraft
nothing groups apps = record { groups = groups; apps = apps; ended = []; begun = None }

-- so many journals without an entry, of the groups from this number on
abbrev pub empty_journals : ℕ → ℕ → List Journal
empty_journals n zero = []
empty_journals n (suc more) = record { group = n; entries = [] } ∷ empty_journals (n + 1) more

-- the journals of the first groups, together with the empty ones of the groups up to this number
abbrev pub filled : ℕ → List Journal → List Journal
filled n journals = journals ++ empty_journals (length journals) (n - length journals)

-- all journals so far, the one that is begun too
abbrev pub ended_with : List Journal → Option (List Entry) → List Journal
ended_with journals None = journals
ended_with journals (Some entries) = journals ++ record { group = length journals; entries = entries } ∷ []

abbrev pub journals_of : JournalDraft → List Journal
journals_of d = ended_with d.ended d.begun

-- a group's journal begins, and those of the groups before that have none are empty
abbrev pub with_journal : JournalDraft → ℕ → JournalDraft
with_journal d group = record d { ended = filled group (journals_of d); begun = Some [] }

-- the names of groups
abbrev pub group_names : List Group → List (List ℕ)
group_names groups = map (λ (g : Group). g.name) groups

-- `journal NAME`
unfoldable pub journal_line : JournalDraft → List (List ℕ) → Result JournalDraft FaultKind
journal_line d args = do
  word ← one_of args
  group ← known_name_in (group_names d.groups) word
  if nat_lt group (length (journals_of d)) then Err kinds.Twice else Ok (with_journal d group)

-- the next entry of the journal that is begun
unfoldable pub entry_in : JournalDraft → List ℕ → List (List ℕ) → Result Entry FaultKind
entry_in d number args = do
  entries ← ok_or d.begun kinds.Word
  g ← ok_or (slice_get d.groups (length d.ended)) kinds.Word
  entry_of g d.apps (length entries + 1) number args

abbrev pub with_entry : JournalDraft → Entry → JournalDraft
with_entry d entry = record d { begun = option_map (λ entries. entries ++ entry ∷ []) d.begun }

unfoldable pub entry_line : JournalDraft → List ℕ → List (List ℕ) → Result JournalDraft FaultKind
entry_line d number args = do
  entry ← entry_in d number args
  Ok (with_entry d entry)

abbrev pub begins_with_digit : List ℕ → Bool
begins_with_digit [] = false
begins_with_digit (b ∷ bs) = nat_le 48 b && nat_le b 57

-- a line with these tokens
abbrev pub tokens_line : JournalDraft → List (List ℕ) → Result JournalDraft FaultKind
tokens_line d [] = Ok d
tokens_line d (word ∷ args) =
    if is_comment word then Ok d else (
    if bytes_eq word (codes "journal") then journal_line d args else (
    if begins_with_digit word then entry_line d word args else Err kinds.Word))

unfoldable pub line_of : JournalDraft → List ℕ → Result JournalDraft FaultKind
line_of d line = if has_allowed_bytes line then tokens_line d (tokens_of line) else Err kinds.Byte
