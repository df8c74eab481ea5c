-- What a document declares, or its first bad line and that line's kind.
use Rattle.std.specs.Prelude.{[], ◌≡◌, ℕ, ◌+◌, List, reverse, map, ◌⊎◌, if◌then◌else◌, Result, Ok, Err, None, length, true, false, Bool, bytes_eq, codes, Some, suc, take, option_map, slice_get, ◌≤◌, Option, ◌∷◌}
use Rattle.st_text.specs.declared.line_places.Line.{Line}
use Rattle.st_text.specs.Lines.{lines_of, raw_lines, places_from}
use Rattle.st_text.specs.Tokens.{tokens_of}
use Rattle.st_token.specs.declared.fault.FaultKind.TheVariants as kinds
use Rattle.st_token.specs.declared.fault.LineFault.{LineFault}
use Rattle.st_token.specs.Steps.{◌>>=◌}
use Rattle.st_token.specs.Reading.{read_on, Declares, IsFirstBad}
use Rattle.st_grammar.specs.declared.doc.Doc.{Doc}
use Rattle.st_grammar.specs.declared.doc.DocRead.{DocRead}
use Rattle.st_grammar.specs.declared.doc.JournalAt.{JournalAt}
use Rattle.st_grammar.specs.declared.doc.DocRead.TheVariants as reads
use Rattle.st_grammar.specs.Draft.{Draft, nothing, has_header, groups_of, apps_of, parts_of}
use Rattle.st_grammar.specs.Lines.{line_of}

-- the document that the lines so far declare
abbrev pub doc_of : Draft → Doc
doc_of d = record {
  groups = map parts_of (groups_of d);
  wires = map (λ g. g.wires) (groups_of d);
  apps = apps_of d;
  order = d.order;
  journal_at = None;
}

-- what was declared, where the header stood; behind lines that are all skipped it is missing, at this number
abbrev pub headed : ℕ → Draft → Result Draft LineFault
headed n d = if has_header d then Ok d else Err (record { line = n; kind = kinds.Header })

-- what is declared behind all lines of a document
abbrev pub declared_on : Draft → List (List ℕ) → Result Draft LineFault
declared_on d lines = read_on line_of d 1 lines >>= headed (length lines + 1)

-- the document of what was declared, or the fault
abbrev pub doc_from : Result Draft LineFault → Result Doc LineFault
doc_from read = read >>= λ d. Ok (doc_of d)

-- the document that the bytes declare, or their fault
abbrev pub document_of : List ℕ → Result Doc LineFault
document_of bytes = doc_from (declared_on nothing (lines_of bytes))

-- whether a line's first token is `journal`
abbrev pub is_journal_word : List (List ℕ) → Bool
is_journal_word [] = false
is_journal_word (token ∷ tokens) = bytes_eq token (codes "journal")

abbrev pub begins_journal : List ℕ → Bool
begins_journal line = is_journal_word (tokens_of line)

-- how many lines stand before the first that begins a journal
abbrev pub first_journal : List (List ℕ) → ℕ
first_journal [] = 0
first_journal (line ∷ lines) = if begins_journal line then 0 else suc (first_journal lines)

-- the place of a line behind so many, if there is one: its first byte, and its number from 1
abbrev pub place_behind : List Line → ℕ → Option JournalAt
place_behind places n = option_map (λ place. record { byte = place.start; line = n + 1 }) (slice_get places n)

-- the lines of a text that are read, and the place where its journals begin: with journals only the lines before these are read
abbrev pub lines_read : Bool → List ℕ → List (List ℕ)
lines_read false bytes = lines_of bytes
lines_read true bytes = take (first_journal (lines_of bytes)) (lines_of bytes)

abbrev pub journals_at : Bool → List ℕ → Option JournalAt
journals_at false bytes = None
journals_at true bytes = place_behind (places_from 0 (raw_lines bytes)) (first_journal (lines_of bytes))

-- the document of what was declared, with the place of its journals, or the fault
abbrev pub doc_at : Option JournalAt → Draft → Doc
doc_at at d = record (doc_of d) { journal_at = at }

abbrev pub doc_with : Option JournalAt → Result Draft LineFault → Result Doc LineFault
doc_with at read = read >>= λ d. Ok (doc_at at d)

-- what the bytes declare, where journals may stand behind the document or not, or their fault
abbrev pub read_of : Bool → List ℕ → Result Doc LineFault
read_of journals bytes = doc_with (journals_at journals bytes) (declared_on nothing (lines_read journals bytes))

-- what they declare where journals may stand behind it
abbrev pub input_of : List ℕ → Result Doc LineFault
input_of bytes = read_of true bytes

-- what was read is the document, or the fault
abbrev pub Reads : DocRead → Result Doc LineFault → Type 0
Reads (reads.Doc doc) read = read ≡ Ok doc
Reads (reads.Fault fault) read = read ≡ Err fault

-- no line is bad, and all are skipped: the header is missing behind the last
pub record LacksHeader (lines : List (List ℕ)) (fault : LineFault) : Type 0 where
  pub before : List (List ℕ)
  pub draft : Draft
  pub lines_are : lines ≡ reverse before
  pub declares : Declares line_of nothing before draft
  pub header : has_header draft ≡ false
  pub kind : fault.kind ≡ kinds.Header
  pub number : fault.line ≡ length lines + 1

-- no line is bad, the header stood, and the lines declare this document, whose journals stand here
pub record IsDeclared (lines : List (List ℕ)) (at : Option JournalAt) (doc : Doc) : Type 0 where
  pub before : List (List ℕ)
  pub draft : Draft
  pub lines_are : lines ≡ reverse before
  pub declares : Declares line_of nothing before draft
  pub header : has_header draft ≡ true
  pub doc_is : doc ≡ doc_at at draft

-- what was read is what the lines declare, one after another, or their first bad line
abbrev pub Tells : DocRead → List (List ℕ) → Option JournalAt → Type 0
Tells (reads.Doc doc) lines at = IsDeclared lines at doc
Tells (reads.Fault fault) lines at = IsFirstBad line_of nothing 1 lines fault ⊎ LacksHeader lines fault

-- the place of the journals of what was read lies within so many bytes
abbrev pub IsPlaceWithin : ℕ → Option JournalAt → Type 0
IsPlaceWithin n None = Unit {0}
IsPlaceWithin n (Some at) = (at.byte ≤ n) × (at.line ≤ n)

abbrev pub IsWithinRead : ℕ → DocRead → Type 0
IsWithinRead n (reads.Doc doc) = IsPlaceWithin n doc.journal_at
IsWithinRead n (reads.Fault fault) = Unit {0}
