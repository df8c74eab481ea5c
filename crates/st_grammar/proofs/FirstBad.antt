-- What reading answers is what the lines declare, one after another, or the first bad one.
use Rattle.std.proofs.Common.{◌≡◌, ℕ, ◌+◌, List, Bool, true, false, cond, length, Option, Result, Ok, Err, ◌⊎◌, inl, inr, subst, refl}
use Rattle.st_token.specs.declared.fault.FaultKind.TheVariants as kinds
use Rattle.st_token.specs.declared.fault.LineFault.{LineFault}
use Rattle.st_token.specs.Steps.{◌>>=◌}
use Rattle.st_token.specs.Reading.{read_on, AreGood, IsFirstBad}
use Rattle.st_token.proofs.FirstBad as lines
use Rattle.st_grammar.specs.declared.doc.Doc.{Doc}
use Rattle.st_grammar.specs.declared.doc.DocRead.{DocRead}
use Rattle.st_grammar.specs.declared.doc.JournalAt.{JournalAt}
use Rattle.st_grammar.specs.declared.doc.DocRead.TheVariants as reads
use Rattle.st_grammar.specs.Draft.{Draft, nothing, has_header}
use Rattle.st_grammar.specs.Lines.{line_of}
use Rattle.st_grammar.specs.Reading.{LacksHeader, IsDeclared, headed, doc_with, lines_read, journals_at, read_of, Reads, Tells}

-- what reading gives, in the words of the lines
abbrev pub Explains : List (List ℕ) → Option JournalAt → Result Doc LineFault → Type 0
Explains lines at (Ok doc) = IsDeclared lines at doc
Explains lines at (Err fault) = IsFirstBad line_of nothing 1 lines fault ⊎ LacksHeader lines fault

at_end : (lines : List (List ℕ)) (at : Option JournalAt) (d : Draft) (b : Bool) → has_header d ≡ b → AreGood line_of nothing lines d → Explains lines at (doc_with at (cond b (Ok d) (Err (record { line = length lines + 1; kind = kinds.Header }))))
at_end lines at d true e good = record { before = good.before; draft = d; lines_are = good.lines_are; declares = good.declares; header = e; doc_is = refl }
at_end lines at d false e good = inr (record { before = good.before; draft = d; lines_are = good.lines_are; declares = good.declares; header = e; kind = refl; number = refl })

explain : (ls : List (List ℕ)) (at : Option JournalAt) (read : Result Draft LineFault) → lines.Explains line_of nothing 1 ls read → Explains ls at (doc_with at (read >>= headed (length ls + 1)))
explain ls at (Ok d) good = at_end ls at d (has_header d) refl good
explain ls at (Err fault) bad = inl bad

pub explained : (journals : Bool) (bytes : List ℕ) → Explains (lines_read journals bytes) (journals_at journals bytes) (read_of journals bytes)
explained journals bytes =
    let ls = lines_read journals bytes in
    explain ls (journals_at journals bytes) (read_on line_of nothing 1 ls) (lines.explained line_of nothing 1 ls)

pub tells : (journals : Bool) (bytes : List ℕ) (read : DocRead) → Reads read (read_of journals bytes) → Tells read (lines_read journals bytes) (journals_at journals bytes)
tells journals bytes (reads.Doc doc) e = subst (λ (r : Result Doc LineFault). Explains (lines_read journals bytes) (journals_at journals bytes) r) e (explained journals bytes)
tells journals bytes (reads.Fault fault) e = subst (λ (r : Result Doc LineFault). Explains (lines_read journals bytes) (journals_at journals bytes) r) e (explained journals bytes)
