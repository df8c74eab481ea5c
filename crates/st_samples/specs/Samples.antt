-- The groups that a text declares, and their worlds at the opening.
use Rattle.std.specs.Prelude.{ℕ, List, false, Option, Some, None, Result, Ok, Err}
use Rattle.st_net.specs.Groups.{Group}
use Rattle.st_token.specs.declared.fault.LineFault.{LineFault}
use Rattle.st_grammar.specs.declared.doc.Doc.{Doc}
use Rattle.st_grammar.specs.Reading.{read_of}
use Rattle.st_serial.specs.Kept.{groups_of}
use Rattle.st_serial.specs.Serial.{GroupState, all_opened}

-- what a document has that was read; of a text that is none there is nothing
abbrev pub of_doc : {A : Type 0} → (Doc → A) → Result Doc LineFault → Option A
of_doc f (Ok doc) = Some (f doc)
of_doc f (Err fault) = None

abbrev pub opened_of : Doc → List GroupState
opened_of doc = all_opened doc.groups doc.wires

-- the groups that a text declares
abbrev pub declared_groups : List ℕ → Option (List Group)
declared_groups text = of_doc groups_of (read_of false text)

-- their worlds, before the first event
abbrev pub declared_worlds : List ℕ → Option (List GroupState)
declared_worlds text = of_doc opened_of (read_of false text)
