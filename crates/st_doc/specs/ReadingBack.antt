-- What is printed of a document is read as the document.
use Rattle.std.specs.Prelude.{◌≡◌, Ok}
use Rattle.st_grammar.specs.declared.doc.Doc.{Doc}
use Rattle.st_grammar.specs.Reading.{document_of}
use Rattle.st_grammar.specs.Sound.{IsSoundDoc}
use Rattle.st_doc.specs.Printed.{printed_doc, without_journals}

-- a sound document that is printed is read back, without the place of its journals
abbrev pub PrintsBack : Type 0
PrintsBack = (doc : Doc) → IsSoundDoc doc → document_of (printed_doc doc) ≡ Ok (without_journals doc)
