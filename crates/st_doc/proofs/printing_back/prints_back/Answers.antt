use Rattle.st_doc.proofs.PrintedDocs.{printed_back}
use Rattle.st_doc.proofs.printing_back.prints_back.Goals as goal

pub returns : goal.returns
returns c = printed_back
