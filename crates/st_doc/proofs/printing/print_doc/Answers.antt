use Rattle.st_doc.proofs.PrintedDocs.{printed_back}
use Rattle.st_doc.proofs.printing.print_doc.Goals as goal

pub returns-in_err-print_lines-clause-reads_back : goal.returns-in_err-print_lines-clause-reads_back
returns-in_err-print_lines-clause-reads_back c = printed_back c.args.doc.now c.requires.sound

pub returns-clause-reads_back : goal.returns-clause-reads_back
returns-clause-reads_back c = printed_back c.args.doc.now c.requires.sound
