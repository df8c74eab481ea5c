use Rattle.std.proofs.Common.{refl}
use Rattle.st_top.proofs.Endings.{again_told}
use Rattle.st_top.proofs.replaying.journals_ending.Goals as goal

pub returns : goal.returns
returns c =
    again_told c.args.form c.args.doc.now c.args.journals.items c.as_slice.result.now c.args.topos.items c.in_ok-again.again (record { journals = c.new.result; logs = c.none.result }) c.in_ok-status.text c.in_ok-status.status
    c.requires.groups c.as_slice.ensures.value c.requires.each c.in_ok-again.ensures c.in_ok-status.ensures (rw (c.new.ensures, c.none.ensures) refl)
