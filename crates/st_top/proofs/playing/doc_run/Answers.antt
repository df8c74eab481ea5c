use Rattle.std.proofs.Common.{refl}
use Rattle.st_top.proofs.PlayedRuns.{run_ends}
use Rattle.st_top.proofs.playing.doc_run.Goals as goal

pub returns : goal.returns
returns g c =
    let played = c.in_ok-played.played in
    run_ends c.args.form c.args.doc.now played (record { journals = c.new.result; logs = c.new-2.result }) c.in_ok-status.text c.in_ok-status.status c.in_ok-played.ensures c.in_ok-status.ensures
    (rw (c.new.ensures, c.new-2.ensures) refl)
