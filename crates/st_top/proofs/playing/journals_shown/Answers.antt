use Rattle.std.proofs.Common.{List, ap, map, subst, ◌∙◌}
use Rattle.st_net.specs.Faults.{group_of}
use Rattle.st_net.specs.Groups.{Group}
use Rattle.st_serial.specs.Kept.{groups_of}
use Rattle.st_replay.specs.declared.replaying.Again.{Again}
use Rattle.st_replay.specs.Again.{IsAgain}
use Rattle.st_replay.specs.Replaying.{IsFirstIllegal}
use Rattle.st_top.proofs.Endings.{none_illegal}
use Rattle.st_top.proofs.PlayedRuns.{all_few}
use Rattle.st_top.proofs.playing.journals_shown.Goals as goal

pub replay_all-requires-clause-short : goal.replay_all-requires-clause-short
replay_all-requires-clause-short c = all_few (groups_of c.args.doc.now) c.args.journals.now c.requires.legal

pub unreachable-requires : goal.unreachable-requires
unreachable-requires c =
    let groups = groups_of c.args.doc.now in
    let journals = c.args.journals.now in
    let again = subst (λ (a : Again). IsAgain c.in_ok-topos.topos.items journals a) c.in-Illegal.is c.in_ok-worlds.ensures in
    none_illegal groups journals c.in-Illegal.group c.in-Illegal.entry c.requires.legal
    (subst (λ (gs : List Group). IsFirstIllegal gs journals c.in-Illegal.group c.in-Illegal.entry) (c.in_ok-topos.ensures ∙ ap (map group_of) c.as_slice.ensures) again)
