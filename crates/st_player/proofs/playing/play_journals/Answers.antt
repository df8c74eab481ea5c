use Rattle.std.proofs.Common.{subst}
use Rattle.std.proofs.lemmas.Result.{IfOk-weaker}
use Rattle.st_replay.specs.declared.replaying.Again.{Again}
use Rattle.st_player.proofs.ReplayLemmas.{IsWell, illegal_plays, went_well}
use Rattle.st_player.proofs.playing.play_journals.Goals as goal

pub show-requires-clause-legal : goal.show-requires-clause-legal
show-requires-clause-legal c =
    let well = went_well c.args.doc.now c.args.topos.items c.args.journals.now _ c.requires.groups c.requires.each c.in_ok-worlds.ensures in
    subst (λ (a : Again). IsWell c.args.doc.now c.args.journals.now a) c.in-Worlds.is well

pub returns-in-Illegal : goal.returns-in-Illegal
returns-in-Illegal c =
    let doc = c.args.doc.now in
    let journals = c.args.journals.now in
    let group = c.in-Illegal.group in
    let well = went_well doc c.args.topos.items journals _ c.requires.groups c.requires.each c.in_ok-worlds.ensures in
    let first = subst (λ (a : Again). IsWell doc journals a) c.in-Illegal.is well in
    IfOk-weaker _ _ _ (λ played is. illegal_plays c.args.from doc journals group c.in-Illegal.entry _ played c.as_slice.ensures first is) c.fault.ensures
