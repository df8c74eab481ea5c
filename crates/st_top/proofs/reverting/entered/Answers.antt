use Rattle.st_top.proofs.Entering.{did_enter, did_fill, same_group}
use Rattle.st_top.proofs.reverting.entered.Goals.{in-Did, in-JournalFull}
use Rattle.st_top.proofs.reverting.entered.Goals as goal

pub returns-clause-ok : goal.returns-clause-ok
returns-clause-ok c = elim c.match-branch-2.branch [
  | in-Did w ↦ rw w.result-is (did_enter c.args.world.now c.step.new.self c.args.event _ _ w.in-Did.is c.in_ok-step.ensures.ok)
  | in-JournalFull w ↦ rw w.result-is (did_fill c.args.world.now c.step.new.self c.args.event _ _ w.in-JournalFull.is c.in_ok-step.ensures.ok)
]

pub returns-clause-setting : goal.returns-clause-setting
returns-clause-setting c =
    let group = same_group c.args.world.now.history c.step.new.self.history c.args.event _ c.in_ok-step.ensures.ok in
    elim c.match-branch-2.branch [
      | in-Did w ↦ rw w.result-is (record { group = group; lines = c.step.ensures.losses })
      | in-JournalFull w ↦ rw w.result-is (record { group = group; lines = c.step.ensures.losses })
    ]
