-- A commit is told of by what the room says of its ticket before it, and by the entry that it made.
use Rattle.std.proofs.Common.{◌≡◌, refl, ap, sym, subst, ◌∙◌, length, is_some}
use Rattle.st_net.specs.Numbered.{nth}
use Rattle.st_event.specs.declared.journal.TheConstants.{MAX_ENTRIES}
use Rattle.st_event.specs.Proposals.{deciders}
use Rattle.st_world.specs.declared.world.rounds.Going.{Going}
use Rattle.st_world.specs.declared.world.rounds.Going.TheVariants.{On, Full}
use Rattle.st_service.specs.Lines.{flat}
use Rattle.st_service.specs.Made.{past_in}
use Rattle.st_service.specs.Passes.{front_at, mine_at}
use Rattle.st_service.specs.Puts.{Enters}
use Rattle.st_service.specs.Works.{is_decided, check_course}
use Rattle.st_service.proofs.OffLockLaws.{commits_on, committed_full, entered_since, verdict_made}
use Rattle.st_service.proofs.offlock.commit_in.Goals as goal

pub since-requires : goal.since-requires
since-requires g c =
    let room = c.args.room.now in
    let n = room.group in
    let mid = flat room.makers.line.log in
    entered_since (check_course c.args.judged.now.ticket (g.J.Naming.group n)) c.in_ok-going.going c.args.pass.now.number c.count-from.result mid (front_at c.args.pass.now.fronts n) (mine_at c.args.pass.now.mines n)
    (front_at c.work_in.new.self.fronts n) (mine_at c.work_in.new.self.mines n) room.room.history.past c.work_in.new.room.room.history.past c.in_ok-going.ensures.entered (room.kept) c.in_ok-going.ensures.journal c.count-from.ensures.count

pub told_of-requires : goal.told_of-requires
told_of-requires g c =
    let room = c.args.room.now in
    let old = c.args.pass.now in
    let new = c.work_in.new.self in
    let n = room.group in
    let h = g.J.Naming.group n in
    let ticket = c.args.judged.now.ticket in
    let mid = flat room.makers.line.log in
    let past = room.room.history.past in
    let kept : past_in mid ≡ past = room.kept in
    let over = c.decided-gone.ensures.decided ∙ (ap (λ t. is_decided t past) c.ticket.ensures.ticket ∙ ap (is_decided ticket) (sym kept)) in
    let went : Enters (check_course ticket h) On old.number mid (front_at old.fronts n) (mine_at old.mines n) (front_at new.fronts n) (mine_at new.mines n) =
    subst (λ (going : Going). Enters (check_course ticket h) going old.number mid (front_at old.fronts n) (mine_at old.mines n) (front_at new.fronts n) (mine_at new.mines n)) c.in-On.is c.in_ok-going.ensures.entered in
    λ none. verdict_made h ticket old.number mid (front_at old.fronts n) (mine_at old.mines n) (front_at new.fronts n) (mine_at new.mines n) c.since.result.now went (sym over ∙ ap is_some none) c.requires.may
    (λ more before all is. c.since.ensures more before (sym c.in_ok-going.ensures.journal ∙ all) (ap length (is ∙ kept) ∙ sym c.count-from.ensures.count))

pub returns-in-On-clause-committed : goal.returns-in-On-clause-committed
returns-in-On-clause-committed g c =
    let room = c.args.room.now in
    let old = c.args.pass.now in
    let new = c.work_in.new.self in
    let n = room.group in
    let h = g.J.Naming.group n in
    let ticket = c.args.judged.now.ticket in
    let mid = flat room.makers.line.log in
    let past = room.room.history.past in
    let kept : past_in mid ≡ past = room.kept in
    let gone = c.decided-gone.result in
    let at : gone ≡ nth (deciders (past_in mid)) ticket = c.decided-gone.ensures.entry ∙ (ap (λ t. nth (deciders past) t) c.ticket.ensures.ticket ∙ ap (λ es. nth (deciders es) ticket) (sym kept)) in
    let over = c.decided-gone.ensures.decided ∙ (ap (λ t. is_decided t past) c.ticket.ensures.ticket ∙ ap (is_decided ticket) (sym kept)) in
    let went : Enters (check_course ticket h) On old.number mid (front_at old.fronts n) (mine_at old.mines n) (front_at new.fronts n) (mine_at new.mines n) =
    subst (λ (going : Going). Enters (check_course ticket h) going old.number mid (front_at old.fronts n) (mine_at old.mines n) (front_at new.fronts n) (mine_at new.mines n)) c.in-On.is c.in_ok-going.ensures.entered in
    commits_on c.told_of.result gone c.since.result.now h ticket old.number mid (front_at old.fronts n) (mine_at old.mines n) (front_at new.fronts n) (mine_at new.mines n) c.told_of.ensures at over went c.requires.may
    (λ more before all is. c.since.ensures more before (sym c.in_ok-going.ensures.journal ∙ all) (ap length (is ∙ kept) ∙ sym c.count-from.ensures.count))

pub returns-in-Full-clause-committed : goal.returns-in-Full-clause-committed
returns-in-Full-clause-committed g c =
    let room = c.args.room.now in
    let old = c.args.pass.now in
    let new = c.work_in.new.self in
    let n = room.group in
    let h = g.J.Naming.group n in
    let ticket = c.args.judged.now.ticket in
    let mid = flat room.makers.line.log in
    let went : Enters (check_course ticket h) Full old.number mid (front_at old.fronts n) (mine_at old.mines n) (front_at new.fronts n) (mine_at new.mines n) =
    subst (λ (going : Going). Enters (check_course ticket h) going old.number mid (front_at old.fronts n) (mine_at old.mines n) (front_at new.fronts n) (mine_at new.mines n)) c.in-Full.is c.in_ok-going.ensures.entered in
    committed_full h ticket old.number MAX_ENTRIES mid (front_at old.fronts n) (mine_at old.mines n) (front_at new.fronts n) (mine_at new.mines n) went refl
