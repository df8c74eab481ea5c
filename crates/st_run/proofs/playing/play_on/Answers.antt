-- Each pass goes through its chore as a job, and those of applications, behind the jobs, through an await on each group.
use Rattle.std.proofs.Common.{◌≡◌, ℕ, ◌<◌, List, length, get_or, ap, sym, subst, ◌∙◌, arith}
use Rattle.std.specs.Prelude.{All}
use Rattle.std.proofs.lemmas.Option.{IfSome_then}
use Rattle.st_event.specs.declared.act.Act.{Act}
use Rattle.st_service.specs.Acts.{CanDo}
use Rattle.st_service.specs.Opened.{IsFresh}
use Rattle.st_service.proofs.Mines.{item_at}
use Rattle.st_run.specs.declared.workers.Task.{Task}
use Rattle.st_run.specs.Chores.{awaits_for}
use Rattle.st_run.specs.Jobs.{Did, awaits_on}
use Rattle.st_run.specs.Played.{AllCanBeDone}
use Rattle.st_run.specs.Went.{Went}
use Rattle.st_run.proofs.EndingLaws.{are_done, are_ended, gone_full, gone_on, have_gone, job_fits}
use Rattle.st_run.proofs.PlayLaws.{awaits_fit, ok_both, ok_then3, was_full}
use Rattle.st_run.proofs.playing.play_on.Goals as goal

pub awaits_of-requires : goal.awaits_of-requires
awaits_of-requires g c = c.requires.rooms.1

pub jobs_of-requires : goal.jobs_of-requires
jobs_of-requires g c = record { each = c.requires.apps.1 }

pub lefts_of-requires-clause-work : goal.lefts_of-requires-clause-work
lefts_of-requires-clause-work g c κs within = λ k d lt.
    let low : k < length c.args.passes.items = omega (arith, lt, c.in_ok-jobs.ensures.count) in
    let job = get_or c.in_ok-jobs.jobs.items k d in
    let is = c.in_ok-jobs.ensures.jobs k d d.pass low in
    let start = get_or c.args.passes.items k d.pass in
    job_fits c.args.service.now job.service.now (λ v. v.apps) (λ v. length v.rooms.items) g.J.Naming.group c.args.apps.now c.args.tasks.now k start job.pass job.chore is.0 is.1 is.2
    (subst (λ (r : ℕ). IsFresh k r start) c.requires.rooms.0 (c.requires.fresh k d.pass low))
    c.requires.apps.0
    (omega (arith, low, c.requires.apps.1))
    (subst (λ (r : ℕ). AllCanBeDone g.J.Naming.group r c.args.apps.now) c.requires.rooms.0 c.requires.acts)
    (subst (λ (r : ℕ). All (λ (task : Task). task.group < r) c.args.tasks.now) c.requires.rooms.0 c.requires.tasks)

pub finish_all-requires-clause-apps : goal.finish_all-requires-clause-apps
finish_all-requires-clause-apps g c = λ κs lives n d lt less.
    let low : n < length c.args.passes.items = omega (arith, lt, c.in_ok-lefts.ensures.count, c.in_ok-jobs.ensures.count) in
    let left = get_or c.in_ok-lefts.lefts.items n d in
    let gone = have_gone c.in_ok-jobs.jobs.items c.in_ok-lefts.lefts.items g.J.Naming.group g.J.Naming.lines c.args.passes.items c.args.apps.now c.args.tasks.now (λ j. j.pass) (λ j. j.chore) (λ l. l.pass) (λ l. l.came)
    c.in_ok-lefts.ensures c.in_ok-jobs.ensures.count (λ m j p small. let is = c.in_ok-jobs.ensures.jobs m j p small in (is.1, is.2)) n d d.pass low in
    let on = gone_on g.J.Naming.group g.J.Naming.lines c.args.apps.now c.args.tasks.now n left.came (get_or c.args.passes.items n d.pass) left.pass gone in
    let app : n < length c.args.apps.now = less in
    omega (arith, on.0, (c.requires.fresh n d.pass low).numbered, app, c.requires.apps.0)

pub finish_all-requires-clause-rooms : goal.finish_all-requires-clause-rooms
finish_all-requires-clause-rooms g c = λ κs lives n d lt.
    let low : n < length c.args.passes.items = omega (arith, lt, c.in_ok-lefts.ensures.count, c.in_ok-jobs.ensures.count) in
    let left = get_or c.in_ok-lefts.lefts.items n d in
    let gone = have_gone c.in_ok-jobs.jobs.items c.in_ok-lefts.lefts.items g.J.Naming.group g.J.Naming.lines c.args.passes.items c.args.apps.now c.args.tasks.now (λ j. j.pass) (λ j. j.chore) (λ l. l.pass) (λ l. l.came)
    c.in_ok-lefts.ensures c.in_ok-jobs.ensures.count (λ m j p small. let is = c.in_ok-jobs.ensures.jobs m j p small in (is.1, is.2)) n d d.pass low in
    let on = gone_on g.J.Naming.group g.J.Naming.lines c.args.apps.now c.args.tasks.now n left.came (get_or c.args.passes.items n d.pass) left.pass gone in
    on.1 ∙ ((c.requires.fresh n d.pass low).rooms_are.0 ∙ c.requires.rooms.0)

pub finish_all-requires-clause-awaits : goal.finish_all-requires-clause-awaits
finish_all-requires-clause-awaits g c =
    let fit = awaits_fit g.J.Naming.group c.args.rooms c.args.rooms (omega arith) in
    λ κs lives. subst (λ (xs : List Act). All (CanDo g.J.Naming.group (length c.args.service.now.rooms.items)) xs) (sym (c.as_slice.ensures.value ∙ c.in_ok-awaits.ensures))
    (subst (λ (r : ℕ). All (CanDo g.J.Naming.group r) (awaits_on c.args.rooms)) c.requires.rooms.0 fit)

pub returns-clause-ended : goal.returns-clause-ended
returns-clause-ended g c = ok_then3 c.finish_all.result c.finish_all.ensures.count c.finish_all.ensures.went c.finish_all.ensures.still (λ ends count went still.
    are_ended g.J.Naming.group g.J.Naming.lines c.args.rooms c.args.apps.now c.args.tasks.now ends.0.items
    (omega (arith, count, c.in_ok-lefts.ensures.count, c.in_ok-jobs.ensures.count, c.requires.apps.1))
    (λ n p lt.
    let there : n < length c.in_ok-lefts.lefts.items = omega (arith, lt, count) in
    let low : n < length c.args.passes.items = omega (arith, there, c.in_ok-lefts.ensures.count, c.in_ok-jobs.ensures.count) in
    let d = (item_at c.in_ok-lefts.lefts.items n there).0 in
    let left = get_or c.in_ok-lefts.lefts.items n d in
    let same : awaits_for (length c.args.apps.now) n c.as_slice.result.now ≡ awaits_for (length c.args.apps.now) n (awaits_on c.args.rooms) =
    ap (awaits_for (length c.args.apps.now) n) (c.as_slice.ensures.value ∙ c.in_ok-awaits.ensures) in (
      get_or c.args.passes.items n p,
      left.pass,
      left.came,
      record {
        fresh = c.requires.fresh n p low;
        gone = have_gone c.in_ok-jobs.jobs.items c.in_ok-lefts.lefts.items g.J.Naming.group g.J.Naming.lines c.args.passes.items c.args.apps.now c.args.tasks.now (λ j. j.pass) (λ j. j.chore) (λ l. l.pass) (λ l. l.came)
            c.in_ok-lefts.ensures c.in_ok-jobs.ensures.count (λ m j q small. let is = c.in_ok-jobs.ensures.jobs m j q small in (is.1, is.2)) n d p low;
        behind = subst (λ (xs : List Act). Went g.J.Naming.group g.J.Naming.lines xs left.pass (get_or ends.0.items n p)) same (went n d p there);
        had = (still n d p there).0;
        still = λ le. (still n d p there).1 le;
      },
    )))

pub returns-clause-none : goal.returns-clause-none
returns-clause-none g c = ok_then3 c.finish_all.result c.finish_all.ensures.count (ok_both c.finish_all.result _ _ c.finish_all.ensures.went c.finish_all.ensures.still) c.finish_all.ensures.none (λ ends count both none. λ full.
    are_done g.J.Naming.group g.J.Naming.lines c.args.rooms c.args.apps.now c.args.tasks.now ends.0.items
    (omega (arith, count, c.in_ok-lefts.ensures.count, c.in_ok-jobs.ensures.count, c.requires.apps.1))
    (λ n p lt.
    let there : n < length c.in_ok-lefts.lefts.items = omega (arith, lt, count) in
    let low : n < length c.args.passes.items = omega (arith, there, c.in_ok-lefts.ensures.count, c.in_ok-jobs.ensures.count) in
    let d = (item_at c.in_ok-lefts.lefts.items n there).0 in
    let left = get_or c.in_ok-lefts.lefts.items n d in
    let same : awaits_for (length c.args.apps.now) n c.as_slice.result.now ≡ awaits_for (length c.args.apps.now) n (awaits_on c.args.rooms) =
    ap (awaits_for (length c.args.apps.now) n) (c.as_slice.ensures.value ∙ c.in_ok-awaits.ensures) in
    let done = none full n d p there in (
      get_or c.args.passes.items n p,
      left.pass,
      left.came,
      record {
        fresh = c.requires.fresh n p low;
        gone = have_gone c.in_ok-jobs.jobs.items c.in_ok-lefts.lefts.items g.J.Naming.group g.J.Naming.lines c.args.passes.items c.args.apps.now c.args.tasks.now (λ j. j.pass) (λ j. j.chore) (λ l. l.pass) (λ l. l.came)
            c.in_ok-lefts.ensures c.in_ok-jobs.ensures.count (λ m j q small. let is = c.in_ok-jobs.ensures.jobs m j q small in (is.1, is.2)) n d p low;
        behind = subst (λ (xs : List Act). Went g.J.Naming.group g.J.Naming.lines xs left.pass (get_or ends.0.items n p)) same (both.0 n d p there);
        had = (both.1 n d p there).0;
        still = λ le. (both.1 n d p there).1 le;
      },
      done.0,
      subst (λ (xs : List Act). Did g.J.Naming.group g.J.Naming.lines xs left.pass (get_or ends.0.items n p)) same done.1,
    )))

pub returns-clause-one : goal.returns-clause-one
returns-clause-one g c = ok_then3 c.finish_all.result c.finish_all.ensures.count c.finish_all.ensures.went c.finish_all.ensures.one (λ ends count went one. IfSome_then ends.1 one (λ m met.
    let n = met.0 in
    let lt = met.1 in
    let low : n < length c.args.passes.items = omega (arith, lt, c.in_ok-lefts.ensures.count, c.in_ok-jobs.ensures.count) in
    let d = (item_at c.in_ok-lefts.lefts.items n lt).0 in
    let left = get_or c.in_ok-lefts.lefts.items n d in
    let p = left.pass in
    let gone = have_gone c.in_ok-jobs.jobs.items c.in_ok-lefts.lefts.items g.J.Naming.group g.J.Naming.lines c.args.passes.items c.args.apps.now c.args.tasks.now (λ j. j.pass) (λ j. j.chore) (λ l. l.pass) (λ l. l.came)
    c.in_ok-lefts.ensures c.in_ok-jobs.ensures.count (λ k j q small. let is = c.in_ok-jobs.ensures.jobs k j q small in (is.1, is.2)) n d p low in
    was_full g.J.Naming.group g.J.Naming.lines (awaits_for (length c.args.apps.now) n c.as_slice.result.now) ends.0.items n m left.pass p left.came
    (omega (arith, lt, count)) (gone_full g.J.Naming.group g.J.Naming.lines c.args.apps.now c.args.tasks.now n m left.came (get_or c.args.passes.items n p) left.pass gone) (went n d p lt) (met.2 d p)))
