-- Each pass has a job, with the chore of its number.
use Rattle.std.proofs.Common.{◌≡◌, ℕ, List, ◌∷◌, ◌++◌, [], length, get_or, refl, ap, subst, ◌∙◌, arith, length-append}
use Rattle.st_service.specs.Passes.{Holder}
use Rattle.st_run.specs.declared.jobs.RunJob.{RunJob}
use Rattle.st_run.specs.Chores.{IsChore}
use Rattle.st_service.proofs.ClosingLaws.{next_low, next_all, none_left}
use Rattle.st_run.proofs.FinishLaws.{both_pushed, pushed_length}
use Rattle.st_run.proofs.playing.jobs_of.Goals as goal

pub chore_of-chore-requires : goal.chore_of-chore-requires
chore_of-chore-requires g c =
    let passes = c.args.passes.items in
    let ys = c.loop-pass.yielded in
    let rest = c.next.new.self.rest.items in
    let inv = c.loop-pass.invariant in
    let next : passes ≡ ys ++ c.in-Some.pass ∷ rest = inv.all ∙ ap (λ (l : List Holder). ys ++ l) c.in-Some.ensures.steps.0 in
    omega (arith, c.len.ensures, inv.count, next_low passes ys rest c.in-Some.pass next, c.requires.each)

pub loop-pass-preserved : goal.loop-pass-preserved
loop-pass-preserved g c =
    let passes = c.args.passes.items in
    let apps = c.args.apps.now in
    let tasks = c.args.tasks.now in
    let ys = c.loop-pass.yielded in
    let pass = c.in-Some.pass in
    let rest = c.next.new.self.rest.items in
    let jobs = c.loop-pass.jobs.items in
    let inv = c.loop-pass.invariant in
    let items = c.in_ok-push.ensures.items in
    let number : c.len.result ≡ length ys = omega (arith, c.len.ensures, inv.count) in
    let chore : IsChore apps tasks (length ys) c.chore_of-chore.result = subst (λ (k : ℕ). IsChore apps tasks k c.chore_of-chore.result) number c.chore_of-chore.ensures in
    record {
      all = next_all passes ys c.loop-pass.pass-iterator.rest.items rest pass inv.all c.in-Some.ensures.steps.0;
      count = omega (arith, inv.count, pushed_length jobs _ _ items, length-append ys (pass ∷ []));
      jobs = λ n d p lt. both_pushed
          (λ (k : ℕ) (h : Holder) (j : RunJob g.row.J.Denot g.row.L.Denot g.row.H.Denot g.J.Naming). (j.service.now ≡ c.args.service.now) × (j.pass ≡ h) × IsChore apps tasks k j.chore)
          ys jobs c.push.new.self.items pass _ items inv.count (λ k q e less. inv.jobs k e q less) (refl, refl, chore) n p d lt;
    }

pub returns-clause-jobs : goal.returns-clause-jobs
returns-clause-jobs g c =
    let passes = c.args.passes.items in
    let apps = c.args.apps.now in
    let tasks = c.args.tasks.now in
    let jobs = c.loop-pass.jobs.items in
    let ys = c.loop-pass.yielded in
    let rest = c.loop-pass.pass-iterator.rest.items in
    let inv = c.loop-pass.invariant in
    let none : length rest ≡ 0 = omega (arith, c.in-None.ensures.steps.0) in
    let done : ys ≡ passes = none_left passes ys rest inv.all none in
    λ n d p lt. subst (λ (hs : List Holder). ((get_or jobs n d).service.now ≡ c.args.service.now) × ((get_or jobs n d).pass ≡ get_or hs n p) × IsChore apps tasks n (get_or jobs n d).chore) done
    (inv.jobs n d p (omega (arith, lt, ap length done)))
