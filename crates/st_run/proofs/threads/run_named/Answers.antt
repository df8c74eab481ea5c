-- The service has a room for each world and a pass for each script, and each pass is fresh.
use Rattle.std.proofs.Common.{◌≡◌, ℕ, length, get_or, sym, subst, ◌∙◌, arith}
use Rattle.st_service.specs.Opened.{IsFresh}
use Rattle.st_run.specs.Played.{AllCanBeDone}
use Rattle.st_run.specs.Tasks.{tasks_by}
use Rattle.st_run.proofs.threads.run_named.Goals as goal

pub overflow_cast-count : goal.overflow_cast-count
overflow_cast-count g c = omega (arith, c.requires.few.1)

pub overflow_cast-workers : goal.overflow_cast-workers
overflow_cast-workers g c = omega (arith, c.requires.few.1)

pub start-requires-clause-lines : goal.start-requires-clause-lines
start-requires-clause-lines g c = c.requires.lines

pub start-requires-clause-worlds : goal.start-requires-clause-worlds
start-requires-clause-worlds g c = c.requires.worlds

pub start-requires-clause-ledger : goal.start-requires-clause-ledger
start-requires-clause-ledger g c = c.requires.ledger

pub start-requires-clause-parts : goal.start-requires-clause-parts
start-requires-clause-parts g c = omega (arith, c.requires.parts)

pub start-requires-clause-few : goal.start-requires-clause-few
start-requires-clause-few g c = (c.requires.few.0, omega (arith, c.requires.few.1))

pub play-requires-clause-rooms : goal.play-requires-clause-rooms
play-requires-clause-rooms g c =
    let number : c.len-rooms.result ≡ length c.args.worlds.items = omega (arith, c.len-rooms.ensures, c.args.worlds.ok.0) in
    λ κs lives. (number ∙ sym c.in_ok-service.ensures.rooms, omega (arith, number, c.requires.few.0))

pub play-requires-clause-apps : goal.play-requires-clause-apps
play-requires-clause-apps g c =
    let made = c.in_ok-service.ensures.passes in
    λ κs lives. (made.0, omega (arith, made.1), omega (arith, made.2))

pub play-requires-clause-fresh : goal.play-requires-clause-fresh
play-requires-clause-fresh g c =
    let number : c.len-rooms.result ≡ length c.args.worlds.items = omega (arith, c.len-rooms.ensures, c.args.worlds.ok.0) in
    λ κs lives n p lt. subst (λ (m : ℕ). IsFresh n m (get_or c.in_ok-service.passes.items n p)) (sym number) (c.in_ok-service.ensures.fresh n p lt)

pub play-requires-clause-acts : goal.play-requires-clause-acts
play-requires-clause-acts g c =
    let number : c.len-rooms.result ≡ length c.args.worlds.items = omega (arith, c.len-rooms.ensures, c.args.worlds.ok.0) in
    λ κs lives. subst (λ (m : ℕ). AllCanBeDone g.J.Naming.group m c.args.apps.now) (sym number) c.requires.acts

pub play-requires-clause-tasks : goal.play-requires-clause-tasks
play-requires-clause-tasks g c =
    let number : c.len-rooms.result ≡ length c.args.worlds.items = omega (arith, c.len-rooms.ensures, c.args.worlds.ok.0) in
    λ κs lives. subst (λ (m : ℕ). c.args.tasks.now ≡ tasks_by c.args.apps.now m) (sym number) c.requires.tasks

pub returns : goal.returns
returns g c =
    let number : c.len-rooms.result ≡ length c.args.worlds.items = omega (arith, c.len-rooms.ensures, c.args.worlds.ok.0) in
    rw (← number) c.play.ensures
