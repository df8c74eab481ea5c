-- The scripts are played on the service, with the tasks of their workers, and it is closed then.
use Rattle.std.proofs.Common.{ℕ, ◌<◌, List, length, sym, subst, ◌∙◌, arith}
use Rattle.std.specs.Prelude.{All, Option, IfSome}
use Rattle.st_run.specs.declared.workers.Task.{Task}
use Rattle.st_run.specs.Played.{AreClosed, WasFull}
use Rattle.st_run.proofs.PlayLaws.{is_played, ok_then2}
use Rattle.st_run.proofs.TaskLaws.{tasks_fit}
use Rattle.st_run.proofs.playing.play.Goals as goal

pub play_on-requires-clause-rooms : goal.play_on-requires-clause-rooms
play_on-requires-clause-rooms g c = λ κs lives. c.requires.rooms

pub play_on-requires-clause-apps : goal.play_on-requires-clause-apps
play_on-requires-clause-apps g c = λ κs lives. (c.requires.apps.0, c.requires.apps.2)

pub play_on-requires-clause-fresh : goal.play_on-requires-clause-fresh
play_on-requires-clause-fresh g c = λ κs lives. c.requires.fresh

pub play_on-requires-clause-acts : goal.play_on-requires-clause-acts
play_on-requires-clause-acts g c = λ κs lives. c.requires.acts

pub play_on-requires-clause-tasks : goal.play_on-requires-clause-tasks
play_on-requires-clause-tasks g c = λ κs lives. subst (λ (tasks : List Task). All (λ (task : Task). task.group < c.args.rooms) tasks) (sym c.requires.tasks) (tasks_fit c.args.apps.now c.args.rooms c.args.rooms (omega arith))

pub close_played-requires-clause-all : goal.close_played-requires-clause-all
close_played-requires-clause-all g c = c.in-Ok.ensures.ended.count ∙ sym c.requires.apps.1

pub close_played-requires-clause-numbers : goal.close_played-requires-clause-numbers
close_played-requires-clause-numbers g c = c.in-Ok.ensures.ended.numbers

pub close_played-requires-clause-rooms : goal.close_played-requires-clause-rooms
close_played-requires-clause-rooms g c = λ n p lt. c.in-Ok.ensures.ended.rooms_are n p lt ∙ c.requires.rooms.0

pub returns-in-Ok : goal.returns-in-Ok
returns-in-Ok g c =
    let passes = c.in-Ok.passes.items in
    ok_then2 c.close_played.result c.close_played.ensures.full c.close_played.ensures.closed (λ played full closed. (
      passes,
      is_played g.J.Naming.group g.J.Naming.lines c.args.rooms c.args.apps.now c.args.tasks.now played.full played.journals.items played.logs.items passes c.requires.tasks c.requires.acts c.in-Ok.ensures.ended
          (λ e. c.in-Ok.ensures.none (sym full ∙ e))
          (subst (λ (o : Option ℕ). IfSome o (λ m. WasFull passes m)) (sym full) c.in-Ok.ensures.one)
          (subst (λ (k : ℕ). AreClosed g.J.Naming.group k (length c.args.apps.now) passes played.journals.items played.logs.items) (sym c.requires.rooms.0)
          (subst (λ (k : ℕ). AreClosed g.J.Naming.group (length c.args.service.rooms.items) k passes played.journals.items played.logs.items) c.requires.apps.0 closed)),
    ))
