use Rattle.std.proofs.Common.{◌≡◌, ℕ, ◌≤◌, subst, arith}
use Rattle.std.specs.Prelude.{min}
use Rattle.st_service.specs.declared.work.Part.{Part}
use Rattle.st_service.specs.Shares.{turn_share}
use Rattle.st_service.proofs.room.turn_most.Goals as goal

-- what is at most either number is at most the lesser
below_both : (n a b least : ℕ) → least ≡ min a b → n ≤ a → n ≤ b → n ≤ least
below_both n a b least is first second = omega (arith, is, first, second)

pub returns-in-Whole : goal.returns-in-Whole
returns-in-Whole c = λ n le few. below_both n _ _ _ c.turn_most.ensures (subst (λ (p : Part). n ≤ turn_share p c.args.world.now.lines) c.in-Whole.is le) few

pub returns-in-Update : goal.returns-in-Update
returns-in-Update c = λ n le few. below_both n _ _ _ c.update_most.ensures (subst (λ (p : Part). n ≤ turn_share p c.args.world.now.lines) c.in-Update.is le) few

pub returns-in-Monitor : goal.returns-in-Monitor
returns-in-Monitor c = λ n le few. below_both n _ _ _ c.poll_most.ensures (subst (λ (p : Part). n ≤ turn_share p c.args.world.now.lines) c.in-Monitor.is le) few
