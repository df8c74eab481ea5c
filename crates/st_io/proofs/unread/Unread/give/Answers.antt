use Rattle.std.proofs.Common.{◌+◌, ◌-◌, take, drop, arith, ap, ◌∙◌}
use Rattle.st_io.proofs.Given.{next_given}
use Rattle.st_io.proofs.unread.Unread.give.Goals as goal

pub returns-clause-step : goal.returns-clause-step
returns-clause-step c =
    let given = c.copy_from_slice.ensures.after ∙ ap (λ bytes. take (c.self.inside.at + c.min-n.result - c.self.inside.at) (drop c.self.inside.at bytes)) c.deref.ensures.value in
    rw (← c.self.view_is) (next_given c.self.inside.bytes.items c.args.buf.now c.copy_from_slice.new.self c.self.inside.at c.min-n.result (omega arith) (omega arith) (omega arith) given)
