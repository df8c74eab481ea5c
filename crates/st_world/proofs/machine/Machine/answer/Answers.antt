use Rattle.std.proofs.Common.{◌≡◌, subst}
use Rattle.std.specs.Prelude.{true, false, IsTrue}
use Rattle.st_event.specs.declared.event.Event.{Event}
use Rattle.st_event.specs.Events.{answers_without_list, is_without_list}
use Rattle.st_world.specs.Machine.{Answers}
use Rattle.st_world.proofs.machine.Machine.answer.Goals.{in-Submit+in_ok-reply-in-Submit, in-Check+in_ok-reply-in-Check, in-Lock, in-Unlock, in-Send+in_ok-reply-in-Send, in-Deliver, in-Finish, in-Report+in_ok-reply-in-Report, in-Hear, in-Fail, in-Withdraw+in_ok-reply-in-Withdraw}
use Rattle.st_world.proofs.machine.Machine.answer.Goals as goal

pub returns-clause-ok : goal.returns-clause-ok
returns-clause-ok c =
    let answers : Answers c.args.self.now c.match-event.self c.args.entry c.args.event.now c.match-event.reply = elim c.match-event.branch [
      | in-Submit+in_ok-reply-in-Submit w ↦ rw (w.self-is, w.reply-is, w.in-Submit.is) (w.in_ok-reply-in-Submit.ensures.ok c.args.entry)
      | in-Check+in_ok-reply-in-Check w ↦ rw (w.self-is, w.reply-is, w.in-Check.is) w.in_ok-reply-in-Check.ensures.ok
      | in-Lock w ↦ rw (w.self-is, w.reply-is, w.in-Lock.is) (w.lock-reply.ensures.ok c.args.entry)
      | in-Unlock w ↦ rw (w.self-is, w.reply-is, w.in-Unlock.is) (w.unlock-reply.ensures.ok c.args.entry)
      | in-Send+in_ok-reply-in-Send w ↦ rw (w.self-is, w.reply-is, w.in-Send.is) (w.in_ok-reply-in-Send.ensures.ok c.args.entry)
      | in-Deliver w ↦ rw (w.self-is, w.reply-is, w.in-Deliver.is) (w.deliver-reply.ensures.ok c.args.entry)
      | in-Finish w ↦ rw (w.self-is, w.reply-is, w.in-Finish.is) (w.finish-reply.ensures.ok c.args.entry)
      | in-Report+in_ok-reply-in-Report w ↦ rw (w.self-is, w.reply-is, w.in-Report.is) (w.in_ok-reply-in-Report.ensures.ok c.args.entry)
      | in-Hear w ↦ rw (w.self-is, w.reply-is, w.in-Hear.is) w.hear-reply.ensures.ok
      | in-Fail w ↦ rw (w.self-is, w.reply-is, w.in-Fail.is) (w.fail-reply.ensures.ok c.args.entry)
      | in-Withdraw+in_ok-reply-in-Withdraw w ↦ rw (w.self-is, w.reply-is, w.in-Withdraw.is) w.in_ok-reply-in-Withdraw.ensures.ok
    ] in
    answers

false_true : false ≡ true → ⊥
false_true same = cc

pub returns-clause-plain : goal.returns-clause-plain
returns-clause-plain c =
    let plain : IsTrue (answers_without_list c.args.event.now) → IsTrue (is_without_list c.match-event.reply) = elim c.match-event.branch [
      | in-Submit+in_ok-reply-in-Submit w ↦ λ other. rw w.reply-is w.in_ok-reply-in-Submit.ensures.plain
      | in-Check+in_ok-reply-in-Check w ↦ λ other. absurd (false_true (subst (λ (e : Event). answers_without_list e ≡ true) w.in-Check.is other))
      | in-Lock w ↦ λ other. rw w.reply-is w.lock-reply.ensures.plain
      | in-Unlock w ↦ λ other. rw w.reply-is w.unlock-reply.ensures.plain
      | in-Send+in_ok-reply-in-Send w ↦ λ other. rw w.reply-is w.in_ok-reply-in-Send.ensures.plain
      | in-Deliver w ↦ λ other. rw w.reply-is w.deliver-reply.ensures.plain
      | in-Finish w ↦ λ other. rw w.reply-is w.finish-reply.ensures.plain
      | in-Report+in_ok-reply-in-Report w ↦ λ other. rw w.reply-is w.in_ok-reply-in-Report.ensures.plain
      | in-Hear w ↦ λ other. rw w.reply-is w.hear-reply.ensures.plain
      | in-Fail w ↦ λ other. rw w.reply-is w.fail-reply.ensures.plain
      | in-Withdraw+in_ok-reply-in-Withdraw w ↦ λ other. absurd (false_true (subst (λ (e : Event). answers_without_list e ≡ true) w.in-Withdraw.is other))
    ] in
    plain
