use Rattle.std.proofs.Common.{◌≡◌, subst, ap, ◌∙◌, rules}
use Rattle.std.specs.Prelude.{option_map, Option, IfOk}
use Rattle.st_net.specs.declared.promise.Broken.{Broken}
use Rattle.st_net.specs.Demands.{first_broken_of}
use Rattle.st_net.specs.Sets.{is_in}
use Rattle.st_event.specs.declared.reply.Cause.TheVariants.{Broken as broken_cause}
use Rattle.st_event.specs.Standing.{sure_in}
use Rattle.st_control.specs.Control.{ControlView, standing_in}
use Rattle.st_control.specs.Verdict.{sure_without, first_broken_without}
use Rattle.st_control.proofs.CheckLemmas.{broken_is}
use Rattle.st_control.proofs.control.Control.broken.Goals as goal

pub returns-clause-broken : goal.returns-clause-broken
returns-clause-broken c =
    let k = c.args.self.now in
    let cause : c.map.result ≡ option_map broken_cause c.in_ok-broken.broken = search rules in
    cause ∙ ap (option_map broken_cause) (broken_is k.group c.in_ok-sure.field-0.sure c.in_ok-sure.field-0.after (sure_in k.group (standing_in k)) (sure_without k c.args.changed.now) c.in_ok-broken.broken c.in_ok-sure.ensures.sure c.in_ok-sure.ensures.after
    (subst (λ (k : ControlView). c.in_ok-broken.broken ≡ first_broken_of k.group (is_in c.in_ok-sure.field-0.sure) (is_in c.in_ok-sure.field-0.after)) c.self.view_is c.in_ok-broken.ensures.broken))

pub returns-in-Some-clause-broken : goal.returns-in-Some-clause-broken
returns-in-Some-clause-broken c =
    let k = c.args.self.now in
    let first = c.in-Some.first.now in
    let found : first ≡ first_broken_without k c.args.changed.now = broken_is k.group c.in_ok-sure.field-0.sure c.in_ok-sure.field-0.after (sure_in k.group (standing_in k)) (sure_without k c.args.changed.now) first c.in_ok-sure.ensures.sure c.in_ok-sure.ensures.after
    (subst (λ (k : ControlView). first ≡ first_broken_of k.group (is_in c.in_ok-sure.field-0.sure) (is_in c.in_ok-sure.field-0.after)) c.self.view_is c.in-Some.ensures) in
    subst (λ (b : Option Broken). IfOk c.cause_of.result (λ cause. cause ≡ option_map broken_cause b)) found c.cause_of.ensures
