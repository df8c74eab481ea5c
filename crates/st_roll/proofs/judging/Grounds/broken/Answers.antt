use Rattle.std.proofs.Common.{◌≡◌, ◌∙◌, refl, ap, rules}
use Rattle.std.specs.Prelude.{option_map}
use Rattle.st_net.specs.Groups.{Group}
use Rattle.st_net.specs.Merge.{alters}
use Rattle.st_net.specs.Sets.{is_in}
use Rattle.st_event.specs.declared.reply.Cause.TheVariants.{Broken as broken_cause}
use Rattle.st_event.specs.Standing.{Standing, sure_in}
use Rattle.st_overlay.specs.Values.{Values, value_in}
use Rattle.st_store.specs.Store.{StoreView}
use Rattle.st_control.specs.Control.{standing_in}
use Rattle.st_roll.specs.Refusal.{left_up}
use Rattle.st_roll.proofs.JudgingLaws.{left_is, first_is, still_grounds}
use Rattle.st_roll.proofs.judging.Grounds.broken.Goals as goal

pub returns-clause-broken : goal.returns-clause-broken
returns-clause-broken c =
    let k = c.args.control.now in
    let st : Standing = standing_in k in
    let rows = c.args.rows.now in
    let table = c.target.result.now in
    let cause : c.map.result ≡ option_map broken_cause c.in_ok-broken.broken = search rules in
    let table_is : table ≡ k.store.target = c.target.ensures.target ∙ ap (λ (s : StoreView). s.target) c.store.ensures.store in
    let altered : is_in c.in_ok-changed.changed ≡ alters k.group (value_in k.store.target) rows =
    c.in_ok-changed.ensures.altered
    ∙ ap (λ (g : Group). alters g (value_in table) rows) c.topo-topo.ensures.topo
    ∙ ap (λ (t : Values). alters k.group (value_in t) rows) table_is in
    let left = left_is k.group (sure_in k.group st) (value_in k.store.target) rows c.args.self.now.sure c.in_ok-after.after c.in_ok-changed.changed c.remove_all.new.self c.requires.grounds.sure c.in_ok-after.ensures altered c.remove_all.ensures.members in
    cause ∙ ap (option_map broken_cause) (first_is k.group c.topo-topo.result.now c.args.self.now.sure c.remove_all.new.self (sure_in k.group st) (left_up k.group st rows) c.in_ok-broken.broken c.in_ok-broken.ensures.broken c.topo-topo.ensures.topo c.requires.grounds.sure left)

pub returns-clause-grounds : goal.returns-clause-grounds
returns-clause-grounds c = still_grounds c.args.control.now c.args.self.now _ c.requires.grounds refl c.judge_pairs.ensures.same

pub returns-in_err-broken-clause-grounds : goal.returns-in_err-broken-clause-grounds
returns-in_err-broken-clause-grounds c = still_grounds c.args.control.now c.args.self.now _ c.requires.grounds refl c.judge_pairs.ensures.same
