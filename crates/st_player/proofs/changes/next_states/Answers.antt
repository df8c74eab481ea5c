use Rattle.std.proofs.Common.{◌≡◌, ◌∙◌, ◌++◌, List, codes, drop, length, take, ap, ap₂, sym, arith}
use Rattle.serde_json.specs.Data.{Data}
use Rattle.serde_json.specs.View.{members_view}
use Rattle.st_player.specs.Fields.{changes_from}
use Rattle.st_player.specs.Json.{put_list}
use Rattle.st_player.proofs.PlaybackLemmas.{take_front}
use Rattle.st_player.proofs.changes.next_states.Goals as goal

pub returns-clause-states : goal.returns-clause-states
returns-clause-states c =
    let new = c.changes.new.states in
    let long : c.args.states.len ≡ length new = (let a = c.changes.auto.states in let b = c.as_mut_slice.ensures.len in omega (arith, a, b)) in
    take_front c.args.states.len new (drop (length new) c.args.states.items) long ∙ c.in_ok-list.ensures.states

pub returns-clause-told : goal.returns-clause-told
returns-clause-told c =
    let new = c.changes.new.states in
    let old = c.args.states.items in
    let long : c.args.states.len ≡ length new = (let a = c.changes.auto.states in let b = c.as_mut_slice.ensures.len in omega (arith, a, b)) in
    let back : take c.args.states.len (new ++ drop (length new) old) ≡ new = take_front c.args.states.len new (drop (length new) old) long in
    c.in_ok-put_list.ensures ∙ ap (λ (ds : List Data). put_list (codes "set") ds (members_view c.args.object.now))
    (c.in_ok-list.ensures.list ∙ ap₂ (changes_from 0) c.as_mut_slice.ensures.value (sym (back ∙ c.in_ok-list.ensures.states)))
