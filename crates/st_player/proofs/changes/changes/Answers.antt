use Rattle.std.proofs.Common.{◌≡◌, ◌∙◌, List, map, ap, sym, subst}
use Rattle.serde_json.specs.View.{view}
use Rattle.serde_json.specs.declared.value.Value.{Value}
use Rattle.st_player.specs.declared.state.State.{State}
use Rattle.st_player.specs.declared.touched.Touched.{Touched}
use Rattle.st_player.specs.declared.touched.Touched.TheVariants.{Near}
use Rattle.st_player.specs.Fields.{changes_from}
use Rattle.st_player.specs.Snapshots.{states_of}
use Rattle.st_player.specs.Touched.{Touches}
use Rattle.st_player.proofs.ChangeLemmas.{begins, changes_none, ends, marks_within, states_same}
use Rattle.st_player.proofs.changes.changes.Goals as goal

pub returns-in-Nothing-clause-states : goal.returns-in-Nothing-clause-states
returns-in-Nothing-clause-states c =
    let h = c.requires.0 in
    let k = c.args.behind.now in
    c.requires.2 ∙ states_same h k (subst (λ (t : Touched). Touches h k t) c.in-Nothing.is c.requires.1)

pub returns-in-Nothing-clause-list : goal.returns-in-Nothing-clause-list
returns-in-Nothing-clause-list c =
    let h = c.requires.0 in
    let k = c.args.behind.now in
    let news = states_of k.group k.past in
    let same : c.args.states.now ≡ news = c.requires.2 ∙ states_same h k (subst (λ (t : Touched). Touches h k t) c.in-Nothing.is c.requires.1) in
    ap (λ (vs : List Value). map view vs) c.new-list.ensures ∙ sym (ap (λ (olds : List State). changes_from 0 olds news) same ∙ changes_none 0 news)

pub returns-in_ok-renew_near-in-Near-clause-states : goal.returns-in_ok-renew_near-in-Near-clause-states
returns-in_ok-renew_near-in-Near-clause-states c =
    let h = c.requires.0 in
    let k = c.args.behind.now in
    let near : Touches h k (Near c.in-Near.at) = subst (λ (t : Touched). Touches h k t) c.in-Near.is c.requires.1 in
    let begun = begins h k c.args.states.now (map view c.new-list.result) c.requires.2 (ap (λ (vs : List Value). map view vs) c.new-list.ensures) in
    let is = ends h k c.renew_near.new.states (map view c.renew_near.new.list) c.requires.1.group (c.in_ok-renew_near-in-Near.ensures.renewed h near begun) in
    is.0

pub returns-in_ok-renew_near-in-Near-clause-list : goal.returns-in_ok-renew_near-in-Near-clause-list
returns-in_ok-renew_near-in-Near-clause-list c =
    let h = c.requires.0 in
    let k = c.args.behind.now in
    let near : Touches h k (Near c.in-Near.at) = subst (λ (t : Touched). Touches h k t) c.in-Near.is c.requires.1 in
    let begun = begins h k c.args.states.now (map view c.new-list.result) c.requires.2 (ap (λ (vs : List Value). map view vs) c.new-list.ensures) in
    let is = ends h k c.renew_near.new.states (map view c.renew_near.new.list) c.requires.1.group (c.in_ok-renew_near-in-Near.ensures.renewed h near begun) in
    is.1 ∙ ap (λ (olds : List State). changes_from 0 olds (states_of k.group k.past)) (sym c.requires.2)

pub renew_shown-requires-clause-marks : goal.renew_shown-requires-clause-marks
renew_shown-requires-clause-marks c = marks_within c.args.behind.now.group c.args.touched.now c.requires.1.within

pub returns-in_ok-renew_shown-in-Altered-clause-states : goal.returns-in_ok-renew_shown-in-Altered-clause-states
returns-in_ok-renew_shown-in-Altered-clause-states c =
    let h = c.requires.0 in
    let k = c.args.behind.now in
    let begun = begins h k c.args.states.now (map view c.new-list.result) c.requires.2 (ap (λ (vs : List Value). map view vs) c.new-list.ensures) in
    let is = ends h k c.renew_shown.new.states (map view c.renew_shown.new.list) c.requires.1.group (c.in_ok-renew_shown-in-Altered.ensures.renewed h c.requires.1 begun) in
    is.0

pub returns-in_ok-renew_shown-in-Altered-clause-list : goal.returns-in_ok-renew_shown-in-Altered-clause-list
returns-in_ok-renew_shown-in-Altered-clause-list c =
    let h = c.requires.0 in
    let k = c.args.behind.now in
    let begun = begins h k c.args.states.now (map view c.new-list.result) c.requires.2 (ap (λ (vs : List Value). map view vs) c.new-list.ensures) in
    let is = ends h k c.renew_shown.new.states (map view c.renew_shown.new.list) c.requires.1.group (c.in_ok-renew_shown-in-Altered.ensures.renewed h c.requires.1 begun) in
    is.1 ∙ ap (λ (olds : List State). changes_from 0 olds (states_of k.group k.past)) (sym c.requires.2)
