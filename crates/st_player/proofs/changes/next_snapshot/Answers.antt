use Rattle.std.proofs.Common.{◌∙◌, codes, length, refl, ap, subst}
use Rattle.std.specs.Prelude.{Option}
use Rattle.serde_json.specs.Data.{Data}
use Rattle.serde_json.specs.View.{members_view}
use Rattle.st_event.specs.History.{History}
use Rattle.st_event.specs.Observed.{actual, sure}
use Rattle.st_event.specs.Proposals.{pending, version}
use Rattle.st_event.specs.Standing.{Standing}
use Rattle.st_store.specs.Store.{StoreView}
use Rattle.st_player.specs.Json.{put_some}
use Rattle.st_player.specs.Snapshots.{Shown}
use Rattle.st_player.specs.Steps.{IsHeld, shown_in}
use Rattle.st_player.proofs.ChangeLemmas.{put_in_order}
use Rattle.st_player.proofs.SnapshotLemmas.{held_in_own}
use Rattle.st_player.proofs.changes.next_snapshot.Goals as goal

pub next_network-requires-clause-sure : goal.next_network-requires-clause-sure
next_network-requires-clause-sure c = held_in_own c.world-world.result.now.history.group c.world-world.result.now.history.group _ c.in_ok-sure.sure.held refl c.in_ok-sure.ensures.held

pub returns-clause-shown : goal.returns-clause-shown
returns-clause-shown c =
    let same = c.world-world.ensures in
    record {
      states = c.in_ok-states.ensures.states;
      network = subst (λ (k : History). IsHeld k.group (actual k.group k.past) c.in_ok-network.network.held) same c.in_ok-network.ensures.held;
      sure_is = subst (λ (k : History). IsHeld k.group (sure k.group k.past) c.in_ok-sure.sure.held) same c.in_ok-sure.ensures.held;
      version_is = c.version-version.ensures.version ∙ (ap (λ (s : StoreView). s.version) c.store.ensures.store ∙ (ap (λ (t : Standing). t.version) c.control.ensures.standing ∙ ap (λ (k : History). version k.past) same));
      pending_is = c.pending-pending.ensures.count ∙ (ap (λ (s : StoreView). length s.pending) c.store-2.ensures.store ∙ (ap (λ (t : Standing). length t.pending) c.control-2.ensures.standing ∙ ap (λ (k : History). length (pending k.past)) same));
    }

pub returns-clause-told : goal.returns-clause-told
returns-clause-told c =
    let network = c.in_ok-put_some.ensures ∙ ap (λ (d : Option Data). put_some (codes "network") d (members_view c.next_states.new.object)) c.in_ok-network.ensures.told in
    let known = c.in_ok-put_some-2.ensures ∙ ap (λ (d : Option Data). put_some (codes "sure") d (members_view c.put_some.new.self)) c.in_ok-sure.ensures.told in
    let new : Shown = record { states = c.in_ok-states.states.items; network = c.in_ok-network.network.held.kept.items; sure = c.in_ok-sure.sure.held.kept.items; version = c.version-version.result; pending = c.pending-pending.result } in
    put_in_order (shown_in c.args.before) new (members_view c.args.object.now) (members_view c.next_states.new.object) (members_view c.put_some.new.self) (members_view c.put_some-2.new.self) (members_view c.put_count.new.object) (members_view c.put_count-2.new.object)
    c.in_ok-states.ensures.told network known c.in_ok-put_count.ensures c.in_ok-put_count-2.ensures
