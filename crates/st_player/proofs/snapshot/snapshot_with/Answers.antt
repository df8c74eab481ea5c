use Rattle.std.proofs.Common.{◌∙◌, ap, length}
use Rattle.st_event.specs.History.{History}
use Rattle.st_event.specs.Proposals.{version, pending}
use Rattle.st_event.specs.Standing.{Standing}
use Rattle.st_store.specs.Store.{StoreView}
use Rattle.st_player.proofs.snapshot.snapshot_with.Goals as goal

pub returns : goal.returns
returns c = record {
  states = c.in_ok-states.ensures;
  network = c.requires.network;
  sure_is = c.requires.sure;
  version_is = c.version.ensures.version ∙ ap (λ (s : StoreView). s.version) c.store-store.ensures.store ∙ ap (λ (t : Standing). t.version) c.control.ensures.standing ∙ ap (λ (h : History). version h.past) c.world.ensures;
  pending_is = c.pending.ensures.count ∙ ap (λ (s : StoreView). length s.pending) c.store-store.ensures.store ∙ ap (λ (t : Standing). length t.pending) c.control.ensures.standing ∙ ap (λ (h : History). length (pending h.past)) c.world.ensures;
}
