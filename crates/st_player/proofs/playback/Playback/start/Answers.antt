use Rattle.std.proofs.Common.{◌∙◌, ℕ, List, ap, sym, subst, length, replicate}
use Rattle.st_net.proofs.EntityOrder.{entities_count}
use Rattle.st_event.specs.History.{History}
use Rattle.st_world.specs.declared.world.World.{World}
use Rattle.st_player.specs.declared.playback.Told.{Told}
use Rattle.st_player.specs.Inside.{IsPlayback}
use Rattle.st_player.proofs.KnownLemmas.{none_since, zeros_long}
use Rattle.st_player.specs.declared.origins.Origin.{Origin}
use Rattle.st_player.proofs.OriginLemmas.{none_origins, origins_long}
use Rattle.st_player.proofs.PlaybackLemmas.{none_long, none_told}
use Rattle.st_player.proofs.playback.Playback.start.Goals as goal

pub invariant_of-result : goal.invariant_of-result
invariant_of-result c =
    let told = c.in_ok-told.told.items in
    let since = c.in_ok-since.since.items in
    let origins = c.in_ok-origins.origins.items in
    let asked = c.new-2.result.items in
    let made = c.new-3.result.items in
    let all = c.in_ok-told.ensures.items_if_clones_equal (λ y is. is) in
    let many = ap (λ (ts : List Told). length ts) all ∙ none_long c.entity_count-count.result ∙ c.entity_count-count.ensures ∙ entities_count c.args.topo in
    let zeros = c.in_ok-since.ensures.items_if_clones_equal (λ y is. is) in
    let long = ap (λ (ns : List ℕ). length ns) zeros ∙ zeros_long c.entity_count-count.result ∙ c.entity_count-count.ensures ∙ entities_count c.args.topo in
    let nones = c.in_ok-origins.ensures.items_if_clones_equal (λ y is. is) ∙ ap (replicate c.entity_count-count.result) c.no_origin.ensures in
    let wide = ap (λ (os : List Origin). length os) nones ∙ origins_long c.entity_count-count.result ∙ c.entity_count-count.ensures ∙ entities_count c.args.topo in
    subst (λ (h : History). IsPlayback h told asked made since origins) (sym (ap (λ (w : World). w.history) c.in_ok-world.ensures.ok ∙ c.in_ok-start.ensures.history))
    (record {
      told_is = none_told c.args.topo told c.entity_count-count.result all many;
      asked_is = c.new-2.ensures.items;
      made_is = c.new-3.ensures.items;
      since_is = none_since c.args.topo since c.entity_count-count.result zeros long;
      origins_are = none_origins c.args.topo origins c.entity_count-count.result nones wide;
    })
