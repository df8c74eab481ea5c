use Rattle.std.proofs.Common.{◌≡◌, ◌∙◌, ℕ, ◌+◌, ◌<◌, List, ◌++◌, drop, take, length, ap, ap₂, sym, subst, arith}
use Rattle.std.specs.Prelude.{All}
use Rattle.st_net.specs.Groups.{Group, IsSound}
use Rattle.st_event.specs.declared.journal.TheConstants.{MAX_ENTRIES}
use Rattle.st_event.specs.History.{History, with_entry}
use Rattle.st_event.specs.Legal.{IsLegal, IsNext}
use Rattle.st_player.specs.declared.playback.Told.{Told}
use Rattle.st_world.specs.declared.world.World.{World}
use Rattle.st_player.specs.Entries.{askers_after}
use Rattle.st_player.specs.Inside.{all_since, told_after}
use Rattle.st_player.specs.Known.{makers_after}
use Rattle.st_player.specs.Origins.{origins_after}
use Rattle.st_player.proofs.PlaybackLemmas.{playback_next, take_front, told_low}
use Rattle.st_player.proofs.playback.Playback.enter.Goals as goal

pub keep_told-requires-clause-room : goal.keep_told-requires-clause-room
keep_told-requires-clause-room c =
    let h : History = c.self.inside.world.value.history in
    let few : length h.past < MAX_ENTRIES = subst (λ (k : History). length k.past < MAX_ENTRIES) (sym c.self.view_is) c.requires.room in
    subst (λ (told : List Told). All (λ (one : Told). one.made < MAX_ENTRIES) told) (sym c.as_mut_slice.ensures.value)
    (told_low h.group h.past c.self.inside.told.items MAX_ENTRIES c.self.invariant.told_is few)

pub invariant_of-result : goal.invariant_of-result
invariant_of-result c =
    let h : History = c.self.inside.world.value.history in
    let entry = c.args.entry.now in
    let old = c.self.inside.told.items in
    let new = c.keep_told.new.told in
    let next : IsNext h.group h.past entry = subst (λ (k : History). IsNext k.group k.past entry) (sym c.self.view_is) c.requires in
    let long : c.self.inside.told.len ≡ length new = (let a = c.keep_told.auto.told in let b = c.as_mut_slice.ensures.len in omega (arith, a, b)) in
    let told : take c.self.inside.told.len (new ++ drop (length new) old) ≡ told_after h.group entry.event old =
    take_front c.self.inside.told.len new (drop (length new) old) long
    ∙ c.keep_told.ensures
    ∙ ap (λ (g : Group). told_after g entry.event c.as_mut_slice.result.now) (c.topo.ensures.topo ∙ c.control.ensures.group ∙ ap (λ (w : World). w.history.group) c.deref-3.ensures)
    ∙ ap (told_after h.group entry.event) c.as_mut_slice.ensures.value in
    let count : c.entries-number.result ≡ length h.past = c.entries-number.ensures.count ∙ ap (λ (w : World). length w.history.past) c.deref.ensures in
    let asked = c.in_ok-keep_asker.ensures ∙ ap (λ (n : ℕ). askers_after entry.event entry.reply (n + 1) c.self.inside.askers.items) count in
    let makers = c.self.inside.makers.items in
    let made = c.in_ok-keep_maker.ensures ∙ ap (λ (n : ℕ). makers_after entry.event (n + 1) makers) count in
    let legal : IsLegal h.group h.past = subst (λ (w : World). IsLegal w.history.group w.history.past) c.deref-2.ensures c.is_legal.ensures.legal in
    let sound : IsSound h.group = subst (λ (w : World). IsSound w.history.group) c.deref-2.ensures c.is_legal.ensures.sound in
    let since = c.self.inside.since.items in
    let since_now = c.keep_since.new.since in
    let wide : c.self.inside.since.len ≡ length since_now = (let a = c.keep_since.auto.since in let b = c.as_mut_slice-2.ensures.len in omega (arith, a, b)) in
    let known : take c.self.inside.since.len (since_now ++ drop (length since_now) since) ≡ all_since h.group h.past entry.event makers since =
    take_front c.self.inside.since.len since_now (drop (length since_now) since) wide
    ∙ c.keep_since.ensures
    ∙ ap (λ (w : World). all_since w.history.group w.history.past entry.event c.as_slice.result.now c.as_mut_slice-2.result.now) c.deref-4.ensures
    ∙ ap₂ (all_since h.group h.past entry.event) c.as_slice.ensures.value c.as_mut_slice-2.ensures.value in
    let origins = c.self.inside.origins.items in
    let origins_now = c.keep_origins.new.origins in
    let broad : c.self.inside.origins.len ≡ length origins_now = (let a = c.keep_origins.auto.origins in let b = c.as_mut_slice-3.ensures.len in omega (arith, a, b)) in
    let came : take c.self.inside.origins.len (origins_now ++ drop (length origins_now) origins) ≡ origins_after h.group h.past entry (length h.past + 1) origins =
    take_front c.self.inside.origins.len origins_now (drop (length origins_now) origins) broad
    ∙ c.keep_origins.ensures
    ∙ ap (λ (w : World). origins_after w.history.group w.history.past entry (c.entries-number.result + 1) c.as_mut_slice-3.result.now) c.deref-5.ensures
    ∙ ap (λ (n : ℕ). origins_after h.group h.past entry (n + 1) c.as_mut_slice-3.result.now) count
    ∙ ap (origins_after h.group h.past entry (length h.past + 1)) c.as_mut_slice-3.ensures.value in
    playback_next h c.enter_legal.new.world.history old _ c.self.inside.askers.items c.keep_asker.new.askers.items makers c.keep_maker.new.makers.items since _ origins _ entry c.self.invariant sound legal next told asked made known came
    (c.in_ok-enter_legal.ensures ∙ ap (λ (w : World). with_entry w.history entry) c.deref_mut.ensures.value)
