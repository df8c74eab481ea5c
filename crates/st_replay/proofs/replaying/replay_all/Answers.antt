use Rattle.std.proofs.Common.{rules, ◌≡◌, ◌<◌, ◌++◌, ◌∷◌, [], List, length, ap, sym, ◌∙◌, subst, append_assoc, arith}
use Rattle.std.specs.Prelude.{All, reverse, slice_index_or}
use Rattle.st_net.specs.Groups.{Group}
use Rattle.st_event.specs.declared.journal.Entry.{Entry}
use Rattle.st_event.specs.Legal.{Fits}
use Rattle.st_journal.specs.Replaying.{IsFirstWrong, IsReplayOf, Replays}
use Rattle.st_replay.specs.Replaying.{IsFirstIllegal}
use Rattle.st_replay.proofs.Replays.{again_all, again_many, again_next, again_none, first_illegal, fits_here, one_each}
use Rattle.st_replay.proofs.replaying.replay_all.Goals as goal

pub offset_bounds-journals-group : goal.offset_bounds-journals-group
offset_bounds-journals-group c =
    let many = again_many c.loop-topo.yielded c.args.journals.now c.loop-topo.worlds.items c.loop-topo.invariant.again in
    let few = c.loop-topo.invariant.again.few in
    omega (arith, c.len-group.ensures, many, few, one_each 0 c.args.topos.items c.args.journals.now c.requires.each, c.requires.few)

pub overflow_cast-result : goal.overflow_cast-result
overflow_cast-result c =
    let many = again_many c.loop-topo.yielded c.args.journals.now c.loop-topo.worlds.items c.loop-topo.invariant.again in
    let few = c.loop-topo.invariant.again.few in
    omega (arith, c.len-group.ensures, many, few, one_each 0 c.args.topos.items c.args.journals.now c.requires.each, c.requires.few)

pub bounds-journals-group : goal.bounds-journals-group
bounds-journals-group c =
    let yielded = c.loop-topo.yielded in
    let journals = c.args.journals.now in
    let all = c.loop-topo.invariant.all ∙ ap (λ (rest : List Group). yielded ++ rest) c.in-Some.ensures.steps.0 in
    let here = fits_here c.args.topos.items yielded c.next.new.self.rest.items c.in-Some.topo journals (record { group = 0; entries = [] }) c.requires.each all in
    omega (arith, c.len-group.ensures, again_many yielded journals c.loop-topo.worlds.items c.loop-topo.invariant.again, here.0)

pub replay-requires-clause-few : goal.replay-requires-clause-few
replay-requires-clause-few c =
    let yielded = c.loop-topo.yielded in
    let journals = c.args.journals.now in
    let d = c.index-journals-group.result in
    let all = c.loop-topo.invariant.all ∙ ap (λ (rest : List Group). yielded ++ rest) c.in-Some.ensures.steps.0 in
    let here = fits_here c.args.topos.items yielded c.next.new.self.rest.items c.in-Some.topo journals d c.requires.each all in
    let low : c.len-group.result < length journals = omega (arith, c.len-group.ensures, again_many yielded journals c.loop-topo.worlds.items c.loop-topo.invariant.again, here.0) in
    let same = ap length c.as_slice.ensures in
    let short = c.requires.short c.len-group.result d low in
    omega (arith, same, short)

pub replay-requires-clause-fits : goal.replay-requires-clause-fits
replay-requires-clause-fits c =
    let yielded = c.loop-topo.yielded in
    let journals = c.args.journals.now in
    let d = c.index-journals-group.result in
    let all = c.loop-topo.invariant.all ∙ ap (λ (rest : List Group). yielded ++ rest) c.in-Some.ensures.steps.0 in
    let here = fits_here c.args.topos.items yielded c.next.new.self.rest.items c.in-Some.topo journals d c.requires.each all in
    let number : c.len-group.result ≡ length yielded = omega (arith, c.len-group.ensures, again_many yielded journals c.loop-topo.worlds.items c.loop-topo.invariant.again) in
    let same : c.as_slice.result.now ≡ (slice_index_or journals (length yielded) d).entries = c.as_slice.ensures ∙ ap (λ n. (slice_index_or journals n d).entries) number in
    subst (λ (es : List Entry). All (λ (entry : Entry). Fits c.in-Some.topo entry.event) es) (sym same) here.1

pub loop-topo-init : goal.loop-topo-init
loop-topo-init c = record {
  again = again_none c.args.journals.now c.new-worlds.result.items c.new-worlds.ensures.items;
  all = search rules;
}

pub loop-topo-preserved : goal.loop-topo-preserved
loop-topo-preserved c =
    let yielded = c.loop-topo.yielded in
    let journals = c.args.journals.now in
    let worlds = c.loop-topo.worlds.items in
    let topo = c.in-Some.topo in
    let world = c.in-Legal.world in
    let d = c.index-journals-group.result in
    let all = c.loop-topo.invariant.all ∙ ap (λ (rest : List Group). yielded ++ rest) c.in-Some.ensures.steps.0 in
    let here = fits_here c.args.topos.items yielded c.next.new.self.rest.items topo journals d c.requires.each all in
    let number : c.len-group.result ≡ length yielded = omega (arith, c.len-group.ensures, again_many yielded journals worlds c.loop-topo.invariant.again) in
    let same : c.as_slice.result.now ≡ (slice_index_or journals (length yielded) d).entries = c.as_slice.ensures ∙ ap (λ n. (slice_index_or journals n d).entries) number in
    let replayed : IsReplayOf topo c.as_slice.result.now world = subst (Replays topo c.as_slice.result.now) c.in-Legal.is c.in_ok-world.ensures in
    let past = replayed.history ∙ ap (λ (es : List Entry). record { group = topo; past = reverse es }) same in
    record {
      again = again_next yielded topo journals d worlds c.push.new.self.items world here.0 c.loop-topo.invariant.again past
          (record { sound = c.is_legal.ensures.sound; legal = c.is_legal.ensures.legal; promises = c.keeps_promises.ensures }) c.in_ok-push-in-Legal.ensures.items;
      all = all ∙ sym (append_assoc yielded (topo ∷ []) c.next.new.self.rest.items);
    }

pub returns : goal.returns
returns c =
    let rest = c.loop-topo.topo-iterator.rest.items in
    let none : length rest ≡ 0 = omega (arith, c.in-None.ensures.steps.0) in
    again_all c.args.topos.items c.loop-topo.yielded rest c.args.journals.now c.loop-topo.worlds.items c.loop-topo.invariant.all none c.loop-topo.invariant.again

pub returns-in-Illegal : goal.returns-in-Illegal
returns-in-Illegal c =
    let yielded = c.loop-topo.yielded in
    let journals = c.args.journals.now in
    let worlds = c.loop-topo.worlds.items in
    let topo = c.in-Some.topo in
    let rest = c.next.new.self.rest.items in
    let d = c.index-journals-group.result in
    let all = c.loop-topo.invariant.all ∙ ap (λ (gs : List Group). yielded ++ gs) c.in-Some.ensures.steps.0 in
    let here = fits_here c.args.topos.items yielded rest topo journals d c.requires.each all in
    let number : c.len-group.result ≡ length yielded = omega (arith, c.len-group.ensures, again_many yielded journals worlds c.loop-topo.invariant.again) in
    let same : c.as_slice.result.now ≡ (slice_index_or journals (length yielded) d).entries = c.as_slice.ensures ∙ ap (λ n. (slice_index_or journals n d).entries) number in
    let wrong : IsFirstWrong topo c.as_slice.result.now c.in-Illegal.entry = subst (Replays topo c.as_slice.result.now) c.in-Illegal.is c.in_ok-world.ensures in
    let there = first_illegal yielded rest topo journals d worlds c.len-group.result c.in-Illegal.entry here.0 c.loop-topo.invariant.again (omega (arith, c.len-group.ensures)) (subst (λ (es : List Entry). IsFirstWrong topo es c.in-Illegal.entry) same wrong) in
    subst (λ (gs : List Group). IsFirstIllegal gs journals c.len-group.result c.in-Illegal.entry) (sym all) there
