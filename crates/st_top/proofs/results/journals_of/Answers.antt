use Rattle.std.proofs.Common.{◌≡◌, List, ◌++◌, ◌∷◌, [], length, length-append, refl, sym, ◌∙◌, ap, subst, arith}
use Rattle.std.proofs.lemmas.List.{append_assoc}
use Rattle.st_serial.specs.Serial.{GroupState, journals_from, state_of, states_of}
use Rattle.st_replay.specs.Again.{AreKeptStates}
use Rattle.st_replay.proofs.Replays.{kept_more}
use Rattle.st_top.proofs.HandedBack.{journal_next, journals_long}
use Rattle.st_serial.proofs.Worlds.{states_many, states_push}
use Rattle.st_top.proofs.results.journals_of.Goals as goal

pub overflow_cast-group : goal.overflow_cast-group
overflow_cast-group c =
    let count = ap length c.loop-world.invariant.journals_are in
    let same = journals_long 0 (states_of c.loop-world.yielded) in
    let all : length c.args.worlds.items ≡ length (c.loop-world.yielded ++ c.loop-world.world-iterator.rest.items) = ap length c.loop-world.invariant.all in
    let sum = length-append c.loop-world.yielded c.loop-world.world-iterator.rest.items in
    omega (arith, count, same, states_many c.loop-world.yielded, all, sum, c.requires)

pub loop-world-preserved : goal.loop-world-preserved
loop-world-preserved c =
    let ws = c.loop-world.yielded in
    let w = c.in-Some.world in
    let push : states_of (ws ++ w ∷ []) ≡ states_of ws ++ state_of w ∷ [] = states_push ws (ws ++ w ∷ []) w refl in
    let journals = journal_next (states_of ws) (state_of w) c.len-group.result c.into_journal.result c.loop-world.journals.items c.push.new.self.items (omega (arith, c.len-group.ensures)) c.into_journal.ensures.group c.into_journal.ensures.entries c.loop-world.invariant.journals_are c.in_ok-push.ensures.items in
    let kept = kept_more (states_of ws) (state_of w) c.loop-world.invariant.kept (record { sound = c.is_legal.ensures.sound; legal = c.is_legal.ensures.legal; promises = c.keeps_promises.ensures }) in
    record {
      journals_are = subst (λ (ss : List GroupState). c.push.new.self.items ≡ journals_from 0 ss) (sym push) journals;
      kept = subst (λ (ss : List GroupState). AreKeptStates ss) (sym push) kept;
      all = c.loop-world.invariant.all ∙ ap (λ rest. ws ++ rest) c.in-Some.ensures.steps.0 ∙ sym (append_assoc ws (w ∷ []) c.next.new.self.rest.items);
    }
