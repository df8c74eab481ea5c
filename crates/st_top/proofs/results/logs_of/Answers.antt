use Rattle.std.proofs.Common.{◌≡◌, ◌++◌, ◌∷◌, [], length, length-append, sym, ◌∙◌, ap, arith}
use Rattle.std.proofs.lemmas.List.{append_assoc}
use Rattle.st_top.proofs.HandedBack.{log_next, logs_long}
use Rattle.st_top.proofs.results.logs_of.Goals as goal

pub overflow_cast-app : goal.overflow_cast-app
overflow_cast-app c =
    let count = ap length c.loop-entries.invariant.logs_are in
    let same = logs_long 0 c.loop-entries.yielded in
    let all : length c.args.logs.items ≡ length (c.loop-entries.yielded ++ c.loop-entries.entries-iterator.rest.items) = ap length c.loop-entries.invariant.all in
    let sum = length-append c.loop-entries.yielded c.loop-entries.entries-iterator.rest.items in
    omega (arith, count, same, all, sum, c.requires)

pub loop-entries-preserved : goal.loop-entries-preserved
loop-entries-preserved c = record {
  logs_are = log_next c.loop-entries.yielded c.in-Some.entries c.len.result c.loop-entries.all.items c.push.new.self.items (omega (arith, c.len.ensures)) c.loop-entries.invariant.logs_are c.in_ok-push.ensures.items;
  all = c.loop-entries.invariant.all ∙ ap (λ rest. c.loop-entries.yielded ++ rest) c.in-Some.ensures.steps.0 ∙ sym (append_assoc c.loop-entries.yielded (c.in-Some.entries ∷ []) c.next.new.self.rest.items);
}
