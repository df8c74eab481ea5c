use Rattle.std.proofs.Common.{◌≡◌, [], ◌∷◌, ◌++◌, ◌∙◌, List, ℕ, ap, length, set, replicate}
use Rattle.st_flow.specs.Search.{no_mark}
use Rattle.st_flow.proofs.Running.{Runs-start}
use Rattle.st_flow.proofs.search.Search.begin.Goals as goal

pub returns-clause-running : goal.returns-clause-running
returns-clause-running c = λ g fs nodes.
    let done = c.in_ok-reach.ensures in
    let start : c.reach.new.self.start ≡ c.args.start = done.start ∙ c.forget.ensures.start in
    let queue : c.reach.new.self.queue.items ≡ c.args.start ∷ [] = done.queue ∙ ap (λ (xs : List ℕ). xs ++ c.args.start ∷ []) c.clear.ensures.items in
    let marks : c.reach.new.self.marks.items ≡ set (replicate (length c.args.self.now.marks.items) no_mark) c.args.start (record { level = 1; edge = 0; width = c.args.limit }) = rw (c.forget.ensures.marks, c.clear.ensures.items) at done.marks in
    Runs-start g fs c.reach.new.self c.args.limit (rw (start, nodes) c.requires.start_in) c.requires.wide (done.next ∙ c.forget.ensures.next) (rw (start, nodes) marks) (rw start queue)
