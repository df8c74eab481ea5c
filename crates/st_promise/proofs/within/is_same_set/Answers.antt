use Rattle.st_net.specs.Sets.{is_in}
use Rattle.st_promise.proofs.WithinLaws.{same_sets, within_itself}
use Rattle.st_promise.proofs.within.is_same_set.Goals as goal

pub returns-then-is_within : goal.returns-then-is_within
returns-then-is_within c =
    let set = is_in c.args.set.now in
    let other = is_in c.args.other.now in
    (λ back. same_sets set other (c.is_within.ensures.0 c.if-is_within.true) (c.is_within-then-is_within.ensures.0 back), λ same. c.is_within-then-is_within.ensures.1 (within_itself set other same).1)

pub returns-else-is_within : goal.returns-else-is_within
returns-else-is_within c =
    let set = is_in c.args.set.now in
    let other = is_in c.args.other.now in
    let fails = c.if-is_within.false in
    (λ there. cc, λ same. c.is_within.ensures.1 (within_itself set other same).0)
