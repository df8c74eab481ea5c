use Rattle.st_control.proofs.Beyond.{sure_is}
use Rattle.st_control.proofs.StampLaws.{ok_map}
use Rattle.st_control.proofs.control.Control.sure.Goals as goal

pub returns-clause-sure : goal.returns-clause-sure
returns-clause-sure c =
    let k = c.args.self.now in
    ok_map _ _ c.shown.result (λ set marked. sure_is k.group k.store.observed k.stamps k.store.target set c.shown.ensures.reports marked) c.shown.ensures.shown
