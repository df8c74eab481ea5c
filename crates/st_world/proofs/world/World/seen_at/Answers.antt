use Rattle.st_world.proofs.SeenLaws.{IsStoreAt, seen_at_value}
use Rattle.st_world.proofs.world.World.seen_at.Goals as goal

pub returns-in-Value : goal.returns-in-Value
returns-in-Value c =
    let h = c.args.self.now.history in
    let k = c.control.result.now in
    let store = c.store.result.now in
    let at : IsStoreAt h k store = record { standing = c.control.ensures.standing; versions = c.control.ensures.versions; store_is = c.store.ensures.store } in
    seen_at_value h k store c.args.version c.in-Value.value c.args.entity c.args.var at c.in-Value.ensures.0 c.in-Value.ensures.1
