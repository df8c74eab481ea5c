use Rattle.std.proofs.Common.{ap, ◌∙◌}
use Rattle.st_overlay.specs.Values.{Values, value_in}
use Rattle.st_world.proofs.SeenLaws.{IsStoreAt, seen_now_is}
use Rattle.st_world.proofs.world.World.seen_now.Goals as goal

pub returns : goal.returns
returns c =
    let h = c.args.self.now.history in
    let k = c.control.result.now in
    let store = c.store-store.result.now in
    let at : IsStoreAt h k store = record { standing = c.control.ensures.standing; versions = c.control.ensures.versions; store_is = c.store-store.ensures.store } in
    seen_now_is h k store c.version.result c.value.result c.args.entity c.args.var at c.version.ensures.version (c.value.ensures ∙ ap (λ (t : Values). value_in t c.args.entity c.args.var) c.target.ensures.target)
