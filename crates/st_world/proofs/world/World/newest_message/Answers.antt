use Rattle.std.proofs.Common.{◌≡◌, ◌-◌, List, ◌∷◌, length, drop, sym, subst, ◌∙◌}
use Rattle.std.specs.Prelude.{Some, slice_get, reverse}
use Rattle.st_event.specs.declared.journal.Entry.{Entry}
use Rattle.st_world.proofs.RoundLaws.{follow_newest}
use Rattle.st_world.proofs.world.World.newest_message.Goals as goal

pub returns : goal.returns
returns c =
    let g = c.self.inside.machine.checker.group in
    let items = c.self.inside.journal.items in
    let newest = c.in_ok-newest.newest.now in
    let last = subst (λ (es : List Entry). slice_get es (length es - 1) ≡ Some c.in_ok-newest.newest.now) c.as_slice.ensures.value (sym c.in_ok-newest.ensures.value) in
    rw (← c.self.view_is) (follow_newest g c.self.inside.losses items newest last ∙ c.message_of.ensures g c.self.inside.losses (newest ∷ drop 1 (reverse items)))
