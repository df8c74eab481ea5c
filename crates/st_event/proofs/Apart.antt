-- Each group's journal comes of its own events.
use Rattle.std.proofs.Common.{◌≡◌, ℕ, List, [], ◌∷◌, refl, ◌∙◌}
use Rattle.std.specs.Prelude.{Bool, true, false, ◌==◌, if◌then◌else◌}
use Rattle.st_event.specs.declared.event.Event.{Event}
use Rattle.st_event.specs.declared.journal.Entry.{Entry}
use Rattle.st_net.specs.Groups.{Group}
use Rattle.st_event.specs.Services.{journal_after, journal_by, GroupEvent, journals_after, journals_by, events_of}

one_apart : (g : Group) (event : Event) (later : List Event) (past : List Entry) (own : Bool) → journal_by g later (if own then journal_after g event past else past) ≡ journal_by g (if own then event ∷ later else later) past
one_apart g event later past true = refl
one_apart g event later past false = refl

pub journals_apart : (groups : ℕ → Group) (events : List GroupEvent) (journals : ℕ → List Entry) (k : ℕ) → journals_by groups events journals k ≡ journal_by (groups k) (events_of k events) (journals k)
journals_apart groups [] journals k = refl
journals_apart groups (at ∷ later) journals k = journals_apart groups later (journals_after groups at journals) k ∙ one_apart (groups k) at.event (events_of k later) (journals k) (at.group == k)
