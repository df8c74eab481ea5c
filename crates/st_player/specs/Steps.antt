-- Of no concern to callers: snapshots, sets and cuts as they are kept.
use Rattle.std.specs.Prelude.{◌≡◌, All, Bool, true, List, length, map}
use Rattle.st_net.specs.declared.entity.Entity.{Entity}
use Rattle.st_net.specs.declared.entity.Row.{Row}
use Rattle.st_net.specs.declared.promise.Promise.{Promise}
use Rattle.st_net.specs.Groups.{Group}
use Rattle.st_net.specs.Merge.{alters}
use Rattle.st_net.specs.Promises.{is_kept}
use Rattle.st_net.specs.Sets.{MarksOf, is_in}
use Rattle.st_event.specs.History.{History}
use Rattle.st_event.specs.Observed.{actual, sure, sure_after}
use Rattle.st_event.specs.Proposals.{version, pending, target}
use Rattle.st_player.specs.declared.cuts.Cut.{Cut}
use Rattle.st_player.specs.declared.weighing.Weighed.{Weighed}
use Rattle.st_player.specs.declared.snapshot.Held.{Held}
use Rattle.st_player.specs.declared.snapshot.Snapshot.{Snapshot}
use Rattle.st_player.specs.Cuts.{Stands}
use Rattle.st_player.specs.Snapshots.{Shown, states_of}

-- every promise holds while these entities are up
abbrev pub AllKept : Group → (Entity → Bool) → Type 0
AllKept g up = All (λ (p : Promise). is_kept g up p ≡ true) g.promises

-- the promises that hold while these entities are up, and that all do where that is said
pub record IsHeld (g : Group) (up : Entity → Bool) (held : Held) : Type 0 where
  pub of : MarksOf g held.up
  pub up_is : is_in held.up ≡ up
  pub kept : held.kept.items ≡ map (is_kept g up) g.promises
  pub whole : held.all ≡ true → AllKept g up

-- what a snapshot shows
abbrev pub shown_in : Snapshot → Shown
shown_in s = record { states = s.states.items; network = s.network.kept.items; sure = s.sure.kept.items; version = s.version; pending = s.pending }

-- a snapshot of a group after these entries
pub record IsSnapshot (h : History) (s : Snapshot) : Type 0 where
  pub states : s.states.items ≡ states_of h.group h.past
  pub network : IsHeld h.group (actual h.group h.past) s.network
  pub sure_is : IsHeld h.group (sure h.group h.past) s.sure
  pub version_is : s.version ≡ version h.past
  pub pending_is : s.pending ≡ length (pending h.past)

-- the sets that rows are judged on
pub record IsWeighed (h : History) (rows : List Row) (sets : Weighed) : Type 0 where
  pub changed_of : MarksOf h.group sets.changed
  pub sure_of : MarksOf h.group sets.sure
  pub after_of : MarksOf h.group sets.after
  pub changed_is : is_in sets.changed ≡ alters h.group (target h.group h.past) rows
  pub sure_is : is_in sets.sure ≡ sure h.group h.past
  pub after_is : is_in sets.after ≡ sure_after h.group h.past rows

-- a cut as it is kept
abbrev pub cut_in : Cut → Stands
cut_in cut = record { far = cut.far.items; left = cut.left.items; out = cut.out.items; changes = cut.changes.items; gone = cut.gone.items }
