use Rattle.std.proofs.Common.{◌∙◌, ap}
use Rattle.serde_json.specs.Data.{object}
use Rattle.st_player.specs.Entries.{told_data}
use Rattle.st_player.proofs.courses.tell_entry.Goals as goal

pub next_snapshot-requires : goal.next_snapshot-requires
next_snapshot-requires c = c.requires

pub returns-clause-told : goal.returns-clause-told
unfolding told_data
returns-clause-told c = c.object-told.ensures ∙ ap object c.in_ok-shown.ensures.told
