-- Of no concern to callers: the fields of a reader, and what they keep.
use Rattle.std.specs.Prelude.{◌<◌, ◌≤◌, ◌^◌, length, option_map}
use Rattle.st_journal.specs.JournalLines.{JournalDraft, journals_of}
use Rattle.st_journal.specs.declared.reader.JournalReader.TheInside.{Inside}

abbrev pub draft_of : Inside → JournalDraft
draft_of r = record {
  groups = r.topos.now;
  apps = r.apps.now;
  ended = r.ended.items;
  begun = option_map (λ entries. entries.items) r.begun;
}

-- no more journals than groups, and few groups and applications
pub record IsWithinGroups (d : JournalDraft) : Type 0 where
  pub journals : length (journals_of d) ≤ length d.groups
  pub few_groups : length d.groups < 2 ^ 32
  pub few_apps : length d.apps < 2 ^ 32
