-- Of no concern to callers: the fields of a reader, and what its indexes keep.
use Rattle.std.specs.Prelude.{◌≡◌, ◌≤◌, ℕ, List, length}
use Rattle.st_grammar.specs.declared.limits.TheConstants.{MAX_GROUPS, MAX_APPS}
use Rattle.st_grammar.specs.Draft.{Draft, group_names, app_names}
use Rattle.st_doc.specs.declared.reader.Reader.TheInside.{Inside}

abbrev pub draft_of : Inside → Draft
draft_of r = record {
  version = r.version;
  phase = r.phase;
  groups = r.groups.items;
  group = r.group;
  apps = r.apps.items;
  app = r.app;
  order = r.order.items;
}

-- the indexes have the names that are declared
pub record KnowsNames (d : Draft) (grouped called : List (List ℕ)) : Type 0 where
  pub group_index : grouped ≡ group_names d
  pub app_index : called ≡ app_names d
  pub few_groups : length grouped ≤ MAX_GROUPS
  pub few_apps : length called ≤ MAX_APPS
