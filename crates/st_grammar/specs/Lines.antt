-- What a line declares over what the lines before it declared, or the first kind that applies to it. The kinds of a line are tested in the order
-- in which they stand here: each `do` line is one test.
use Rattle.std.specs.Prelude.{ℕ, List, [], ◌∷◌, ◌++◌, Bool, true, false, ◌&&◌, nat_le, nat_lt, length, if◌then◌else◌, Option, Some, None, is_some, Result, Ok, Err, ok_or, bytes_eq, codes, slice_get, option_map, option_and_then}
use Rattle.st_text.specs.AllowedBytes.{has_allowed_bytes}
use Rattle.st_text.specs.Tokens.{tokens_of}
use Rattle.st_text.specs.Numbers.{number_of}
use Rattle.st_net.specs.Names.{is_among}
use Rattle.st_wire.specs.declared.line.WireLine.{WireLine}
use Rattle.st_event.specs.declared.act.Act.{Act}
use Rattle.st_token.specs.declared.fault.FaultKind.{FaultKind}
use Rattle.st_token.specs.declared.fault.FaultKind.TheVariants as kinds
use Rattle.st_token.specs.Steps.{◌>>=◌}
use Rattle.st_token.specs.Spelling.{new_name_in, known_name_in, is_comment}
use Rattle.st_token.specs.Counts.{one_of, some_of}
use Rattle.st_grammar.specs.declared.keyword.Keyword.{Keyword}
use Rattle.st_grammar.specs.declared.keyword.Keyword.TheVariants as keywords
use Rattle.st_grammar.specs.declared.limits.TheConstants.{MAX_GROUPS, MAX_APPS, MAX_ACTS, MAX_VERSION, MAX_WIRE_LINES}
use Rattle.st_grammar.specs.declared.doc.Script.{Script}
use Rattle.st_grammar.specs.Draft.{GroupDraft, Draft, has_header, empty_group, empty_script, groups_of, apps_of, group_names, app_names, with_wire, wired}
use Rattle.st_grammar.specs.Sections.{part_line}
use Rattle.st_grammar.specs.Commands.{act_of, wire_of}
use Rattle.st_grammar.specs.Keywords.{keyword_of, phase_of, since}

-- the name of a new group or application, of which there are so many at most
unfoldable pub begun_name : List (List ℕ) → ℕ → List (List ℕ) → Result (List ℕ) FaultKind
begun_name names most args = do
  word ← one_of args
  name ← new_name_in (is_among word names) word
  if nat_lt (length names) most then Ok name else Err kinds.Limit

-- `group NAME` and `app NAME`
unfoldable pub group_line : Draft → List (List ℕ) → Result Draft FaultKind
group_line d args = do
  name ← begun_name (group_names d) MAX_GROUPS args
  Ok (record d { groups = groups_of d; group = Some (empty_group name) })

unfoldable pub app_line : Draft → List (List ℕ) → Result Draft FaultKind
app_line d args = do
  name ← begun_name (app_names d) MAX_APPS args
  Ok (record d { apps = apps_of d; app = Some (empty_script name) })

-- how many wire lines the group of a number has: the group that was begun last has the number behind the others'
abbrev pub wire_count_of : Option GroupDraft → ℕ
wire_count_of None = 0
wire_count_of (Some g) = length g.wires

abbrev pub wire_count : Draft → ℕ → ℕ
wire_count d n = if nat_lt n (length d.groups) then wire_count_of (slice_get d.groups n) else wire_count_of d.group

-- the draft with one more wire line of a group
abbrev pub with_wire_line : Draft → ℕ → WireLine → Draft
with_wire_line d n line =
    if nat_lt n (length d.groups) then record d { groups = wired d.groups n line } else record d { group = option_map (λ g. with_wire g line) d.group }

unfoldable pub wire_line : Draft → Result (ℕ × WireLine) FaultKind → Result Draft FaultKind
wire_line d read = do
  line ← read
  if nat_lt (wire_count d line.0) MAX_WIRE_LINES then Ok (with_wire_line d line.0 line.1) else Err kinds.Limit

-- declared names, behind those that were read
unfoldable pub known_names_in : List (List ℕ) → List ℕ → List (List ℕ) → Result (List ℕ) FaultKind
known_names_in names front [] = Ok front
known_names_in names front (token ∷ tokens) = do
  place ← known_name_in names token
  known_names_in names (front ++ place ∷ []) tokens

-- `order NAME..`
unfoldable pub order_line : Draft → List (List ℕ) → Result Draft FaultKind
order_line d args = do
  words ← some_of args
  apps ← known_names_in (app_names d) [] words
  Ok (record d { order = d.order ++ apps })

-- the section that the keyword's lines need is begun
abbrev pub has_section : Draft → Keyword → Bool
has_section d keywords.Group = true
has_section d (keywords.Part word) = is_some d.group
has_section d (keywords.Wire word) = true
has_section d keywords.App = true
has_section d (keywords.Act word) = is_some d.app
has_section d keywords.Order = true

abbrev pub is_allowed : Draft → Keyword → Bool
is_allowed d keyword = nat_le d.phase (phase_of keyword) && nat_le (since keyword) d.version && has_section d keyword

-- what a line adds to its group
abbrev pub into_group : Draft → (GroupDraft → Result GroupDraft FaultKind) → Result Draft FaultKind
into_group d line = do
  g ← ok_or d.group kinds.Word
  h ← line g
  Ok (record d { group = Some h })

-- an act of the application, the last thing of whose line is that there is room for it
abbrev pub with_act : Script → Act → Script
with_act app act = record app { acts = app.acts ++ act ∷ [] }

unfoldable pub act_added : Draft → Act → Result Draft FaultKind
act_added d act = do
  app ← ok_or d.app kinds.Word
  if nat_lt (length app.acts) MAX_ACTS then Ok (record d { app = Some (with_act app act) }) else Err kinds.Limit

unfoldable pub act_line : Draft → Result Act FaultKind → Result Draft FaultKind
act_line d read = do
  act ← read
  act_added d act

-- what the line of a keyword declares
abbrev pub declared_by : Draft → Keyword → List (List ℕ) → Result Draft FaultKind
declared_by d keywords.Group args = group_line d args
declared_by d (keywords.Part word) args = into_group d (λ g. part_line g word args)
declared_by d (keywords.Wire word) args = wire_line d (wire_of d word args)
declared_by d keywords.App args = app_line d args
declared_by d (keywords.Act word) args = act_line d (act_of d word args)
declared_by d keywords.Order args = order_line d args

unfoldable pub phased_line : Draft → Keyword → List (List ℕ) → Result Draft FaultKind
phased_line d keyword args = do
  next ← declared_by d keyword args
  Ok (record next { phase = phase_of keyword })

unfoldable pub keyword_line : Draft → List ℕ → List (List ℕ) → Result Draft FaultKind
keyword_line d word args = do
  keyword ← ok_or (keyword_of word) kinds.Word
  if is_allowed d keyword then phased_line d keyword args else Err kinds.Word

-- the version that `statesman NUMBER` names
abbrev pub version_of : ℕ → Option ℕ
version_of n = if nat_le 1 n && nat_le n MAX_VERSION then Some n else None

abbrev pub version_named : List (List ℕ) → Option ℕ
version_named (a ∷ b ∷ []) = if bytes_eq a (codes "statesman") then option_and_then version_of (number_of b) else None
version_named _ = None

unfoldable pub header_line : Draft → List (List ℕ) → Result Draft FaultKind
header_line d words = do
  version ← ok_or (version_named words) kinds.Header
  Ok (record d { version = version })

-- what is declared after a line with these tokens
abbrev pub tokens_line : Draft → List (List ℕ) → Result Draft FaultKind
tokens_line d [] = Ok d
tokens_line d (word ∷ args) = if is_comment word then Ok d else (if has_header d then keyword_line d word args else header_line d (word ∷ args))

-- what is declared after a line
unfoldable pub line_of : Draft → List ℕ → Result Draft FaultKind
line_of d line = if has_allowed_bytes line then tokens_line d (tokens_of line) else Err kinds.Byte
