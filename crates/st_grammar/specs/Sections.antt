-- What a line of a group's section declares over what the lines before it declared, or the first kind that applies to it. The kinds of a line are
-- tested in the order in which they stand here: each `do` line is one test.
use Rattle.std.specs.Prelude.{ℕ, List, Bool, not, ◌&&◌, ◌||◌, nat_lt, length, if◌then◌else◌, None, Result, Ok, Err, bytes_eq}
use Rattle.st_net.specs.declared.entity.Entity.{Entity}
use Rattle.st_net.specs.declared.entity.Row.{Row}
use Rattle.st_net.specs.declared.parts.EndPart.{EndPart}
use Rattle.st_net.specs.declared.parts.DevicePart.{DevicePart}
use Rattle.st_net.specs.declared.parts.LinkPart.{LinkPart}
use Rattle.st_net.specs.declared.parts.PromisePart.{PromisePart}
use Rattle.st_net.specs.declared.topo.TheConstants.{MAX_DEVICES, MAX_TORS, MAX_LINKS, MAX_PROMISES, MAX_CAPACITY, MAX_PERCENT}
use Rattle.st_net.specs.Faults.{is_bad_pair}
use Rattle.st_net.specs.Ranges.{most_health}
use Rattle.st_token.specs.declared.fault.FaultKind.{FaultKind}
use Rattle.st_token.specs.declared.fault.FaultKind.TheVariants as kinds
use Rattle.st_net.specs.declared.range.TheConstants.{DEVICE_HEALTH, LINK_HEALTH}
use Rattle.st_token.specs.Steps.{◌>>=◌}
use Rattle.st_token.specs.Spelling.{new_name_in, number_within}
use Rattle.st_token.specs.Variables.{new_assignment_in}
use Rattle.st_token.specs.Counts.{one_of, two_of, three_of, four_of}
use Rattle.st_grammar.specs.declared.keyword.PartWord.{PartWord}
use Rattle.st_grammar.specs.declared.keyword.PartWord.TheVariants as part_words
use Rattle.st_grammar.specs.Draft.{GroupDraft, is_entity_name, tors, device_default, link_default, with_device, with_link, with_promise, with_open, with_health}
use Rattle.st_grammar.specs.Spelling.{device_in, entity_named, untold_in, is_tor_word, end_in}

-- `device NAME tor` or `device NAME switch`
abbrev pub has_device_room : GroupDraft → Bool → Bool
has_device_room g tor = nat_lt (length g.devices) MAX_DEVICES && (not tor || nat_lt (length (tors g.devices)) MAX_TORS)

abbrev pub new_device : List ℕ → Bool → DevicePart
new_device name tor = record { name = name; tor = tor; vals = device_default; health = DEVICE_HEALTH }

unfoldable pub device_of : GroupDraft → List (List ℕ) → Result DevicePart FaultKind
device_of g args = do
  words ← two_of args
  name ← new_name_in (is_entity_name g words.0) words.0
  tor ← is_tor_word words.1
  if has_device_room g tor then Ok (new_device name tor) else Err kinds.Limit

-- `link NAME END END NUMBER`
abbrev pub own_end : List ℕ → EndPart
own_end name = record { group = None; name = name }

abbrev pub new_link : List ℕ → List ℕ → List ℕ → ℕ → LinkPart
new_link name a b capacity = record { name = name; a = own_end a; b = own_end b; capacity = capacity; vals = link_default; health = LINK_HEALTH }

unfoldable pub link_of : GroupDraft → List (List ℕ) → Result LinkPart FaultKind
link_of g args = do
  words ← four_of args
  name ← new_name_in (is_entity_name g words.0) words.0
  a ← end_in g words.1
  b ← end_in g words.2
  capacity ← number_within 1 MAX_CAPACITY words.3
  if bytes_eq a b then Err kinds.Loop else (if nat_lt (length g.links) MAX_LINKS then Ok (new_link name a b capacity) else Err kinds.Limit)

-- `promise NAME NAME NUMBER`
abbrev pub new_promise : List ℕ → List ℕ → ℕ → PromisePart
new_promise a b percent = record { a = a; b = b; percent = percent }

unfoldable pub promise_of : GroupDraft → List (List ℕ) → Result PromisePart FaultKind
promise_of g args = do
  words ← three_of args
  a ← device_in g words.0
  b ← device_in g words.1
  percent ← number_within 0 MAX_PERCENT words.2
  if is_bad_pair g.devices g.promises (new_promise a b percent) then Err kinds.Pair else (if nat_lt (length g.promises) MAX_PROMISES then Ok (new_promise a b percent) else Err kinds.Limit)

-- `open ASSIGNMENT`
unfoldable pub open_of : GroupDraft → List (List ℕ) → Result Row FaultKind
open_of g args = do
  word ← one_of args
  new_assignment_in (entity_named g) g.opens word

-- `health NAME NUMBER`
unfoldable pub health_of : GroupDraft → List (List ℕ) → Result (Entity × ℕ) FaultKind
health_of g args = do
  words ← two_of args
  e ← untold_in g words.0
  health ← number_within 0 (most_health e) words.1
  Ok (e, health)

-- what the lines of a group's section make of the group
unfoldable pub device_line : GroupDraft → List (List ℕ) → Result GroupDraft FaultKind
device_line g args = do
  device ← device_of g args
  Ok (with_device g device)

unfoldable pub link_line : GroupDraft → List (List ℕ) → Result GroupDraft FaultKind
link_line g args = do
  link ← link_of g args
  Ok (with_link g link)

unfoldable pub promise_line : GroupDraft → List (List ℕ) → Result GroupDraft FaultKind
promise_line g args = do
  promise ← promise_of g args
  Ok (with_promise g promise)

unfoldable pub open_line : GroupDraft → List (List ℕ) → Result GroupDraft FaultKind
open_line g args = do
  row ← open_of g args
  Ok (with_open g row)

unfoldable pub health_line : GroupDraft → List (List ℕ) → Result GroupDraft FaultKind
health_line g args = do
  told ← health_of g args
  Ok (with_health g told.0 told.1)

-- what the line of a word makes of its group
abbrev pub part_line : GroupDraft → PartWord → List (List ℕ) → Result GroupDraft FaultKind
part_line g part_words.Device args = device_line g args
part_line g part_words.Link args = link_line g args
part_line g part_words.Promise args = promise_line g args
part_line g part_words.Open args = open_line g args
part_line g part_words.Health args = health_line g args
