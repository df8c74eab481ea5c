-- What the acts of applications ask for, and what wire lines say, over what the lines before them declared, or the first kind that applies.
-- The kinds of a line are tested in the order in which they stand here: each `do` line is one test.
use Rattle.std.specs.Prelude.{ℕ, List, [], nat_le, length, if◌then◌else◌, Result, Ok, Err, ok_or, slice_get}
use Rattle.st_net.specs.declared.entity.Entity.{Entity}
use Rattle.st_net.specs.declared.topo.TheConstants.{MAX_ROWS}
use Rattle.st_net.specs.Ranges.{most_health}
use Rattle.st_wire.specs.declared.line.WireLine.{WireLine}
use Rattle.st_wire.specs.declared.line.WireLine.TheVariants as wires
use Rattle.st_event.specs.declared.act.Act.{Act}
use Rattle.st_event.specs.declared.act.Act.TheVariants as acts
use Rattle.st_token.specs.declared.fault.FaultKind.{FaultKind}
use Rattle.st_token.specs.declared.fault.FaultKind.TheVariants as kinds
use Rattle.st_token.specs.Steps.{◌>>=◌}
use Rattle.st_token.specs.Spelling.{known_name_in, entity_in, number_in, number_within, number_from, number_above, prio_in}
use Rattle.st_token.specs.Variables.{rows_in, values_in, variable_in}
use Rattle.st_token.specs.Counts.{one_of, two_of, three_of, four_of, one_and_some_of, three_and_more_of}
use Rattle.st_grammar.specs.declared.keyword.WireWord.{WireWord}
use Rattle.st_grammar.specs.declared.keyword.WireWord.TheVariants as wire_words
use Rattle.st_grammar.specs.declared.keyword.ActWord.{ActWord}
use Rattle.st_grammar.specs.declared.keyword.ActWord.TheVariants as act_words
use Rattle.st_grammar.specs.declared.limits.TheConstants.{MAX_ROUNDS}
use Rattle.st_grammar.specs.Draft.{GroupDraft, Draft, groups_of, group_names}
use Rattle.st_grammar.specs.Spelling.{entity_named, wire_kind_in}

-- the group of a name, with its number
unfoldable pub group_in : Draft → List ℕ → Result (ℕ × GroupDraft) FaultKind
group_in d token = do
  n ← known_name_in (group_names d) token
  g ← ok_or (slice_get (groups_of d) n) kinds.Unknown
  Ok (n, g)

-- the group of a name, with the entity of a name in it
unfoldable pub group_entity_in : Draft → List ℕ → List ℕ → Result (ℕ × Entity) FaultKind
group_entity_in d group name = do
  g ← group_in d group
  e ← entity_in (entity_named g.1) name
  Ok (g.0, e)

-- `propose NAME ASSIGNMENT..`
unfoldable pub propose_of : Draft → List (List ℕ) → Result Act FaultKind
propose_of d args = do
  words ← one_and_some_of args
  g ← group_in d words.0
  rows ← rows_in (entity_named g.1) [] words.1
  if nat_le (length rows) MAX_ROWS then Ok (acts.Propose g.0 rows) else Err kinds.Limit

-- `await NAME`
unfoldable pub await_of : Draft → List (List ℕ) → Result Act FaultKind
await_of d args = do
  word ← one_of args
  g ← known_name_in (group_names d) word
  Ok (acts.Await g)

-- `settle NAME NUMBER`
unfoldable pub settle_of : Draft → List (List ℕ) → Result Act FaultKind
settle_of d args = do
  words ← two_of args
  g ← known_name_in (group_names d) words.0
  rounds ← number_within 1 MAX_ROUNDS words.1
  Ok (acts.Settle g rounds)

-- `lock NAME NAME PRIO` and `unlock NAME NAME PRIO`
unfoldable pub lock_of : Draft → List (List ℕ) → Result Act FaultKind
lock_of d args = do
  words ← three_of args
  e ← group_entity_in d words.0 words.1
  prio ← prio_in words.2
  Ok (acts.Lock e.0 e.1 prio)

unfoldable pub unlock_of : Draft → List (List ℕ) → Result Act FaultKind
unlock_of d args = do
  words ← three_of args
  e ← group_entity_in d words.0 words.1
  prio ← prio_in words.2
  Ok (acts.Unlock e.0 e.1 prio)

-- `read NAME VARIABLE`
unfoldable pub read_of : Draft → List (List ℕ) → Result Act FaultKind
read_of d args = do
  words ← two_of args
  g ← group_in d words.0
  v ← variable_in (entity_named g.1) words.1
  Ok (acts.Read g.0 v.0 v.1)

-- `readat NAME NUMBER VARIABLE`
unfoldable pub readat_of : Draft → List (List ℕ) → Result Act FaultKind
readat_of d args = do
  words ← three_of args
  g ← group_in d words.0
  version ← number_in words.1
  v ← variable_in (entity_named g.1) words.2
  Ok (acts.ReadAt g.0 version v.0 v.1)

-- `fail NAME NAME NUMBER VAR=NUMBER..`
unfoldable pub fail_of : Draft → List (List ℕ) → Result Act FaultKind
fail_of d args = do
  words ← three_and_more_of args
  e ← group_entity_in d words.0 words.1
  health ← number_within 0 (most_health e.1) words.2
  rows ← values_in e.1 [] words.3
  Ok (acts.Fail e.0 e.1 health rows)

-- `poll NAME NAME`
unfoldable pub poll_of : Draft → List (List ℕ) → Result Act FaultKind
poll_of d args = do
  words ← two_of args
  e ← group_entity_in d words.0 words.1
  Ok (acts.Poll e.0 e.1)

-- what the act of a word asks for
abbrev pub act_of : Draft → ActWord → List (List ℕ) → Result Act FaultKind
act_of d act_words.Propose args = propose_of d args
act_of d act_words.Await args = await_of d args
act_of d act_words.Settle args = settle_of d args
act_of d act_words.Lock args = lock_of d args
act_of d act_words.Unlock args = unlock_of d args
act_of d act_words.Read args = read_of d args
act_of d act_words.ReadAt args = readat_of d args
act_of d act_words.Fail args = fail_of d args
act_of d act_words.Poll args = poll_of d args

-- `drop NAME KIND NUMBER`, `repeat NAME KIND NUMBER NUMBER` and `hold NAME KIND NUMBER NUMBER`, each with the number of its group
unfoldable pub drop_of : Draft → List (List ℕ) → Result (ℕ × WireLine) FaultKind
drop_of d args = do
  words ← three_of args
  g ← known_name_in (group_names d) words.0
  kind ← wire_kind_in words.1
  n ← number_from 1 words.2
  Ok (g, wires.Drop kind n)

unfoldable pub repeat_of : Draft → List (List ℕ) → Result (ℕ × WireLine) FaultKind
repeat_of d args = do
  words ← four_of args
  g ← known_name_in (group_names d) words.0
  kind ← wire_kind_in words.1
  n ← number_from 1 words.2
  m ← number_from n words.3
  Ok (g, wires.Repeat kind n m)

unfoldable pub hold_of : Draft → List (List ℕ) → Result (ℕ × WireLine) FaultKind
hold_of d args = do
  words ← four_of args
  g ← known_name_in (group_names d) words.0
  kind ← wire_kind_in words.1
  n ← number_from 1 words.2
  m ← number_above n words.3
  Ok (g, wires.Hold kind n m)

-- what the wire line of a word says, with the number of its group
abbrev pub wire_of : Draft → WireWord → List (List ℕ) → Result (ℕ × WireLine) FaultKind
wire_of d wire_words.Drop args = drop_of d args
wire_of d wire_words.Repeat args = repeat_of d args
wire_of d wire_words.Hold args = hold_of d args
