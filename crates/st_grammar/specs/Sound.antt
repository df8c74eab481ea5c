-- Which documents are sound: what the text of a document can declare, and nothing else.
use Rattle.std.specs.Prelude.{◌≡◌, ◌<◌, ◌≤◌, ◌^◌, ℕ, List, [], All, true, length, map, None, slice_get}
use Rattle.std.specs.Option.{IsSomeAnd}
use Rattle.st_net.specs.declared.parts.Parts.{Parts}
use Rattle.st_net.specs.declared.parts.LinkPart.{LinkPart}
use Rattle.st_net.specs.Names.{is_name}
use Rattle.st_net.specs.Groups.{Group, IsEntityOf, are_new, are_names}
use Rattle.st_net.specs.Ranges.{RowsFit, IsVariableOf, IsChangeOf}
use Rattle.st_net.specs.Faults.{fault_of, group_of, device_names, link_names}
use Rattle.st_event.specs.declared.act.Act.{Act}
use Rattle.st_event.specs.declared.act.Act.TheVariants.{Propose, Await, Settle, Lock, Unlock, Read, ReadAt, Fail, Poll, Span}
use Rattle.st_wire.specs.declared.line.WireLine.{WireLine}
use Rattle.st_wire.specs.declared.line.WireLine.TheVariants.{Drop, Repeat, Hold}
use Rattle.st_grammar.specs.declared.doc.Doc.{Doc}
use Rattle.st_grammar.specs.declared.doc.DocRead.{DocRead}
use Rattle.st_grammar.specs.declared.doc.DocRead.TheVariants as reads
use Rattle.st_grammar.specs.declared.doc.Script.{Script}
use Rattle.st_grammar.specs.declared.limits.TheConstants.{MAX_GROUPS, MAX_APPS, MAX_ACTS, MAX_ROUNDS, MAX_WIRE_LINES}

-- the link's ends name no group
pub record HasOwnEnds (link : LinkPart) : Type 0 where
  pub a : link.a.group ≡ None
  pub b : link.b.group ≡ None

-- the group can be built, each name of it is spelled as one, and its links' ends are its own
pub record IsSoundGroup (parts : Parts) : Type 0 where
  pub name : is_name parts.name ≡ true
  pub named_devices : are_names (device_names parts.devices) ≡ true
  pub named_links : are_names (link_names parts.links) ≡ true
  pub built : fault_of parts ≡ None
  pub ends : All HasOwnEnds parts.links

-- the group of this number is one with this property
abbrev pub IsGroupWith : List Parts → ℕ → (Group → Type 0) → Type 0
IsGroupWith groups n P = IsSomeAnd (slice_get groups n) (λ parts. P (group_of parts))

-- an act names a group, entities and variables of the group, and numbers within their ranges; no document has a span yet
abbrev pub IsSoundAct : List Parts → Act → Type 0
IsSoundAct groups (Propose n rows) = IsGroupWith groups n (λ g. RowsFit g rows)
IsSoundAct groups (Await n) = n < length groups
IsSoundAct groups (Settle n rounds) = (n < length groups) × (1 ≤ rounds) × (rounds ≤ MAX_ROUNDS)
IsSoundAct groups (Lock n entity prio) = IsGroupWith groups n (λ g. IsEntityOf g entity)
IsSoundAct groups (Unlock n entity prio) = IsGroupWith groups n (λ g. IsEntityOf g entity)
IsSoundAct groups (Read n entity var) = IsGroupWith groups n (IsVariableOf entity var)
IsSoundAct groups (ReadAt n version entity var) = (version < 2 ^ 32) × IsGroupWith groups n (IsVariableOf entity var)
IsSoundAct groups (Fail n entity health rows) = IsGroupWith groups n (IsChangeOf entity health rows)
IsSoundAct groups (Poll n entity) = IsGroupWith groups n (λ g. IsEntityOf g entity)
IsSoundAct groups (Span first first_rows second second_rows) = ⊥

-- a message has a number from 1, and comes again at no earlier turn, and late at a later one
abbrev pub IsSoundWire : WireLine → Type 0
IsSoundWire (Drop kind n) = (1 ≤ n) × (n < 2 ^ 32)
IsSoundWire (Repeat kind n m) = (1 ≤ n) × (n ≤ m) × (m < 2 ^ 32)
IsSoundWire (Hold kind n m) = (1 ≤ n) × (n < m) × (m < 2 ^ 32)

-- a group's wire lines are few, and each is sound
pub record AreSoundWires (lines : List WireLine) : Type 0 where
  pub few : length lines ≤ MAX_WIRE_LINES
  pub each : All IsSoundWire lines

-- an application's name is spelled as one, and its acts are few, and each is sound
pub record IsSoundScript (groups : List Parts) (app : Script) : Type 0 where
  pub name : is_name app.name ≡ true
  pub few : length app.acts ≤ MAX_ACTS
  pub acts : All (IsSoundAct groups) app.acts

-- groups that can be built and applications with sound acts, few enough and with different names; wire lines for each group; an order of
-- applications that there are
pub record IsSoundDoc (doc : Doc) : Type 0 where
  pub few_groups : length doc.groups ≤ MAX_GROUPS
  pub few_apps : length doc.apps ≤ MAX_APPS
  pub group_names : are_new [] (map (λ g. g.name) doc.groups) ≡ true
  pub app_names : are_new [] (map (λ a. a.name) doc.apps) ≡ true
  pub groups : All IsSoundGroup doc.groups
  pub wires : length doc.wires ≡ length doc.groups
  pub wire_lines : All AreSoundWires doc.wires
  pub apps : All (IsSoundScript doc.groups) doc.apps
  pub order : All (λ n. n < length doc.apps) doc.order

-- a document that was read is sound
abbrev pub IsSoundRead : DocRead → Type 0
IsSoundRead (reads.Doc doc) = IsSoundDoc doc
IsSoundRead (reads.Fault fault) = Unit {0}
