-- The text of a document: lines of words, section by section.
use Rattle.std.specs.Prelude.{ℕ, List, [], ◌∷◌, ◌++◌, Bool, true, false, ◌==◌, if◌then◌else◌, map, flat_map, codes, decimal, slice_index_or, None}
use Rattle.st_text.specs.Words.{text_of}
use Rattle.st_net.specs.declared.entity.Entity.{Entity}
use Rattle.st_net.specs.declared.entity.Row.{Row}
use Rattle.st_net.specs.declared.entity.Var.{Var}
use Rattle.st_net.specs.declared.entity.Var.TheVariants.{Power, Firmware, Config, Routing, LinkPower, Iface}
use Rattle.st_net.specs.declared.parts.Parts.{Parts}
use Rattle.st_net.specs.declared.parts.DevicePart.{DevicePart}
use Rattle.st_net.specs.declared.parts.LinkPart.{LinkPart}
use Rattle.st_net.specs.declared.parts.PromisePart.{PromisePart}
use Rattle.st_net.specs.Entities.{device_value, link_value}
use Rattle.st_net.specs.Groups.{name_of}
use Rattle.st_net.specs.Faults.{no_parts, group_of}
use Rattle.st_event.specs.declared.act.Act.{Act}
use Rattle.st_event.specs.declared.act.Act.TheVariants.{Propose, Await, Settle, Lock, Unlock, Read, ReadAt, Fail, Poll, Span}
use Rattle.st_wire.specs.declared.line.WireKind.{WireKind}
use Rattle.st_wire.specs.declared.line.WireKind.TheVariants.{Command, Report}
use Rattle.st_wire.specs.declared.line.WireLine.{WireLine}
use Rattle.st_wire.specs.declared.line.WireLine.TheVariants.{Drop, Repeat, Hold}
use Rattle.st_token.specs.Words.{prio_word, value_word, assignment_word, variable_word}
use Rattle.st_net.specs.declared.range.TheConstants.{DEVICE_HEALTH, LINK_HEALTH}
use Rattle.st_grammar.specs.declared.doc.Doc.{Doc}
use Rattle.st_grammar.specs.declared.doc.Script.{Script}

-- a line's words, and lines of words
abbrev pub Words : Type 0
Words = List (List ℕ)

-- the words for a device's kind and a message's kind
abbrev pub tor_word : Bool → List ℕ
tor_word true = codes "tor"
tor_word false = codes "switch"

abbrev pub wire_kind_word : WireKind → List ℕ
wire_kind_word Command = codes "command"
wire_kind_word Report = codes "report"

-- the lines of a group's parts: an end is printed without a group
abbrev pub group_words : List ℕ → Words
group_words name = codes "group" ∷ name ∷ []

abbrev pub device_words : DevicePart → Words
device_words d = codes "device" ∷ d.name ∷ tor_word d.tor ∷ []

abbrev pub link_words : LinkPart → Words
link_words l = codes "link" ∷ l.name ∷ l.a.name ∷ l.b.name ∷ decimal l.capacity ∷ []

abbrev pub promise_words : PromisePart → Words
promise_words p = codes "promise" ∷ p.a ∷ p.b ∷ decimal p.percent ∷ []

-- a line for a value other than 1, which each variable opens with
abbrev pub open_words : List ℕ → Var → ℕ → Words
open_words name var value = codes "open" ∷ assignment_word name var value ∷ []

abbrev pub open_line : List ℕ → Var → ℕ → List Words
open_line name var value = if value == 1 then [] else open_words name var value ∷ []

abbrev pub device_opens : DevicePart → List Words
device_opens d = flat_map (λ var. open_line d.name var (device_value d.vals var)) (Power ∷ Firmware ∷ Config ∷ Routing ∷ [])

abbrev pub link_opens : LinkPart → List Words
link_opens l = flat_map (λ var. open_line l.name var (link_value l.vals var)) (LinkPower ∷ Iface ∷ [])

-- a line for a health that is not the greatest
abbrev pub health_words : List ℕ → ℕ → Words
health_words name health = codes "health" ∷ name ∷ decimal health ∷ []

abbrev pub health_line : List ℕ → ℕ → ℕ → List Words
health_line name greatest health = if health == greatest then [] else health_words name health ∷ []

abbrev pub device_healths : DevicePart → List Words
device_healths d = health_line d.name DEVICE_HEALTH d.health

abbrev pub link_healths : LinkPart → List Words
link_healths l = health_line l.name LINK_HEALTH l.health

-- a group's section: its parts, then all opening values, then all healths
abbrev pub group_lines : Parts → List Words
group_lines g = group_words g.name ∷ (
    map device_words g.devices ++ (map link_words g.links ++ (map promise_words g.promises ++ (
    (flat_map device_opens g.devices ++ flat_map link_opens g.links) ++ (
    flat_map device_healths g.devices ++ flat_map link_healths g.links)))))

-- a wire line of the group of a name
abbrev pub wire_words : List ℕ → WireLine → Words
wire_words group (Drop kind n) = codes "drop" ∷ group ∷ wire_kind_word kind ∷ decimal n ∷ []
wire_words group (Repeat kind n m) = codes "repeat" ∷ group ∷ wire_kind_word kind ∷ decimal n ∷ decimal m ∷ []
wire_words group (Hold kind n m) = codes "hold" ∷ group ∷ wire_kind_word kind ∷ decimal n ∷ decimal m ∷ []

-- the wire lines of these groups, each with its own
abbrev pub wires_lines : List Parts → List (List WireLine) → List Words
wires_lines [] wires = []
wires_lines (g ∷ groups) [] = []
wires_lines (g ∷ groups) (lines ∷ wires) = map (wire_words g.name) lines ++ wires_lines groups wires

-- the group of a number and its name, and the name of one of its entities
abbrev pub group_at : List Parts → ℕ → Parts
group_at groups n = slice_index_or groups n no_parts

abbrev pub entity_word : List Parts → ℕ → Entity → List ℕ
entity_word groups n entity = name_of (group_of (group_at groups n)) entity

-- the assignments of a proposal to the group of a number, and what an entity changes to
abbrev pub assignment_words : List Parts → ℕ → List Row → Words
assignment_words groups n rows = map (λ row. assignment_word (entity_word groups n row.entity) row.var row.value) rows

abbrev pub value_words : List Row → Words
value_words rows = map (λ row. value_word row.var row.value) rows

-- an act's line; no document has a span yet, so that a span has no words
abbrev pub act_words : List Parts → Act → Words
act_words groups (Propose n rows) = codes "propose" ∷ (group_at groups n).name ∷ assignment_words groups n rows
act_words groups (Await n) = codes "await" ∷ (group_at groups n).name ∷ []
act_words groups (Settle n rounds) = codes "settle" ∷ (group_at groups n).name ∷ decimal rounds ∷ []
act_words groups (Lock n entity prio) = codes "lock" ∷ (group_at groups n).name ∷ entity_word groups n entity ∷ prio_word prio ∷ []
act_words groups (Unlock n entity prio) = codes "unlock" ∷ (group_at groups n).name ∷ entity_word groups n entity ∷ prio_word prio ∷ []
act_words groups (Read n entity var) = codes "read" ∷ (group_at groups n).name ∷ variable_word (entity_word groups n entity) var ∷ []
act_words groups (ReadAt n version entity var) = codes "readat" ∷ (group_at groups n).name ∷ decimal version ∷ variable_word (entity_word groups n entity) var ∷ []
act_words groups (Fail n entity health rows) = codes "fail" ∷ (group_at groups n).name ∷ entity_word groups n entity ∷ decimal health ∷ value_words rows
act_words groups (Poll n entity) = codes "poll" ∷ (group_at groups n).name ∷ entity_word groups n entity ∷ []
act_words groups (Span first first_rows second second_rows) = []

-- an application with its acts
abbrev pub app_words : List ℕ → Words
app_words name = codes "app" ∷ name ∷ []

abbrev pub app_lines : List Parts → Script → List Words
app_lines groups app = app_words app.name ∷ map (act_words groups) app.acts

-- a line for each application of the order
abbrev pub app_name_at : List Script → ℕ → List ℕ
app_name_at apps n = slice_index_or (map (λ app. app.name) apps) n []

abbrev pub order_words : List Script → ℕ → Words
order_words apps n = codes "order" ∷ app_name_at apps n ∷ []

-- the version that a document is printed in: the lowest in which each of its lines may stand
abbrev pub version_of_doc : Doc → ℕ
version_of_doc doc = 1

-- all lines, the header first
abbrev pub header_words : ℕ → Words
header_words version = codes "statesman" ∷ decimal version ∷ []

abbrev pub doc_lines : Doc → List Words
doc_lines doc = header_words (version_of_doc doc) ∷ (
    flat_map group_lines doc.groups ++ (wires_lines doc.groups doc.wires ++ (
    flat_map (app_lines doc.groups) doc.apps ++ map (order_words doc.apps) doc.order)))

-- the text that is printed
abbrev pub printed_doc : Doc → List ℕ
printed_doc doc = text_of (doc_lines doc)

-- the document without the place of journals, which are not printed
abbrev pub without_journals : Doc → Doc
without_journals doc = record doc { journal_at = None }
