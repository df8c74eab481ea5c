-- A document that is read is sound.
use Rattle.std.proofs.Common.{◌≡◌, ℕ, ◌+◌, ◌<◌, List, [], ◌∷◌, length, map, ap, subst, refl}
use Rattle.std.specs.Prelude.{Bool, Option, Result, Ok, Err}
use Rattle.std.specs.List.{AllByRecursion}
use Rattle.std.proofs.lemmas.List.{length-map}
use Rattle.std.proofs.lemmas.List.Elements.{All-from_recursion}
use Rattle.st_net.specs.declared.parts.Parts.{Parts}
use Rattle.st_net.specs.declared.parts.LinkPart.{LinkPart}
use Rattle.st_net.specs.Faults.{device_names}
use Rattle.st_token.specs.declared.fault.FaultKind.{FaultKind}
use Rattle.st_token.specs.declared.fault.FaultKind.TheVariants as kinds
use Rattle.st_token.specs.Reading.{on_line, read_on}
use Rattle.st_token.proofs.PrintedTokens.{each}
use Rattle.st_token.proofs.ReadTokens.{came_from, chose}
use Rattle.st_grammar.specs.declared.doc.Doc.{Doc}
use Rattle.st_grammar.specs.declared.doc.Script.{Script}
use Rattle.st_grammar.specs.declared.doc.DocRead.{DocRead}
use Rattle.st_grammar.specs.declared.doc.JournalAt.{JournalAt}
use Rattle.st_grammar.specs.declared.doc.DocRead.TheVariants as reads
use Rattle.st_grammar.specs.Draft.{GroupDraft, Draft, nothing, has_header, groups_of, apps_of, parts_of}
use Rattle.st_grammar.specs.Lines.{line_of}
use Rattle.st_grammar.specs.Reading.{headed, declared_on, doc_of, doc_at, lines_read, journals_at, read_of, Reads}
use Rattle.st_grammar.specs.Sound.{HasOwnEnds, IsSoundGroup, IsSoundAct, IsSoundScript, IsSoundWire, AreSoundWires, IsSoundDoc, IsSoundRead}
use Rattle.st_grammar.proofs.SoundGroups.{IsSoundLink, IsSoundDraftGroup, can_be_built}
use Rattle.st_grammar.proofs.SoundDrafts.{HasSoundActs, IsSoundDraft, IsSoundSoFar, line_good, nothing_sound}

line_was : (n : ℕ) (r : Result Draft FaultKind) (next : Draft) → on_line n r ≡ Ok next → r ≡ Ok next
line_was n (Ok d) next e = ap Ok (let same : d ≡ next = cc in same)
line_was n (Err kind) next e = absurd (cc)

read_good : (lines : List (List ℕ)) (n : ℕ) (d last : Draft) → IsSoundSoFar d → read_on line_of d n lines ≡ Ok last → IsSoundSoFar last
read_good [] n d last s e = subst IsSoundSoFar (let same : d ≡ last = cc in same) s
read_good (line ∷ lines) n d last s e =
    let step = came_from (on_line n (line_of d line)) (λ next. read_on line_of next (n + 1) lines) last e in
    read_good lines (n + 1) step.0 last (line_good d step.0 line (line_was n (line_of d line) step.0 step.1) s) step.2

-- the names of groups are those of their parts
pub names_of : (gs : List GroupDraft) → map (λ (g : Parts). g.name) (map parts_of gs) ≡ map (λ (g : GroupDraft). g.name) gs
names_of [] = refl
names_of (g ∷ gs) = ap (λ (ns : List (List ℕ)). g.name ∷ ns) (names_of gs)

own_ends : (names : List (List ℕ)) (l : LinkPart) → IsSoundLink names l → HasOwnEnds l
own_ends names l s = record { a = s.a_own; b = s.b_own }

group_good : (g : GroupDraft) → IsSoundDraftGroup g → IsSoundGroup (parts_of g)
group_good g s = record {
  name = s.spelled;
  named_devices = s.spelled_devices;
  named_links = s.spelled_links;
  built = can_be_built g s;
  ends = All-from_recursion HasOwnEnds g.links (each (IsSoundLink (device_names g.devices)) HasOwnEnds (own_ends (device_names g.devices)) g.links s.links);
}

groups_good : (gs : List GroupDraft) → AllByRecursion IsSoundDraftGroup gs → AllByRecursion IsSoundGroup (map parts_of gs)
groups_good [] all = tt
groups_good (g ∷ gs) all = (group_good g all.0, groups_good gs all.1)

wires_good : (gs : List GroupDraft) → AllByRecursion IsSoundDraftGroup gs → AllByRecursion AreSoundWires (map (λ (g : GroupDraft). g.wires) gs)
wires_good [] all = tt
wires_good (g ∷ gs) all = (record { few = all.0.few_wires; each = All-from_recursion IsSoundWire g.wires all.0.wires }, wires_good gs all.1)

script_good : (groups : List Parts) (app : Script) → HasSoundActs groups app → IsSoundScript groups app
script_good groups app s = record { name = s.name; few = s.few; acts = All-from_recursion (IsSoundAct groups) app.acts s.acts }

doc_good : (d : Draft) → IsSoundDraft d → IsSoundDoc (doc_of d)
doc_good d s =
    record {
      few_groups = rw (length-map (groups_of d) parts_of) s.few_groups;
      few_apps = s.few_apps;
      group_names = rw (names_of (groups_of d)) s.group_names;
      app_names = s.app_names;
      groups = All-from_recursion IsSoundGroup (map parts_of (groups_of d)) (groups_good (groups_of d) s.groups);
      wire_lines = All-from_recursion AreSoundWires (map (λ (g : GroupDraft). g.wires) (groups_of d)) (wires_good (groups_of d) s.groups);
      wires = rw (length-map (groups_of d) parts_of, length-map (groups_of d) (λ (g : GroupDraft). g.wires)) refl;
      apps = All-from_recursion (IsSoundScript (map parts_of (groups_of d))) (apps_of d) (each (HasSoundActs (map parts_of (groups_of d))) (IsSoundScript (map parts_of (groups_of d))) (script_good (map parts_of (groups_of d))) (apps_of d) s.apps);
      order = All-from_recursion (λ n. n < length (apps_of d)) d.order s.order;
    }

-- the place of journals is nothing that makes a document sound
placed_good : (at : Option JournalAt) (d : Draft) → IsSoundDoc (doc_of d) → IsSoundDoc (doc_at at d)
placed_good at d s = record {
  few_groups = s.few_groups;
  few_apps = s.few_apps;
  group_names = s.group_names;
  app_names = s.app_names;
  groups = s.groups;
  wires = s.wires;
  wire_lines = s.wire_lines;
  apps = s.apps;
  order = s.order;
}

-- what is read is sound
pub document_sound : (journals : Bool) (bytes : List ℕ) (doc : Doc) → read_of journals bytes ≡ Ok doc → IsSoundDoc doc
document_sound journals bytes doc e =
    let ls = lines_read journals bytes in
    let at = journals_at journals bytes in
    let d = came_from (declared_on nothing ls) (λ d. Ok (doc_at at d)) doc e in
    let last = came_from (read_on line_of nothing 1 ls) (headed (length ls + 1)) d.0 d.1 in
    let stood = chose (has_header last.0) last.0 d.0 (record { line = length ls + 1; kind = kinds.Header }) last.2 in
    let sound : IsSoundSoFar d.0 = subst IsSoundSoFar stood.1 (read_good ls 1 nothing last.0 nothing_sound last.1) in
    let made : doc_at at d.0 ≡ doc = cc in
    subst IsSoundDoc made (placed_good at d.0 (doc_good d.0 sound.sound))

pub read_sound : (journals : Bool) (bytes : List ℕ) (read : DocRead) → Reads read (read_of journals bytes) → IsSoundRead read
read_sound journals bytes (reads.Doc doc) e = document_sound journals bytes doc e
read_sound journals bytes (reads.Fault fault) e = tt
