-- What worlds are of that were opened for a document: its groups at their opening, on which each command of its scripts can be done.
use Rattle.std.proofs.Common.{◌≡◌, ℕ, zero, suc, ◌<◌, List, [], ◌∷◌, length, refl, ap, sym, ◌∙◌, subst, arith, get_or}
use Rattle.std.specs.Prelude.{All, Option, map}
use Rattle.std.proofs.Math.ListN.{get_or-map}
use Rattle.std.proofs.lemmas.List.{get_or_default, length-map}
use Rattle.st_net.specs.declared.parts.Parts.{Parts}
use Rattle.st_net.specs.Faults.{group_of}
use Rattle.st_net.specs.Groups.{Group, no_group}
use Rattle.st_event.specs.declared.act.Act.{Act}
use Rattle.st_event.specs.declared.act.Act.TheVariants.{Settle}
use Rattle.st_event.specs.declared.act.Log.{Log}
use Rattle.st_event.specs.declared.journal.Journal.{Journal}
use Rattle.st_event.specs.History.{History}
use Rattle.st_grammar.specs.declared.doc.Doc.{Doc}
use Rattle.st_grammar.specs.declared.doc.Script.{Script}
use Rattle.st_grammar.specs.Sound.{IsSoundAct, IsSoundDoc}
use Rattle.st_wire.specs.declared.line.WireLine.{WireLine}
use Rattle.st_world.specs.World.{WorldView}
use Rattle.st_world.specs.Acts.{group_number}
use Rattle.st_serial.specs.Serial.{FitsIn, GroupState, all_opened, groups_in, state_of, states_of}
use Rattle.st_serial.proofs.Runs.{opened_groups, scripts_fit}
use Rattle.st_serial.proofs.Worlds.{world_fits, world_there}
use Rattle.st_line.specs.Lines.{no_line}
use Rattle.st_service.specs.declared.start.RoomLines.{RoomLines}
use Rattle.st_service.specs.Acts.{HasRounds}
use Rattle.st_service.specs.Opened.{AreLinesOf, AreWorldsOf}
use Rattle.st_service.specs.Passes.{Holder}
use Rattle.st_run.specs.Played.{AllCanBeDone, IsPlayed, acts_of}
use Rattle.st_run.specs.Running.{AreStatesOf, HasSmallNumbers, IsRunOf}
use Rattle.st_run.proofs.RunLaws.{played_is_run}

-- the groups of worlds, and the lines of their plans, by their numbers
abbrev pub no_world : WorldView
no_world = record { history = record { group = no_group; past = [] }; lines = []; room = 0 }

abbrev pub group_named : List WorldView → ℕ → Group
group_named ws k = (get_or ws k no_world).history.group

abbrev pub plan_named : List WorldView → ℕ → List WireLine
plan_named ws k = (get_or ws k no_world).lines

-- lines are those of the names that they give themselves
abbrev pub no_lines : RoomLines
no_lines = record { journal = no_line; board = no_line }

pub own_lines : (lines : List RoomLines) → AreLinesOf (λ k. (get_or lines k no_lines).journal) (λ k. (get_or lines k no_lines).board) lines
own_lines lines k d low = let same = get_or_default lines k d no_lines low in (ap (λ (l : RoomLines). l.journal) same, ap (λ (l : RoomLines). l.board) same)

-- there are as many worlds as groups
opened_many : (groups : List Parts) (wires : List (List WireLine)) → length wires ≡ length groups → length (all_opened groups wires) ≡ length groups
opened_many [] wires each = refl
opened_many (parts ∷ groups) [] each = absurd (omega (arith, each))
opened_many (parts ∷ groups) (lines ∷ wires) each = let rest = opened_many groups wires (omega (arith, each)) in omega (arith, rest)

pub worlds_many : (doc : Doc) (ws : List WorldView) → IsSoundDoc doc → states_of ws ≡ all_opened doc.groups doc.wires → length ws ≡ length doc.groups
worlds_many doc ws sound is = sym (length-map ws state_of) ∙ ap length is ∙ opened_many doc.groups doc.wires sound.wires

-- nothing was entered in an opened group
opened_past : (groups : List Parts) (wires : List (List WireLine)) (k : ℕ) (d : GroupState) → k < length (all_opened groups wires) → (get_or (all_opened groups wires) k d).history.past ≡ []
opened_past [] wires k d low = absurd (omega (arith, low))
opened_past (parts ∷ groups) [] k d low = absurd (omega (arith, low))
opened_past (parts ∷ groups) (lines ∷ wires) zero d low = refl
opened_past (parts ∷ groups) (lines ∷ wires) (suc k) d low = opened_past groups wires k d (omega (arith, low))

-- so each world is at the opening of its group
world_past : (groups : List Parts) (wires : List (List WireLine)) (ws : List WorldView) (k : ℕ) (d : WorldView) → states_of ws ≡ all_opened groups wires → k < length ws → (get_or ws k d).history.past ≡ []
world_past groups wires ws k d is low =
    let many : length (all_opened groups wires) ≡ length ws = sym (ap length is) ∙ length-map ws state_of in
    ap (λ (s : GroupState). s.history.past) (sym (get_or-map state_of ws k d))
    ∙ ap (λ (ss : List GroupState). (get_or ss k (state_of d)).history.past) is
    ∙ opened_past groups wires k (state_of d) (omega (arith, low, many))

opening : (groups : List Parts) (wires : List (List WireLine)) (ws : List WorldView) (k : ℕ) (d : WorldView) → states_of ws ≡ all_opened groups wires → k < length ws → (get_or ws k d).history ≡ record { group = (get_or ws k d).history.group; past = [] }
opening groups wires ws k d is low = ap (λ past. record { group = (get_or ws k d).history.group; past = past }) (world_past groups wires ws k d is low)

pub opened_worlds : (doc : Doc) (ws : List WorldView) → states_of ws ≡ all_opened doc.groups doc.wires → AreWorldsOf (group_named ws) (plan_named ws) ws
opened_worlds doc ws is k d low =
    let same = get_or_default ws k d no_world low in (
      opening doc.groups doc.wires ws k d is low ∙ ap (λ (w : WorldView). record { group = w.history.group; past = [] }) same,
      ap (λ (w : WorldView). w.lines) same,
    )

-- the worlds have the states of the document's groups
opened_states : (doc : Doc) (ws : List WorldView) → IsSoundDoc doc → states_of ws ≡ all_opened doc.groups doc.wires → AreStatesOf (group_named ws) (plan_named ws) doc
opened_states doc ws sound is k d low =
    let many = worlds_many doc ws sound is in
    let inside : k < length ws = omega (arith, low, many) in
    let there : k < length (states_of ws) = omega (arith, inside, length-map ws state_of) in
    ap (λ (ss : List GroupState). get_or ss k d) (sym is)
    ∙ get_or_default (states_of ws) k d (state_of no_world) there
    ∙ get_or-map state_of ws k no_world
    ∙ ap (λ (h : History). record { history = h; lines = plan_named ws k }) (opening doc.groups doc.wires ws k no_world is inside)

-- each command of a sound document can be done on the worlds that were opened for the document
asks_rounds : (groups : List Parts) (act : Act) → IsSoundAct groups act → HasRounds act
asks_rounds groups (Settle n rounds) sound = omega (arith, sound.1)
asks_rounds groups _ sound = tt

pub can_be_done : (doc : Doc) (ws : List WorldView) → IsSoundDoc doc → states_of ws ≡ all_opened doc.groups doc.wires → AllCanBeDone (group_named ws) (length ws) doc.apps
can_be_done doc ws sound is k d low j e lower =
    let act = get_or (get_or doc.apps k d).acts j e in
    let same : groups_in (states_of ws) ≡ map group_of doc.groups = ap groups_in is ∙ opened_groups doc.groups doc.wires sound.wires in
    let fits = subst (λ (gs : List Group). FitsIn act gs) (sym same) (scripts_fit doc sound k d low j e lower) in
    (world_there act ws (group_number act) refl fits, world_fits act ws (group_number act) no_world refl fits, asks_rounds doc.groups act ((sound.apps k d low).acts j e lower))

-- what was played of a document's scripts on its worlds is a run of the document
pub opened_run : (doc : Doc) (ws : List WorldView) (apps : List Script) (full : Option ℕ) (journals : List Journal) (logs : List Log) → IsSoundDoc doc → states_of ws ≡ all_opened doc.groups doc.wires → apps ≡ doc.apps
    → ((ends : List Holder) × IsPlayed (group_named ws) (plan_named ws) (length ws) (acts_of apps) full journals logs ends) → All HasSmallNumbers journals → IsRunOf doc full journals logs
opened_run doc ws apps full journals logs sound is same played small =
    let ends = played.0 in
    let of_doc = subst (λ (scripts : List Script). IsPlayed (group_named ws) (plan_named ws) (length ws) (acts_of scripts) full journals logs ends) same played.1 in
    let in_doc = subst (λ (n : ℕ). IsPlayed (group_named ws) (plan_named ws) n (acts_of doc.apps) full journals logs ends) (worlds_many doc ws sound is) of_doc in
    played_is_run doc (group_named ws) (plan_named ws) full journals logs ends sound (opened_states doc ws sound is) in_doc small
