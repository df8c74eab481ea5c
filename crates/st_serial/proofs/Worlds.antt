-- The groups of worlds, of which one is read, or was changed.
use Rattle.std.proofs.Common.{◌≡◌, ℕ, ◌+◌, ◌<◌, List, [], ◌∷◌, ◌++◌, length, true, false, ap, sym, ◌∙◌, subst, arith, set}
use Rattle.std.specs.Prelude.{slice_index_or, Option, Some, None, if◌then◌else◌}
use Rattle.std.proofs.Math.ListN.{get_or-map}
use Rattle.std.proofs.lemmas.List.{length-map, map-set, map_push}
use Rattle.st_net.specs.declared.entity.AppId.{AppId}
use Rattle.st_net.specs.Groups.{Group}
use Rattle.st_event.specs.declared.act.Act.{Act}
use Rattle.st_event.specs.declared.act.LogEntry.{LogEntry}
use Rattle.st_event.specs.declared.journal.Entry.{Entry}
use Rattle.st_wire.specs.declared.line.WireLine.{WireLine}
use Rattle.st_world.specs.declared.world.rounds.Going.{Going}
use Rattle.st_world.specs.World.{WorldView}
use Rattle.st_world.specs.Rounds.{Course, course_from, is_full, Goes, HasSameSetting}
use Rattle.st_world.specs.Acts.{ActFits, act_course, all_checked, group_number, seen_by}
use Rattle.st_serial.specs.Serial.{GroupState, FitsIn, act_done, checks_in, course_in, groups_in, logged, state_at, state_of, states_of}
use Rattle.st_serial.proofs.Runs.{decide_full, decide_next, decided_from, fits_group, group_in, other_done, read_done, run_of}

-- what contracts see of the groups of worlds

pub states_many : (ws : List WorldView) → length (states_of ws) ≡ length ws
states_many ws = length-map ws state_of

pub states_push : (ws more : List WorldView) (w : WorldView) → more ≡ ws ++ w ∷ [] → states_of more ≡ states_of ws ++ state_of w ∷ []
states_push ws more w is = ap states_of is ∙ map_push state_of ws w

set_state : (ws : List WorldView) (n : ℕ) (w : WorldView) → states_of (set ws n w) ≡ set (states_of ws) n (state_of w)
set_state ws n w = map-set state_of ws n w

state_in : (ws : List WorldView) (n : ℕ) (d : WorldView) → slice_index_or (states_of ws) n (state_of d) ≡ state_of (slice_index_or ws n d)
state_in ws n d = get_or-map state_of ws n d

low_state : (ws : List WorldView) (n : ℕ) → n < length ws → n < length (states_of ws)
low_state ws n low = omega (arith, low, states_many ws)

-- a world that has gone through a course
went : (old new : WorldView) (course : Course) (going : Going) → HasSameSetting old new → Goes new course going → state_of new ≡ state_at (state_of old) course
went old new course going plant goes =
    ap (λ (g : Group). record { history = record { group = g; past = new.history.past }; lines = new.lines }) plant.group
    ∙ ap (λ (lines : List WireLine). record { history = record { group = old.history.group; past = new.history.past }; lines = lines }) plant.lines
    ∙ ap (λ (past : List Entry). record { history = record { group = old.history.group; past = past }; lines = old.lines }) (ap (λ (course : Course). course.past) goes)

-- acts

pub world_there : (act : Act) (ws : List WorldView) (n : ℕ) → n ≡ group_number act → FitsIn act (groups_in (states_of ws)) → n < length ws
world_there act ws n number fits = omega (arith, group_in act (states_of ws) n number fits, states_many ws)

pub world_fits : (act : Act) (ws : List WorldView) (n : ℕ) (d : WorldView) → n ≡ group_number act → FitsIn act (groups_in (states_of ws)) → ActFits act (slice_index_or ws n d).history.group
world_fits act ws n d number fits = subst (λ (s : GroupState). ActFits act s.history.group) (state_in ws n d) (fits_group act (states_of ws) n (state_of d) number fits)

-- an act that reads leaves all groups
pub world_read : (app : AppId) (act : Act) (ws : List WorldView) (logs longer : List (List LogEntry)) (n : ℕ) (d : WorldView) (entry : LogEntry) → n ≡ group_number act → n < length ws → Some entry ≡ seen_by act (slice_index_or ws n d).history → longer ≡ logged app.0 (Some entry) logs → run_of (states_of (set ws n (slice_index_or ws n d))) longer None ≡ act_done app act (run_of (states_of ws) logs None)
world_read app act ws logs longer n d entry number low seen adds =
    let w = slice_index_or ws n d in
    let seen_in : Some entry ≡ seen_by act (slice_index_or (states_of ws) n (state_of d)).history = seen ∙ ap (λ (s : GroupState). seen_by act s.history) (sym (state_in ws n d)) in
    ap (λ ss. run_of ss longer None) (set_state ws n w ∙ ap (set (states_of ws) n) (sym (state_in ws n d)))
    ∙ read_done app act (states_of ws) logs longer n (state_of d) entry number (low_state ws n low) seen_in adds

-- another act changes its own
pub world_acted : (app : AppId) (act : Act) (ws : List WorldView) (logs : List (List LogEntry)) (n : ℕ) (d new : WorldView) (going : Going) (full : Option ℕ) → n ≡ group_number act → n < length ws → None ≡ seen_by act (slice_index_or ws n d).history → HasSameSetting (slice_index_or ws n d) new → Goes new (act_course app act (slice_index_or ws n d).history (slice_index_or ws n d).lines) going → full ≡ (if is_full going then Some n else None) → run_of (states_of (set ws n new)) logs full ≡ act_done app act (run_of (states_of ws) logs None)
world_acted app act ws logs n d new going full number low seen plant goes full_is =
    let w = slice_index_or ws n d in
    let here = sym (state_in ws n d) in
    let seen_in = subst (λ (s : GroupState). None ≡ seen_by act s.history) here seen in
    let goes_in = subst (λ (s : GroupState). state_of new ≡ state_at s (course_in app act s)) here (went w new (course_in app act (state_of w)) going plant goes) in
    let stops_in = subst (λ (s : GroupState). is_full going ≡ (course_in app act s).stopped) here (ap (λ (course : Course). course.stopped) goes) in
    ap (λ ss. run_of ss logs full) (set_state ws n new)
    ∙ other_done app act (states_of ws) logs n (state_of d) (state_of new) going full number (low_state ws n low) seen_in goes_in stops_in full_is

-- the last checks

-- the checks of the group of a number led to this world
abbrev pub IsChecked : List WorldView → ℕ → WorldView → WorldView → Going → Type 0
IsChecked ws i d new going = HasSameSetting (slice_index_or ws i d) new × Goes new (all_checked (slice_index_or ws i d).history.group (course_from (slice_index_or ws i d).history.past)) going

pub world_full : (i : ℕ) (ws : List WorldView) (d new : WorldView) (going : Going) → i < length ws → IsChecked ws i d new going → is_full going ≡ true → record { groups = states_of (set ws i new); full = Some i } ≡ decided_from i (states_of ws)
world_full i ws d new going low checked full =
    let w = slice_index_or ws i d in
    let here = sym (state_in ws i d) in
    let goes_in = subst (λ (s : GroupState). state_of new ≡ state_at s (checks_in s)) here (went w new (checks_in (state_of w)) going checked.0 checked.1) in
    let stops_in = subst (λ (s : GroupState). is_full going ≡ (checks_in s).stopped) here (ap (λ (course : Course). course.stopped) checked.1) in
    ap (λ ss. record { groups = ss; full = Some i }) (set_state ws i new)
    ∙ decide_full i (states_of ws) (state_of d) (state_of new) going (low_state ws i low) goes_in stops_in full

pub world_decided : (i : ℕ) (ws : List WorldView) (d new : WorldView) (going : Going) → i < length ws → IsChecked ws i d new going → is_full going ≡ false → decided_from (i + 1) (states_of (set ws i new)) ≡ decided_from i (states_of ws)
world_decided i ws d new going low checked on =
    let w = slice_index_or ws i d in
    let here = sym (state_in ws i d) in
    let goes_in = subst (λ (s : GroupState). state_of new ≡ state_at s (checks_in s)) here (went w new (checks_in (state_of w)) going checked.0 checked.1) in
    let stops_in = subst (λ (s : GroupState). (checks_in s).stopped ≡ false) here (sym (ap (λ (course : Course). course.stopped) checked.1) ∙ on) in
    ap (decided_from (i + 1)) (set_state ws i new)
    ∙ decide_next i (states_of ws) (state_of d) (state_of new) (low_state ws i low) goes_in stops_in
