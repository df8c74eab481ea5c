-- Groups that are led back, one after another.
use Rattle.std.proofs.Common.{◌≡◌, ℕ, suc, ◌+◌, ◌<◌, List, [], ◌∷◌, ◌++◌, length, Bool, true, false, refl, ap, sym, ◌∙◌, subst, arith, set, take, drop}
use Rattle.std.specs.Prelude.{codes, map, slice_index_or, Some, None, is_some, if◌then◌else◌}
use Rattle.std.proofs.Math.ListN.{get_or-map}
use Rattle.std.proofs.Math.Seq.{drop-cons, take-suc-set}
use Rattle.std.proofs.lemmas.List.{append_assoc, drop-set-lt, length-map, map-set, set_split}
use Rattle.st_text.specs.Words.{line, text_of}
use Rattle.st_entry.specs.Words.{Words}
use Rattle.st_net.specs.Faults.{group_of}
use Rattle.st_net.specs.Groups.{Group}
use Rattle.st_event.specs.declared.journal.Entry.{Entry}
use Rattle.st_grammar.specs.declared.doc.Doc.{Doc}
use Rattle.st_grammar.specs.Sound.{IsSoundDoc}
use Rattle.st_wire.specs.declared.line.WireLine.{WireLine}
use Rattle.st_world.specs.declared.world.rounds.Going.{Going}
use Rattle.st_world.specs.World.{WorldView}
use Rattle.st_world.specs.Rounds.{Course, Goes, HasSameSetting, is_full}
use Rattle.st_serial.specs.Serial.{Checked, GroupState, Run, groups_in, serial_end, state_at, state_of, states_of, with_checked, with_group}
use Rattle.st_serial.proofs.Lists.{by_test}
use Rattle.st_serial.proofs.Runs.{run_same, serial_groups, serial_count, with_groups}
use Rattle.st_serial.proofs.Worlds.{states_many}
use Rattle.st_top.specs.Reverting.{all_led_back, course_back, led_back, revert_words, reverted}
use Rattle.st_top.specs.declared.reverting.LedBack.{LedBack}
use Rattle.st_top.specs.Ending.{IsLed}
use Rattle.st_top.proofs.TextLines.{text_both, two_added, whole_added}

-- the groups stay those that they are, and nothing is logged

led_groups : (n m : ℕ) (ss : List GroupState) → groups_in (all_led_back n m ss).groups ≡ groups_in ss
led_groups n m [] = refl
led_groups n m (s ∷ ss) =
    let course = course_back n s in
    by_test (λ (c : Checked). groups_in c.groups ≡ groups_in (s ∷ ss)) course.stopped (record { groups = state_at s course ∷ ss; full = Some m }) (with_group (state_at s course) (all_led_back n (m + 1) ss))
    refl (ap (λ gs. s.history.group ∷ gs) (led_groups n (m + 1) ss))

run_groups : (n : ℕ) (run : Run) → groups_in (led_back n run).groups ≡ groups_in run.groups
run_groups n run = by_test (λ (r : Run). groups_in r.groups ≡ groups_in run.groups) (is_some run.full) run (with_checked run (all_led_back n 0 run.groups)) refl (led_groups n 0 run.groups)

pub reverted_groups : (n : ℕ) (doc : Doc) → IsSoundDoc doc → groups_in (reverted n doc).groups ≡ map group_of doc.groups
reverted_groups n doc sound = run_groups n (serial_end doc) ∙ serial_groups doc sound

pub reverted_many : (n : ℕ) (doc : Doc) → IsSoundDoc doc → length (reverted n doc).groups ≡ length doc.groups
reverted_many n doc sound = sym (length-map (reverted n doc).groups (λ s. s.history.group)) ∙ ap length (reverted_groups n doc sound) ∙ length-map doc.groups group_of

run_logs : (n : ℕ) (run : Run) → (led_back n run).logs ≡ run.logs
run_logs n run = by_test (λ (r : Run). r.logs ≡ run.logs) (is_some run.full) run (with_checked run (all_led_back n 0 run.groups)) refl refl

pub reverted_count : (n : ℕ) (doc : Doc) → length (reverted n doc).logs ≡ length doc.apps
reverted_count n doc = ap length (run_logs n (serial_end doc)) ∙ serial_count doc

-- groups that were led back, before what comes of those that are left

abbrev pub led_from : ℕ → ℕ → List GroupState → Checked
led_from n i ss = with_groups (take i ss) (all_led_back n i (drop i ss))

-- where a group meets its full journal those behind it stay as they are
stop_at : (n i : ℕ) (ss : List GroupState) (d new : GroupState) → i < length ss → new ≡ state_at (slice_index_or ss i d) (course_back n (slice_index_or ss i d)) → (course_back n (slice_index_or ss i d)).stopped ≡ true → record { groups = set ss i new; full = Some i } ≡ led_from n i ss
stop_at n i ss d new low goes stops =
    let s = slice_index_or ss i d in
    let rest = drop (suc i) ss in
    let first : all_led_back n i (drop i ss) ≡ record { groups = new ∷ rest; full = Some i } =
    ap (all_led_back n i) (drop-cons ss i d low)
    ∙ ap (λ b. if b then record { groups = state_at s (course_back n s) ∷ rest; full = Some i } else with_group (state_at s (course_back n s)) (all_led_back n (i + 1) rest)) stops
    ∙ ap (λ x. record { groups = x ∷ rest; full = Some i }) (sym goes) in
    ap (λ gs. record { groups = gs; full = Some i }) (set_split ss i new low) ∙ sym (ap (with_groups (take i ss)) first)

-- where one is led back the others are left
go_on : (n i : ℕ) (ss : List GroupState) (d new : GroupState) → i < length ss → new ≡ state_at (slice_index_or ss i d) (course_back n (slice_index_or ss i d)) → (course_back n (slice_index_or ss i d)).stopped ≡ false → led_from n (i + 1) (set ss i new) ≡ led_from n i ss
go_on n i ss d new low goes on =
    let s = slice_index_or ss i d in
    let rest = drop (suc i) ss in
    let one : i + 1 ≡ suc i = omega arith in
    let first : all_led_back n i (drop i ss) ≡ with_group new (all_led_back n (i + 1) rest) =
    ap (all_led_back n i) (drop-cons ss i d low)
    ∙ ap (λ b. if b then record { groups = state_at s (course_back n s) ∷ rest; full = Some i } else with_group (state_at s (course_back n s)) (all_led_back n (i + 1) rest)) on
    ∙ ap (λ x. with_group x (all_led_back n (i + 1) rest)) (sym goes) in
    ap (λ m. with_groups (take m (set ss i new)) (all_led_back n (i + 1) (drop m (set ss i new)))) one
    ∙ ap (λ gs. with_groups gs (all_led_back n (i + 1) (drop (suc i) (set ss i new)))) (take-suc-set ss i new low)
    ∙ ap (λ gs. with_groups (take i ss ++ new ∷ []) (all_led_back n (i + 1) gs)) (drop-set-lt (suc i) ss i new (omega arith))
    ∙ ap (λ gs. record { groups = gs; full = (all_led_back n (i + 1) rest).full }) (append_assoc (take i ss) (new ∷ []) (all_led_back n (i + 1) rest).groups)
    ∙ sym (ap (with_groups (take i ss)) first)

-- the same of worlds

state_in : (ws : List WorldView) (i : ℕ) (d : WorldView) → slice_index_or (states_of ws) i (state_of d) ≡ state_of (slice_index_or ws i d)
state_in ws i d = get_or-map state_of ws i d

-- a world that has gone through a course
went : (old new : WorldView) (course : Course) (going : Going) → HasSameSetting old new → Goes new course going → state_of new ≡ state_at (state_of old) course
went old new course going setting goes =
    ap (λ (g : Group). record { history = record { group = g; past = new.history.past }; lines = new.lines }) setting.group
    ∙ ap (λ (lines : List WireLine). record { history = record { group = old.history.group; past = new.history.past }; lines = lines }) setting.lines
    ∙ ap (λ (past : List Entry). record { history = record { group = old.history.group; past = past }; lines = old.lines }) (ap (λ (course : Course). course.past) goes)

-- the group of a number was led back to this world
abbrev pub IsLedTo : ℕ → List WorldView → ℕ → WorldView → WorldView → Going → Type 0
IsLedTo n ws i d new going = HasSameSetting (slice_index_or ws i d) new × Goes new (course_back n (state_of (slice_index_or ws i d))) going

goes_in : (n : ℕ) (ws : List WorldView) (i : ℕ) (d new : WorldView) (going : Going) → IsLedTo n ws i d new going → state_of new ≡ state_at (slice_index_or (states_of ws) i (state_of d)) (course_back n (slice_index_or (states_of ws) i (state_of d)))
goes_in n ws i d new going led =
    let w = slice_index_or ws i d in
    subst (λ (s : GroupState). state_of new ≡ state_at s (course_back n s)) (sym (state_in ws i d)) (went w new (course_back n (state_of w)) going led.0 led.1)

stops_in : (n : ℕ) (ws : List WorldView) (i : ℕ) (d new : WorldView) (going : Going) → IsLedTo n ws i d new going → (course_back n (slice_index_or (states_of ws) i (state_of d))).stopped ≡ is_full going
stops_in n ws i d new going led = subst (λ (s : GroupState). (course_back n s).stopped ≡ is_full going) (sym (state_in ws i d)) (sym (ap (λ (course : Course). course.stopped) led.1))

low_in : (ws : List WorldView) (i : ℕ) → i < length ws → i < length (states_of ws)
low_in ws i low = omega (arith, low, states_many ws)

pub world_full : (n i : ℕ) (ws : List WorldView) (d new : WorldView) (going : Going) → i < length ws → IsLedTo n ws i d new going → is_full going ≡ true → record { groups = states_of (set ws i new); full = Some i } ≡ led_from n i (states_of ws)
world_full n i ws d new going low led full =
    ap (λ ss. record { groups = ss; full = Some i }) (map-set state_of ws i new)
    ∙ stop_at n i (states_of ws) (state_of d) (state_of new) (low_in ws i low) (goes_in n ws i d new going led) (stops_in n ws i d new going led ∙ full)

pub world_led : (n i : ℕ) (ws : List WorldView) (d new : WorldView) (going : Going) → i < length ws → IsLedTo n ws i d new going → is_full going ≡ false → led_from n (i + 1) (states_of (set ws i new)) ≡ led_from n i (states_of ws)
world_led n i ws d new going low led on =
    ap (led_from n (i + 1)) (map-set state_of ws i new)
    ∙ go_on n i (states_of ws) (state_of d) (state_of new) (low_in ws i low) (goes_in n ws i d new going led) (stops_in n ws i d new going led ∙ on)

-- what is told of the groups that are left, once one of them is told
pub told_next : (n i : ℕ) (ws : List WorldView) (d new : WorldView) (out more : List ℕ) → i < length ws → more ≡ out ++ text_of (revert_words n (state_of (slice_index_or ws i d)) ∷ [])
    → out ++ text_of (map (revert_words n) (drop i (states_of ws))) ≡ more ++ text_of (map (revert_words n) (drop (i + 1) (states_of (set ws i new))))
told_next n i ws d new out more low adds =
    let ss = states_of ws in
    let one : i + 1 ≡ suc i = omega arith in
    let first : map (revert_words n) (drop i ss) ≡ revert_words n (state_of (slice_index_or ws i d)) ∷ map (revert_words n) (drop (suc i) ss) =
    ap (map (revert_words n)) (drop-cons ss i (state_of d) (low_in ws i low)) ∙ ap (λ (s : GroupState). revert_words n s ∷ map (revert_words n) (drop (suc i) ss)) (state_in ws i d) in
    let rest : drop (i + 1) (states_of (set ws i new)) ≡ drop (suc i) ss =
    ap (λ (m : ℕ). drop m (states_of (set ws i new))) one ∙ ap (drop (suc i)) (map-set state_of ws i new) ∙ drop-set-lt (suc i) ss i (state_of new) (omega arith) in
    let here = revert_words n (state_of (slice_index_or ws i d)) ∷ [] in
    let later = map (revert_words n) (drop (suc i) ss) in
    ap (λ (ls : List Words). out ++ text_of ls) first
    ∙ ap (λ t. out ++ t) (text_both here later)
    ∙ sym (append_assoc out (text_of here) (text_of later))
    ∙ ap (λ t. t ++ text_of later) (sym adds)
    ∙ ap (λ (gs : List GroupState). more ++ text_of (map (revert_words n) gs)) (sym rest)

-- a run that met a full journal stays as it is, and of another the groups are led back

pub led_stopped : (n group : ℕ) (run : Run) (led : LedBack) → states_of led.ran.worlds.items ≡ run.groups → led.ran.logs.items ≡ run.logs → led.ran.full ≡ Some group → run.full ≡ Some group → IsLed n run led
led_stopped n group run led groups logs stopped full = record {
  run_is = run_same (states_of led.ran.worlds.items) run.groups led.ran.logs.items run.logs led.ran.full run.full groups logs (stopped ∙ sym full)
      ∙ sym (ap (λ (b : Bool). if b then run else with_checked run (all_led_back n 0 run.groups)) (ap is_some full));
  told = λ none. absurd (cc);
}

pub led_on : (n : ℕ) (run : Run) (led : LedBack) (head lines : List ℕ) → run.full ≡ None → led.ran.logs.items ≡ run.logs → record { groups = states_of led.ran.worlds.items; full = led.ran.full } ≡ all_led_back n 0 run.groups
    → head ≡ line (codes "statesman") (codes "revert" ∷ codes "1" ∷ []) → led.lines ≡ lines → (led.ran.full ≡ None → lines ≡ head ++ text_of (map (revert_words n) run.groups)) → IsLed n run led
led_on n run led head lines full logs came begun same told = record {
  run_is = ap (λ ls. record { groups = states_of led.ran.worlds.items; logs = ls; full = led.ran.full }) logs ∙ ap (with_checked run) came
      ∙ sym (ap (λ (b : Bool). if b then run else with_checked run (all_led_back n 0 run.groups)) (ap is_some full));
  told = λ none. two_added [] head led.lines ((codes "statesman" ∷ codes "revert" ∷ codes "1" ∷ []) ∷ []) (map (revert_words n) run.groups)
      (whole_added [] head (codes "statesman") (codes "revert" ∷ codes "1" ∷ []) begun) (same ∙ told none);
}
