-- What a run of a document comes to is what is shown of it, and its journals and logs are handed back.
use Rattle.std.proofs.Common.{◌≡◌, ℕ, suc, ◌+◌, List, [], ◌∷◌, ◌++◌, length, refl, ap, sym, ◌∙◌, subst, arith}
use Rattle.std.specs.Prelude.{reverse, map}
use Rattle.std.proofs.lemmas.List.{reverse-reverse}
use Rattle.st_text.specs.Words.{text_of}
use Rattle.st_event.specs.declared.act.Log.{Log}
use Rattle.st_event.specs.declared.act.LogEntry.{LogEntry}
use Rattle.st_event.specs.declared.journal.Journal.{Journal}
use Rattle.st_event.specs.History.{History}
use Rattle.st_event.specs.Legal.{IsLegal, AtEach}
use Rattle.st_event.specs.Network.{KeepsPromises}
use Rattle.st_grammar.specs.declared.doc.Doc.{Doc}
use Rattle.st_grammar.specs.Sound.{IsSoundDoc}
use Rattle.st_replay.specs.declared.status.Status.{Status}
use Rattle.st_replay.specs.declared.status.Status.TheVariants as statuses
use Rattle.st_top.specs.declared.task.Showing.{Showing}
use Rattle.st_top.specs.declared.task.Task.TheVariants.{Serial, Revert}
use Rattle.st_serial.specs.Serial.{GroupState, Run, groups_in, journals_from, logs_from, serial_end, serial_logs, states_of}
use Rattle.st_replay.specs.Again.{histories_of, AreKeptStates}
use Rattle.st_top.specs.Output.{shown}
use Rattle.st_serial.specs.Kept.{groups_of, AreKept, IsKept}
use Rattle.st_top.specs.Answer.{Results, AreOfRun, AreOfScripts, EndsOnDoc}
use Rattle.st_top.specs.Ending.{IsToldOf, histories_in, reverted_text, serial_text}
use Rattle.st_top.specs.Reverting.{revert_lines, revert_text, reverted}
use Rattle.st_world.specs.World.{WorldView}
use Rattle.st_report.specs.Lines.{histories}
use Rattle.st_report.specs.Text.{report_text_of}
use Rattle.st_replay.specs.Replaying.{app_names}
use Rattle.st_top.proofs.Histories.{histories_are}
use Rattle.st_serial.proofs.Runs.{serial_groups}
use Rattle.st_top.proofs.Asked.{reverted_led}
use Rattle.st_top.proofs.LedBack.{reverted_groups}

-- journals of groups that are kept
kept_all : (n : ℕ) (ss : List GroupState) → AreKeptStates ss → AreKept (groups_in ss) (journals_from n ss)
kept_all n [] kept = tt
kept_all n (s ∷ ss) kept =
    let past = s.history.past in
    let turned = reverse-reverse past in
    let here : IsKept s.history.group (record { group = n; entries = reverse past }) = record {
      sound = kept.0.sound;
      legal = subst (λ p. IsLegal s.history.group p) (sym turned) kept.0.legal;
      promises = subst (λ p. AtEach (KeepsPromises s.history.group) p) (sym turned) kept.0.promises;
    } in
    (here, kept_all (n + 1) ss kept.1)

-- what a document comes to is what a run makes of it
pub of_run : (doc : Doc) (run ran : Run) (journals : List Journal) (logs : List Log) → groups_in run.groups ≡ groups_of doc → ran ≡ run → journals ≡ journals_from 0 ran.groups → AreKeptStates ran.groups → logs ≡ logs_from 0 ran.logs → AreOfRun run doc (record { journals = journals; logs = logs })
of_run doc run ran journals logs groups is journals_are kept logs_are =
    let journals_end : journals ≡ journals_from 0 run.groups = journals_are ∙ ap (λ (r : Run). journals_from 0 r.groups) is in
    let kept_end : AreKeptStates run.groups = subst (λ (r : Run). AreKeptStates r.groups) is kept in
    record {
      order = journals_end;
      seen = logs_are ∙ ap (λ (r : Run). logs_from 0 r.logs) is;
      kept = subst (AreKept (groups_of doc)) (sym journals_end) (subst (λ gs. AreKept gs (journals_from 0 run.groups)) groups (kept_all 0 run.groups kept_end));
    }

-- the groups of a run with their journals
histories_same : (n : ℕ) (ss : List GroupState) → map (λ s. s.history) ss ≡ histories_of (groups_in ss) (journals_from n ss)
histories_same n [] = refl
histories_same n (s ∷ ss) =
    let g = s.history.group in
    let past = s.history.past in
    ap (λ p. record { group = g; past = p } ∷ map (λ (x : GroupState). x.history) ss) (sym (reverse-reverse past))
    ∙ ap (λ hs. record { group = g; past = reverse (reverse past) } ∷ hs) (histories_same (n + 1) ss)

-- those are the groups of the document with its journals
run_histories : (run : Run) (doc : Doc) (results : Results) → groups_in run.groups ≡ groups_of doc → AreOfRun run doc results → histories_in run ≡ histories_of (groups_of doc) results.journals
run_histories run doc results groups is =
    histories_same 0 run.groups ∙ ap (λ gs. histories_of gs (journals_from 0 run.groups)) groups ∙ ap (histories_of (groups_of doc)) (sym is.order)

-- so the call ends on what was told
pub serial_told : (showing : Showing) (doc : Doc) (results : Results) (status : Status) (text : List ℕ) → IsSoundDoc doc → AreOfScripts doc results → IsToldOf (serial_end doc) (serial_text showing doc) doc status text → EndsOnDoc (Serial showing) doc results text status
serial_told showing doc results statuses.Ok text sound scripts told =
    let same = run_histories (serial_end doc) doc results (serial_groups doc sound) scripts in
    record {
      scripts = scripts;
      room = told.0;
      report = told.1 ∙ ap (λ (hs : List History). shown showing doc hs (serial_logs doc)) same ∙ ap (shown showing doc (histories_of (groups_of doc) results.journals)) (sym scripts.seen);
    }
serial_told showing doc results (statuses.JournalFull group) text sound scripts told = record { run_is = scripts; full = told.0; told = told.1 }
serial_told showing doc results _ text sound scripts told = absurd told

pub revert_told : (n : ℕ) (doc : Doc) (results : Results) (status : Status) (text : List ℕ) → IsSoundDoc doc → AreOfRun (reverted n doc) doc results → AreKeptStates (reverted n doc).groups → IsToldOf (reverted n doc) (reverted_text n doc) doc status text
    → EndsOnDoc (Revert n) doc results text status
revert_told n doc results statuses.Ok text sound run kept told =
    let same = run_histories (reverted n doc) doc results (reverted_groups n doc sound) run in
    record {
      run = run;
      room = told.0;
      report = told.1 ∙ ap (λ (hs : List History). revert_text n doc (serial_end doc).groups hs (logs_from 0 (reverted n doc).logs)) same ∙ ap (revert_text n doc (serial_end doc).groups (histories_of (groups_of doc) results.journals)) (sym run.seen);
      led = reverted_led n doc told.0 kept;
    }
revert_told n doc results (statuses.JournalFull group) text sound run kept told = record { run_is = run; full = told.0; told = told.1 }
revert_told n doc results _ text sound run kept told = absurd told

-- the text of groups that were led back
pub reverted_written : (n : ℕ) (doc : Doc) (worlds : List WorldView) (names : List (List ℕ)) (logs : List Log) (lines text : List ℕ) → states_of worlds ≡ (reverted n doc).groups → names ≡ app_names doc → logs ≡ logs_from 0 (reverted n doc).logs
    → lines ≡ text_of (revert_lines n (serial_end doc).groups) → text ≡ lines ++ report_text_of (histories worlds) names logs → text ≡ reverted_text n doc
reverted_written n doc worlds names logs lines text groups named logged told is =
    let head = text_of (revert_lines n (serial_end doc).groups) in
    let after : histories worlds ≡ histories_in (reverted n doc) = sym (histories_are worlds) ∙ ap (map (λ (s : GroupState). s.history)) groups in
    is
    ∙ ap (λ t. t ++ report_text_of (histories worlds) names logs) told
    ∙ ap (λ (hs : List History). head ++ report_text_of hs names logs) after
    ∙ ap (λ (ns : List (List ℕ)). head ++ report_text_of (histories_in (reverted n doc)) ns logs) named
    ∙ ap (λ (ls : List Log). head ++ report_text_of (histories_in (reverted n doc)) (app_names doc) ls) logged

journals_more : (n : ℕ) (ss : List GroupState) (s : GroupState) → journals_from n (ss ++ s ∷ []) ≡ journals_from n ss ++ record { group = n + length ss; entries = reverse s.history.past } ∷ []
journals_more n [] s = ap (λ m. record { group = m; entries = reverse s.history.past } ∷ []) (omega arith)
journals_more n (first ∷ ss) s = ap (λ js. record { group = n; entries = reverse first.history.past } ∷ js) (journals_more (n + 1) ss s ∙ ap (λ m. journals_from (n + 1) ss ++ record { group = m; entries = reverse s.history.past } ∷ []) (omega arith))

pub journals_long : (n : ℕ) (ss : List GroupState) → length (journals_from n ss) ≡ length ss
journals_long n [] = refl
journals_long n (s ∷ ss) = ap suc (journals_long (n + 1) ss)

logs_more : (n : ℕ) (logs : List (List LogEntry)) (log : List LogEntry) → logs_from n (logs ++ log ∷ []) ≡ logs_from n logs ++ record { app = record { 0 = n + length logs }; entries = log } ∷ []
logs_more n [] log = ap (λ m. record { app = record { 0 = m }; entries = log } ∷ []) (omega arith)
logs_more n (first ∷ logs) log = ap (λ ls. record { app = record { 0 = n }; entries = first } ∷ ls) (logs_more (n + 1) logs log ∙ ap (λ m. logs_from (n + 1) logs ++ record { app = record { 0 = m }; entries = log } ∷ []) (omega arith))

pub logs_long : (n : ℕ) (logs : List (List LogEntry)) → length (logs_from n logs) ≡ length logs
logs_long n [] = refl
logs_long n (log ∷ logs) = ap suc (logs_long (n + 1) logs)

-- one journal, and one log, more
pub journal_next : (ss : List GroupState) (s : GroupState) (n : ℕ) (journal : Journal) (journals more : List Journal) → n ≡ length journals → journal.group ≡ n → reverse journal.entries ≡ s.history.past → journals ≡ journals_from 0 ss → more ≡ journals ++ journal ∷ [] → more ≡ journals_from 0 (ss ++ s ∷ [])
journal_next ss s n journal journals more number numbered turned was adds =
    let long : n ≡ length ss = number ∙ ap length was ∙ journals_long 0 ss in
    let count : journal.group ≡ 0 + length ss = omega (arith, long, numbered) in
    let is : journal.entries ≡ reverse s.history.past = sym (reverse-reverse journal.entries) ∙ ap reverse turned in
    adds ∙ ap (λ js. js ++ journal ∷ []) was ∙ ap (λ m. journals_from 0 ss ++ record { group = m; entries = journal.entries } ∷ []) count ∙ ap (λ es. journals_from 0 ss ++ record { group = 0 + length ss; entries = es } ∷ []) is ∙ sym (journals_more 0 ss s)

pub log_next : (logs : List (List LogEntry)) (log : List LogEntry) (n : ℕ) (all more : List Log) → n ≡ length all → all ≡ logs_from 0 logs → more ≡ all ++ record { app = record { 0 = n }; entries = log } ∷ [] → more ≡ logs_from 0 (logs ++ log ∷ [])
log_next logs log n all more number was adds =
    let long : n ≡ length logs = number ∙ ap length was ∙ logs_long 0 logs in
    let count : n ≡ 0 + length logs = omega (arith, long) in
    adds ∙ ap (λ ls. ls ++ record { app = record { 0 = n }; entries = log } ∷ []) was ∙ ap (λ m. logs_from 0 logs ++ record { app = record { 0 = m }; entries = log } ∷ []) count ∙ sym (logs_more 0 logs log)
