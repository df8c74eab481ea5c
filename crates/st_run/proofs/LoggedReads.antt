-- What a script logs: a line for each command that reads, and along the log no less of a group.
use Rattle.std.proofs.Common.{◌≡◌, ◌⊎◌, inl, inr, ⊎_elim, ℕ, zero, suc, ◌≤◌, Bool, true, false, nat_le, List, [], ◌∷◌, ◌++◌, length, refl, ap, sym, subst, ◌∙◌, arith}
use Rattle.std.specs.Prelude.{reverse, if◌then◌else◌}
use Rattle.std.proofs.lemmas.List.{reverse-append, reverse-reverse}
use Rattle.st_net.specs.declared.entity.Entity.{Entity}
use Rattle.st_net.specs.declared.entity.Var.{Var}
use Rattle.st_net.specs.Groups.{Group}
use Rattle.st_net.specs.Merge.{merge_of}
use Rattle.st_event.specs.declared.act.Act.{Act}
use Rattle.st_event.specs.declared.act.Act.TheVariants.{Propose, Await, Settle, Lock, Unlock, Read, ReadAt, Fail, Poll, Span}
use Rattle.st_event.specs.declared.act.LogEntry.{LogEntry}
use Rattle.st_event.specs.declared.act.LogSaw.{LogSaw}
use Rattle.st_event.specs.declared.act.LogSaw.TheVariants.{Seen, At, NoVersion}
use Rattle.st_event.specs.Proposals.{overlays, version}
use Rattle.st_event.specs.Versions.{value_at}
use Rattle.st_wire.specs.declared.line.WireLine.{WireLine}
use Rattle.st_world.specs.Acts.{group_number, seen_at}
use Rattle.st_event.proofs.Prefixes.{prefix_length}
use Rattle.st_service.specs.Acts.{ActLogs, ActTeaches}
use Rattle.st_run.specs.CarriedLaws.{ScriptsAreLogged}
use Rattle.st_run.specs.CarriedOn.{LogsAll, SeesNoLess}
use Rattle.st_run.specs.Jobs.{Does, Did, HasDone, awaits_on}
use Rattle.st_run.specs.Logs.{EachRead, GoesOn as goes_on, IsAnswerAt, IsLineOf, IsNoLess, NeverLess}
use Rattle.st_service.specs.Made.{past_in}
use Rattle.st_service.specs.Passes.{Holder, front_at, reader_at}
use Rattle.st_run.specs.Requests.{is_await}
use Rattle.st_run.proofs.AcceptedLater.{front_version}
use Rattle.st_run.proofs.DidLaws.{Each, GoesOn, did_append, did_last, does_goes, each_all, each_append, goes_front}

-- what each command keeps holds at the end. The commands stand newest first
pub stays_along : (groups : ℕ → Group) (lines : ℕ → List WireLine) (P : List Act → Holder → Type 0) (start last : Holder)
    → ((before : List Act) (act : Act) (behind : List Act) (old new : Holder) → Did groups lines (reverse before) start old → Does groups lines act old new → Did groups lines behind new last → P before old → P (act ∷ before) new)
    → P [] start → (acts behind : List Act) (mid : Holder) → Did groups lines (reverse acts) start mid → Did groups lines behind mid last → P acts mid
stays_along groups lines P start last step first [] behind mid d e = subst (P []) (sym d) first
stays_along groups lines P start last step first (act ∷ before) behind mid d e =
    let s = did_last groups lines before act start mid d in
    step before act behind s.old mid s.did s.does e (stays_along groups lines P start last step first before (act ∷ behind) s.old s.did (mid, s.does, e))

-- the line of a command that reads

abbrev pub read_line : Group → ℕ → Entity → Var → Holder → LogEntry
read_line g n entity var new = record { group = n; entity = entity; var = var; saw = Seen (length (reader_at new.readers n).proposals) (merge_of g (reader_at new.readers n).proposals entity var) }

abbrev pub version_line : Group → ℕ → ℕ → Entity → Var → Holder → LogEntry
version_line g n asked entity var new = record { group = n; entity = entity; var = var; saw = seen_at (record { group = g; past = past_in (front_at new.fronts n) }) asked entity var }

abbrev pub IsLineBy : Act → Group → Holder → LogEntry → Type 0
IsLineBy (Read n entity var) g new line = line ≡ read_line g n entity var new
IsLineBy (ReadAt n asked entity var) g new line = line ≡ version_line g n asked entity var new
IsLineBy (Propose n rows) g new line = ⊥
IsLineBy (Await n) g new line = ⊥
IsLineBy (Settle n rounds) g new line = ⊥
IsLineBy (Lock n entity prio) g new line = ⊥
IsLineBy (Unlock n entity prio) g new line = ⊥
IsLineBy (Fail n entity health rows) g new line = ⊥
IsLineBy (Poll n entity) g new line = ⊥
IsLineBy (Span first first_rows second second_rows) g new line = ⊥

last_line : (log now : List LogEntry) (line : LogEntry) → now ≡ log ++ line ∷ [] → reverse now ≡ line ∷ reverse log
last_line log now line is = ap reverse is ∙ reverse-append log (line ∷ [])

-- a command leaves the log, or adds its line
record AddsLine (act : Act) (g : Group) (old new : Holder) : Type 0 where
  pub line : LogEntry
  pub is : IsLineBy act g new line
  pub log : reverse new.log ≡ line ∷ reverse old.log

log_either : (act : Act) (g : Group) (old new : Holder) → ActLogs act g old new → (new.log ≡ old.log) ⊎ AddsLine act g old new
log_either (Read n entity var) g old new logs = inr (record {
  line = read_line g n entity var new;
  is = refl;
  log = last_line old.log new.log (read_line g n entity var new) logs.log;
})
log_either (ReadAt n asked entity var) g old new logs = inr (record {
  line = version_line g n asked entity var new;
  is = refl;
  log = last_line old.log new.log (version_line g n asked entity var new) logs;
})
log_either (Propose n rows) g old new logs = inl logs
log_either (Await n) g old new logs = inl logs
log_either (Settle n rounds) g old new logs = inl logs
log_either (Lock n entity prio) g old new logs = inl logs
log_either (Unlock n entity prio) g old new logs = inl logs
log_either (Fail n entity health rows) g old new logs = inl logs
log_either (Poll n entity) g old new logs = inl logs
log_either (Span first first_rows second second_rows) g old new logs = inl logs

-- each line so far, and that of one command more
read_more : (P : List Act → Act → LogEntry → Type 0) (before : List Act) (act : Act) (g : Group) (old new : Holder) → ActLogs act g old new → ((line : LogEntry) → IsLineBy act g new line → P before act line)
    → EachRead P before (reverse old.log) → EachRead P (act ∷ before) (reverse new.log)
read_more P before (Read n entity var) g old new logs one all =
    let line = read_line g n entity var new in
    subst (λ (ls : List LogEntry). EachRead P (Read n entity var ∷ before) ls) (sym (last_line old.log new.log line logs.log)) (one line refl, all)
read_more P before (ReadAt n asked entity var) g old new logs one all =
    let line = version_line g n asked entity var new in
    subst (λ (ls : List LogEntry). EachRead P (ReadAt n asked entity var ∷ before) ls) (sym (last_line old.log new.log line logs)) (one line refl, all)
read_more P before (Propose n rows) g old new logs one all = subst (λ (log : List LogEntry). EachRead P before (reverse log)) (sym logs) all
read_more P before (Await n) g old new logs one all = subst (λ (log : List LogEntry). EachRead P before (reverse log)) (sym logs) all
read_more P before (Settle n rounds) g old new logs one all = subst (λ (log : List LogEntry). EachRead P before (reverse log)) (sym logs) all
read_more P before (Lock n entity prio) g old new logs one all = subst (λ (log : List LogEntry). EachRead P before (reverse log)) (sym logs) all
read_more P before (Unlock n entity prio) g old new logs one all = subst (λ (log : List LogEntry). EachRead P before (reverse log)) (sym logs) all
read_more P before (Fail n entity health rows) g old new logs one all = subst (λ (log : List LogEntry). EachRead P before (reverse log)) (sym logs) all
read_more P before (Poll n entity) g old new logs one all = subst (λ (log : List LogEntry). EachRead P before (reverse log)) (sym logs) all
read_more P before (Span first first_rows second second_rows) g old new logs one all = subst (λ (log : List LogEntry). EachRead P before (reverse log)) (sym logs) all

-- a line has what its command asked for

answers_asked : (b : Bool) (asked x latest : ℕ) → IsAnswerAt asked (if b then At asked x else NoVersion asked latest)
answers_asked true asked x latest = refl
answers_asked false asked x latest = refl

is_line_of : (act : Act) (g : Group) (new : Holder) (line : LogEntry) → IsLineBy act g new line → IsLineOf act line
is_line_of (Read n entity var) g new line is =
    let here : IsLineOf (Read n entity var) (read_line g n entity var new) = (record { group = refl; entity = refl; var = refl }, tt) in
    subst (IsLineOf (Read n entity var)) (sym is) here
is_line_of (ReadAt n asked entity var) g new line is =
    let past = past_in (front_at new.fronts n) in
    let here : IsLineOf (ReadAt n asked entity var) (version_line g n asked entity var new) =
    (record { group = refl; entity = refl; var = refl }, answers_asked (nat_le asked (version past)) asked (value_at g past asked entity var) (version past)) in
    subst (IsLineOf (ReadAt n asked entity var)) (sym is) here
is_line_of (Propose n rows) g new line is = absurd is
is_line_of (Await n) g new line is = absurd is
is_line_of (Settle n rounds) g new line is = absurd is
is_line_of (Lock n entity prio) g new line is = absurd is
is_line_of (Unlock n entity prio) g new line is = absurd is
is_line_of (Fail n entity health rows) g new line is = absurd is
is_line_of (Poll n entity) g new line is = absurd is
is_line_of (Span first first_rows second second_rows) g new line is = absurd is

-- the awaits at the end log nothing

await_logs : (act : Act) (g : Group) (old new : Holder) → is_await act ≡ true → ActLogs act g old new → new.log ≡ old.log
await_logs (Await n) g old new is logs = logs
await_logs (Propose n rows) g old new is logs = absurd cc
await_logs (Settle n rounds) g old new is logs = absurd cc
await_logs (Lock n entity prio) g old new is logs = absurd cc
await_logs (Unlock n entity prio) g old new is logs = absurd cc
await_logs (Read n entity var) g old new is logs = absurd cc
await_logs (ReadAt n asked entity var) g old new is logs = absurd cc
await_logs (Fail n entity health rows) g old new is logs = absurd cc
await_logs (Poll n entity) g old new is logs = absurd cc
await_logs (Span first first_rows second second_rows) g old new is logs = absurd cc

all_await : (k : ℕ) → Each (λ act. is_await act ≡ true) (awaits_on k)
all_await zero = tt
all_await (suc k) = each_append (λ act. is_await act ≡ true) (awaits_on k) (Await k ∷ []) (all_await k) (refl, tt)

awaits_log : (groups : ℕ → Group) (lines : ℕ → List WireLine) (acts : List Act) (old new : Holder) → Each (λ act. is_await act ≡ true) acts → Did groups lines acts old new → new.log ≡ old.log
awaits_log groups lines [] old new all d = ap (λ (h : Holder). h.log) d
awaits_log groups lines (act ∷ acts) old new all d = awaits_log groups lines acts d.0 new all.1 d.2 ∙ await_logs act (groups (group_number act)) old d.0 all.0 d.1.done.logged

-- a pass when its script is done, before the awaits: its log is the last
record ScriptDone (groups : ℕ → Group) (lines : ℕ → List WireLine) (rooms : ℕ) (acts : List Act) (start p : Holder) : Type 0 where
  pub mid : Holder
  pub did : Did groups lines (reverse (reverse acts)) start mid
  pub awaits : Did groups lines (awaits_on rooms) mid p
  pub log : p.log ≡ mid.log

script_done : (groups : ℕ → Group) (lines : ℕ → List WireLine) (rooms : ℕ) (acts : List Act) (start p : Holder) → Did groups lines (acts ++ awaits_on rooms) start p → ScriptDone groups lines rooms acts start p
script_done groups lines rooms acts start p did =
    let s = did_append groups lines acts (awaits_on rooms) start p did in
    record {
      mid = s.0;
      did = subst (λ (xs : List Act). Did groups lines xs start s.0) (sym (reverse-reverse acts)) s.1;
      awaits = s.2;
      log = awaits_log groups lines (awaits_on rooms) s.0 p (all_await rooms) s.2;
    }

-- of each command that reads, a property of its line
pub each_read : (groups : ℕ → Group) (lines : ℕ → List WireLine) (rooms : ℕ) (acts : List Act) (start p : Holder) (P : List Act → Act → LogEntry → Type 0) → start.log ≡ [] → Did groups lines (acts ++ awaits_on rooms) start p
    → ((before : List Act) (act : Act) (behind : List Act) (old new : Holder) (line : LogEntry) → Did groups lines (reverse before) start old → Does groups lines act old new → Did groups lines behind new p → IsLineBy act (groups (group_number act)) new line → P before act line)
    → EachRead P (reverse acts) (reverse p.log)
each_read groups lines rooms acts start p P none did one =
    let s = script_done groups lines rooms acts start p did in
    subst (λ (log : List LogEntry). EachRead P (reverse acts) (reverse log)) (sym s.log)
    (stays_along groups lines (λ before h. EachRead P before (reverse h.log)) start p
    (λ before act behind old new d does e all. read_more P before act (groups (group_number act)) old new does.done.logged (λ line is. one before act behind old new line d does e is) all)
    (subst (λ (log : List LogEntry). EachRead P [] (reverse log)) (sym none) tt)
    (reverse acts) (awaits_on rooms) s.mid s.did s.awaits)

logs_all : (groups : ℕ → Group) (lines : ℕ → List WireLine) (rooms number : ℕ) (acts : List Act) (p : Holder) → HasDone groups lines rooms number acts p → LogsAll acts p.log
logs_all groups lines rooms number acts p done =
    each_read groups lines rooms acts done.start p (λ before act line. IsLineOf act line) done.fresh.unlogged done.did
    (λ before act behind old new line d does e is. is_line_of act (groups (group_number act)) new line is)

-- what a line tells of the latest version is within a front's version and a reader's

abbrev Knows : LogSaw → ℕ → ℕ → Type 0
Knows (Seen v x) front reader = v ≤ reader
Knows (At v x) front reader = Unit {0}
Knows (NoVersion asked latest) front reader = (latest ≤ front) × (latest ≤ reader)

knows_more : (saw : LogSaw) (front reader fronts readers : ℕ) → front ≤ fronts → reader ≤ readers → Knows saw front reader → Knows saw fronts readers
knows_more (Seen v x) front reader fronts readers p q k = omega (arith, q, k)
knows_more (At v x) front reader fronts readers p q k = tt
knows_more (NoVersion asked latest) front reader fronts readers p q k = (omega (arith, p, k.0), omega (arith, q, k.1))

abbrev KnowsIn : Holder → LogEntry → Type 0
KnowsIn h line = Knows line.saw (version (past_in (front_at h.fronts line.group))) (length (reader_at h.readers line.group).proposals)

knows_later : (old new : Holder) (line : LogEntry) → GoesOn line.group old new → KnowsIn old line → KnowsIn new line
knows_later old new line g k =
    knows_more line.saw (version (past_in (front_at old.fronts line.group))) (length (reader_at old.readers line.group).proposals)
    (version (past_in (front_at new.fronts line.group))) (length (reader_at new.readers line.group).proposals)
    (front_version (front_at old.fronts line.group) (front_at new.fronts line.group) (goes_front line.group old new g))
    (prefix_length (reader_at old.readers line.group).proposals (reader_at new.readers line.group).proposals (g.readers line.group)) k

each_later : (groups : ℕ → Group) (lines : ℕ → List WireLine) (act : Act) (old new : Holder) (log : List LogEntry) → Does groups lines act old new → Each (KnowsIn old) log → Each (KnowsIn new) log
each_later groups lines act old new [] d e = tt
each_later groups lines act old new (line ∷ log) d e = (knows_later old new line (does_goes groups lines line.group act old new d) e.0, each_later groups lines act old new log d e.1)

knows_at : (b : Bool) (asked x front reader : ℕ) → front ≤ reader → Knows (if b then At asked x else NoVersion asked front) front reader
knows_at true asked x front reader le = tt
knows_at false asked x front reader le = (omega arith, le)

-- a new line tells no more than the pass knows
knows_line : (act : Act) (g : Group) (new : Holder) (line : LogEntry) → ActTeaches act new → IsLineBy act g new line → KnowsIn new line
knows_line (Read n entity var) g new line taught is = subst (KnowsIn new) (sym is) (omega arith)
knows_line (ReadAt n asked entity var) g new line taught is =
    let past = past_in (front_at new.fronts n) in
    subst (KnowsIn new) (sym is)
    (knows_at (nat_le asked (version past)) asked (value_at g past asked entity var) (version past) (length (reader_at new.readers n).proposals) (prefix_length (overlays past) (reader_at new.readers n).proposals taught))
knows_line (Propose n rows) g new line taught is = absurd is
knows_line (Await n) g new line taught is = absurd is
knows_line (Settle n rounds) g new line taught is = absurd is
knows_line (Lock n entity prio) g new line taught is = absurd is
knows_line (Unlock n entity prio) g new line taught is = absurd is
knows_line (Fail n entity health rows) g new line taught is = absurd is
knows_line (Poll n entity) g new line taught is = absurd is
knows_line (Span first first_rows second second_rows) g new line taught is = absurd is

-- and no less than an earlier one

no_less_seen : (saw : LogSaw) (x front reader : ℕ) → Knows saw front reader → IsNoLess saw (Seen reader x)
no_less_seen (Seen v y) x front reader k = k
no_less_seen (At v y) x front reader k = tt
no_less_seen (NoVersion asked latest) x front reader k = k.1

no_less_at : (saw : LogSaw) (b : Bool) (asked x front reader : ℕ) → Knows saw front reader → IsNoLess saw (if b then At asked x else NoVersion asked front)
no_less_at (Seen v y) true asked x front reader k = tt
no_less_at (Seen v y) false asked x front reader k = tt
no_less_at (At v y) true asked x front reader k = tt
no_less_at (At v y) false asked x front reader k = tt
no_less_at (NoVersion other latest) true asked x front reader k = tt
no_less_at (NoVersion other latest) false asked x front reader k = k.0

knows_here : (new : Holder) (earlier : LogEntry) (n : ℕ) → n ≡ earlier.group → KnowsIn new earlier → Knows earlier.saw (version (past_in (front_at new.fronts n))) (length (reader_at new.readers n).proposals)
knows_here new earlier n same k = subst (λ (j : ℕ). Knows earlier.saw (version (past_in (front_at new.fronts j))) (length (reader_at new.readers j).proposals)) (sym same) k

line_goes_on : (act : Act) (g : Group) (new : Holder) (line earlier : LogEntry) → IsLineBy act g new line → KnowsIn new earlier → goes_on line earlier
line_goes_on (Read n entity var) g new line earlier is k =
    subst (λ (l : LogEntry). goes_on l earlier) (sym is)
    (λ (same : n ≡ earlier.group).
    no_less_seen earlier.saw (merge_of g (reader_at new.readers n).proposals entity var) (version (past_in (front_at new.fronts n))) (length (reader_at new.readers n).proposals) (knows_here new earlier n same k))
line_goes_on (ReadAt n asked entity var) g new line earlier is k =
    let past = past_in (front_at new.fronts n) in
    subst (λ (l : LogEntry). goes_on l earlier) (sym is)
    (λ (same : n ≡ earlier.group).
    no_less_at earlier.saw (nat_le asked (version past)) asked (value_at g past asked entity var) (version past) (length (reader_at new.readers n).proposals) (knows_here new earlier n same k))
line_goes_on (Propose n rows) g new line earlier is k = absurd is
line_goes_on (Await n) g new line earlier is k = absurd is
line_goes_on (Settle n rounds) g new line earlier is k = absurd is
line_goes_on (Lock n entity prio) g new line earlier is k = absurd is
line_goes_on (Unlock n entity prio) g new line earlier is k = absurd is
line_goes_on (Fail n entity health rows) g new line earlier is k = absurd is
line_goes_on (Poll n entity) g new line earlier is k = absurd is
line_goes_on (Span first first_rows second second_rows) g new line earlier is k = absurd is

each_goes_on : (act : Act) (g : Group) (new : Holder) (line : LogEntry) (log : List LogEntry) → IsLineBy act g new line → Each (KnowsIn new) log → Each (goes_on line) log
each_goes_on act g new line [] is e = tt
each_goes_on act g new line (earlier ∷ log) is e = (line_goes_on act g new line earlier is e.0, each_goes_on act g new line log is e.1)

-- what a pass keeps of its log
record IsInOrder (h : Holder) : Type 0 where
  pub never : NeverLess (reverse h.log)
  pub known : Each (KnowsIn h) (reverse h.log)

in_order_next : (groups : ℕ → Group) (lines : ℕ → List WireLine) (act : Act) (old new : Holder) → Does groups lines act old new → IsInOrder old → IsInOrder new
in_order_next groups lines act old new d o =
    let g = groups (group_number act) in
    let known = each_later groups lines act old new (reverse old.log) d o.known in ⊎_elim
    (λ (same : new.log ≡ old.log). record {
      never = subst (λ (log : List LogEntry). NeverLess (reverse log)) (sym same) o.never;
      known = subst (λ (log : List LogEntry). Each (KnowsIn new) (reverse log)) (sym same) known;
    })
    (λ (a : AddsLine act g old new). record {
      never = subst NeverLess (sym a.log) (each_all (goes_on a.line) (reverse old.log) (each_goes_on act g new a.line (reverse old.log) a.is known), o.never);
      known = subst (Each (KnowsIn new)) (sym a.log) (knows_line act g new a.line d.done.taught a.is, known);
    })
    (log_either act g old new d.done.logged)

sees_no_less : (groups : ℕ → Group) (lines : ℕ → List WireLine) (rooms number : ℕ) (acts : List Act) (p : Holder) → HasDone groups lines rooms number acts p → SeesNoLess p.log
sees_no_less groups lines rooms number acts p done =
    let s = script_done groups lines rooms acts done.start p done.did in
    let first : IsInOrder done.start = record {
      never = subst (λ (log : List LogEntry). NeverLess (reverse log)) (sym done.fresh.unlogged) tt;
      known = subst (λ (log : List LogEntry). Each (KnowsIn done.start) (reverse log)) (sym done.fresh.unlogged) tt;
    } in
    let last = stays_along groups lines (λ before h. IsInOrder h) done.start p (λ before act behind old new d does e o. in_order_next groups lines act old new does o) first (reverse acts) (awaits_on rooms) s.mid s.did s.awaits in
    subst (λ (log : List LogEntry). NeverLess (reverse log)) (sym s.log) last.never

-- each log has what its script reads
pub scripts_are_logged : ScriptsAreLogged
scripts_are_logged groups lines rooms scripts passes a acts p run script pass =
    let done = run.each a acts p script pass in
    record { each = logs_all groups lines rooms a acts p done; no_less = sees_no_less groups lines rooms a acts p done }
