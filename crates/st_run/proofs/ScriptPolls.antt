-- For each entity as many polls stand in a group's journal as the scripts' commands ask for.
use Rattle.std.proofs.Common.{◌≡◌, ◌≢◌, ℕ, zero, suc, ◌+◌, ◌<◌, ◌≤◌, Bool, true, false, List, [], ◌∷◌, ◌++◌, length, map, get_or, sum_by, count_by, refl, ap, sym, subst, ◌∙◌, arith, append_assoc, length-append}
use Rattle.std.specs.Prelude.{Some, slice_get, reverse, if◌then◌else◌}
use Rattle.std.proofs.lemmas.List.{append_cancel_right, reverse-append, reverse-reverse}
use Rattle.std.proofs.lemmas.List.Sums.{sum_by-cons}
use Rattle.std.proofs.lemmas.Option.{slice_get-get_or, slice_get_within}
use mathlib.Core.List.{IsPrefix}
use Rattle.st_net.specs.declared.entity.Entity.{Entity}
use Rattle.st_net.specs.Groups.{Group}
use Rattle.st_net.proofs.Tests.{same_entity}
use Rattle.st_event.specs.declared.act.Act.{Act}
use Rattle.st_event.specs.declared.act.Act.TheVariants.{Propose, Await, Settle, Lock, Unlock, Read, ReadAt, Fail, Poll, Span}
use Rattle.st_event.specs.declared.event.Event.{Event}
use Rattle.st_event.specs.declared.event.Event.TheVariants.{Deliver, Hear, Report as make_report}
use Rattle.st_event.specs.declared.reply.Reply.{Reply}
use Rattle.st_event.specs.declared.reply.Reply.TheVariants.{Sent, Reported}
use Rattle.st_event.specs.declared.journal.Entry.{Entry}
use Rattle.st_event.specs.Services.{entry_after}
use Rattle.st_wire.specs.declared.line.WireKind.TheVariants.{Command as command_kind, Report as report_kind}
use Rattle.st_wire.specs.declared.line.WireLine.{WireLine}
use Rattle.st_wire.specs.Deliveries.{deliveries}
use Rattle.st_event.proofs.Prefixes.{prefix_length, prefix_self, prefix_trans}
use Rattle.st_world.specs.Acts.{course_of}
use Rattle.st_world.specs.Rounds.{Course, course_from, enter, enter_all, follow_ups_of, follow_ups, poll}
use Rattle.st_world.specs.declared.world.rounds.Going.TheVariants.{On}
use Rattle.st_service.specs.Acts.{ActEnters}
use Rattle.st_run.specs.CarriedLaws.{history_of}
use Rattle.st_run.specs.CarriedOn.{PollsAll, is_poll_of}
use Rattle.st_service.specs.Closed.{IsWhole}
use Rattle.st_run.specs.Jobs.{HaveRun, awaits_on}
use Rattle.st_service.specs.Lines.{tagged}
use Rattle.st_service.specs.Made.{Made, past_in}
use Rattle.st_service.specs.Passes.{Holder, front_at, mine_at}
use Rattle.st_service.specs.Puts.{Enters}
use Rattle.st_run.specs.Requests.{acts_on}
use Rattle.st_run.specs.Stands.{Stand}
use Rattle.st_run.proofs.DidLaws.{Each, each_append, EntersAll, did_append, did_enters, did_goes, ended, enters_grows, goes_front}
use Rattle.st_service.proofs.HoldLaws.{past_more}
use Rattle.st_run.proofs.Interleaved.{get_here}
use Rattle.st_run.proofs.PollStarts.{Distinct, IsStart, StartsAt, apart_makers, distinct_append, each_mapped, is_report, is_report_at, polls_stand, starts_longer}
use Rattle.st_run.proofs.RunEntries.{Only, only_enter, only_made, was_entered}

-- the arrivals of a poll are no reports

abbrev NoReport : Event → Type 0
NoReport event = is_report event ≡ false

abbrev QuietEntry : Entry → Type 0
QuietEntry x = NoReport x.event

each_arrival : (f : ℕ → Event) (ns : List ℕ) → ((n : ℕ) → NoReport (f n)) → Each NoReport (map f ns)
each_arrival f [] p = tt
each_arrival f (n ∷ ns) p = (p n, each_arrival f ns p)

quiet_follow_ups_of : (g : Group) (lines : List WireLine) (past : List Entry) (reply : Reply) → Each NoReport (follow_ups_of g lines past reply)
quiet_follow_ups_of g lines past (Sent n) = each_arrival Deliver (deliveries lines command_kind n) (λ k. refl)
quiet_follow_ups_of g lines past (Reported n) = each_arrival Hear (deliveries lines report_kind n) (λ k. refl)
quiet_follow_ups_of g lines past _ = tt

quiet_follow_ups : (g : Group) (lines : List WireLine) (past : List Entry) → Each NoReport (follow_ups g lines past)
quiet_follow_ups g lines [] = tt
quiet_follow_ups g lines (entry ∷ past) = quiet_follow_ups_of g lines (entry ∷ past) entry.reply

all_quiet : (g : Group) (past : List Entry) (course : Course) (events : List Event) → Each NoReport events → Only NoReport past course
    → Only NoReport past (enter_all g course events)
all_quiet g past course [] q o = o
all_quiet g past course (event ∷ events) q o = all_quiet g past (enter g course event) events q.1 (only_enter NoReport g past course event q.0 o)

-- events of which none met a full journal
all_went : (g : Group) (course : Course) (events : List Event) (new : List Entry) → enter_all g course events ≡ record { past = new; stopped = false }
    → course.stopped ≡ false
all_went g course [] new e = ap (λ (r : Course). r.stopped) e
all_went g course (event ∷ events) new e =
    let next = enter g course event in
    let went = all_went g next events new e in
    (was_entered g course event next.past (ap (λ (s : Bool). record { past = next.past; stopped = s }) went)).went

-- the entries of a poll, the oldest first: the report and its arrivals
record WasPolled (g : Group) (past : List Entry) (e : Entity) (entries : List Entry) : Type 0 where
  heard : List Entry
  are : entries ≡ entry_after g past (make_report e) ∷ heard
  quiet : Each QuietEntry heard

was_polled : (g : Group) (lines : List WireLine) (past new : List Entry) (e : Entity) (entries : List Entry)
    → poll g lines (course_from past) e ≡ record { past = new; stopped = false } → new ≡ reverse entries ++ past → WasPolled g past e entries
was_polled g lines past new e entries went is =
    let next = enter g (course_from past) (make_report e) in
    let events = follow_ups g lines next.past in
    let course = enter_all g next events in
    let on : next.stopped ≡ false = all_went g next events new went in
    let one = was_entered g (course_from past) (make_report e) next.past (ap (λ (s : Bool). record { past = next.past; stopped = s }) on) in
    let entry = entry_after g past (make_report e) in
    let o : Only NoReport next.past course = all_quiet g next.past next events (quiet_follow_ups g lines next.past) (record { more = []; all = refl; each = tt }) in
    let all : reverse entries ++ past ≡ (o.more ++ entry ∷ []) ++ past =
    sym is ∙ (sym (ap (λ (r : Course). r.past) went) ∙ (o.all ∙ (ap (λ (l : List Entry). o.more ++ l) one.is ∙ sym (append_assoc o.more (entry ∷ []) past)))) in
    let back : reverse entries ≡ o.more ++ entry ∷ [] = append_cancel_right (reverse entries) (o.more ++ entry ∷ []) past all in
    record {
      heard = reverse o.more;
      are = sym (reverse-reverse entries) ∙ (ap reverse back ∙ reverse-append o.more (entry ∷ []));
      quiet = only_made NoReport next.past course (reverse o.more) (o.all ∙ ap (λ (l : List Entry). l ++ next.past) (sym (reverse-reverse o.more))) o;
    }

abbrev QuietMade : Made → Type 0
QuietMade m = QuietEntry m.entry

quiet_tagged : (number : ℕ) (es : List Entry) → Each QuietEntry es → Each QuietMade (tagged number es)
quiet_tagged number [] q = tt
quiet_tagged number (x ∷ es) q = (q.0, quiet_tagged number es q.1)

quiet_at : (ms : List Made) (k : ℕ) → Each QuietMade ms → is_report_at (slice_get ms k) ≡ false
quiet_at [] k q = refl
quiet_at (m ∷ ms) zero q = q.0
quiet_at (m ∷ ms) (suc k) q = quiet_at ms k q.1

quiet_behind : (mid : List Made) (m : Made) (ms : List Made) (k : ℕ) → length mid < k → Each QuietMade ms
    → is_report_at (slice_get (mid ++ m ∷ ms) k) ≡ false
quiet_behind [] m ms zero lt q = absurd (omega (arith, lt))
quiet_behind [] m ms (suc k) lt q = quiet_at ms k q
quiet_behind (x ∷ mid) m ms zero lt q = absurd (omega (arith, lt))
quiet_behind (x ∷ mid) m ms (suc k) lt q = quiet_behind mid m ms k (omega (arith, lt)) q

poll_starts : (g : Group) (lines : List WireLine) (number n : ℕ) (e : Entity) (mid before : List Made) (was : List ℕ) (after : List Made) (now : List ℕ)
    → Enters (λ past. course_of (record { 0 = number }) (Poll n e) g lines (course_from past)) On number mid before was after now
    → StartsAt g lines e number after (length mid)
poll_starts g lines number n e mid before was after now h =
    let past = past_in mid in
    let new : past_in after ≡ reverse h.entries ++ past = ap past_in h.puts.1 ∙ past_more mid number h.entries in
    let w = was_polled g lines past (past_in after) e h.entries h.run new in
    let first : Made = record { by = number; entry = entry_after g past (make_report e) } in
    let heard = tagged number w.heard in
    let is : after ≡ mid ++ first ∷ heard = h.puts.1 ∙ ap (λ (es : List Entry). mid ++ tagged number es) w.are in
    record {
      before = mid;
      after = after;
      at = refl;
      went = (tagged number h.entries, sym h.puts.1);
      run = h.run;
      first = first;
      is_there = ap (λ (l : List Made). slice_get l (length mid)) is ∙ get_here mid first heard;
      own = refl;
      reports = refl;
      quiet = λ k lt. ap (λ (l : List Made). is_report_at (slice_get l k)) is ∙ quiet_behind mid first heard k lt (quiet_tagged number w.heard w.quiet);
      within = prefix_self after;
    }

-- where a command that polls the entity starts

record HasPolled (g : Group) (lines : List WireLine) (e : Entity) (number : ℕ) (before after : List Made) : Type 0 where
  place : ℕ
  behind : length before ≤ place
  starts : StartsAt g lines e number after place

poll_one : (act : Act) (g : Group) (lines : List WireLine) (e : Entity) (number : ℕ) (before : List Made) (was : List ℕ) (after : List Made) (now : List ℕ)
    → is_poll_of e act ≡ true → ActEnters act g lines number before was after now
    → HasPolled g lines e number before after
poll_one (Poll n entity) g lines e number before was after now is h =
    let starts : StartsAt g lines entity number after (length h.0) = poll_starts g lines number n entity h.0 before was after now h.1 in
    record {
      place = length h.0;
      behind = prefix_length before h.0 h.1.puts.0;
      starts = subst (λ (x : Entity). StartsAt g lines x number after (length h.0)) (same_entity entity e is) starts;
    }
poll_one (Propose n rows) g lines e number before was after now is h = absurd (cc is)
poll_one (Await n) g lines e number before was after now is h = absurd (cc is)
poll_one (Settle n rounds) g lines e number before was after now is h = absurd (cc is)
poll_one (Lock n entity prio) g lines e number before was after now is h = absurd (cc is)
poll_one (Unlock n entity prio) g lines e number before was after now is h = absurd (cc is)
poll_one (Read n entity var) g lines e number before was after now is h = absurd (cc is)
poll_one (ReadAt n version entity var) g lines e number before was after now is h = absurd (cc is)
poll_one (Fail n entity health rows) g lines e number before was after now is h = absurd (cc is)
poll_one (Span first first_rows second second_rows) g lines e number before was after now is h = absurd (cc is)

-- the polls of a chain of commands

record ScriptPolls (g : Group) (lines : List WireLine) (e : Entity) (number : ℕ) (acts : List Act) (before after : List Made) : Type 0 where
  places : List ℕ
  count : length places ≡ count_by (is_poll_of e) acts
  distinct : Distinct places
  each : Each (λ s. StartsAt g lines e number after s × (length before ≤ s)) places

count_here : (e : Entity) (act : Act) (acts : List Act) (b : Bool) → is_poll_of e act ≡ b
    → count_by (is_poll_of e) (act ∷ acts) ≡ (if b then 1 else 0) + count_by (is_poll_of e) acts
count_here e act acts b is = sum_by-cons (λ a. if is_poll_of e a then 1 else 0) act acts ∙ ap
    (λ (c : Bool). (if c then 1 else 0) + count_by (is_poll_of e) acts) is

-- the first entry of the poll is in the front
start_below : (g : Group) (lines : List WireLine) (e : Entity) (number : ℕ) (front : List Made) (s : ℕ) → StartsAt g lines e number front s
    → s < length front
start_below g lines e number front s p =
    let lt = slice_get_within p.after s p.first p.is_there in
    let le = prefix_length p.after front p.within in omega (arith, lt, le)

polls_then : (g : Group) (lines : List WireLine) (e : Entity) (number : ℕ) (act : Act) (acts : List Act) (before : List Made) (was : List ℕ)
    (mid : List Made) (got : List ℕ) (after : List Made) (b : Bool)
    → is_poll_of e act ≡ b
    → IsPrefix before mid → IsPrefix mid after → ActEnters act g lines number before was mid got → ScriptPolls g lines e number acts mid after
    → ScriptPolls g lines e number (act ∷ acts) before after
polls_then g lines e number act acts before was mid got after true is p q h r =
    let one = poll_one act g lines e number before was mid got is h in
    let low = start_below g lines e number mid one.place one.starts in
    let le = prefix_length before mid p in
    record {
      places = one.place ∷ r.places;
      count = omega (arith, r.count, count_here e act acts true is);
      distinct = (
        each_mapped (λ s. StartsAt g lines e number after s × (length mid ≤ s)) (λ s. one.place ≢ s) r.places
            (λ s at same. absurd (omega (arith, at.1, same, low))) r.each,
        r.distinct,
      );
      each = (
        (starts_longer g lines e number mid after one.place q one.starts, one.behind),
        each_mapped (λ s. StartsAt g lines e number after s × (length mid ≤ s))
            (λ s. StartsAt g lines e number after s × (length before ≤ s)) r.places (λ s at. (at.0, omega (arith, at.1, le))) r.each,
      );
    }
polls_then g lines e number act acts before was mid got after false is p q h r =
    let le = prefix_length before mid p in
    record {
      places = r.places;
      count = omega (arith, r.count, count_here e act acts false is);
      distinct = r.distinct;
      each = each_mapped (λ s. StartsAt g lines e number after s × (length mid ≤ s))
          (λ s. StartsAt g lines e number after s × (length before ≤ s)) r.places (λ s at. (at.0, omega (arith, at.1, le))) r.each;
    }

script_polls : (g : Group) (lines : List WireLine) (e : Entity) (number : ℕ) (acts : List Act) (before : List Made) (was : List ℕ)
    (after : List Made) (now : List ℕ)
    → EntersAll g lines number acts before was after now
    → ScriptPolls g lines e number acts before after
script_polls g lines e number [] before was after now h = record { places = []; count = refl; distinct = tt; each = tt }
script_polls g lines e number (act ∷ acts) before was after now h = polls_then g lines e number act acts before was h.0 h.1 after
    (is_poll_of e act) refl h.3.0 (enters_grows g lines number acts h.0 h.1 after now h.4).1.0 h.2
    (script_polls g lines e number acts h.0 h.1 after now h.4)

-- the polls of one pass, in the whole journal

record PassPolls (g : Group) (lines : List WireLine) (e : Entity) (front : List Made) (number : ℕ) (acts : List Act) : Type 0 where
  places : List ℕ
  count : length places ≡ count_by (is_poll_of e) acts
  distinct : Distinct places
  each : Each (StartsAt g lines e number front) places

pass_polls : (groups : ℕ → Group) (lines : ℕ → List WireLine) (rooms : ℕ) (scripts : List (List Act)) (passes : List Holder) (n : ℕ)
    (entries : List Entry) (front : List Made) (e : Entity) (a : ℕ) (acts : List Act) (p : Holder)
    → HaveRun groups lines rooms scripts passes → IsWhole (groups n) passes n entries front → slice_get scripts a ≡ Some acts
    → slice_get passes a ≡ Some p → PassPolls (groups n) (lines n) e front a (acts_on n acts)
pass_polls groups lines rooms scripts passes n entries front e a acts p run whole script pass =
    let g = groups n in
    let at = ended groups lines rooms scripts passes n entries front a acts p run whole script pass in
    let split = did_append groups lines acts (awaits_on rooms) at.start p at.did in
    let mid = split.0 in
    let chain = did_enters groups lines n acts a at.start mid at.fresh.numbered split.1 in
    let r = script_polls g (lines n) e a (acts_on n acts) (front_at at.start.fronts n) (mine_at at.start.mines n) (front_at mid.fronts n)
    (mine_at mid.mines n) chain in
    let later : IsPrefix (front_at mid.fronts n) (front_at p.fronts n) = goes_front n mid p (did_goes groups lines n (awaits_on rooms) mid p split.2) in
    let whole_of : IsPrefix (front_at mid.fronts n) front = prefix_trans (front_at mid.fronts n) (front_at p.fronts n) front later at.stands.begins in
    record {
      places = r.places;
      count = r.count;
      distinct = r.distinct;
      each = each_mapped (λ s. StartsAt g (lines n) e a (front_at mid.fronts n) s × (length (front_at at.start.fronts n) ≤ s))
          (StartsAt g (lines n) e a front) r.places
          (λ s x. starts_longer g (lines n) e a (front_at mid.fronts n) front s whole_of x.0) r.each;
    }

-- those of all passes from one on

record AllPolls (g : Group) (lines : List WireLine) (e : Entity) (front : List Made) (n i : ℕ) (scripts : List (List Act)) : Type 0 where
  places : List ℕ
  count : length places ≡ sum_by (λ acts. count_by (is_poll_of e) (acts_on n acts)) scripts
  distinct : Distinct places
  each : Each (λ s. (a : ℕ) × (i ≤ a) × StartsAt g lines e a front s) places

all_polls : (g : Group) (lines : List WireLine) (e : Entity) (front : List Made) (n i : ℕ) (scripts : List (List Act))
    → ((k : ℕ) (acts : List Act) → slice_get scripts k ≡ Some acts → PassPolls g lines e front (i + k) (acts_on n acts))
    → AllPolls g lines e front n i scripts
all_polls g lines e front n i [] has = record { places = []; count = refl; distinct = tt; each = tt }
all_polls g lines e front n i (acts ∷ scripts) has =
    let here : i + 0 ≡ i = omega arith in
    let one : PassPolls g lines e front i (acts_on n acts) = subst (λ (a : ℕ). PassPolls g lines e front a (acts_on n acts)) here (has 0 acts refl) in
    let rest = all_polls g lines e front n (suc i) scripts (λ k x is. let next : i + suc k ≡ suc i + k = omega arith in subst
    (λ (a : ℕ). PassPolls g lines e front a (acts_on n x)) next (has (suc k) x is)) in
    let apart : Each (λ s. Each (λ t. s ≢ t) rest.places) one.places = each_mapped (StartsAt g lines e i front) (λ s. Each (λ t. s ≢ t) rest.places) one.places
    (λ s at. each_mapped (λ t. (a : ℕ) × (suc i ≤ a) × StartsAt g lines e a front t) (λ t. s ≢ t) rest.places
    (λ t x. apart_makers g lines e i x.0 front s t at x.2 (λ same. absurd (omega (arith, same, x.1)))) rest.each) one.each in
    record {
      places = one.places ++ rest.places;
      count = omega (arith, length-append one.places rest.places, one.count, rest.count, sum_by-cons (λ x. count_by (is_poll_of e) (acts_on n x)) acts scripts);
      distinct = distinct_append one.places rest.places one.distinct rest.distinct apart;
      each = each_append (λ s. (a : ℕ) × (i ≤ a) × StartsAt g lines e a front s) one.places rest.places
          (each_mapped (StartsAt g lines e i front) (λ s. (a : ℕ) × (i ≤ a) × StartsAt g lines e a front s) one.places (λ s at. (i, omega arith, at)) one.each)
          (each_mapped (λ s. (a : ℕ) × (suc i ≤ a) × StartsAt g lines e a front s)
          (λ s. (a : ℕ) × (i ≤ a) × StartsAt g lines e a front s) rest.places (λ s x. (x.0, omega (arith, x.1), x.2)) rest.each);
    }

nobody : Holder
nobody = record { number = 0; fronts = []; mines = []; readers = []; log = [] }

pub polls_all : (groups : ℕ → Group) (lines : ℕ → List WireLine) (rooms : ℕ) (scripts : List (List Act)) (passes : List Holder) (n : ℕ)
    (entries : List Entry) (front : List Made)
    → HaveRun groups lines rooms scripts passes → n < rooms → IsWhole (groups n) passes n entries front
    → PollsAll scripts n (history_of (groups n) entries) (lines n)
polls_all groups lines rooms scripts passes n entries front run within whole e =
    let g = groups n in
    let all = all_polls g (lines n) e front n 0 scripts (λ k acts is.
    let there : k < length passes = let lt = slice_get_within scripts k acts is in omega (arith, lt, run.count) in
    let same : k ≡ 0 + k = omega arith in
    subst (λ (a : ℕ). PassPolls g (lines n) e front a (acts_on n acts)) same
    (pass_polls groups lines rooms scripts passes n entries front e k acts (get_or passes k nobody) run whole is
    (slice_get-get_or passes k nobody there))) in
    let stand = polls_stand g (lines n) e front all.places all.distinct
    (each_mapped (λ s. (a : ℕ) × (0 ≤ a) × StartsAt g (lines n) e a front s) (IsStart g (lines n) e front) all.places (λ s x. (x.0, x.2)) all.each) in
    subst (λ (k : ℕ). Stand (λ past. poll g (lines n) (course_from past) e) k [] (reverse entries)) all.count
    (subst (λ (past : List Entry). Stand (λ past. poll g (lines n) (course_from past) e) (length all.places) [] past) whole.journal stand)
