-- What a pass saw of a group is true of the group's whole journal.
use Rattle.std.proofs.Common.{◌≡◌, ℕ, ◌<◌, ◌≤◌, Bool, true, false, nat_le, List, [], ◌∷◌, length, refl, sym, subst, arith}
use Rattle.std.specs.Prelude.{Some, slice_get, reverse, if◌then◌else◌}
use Rattle.std.proofs.lemmas.Bool.Decides.{nat_tests}
use Rattle.std.proofs.lemmas.List.{reverse-append, reverse-reverse}
use mathlib.Core.List.{IsPrefix}
use Rattle.st_net.specs.declared.entity.Entity.{Entity}
use Rattle.st_net.specs.declared.entity.Var.{Var}
use Rattle.st_net.specs.Groups.{Group}
use Rattle.st_net.specs.Merge.{merge_of}
use Rattle.st_event.specs.declared.act.Act.{Act}
use Rattle.st_event.specs.declared.act.Act.TheVariants.{Propose, Await, Settle, Lock, Unlock, Read, ReadAt, Fail, Poll, Span}
use Rattle.st_event.specs.declared.act.LogEntry.{LogEntry}
use Rattle.st_event.specs.declared.act.LogSaw.TheVariants.{Seen, At, NoVersion}
use Rattle.st_event.specs.declared.journal.Entry.{Entry}
use Rattle.st_event.specs.History.{History}
use Rattle.st_event.specs.Proposals.{overlays, version}
use Rattle.st_event.specs.Versions.{value_at}
use Rattle.st_wire.specs.declared.line.WireLine.{WireLine}
use Rattle.st_world.specs.Acts.{group_number, seen_at}
use Rattle.st_event.proofs.Prefixes.{prefix_length, prefix_trans}
use Rattle.st_run.specs.CarriedLaws.{history_of}
use Rattle.st_run.specs.CarriedOn.{SeesTruly}
use Rattle.st_service.specs.Closed.{IsWhole}
use Rattle.st_run.specs.Jobs.{HaveRun}
use Rattle.st_run.specs.Logs.{EachRead, IsTrueOf}
use Rattle.st_service.specs.Made.{Made, past_in}
use Rattle.st_service.specs.Passes.{Holder, front_at, reader_at}
use Rattle.st_run.proofs.AcceptedLater.{front_version, value_first, value_stays}
use Rattle.st_run.proofs.DidLaws.{Each, did_goes, each_all, each_append, ended, goes_front}
use Rattle.st_run.proofs.LoggedReads.{IsLineBy, each_read}

-- the group with the journal of a front
abbrev pub journal_in : Group → List Made → History
journal_in g front = record { group = g; past = past_in front }

-- a read's version is one of the journal, with its value
true_seen : (g : Group) (front : List Made) (rows : List (List _)) (entity : Entity) (var : Var) → IsPrefix rows (overlays (past_in front)) → IsTrueOf (journal_in g front) entity var (Seen (length rows) (merge_of g rows entity var))
true_seen g front rows entity var p = (prefix_length rows (overlays (past_in front)) p, value_first g (past_in front) rows entity var p)

-- and so is one that was asked for, unless there was none yet
true_at : (g : Group) (xs ys : List Made) (asked : ℕ) (entity : Entity) (var : Var) (b : Bool) → IsPrefix xs ys → nat_le asked (version (past_in xs)) ≡ b
    → IsTrueOf (journal_in g ys) entity var (if b then At asked (value_at g (past_in xs) asked entity var) else NoVersion asked (version (past_in xs)))
true_at g xs ys asked entity var true p is =
    let more = front_version xs ys p in
    let low : asked ≤ version (past_in xs) = grind (arith, nat_tests, is) in
    (omega (arith, more, low), value_stays g xs ys asked entity var p low)
true_at g xs ys asked entity var false p is =
    let more = front_version xs ys p in
    let high : version (past_in xs) < asked = grind (arith, nat_tests, is) in
    (high, more)

true_line : (groups : ℕ → Group) (n : ℕ) (act : Act) (new : Holder) (line : LogEntry) (front : List Made) → IsPrefix (front_at new.fronts n) front → IsPrefix (reader_at new.readers n).proposals (overlays (past_in front))
    → IsLineBy act (groups (group_number act)) new line → line.group ≡ n → IsTrueOf (journal_in (groups n) front) line.entity line.var line.saw
true_line groups n (Read m entity var) new line front p q is =
    subst (λ (l : LogEntry). l.group ≡ n → IsTrueOf (journal_in (groups n) front) l.entity l.var l.saw) (sym is)
    (λ (same : m ≡ n).
    subst (λ (k : ℕ). IsTrueOf (journal_in (groups n) front) entity var (Seen (length (reader_at new.readers k).proposals) (merge_of (groups k) (reader_at new.readers k).proposals entity var))) (sym same)
    (true_seen (groups n) front (reader_at new.readers n).proposals entity var q))
true_line groups n (ReadAt m asked entity var) new line front p q is =
    subst (λ (l : LogEntry). l.group ≡ n → IsTrueOf (journal_in (groups n) front) l.entity l.var l.saw) (sym is)
    (λ (same : m ≡ n).
    subst (λ (k : ℕ). IsTrueOf (journal_in (groups n) front) entity var (seen_at (journal_in (groups k) (front_at new.fronts k)) asked entity var)) (sym same)
    (true_at (groups n) (front_at new.fronts n) front asked entity var (nat_le asked (version (past_in (front_at new.fronts n)))) p refl))
true_line groups n (Propose m rows) new line front p q is = absurd is
true_line groups n (Await m) new line front p q is = absurd is
true_line groups n (Settle m rounds) new line front p q is = absurd is
true_line groups n (Lock m entity prio) new line front p q is = absurd is
true_line groups n (Unlock m entity prio) new line front p q is = absurd is
true_line groups n (Fail m entity health rows) new line front p q is = absurd is
true_line groups n (Poll m entity) new line front p q is = absurd is
true_line groups n (Span first first_rows second second_rows) new line front p q is = absurd is

-- what each read's line has, each line of the log has

lines_read : (Q : LogEntry → Type 0) (acts : List Act) (log : List LogEntry) → EachRead (λ before act line. Q line) acts log → Each Q log
lines_read Q [] [] e = tt
lines_read Q [] (line ∷ log) e = absurd e
lines_read Q (Read n entity var ∷ before) [] e = absurd e
lines_read Q (Read n entity var ∷ before) (line ∷ log) e = (e.0, lines_read Q before log e.1)
lines_read Q (ReadAt n asked entity var ∷ before) [] e = absurd e
lines_read Q (ReadAt n asked entity var ∷ before) (line ∷ log) e = (e.0, lines_read Q before log e.1)
lines_read Q (Propose n rows ∷ before) log e = lines_read Q before log e
lines_read Q (Await n ∷ before) log e = lines_read Q before log e
lines_read Q (Settle n rounds ∷ before) log e = lines_read Q before log e
lines_read Q (Lock n entity prio ∷ before) log e = lines_read Q before log e
lines_read Q (Unlock n entity prio ∷ before) log e = lines_read Q before log e
lines_read Q (Fail n entity health rows ∷ before) log e = lines_read Q before log e
lines_read Q (Poll n entity ∷ before) log e = lines_read Q before log e
lines_read Q (Span first first_rows second second_rows ∷ before) log e = lines_read Q before log e

each_turned : {X : Type 0} (Q : X → Type 0) (xs : List X) → Each Q xs → Each Q (reverse xs)
each_turned Q [] e = tt
each_turned Q (x ∷ xs) e = subst (Each Q) (sym (reverse-append (x ∷ []) xs)) (each_append Q (reverse xs) (x ∷ []) (each_turned Q xs e.1) (e.0, tt))

pub sees_truly : (groups : ℕ → Group) (lines : ℕ → List WireLine) (rooms : ℕ) (scripts : List (List Act)) (passes : List Holder) (n : ℕ) (entries : List Entry) (front : List Made) (a : ℕ) (acts : List Act) (p : Holder)
    → HaveRun groups lines rooms scripts passes → n < rooms → IsWhole (groups n) passes n entries front → slice_get scripts a ≡ Some acts → slice_get passes a ≡ Some p → SeesTruly n p.log (history_of (groups n) entries)
sees_truly groups lines rooms scripts passes n entries front a acts p run low whole script pass =
    let done = run.each a acts p script pass in
    let stands = (ended groups lines rooms scripts passes n entries front a acts p run whole script pass).stands in
    let Q : LogEntry → Type 0 = λ line. line.group ≡ n → IsTrueOf (journal_in (groups n) front) line.entity line.var line.saw in
    let reads : EachRead (λ before act line. Q line) (reverse acts) (reverse p.log) =
    each_read groups lines rooms acts done.start p (λ before act line. Q line) done.fresh.unlogged done.did
    (λ before act behind old new line d does e is.
    let goes = did_goes groups lines n behind new p e in
    true_line groups n act new line front
    (prefix_trans (front_at new.fronts n) (front_at p.fronts n) front (goes_front n new p goes) stands.begins)
    (prefix_trans (reader_at new.readers n).proposals (reader_at p.readers n).proposals (overlays (past_in front)) (goes.readers n) stands.reads) is) in
    let each : Each Q p.log = subst (Each Q) (reverse-reverse p.log) (each_turned Q (reverse p.log) (lines_read Q (reverse acts) (reverse p.log) reads)) in
    subst (λ (past : List Entry). SeesTruly n p.log (record { group = groups n; past = past })) whole.journal (each_all Q p.log each)
