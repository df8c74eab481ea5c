-- What an ending says, by cases: of a fault, of journals that were gone through again, and where nothing is in the way of a call.
use Rattle.std.proofs.Common.{◌≡◌, ℕ, ◌-◌, ◌^◌, ◌<◌, ◌≤◌, List, [], ◌∷◌, ◌++◌, length, length-append, refl, ap, sym, ◌∙◌, subst, inl, inr, arith}
use Rattle.std.specs.Prelude.{◌⊎◌, Option, Some, None, Result, Ok as read_ok, Err}
use Rattle.std.proofs.lemmas.List.{append-nil}
use Rattle.std.specs.Io.KnownBytes.{Consumes, IsAtEnd, Keeps}
use Rattle.st_io.specs.declared.reading.ReadEnd.TheVariants.{End}
use Rattle.st_io.specs.declared.writing.Written.{Written}
use Rattle.st_io.specs.declared.writing.Written.TheVariants as ways
use Rattle.st_io.specs.Input.{ReadsInput}
use Rattle.st_io.specs.Output.{WritesUntil}
use Rattle.st_io.specs.declared.reading.TheConstants.{MAX_BYTES}
use Rattle.st_io.specs.Outside.{Rose}
use Rattle.st_net.specs.Groups.{Group}
use Rattle.st_event.specs.declared.journal.Journal.{Journal}
use Rattle.st_token.specs.declared.fault.FaultKind.{FaultKind}
use Rattle.st_token.specs.declared.fault.LineFault.{LineFault}
use Rattle.st_token.specs.Steps.{◌>>=◌}
use Rattle.st_grammar.specs.declared.doc.Doc.{Doc}
use Rattle.st_grammar.specs.Reading.{document_of}
use Rattle.st_journal.specs.JournalReading.{AreJournalsOf, journals_in}
use Rattle.st_journal.proofs.ReplayLemmas.{wrong_is_illegal}
use Rattle.st_words.specs.declared.job.FatTree.{FatTree}
use Rattle.st_words.specs.declared.job.Form.{Form}
use Rattle.st_replay.specs.declared.status.Status.{Status}
use Rattle.st_replay.specs.declared.status.Status.TheVariants.{Ok, Usage, ReadFault, TooLong, BadInput, JournalFull, Illegal, WriteFault, OutOfMemory}
use Rattle.st_top.specs.declared.answer.Outcome.{Outcome}
use Rattle.st_top.specs.declared.ending.Ending.{Ending}
use Rattle.st_replay.specs.declared.replaying.Again.{Again}
use Rattle.st_replay.specs.declared.replaying.Again.TheVariants as again
use Rattle.st_top.specs.declared.task.Task.{Task}
use Rattle.st_top.specs.declared.task.Showing.TheVariants.{In}
use Rattle.st_top.specs.declared.task.Reading.{Reading}
use Rattle.st_top.specs.declared.task.Reading.TheVariants as readings
use Rattle.st_top.specs.declared.task.Way.{Way}
use Rattle.st_top.specs.declared.task.Way.TheVariants.{Nothing, Reads, Makes}
use Rattle.st_top.specs.Ways.{tree_doc}
use Rattle.st_replay.specs.Replaying.{app_names, AreLegal, IsFirstIllegal, Replay, journal_bytes, journal_line, replay_of, replay_with}
use Rattle.st_top.specs.Output.{shown}
use Rattle.st_serial.specs.Kept.{groups_of}
use Rattle.st_serial.specs.Serial.{Run}
use Rattle.st_top.specs.Answer.{Results, SourceState, SinkState, ComesOf, EndsAtEnd, EndsOn, EndsOnBytes, EndsBy, EndsOnDoc, EndsOnReplay, EndsOnRun, EndsOnRunDoc, HasWritten, IsUnread, MeetsFullIn, StopsTooLong, run_of}
use Rattle.st_top.specs.Completeness.{CanBeDoneBy, CanBeDoneOn, CanBeRead, IsAfterReadFault, IsFaultless, MeetsNoFull}
use Rattle.st_replay.specs.Again.{IsAgain}
use Rattle.st_top.specs.Ending.{IsCalledFor, IsEndOnBytes, IsEndOnDoc, IsEndOnReplay, IsToldAgain, TellsFault, WritesEnding, results_in}
use Rattle.st_replay.specs.Statuses.{told}
use Rattle.st_top.proofs.PlayedRuns.{run_well}
use Rattle.st_replay.proofs.Replays.{again_kept, legal_amid, one_each}

-- the ending that tells of a bad line
pub fault_ends : (form : Form) (line : ℕ) (kind : FaultKind) (ending : Ending) → TellsFault (BadInput line kind) ending → IsEndOnReplay form (Err (record { line = line; kind = kind })) ending
fault_ends form line kind ending is =
    let fault : LineFault = record { line = line; kind = kind } in
    let told : EndsOnReplay form (Err fault) (results_in ending) ending.text (BadInput line kind) = (refl, is.none, is.text_is) in
    subst (λ (s : Status). EndsOnReplay form (Err fault) (results_in ending) ending.text s) (sym is.status_is) told

-- journals of a document that were gone through again
pub again_ends : (form : Form) (doc : Doc) (journals : List Journal) (came : Again) (results : Results) (text : List ℕ) (status : Status) → AreJournalsOf 0 (groups_of doc) journals → IsAgain (groups_of doc) journals came → IsToldAgain form doc came status text
    → results ≡ record { journals = journals; logs = [] } → EndsOnReplay form (read_ok (record { doc = doc; journals = journals })) results text status
again_ends form doc journals (again.Worlds worlds) results text Ok each is told are = record {
  kept = again_kept (groups_of doc) journals worlds.items (one_each 0 (groups_of doc) journals each) is.0 is.1;
  results_are = are;
  report = told ∙ ap (λ hs. shown (In form) doc hs []) is.0;
}
again_ends form doc journals (again.Worlds worlds) results text _ each is told are = absurd told
again_ends form doc journals (again.Illegal n entry) results text (Illegal group number) each is told are = record {
  first = subst (λ (m : ℕ). IsFirstIllegal (groups_of doc) journals group m) (sym told.1) (subst (λ (m : ℕ). IsFirstIllegal (groups_of doc) journals m entry) (sym told.0) is);
  results_are = are;
  told = told.2;
}
again_ends form doc journals (again.Illegal n entry) results text _ each is told are = absurd told

pub again_told : (form : Form) (doc : Doc) (journals slice : List Journal) (topos : List Group) (came : Again) (results : Results) (text : List ℕ) (status : Status) → topos ≡ groups_of doc → slice ≡ journals → AreJournalsOf 0 topos journals → IsAgain topos slice came
    → IsToldAgain form doc came status text → results ≡ record { journals = journals; logs = [] } → EndsOnReplay form (read_ok (record { doc = doc; journals = journals })) results text status
again_told form doc journals slice topos came results text status same all each is told are =
    again_ends form doc journals came results text status (subst (λ (gs : List Group). AreJournalsOf 0 gs journals) same each)
    (subst (λ (js : List Journal). IsAgain (groups_of doc) js came) all (subst (λ (gs : List Group). IsAgain gs slice came) same is)) told are

-- the journals that a document was read with, or their fault
pub journals_end : (form : Form) (bytes : List ℕ) (doc : Doc) (groups : List Group) (read : Result (List Journal) LineFault) (more : Result Replay LineFault) (ending : Ending) → groups ≡ groups_of doc
    → journals_in groups (app_names doc) (journal_line doc.journal_at) (journal_bytes doc.journal_at bytes) ≡ read → (read >>= λ (js : List Journal). read_ok (record { doc = doc; journals = js })) ≡ more
    → IsEndOnReplay form more ending → IsEndOnReplay form (replay_with bytes doc) ending
journals_end form bytes doc groups read more ending same is then end =
    let whole : replay_with bytes doc ≡ more =
    ap (λ (gs : List Group). journals_in gs (app_names doc) (journal_line doc.journal_at) (journal_bytes doc.journal_at bytes) >>= λ (js : List Journal). read_ok (record { doc = doc; journals = js })) (sym same)
    ∙ ap (λ (r : Result (List Journal) LineFault). r >>= λ (js : List Journal). read_ok (record { doc = doc; journals = js })) is ∙ then in
    subst (λ (r : Result Replay LineFault). IsEndOnReplay form r ending) (sym whole) end

-- statuses that come of what was read to its end
abbrev CanEnd : Status → Type 0
CanEnd Ok = Unit {0}
CanEnd Usage = ⊥
CanEnd ReadFault = ⊥
CanEnd TooLong = ⊥
CanEnd (BadInput line kind) = Unit {0}
CanEnd (JournalFull group) = Unit {0}
CanEnd (Illegal group entry) = Unit {0}
CanEnd WriteFault = ⊥
CanEnd OutOfMemory = ⊥

doc_can : (task : Task) (doc : Doc) (results : Results) (text : List ℕ) (status : Status) → EndsOnDoc task doc results text status → CanEnd status
doc_can task doc results text Ok is = tt
doc_can task doc results text (JournalFull group) is = tt
doc_can task doc results text _ is = absurd is

on_can : (task : Task) (read : Result Doc LineFault) (results : Results) (text : List ℕ) (status : Status) → EndsOn task read results text status → CanEnd status
on_can task (read_ok doc) results text status is = doc_can task doc results text status is
on_can task (Err fault) results text (BadInput line kind) is = tt
on_can task (Err fault) results text _ is = absurd is

replay_can : (form : Form) (read : Result Replay LineFault) (results : Results) (text : List ℕ) (status : Status) → EndsOnReplay form read results text status → CanEnd status
replay_can form (read_ok replay) results text Ok is = tt
replay_can form (read_ok replay) results text (Illegal group entry) is = tt
replay_can form (read_ok replay) results text _ is = absurd is
replay_can form (Err fault) results text (BadInput line kind) is = tt
replay_can form (Err fault) results text _ is = absurd is

run_doc_can : (form : Form) (doc : Doc) (results : Results) (text : List ℕ) (status : Status) → EndsOnRunDoc form doc results text status → CanEnd status
run_doc_can form doc results text Ok is = tt
run_doc_can form doc results text (JournalFull group) is = tt
run_doc_can form doc results text _ is = absurd is

run_can : (form : Form) (read : Result Doc LineFault) (results : Results) (text : List ℕ) (status : Status) → EndsOnRun form read results text status → CanEnd status
run_can form (read_ok doc) results text status is = run_doc_can form doc results text status is
run_can form (Err fault) results text (BadInput line kind) is = tt
run_can form (Err fault) results text _ is = absurd is

bytes_can : (reading : Reading) (bytes : List ℕ) (results : Results) (text : List ℕ) (status : Status) → EndsOnBytes reading bytes results text status → CanEnd status
bytes_can (readings.Doc task) bytes results text status is = on_can task (document_of bytes) results text status is
bytes_can (readings.Run form) bytes results text status is = run_can form (document_of bytes) results text status is
bytes_can (readings.Journals form) bytes results text status is = replay_can form (replay_of bytes) results text status is

comes_by : (reading : Reading) (old new : SourceState) (results : Results) (text : List ℕ) (status : Status) → CanEnd status → EndsAtEnd reading old new results text status → ComesOf (Reads reading) old new results text status
comes_by reading old new results text Ok can is = is
comes_by reading old new results text (BadInput line kind) can is = is
comes_by reading old new results text (JournalFull group) can is = is
comes_by reading old new results text (Illegal group entry) can is = is
comes_by reading old new results text _ can is = absurd can

-- what is called for of a source that was read to its end
pub end_comes : (reading : Reading) (old new : SourceState) (bytes slice : List ℕ) (ending : Ending) → ReadsInput old.left new.left old.faults new.faults bytes End → slice ≡ bytes → IsEndOnBytes reading slice ending → IsCalledFor (Reads reading) old new ending
end_comes reading old new bytes slice ending read same is =
    let ends : IsEndOnBytes reading bytes ending = subst (λ (bs : List ℕ). IsEndOnBytes reading bs ending) same is in
    comes_by reading old new (results_in ending) ending.text ending.status (bytes_can reading bytes (results_in ending) ending.text ending.status ends)
    (record { bytes = bytes; consumed = read.consumed; ended = read.stops.0; few = read.stops.1; still = read.stops.2; ends = ends })

-- and of one that was not read
keeps_same : (left : Option (List ℕ)) → Keeps left left
keeps_same None = tt
keeps_same (Some bytes) = refl

pub unread : (old : SourceState) → IsUnread old old
unread old = record { left = keeps_same old.left; faults = refl }

pub tree_comes : (way : Way) (task : Task) (tree : FatTree) (old : SourceState) (ending : Ending) → way ≡ Makes task tree → IsEndOnDoc task (tree_doc tree) ending → IsCalledFor way old old ending
tree_comes way task tree old ending is end = subst (λ (x : Way). IsCalledFor x old old ending) (sym is) (record { unread = unread old; ends = end })

-- neither a failed write nor want of memory is called for
never_write : (way : Way) (old new : SourceState) (results : Results) (text : List ℕ) → ComesOf way old new results text WriteFault → ⊥
never_write Nothing old new results text is = is
never_write (Reads reading) old new results text is = is
never_write (Makes task tree) old new results text is = doc_can task (tree_doc tree) results text WriteFault is.ends

never_memory : (way : Way) (old new : SourceState) (results : Results) (text : List ℕ) → ComesOf way old new results text OutOfMemory → ⊥
never_memory Nothing old new results text is = is
never_memory (Reads reading) old new results text is = is
never_memory (Makes task tree) old new results text is = doc_can task (tree_doc tree) results text OutOfMemory is.ends

-- so the call ends with what was called for, as far as it was written
whole_ends : (way : Way) (old new : SourceState) (before now : SinkState) (results : Results) (status : Status) → HasWritten way old new before now results status → EndsBy way old new before now results status
whole_ends way old new before now results WriteFault is = absurd (never_write way old new results is.text is.comes)
whole_ends way old new before now results OutOfMemory is = absurd (never_memory way old new results is.text is.comes)
whole_ends way old new before now results status is = is

ends_as : (way : Way) (old new : SourceState) (before now : SinkState) (results : Results) (text : List ℕ) (status : Status) (written : Written) → ComesOf way old new results text status
    → WritesUntil before.held now.held before.faults now.faults text written → EndsBy way old new before now results (told written status)
ends_as way old new before now results text status ways.All comes until = whole_ends way old new before now results status (record { text = text; comes = comes; held = until.0; still = until.1 })
ends_as way old new before now results text status ways.Failed comes until = (record { status = status; text = text; comes = comes; held = until.0 }, until.1)
ends_as way old new before now results text status ways.OutOfMemory comes until = (inr (record { status = status; text = text; comes = comes; held = until.0 }), until.1)

pub written_ends : (way : Way) (old new : SourceState) (before now : SinkState) (ending : Ending) (outcome : Outcome) → IsCalledFor way old new ending → WritesEnding ending before now outcome
    → EndsBy way old new before now (record { journals = outcome.journals; logs = outcome.logs }) outcome.status
written_ends way old new before now ending outcome comes is =
    let results : Results = record { journals = outcome.journals; logs = outcome.logs } in
    let called : ComesOf way old new results ending.text ending.status = subst (λ (r : Results). ComesOf way old new r ending.text ending.status) (sym is.results_are) comes in
    subst (λ (s : Status). EndsBy way old new before now results s) (sym is.status_is) (ends_as way old new before now results ending.text ending.status is.written called is.writes.until)

-- a call in which a read failed tells it
abbrev IsStill : SourceState → SourceState → Type 0
IsStill old new = new.faults ≡ old.faults

rose_or_still : (way : Way) (old new : SourceState) (results : Results) (text : List ℕ) (status : Status) → ComesOf way old new results text status → IsAfterReadFault status ⊎ IsStill old new
rose_or_still Nothing old new results text Usage is = inr is.unread.faults
rose_or_still Nothing old new results text _ is = absurd is
rose_or_still (Makes task tree) old new results text status is = inr is.unread.faults
rose_or_still (Reads reading) old new results text Ok is = inr is.still
rose_or_still (Reads reading) old new results text Usage is = absurd is
rose_or_still (Reads reading) old new results text ReadFault is = inl tt
rose_or_still (Reads reading) old new results text TooLong is = inr is.still
rose_or_still (Reads reading) old new results text (BadInput line kind) is = inr is.still
rose_or_still (Reads reading) old new results text (JournalFull group) is = inr is.still
rose_or_still (Reads reading) old new results text (Illegal group entry) is = inr is.still
rose_or_still (Reads reading) old new results text WriteFault is = absurd is
rose_or_still (Reads reading) old new results text OutOfMemory is = absurd is

after_by : (old new : SourceState) (status : Status) → old.faults < new.faults → IsAfterReadFault status ⊎ IsStill old new → IsAfterReadFault status
after_by old new status rose (inl is) = is
after_by old new status rose (inr still) = absurd (omega (arith, rose, still))

pub after_fault : (way : Way) (old new : SourceState) (before now : SinkState) (results : Results) (status : Status) → EndsBy way old new before now results status → old.faults < new.faults → IsAfterReadFault status
after_fault way old new before now results WriteFault is rose = tt
after_fault way old new before now results OutOfMemory is rose = tt
after_fault way old new before now results status is rose = after_by old new status rose (rose_or_still way old new results is.text status is.comes)

-- where nothing failed, no failure is told
read_rose : (way : Way) (old new : SourceState) (results : Results) (text : List ℕ) → ComesOf way old new results text ReadFault → Rose old.faults new.faults
read_rose Nothing old new results text is = absurd is
read_rose (Reads reading) old new results text is = is.rose
read_rose (Makes task tree) old new results text is = absurd (doc_can task (tree_doc tree) results text ReadFault is.ends)

pub read_fault : (way : Way) (old new : SourceState) (before now : SinkState) (results : Results) (status : Status) → EndsBy way old new before now results status → new.faults ≡ old.faults → old.faults < 2 ^ 64 - 1 → status ≡ ReadFault → ⊥
read_fault way old new before now results status ends same below is =
    let told : EndsBy way old new before now results ReadFault = subst (λ (s : Status). EndsBy way old new before now results s) is ends in
    let rose = read_rose way old new results told.text told.comes in
    omega (arith, same, below, rose)

pub write_fault : (way : Way) (old new : SourceState) (before now : SinkState) (results : Results) (status : Status) → EndsBy way old new before now results status → now.faults ≡ before.faults → before.faults < 2 ^ 64 - 1 → status ≡ WriteFault → ⊥
write_fault way old new before now results status ends same below is =
    let told : EndsBy way old new before now results WriteFault = subst (λ (s : Status). EndsBy way old new before now results s) is ends in
    omega (arith, same, below, told.1)

-- where nothing is in the way of a call

-- legal journals have no entry that is not
pub none_illegal : (groups : List Group) (journals : List Journal) (group entry : ℕ) → AreLegal groups journals → IsFirstIllegal groups journals group entry → ⊥
none_illegal groups journals group entry legal i =
    let there : AreLegal (i.before ++ i.group ∷ i.after) journals = subst (λ (gs : List Group). AreLegal gs journals) i.groups_are legal in
    let amid = subst (λ (js : List Journal). AreLegal (i.before ++ i.group ∷ i.after) js) i.journals_are there in
    wrong_is_illegal i.group i.journal.entries entry i.wrong (legal_amid i.before i.after i.group i.journals_before i.journals_after i.journal i.legal amid)

-- what a call does where it succeeds, unless memory is refused
abbrev pub IsWell : Status → Type 0
IsWell status = (status ≡ Ok) ⊎ (status ≡ OutOfMemory)

-- a run that meets no full journal meets none of a group
no_full : (run : Option Run) (doc : Doc) (results : Results) (text : List ℕ) (group : ℕ) → MeetsNoFull run → MeetsFullIn run doc results text group → ⊥
no_full None doc results text group can is = is
no_full (Some run) doc results text group can is = let none : None ≡ Some group = sym can ∙ is.full in cc

doc_well : (task : Task) (doc : Doc) (results : Results) (text : List ℕ) (status : Status) → CanBeDoneOn task doc → EndsOnDoc task doc results text status → IsWell status
doc_well task doc results text Ok can is = inl refl
doc_well task doc results text (JournalFull group) can is = absurd (no_full (run_of task doc) doc results text group can is)
doc_well task doc results text _ can is = absurd is

on_well : (task : Task) (doc : Doc) (read : Result Doc LineFault) (results : Results) (text : List ℕ) (status : Status) → read ≡ read_ok doc → CanBeDoneOn task doc → EndsOn task read results text status → IsWell status
on_well task doc read results text status is can ends = doc_well task doc results text status can (subst (λ (r : Result Doc LineFault). EndsOn task r results text status) is ends)

replay_well : (form : Form) (replay : Replay) (results : Results) (text : List ℕ) (status : Status) → AreLegal (groups_of replay.doc) replay.journals → EndsOnReplay form (read_ok replay) results text status → IsWell status
replay_well form replay results text Ok legal is = inl refl
replay_well form replay results text (Illegal group entry) legal is = absurd (none_illegal (groups_of replay.doc) replay.journals group entry legal is.first)
replay_well form replay results text _ legal is = absurd is

-- the bytes that were read to the end are all that were left
read_whole : (left new : Option (List ℕ)) (all bytes : List ℕ) → left ≡ Some all → Consumes left new bytes → IsAtEnd new → bytes ≡ all
read_whole left new all bytes told consumed ended = by_new new (subst (λ (o : Option (List ℕ)). Consumes o new bytes) told consumed) ended
  where
    by_new : (o : Option (List ℕ)) → Consumes (Some all) o bytes → IsAtEnd o → bytes ≡ all
    by_new None taken end = absurd taken
    by_new (Some rest) taken end = sym (append-nil bytes) ∙ ap (λ (r : List ℕ). bytes ++ r) (sym end) ∙ sym taken

read_part : (left new : Option (List ℕ)) (all bytes : List ℕ) → left ≡ Some all → Consumes left new bytes → length bytes ≤ length all
read_part left new all bytes told consumed = by_new new (subst (λ (o : Option (List ℕ)). Consumes o new bytes) told consumed)
  where
    by_new : (o : Option (List ℕ)) → Consumes (Some all) o bytes → length bytes ≤ length all
    by_new None taken = absurd taken
    by_new (Some rest) taken = omega (arith, ap length taken, length-append bytes rest)

-- an input that can be carried out is not too long, and is an input of what is done on it
record IsFew (left : Option (List ℕ)) : Type 0 where
  bytes : List ℕ
  told : left ≡ Some bytes
  few : length bytes ≤ MAX_BYTES

few_left : (reading : Reading) (left : Option (List ℕ)) → CanBeRead reading left → IsFew left
few_left (readings.Doc task) left can = record { bytes = can.bytes; told = can.told; few = can.few }
few_left (readings.Run form) left can = record { bytes = can.bytes; told = can.told; few = can.few }
few_left (readings.Journals form) left can = record { bytes = can.bytes; told = can.told; few = can.few }

ends_well : (reading : Reading) (left new : Option (List ℕ)) (bytes : List ℕ) (results : Results) (text : List ℕ) (status : Status) → CanBeRead reading left → Consumes left new bytes → IsAtEnd new → EndsOnBytes reading bytes results text status → IsWell status
ends_well (readings.Doc task) left new bytes results text status can consumed ended is =
    let same : bytes ≡ can.bytes = read_whole left new can.bytes bytes can.told consumed ended in
    on_well task can.doc (document_of bytes) results text status (ap document_of same ∙ can.declared) can.holds is
ends_well (readings.Run form) left new bytes results text status can consumed ended is =
    let same : bytes ≡ can.bytes = read_whole left new can.bytes bytes can.told consumed ended in
    run_well form can.doc results text status can.holds (subst (λ (r : Result Doc LineFault). EndsOnRun form r results text status) (ap document_of same ∙ can.declared) is)
ends_well (readings.Journals form) left new bytes results text status can consumed ended is =
    let same : bytes ≡ can.bytes = read_whole left new can.bytes bytes can.told consumed ended in
    replay_well form can.replay results text status can.legal (subst (λ (r : Result Replay LineFault). EndsOnReplay form r results text status) (ap replay_of same ∙ can.declared) is)

no_rise : (before now : ℕ) → IsFaultless before now → Rose before now → ⊥
no_rise before now still rose = omega (arith, still.still, still.below, rose)

at_end_well : (reading : Reading) (old new : SourceState) (results : Results) (text : List ℕ) (status : Status) → CanBeRead reading old.left → EndsAtEnd reading old new results text status → IsWell status
at_end_well reading old new results text status can is = ends_well reading old.left new.left is.bytes results text status can is.consumed is.ended is.ends

too_long : (reading : Reading) (old new : SourceState) (results : Results) (text : List ℕ) → CanBeRead reading old.left → StopsTooLong old new results text → ⊥
too_long reading old new results text can is =
    let few = few_left reading old.left can in
    let part = read_part old.left new.left few.bytes is.bytes few.told is.consumed in
    omega (arith, part, is.many, few.few)

way_well : (way : Way) (old new : SourceState) (results : Results) (text : List ℕ) (status : Status) → CanBeDoneBy way old.left → IsFaultless old.faults new.faults → ComesOf way old new results text status → IsWell status
way_well Nothing old new results text status can still is = absurd can
way_well (Makes task tree) old new results text status can still is = doc_well task (tree_doc tree) results text status can is.ends
way_well (Reads reading) old new results text Ok can still is = inl refl
way_well (Reads reading) old new results text Usage can still is = absurd is
way_well (Reads reading) old new results text ReadFault can still is = absurd (no_rise old.faults new.faults still is.rose)
way_well (Reads reading) old new results text TooLong can still is = absurd (too_long reading old new results text can is)
way_well (Reads reading) old new results text (BadInput line kind) can still is = at_end_well reading old new results text (BadInput line kind) can is
way_well (Reads reading) old new results text (JournalFull group) can still is = at_end_well reading old new results text (JournalFull group) can is
way_well (Reads reading) old new results text (Illegal group entry) can still is = at_end_well reading old new results text (Illegal group entry) can is
way_well (Reads reading) old new results text WriteFault can still is = absurd is
way_well (Reads reading) old new results text OutOfMemory can still is = absurd is

-- so the call succeeds
pub call_well : (way : Way) (old new : SourceState) (before now : SinkState) (results : Results) (status : Status) → EndsBy way old new before now results status
    → CanBeDoneBy way old.left → IsFaultless old.faults new.faults → IsFaultless before.faults now.faults → IsWell status
call_well way old new before now results Ok is can still kept = inl refl
call_well way old new before now results OutOfMemory is can still kept = inr refl
call_well way old new before now results WriteFault is can still kept = absurd (no_rise before.faults now.faults kept is.1)
call_well way old new before now results status is can still kept = way_well way old new results is.text status can still is.comes
