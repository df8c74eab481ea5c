-- The words of a reply are read as the reply.
use Rattle.std.proofs.Common.{◌≡◌, ℕ, zero, suc, ◌-◌, ◌<◌, ◌≤◌, List, [], ◌∷◌, ◌++◌, length, refl, ap, sym, ◌∙◌, subst, append_assoc, arith}
use Rattle.std.specs.Prelude.{Bool, true, false, not, ◌&&◌, ◌||◌, ◌==◌, ◌^◌, slice_index_or, Option, Some, None, Ok, bytes_eq, codes, decimal}
use Rattle.std.specs.List.{AllByRecursion}
use Rattle.std.proofs.lemmas.List.{append-nil, length-map, length-append}
use Rattle.std.proofs.Math.Seq.{get_or-append_seam}
use Rattle.std.proofs.lemmas.Slice.Eq.{bytes_eq-Decides}
use Rattle.st_text.specs.Words.{IsWord}
use Rattle.st_net.proofs.Tests.{both, neither, turned, at_most, less, equal_self}
use Rattle.st_net.specs.declared.entity.AppId.{AppId}
use Rattle.st_net.specs.declared.entity.Entity.{Entity}
use Rattle.st_net.specs.declared.entity.Entity.TheVariants.{Device}
use Rattle.st_net.specs.declared.entity.Prio.{Prio}
use Rattle.st_net.specs.declared.entity.Row.{Row}
use Rattle.st_net.specs.declared.promise.Promise.{Promise}
use Rattle.st_net.specs.declared.topo.DeviceOpening.{DeviceOpening}
use Rattle.st_net.specs.declared.promise.Broken.{Broken}
use Rattle.st_net.specs.declared.promise.BrokenOf.{BrokenOf}
use Rattle.st_net.specs.declared.promise.BrokenOf.TheVariants.{Promise as of_promise}
use Rattle.st_net.specs.declared.promise.BrokenKind.{BrokenKind}
use Rattle.st_net.specs.declared.promise.BrokenKind.TheVariants.{CutOff, Short}
use Rattle.st_net.specs.Names.{is_name}
use Rattle.st_net.specs.Groups.{Group, IsSound, IsEntityOf, IsPromiseAmong, ArePromises, name_of, find_in, no_promise, is_on_pair, is_promised, are_other_pairs}
use Rattle.st_net.specs.Demands.{demand_count, number_of_broken, broken_demand, pair_of_broken, broken_pair}
use Rattle.st_net.specs.Ranges.{RowFits}
use Rattle.st_event.specs.declared.reply.Lack.{Lack}
use Rattle.st_event.specs.declared.reply.Lack.TheVariants.{Level, PowerOff}
use Rattle.st_event.specs.declared.reply.Cause.{Cause}
use Rattle.st_event.specs.declared.reply.Cause.TheVariants.{NotControllable, Locked, Broken as broken_cause}
use Rattle.st_event.specs.declared.reply.Verdict.{Verdict}
use Rattle.st_event.specs.declared.reply.Verdict.TheVariants.{Accepted, Refused}
use Rattle.st_event.specs.declared.reply.Receipt.{Receipt}
use Rattle.st_event.specs.declared.event.Event.{Event}
use Rattle.st_event.specs.declared.reply.Reply.{Reply}
use Rattle.st_event.specs.declared.reply.Reply.TheVariants.{Queued, Full, Decided, Idle, Granted, Held, Released, NotYours, Sent, Settled, Blocked, Begun, Stale, NoSuch, Done, NotBusy, Reported, Taken, Old, Changed, Withdrawn, Kept}
use Rattle.st_token.specs.Variables.{assignment_in}
use Rattle.st_token.specs.Words.{prio_word}
use Rattle.st_token.proofs.PrintedTokens.{name_word, number_is_word, prio_is_word, assignment_is_word, literal, ranged, number_again, prio_again, assignment_again}
use Rattle.st_token.proofs.FoundNames.{named}
use Rattle.st_entry.specs.declared.keyword.ReplyWord.{ReplyWord}
use Rattle.st_entry.specs.declared.keyword.ReplyWord.TheVariants as replies
use Rattle.st_entry.specs.declared.keyword.CauseWord.{CauseWord}
use Rattle.st_entry.specs.declared.keyword.CauseWord.TheVariants as causes
use Rattle.st_entry.specs.declared.keyword.VerdictWord.{VerdictWord}
use Rattle.st_entry.specs.declared.keyword.VerdictWord.TheVariants as verdicts
use Rattle.st_entry.specs.Keywords.{reply_word, verdict_word, cause_word, kind_word, nobody_word, of_word, has_word, needs_word, need_word, side_word}
use Rattle.st_entry.specs.Words.{Words, app_word, holder_word, assignment, assignment_words, device_words}
use Rattle.st_entry.specs.Causes.{cause_words, verdict_words}
use Rattle.st_entry.specs.Entries.{reply_words}
use Rattle.st_journal.specs.EntryWords.{reply_named, verdict_named, cause_named, takes_cause_tokens, has_receipt_count, takes_reply_tokens}
use Rattle.st_journal.specs.ReplyReading.{holder_in, device_in, broken_kind_in, two_told_in, is_behind, devices_in, side_in, promise_place, cut_behind, row_of_in, level_of, off_of, locked_of, ends_in, broken_of, one_number_in, accepted_of, refused_of, receipt_of, bare_of, held_of, notyours_of, blocked_of, cause_of, may_follow, own_row_in, own_rows_in, withdrawn_of, reply_of}
use Rattle.st_world.specs.Rounds.{withdraws}
use Rattle.st_journal.specs.ReadingBack.{AreNames}
use Rattle.st_journal.proofs.PrintedEvents.{untrue}
use Rattle.st_journal.proofs.PrintedNames.{app_spelled, app_again, entity_spelled, entity_name_again}

-- numbers that ascend
abbrev pub Ascends : List ℕ → Type 0
Ascends [] = Unit {0}
Ascends (d ∷ []) = Unit {0}
Ascends (d ∷ e ∷ ds) = (d < e) × Ascends (e ∷ ds)

-- what a reply may name: entities and demands of the group, applications, and numbers of 32 bits
abbrev pub LackFits : Group → Lack → Type 0
LackFits g (Level e level needs) = IsEntityOf g e × (level < 2 ^ 32) × (needs < 2 ^ 32)
LackFits g PowerOff = Unit {0}

pub record BrokenFits (g : Group) (b : Broken) : Type 0 where
  pub demand : broken_demand g b < demand_count g
  pub need : b.need < 2 ^ 32
  pub has : b.has < 2 ^ 32
  pub some : 1 ≤ length b.side
  pub ascends : Ascends b.side
  pub within : AllByRecursion (λ d. d < length g.devices) b.side

abbrev pub CauseFits : Group → List (List ℕ) → Cause → Type 0
CauseFits g apps (NotControllable row lack) = RowFits g row × LackFits g lack
CauseFits g apps (Locked e app prio) = IsEntityOf g e × (app.0 < length apps)
CauseFits g apps (broken_cause b) = BrokenFits g b

abbrev pub VerdictFits : Group → List (List ℕ) → Verdict → Type 0
VerdictFits g apps (Accepted version) = version < 2 ^ 32
VerdictFits g apps (Refused cause) = CauseFits g apps cause

-- a receipt of the entry of this number
pub record ReceiptFits (g : Group) (apps : List (List ℕ)) (n : ℕ) (receipt : Receipt) : Type 0 where
  pub ticket : receipt.ticket < 2 ^ 32
  pub entry : receipt.entry ≡ n
  pub verdict : VerdictFits g apps receipt.verdict

abbrev pub HolderFits : List (List ℕ) → Option AppId → Type 0
HolderFits apps None = Unit {0}
HolderFits apps (Some app) = app.0 < length apps

abbrev pub ReplyFits : Group → List (List ℕ) → ℕ → Reply → Type 0
ReplyFits g apps n (Queued ticket) = ticket < 2 ^ 32
ReplyFits g apps n (Full pending) = pending < 2 ^ 32
ReplyFits g apps n (Decided receipt) = ReceiptFits g apps n receipt
ReplyFits g apps n Idle = Unit {0}
ReplyFits g apps n Granted = Unit {0}
ReplyFits g apps n (Held app) = app.0 < length apps
ReplyFits g apps n Released = Unit {0}
ReplyFits g apps n (NotYours holder) = HolderFits apps holder
ReplyFits g apps n (Sent command) = command < 2 ^ 32
ReplyFits g apps n Settled = Unit {0}
ReplyFits g apps n (Blocked row) = RowFits g row
ReplyFits g apps n Begun = Unit {0}
ReplyFits g apps n (Stale fence) = fence < 2 ^ 32
ReplyFits g apps n (NoSuch sent) = sent < 2 ^ 32
ReplyFits g apps n Done = Unit {0}
ReplyFits g apps n NotBusy = Unit {0}
ReplyFits g apps n (Reported report) = report < 2 ^ 32
ReplyFits g apps n Taken = Unit {0}
ReplyFits g apps n (Old kept) = kept < 2 ^ 32
ReplyFits g apps n Changed = Unit {0}
ReplyFits g apps n (Withdrawn version rows) = (version < 2 ^ 32) × (1 ≤ length rows) × AllByRecursion (RowFits g) rows
ReplyFits g apps n Kept = Unit {0}

-- what is withdrawn is of the event's entity, in the order of variables
abbrev pub AreOwn : Entity → List Row → List Row → Type 0
AreOwn e before [] = Unit {0}
AreOwn e before (row ∷ rows) = (may_follow e before row ≡ true) × AreOwn e (before ++ row ∷ []) rows

abbrev pub IsOfEvent : Event → Reply → Type 0
IsOfEvent event (Withdrawn version rows) = (e : Entity) × (withdraws event ≡ Some e) × AreOwn e [] rows
IsOfEvent event _ = Unit {0}

-- the word of a reply, of a verdict and of a cause, and the words behind each
abbrev pub reply_keyword : Reply → ReplyWord
reply_keyword (Queued ticket) = replies.Queued
reply_keyword (Full pending) = replies.Full
reply_keyword (Decided receipt) = replies.Receipt
reply_keyword Idle = replies.Idle
reply_keyword Granted = replies.Granted
reply_keyword (Held app) = replies.Held
reply_keyword Released = replies.Released
reply_keyword (NotYours holder) = replies.NotYours
reply_keyword (Sent command) = replies.Sent
reply_keyword Settled = replies.Settled
reply_keyword (Blocked row) = replies.Blocked
reply_keyword Begun = replies.Begun
reply_keyword (Stale fence) = replies.Stale
reply_keyword (NoSuch sent) = replies.NoSuch
reply_keyword Done = replies.Done
reply_keyword NotBusy = replies.NotBusy
reply_keyword (Reported report) = replies.Reported
reply_keyword Taken = replies.Taken
reply_keyword (Old kept) = replies.Old
reply_keyword Changed = replies.Changed
reply_keyword (Withdrawn version rows) = replies.Withdrawn
reply_keyword Kept = replies.Kept

abbrev pub reply_args : Group → List (List ℕ) → Reply → Words
reply_args g apps (Queued ticket) = decimal ticket ∷ []
reply_args g apps (Full pending) = decimal pending ∷ []
reply_args g apps (Decided receipt) = decimal receipt.ticket ∷ verdict_words g apps receipt.verdict
reply_args g apps Idle = []
reply_args g apps Granted = []
reply_args g apps (Held app) = app_word apps app ∷ []
reply_args g apps Released = []
reply_args g apps (NotYours holder) = holder_word apps holder ∷ []
reply_args g apps (Sent command) = decimal command ∷ []
reply_args g apps Settled = []
reply_args g apps (Blocked row) = assignment g row ∷ []
reply_args g apps Begun = []
reply_args g apps (Stale fence) = decimal fence ∷ []
reply_args g apps (NoSuch sent) = decimal sent ∷ []
reply_args g apps Done = []
reply_args g apps NotBusy = []
reply_args g apps (Reported report) = decimal report ∷ []
reply_args g apps Taken = []
reply_args g apps (Old kept) = decimal kept ∷ []
reply_args g apps Changed = []
reply_args g apps (Withdrawn version rows) = decimal version ∷ assignment_words g rows
reply_args g apps Kept = []

pub reply_words_are : (g : Group) (apps : List (List ℕ)) (reply : Reply) → reply_words g apps reply ≡ reply_word (reply_keyword reply) ∷ reply_args g apps reply
reply_words_are g apps (Queued ticket) = refl
reply_words_are g apps (Full pending) = refl
reply_words_are g apps (Decided receipt) = refl
reply_words_are g apps Idle = refl
reply_words_are g apps Granted = refl
reply_words_are g apps (Held app) = refl
reply_words_are g apps Released = refl
reply_words_are g apps (NotYours holder) = refl
reply_words_are g apps (Sent command) = refl
reply_words_are g apps Settled = refl
reply_words_are g apps (Blocked row) = refl
reply_words_are g apps Begun = refl
reply_words_are g apps (Stale fence) = refl
reply_words_are g apps (NoSuch sent) = refl
reply_words_are g apps Done = refl
reply_words_are g apps NotBusy = refl
reply_words_are g apps (Reported report) = refl
reply_words_are g apps Taken = refl
reply_words_are g apps (Old kept) = refl
reply_words_are g apps Changed = refl
reply_words_are g apps (Withdrawn version rows) = refl
reply_words_are g apps Kept = refl

pub reply_named_again : (word : ReplyWord) → reply_named (reply_word word) ≡ Some word
unfolding reply_named
reply_named_again replies.Queued = refl
reply_named_again replies.Full = refl
reply_named_again replies.Receipt = refl
reply_named_again replies.Idle = refl
reply_named_again replies.Granted = refl
reply_named_again replies.Held = refl
reply_named_again replies.Released = refl
reply_named_again replies.NotYours = refl
reply_named_again replies.Sent = refl
reply_named_again replies.Settled = refl
reply_named_again replies.Blocked = refl
reply_named_again replies.Begun = refl
reply_named_again replies.Stale = refl
reply_named_again replies.NoSuch = refl
reply_named_again replies.Done = refl
reply_named_again replies.NotBusy = refl
reply_named_again replies.Reported = refl
reply_named_again replies.Taken = refl
reply_named_again replies.Old = refl
reply_named_again replies.Changed = refl
reply_named_again replies.Withdrawn = refl
reply_named_again replies.Kept = refl

reply_is_word : (word : ReplyWord) → IsWord (reply_word word)
reply_is_word replies.Queued = literal (codes "queued") refl refl
reply_is_word replies.Full = literal (codes "full") refl refl
reply_is_word replies.Receipt = literal (codes "receipt") refl refl
reply_is_word replies.Idle = literal (codes "idle") refl refl
reply_is_word replies.Granted = literal (codes "granted") refl refl
reply_is_word replies.Held = literal (codes "held") refl refl
reply_is_word replies.Released = literal (codes "released") refl refl
reply_is_word replies.NotYours = literal (codes "notyours") refl refl
reply_is_word replies.Sent = literal (codes "sent") refl refl
reply_is_word replies.Settled = literal (codes "settled") refl refl
reply_is_word replies.Blocked = literal (codes "blocked") refl refl
reply_is_word replies.Begun = literal (codes "begun") refl refl
reply_is_word replies.Stale = literal (codes "stale") refl refl
reply_is_word replies.NoSuch = literal (codes "nosuch") refl refl
reply_is_word replies.Done = literal (codes "done") refl refl
reply_is_word replies.NotBusy = literal (codes "notbusy") refl refl
reply_is_word replies.Reported = literal (codes "reported") refl refl
reply_is_word replies.Taken = literal (codes "taken") refl refl
reply_is_word replies.Old = literal (codes "old") refl refl
reply_is_word replies.Changed = literal (codes "changed") refl refl
reply_is_word replies.Withdrawn = literal (codes "withdrawn") refl refl
reply_is_word replies.Kept = literal (codes "kept") refl refl

verdict_named_again : (word : VerdictWord) → verdict_named (verdict_word word) ≡ Some word
unfolding verdict_named
verdict_named_again verdicts.Accepted = refl
verdict_named_again verdicts.Refused = refl

cause_named_again : (word : CauseWord) → cause_named (cause_word word) ≡ Some word
unfolding cause_named
cause_named_again causes.Level = refl
cause_named_again causes.Off = refl
cause_named_again causes.Locked = refl
cause_named_again causes.Broken = refl

kind_is_word : (kind : BrokenKind) → IsWord (kind_word kind)
kind_is_word CutOff = literal (codes "cutoff") refl refl
kind_is_word Short = literal (codes "short") refl refl

kind_again : (kind : BrokenKind) → broken_kind_in (kind_word kind) ≡ Ok kind
kind_again CutOff = refl
kind_again Short = refl

-- the last of some numbers tells whether another ascends from them
behind_last : (front : List ℕ) (x d : ℕ) → x < d → is_behind (front ++ x ∷ []) d ≡ true
behind_last front x d low =
    let long : length (front ++ x ∷ []) - 1 ≡ length front = omega (arith, length-append front (x ∷ [])) in
    rw (long, get_or-append_seam front x [] 0, less x d low) (or_true (length (front ++ x ∷ []) == 0))
  where
    or_true : (b : Bool) → (b || true) ≡ true
    or_true true = refl
    or_true false = refl

abbrev IsBehindFirst : List ℕ → List ℕ → Type 0
IsBehindFirst front [] = Unit {0}
IsBehindFirst front (d ∷ ds) = is_behind front d ≡ true

next_behind : (front : List ℕ) (d : ℕ) (ds : List ℕ) → Ascends (d ∷ ds) → IsBehindFirst (front ++ d ∷ []) ds
next_behind front d [] ascends = tt
next_behind front d (e ∷ ds) ascends = behind_last front d e ascends.0

ascends_on : (d : ℕ) (ds : List ℕ) → Ascends (d ∷ ds) → Ascends ds
ascends_on d [] ascends = tt
ascends_on d (e ∷ ds) ascends = ascends.1

-- the promise of a number is the first with its ends in their order
abbrev promise_at : List Promise → ℕ → Promise
promise_at ps i = slice_index_or ps i no_promise

other_last : (a b : ℕ) (before : List Promise) (p : Promise) → is_promised a b (before ++ p ∷ []) ≡ false → (is_promised a b before ≡ false) × (is_on_pair a b p ≡ false)
other_last a b [] p e = (refl, (neither (is_on_pair a b p) false e).0)
other_last a b (q ∷ before) p e =
    let parts = neither (is_on_pair a b q) (is_promised a b (before ++ p ∷ [])) e in
    let rest = other_last a b before p parts.1 in
    (rw (parts.0, rest.0) refl, rest.1)

new_pair : (before ps : List Promise) (i : ℕ) → are_other_pairs before ps ≡ true → i < length ps → is_promised (promise_at ps i).a (promise_at ps i).b before ≡ false
new_pair before [] i apart low = absurd (omega arith)
new_pair before (p ∷ ps) zero apart low = turned (is_promised p.a p.b before) (both (not (is_promised p.a p.b before)) (are_other_pairs (before ++ p ∷ []) ps) apart).0
new_pair before (p ∷ ps) (suc i) apart low =
    let rest = (both (not (is_promised p.a p.b before)) (are_other_pairs (before ++ p ∷ []) ps) apart).1 in
    (other_last (promise_at ps i).a (promise_at ps i).b before p (new_pair (before ++ p ∷ []) ps i rest (omega arith))).0

placed : (before ps : List Promise) (i : ℕ) → are_other_pairs before ps ≡ true → i < length ps → promise_place (promise_at ps i).a (promise_at ps i).b ps ≡ Some i
placed before [] i apart low = absurd (omega arith)
placed before (p ∷ ps) zero apart low = rw (equal_self p.a, equal_self p.b) refl
placed before (p ∷ ps) (suc i) apart low =
    let a = (promise_at ps i).a in
    let b = (promise_at ps i).b in
    let rest = (both (not (is_promised p.a p.b before)) (are_other_pairs (before ++ p ∷ []) ps) apart).1 in
    let other : is_on_pair a b p ≡ false = (other_last a b before p (new_pair (before ++ p ∷ []) ps i rest (omega arith))).1 in
    let apart_from : (p.a == a && p.b == b) ≡ false = (neither (p.a == a && p.b == b) (p.a == b && p.b == a) other).0 in
    rw (apart_from, placed (before ++ p ∷ []) ps i rest (omega arith)) refl

promise_among : (devices : List DeviceOpening) (ps : List Promise) (i : ℕ) → ArePromises devices ps → i < length ps → IsPromiseAmong devices (promise_at ps i)
promise_among devices [] i all low = absurd (omega arith)
promise_among devices (p ∷ ps) zero all low = all.0
promise_among devices (p ∷ ps) (suc i) all low = promise_among devices ps i all.1 (omega arith)

-- tokens that are cut
cut_three : (a b c : List ℕ) (behind : Words) → cut_behind 3 (a ∷ b ∷ c ∷ behind) ≡ Ok (a ∷ b ∷ c ∷ [], behind)
unfolding cut_behind
cut_three a b c behind = refl

cut_four : (a b c d : List ℕ) (behind : Words) → cut_behind 4 (a ∷ b ∷ c ∷ d ∷ behind) ≡ Ok (a ∷ b ∷ c ∷ d ∷ [], behind)
unfolding cut_behind
cut_four a b c d behind = refl

-- one number
one_again : (n : ℕ) → n < 2 ^ 32 → one_number_in (decimal n ∷ []) ≡ Ok n
unfolding one_number_in
one_again n less = number_again n less

module _ (g : Group) (apps : List (List ℕ)) (sound : IsSound g) (are : AreNames apps) where
  device_again : (d : ℕ) → d < length g.devices → device_in g (name_of g (Device d)) ≡ Ok d
  unfolding device_in
  device_again d low = rw (entity_name_again g (Device d) sound low) refl

  devices_again : (front ds : List ℕ) → IsBehindFirst front ds → Ascends ds → AllByRecursion (λ d. d < length g.devices) ds → devices_in g front (device_words g ds) ≡ Ok (front ++ ds)
  unfolding devices_in
  devices_again front [] behind ascends within = ap Ok (sym (append-nil front))
  devices_again front (d ∷ ds) behind ascends within =
      rw (device_again d within.0, behind) (devices_again (front ++ d ∷ []) ds (next_behind front d ds ascends) (ascends_on d ds ascends) within.1 ∙ ap Ok (append_assoc front (d ∷ []) ds))

  none_before : (ds : List ℕ) → IsBehindFirst [] ds
  none_before [] = tt
  none_before (d ∷ ds) = refl

  side_again : (ds : List ℕ) → Ascends ds → AllByRecursion (λ d. d < length g.devices) ds → side_in g (side_word ∷ device_words g ds) ≡ Ok ds
  unfolding side_in
  side_again ds ascends within = devices_again [] ds (none_before ds) ascends within

  row_again : (row : Row) → RowFits g row → assignment_in (find_in g) (assignment g row) ≡ Ok row
  row_again row fits =
      let known = named g row.entity sound fits.entity in
      assignment_again (find_in g) (name_of g row.entity) row.entity row.var row.value known.spelled known.found fits.range

  told_again : (first second : List ℕ) (a b : ℕ) → bytes_eq first first ≡ true → bytes_eq second second ≡ true → a < 2 ^ 32 → b < 2 ^ 32 → two_told_in first second (first ∷ decimal a ∷ second ∷ decimal b ∷ []) ≡ Ok (a, b)
  unfolding two_told_in
  told_again first second a b one two few more = rw (one, number_again a few, two, number_again b more) refl

  row_of_again : (row : Row) (e : Entity) → RowFits g row → IsEntityOf g e → row_of_in g (assignment g row ∷ of_word ∷ name_of g e ∷ []) ≡ Ok (row, e)
  unfolding row_of_in
  row_of_again row e fits within = rw (row_again row fits, entity_name_again g e sound within) refl

  level_again : (row : Row) (e : Entity) (level needs : ℕ) → RowFits g row → LackFits g (Level e level needs)
      → level_of g (assignment g row ∷ of_word ∷ name_of g e ∷ has_word ∷ decimal level ∷ needs_word ∷ decimal needs ∷ []) ≡ Ok (NotControllable row (Level e level needs))
  unfolding level_of
  level_again row e level needs fits lack =
      rw (cut_three (assignment g row) of_word (name_of g e) (has_word ∷ decimal level ∷ needs_word ∷ decimal needs ∷ []), row_of_again row e fits lack.0, told_again has_word needs_word level needs refl refl lack.1 lack.2) refl

  off_again : (row : Row) → RowFits g row → off_of g (assignment g row ∷ []) ≡ Ok (NotControllable row PowerOff)
  unfolding off_of
  off_again row fits = rw (row_again row fits) refl

  locked_again : (e : Entity) (app : AppId) (prio : Prio) → IsEntityOf g e → app.0 < length apps → locked_of g apps (name_of g e ∷ app_word apps app ∷ prio_word prio ∷ []) ≡ Ok (Locked e app prio)
  unfolding locked_of
  locked_again e app prio within low = rw (entity_name_again g e sound within, app_again apps app are low, prio_again prio) refl

  -- the devices between which a demand breaks are of the group, and by them it is found
  pair_among : (of : BrokenOf) → number_of_broken g of < demand_count g → ((pair_of_broken g of).0 < length g.devices) × ((pair_of_broken g of).1 < length g.devices)
  pair_among (of_promise i) low = let among = promise_among g.devices g.promises i sound.promises low in (among.a_in, among.b_in)

  pair_placed : (of : BrokenOf) → number_of_broken g of < demand_count g → promise_place (pair_of_broken g of).0 (pair_of_broken g of).1 g.promises ≡ Some (number_of_broken g of)
  pair_placed (of_promise i) low = placed [] g.promises i sound.pairs low

  of_number : (of : BrokenOf) → of_promise (number_of_broken g of) ≡ of
  of_number (of_promise i) = refl

  ends_again : (b : Broken) → BrokenFits g b → ends_in g (name_of g (Device (broken_pair g b).0) ∷ name_of g (Device (broken_pair g b).1) ∷ kind_word b.kind ∷ []) ≡ Ok ((broken_pair g b).0, (broken_pair g b).1, b.kind)
  unfolding ends_in
  ends_again b fits =
      let among = pair_among b.of fits.demand in
      rw (device_again (broken_pair g b).0 among.0, device_again (broken_pair g b).1 among.1, kind_again b.kind) refl

  broken_again : (b : Broken) → BrokenFits g b
      → broken_of g (name_of g (Device (broken_pair g b).0) ∷ name_of g (Device (broken_pair g b).1) ∷ kind_word b.kind ∷ need_word ∷ decimal b.need ∷ has_word ∷ decimal b.has ∷ side_word ∷ device_words g b.side) ≡ Ok (broken_cause b)
  unfolding broken_of
  broken_again b fits =
      rw (
        cut_three (name_of g (Device (broken_pair g b).0)) (name_of g (Device (broken_pair g b).1)) (kind_word b.kind) (need_word ∷ decimal b.need ∷ has_word ∷ decimal b.has ∷ side_word ∷ device_words g b.side),
        ends_again b fits,
        cut_four need_word (decimal b.need) has_word (decimal b.has) (side_word ∷ device_words g b.side),
        told_again need_word has_word b.need b.has refl refl fits.need fits.has,
        side_again b.side fits.ascends fits.within,
        pair_placed b.of fits.demand,
        of_number b.of,
      ) refl

-- what a refusal names: its word is one of a cause's, behind which as many words stand as it takes, and these say the cause
pub record SaysCause (g : Group) (apps : List (List ℕ)) (cause : Cause) : Type 0 where
  pub word : CauseWord
  pub args : Words
  pub words : cause_words g apps cause ≡ cause_word word ∷ args
  pub counted : takes_cause_tokens word (length args) ≡ true
  pub again : cause_of g apps word args ≡ Ok cause
  pub first : IsWord (cause_word word)
  pub rest : AllByRecursion IsWord args

module _ (g : Group) (apps : List (List ℕ)) (sound : IsSound g) (are : AreNames apps) where
  name_is_word : (e : Entity) → IsEntityOf g e → IsWord (name_of g e)
  name_is_word e within = name_word (name_of g e) (entity_spelled g e sound within)

  app_is_word : (app : AppId) → app.0 < length apps → IsWord (app_word apps app)
  app_is_word app low = name_word (app_word apps app) (app_spelled apps app are low)

  row_is_word : (row : Row) → RowFits g row → IsWord (assignment g row)
  row_is_word row fits = assignment_is_word (name_of g row.entity) row.var row.value (entity_spelled g row.entity sound fits.entity) (ranged row.entity row.var row.value fits.range).1

  devices_are_words : (ds : List ℕ) → AllByRecursion (λ d. d < length g.devices) ds → AllByRecursion IsWord (device_words g ds)
  devices_are_words [] within = tt
  devices_are_words (d ∷ ds) within = (name_is_word (Device d) within.0, devices_are_words ds within.1)

  says_lack : (row : Row) (lack : Lack) → RowFits g row → LackFits g lack → SaysCause g apps (NotControllable row lack)
  says_lack row (Level e level needs) fits more = record {
    word = causes.Level;
    args = assignment g row ∷ of_word ∷ name_of g e ∷ has_word ∷ decimal level ∷ needs_word ∷ decimal needs ∷ [];
    words = refl;
    counted = refl;
    again = level_again g apps sound are row e level needs fits more;
    first = literal (codes "level") refl refl;
    rest = (row_is_word row fits, (literal (codes "of") refl refl, (name_is_word e more.0, (literal (codes "has") refl refl, (number_is_word level more.1, (literal (codes "needs") refl refl, (number_is_word needs more.2, tt)))))));
  }
  says_lack row PowerOff fits more = record {
    word = causes.Off;
    args = assignment g row ∷ [];
    words = refl;
    counted = refl;
    again = off_again g apps sound are row fits;
    first = literal (codes "off") refl refl;
    rest = (row_is_word row fits, tt);
  }

  says_broken : (b : Broken) → BrokenFits g b → SaysCause g apps (broken_cause b)
  says_broken b fits =
      let among = pair_among g apps sound are b.of fits.demand in
      record {
        word = causes.Broken;
        args = name_of g (Device (broken_pair g b).0) ∷ name_of g (Device (broken_pair g b).1) ∷ kind_word b.kind ∷ need_word ∷ decimal b.need ∷ has_word ∷ decimal b.has ∷ side_word ∷ device_words g b.side;
        words = refl;
        counted = at_most 9 (length (name_of g (Device (broken_pair g b).0) ∷ name_of g (Device (broken_pair g b).1) ∷ kind_word b.kind ∷ need_word ∷ decimal b.need ∷ has_word ∷ decimal b.has ∷ side_word ∷ device_words g b.side))
            (omega (arith, length-map b.side (λ d. name_of g (Device d)), fits.some));
        again = broken_again g apps sound are b fits;
        first = literal (codes "broken") refl refl;
        rest = (
          name_is_word (Device (broken_pair g b).0) among.0,
          (
            name_is_word (Device (broken_pair g b).1) among.1,
            (
              kind_is_word b.kind,
              (literal (codes "need") refl refl, (number_is_word b.need fits.need, (literal (codes "has") refl refl, (number_is_word b.has fits.has, (literal (codes "side") refl refl, devices_are_words b.side fits.within))))),
            ),
          ),
        );
      }

  says_cause : (cause : Cause) → CauseFits g apps cause → SaysCause g apps cause
  says_cause (NotControllable row lack) fits = says_lack row lack fits.0 fits.1
  says_cause (Locked e app prio) fits = record {
    word = causes.Locked;
    args = name_of g e ∷ app_word apps app ∷ prio_word prio ∷ [];
    words = refl;
    counted = refl;
    again = locked_again g apps sound are e app prio fits.0 fits.1;
    first = literal (codes "locked") refl refl;
    rest = (name_is_word e fits.0, (app_is_word app fits.1, (prio_is_word prio, tt)));
  }
  says_cause (broken_cause b) fits = says_broken b fits

  -- a receipt
  refused_again : (cause : Cause) (says : SaysCause g apps cause) → refused_of g apps (cause_word says.word ∷ says.args) ≡ Ok (Refused cause)
  unfolding refused_of
  refused_again cause says = rw (cause_named_again says.word, says.again) refl

  accepted_again : (version : ℕ) → version < 2 ^ 32 → accepted_of (decimal version ∷ []) ≡ Ok (Accepted version)
  unfolding accepted_of
  accepted_again version less = rw (one_again version less) refl

  receipt_by : (n ticket : ℕ) (verdict : Verdict) → ticket < 2 ^ 32 → VerdictFits g apps verdict → receipt_of g apps n (decimal ticket ∷ verdict_words g apps verdict) ≡ Ok (Decided (record { ticket = ticket; entry = n; verdict = verdict }))
  unfolding receipt_of
  receipt_by n ticket (Accepted version) less fits = rw (number_again ticket less, verdict_named_again verdicts.Accepted, accepted_again version fits) refl
  receipt_by n ticket (Refused cause) less fits = let says = says_cause cause fits in rw (says.words, number_again ticket less, verdict_named_again verdicts.Refused, refused_again cause says) refl

  receipt_again : (n : ℕ) (receipt : Receipt) → ReceiptFits g apps n receipt → receipt_of g apps n (decimal receipt.ticket ∷ verdict_words g apps receipt.verdict) ≡ Ok (Decided receipt)
  receipt_again n receipt fits = rw (← fits.entry) (receipt_by receipt.entry receipt.ticket receipt.verdict fits.ticket fits.verdict)

  receipt_counted : (n : ℕ) (receipt : Receipt) → ReceiptFits g apps n receipt → has_receipt_count (decimal receipt.ticket ∷ verdict_words g apps receipt.verdict) ≡ true
  receipt_counted n receipt fits = by receipt.verdict fits.verdict
    where
      by : (verdict : Verdict) → VerdictFits g apps verdict → has_receipt_count (decimal receipt.ticket ∷ verdict_words g apps verdict) ≡ true
      by (Accepted version) fit = rw (verdict_named_again verdicts.Accepted) refl
      by (Refused cause) fit = let says = says_cause cause fit in rw (says.words, verdict_named_again verdicts.Refused, cause_named_again says.word, says.counted) refl

  verdict_is_words : (verdict : Verdict) → VerdictFits g apps verdict → AllByRecursion IsWord (verdict_words g apps verdict)
  verdict_is_words (Accepted version) fits = (literal (codes "accepted") refl refl, (number_is_word version fits, tt))
  verdict_is_words (Refused cause) fits = let says = says_cause cause fits in (literal (codes "refused") refl refl, subst (AllByRecursion IsWord) (sym says.words) (says.first, says.rest))

  -- the other replies
  bare_again : (reply : Reply) → bare_of reply [] ≡ Ok reply
  unfolding bare_of
  bare_again reply = refl

  held_again : (app : AppId) → app.0 < length apps → held_of apps (app_word apps app ∷ []) ≡ Ok (Held app)
  unfolding held_of
  held_again app low = rw (app_again apps app are low) refl

  nobody_is_no_name : (name : List ℕ) → is_name name ≡ true → bytes_eq name nobody_word ≡ false
  nobody_is_no_name name spelled = untrue (bytes_eq name nobody_word) (λ e. let same : is_name nobody_word ≡ true = sym (ap is_name ((bytes_eq-Decides name nobody_word).0 e)) ∙ spelled in absurd cc)

  holder_again : (holder : Option AppId) → HolderFits apps holder → holder_in apps (holder_word apps holder) ≡ Ok holder
  unfolding holder_in
  holder_again None fits = refl
  holder_again (Some app) fits = rw (nobody_is_no_name (app_word apps app) (app_spelled apps app are fits), app_again apps app are fits) refl

  notyours_again : (holder : Option AppId) → HolderFits apps holder → notyours_of apps (holder_word apps holder ∷ []) ≡ Ok (NotYours holder)
  unfolding notyours_of
  notyours_again holder fits = rw (holder_again holder fits) refl

  holder_is_word : (holder : Option AppId) → HolderFits apps holder → IsWord (holder_word apps holder)
  holder_is_word None fits = literal (codes "-") refl refl
  holder_is_word (Some app) fits = app_is_word app fits

  blocked_again : (row : Row) → RowFits g row → blocked_of g (assignment g row ∷ []) ≡ Ok (Blocked row)
  unfolding blocked_of
  blocked_again row fits = rw (row_again g apps sound are row fits) refl

  own_again : (e : Entity) (before rows : List Row) → AllByRecursion (RowFits g) rows → AreOwn e before rows → own_rows_in g e before (assignment_words g rows) ≡ Ok (before ++ rows)
  unfolding own_rows_in own_row_in
  own_again e before [] fits own = ap Ok (sym (append-nil before))
  own_again e before (row ∷ rows) fits own = rw (row_again g apps sound are row fits.0, own.0) (own_again e (before ++ row ∷ []) rows fits.1 own.1 ∙ ap Ok (append_assoc before (row ∷ []) rows))

  withdrawn_again : (event : Event) (version : ℕ) (rows : List Row) (e : Entity) → version < 2 ^ 32 → 1 ≤ length rows → AllByRecursion (RowFits g) rows → withdraws event ≡ Some e → AreOwn e [] rows
      → withdrawn_of g event (decimal version ∷ assignment_words g rows) ≡ Ok (Withdrawn version rows)
  unfolding withdrawn_of
  withdrawn_again event version [] e less some fits is own = absurd (omega (arith, some))
  withdrawn_again event version (row ∷ rows) e less some fits is own = rw (number_again version less, is, own_again e [] (row ∷ rows) fits own) refl

  -- the words behind the word of a reply say the reply, to an event that it may answer
  pub reply_again : (n : ℕ) (event : Event) (reply : Reply) → ReplyFits g apps n reply → IsOfEvent event reply → reply_of g apps n event (reply_keyword reply) (reply_args g apps reply) ≡ Ok reply
  reply_again n event (Queued ticket) fits own = rw (one_again ticket fits) refl
  reply_again n event (Full pending) fits own = rw (one_again pending fits) refl
  reply_again n event (Decided receipt) fits own = receipt_again n receipt fits
  reply_again n event Idle fits own = bare_again Idle
  reply_again n event Granted fits own = bare_again Granted
  reply_again n event (Held app) fits own = held_again app fits
  reply_again n event Released fits own = bare_again Released
  reply_again n event (NotYours holder) fits own = notyours_again holder fits
  reply_again n event (Sent command) fits own = rw (one_again command fits) refl
  reply_again n event Settled fits own = bare_again Settled
  reply_again n event (Blocked row) fits own = blocked_again row fits
  reply_again n event Begun fits own = bare_again Begun
  reply_again n event (Stale fence) fits own = rw (one_again fence fits) refl
  reply_again n event (NoSuch sent) fits own = rw (one_again sent fits) refl
  reply_again n event Done fits own = bare_again Done
  reply_again n event NotBusy fits own = bare_again NotBusy
  reply_again n event (Reported report) fits own = rw (one_again report fits) refl
  reply_again n event Taken fits own = bare_again Taken
  reply_again n event (Old kept) fits own = rw (one_again kept fits) refl
  reply_again n event Changed fits own = bare_again Changed
  reply_again n event (Withdrawn version rows) fits own = withdrawn_again event version rows own.0 fits.0 fits.1 fits.2 own.1 own.2
  reply_again n event Kept fits own = bare_again Kept

  -- they are as many as the reply takes
  pub reply_counted : (n : ℕ) (reply : Reply) → ReplyFits g apps n reply → takes_reply_tokens (reply_keyword reply) (reply_args g apps reply) ≡ true
  reply_counted n (Queued ticket) fits = refl
  reply_counted n (Full pending) fits = refl
  reply_counted n (Decided receipt) fits = receipt_counted n receipt fits
  reply_counted n Idle fits = refl
  reply_counted n Granted fits = refl
  reply_counted n (Held app) fits = refl
  reply_counted n Released fits = refl
  reply_counted n (NotYours holder) fits = refl
  reply_counted n (Sent command) fits = refl
  reply_counted n Settled fits = refl
  reply_counted n (Blocked row) fits = refl
  reply_counted n Begun fits = refl
  reply_counted n (Stale fence) fits = refl
  reply_counted n (NoSuch sent) fits = refl
  reply_counted n Done fits = refl
  reply_counted n NotBusy fits = refl
  reply_counted n (Reported report) fits = refl
  reply_counted n Taken fits = refl
  reply_counted n (Old kept) fits = refl
  reply_counted n Changed fits = refl
  reply_counted n (Withdrawn version []) fits = absurd (omega (arith, fits.1))
  reply_counted n (Withdrawn version (row ∷ rows)) fits = at_most 2 (length (decimal version ∷ assignment g row ∷ assignment_words g rows)) (omega arith)
  reply_counted n Kept fits = refl

  rows_are_words : (rows : List Row) → AllByRecursion (RowFits g) rows → AllByRecursion IsWord (assignment_words g rows)
  rows_are_words [] fits = tt
  rows_are_words (row ∷ rows) fits = (row_is_word row fits.0, rows_are_words rows fits.1)

  args_are_words : (n : ℕ) (reply : Reply) → ReplyFits g apps n reply → AllByRecursion IsWord (reply_args g apps reply)
  args_are_words n (Queued ticket) fits = (number_is_word ticket fits, tt)
  args_are_words n (Full pending) fits = (number_is_word pending fits, tt)
  args_are_words n (Decided receipt) fits = (number_is_word receipt.ticket fits.ticket, verdict_is_words receipt.verdict fits.verdict)
  args_are_words n Idle fits = tt
  args_are_words n Granted fits = tt
  args_are_words n (Held app) fits = (app_is_word app fits, tt)
  args_are_words n Released fits = tt
  args_are_words n (NotYours holder) fits = (holder_is_word holder fits, tt)
  args_are_words n (Sent command) fits = (number_is_word command fits, tt)
  args_are_words n Settled fits = tt
  args_are_words n (Blocked row) fits = (row_is_word row fits, tt)
  args_are_words n Begun fits = tt
  args_are_words n (Stale fence) fits = (number_is_word fence fits, tt)
  args_are_words n (NoSuch sent) fits = (number_is_word sent fits, tt)
  args_are_words n Done fits = tt
  args_are_words n NotBusy fits = tt
  args_are_words n (Reported report) fits = (number_is_word report fits, tt)
  args_are_words n Taken fits = tt
  args_are_words n (Old kept) fits = (number_is_word kept fits, tt)
  args_are_words n Changed fits = tt
  args_are_words n (Withdrawn version rows) fits = (number_is_word version fits.0, rows_are_words rows fits.2)
  args_are_words n Kept fits = tt

  pub reply_is_words : (n : ℕ) (reply : Reply) → ReplyFits g apps n reply → AllByRecursion IsWord (reply_word (reply_keyword reply) ∷ reply_args g apps reply)
  reply_is_words n reply fits = (reply_is_word (reply_keyword reply), args_are_words n reply fits)
