-- The words of an entry are plain: each byte of them stands as it is in a text of JSON, and in a page. The names of a sound group and of
-- applications are, what is not there has no bytes, and the rest is digits and words that are written out.
use Rattle.std.proofs.Common.{◌≡◌, ◌∙◌, ℕ, zero, suc, ◌<◌, ◌%◌, ◌/◌, List, [], ◌∷◌, ◌++◌, Bool, true, false, cond, drop, length, refl, arith}
use Rattle.std.specs.Prelude.{◌&&◌, ◌==◌, nat_le, decimal, slice_index_or, Option, Some, None}
use Rattle.std.specs.Fmt.{digits, digits_onto, digit_glyph}
use Rattle.std.specs.Str.{IsAscii, IsUtf8}
use Rattle.std.proofs.lemmas.Bool.Decides.{nat_tests}
use Rattle.std.proofs.lemmas.List.Folds.{list_all-append}
use Rattle.std.proofs.lemmas.Str.{IsUtf8-from_ascii}
use Rattle.st_text.specs.Words.{spaced}
use Rattle.st_net.specs.declared.entity.Vals.{Vals}
use Rattle.st_net.proofs.Tests.{both}
use Rattle.st_net.specs.declared.entity.AppId.{AppId}
use Rattle.st_net.specs.declared.entity.Entity.{Entity}
use Rattle.st_net.specs.declared.entity.Entity.TheVariants.{Device, Link}
use Rattle.st_net.specs.declared.entity.Prio.{Prio}
use Rattle.st_net.specs.declared.entity.Prio.TheVariants.{Low, High}
use Rattle.st_net.specs.declared.entity.Row.{Row}
use Rattle.st_net.specs.declared.entity.Var.{Var}
use Rattle.st_net.specs.declared.entity.Var.TheVariants.{Power, Firmware, Config, Routing, LinkPower, Iface}
use Rattle.st_net.specs.declared.promise.BrokenKind.{BrokenKind}
use Rattle.st_net.specs.declared.promise.BrokenKind.TheVariants.{CutOff, Short}
use Rattle.st_net.specs.Names.{is_name_byte, are_name_bytes, begins_with_letter, is_name}
use Rattle.st_net.specs.Groups.{Group, IsSound, are_names, name_of}
use Rattle.st_net.specs.Demands.{broken_pair}
use Rattle.st_event.specs.declared.event.Event.{Event}
use Rattle.st_event.specs.declared.event.Event.TheVariants.{Submit, Check, Lock, Unlock, Send, Deliver, Finish, Report, Hear, Fail, Withdraw}
use Rattle.st_event.specs.declared.reply.Lack.{Lack}
use Rattle.st_event.specs.declared.reply.Lack.TheVariants.{Level, PowerOff}
use Rattle.st_event.specs.declared.reply.Cause.{Cause}
use Rattle.st_event.specs.declared.reply.Cause.TheVariants.{NotControllable, Locked, Broken as broken_cause}
use Rattle.st_event.specs.declared.reply.Reply.{Reply}
use Rattle.st_event.specs.declared.reply.Reply.TheVariants.{Queued, Full, Decided, Idle, Granted, Held, Released, NotYours, Sent, Settled, Blocked, Begun, Stale, NoSuch, Done, NotBusy, Reported, Taken, Old, Changed, Withdrawn, Kept}
use Rattle.st_event.specs.declared.reply.Verdict.{Verdict}
use Rattle.st_event.specs.declared.reply.Verdict.TheVariants.{Accepted, Refused}
use Rattle.st_token.specs.Words.{prio_word, value_word, var_word}
use Rattle.st_entry.specs.Causes.{lack_words, cause_words, verdict_words}
use Rattle.st_entry.specs.Entries.{event_words, reply_words}
use Rattle.st_entry.specs.Keywords.{kind_word, reply_mark}
use Rattle.st_entry.specs.Words.{Words, app_word, holder_word, assignment, assignment_words, device_words, value_words}
use Rattle.st_entry.specs.Plain.{is_plain_byte, is_plain, are_plain}

pub join : (xs ys : List ℕ) → is_plain xs ≡ true → is_plain ys ≡ true → is_plain (xs ++ ys) ≡ true
join xs ys first second = list_all-append is_plain_byte xs ys ∙ rw (first, second) refl

pub join_words : (xs ys : Words) → are_plain xs ≡ true → are_plain ys ≡ true → are_plain (xs ++ ys) ≡ true
join_words xs ys first second = list_all-append is_plain xs ys ∙ rw (first, second) refl

-- plain words, each behind a space
pub spaced_plain : (words : Words) → are_plain words ≡ true → is_plain (spaced words) ≡ true
spaced_plain [] plain = refl
spaced_plain (w ∷ words) plain = let parts = both (is_plain w) (are_plain words) plain in join w (spaced words) parts.0 (spaced_plain words parts.1)

-- numbers
digit_plain : (d : ℕ) → d < 10 → is_plain_byte (digit_glyph false d) ≡ true
digit_plain d small = grind (arith, nat_tests)

last_digit_plain : (n : ℕ) → is_plain_byte (digit_glyph false (n % 10)) ≡ true
last_digit_plain n = digit_plain (n % 10) (omega arith)

either_plain : (b : Bool) (xs ys : List ℕ) → is_plain xs ≡ true → is_plain ys ≡ true → is_plain (cond b xs ys) ≡ true
either_plain true xs ys first second = first
either_plain false xs ys first second = second

digits_plain : (k n : ℕ) (acc : List ℕ) → is_plain acc ≡ true → is_plain (digits_onto k 10 false n acc) ≡ true
digits_plain zero n acc plain = plain
digits_plain (suc k) n acc plain =
    let more : is_plain (digit_glyph false (n % 10) ∷ acc) ≡ true = rw (last_digit_plain n) plain in
    either_plain (n / 10 == 0) (digit_glyph false (n % 10) ∷ acc) (digits_onto k 10 false (n / 10) (digit_glyph false (n % 10) ∷ acc)) more (digits_plain k (n / 10) (digit_glyph false (n % 10) ∷ acc) more)

pub number_plain : (n : ℕ) → is_plain (decimal n) ≡ true
unfolding digits
number_plain n = digits_plain 64 n [] refl

-- names
name_byte_plain : (b : ℕ) → is_name_byte b ≡ true → is_plain_byte b ≡ true
name_byte_plain b is = grind (arith, nat_tests)

bytes_plain : (bytes : List ℕ) → are_name_bytes bytes ≡ true → is_plain bytes ≡ true
bytes_plain [] are = refl
bytes_plain (b ∷ bs) are = let parts = both (is_name_byte b) (are_name_bytes bs) are in rw (name_byte_plain b parts.0) (bytes_plain bs parts.1)

pub name_plain : (name : List ℕ) → is_name name ≡ true → is_plain name ≡ true
name_plain name is = bytes_plain name (both (begins_with_letter name && nat_le (length name) 32) (are_name_bytes name) is).1

-- a name by its place, or no bytes
pub placed_plain : (names : List (List ℕ)) (i : ℕ) → are_names names ≡ true → is_plain (slice_index_or names i []) ≡ true
placed_plain [] i are = refl
placed_plain (name ∷ names) zero are = name_plain name (both (is_name name) (are_names names) are).0
placed_plain (name ∷ names) (suc i) are = placed_plain names i (both (is_name name) (are_names names) are).1

names_of_both : (xs ys : List (List ℕ)) → are_names (xs ++ ys) ≡ true → (are_names xs ≡ true) × (are_names ys ≡ true)
names_of_both [] ys are = (refl, are)
names_of_both (x ∷ xs) ys are =
    let parts = both (is_name x) (are_names (xs ++ ys)) are in
    let rest = names_of_both xs ys parts.1 in
    (rw (parts.0, rest.0) refl, rest.1)

pub entity_plain : (g : Group) (e : Entity) → IsSound g → is_plain (name_of g e) ≡ true
entity_plain g (Device i) sound = placed_plain g.device_names i (names_of_both g.device_names g.link_names sound.names).0
entity_plain g (Link i) sound = placed_plain g.link_names i (names_of_both g.device_names g.link_names sound.names).1

pub app_plain : (apps : List (List ℕ)) (app : AppId) → are_names apps ≡ true → is_plain (app_word apps app) ≡ true
app_plain apps app are = placed_plain apps app.0 are

-- words
pub var_plain : (v : Var) → is_plain (var_word v) ≡ true
var_plain Power = refl
var_plain Firmware = refl
var_plain Config = refl
var_plain Routing = refl
var_plain LinkPower = refl
var_plain Iface = refl

prio_plain : (p : Prio) → is_plain (prio_word p) ≡ true
prio_plain Low = refl
prio_plain High = refl

kind_plain : (kind : BrokenKind) → is_plain (kind_word kind) ≡ true
kind_plain CutOff = refl
kind_plain Short = refl

pub assignment_plain : (g : Group) (row : Row) → IsSound g → is_plain (assignment g row) ≡ true
assignment_plain g row sound =
    join (name_of g row.entity) (46 ∷ (var_word row.var ++ 61 ∷ decimal row.value)) (entity_plain g row.entity sound)
    (join (var_word row.var) (61 ∷ decimal row.value) (var_plain row.var) (number_plain row.value))

devices_plain : (g : Group) (devices : List ℕ) → IsSound g → are_plain (device_words g devices) ≡ true
devices_plain g [] sound = refl
devices_plain g (d ∷ devices) sound = rw (entity_plain g (Device d) sound) (devices_plain g devices sound)

lack_plain : (g : Group) (row : Row) (lack : Lack) → IsSound g → are_plain (lack_words g row lack) ≡ true
lack_plain g row (Level e level needs) sound = rw (assignment_plain g row sound, entity_plain g e sound, number_plain level, number_plain needs) refl
lack_plain g row PowerOff sound = rw (assignment_plain g row sound) refl

cause_plain : (g : Group) (apps : List (List ℕ)) (cause : Cause) → IsSound g → are_names apps ≡ true → are_plain (cause_words g apps cause) ≡ true
cause_plain g apps (NotControllable row lack) sound are = lack_plain g row lack sound
cause_plain g apps (Locked e holder prio) sound are = rw (entity_plain g e sound, app_plain apps holder are, prio_plain prio) refl
cause_plain g apps (broken_cause broken) sound are = rw (
  entity_plain g (Device (broken_pair g broken).0) sound,
  entity_plain g (Device (broken_pair g broken).1) sound,
  kind_plain broken.kind,
  number_plain broken.need,
  number_plain broken.has,
) (devices_plain g broken.side sound)

pub verdict_plain : (g : Group) (apps : List (List ℕ)) (v : Verdict) → IsSound g → are_names apps ≡ true → are_plain (verdict_words g apps v) ≡ true
verdict_plain g apps (Accepted version) sound are = rw (number_plain version) refl
verdict_plain g apps (Refused cause) sound are = cause_plain g apps cause sound are

holder_plain : (apps : List (List ℕ)) (holder : Option AppId) → are_names apps ≡ true → is_plain (holder_word apps holder) ≡ true
holder_plain apps None are = refl
holder_plain apps (Some app) are = app_plain apps app are

pub rows_plain : (g : Group) (rows : List Row) → IsSound g → are_plain (assignment_words g rows) ≡ true
rows_plain g [] sound = refl
rows_plain g (row ∷ rows) sound = rw (assignment_plain g row sound) (rows_plain g rows sound)

pub reply_plain : (g : Group) (apps : List (List ℕ)) (reply : Reply) → IsSound g → are_names apps ≡ true → are_plain (reply_words g apps reply) ≡ true
reply_plain g apps (Queued ticket) sound are = rw (number_plain ticket) refl
reply_plain g apps (Full pending) sound are = rw (number_plain pending) refl
reply_plain g apps (Decided receipt) sound are = rw (number_plain receipt.ticket) (verdict_plain g apps receipt.verdict sound are)
reply_plain g apps Idle sound are = refl
reply_plain g apps Granted sound are = refl
reply_plain g apps (Held holder) sound are = rw (app_plain apps holder are) refl
reply_plain g apps Released sound are = refl
reply_plain g apps (NotYours holder) sound are = rw (holder_plain apps holder are) refl
reply_plain g apps (Sent command) sound are = rw (number_plain command) refl
reply_plain g apps Settled sound are = refl
reply_plain g apps (Blocked row) sound are = rw (assignment_plain g row sound) refl
reply_plain g apps Begun sound are = refl
reply_plain g apps (Stale fence) sound are = rw (number_plain fence) refl
reply_plain g apps (NoSuch sent) sound are = rw (number_plain sent) refl
reply_plain g apps Done sound are = refl
reply_plain g apps NotBusy sound are = refl
reply_plain g apps (Reported report) sound are = rw (number_plain report) refl
reply_plain g apps Taken sound are = refl
reply_plain g apps (Old kept) sound are = rw (number_plain kept) refl
reply_plain g apps Changed sound are = refl
reply_plain g apps (Withdrawn version rows) sound are = rw (number_plain version) (rows_plain g rows sound)
reply_plain g apps Kept sound are = refl

value_plain : (v : Var) (n : ℕ) → is_plain (value_word v n) ≡ true
value_plain v n = join (var_word v) (61 ∷ decimal n) (var_plain v) (number_plain n)

values_plain : (e : Entity) (vals : Vals) → are_plain (value_words e vals) ≡ true
values_plain (Device i) vals = rw (value_plain Power vals.v0, value_plain Firmware vals.v1, value_plain Config vals.v2, value_plain Routing vals.v3) refl
values_plain (Link i) vals = rw (value_plain LinkPower vals.v0, value_plain Iface vals.v1) refl

pub event_plain : (g : Group) (apps : List (List ℕ)) (event : Event) → IsSound g → are_names apps ≡ true → are_plain (event_words g apps event) ≡ true
event_plain g apps (Submit app rows) sound are = rw (app_plain apps app are) (rows_plain g rows sound)
event_plain g apps Check sound are = refl
event_plain g apps (Lock app e prio) sound are = rw (app_plain apps app are, entity_plain g e sound, prio_plain prio) refl
event_plain g apps (Unlock app e prio) sound are = rw (app_plain apps app are, entity_plain g e sound, prio_plain prio) refl
event_plain g apps (Send e) sound are = rw (entity_plain g e sound) refl
event_plain g apps (Deliver n) sound are = rw (number_plain n) refl
event_plain g apps (Finish e) sound are = rw (entity_plain g e sound) refl
event_plain g apps (Report e) sound are = rw (entity_plain g e sound) refl
event_plain g apps (Hear n) sound are = rw (number_plain n) refl
event_plain g apps (Fail e vals health) sound are = rw (entity_plain g e sound, number_plain health) (values_plain e vals)
event_plain g apps (Withdraw e) sound are = rw (entity_plain g e sound) refl

-- the words of an entry
pub words_plain : (g : Group) (apps : List (List ℕ)) (event : Event) (reply : Reply) → IsSound g → are_names apps ≡ true → is_plain (spaced (event_words g apps event ++ reply_mark ∷ reply_words g apps reply)) ≡ true
words_plain g apps event reply sound are =
    spaced_plain (event_words g apps event ++ reply_mark ∷ reply_words g apps reply)
    (join_words (event_words g apps event) (reply_mark ∷ reply_words g apps reply) (event_plain g apps event sound are) (reply_plain g apps reply sound are))

-- without its first byte a plain text is plain
pub rest_plain : (text : List ℕ) → is_plain text ≡ true → is_plain (drop 1 text) ≡ true
rest_plain [] plain = refl
rest_plain (b ∷ bs) plain = (both (is_plain_byte b) (is_plain bs) plain).1

-- a plain text is UTF-8: it has bytes of ASCII alone
byte_ascii : (b : ℕ) → is_plain_byte b ≡ true → b < 128
byte_ascii b plain = grind (arith, nat_tests)

plain_ascii : (text : List ℕ) → is_plain text ≡ true → IsAscii text
plain_ascii [] plain i = omega arith
plain_ascii (b ∷ bs) plain zero = byte_ascii b (both (is_plain_byte b) (is_plain bs) plain).0
plain_ascii (b ∷ bs) plain (suc i) = plain_ascii bs (both (is_plain_byte b) (is_plain bs) plain).1 i

pub plain_utf8 : (text : List ℕ) → is_plain text ≡ true → IsUtf8 text
plain_utf8 text plain = IsUtf8-from_ascii text (plain_ascii text plain)
