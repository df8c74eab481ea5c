-- The texts of a report are plain: they are made of the words of entries, each behind a space.
use Rattle.std.proofs.Common.{◌≡◌, ℕ, List, [], ◌∷◌, ◌++◌, true, refl}
use Rattle.std.specs.Prelude.{decimal}
use Rattle.st_text.specs.Printed.{variable_word}
use Rattle.st_text.specs.Words.{spaced}
use Rattle.st_net.specs.declared.entity.AppId.{AppId}
use Rattle.st_net.specs.declared.entity.Entity.{Entity}
use Rattle.st_net.specs.declared.entity.Entity.TheVariants.{Device}
use Rattle.st_net.specs.declared.entity.Row.{Row}
use Rattle.st_net.specs.declared.entity.Var.{Var}
use Rattle.st_net.specs.declared.promise.Promise.{Promise}
use Rattle.st_net.specs.Groups.{Group, IsSound, are_names, name_of}
use Rattle.st_event.specs.declared.act.LogSaw.{LogSaw}
use Rattle.st_event.specs.declared.act.LogSaw.TheVariants.{Seen, At, NoVersion}
use Rattle.st_event.specs.declared.event.Event.{Event}
use Rattle.st_event.specs.declared.reply.Reply.{Reply}
use Rattle.st_event.specs.declared.reply.Verdict.{Verdict}
use Rattle.st_token.specs.Words.{var_word}
use Rattle.st_entry.specs.Causes.{verdict_words}
use Rattle.st_entry.specs.Entries.{event_words, reply_words}
use Rattle.st_entry.specs.Plain.{is_plain, are_plain}
use Rattle.st_entry.specs.Saws.{saw_words}
use Rattle.st_entry.specs.Words.{app_word, assignment, assignment_words}
use Rattle.st_entry.proofs.Plain.{join, join_words, spaced_plain, number_plain, entity_plain, app_plain, var_plain, assignment_plain, rows_plain, verdict_plain, event_plain, reply_plain}
use Rattle.st_report.specs.Inside.{lost_text}

-- a line of a lock, a receipt, a withdrawal, a variable that differs, an entity that is not settled, a promise that was lost
pub lock_plain : (g : Group) (apps : List (List ℕ)) (event : Event) (reply : Reply) → IsSound g → are_names apps ≡ true → is_plain (spaced (event_words g apps event ++ reply_words g apps reply)) ≡ true
lock_plain g apps event reply sound are = spaced_plain (event_words g apps event ++ reply_words g apps reply) (join_words (event_words g apps event) (reply_words g apps reply) (event_plain g apps event sound are) (reply_plain g apps reply sound are))

pub receipt_plain : (g : Group) (apps : List (List ℕ)) (ticket : ℕ) (app : AppId) (v : Verdict) → IsSound g → are_names apps ≡ true → is_plain (spaced (decimal ticket ∷ app_word apps app ∷ verdict_words g apps v)) ≡ true
receipt_plain g apps ticket app v sound are = spaced_plain (decimal ticket ∷ app_word apps app ∷ verdict_words g apps v) (rw (number_plain ticket, app_plain apps app are) (verdict_plain g apps v sound are))

pub withdrawn_plain : (g : Group) (version : ℕ) (rows : List Row) → IsSound g → is_plain (spaced (decimal version ∷ assignment_words g rows)) ≡ true
withdrawn_plain g version rows sound = spaced_plain (decimal version ∷ assignment_words g rows) (rw (number_plain version) (rows_plain g rows sound))

pub change_plain : (g : Group) (row : Row) → IsSound g → is_plain (spaced (assignment g row ∷ [])) ≡ true
change_plain g row sound = spaced_plain (assignment g row ∷ []) (rw (assignment_plain g row sound) refl)

pub named_plain : (g : Group) (e : Entity) → IsSound g → is_plain (spaced (name_of g e ∷ [])) ≡ true
named_plain g e sound = spaced_plain (name_of g e ∷ []) (rw (entity_plain g e sound) refl)

pub lost_plain : (g : Group) (p : Promise) → IsSound g → is_plain (lost_text g p) ≡ true
lost_plain g p sound = spaced_plain (name_of g (Device p.a) ∷ name_of g (Device p.b) ∷ []) (rw (entity_plain g (Device p.a) sound, entity_plain g (Device p.b) sound) refl)

-- what a command that reads saw
variable_plain : (name : List ℕ) (v : Var) → is_plain name ≡ true → is_plain (variable_word name (var_word v)) ≡ true
variable_plain name v plain = join name (46 ∷ var_word v) plain (var_plain v)

saw_plain : (saw : LogSaw) → are_plain (saw_words saw) ≡ true
saw_plain (Seen version value) = rw (number_plain version, number_plain value) refl
saw_plain (At version value) = rw (number_plain version, number_plain value) refl
saw_plain (NoVersion asked latest) = rw (number_plain asked, number_plain latest) refl

pub seen_plain : (apps : List (List ℕ)) (app : AppId) (group name : List ℕ) (v : Var) (saw : LogSaw) → are_names apps ≡ true → is_plain group ≡ true → is_plain name ≡ true → is_plain (spaced (app_word apps app ∷ group ∷ variable_word name (var_word v) ∷ saw_words saw)) ≡ true
seen_plain apps app group name v saw are of_group of_name = spaced_plain (app_word apps app ∷ group ∷ variable_word name (var_word v) ∷ saw_words saw) (rw (app_plain apps app are, of_group, variable_plain name v of_name) (saw_plain saw))
