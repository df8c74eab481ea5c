-- What `clap` answers is what the words ask for.
use Rattle.std.proofs.Common.{◌≡◌, ◌∙◌, Bool, true, false, List, [], ◌∷◌, ap, ap₂, sym, refl, codes, Option, Some, None}
use Rattle.std.specs.Prelude.{option_and_then, option_to_list}
use Rattle.std.specs.Str.{bytes_eq}
use Rattle.clap.specs.Walk.{Row, first_of, nothing_held, rows_after, rows_of}
use Rattle.clap.specs.Simple.{App, matches_of, names_of}
use Rattle.clap.specs.Kinds.{Kinds, IsAmong}
use Rattle.clap.specs.Faults.{fault_of, built_fault}
use Rattle.clap.specs.declared.parser.matches.Found.{Found}
use Rattle.clap.specs.declared.error.kind.ErrorKind.{ErrorKind}
use Rattle.clap.proofs.FaultLemmas.{leaf_fault}
use Rattle.clap.proofs.WalkLemmas.{first_value-rows}
use Rattle.st_words.specs.declared.job.Job.{Job}
use Rattle.st_words.specs.Grammar.{Text, option_names}
use Rattle.st_words.specs.Jobs.{given_by, job_of, job_asked}
use Rattle.st_words.specs.CommandLine.{flat_app, job_found}
use Rattle.st_words.proofs.Rules.{flat_shape, flat_is_built}
use Rattle.st_words.proofs.Reading.{NamedText, has_name, text_of, reads}
use Rattle.st_words.proofs.Looks.{is_flag}
use Rattle.st_words.proofs.Walks.{rows_for, unless, spelled, complete, walk_reads}
use Rattle.st_words.proofs.Dashes.{job_texts, job_from, asks_same}
use Rattle.st_words.proofs.Once.{asks_once}

abbrev built_flat : App
built_flat = record { top = flat_shape option_names; subs = [] }

outcome : (words : List Text) → unless (fault_of flat_app words) (Some (matches_of flat_app words)) ≡ spelled option_names None false words []
outcome words =
    ap₂ (λ (k : Kinds) (r : List Row). unless k (Some r))
    (ap (λ (a : App). built_fault a nothing_held words) flat_is_built ∙ leaf_fault built_flat nothing_held words refl)
    (ap (λ (a : App). rows_after a.top.rules (names_of a) words) flat_is_built)
    ∙ walk_reads option_names refl words

text_first : (b : Bool) (p : NamedText) (name : Text) (said : List NamedText) → bytes_eq p.0 name ≡ b → first_of name (rows_for said) ≡ text_of name said → first_of name (rows_for (p ∷ said)) ≡ text_of name (p ∷ said)
text_first true p name said e later = rw e refl
text_first false p name said e later = rw e later

text_is : (name : Text) (said : List NamedText) → first_of name (rows_for said) ≡ text_of name said
text_is name [] = refl
text_is name (p ∷ said) = text_first (bytes_eq p.0 name) p name said refl (text_is name said)

no_text_first : (b : Bool) (p : NamedText) (name : Text) (said : List NamedText) → bytes_eq p.0 name ≡ b → (has_name name said ≡ false → text_of name said ≡ None) → has_name name (p ∷ said) ≡ false → text_of name (p ∷ said) ≡ None
no_text_first true p name said e later h = let bad : true ≡ false = rw e at h in cc
no_text_first false p name said e later h = rw e (later (rw e at h))

no_text : (name : Text) (said : List NamedText) → has_name name said ≡ false → text_of name said ≡ None
no_text name [] h = refl
no_text name (p ∷ said) h = no_text_first (bytes_eq p.0 name) p name said refl (no_text name said) h

abbrev job_rows : List Row → Option Job
job_rows rows = job_texts (λ name. first_of name rows)

rows_job : (said : List NamedText) → job_rows (rows_for said) ≡ job_from said
rows_job said = λ i. job_texts (λ name. text_is name said i)

complete_by : (b : Bool) (said : List NamedText) → has_name (codes "command") said ≡ b → option_and_then job_rows (complete option_names said) ≡ job_from said
complete_by true said e = rw e (rows_job said)
complete_by false said e = rw e (sym (ap (λ c. job_of (given_by (λ name. option_to_list (text_of name said))) (option_to_list c)) (no_text (codes "command") said e)))

spelled_job : (read : Option (List NamedText)) → option_and_then job_rows (option_and_then (complete option_names) read) ≡ option_and_then job_from read
spelled_job None = refl
spelled_job (Some said) = complete_by (has_name (codes "command") said) said refl

pub asked : (words : List Text) → option_and_then job_rows (unless (fault_of flat_app words) (Some (matches_of flat_app words))) ≡ job_asked words
asked words = ap (option_and_then job_rows) (outcome words) ∙ spelled_job (reads is_flag option_names None false [] words) ∙ (asks_same words).between false [] ∙ asks_once words

pub asked_ok : (words : List Text) (f : Found) → fault_of flat_app words ≡ [] → rows_of f ≡ matches_of flat_app words → job_found f ≡ job_asked words
asked_ok words f fine rows =
    (λ i. job_texts (λ name. first_value-rows f name i))
    ∙ ap job_rows rows ∙ sym (ap (λ k. option_and_then job_rows (unless k (Some (matches_of flat_app words)))) fine) ∙ asked words

refused_by : (kinds : Kinds) (k : ErrorKind) (rows : List Row) → IsAmong k kinds → None ≡ option_and_then job_rows (unless kinds (Some rows))
refused_by [] k rows among = absurd among
refused_by (x ∷ xs) k rows among = refl

pub asked_none : (words : List Text) (k : ErrorKind) → IsAmong k (fault_of flat_app words) → None ≡ job_asked words
asked_none words k among = refused_by (fault_of flat_app words) k (matches_of flat_app words) among ∙ asked words
