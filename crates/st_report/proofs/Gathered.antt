-- The texts of lists of lines, by what each item of a journal, of a group or of a log adds.
use Rattle.std.proofs.Common.{◌≡◌, ◌∙◌, ℕ, ◌+◌, ◌<◌, List, [], ◌∷◌, ◌++◌, Bool, cond, length, get_or, map, take, sym, ap, arith}
use Rattle.std.specs.Prelude.{not, ◌==◌, flat_map, ◌&&◌}
use Rattle.std.specs.List.{filter}
use Rattle.std.proofs.lemmas.List.{get_or-map, map-append, take_more}
use Rattle.std.proofs.lemmas.List.Concat.{flat_map_single}
use Rattle.st_text.specs.Words.{spaced}
use Rattle.st_net.specs.declared.entity.Entity.{Entity}
use Rattle.st_net.specs.declared.entity.Entity.TheVariants.{Device, Link}
use Rattle.st_net.specs.declared.entity.Var.{Var}
use Rattle.st_net.specs.declared.promise.Promise.{Promise}
use Rattle.st_net.specs.Entities.{value_of, vars_of}
use Rattle.st_net.specs.Groups.{Group, IsEntityOf, name_of, opening_of, no_promise, promise_of}
use Rattle.st_net.specs.Promises.{is_kept}
use Rattle.st_event.specs.declared.act.Log.{Log}
use Rattle.st_event.specs.declared.act.LogEntry.{LogEntry}
use Rattle.st_event.specs.declared.journal.Entry.{Entry}
use Rattle.st_event.specs.History.{History}
use Rattle.st_event.specs.Observed.{actual}
use Rattle.st_overlay.specs.Values.{Values, IsIn, IsTableOf}
use Rattle.st_entry.specs.Entries.{event_words, reply_words}
use Rattle.st_entry.specs.Words.{assignment}
use Rattle.st_world.specs.World.{WorldView}
use Rattle.st_report.specs.declared.report.Summary.{Summary}
use Rattle.st_report.specs.Inside.{lost_text, summary_of, summaries_of}
use Rattle.st_report.specs.Lines.{is_lock_event, locks_among, back_words, withdrawn_among, changed_words, lost_words, histories, seen_words, read_words}
use Rattle.st_report.proofs.Adding.{chosen, map_twice, map_flat}

-- the text of an entry that asks for a lock or gives one back
abbrev pub lock_texts : Group → List (List ℕ) → Entry → List (List ℕ)
lock_texts g apps entry = cond (is_lock_event entry.event) (spaced (event_words g apps entry.event ++ reply_words g apps entry.reply) ∷ []) []

pub locks_are : (g : Group) (apps : List (List ℕ)) (entries : List Entry) → map spaced (locks_among g apps entries) ≡ flat_map (lock_texts g apps) entries
locks_are g apps entries =
    map_twice spaced (λ (entry : Entry). event_words g apps entry.event ++ reply_words g apps entry.reply) (filter (λ entry. is_lock_event entry.event) entries) ∙
    chosen (λ (entry : Entry). is_lock_event entry.event) (λ entry. spaced (event_words g apps entry.event ++ reply_words g apps entry.reply)) entries

-- the texts of what an entry withdraws
abbrev pub withdrawn_texts : Group → Entry → List (List ℕ)
withdrawn_texts g entry = map spaced (back_words g entry.reply)

pub withdrawn_are : (g : Group) (entries : List Entry) → map spaced (withdrawn_among g entries) ≡ flat_map (withdrawn_texts g) entries
withdrawn_are g entries = map_flat spaced (λ (entry : Entry). back_words g entry.reply) entries

-- the text of a variable whose target is not its opening value
abbrev pub change_texts : Group → (Entity → Var → ℕ) → Entity → Var → List (List ℕ)
change_texts g target e var = cond (not (target e var == value_of e (opening_of g e) var)) (spaced (assignment g (record { entity = e; var = var; value = target e var }) ∷ []) ∷ []) []

pub changes_are : (g : Group) (target : Entity → Var → ℕ) (e : Entity) → map spaced (changed_words g target e) ≡ flat_map (change_texts g target e) (vars_of e)
changes_are g target e =
    map_twice spaced (λ var. assignment g (record { entity = e; var = var; value = target e var }) ∷ []) (filter (λ var. not (target e var == value_of e (opening_of g e) var)) (vars_of e)) ∙
    chosen (λ var. not (target e var == value_of e (opening_of g e) var)) (λ var. spaced (assignment g (record { entity = e; var = var; value = target e var }) ∷ [])) (vars_of e)

pub targets_are : (g : Group) (target : Entity → Var → ℕ) (es : List Entity) → map spaced (flat_map (changed_words g target) es) ≡ flat_map (λ e. map spaced (changed_words g target e)) es
targets_are g target es = map_flat spaced (changed_words g target) es

-- a table has values for each entity of its group
pub valued : (g : Group) (t : Values) (e : Entity) → IsTableOf g t → IsEntityOf g e → IsIn t e
valued g t (Device i) table low = omega (arith, table.devices, low)
valued g t (Link i) table low = omega (arith, table.links, low)

-- the names of entities
pub names_are : (g : Group) (es : List Entity) → map spaced (map (λ e. name_of g e ∷ []) es) ≡ flat_map (λ e. spaced (name_of g e ∷ []) ∷ []) es
names_are g es = map_twice spaced (λ e. name_of g e ∷ []) es ∙ sym (flat_map_single (λ e. spaced (name_of g e ∷ [])) es)

-- the text of a promise that held and does not hold
abbrev pub lost_texts : Group → List Entry → Promise → List (List ℕ)
lost_texts g past p = cond (is_kept g (actual g []) p && not (is_kept g (actual g past) p)) (lost_text g p ∷ []) []

pub lost_are : (g : Group) (past : List Entry) → map spaced (lost_words g past) ≡ flat_map (lost_texts g past) g.promises
lost_are g past =
    map_twice spaced (λ (p : Promise). name_of g (Device p.a) ∷ name_of g (Device p.b) ∷ []) (filter (λ p. is_kept g (actual g []) p && not (is_kept g (actual g past) p)) g.promises) ∙
    chosen (λ p. is_kept g (actual g []) p && not (is_kept g (actual g past) p)) (lost_text g) g.promises

-- the mark of a promise
pub mark_of : (g : Group) (up : Entity → Bool) (marks : List Bool) (i : ℕ) (d : Bool) → marks ≡ map (is_kept g up) g.promises → i < length g.promises → get_or marks i d ≡ is_kept g up (promise_of g i)
mark_of g up marks i d is low = ap (λ ms. get_or ms i d) is ∙ get_or-map (is_kept g up) g.promises i no_promise d low

-- the entries of a log, and of all logs
pub log_are : (groups : List History) (apps : List (List ℕ)) (log : Log) → map spaced (map (seen_words groups apps log.app) log.entries) ≡ flat_map (λ entry. spaced (seen_words groups apps log.app entry) ∷ []) log.entries
log_are groups apps log = map_twice spaced (seen_words groups apps log.app) log.entries ∙ sym (flat_map_single (λ (entry : LogEntry). spaced (seen_words groups apps log.app entry)) log.entries)

pub reads_are : (groups : List History) (apps : List (List ℕ)) (logs : List Log) → map spaced (read_words groups apps logs) ≡ flat_map (λ log. map spaced (map (seen_words groups apps log.app) log.entries)) logs
reads_are groups apps logs = map_flat spaced (λ (log : Log). map (seen_words groups apps log.app) log.entries) logs

-- what was gathered of one more world
pub summaries_next : (apps : List (List ℕ)) (worlds : List WorldView) (i : ℕ) (w d : WorldView) (s : Summary) (before : List Summary) → i < length worlds → w ≡ get_or worlds i d → s ≡ summary_of w.history.group apps w.history.past
    → before ≡ summaries_of apps (histories (take i worlds)) → before ++ s ∷ [] ≡ summaries_of apps (histories (take (i + 1) worlds))
summaries_next apps worlds i w d s before within is gathered same =
    let next = get_or worlds i d in
    let one : s ≡ summary_of next.history.group apps next.history.past = gathered ∙ ap (λ (v : WorldView). summary_of v.history.group apps v.history.past) is in
    let step : summaries_of apps (histories (take (i + 1) worlds)) ≡ summaries_of apps (histories (take i worlds)) ++ summary_of next.history.group apps next.history.past ∷ [] =
    ap (λ (ws : List WorldView). summaries_of apps (histories ws)) (take_more worlds i d within) ∙
    (ap (summaries_of apps) (map-append (λ (v : WorldView). v.history) (take i worlds) (next ∷ [])) ∙
    map-append (λ (h : History). summary_of h.group apps h.past) (histories (take i worlds)) (next.history ∷ [])) in
    ap (λ t. t ++ s ∷ []) same ∙ (ap (λ x. summaries_of apps (histories (take i worlds)) ++ x ∷ []) one ∙ sym step)
