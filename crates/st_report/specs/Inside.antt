-- Of no concern to callers: what is gathered of a world for its report, and what is printed of that.
use Rattle.std.specs.Prelude.{ℕ, Option, Some, None, option_map, List, [], ◌∷◌, ◌++◌, length, map, flat_map, drop, codes, decimal}
use Rattle.st_text.specs.Words.{spaced, line}
use Rattle.st_net.specs.declared.entity.AppId.{AppId}
use Rattle.st_net.specs.declared.entity.Entity.TheVariants.{Device}
use Rattle.st_net.specs.declared.promise.Promise.{Promise}
use Rattle.st_net.specs.Groups.{Group, name_of}
use Rattle.st_event.specs.declared.event.Event.{Event}
use Rattle.st_event.specs.declared.event.Event.TheVariants.{Submit, Check}
use Rattle.st_event.specs.declared.journal.Entry.{Entry}
use Rattle.st_event.specs.declared.reply.Reply.{Reply}
use Rattle.st_event.specs.Receipts.{ticket_given, receipt_given}
use Rattle.st_event.specs.declared.reply.Verdict.{Verdict}
use Rattle.st_event.specs.History.{History}
use Rattle.st_event.specs.Moments.{commands, reports}
use Rattle.st_event.specs.Observed.{actual}
use Rattle.st_event.specs.Proposals.{version}
use Rattle.st_report.specs.declared.report.PromiseCounts.{PromiseCounts}
use Rattle.st_report.specs.declared.report.Summary.{Summary}
use Rattle.st_report.specs.declared.report.WireCounts.{WireCounts}
use Rattle.st_entry.specs.Causes.{verdict_words}
use Rattle.st_entry.specs.Words.{app_word}
use Rattle.st_report.specs.Counts.{stale_count, old_count, kept_count}
use Rattle.st_report.specs.Lines.{lock_words, receipt_words, withdrawn_words, target_words, unsettled_words, lost_words}

abbrev pub wire_counts_of : Group → List Entry → WireCounts
wire_counts_of g past = record {
  commands = length (commands g past);
  reports = length (reports g past);
  stale = stale_count past;
  old = old_count past;
}

abbrev pub promise_counts_of : Group → List Entry → PromiseCounts
promise_counts_of g past = record {
  count = length g.promises;
  held_at_start = kept_count g (actual g []);
  held_at_end = kept_count g (actual g past);
}

-- what is gathered of a group by its journal: each text has the words of a line, each behind a space
abbrev pub summary_of : Group → List (List ℕ) → List Entry → Summary
summary_of g apps past = record {
  name = g.name;
  version = version past;
  entries = length past;
  locks = map spaced (lock_words g apps past);
  receipts = map spaced (receipt_words g apps past);
  withdrawn = map spaced (withdrawn_words g past);
  targets = map spaced (target_words g past);
  unsettled = map spaced (unsettled_words g past);
  lost = map spaced (lost_words g past);
  wire = wire_counts_of g past;
  promises = promise_counts_of g past;
}

-- the application whose proposal an entry queues
abbrev pub proposer_in : Event → Reply → Option AppId
proposer_in (Submit app rows) reply = option_map (λ ticket. app) (ticket_given reply)
proposer_in _ reply = None

abbrev pub proposer_of : Entry → Option AppId
proposer_of entry = proposer_in entry.event entry.reply

-- the verdict that an entry gives
abbrev pub verdict_in : Event → Reply → Option Verdict
verdict_in Check reply = option_map (λ receipt. receipt.verdict) (receipt_given reply)
verdict_in _ reply = None

abbrev pub verdict_of : Entry → Option Verdict
verdict_of entry = verdict_in entry.event entry.reply

-- the text of a receipt, where some application has its ticket
abbrev pub texts_where : Group → List (List ℕ) → ℕ → Option AppId → Verdict → List (List ℕ)
texts_where g apps ticket None v = []
texts_where g apps ticket (Some app) v = spaced (decimal ticket ∷ app_word apps app ∷ verdict_words g apps v) ∷ []

-- the text of a promise
abbrev pub lost_text : Group → Promise → List ℕ
lost_text g p = spaced (name_of g (Device p.a) ∷ name_of g (Device p.b) ∷ [])

-- lines of such texts, behind a first word and without one
abbrev pub lines_behind : List ℕ → List (List ℕ) → List ℕ
lines_behind word texts = flat_map (λ text. word ++ text ++ 10 ∷ []) texts

abbrev pub whole_lines : List (List ℕ) → List ℕ
whole_lines texts = flat_map (λ text. drop 1 text ++ 10 ∷ []) texts

-- the lines of a group, by what was gathered of it
abbrev pub head_text : Summary → List ℕ
head_text s =
    line (codes "group") (s.name ∷ []) ++
    line (codes "version") (decimal s.version ∷ []) ++
    line (codes "entries") (decimal s.entries ∷ [])

abbrev pub wire_text : Summary → List ℕ
wire_text s = line (codes "wire")
    (codes "commands" ∷ decimal s.wire.commands ∷ codes "reports" ∷ decimal s.wire.reports ∷
    codes "stale" ∷ decimal s.wire.stale ∷ codes "old" ∷ decimal s.wire.old ∷ [])

abbrev pub promise_text : Summary → List ℕ
promise_text s = line (codes "promises")
    (decimal s.promises.count ∷ codes "start" ∷ decimal s.promises.held_at_start ∷ codes "now" ∷ decimal s.promises.held_at_end ∷ [])

abbrev pub summary_text : Summary → List ℕ
summary_text s =
    head_text s ++
    whole_lines s.locks ++
    lines_behind (codes "receipt") s.receipts ++
    lines_behind (codes "withdrawn") s.withdrawn ++
    lines_behind (codes "target") s.targets ++
    lines_behind (codes "unsettled") s.unsettled ++
    wire_text s ++
    promise_text s ++
    lines_behind (codes "lost") s.lost

-- what is gathered of groups, and of all logs
abbrev pub summaries_of : List (List ℕ) → List History → List Summary
summaries_of apps groups = map (λ h. summary_of h.group apps h.past) groups

abbrev pub whole_text : List Summary → List (List ℕ) → List ℕ
whole_text groups reads =
    line (codes "statesman") (codes "report" ∷ codes "1" ∷ []) ++
    flat_map summary_text groups ++
    lines_behind (codes "read") reads ++
    line (codes "end") []
