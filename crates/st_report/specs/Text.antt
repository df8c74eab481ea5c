-- A report as a text of lines.
use Rattle.std.specs.Prelude.{ℕ, List, [], ◌∷◌, ◌++◌, length, map, flat_map, codes, decimal}
use Rattle.st_text.specs.Words.{text_of}
use Rattle.st_net.specs.Groups.{Group}
use Rattle.st_event.specs.declared.act.Log.{Log}
use Rattle.st_event.specs.declared.journal.Entry.{Entry}
use Rattle.st_event.specs.History.{History}
use Rattle.st_event.specs.Moments.{commands, reports}
use Rattle.st_event.specs.Observed.{actual}
use Rattle.st_event.specs.Proposals.{version}
use Rattle.st_entry.specs.Words.{Words}
use Rattle.st_report.specs.Counts.{stale_count, old_count, kept_count}
use Rattle.st_report.specs.Lines.{lock_words, receipt_words, withdrawn_words, target_words, unsettled_words, lost_words, read_words}

-- lines behind a first word of each
abbrev pub headed : List ℕ → List Words → List Words
headed word lines = map (λ words. word ∷ words) lines

abbrev pub head_lines : Group → List Entry → List Words
head_lines g past =
    (codes "group" ∷ g.name ∷ []) ∷
    (codes "version" ∷ decimal (version past) ∷ []) ∷
    (codes "entries" ∷ decimal (length past) ∷ []) ∷ []

abbrev pub wire_words : Group → List Entry → Words
wire_words g past =
    codes "wire" ∷ codes "commands" ∷ decimal (length (commands g past)) ∷ codes "reports" ∷ decimal (length (reports g past)) ∷
    codes "stale" ∷ decimal (stale_count past) ∷ codes "old" ∷ decimal (old_count past) ∷ []

abbrev pub promise_words : Group → List Entry → Words
promise_words g past =
    codes "promises" ∷ decimal (length g.promises) ∷ codes "start" ∷ decimal (kept_count g (actual g [])) ∷
    codes "now" ∷ decimal (kept_count g (actual g past)) ∷ []

-- the lines of a group
abbrev pub group_lines : List (List ℕ) → History → List Words
group_lines apps h =
    head_lines h.group h.past ++
    lock_words h.group apps h.past ++
    headed (codes "receipt") (receipt_words h.group apps h.past) ++
    headed (codes "withdrawn") (withdrawn_words h.group h.past) ++
    headed (codes "target") (target_words h.group h.past) ++
    headed (codes "unsettled") (unsettled_words h.group h.past) ++
    (wire_words h.group h.past ∷ promise_words h.group h.past ∷ []) ++
    headed (codes "lost") (lost_words h.group h.past)

-- all lines
abbrev pub report_lines : List History → List (List ℕ) → List Log → List Words
report_lines groups apps logs =
    ((codes "statesman" ∷ codes "report" ∷ codes "1" ∷ []) ∷ []) ++
    flat_map (group_lines apps) groups ++
    headed (codes "read") (read_words groups apps logs) ++
    ((codes "end" ∷ []) ∷ [])

abbrev pub report_text_of : List History → List (List ℕ) → List Log → List ℕ
report_text_of groups apps logs = text_of (report_lines groups apps logs)
