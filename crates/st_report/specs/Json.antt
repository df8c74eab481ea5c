-- A report as one line of JSON. No byte of its texts needs an escape.
use Rattle.std.specs.Prelude.{ℕ, List, [], ◌∷◌, ◌++◌, length, map, codes, decimal}
use Rattle.st_text.specs.Words.{line_text}
use Rattle.st_net.specs.Groups.{Group}
use Rattle.st_event.specs.declared.act.Log.{Log}
use Rattle.st_event.specs.declared.journal.Entry.{Entry}
use Rattle.st_event.specs.History.{History}
use Rattle.st_event.specs.Moments.{commands, reports}
use Rattle.st_event.specs.Observed.{actual}
use Rattle.st_event.specs.Proposals.{version}
use Rattle.st_entry.specs.Words.{Words}
use Rattle.st_report.specs.Counts.{stale_count, old_count, kept_count}
use Rattle.st_report.specs.Lines.{lock_words, receipt_words, withdrawn_words, target_words, unsettled_words, lost_words, read_words}

abbrev pub in_quotes : List ℕ → List ℕ
in_quotes text = 34 ∷ (text ++ 34 ∷ [])

-- texts with commas between them, in brackets
abbrev pub after_commas : List (List ℕ) → List ℕ
after_commas [] = []
after_commas (text ∷ more) = 44 ∷ (text ++ after_commas more)

abbrev pub with_commas : List (List ℕ) → List ℕ
with_commas [] = []
with_commas (text ∷ more) = text ++ after_commas more

abbrev pub in_brackets : List (List ℕ) → List ℕ
in_brackets texts = 91 ∷ (with_commas texts ++ 93 ∷ [])

abbrev pub list_of_texts : List (List ℕ) → List ℕ
list_of_texts texts = in_brackets (map in_quotes texts)

-- lines as texts, with a space between each two words
abbrev pub list_of_lines : List Words → List ℕ
list_of_lines lines = list_of_texts (map line_text lines)

-- one after another
abbrev pub joined : List (List ℕ) → List ℕ
joined [] = []
joined (piece ∷ more) = piece ++ joined more

abbrev pub wire_json : Group → List Entry → List ℕ
wire_json g past = joined (
    codes "{\"commands\":" ∷ decimal (length (commands g past)) ∷
    codes ",\"old\":" ∷ decimal (old_count past) ∷
    codes ",\"reports\":" ∷ decimal (length (reports g past)) ∷
    codes ",\"stale\":" ∷ decimal (stale_count past) ∷ codes "}" ∷ [])

-- the object of a group
abbrev pub group_json : List (List ℕ) → History → List ℕ
group_json apps h = joined (
    codes "{\"entries\":" ∷ decimal (length h.past) ∷
    codes ",\"locks\":" ∷ list_of_lines (lock_words h.group apps h.past) ∷
    codes ",\"lost\":" ∷ list_of_lines (lost_words h.group h.past) ∷
    codes ",\"name\":" ∷ in_quotes h.group.name ∷
    codes ",\"now\":" ∷ decimal (kept_count h.group (actual h.group h.past)) ∷
    codes ",\"promises\":" ∷ decimal (length h.group.promises) ∷
    codes ",\"receipts\":" ∷ list_of_lines (receipt_words h.group apps h.past) ∷
    codes ",\"start\":" ∷ decimal (kept_count h.group (actual h.group [])) ∷
    codes ",\"targets\":" ∷ list_of_lines (target_words h.group h.past) ∷
    codes ",\"unsettled\":" ∷ list_of_lines (unsettled_words h.group h.past) ∷
    codes ",\"version\":" ∷ decimal (version h.past) ∷
    codes ",\"wire\":" ∷ wire_json h.group h.past ∷
    codes ",\"withdrawn\":" ∷ list_of_lines (withdrawn_words h.group h.past) ∷ codes "}" ∷ [])

-- the whole line
abbrev pub report_json_of : List History → List (List ℕ) → List Log → List ℕ
report_json_of groups apps logs = joined (
    codes "{\"groups\":" ∷ in_brackets (map (group_json apps) groups) ∷
    codes ",\"reads\":" ∷ list_of_lines (read_words groups apps logs) ∷ codes ",\"statesman\":1}\n" ∷ [])
