-- What the tasks write.
use Rattle.std.specs.Prelude.{ℕ, List, [], ◌∷◌, ◌++◌, length, flat_map, reverse, codes, decimal, sum_by}
use Rattle.st_text.specs.Words.{line}
use Rattle.st_event.specs.declared.act.Log.{Log}
use Rattle.st_event.specs.History.{History}
use Rattle.st_grammar.specs.declared.doc.Doc.{Doc}
use Rattle.st_words.specs.declared.job.FatTree.{FatTree}
use Rattle.st_words.specs.declared.job.Form.TheVariants as forms
use Rattle.st_words.specs.Jobs.{pod_count}
use Rattle.st_doc.specs.Printed.{printed_doc}
use Rattle.st_journal.specs.Printing.{journal_text}
use Rattle.st_report.specs.Text.{report_text_of}
use Rattle.st_report.specs.Json.{report_json_of}
use Rattle.st_report.specs.Sums.{sums_text}
use Rattle.st_replay.specs.Replaying.{app_names}
use Rattle.st_top.specs.declared.task.Showing.{Showing}
use Rattle.st_top.specs.declared.task.Showing.TheVariants.{In, Sums, Roll}
use Rattle.st_top.specs.Rolling.{roll_text_of}

-- the journal of each group, in order
abbrev pub journals_text : List History → List (List ℕ) → List ℕ
journals_text groups apps = flat_map (λ h. journal_text h.group apps (reverse h.past)) groups

-- the six lines that sum up the scripts' run on the document of a fat tree
abbrev pub demo_text : FatTree → List History → List ℕ
demo_text tree groups =
    line (codes "demo") (codes "pods" ∷ decimal (pod_count tree.pods) ∷ codes "seed" ∷ decimal tree.seed ∷ []) ++
    flat_map (λ h. sums_text h.group h.past) groups ++
    line (codes "end") []

-- what is shown of a document, its groups with their journals, and logs: a report, or the document with the journals, which can be replayed; or sums;
-- or plans of an upgrade
abbrev pub shown : Showing → Doc → List History → List Log → List ℕ
shown (In forms.Text) doc groups logs = report_text_of groups (app_names doc) logs
shown (In forms.Json) doc groups logs = report_json_of groups (app_names doc) logs
shown (In forms.Replay) doc groups logs = printed_doc doc ++ journals_text groups (app_names doc)
shown (Sums tree) doc groups logs = demo_text tree groups
shown (Roll firmware) doc groups logs = roll_text_of groups (app_names doc) firmware

-- the counts of a document's parts
abbrev pub check_text : Doc → List ℕ
check_text doc = line (codes "ok")
    (codes "groups" ∷ decimal (length doc.groups) ∷
    codes "devices" ∷ decimal (sum_by (λ parts. length parts.devices) doc.groups) ∷
    codes "links" ∷ decimal (sum_by (λ parts. length parts.links) doc.groups) ∷
    codes "promises" ∷ decimal (sum_by (λ parts. length parts.promises) doc.groups) ∷
    codes "apps" ∷ decimal (length doc.apps) ∷
    codes "commands" ∷ decimal (sum_by (λ script. length script.acts) doc.apps) ∷ [])
