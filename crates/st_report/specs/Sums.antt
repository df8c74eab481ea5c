-- What sums up a group after its journal, in four lines of numbers.
use Rattle.std.specs.Prelude.{ℕ, Bool, false, not, List, [], ◌∷◌, ◌++◌, length, count_by, codes, decimal, Option, Some, None}
use Rattle.st_text.specs.Words.{line}
use Rattle.st_net.specs.Groups.{Group}
use Rattle.st_event.specs.declared.journal.Entry.{Entry}
use Rattle.st_event.specs.declared.reply.Reply.{Reply}
use Rattle.st_event.specs.declared.reply.Receipt.{Receipt}
use Rattle.st_event.specs.Receipts.{receipt_given}
use Rattle.st_event.specs.Proposals.{is_accepted, is_accepting, version}
use Rattle.st_event.specs.Moments.{commands, reports}
use Rattle.st_event.specs.Observed.{actual}
use Rattle.st_report.specs.Counts.{kept_count}
use Rattle.st_report.specs.Lines.{unsettled_words}

-- whether a receipt is given and refuses
abbrev pub refuses : Option Receipt → Bool
refuses None = false
refuses (Some receipt) = not (is_accepted receipt.verdict)

abbrev pub is_refusing : Reply → Bool
is_refusing reply = refuses (receipt_given reply)

-- how many receipts accept, and how many refuse
abbrev pub accepted_count : List Entry → ℕ
accepted_count past = count_by (λ entry. is_accepting entry.reply) past

abbrev pub refused_count : List Entry → ℕ
refused_count past = count_by (λ entry. is_refusing entry.reply) past

-- the four lines, by what they count
abbrev pub parts_line : Group → List ℕ
parts_line g = line (codes "devices") (decimal (length g.devices) ∷ codes "links" ∷ decimal (length g.links) ∷ codes "promises" ∷ decimal (length g.promises) ∷ [])

abbrev pub receipts_line : ℕ → ℕ → ℕ → ℕ → List ℕ
receipts_line entries v accepted refused = line (codes "entries")
    (decimal entries ∷ codes "version" ∷ decimal v ∷ codes "accepted" ∷ decimal accepted ∷ codes "refused" ∷ decimal refused ∷ [])

abbrev pub sent_line : ℕ → ℕ → ℕ → List ℕ
sent_line commands_sent reports_made unsettled = line (codes "commands")
    (decimal commands_sent ∷ codes "reports" ∷ decimal reports_made ∷ codes "unsettled" ∷ decimal unsettled ∷ [])

abbrev pub held_line : ℕ → ℕ → List ℕ
held_line start now = line (codes "start") (decimal start ∷ codes "now" ∷ decimal now ∷ [])

abbrev pub sums_text : Group → List Entry → List ℕ
sums_text g past =
    parts_line g ++
    receipts_line (length past) (version past) (accepted_count past) (refused_count past) ++
    sent_line (length (commands g past)) (length (reports g past)) (length (unsettled_words g past)) ++
    held_line (kept_count g (actual g [])) (kept_count g (actual g past))
