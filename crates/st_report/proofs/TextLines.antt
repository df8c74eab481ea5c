-- What is printed of what was gathered is the report's lines.
use Rattle.std.proofs.Common.{◌≡◌, ◌∙◌, ℕ, List, [], ◌∷◌, ◌++◌, map, drop, refl, sym, ap, append_assoc}
use Rattle.std.specs.Prelude.{codes, decimal, flat_map}
use Rattle.std.proofs.lemmas.Grind.{flat_map-append}
use Rattle.std.proofs.lemmas.List.{append-nil, map-append}
use Rattle.st_text.specs.Words.{ended, line_text, text_of, spaced, line}
use Rattle.st_text.proofs.PrintLemmas.{line_bytes}
use Rattle.st_event.specs.declared.act.Log.{Log}
use Rattle.st_event.specs.History.{History}
use Rattle.st_entry.specs.Words.{Words}
use Rattle.st_entry.proofs.Lines.{unspaced}
use Rattle.st_report.specs.Inside.{summary_of, summaries_of, head_text, whole_lines, lines_behind, wire_text, promise_text, summary_text, whole_text}
use Rattle.st_report.specs.Lines.{lock_words, receipt_words, withdrawn_words, target_words, unsettled_words, lost_words, read_words}
use Rattle.st_report.specs.Text.{headed, head_lines, wire_words, promise_words, group_lines, report_text_of}

-- the text of lines behind lines
text_both : (xs ys : List Words) → text_of (xs ++ ys) ≡ text_of xs ++ text_of ys
text_both xs ys = ap (flat_map ended) (map-append line_text xs ys) ∙ flat_map-append ended (map line_text xs) (map line_text ys)

-- lines with a space between their words: each word behind a space, without the first
pub all_unspaced : (lines : List Words) → map (drop 1) (map spaced lines) ≡ map line_text lines
all_unspaced [] = refl
all_unspaced (words ∷ lines) = ap (λ t. t ∷ map (drop 1) (map spaced lines)) (unspaced words) ∙ ap (λ t. line_text words ∷ t) (all_unspaced lines)

-- whole lines
whole : (lines : List Words) → whole_lines (map spaced lines) ≡ text_of lines
whole [] = refl
whole (words ∷ lines) = ap (λ t. (t ++ 10 ∷ []) ++ whole_lines (map spaced lines)) (unspaced words) ∙ ap (λ t. (line_text words ++ 10 ∷ []) ++ t) (whole lines)

-- a line
one_line : (word : List ℕ) (words : Words) → line word words ≡ ended (line_text (word ∷ words))
one_line word words = sym (line_bytes word words) ∙ append-nil (ended (line_text (word ∷ words)))

-- lines behind a first word of each
behind : (word : List ℕ) (lines : List Words) → lines_behind word (map spaced lines) ≡ text_of (headed word lines)
behind word [] = refl
behind word (words ∷ lines) =
    ap (λ t. t ++ lines_behind word (map spaced lines)) (one_line word words) ∙ ap (λ t. ended (line_text (word ∷ words)) ++ t) (behind word lines)

two : (u v : List ℕ) (us vs : Words) → line u us ++ line v vs ≡ text_of ((u ∷ us) ∷ (v ∷ vs) ∷ [])
two u v us vs = ap (λ t. t ++ line v vs) (one_line u us) ∙ ap (λ t. ended (line_text (u ∷ us)) ++ t) (sym (line_bytes v vs))

three : (u v w : List ℕ) (us vs ws : Words) → line u us ++ line v vs ++ line w ws ≡ text_of ((u ∷ us) ∷ (v ∷ vs) ∷ (w ∷ ws) ∷ [])
three u v w us vs ws = append_assoc (line u us) (line v vs) (line w ws) ∙ (ap (λ t. line u us ++ t) (two v w vs ws) ∙ ap (λ t. t ++ text_of ((v ∷ vs) ∷ (w ∷ ws) ∷ [])) (one_line u us))

-- eight parts, one behind another
eight : (a b c d e f k l : List Words) (s t u v w x y z : List ℕ) → s ≡ text_of a → t ≡ text_of b → u ≡ text_of c → v ≡ text_of d → w ≡ text_of e → x ≡ text_of f → y ≡ text_of k → z ≡ text_of l
    → s ++ t ++ u ++ v ++ w ++ x ++ y ++ z ≡ text_of (a ++ b ++ c ++ d ++ e ++ f ++ k ++ l)
eight a b c d e f k l s t u v w x y z first second third fourth fifth sixth seventh last =
    rw (first, second, third, fourth, fifth, sixth, seventh, last) (sym (simp text_both))

-- the lines of a group
summary_printed : (apps : List (List ℕ)) (h : History) → summary_text (summary_of h.group apps h.past) ≡ text_of (group_lines apps h)
summary_printed apps h =
    let g = h.group in
    let past = h.past in
    let s = summary_of g apps past in
    let counted : wire_text s ++ promise_text s ≡ text_of (wire_words g past ∷ promise_words g past ∷ []) = two (codes "wire") (codes "promises")
    (codes "commands" ∷ decimal s.wire.commands ∷ codes "reports" ∷ decimal s.wire.reports ∷ codes "stale" ∷ decimal s.wire.stale ∷ codes "old" ∷ decimal s.wire.old ∷ [])
    (decimal s.promises.count ∷ codes "start" ∷ decimal s.promises.held_at_start ∷ codes "now" ∷ decimal s.promises.held_at_end ∷ []) in
    let front = head_text s ++ whole_lines s.locks ++ lines_behind (codes "receipt") s.receipts ++ lines_behind (codes "withdrawn") s.withdrawn ++ lines_behind (codes "target") s.targets ++ lines_behind (codes "unsettled") s.unsettled in
    ap (λ t. t ++ lines_behind (codes "lost") s.lost) (append_assoc front (wire_text s) (promise_text s)) ∙
    eight (head_lines g past) (lock_words g apps past) (headed (codes "receipt") (receipt_words g apps past)) (headed (codes "withdrawn") (withdrawn_words g past)) (headed (codes "target") (target_words g past)) (headed (codes "unsettled") (unsettled_words g past)) (wire_words g past ∷ promise_words g past ∷ []) (headed (codes "lost") (lost_words g past))
    (head_text s) (whole_lines s.locks) (lines_behind (codes "receipt") s.receipts) (lines_behind (codes "withdrawn") s.withdrawn) (lines_behind (codes "target") s.targets) (lines_behind (codes "unsettled") s.unsettled) (wire_text s ++ promise_text s) (lines_behind (codes "lost") s.lost)
    (three (codes "group") (codes "version") (codes "entries") (s.name ∷ []) (decimal s.version ∷ []) (decimal s.entries ∷ [])) (whole (lock_words g apps past)) (behind (codes "receipt") (receipt_words g apps past)) (behind (codes "withdrawn") (withdrawn_words g past)) (behind (codes "target") (target_words g past)) (behind (codes "unsettled") (unsettled_words g past)) counted (behind (codes "lost") (lost_words g past))

-- and of all groups
summaries_printed : (apps : List (List ℕ)) (groups : List History) → flat_map summary_text (summaries_of apps groups) ≡ text_of (flat_map (group_lines apps) groups)
summaries_printed apps [] = refl
summaries_printed apps (h ∷ groups) =
    ap (λ t. t ++ flat_map summary_text (summaries_of apps groups)) (summary_printed apps h) ∙
    (ap (λ t. text_of (group_lines apps h) ++ t) (summaries_printed apps groups) ∙ sym (text_both (group_lines apps h) (flat_map (group_lines apps) groups)))

four : (a b c d : List Words) (s t u v : List ℕ) → s ≡ text_of a → t ≡ text_of b → u ≡ text_of c → v ≡ text_of d → s ++ t ++ u ++ v ≡ text_of (a ++ b ++ c ++ d)
four a b c d s t u v first second third last = rw (first, second, third, last) (sym (simp text_both))

-- the whole report
pub report_printed : (groups : List History) (apps : List (List ℕ)) (logs : List Log) → whole_text (summaries_of apps groups) (map spaced (read_words groups apps logs)) ≡ report_text_of groups apps logs
report_printed groups apps logs =
    four ((codes "statesman" ∷ codes "report" ∷ codes "1" ∷ []) ∷ []) (flat_map (group_lines apps) groups) (headed (codes "read") (read_words groups apps logs)) ((codes "end" ∷ []) ∷ []) _ _ _ _
    (sym (line_bytes (codes "statesman") (codes "report" ∷ codes "1" ∷ []))) (summaries_printed apps groups) (behind (codes "read") (read_words groups apps logs)) (sym (line_bytes (codes "end") []))
