-- What `serde_json` prints of what was gathered is the report's line.
use Rattle.std.proofs.Common.{◌≡◌, ◌∙◌, ℕ, ◌+◌, ◌<◌, true, false, List, [], ◌∷◌, ◌++◌, length, get_or, map, take, drop, ap, ap₂, sym, refl, arith, append_assoc, codes}
use Rattle.std.specs.Prelude.{decimal}
use Rattle.std.specs.List.{list_all}
use Rattle.std.proofs.lemmas.Bool.Decides.{nat_tests}
use Rattle.std.proofs.lemmas.Fmt.{decimal_digit}
use Rattle.std.proofs.lemmas.List.{map_more, take_more}
use Rattle.json.specs.Print.{escape, escape_byte, quoted}
use Rattle.serde_json.specs.Data.{Data, Items, array, item, no_items, string}
use Rattle.serde_json.specs.View.{view, items_view}
use Rattle.serde_json.specs.Written.{compact_text, items_text, has_float, items_have_float}
use Rattle.serde_json.specs.declared.value.Value.{Value}
use Rattle.st_text.specs.Words.{spaced}
use Rattle.st_net.proofs.Tests.{both}
use Rattle.st_event.specs.declared.act.Log.{Log}
use Rattle.st_event.specs.History.{History}
use Rattle.st_entry.specs.Words.{Words}
use Rattle.st_report.specs.declared.report.Summary.{Summary}
use Rattle.st_report.specs.declared.report.WireCounts.{WireCounts}
use Rattle.st_report.specs.Inside.{summary_of, summaries_of}
use Rattle.st_report.specs.Json.{in_quotes, after_commas, in_brackets, list_of_texts, list_of_lines, joined, group_json, report_json_of}
use Rattle.st_report.specs.JsonInside.{without_space, strings, lines_data, group_data, groups_data, report_data, is_plain_summary}
use Rattle.st_report.specs.Lines.{lock_words, receipt_words, withdrawn_words, target_words, unsettled_words, lost_words, read_words}
use Rattle.st_entry.specs.Plain.{is_plain_byte, is_plain}
use Rattle.st_entry.proofs.Plain.{rest_plain}
use Rattle.st_report.proofs.TextLines.{all_unspaced}

-- a plain text has no escapes
byte_plain : (b : ℕ) → is_plain_byte b ≡ true → escape_byte b ≡ b ∷ []
unfolding escape_byte
byte_plain b h = grind (arith, nat_tests)

escape_plain : (text : List ℕ) → is_plain text ≡ true → escape text ≡ text
escape_plain [] h = refl
escape_plain (b ∷ more) h = let parts = both (is_plain_byte b) (is_plain more) h in rw (byte_plain b parts.0) (ap (λ xs. b ∷ xs) (escape_plain more parts.1))

quoted_plain : (text : List ℕ) → is_plain text ≡ true → quoted text ≡ in_quotes text
quoted_plain text h = ap (λ e. 34 ∷ (e ++ 34 ∷ [])) (escape_plain text h)

-- a list of plain texts
more_texts : (texts : List (List ℕ)) → list_all is_plain texts ≡ true → items_text true (strings texts) ≡ after_commas (map in_quotes texts) ++ 93 ∷ []
more_texts [] h = refl
more_texts (text ∷ more) h =
    let parts = both (is_plain text) (list_all is_plain more) h in
    ap (λ xs. 44 ∷ xs) (ap₂ (λ a b. a ++ b) (quoted_plain text parts.0) (more_texts more parts.1) ∙ sym (append_assoc (in_quotes text) _ _))

texts_printed : (texts : List (List ℕ)) → list_all is_plain texts ≡ true → compact_text (array (strings texts)) ≡ list_of_texts texts
texts_printed [] h = refl
texts_printed (text ∷ more) h =
    let parts = both (is_plain text) (list_all is_plain more) h in
    ap (λ xs. 91 ∷ xs) (ap₂ (λ a b. a ++ b) (quoted_plain text parts.0) (more_texts more parts.1) ∙ sym (append_assoc (in_quotes text) _ _))

all_rest_plain : (texts : List (List ℕ)) → list_all is_plain texts ≡ true → list_all is_plain (without_space texts) ≡ true
all_rest_plain [] h = refl
all_rest_plain (text ∷ more) h = let parts = both (is_plain text) (list_all is_plain more) h in rw (rest_plain text parts.0) (all_rest_plain more parts.1)

-- lines, of which each word was spelled behind a space
lines_printed : (lines : List Words) → list_all is_plain (map spaced lines) ≡ true → compact_text (lines_data (map spaced lines)) ≡ list_of_lines lines
lines_printed lines h = texts_printed (without_space (map spaced lines)) (all_rest_plain (map spaced lines) h) ∙ ap list_of_texts (all_unspaced lines)

-- what stands where the texts of a group do
abbrev wire_pieces : WireCounts → List ℕ
wire_pieces w = joined (
    codes "{\"commands\":" ∷ decimal w.commands ∷
    codes ",\"old\":" ∷ decimal w.old ∷
    codes ",\"reports\":" ∷ decimal w.reports ∷
    codes ",\"stale\":" ∷ decimal w.stale ∷ codes "}" ∷ [])

unfoldable around : Summary → List ℕ → List ℕ → List ℕ → List ℕ → List ℕ → List ℕ → List ℕ → List ℕ
around s name locks lost receipts targets unsettled withdrawn = joined (
    codes "{\"entries\":" ∷ decimal s.entries ∷
    codes ",\"locks\":" ∷ locks ∷
    codes ",\"lost\":" ∷ lost ∷
    codes ",\"name\":" ∷ name ∷
    codes ",\"now\":" ∷ decimal s.promises.held_at_end ∷
    codes ",\"promises\":" ∷ decimal s.promises.count ∷
    codes ",\"receipts\":" ∷ receipts ∷
    codes ",\"start\":" ∷ decimal s.promises.held_at_start ∷
    codes ",\"targets\":" ∷ targets ∷
    codes ",\"unsettled\":" ∷ unsettled ∷
    codes ",\"version\":" ∷ decimal s.version ∷
    codes ",\"wire\":" ∷ wire_pieces s.wire ∷
    codes ",\"withdrawn\":" ∷ withdrawn ∷ codes "}" ∷ [])

printed_around : (s : Summary) → compact_text (group_data s)
    ≡ around s (quoted s.name) (compact_text (lines_data s.locks)) (compact_text (lines_data s.lost))
    (compact_text (lines_data s.receipts)) (compact_text (lines_data s.targets)) (compact_text (lines_data s.unsettled)) (compact_text (lines_data s.withdrawn))
unfolding around escape_byte
printed_around s = refl

text_around : (apps : List (List ℕ)) (h : History) → around (summary_of h.group apps h.past) (in_quotes h.group.name) (list_of_lines (lock_words h.group apps h.past)) (list_of_lines (lost_words h.group h.past))
    (list_of_lines (receipt_words h.group apps h.past)) (list_of_lines (target_words h.group h.past)) (list_of_lines (unsettled_words h.group h.past)) (list_of_lines (withdrawn_words h.group h.past)) ≡ group_json apps h
unfolding around
text_around apps h = refl

group_printed : (apps : List (List ℕ)) (h : History) → is_plain_summary (summary_of h.group apps h.past) ≡ true → compact_text (group_data (summary_of h.group apps h.past)) ≡ group_json apps h
group_printed apps h plain =
    let s = summary_of h.group apps h.past in
    let a = both _ _ plain in
    let b = both _ _ a.1 in
    let c = both _ _ b.1 in
    let d = both _ _ c.1 in
    let e = both _ _ d.1 in
    let f = both _ _ e.1 in
    printed_around s
    ∙ (λ i. around s (quoted_plain h.group.name a.0 i) (lines_printed (lock_words h.group apps h.past) b.0 i) (lines_printed (lost_words h.group h.past) c.0 i)
    (lines_printed (receipt_words h.group apps h.past) d.0 i) (lines_printed (target_words h.group h.past) e.0 i) (lines_printed (unsettled_words h.group h.past) f.0 i) (lines_printed (withdrawn_words h.group h.past) f.1 i))
    ∙ text_around apps h

more_groups : (apps : List (List ℕ)) (groups : List History) → list_all is_plain_summary (summaries_of apps groups) ≡ true → items_text true (groups_data (summaries_of apps groups)) ≡ after_commas (map (group_json apps) groups) ++ 93 ∷ []
more_groups apps [] plain = refl
more_groups apps (h ∷ more) plain =
    let parts = both (is_plain_summary (summary_of h.group apps h.past)) (list_all is_plain_summary (summaries_of apps more)) plain in
    ap (λ xs. 44 ∷ xs) (ap₂ (λ a b. a ++ b) (group_printed apps h parts.0) (more_groups apps more parts.1) ∙ sym (append_assoc (group_json apps h) _ _))

groups_printed : (apps : List (List ℕ)) (groups : List History) → list_all is_plain_summary (summaries_of apps groups) ≡ true → compact_text (array (groups_data (summaries_of apps groups))) ≡ in_brackets (map (group_json apps) groups)
groups_printed apps [] plain = refl
groups_printed apps (h ∷ more) plain =
    let parts = both (is_plain_summary (summary_of h.group apps h.past)) (list_all is_plain_summary (summaries_of apps more)) plain in
    ap (λ xs. 91 ∷ xs) (ap₂ (λ a b. a ++ b) (group_printed apps h parts.0) (more_groups apps more parts.1) ∙ sym (append_assoc (group_json apps h) _ _))

-- nothing of it is a float
strings_floatless : (texts : List (List ℕ)) → items_have_float (strings texts) ≡ false
strings_floatless [] = refl
strings_floatless (text ∷ more) = strings_floatless more

group_floatless : (s : Summary) → has_float (group_data s) ≡ false
group_floatless s = rw (
  strings_floatless (without_space s.locks),
  strings_floatless (without_space s.lost),
  strings_floatless (without_space s.receipts),
  strings_floatless (without_space s.targets),
  strings_floatless (without_space s.unsettled),
  strings_floatless (without_space s.withdrawn),
) refl

groups_floatless : (groups : List Summary) → items_have_float (groups_data groups) ≡ false
groups_floatless [] = refl
groups_floatless (s ∷ more) = rw (group_floatless s) (groups_floatless more)

pub report_floatless : (groups : List Summary) (reads : List (List ℕ)) → has_float (report_data groups reads) ≡ false
report_floatless groups reads = rw (groups_floatless groups, strings_floatless (without_space reads)) refl

-- one more item
abbrev with_last : Items → Data → Items
with_last no_items d = item d no_items
with_last (item e es) d = item e (with_last es d)

items_last : (values : List Value) (v : Value) → items_view (values ++ v ∷ []) ≡ with_last (items_view values) (view v)
items_last [] v = refl
items_last (x ∷ xs) v = ap (item (view x)) (items_last xs v)

strings_last : (texts : List (List ℕ)) (text : List ℕ) → strings (texts ++ text ∷ []) ≡ with_last (strings texts) (string text)
strings_last [] text = refl
strings_last (t ∷ ts) text = ap (item (string t)) (strings_last ts text)

groups_last : (groups : List Summary) (s : Summary) → groups_data (groups ++ s ∷ []) ≡ with_last (groups_data groups) (group_data s)
groups_last [] s = refl
groups_last (x ∷ xs) s = ap (item (group_data x)) (groups_last xs s)

pub lines_step : (texts : List (List ℕ)) (values : List Value) (v : Value) (i : ℕ) (text : List ℕ) → i < length texts → text ≡ get_or texts i text
    → view v ≡ string (drop 1 text) → items_view values ≡ strings (without_space (take i texts))
    → items_view (values ++ v ∷ []) ≡ strings (without_space (take (i + 1) texts))
lines_step texts values v i text less is one same =
    items_last values v ∙ ap₂ with_last same (one ∙ ap (λ t. string (drop 1 t)) is)
    ∙ sym (ap strings (map_more (drop 1) texts i text less) ∙ strings_last (without_space (take i texts)) (drop 1 (get_or texts i text)))

pub groups_step : (groups : List Summary) (values : List Value) (v : Value) (i : ℕ) (s : Summary) → i < length groups → s ≡ get_or groups i s
    → view v ≡ group_data s → items_view values ≡ groups_data (take i groups)
    → items_view (values ++ v ∷ []) ≡ groups_data (take (i + 1) groups)
groups_step groups values v i s less is one same =
    items_last values v ∙ ap₂ with_last same (one ∙ ap group_data is)
    ∙ sym (ap groups_data (take_more groups i s less) ∙ groups_last (take i groups) (get_or groups i s))

-- the whole line
unfoldable line_around : List ℕ → List ℕ → List ℕ
line_around groups reads = joined (codes "{\"groups\":" ∷ groups ∷ codes ",\"reads\":" ∷ reads ∷ codes ",\"statesman\":1}\n" ∷ [])

last_moves : (p a q b r t : List ℕ) → (p ++ (a ++ (q ++ (b ++ r)))) ++ t ≡ p ++ (a ++ (q ++ (b ++ (r ++ t))))
last_moves p a q b r t = simp append_assoc

printed_in_line : (groups : List Summary) (reads : List (List ℕ)) → compact_text (report_data groups reads) ++ 10 ∷ []
    ≡ line_around (compact_text (array (groups_data groups))) (compact_text (lines_data reads))
unfolding line_around escape_byte
printed_in_line groups reads =
    let a = compact_text (array (groups_data groups)) in
    let b = compact_text (lines_data reads) in
    ap (λ d. (codes "{\"groups\":" ++ (a ++ (codes ",\"reads\":" ++ (b ++ (codes ",\"statesman\":" ++ (d ++ codes "}")))))) ++ 10 ∷ []) (decimal_digit 1 (omega arith))
    ∙ last_moves (codes "{\"groups\":") a (codes ",\"reads\":") b (codes ",\"statesman\":1}") (10 ∷ [])

text_in_line : (groups : List History) (apps : List (List ℕ)) (logs : List Log) → line_around (in_brackets (map (group_json apps) groups)) (list_of_lines (read_words groups apps logs)) ≡ report_json_of groups apps logs
unfolding line_around
text_in_line groups apps logs = refl

pub report_printed : (groups : List History) (apps : List (List ℕ)) (logs : List Log) (summaries : List Summary) (reads : List (List ℕ)) (text : List ℕ) → summaries ≡ summaries_of apps groups → reads ≡ map spaced (read_words groups apps logs)
    → list_all is_plain_summary summaries ≡ true → list_all is_plain reads ≡ true → text ≡ compact_text (report_data summaries reads) → text ++ 10 ∷ [] ≡ report_json_of groups apps logs
report_printed groups apps logs summaries reads text gathered read plain plain_reads is =
    let groups_plain : list_all is_plain_summary (summaries_of apps groups) ≡ true = ap (list_all is_plain_summary) (sym gathered) ∙ plain in
    let reads_plain : list_all is_plain (map spaced (read_words groups apps logs)) ≡ true = ap (list_all is_plain) (sym read) ∙ plain_reads in
    let whole : text ≡ compact_text (report_data (summaries_of apps groups) (map spaced (read_words groups apps logs))) = is ∙ ap₂ (λ s r. compact_text (report_data s r)) gathered read in
    ap (λ t. t ++ 10 ∷ []) whole ∙ printed_in_line (summaries_of apps groups) (map spaced (read_words groups apps logs)) ∙ ap₂ line_around (groups_printed apps groups groups_plain) (lines_printed (read_words groups apps logs) reads_plain) ∙ text_in_line groups apps logs

-- what its texts are, one by one
pub seven_plain : (s : Summary) → is_plain s.name ≡ true → list_all is_plain s.locks ≡ true → list_all is_plain s.lost ≡ true → list_all is_plain s.receipts ≡ true → list_all is_plain s.targets ≡ true → list_all is_plain s.unsettled ≡ true → list_all is_plain s.withdrawn ≡ true → is_plain_summary s ≡ true
seven_plain s name locks lost receipts targets unsettled withdrawn = rw (name, locks, lost, receipts, targets, unsettled, withdrawn) refl
