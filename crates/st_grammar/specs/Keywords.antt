-- The words that lines begin with, and the phases and the versions of a document in which they stand.
use Rattle.std.specs.Prelude.{ℕ, List, if◌then◌else◌, Option, Some, None, bytes_eq, codes, option_map}
use Rattle.st_grammar.specs.declared.keyword.Keyword.{Keyword}
use Rattle.st_grammar.specs.declared.keyword.Keyword.TheVariants as keywords
use Rattle.st_grammar.specs.declared.keyword.PartWord.{PartWord}
use Rattle.st_grammar.specs.declared.keyword.PartWord.TheVariants as part_words
use Rattle.st_grammar.specs.declared.keyword.WireWord.{WireWord}
use Rattle.st_grammar.specs.declared.keyword.WireWord.TheVariants as wire_words
use Rattle.st_grammar.specs.declared.keyword.ActWord.{ActWord}
use Rattle.st_grammar.specs.declared.keyword.ActWord.TheVariants as act_words

-- the words of a group's section, of wire lines and of acts
abbrev pub part_word_of : List ℕ → Option PartWord
part_word_of word =
    if bytes_eq word (codes "device") then Some part_words.Device else (
    if bytes_eq word (codes "link") then Some part_words.Link else (
    if bytes_eq word (codes "promise") then Some part_words.Promise else (
    if bytes_eq word (codes "open") then Some part_words.Open else (
    if bytes_eq word (codes "health") then Some part_words.Health else None))))

abbrev pub wire_word_of : List ℕ → Option WireWord
wire_word_of word =
    if bytes_eq word (codes "drop") then Some wire_words.Drop else (
    if bytes_eq word (codes "repeat") then Some wire_words.Repeat else (
    if bytes_eq word (codes "hold") then Some wire_words.Hold else None))

abbrev pub act_word_of : List ℕ → Option ActWord
act_word_of word =
    if bytes_eq word (codes "propose") then Some act_words.Propose else (
    if bytes_eq word (codes "await") then Some act_words.Await else (
    if bytes_eq word (codes "settle") then Some act_words.Settle else (
    if bytes_eq word (codes "lock") then Some act_words.Lock else (
    if bytes_eq word (codes "unlock") then Some act_words.Unlock else (
    if bytes_eq word (codes "read") then Some act_words.Read else (
    if bytes_eq word (codes "readat") then Some act_words.ReadAt else (
    if bytes_eq word (codes "fail") then Some act_words.Fail else (
    if bytes_eq word (codes "poll") then Some act_words.Poll else None))))))))

-- the first choice, or else the second
abbrev pub keyword_or : Option Keyword → Option Keyword → Option Keyword
keyword_or (Some keyword) later = Some keyword
keyword_or None later = later

-- the keyword of a word
abbrev pub keyword_of : List ℕ → Option Keyword
keyword_of word =
    if bytes_eq word (codes "group") then Some keywords.Group else (
    if bytes_eq word (codes "app") then Some keywords.App else (
    if bytes_eq word (codes "order") then Some keywords.Order else
    keyword_or (option_map keywords.Part (part_word_of word)) (keyword_or (option_map keywords.Wire (wire_word_of word)) (option_map keywords.Act (act_word_of word)))))

-- the phase of a keyword's lines
abbrev pub phase_of : Keyword → ℕ
phase_of keywords.Group = 1
phase_of (keywords.Part word) = 1
phase_of (keywords.Wire word) = 2
phase_of keywords.App = 3
phase_of (keywords.Act word) = 3
phase_of keywords.Order = 4

-- the lowest version of a document in which a keyword's lines may stand
abbrev pub since : Keyword → ℕ
since keywords.Group = 1
since (keywords.Part word) = 1
since (keywords.Wire word) = 1
since keywords.App = 1
since (keywords.Act word) = 1
since keywords.Order = 1
