-- The line of an entry is read as the entry.
use Rattle.std.proofs.Common.{◌≡◌, ℕ, ◌<◌, List, [], ◌∷◌, ◌++◌, length, refl, sym, subst, arith}
use Rattle.std.specs.Prelude.{true, ◌&&◌, nat_le, ◌^◌, Some, Ok, codes, decimal}
use Rattle.std.specs.List.{AllByRecursion}
use Rattle.st_text.specs.Words.{IsWord}
use Rattle.st_net.proofs.Tests.{at_most}
use Rattle.st_net.specs.Groups.{Group, IsSound}
use Rattle.st_event.specs.declared.journal.Entry.{Entry}
use Rattle.st_token.proofs.PrintedTokens.{number_is_word, literal, within_again}
use Rattle.st_entry.specs.declared.keyword.EventWord.{EventWord}
use Rattle.st_entry.specs.declared.keyword.ReplyWord.{ReplyWord}
use Rattle.st_entry.specs.Keywords.{event_word, reply_word, reply_mark}
use Rattle.st_entry.specs.Words.{Words}
use Rattle.st_entry.specs.Entries.{event_words, reply_words, entry_words}
use Rattle.st_journal.specs.EntryWords.{replies_of, reply_among, takes_event_tokens, takes_reply_tokens}
use Rattle.st_journal.specs.EntryReading.{cut_at_colon, parts_of, event_part_of, reply_part_of, entry_of}
use Rattle.st_journal.specs.ReadingBack.{AreNames}
use Rattle.st_journal.proofs.PrintedEvents.{IsSpelled, event_keyword, event_args, event_words_are, event_named_again, event_again, event_counted, few_rows, IsEventToken, event_tokens}
use Rattle.st_journal.proofs.PrintedReplies.{IsOfEvent, ReplyFits, reply_keyword, reply_args, reply_words_are, reply_named_again, reply_again, reply_counted, reply_is_words}

-- an entry of this number, whose words say what it is: its event and its reply do, and the event takes the reply
pub record IsReadable (g : Group) (apps : List (List ℕ)) (n : ℕ) (entry : Entry) : Type 0 where
  pub event : IsSpelled g apps entry.event
  pub reply : ReplyFits g apps n entry.reply
  pub own : IsOfEvent entry.event entry.reply
  pub taken : reply_among (replies_of (event_keyword entry.event)) (reply_word (reply_keyword entry.reply)) ≡ Some (reply_keyword entry.reply)

-- an event's words end at the mark
cut_again : (tokens behind : Words) → AllByRecursion IsEventToken tokens → cut_at_colon (tokens ++ reply_mark ∷ behind) ≡ Some (tokens, behind)
cut_again [] behind all = refl
cut_again (token ∷ tokens) behind all = rw (all.0.unmarked, cut_again tokens behind all.1) refl

parts_again : (event : EventWord) (args : Words) (reply : ReplyWord) (behind : Words) → AllByRecursion IsEventToken (event_word event ∷ args) → takes_event_tokens event (length args) ≡ true → takes_reply_tokens reply behind ≡ true
    → parts_of ((event_word event ∷ args) ++ reply_mark ∷ (reply_word reply ∷ behind)) ≡ Ok (event_word event ∷ args, reply_word reply ∷ behind)
unfolding parts_of
parts_again event args reply behind all counted more = rw (cut_again (event_word event ∷ args) (reply_word reply ∷ behind) all, event_named_again event, counted, reply_named_again reply, more) refl

event_part_again : (event : EventWord) (args : Words) → event_part_of (event_word event ∷ args) ≡ Ok (event, args)
unfolding event_part_of
event_part_again event args = rw (event_named_again event) refl

reply_part_again : (event : EventWord) (reply : ReplyWord) (args : Words) → reply_among (replies_of event) (reply_word reply) ≡ Some reply → reply_part_of event (reply_word reply ∷ args) ≡ Ok (reply, args)
unfolding reply_part_of
reply_part_again event reply args taken = rw taken refl

itself : (n : ℕ) → (nat_le n n && nat_le n n) ≡ true
itself n = rw (at_most n n (omega arith)) refl

by_words : (g : Group) (apps : List (List ℕ)) (n : ℕ) (entry : Entry) → IsSound g → AreNames apps → n < 2 ^ 32 → IsReadable g apps n entry
    → entry_of g apps n (decimal n) ((event_word (event_keyword entry.event) ∷ event_args g apps entry.event) ++ reply_mark ∷ (reply_word (reply_keyword entry.reply) ∷ reply_args g apps entry.reply)) ≡ Ok entry
unfolding entry_of
by_words g apps n entry sound are less is =
    rw (
      parts_again (event_keyword entry.event) (event_args g apps entry.event) (reply_keyword entry.reply) (reply_args g apps entry.reply) (event_tokens g apps entry.event sound are is.event) (event_counted g apps entry.event is.event) (reply_counted g apps sound are n entry.reply is.reply),
      within_again n n n less (itself n),
      event_part_again (event_keyword entry.event) (event_args g apps entry.event),
      reply_part_again (event_keyword entry.event) (reply_keyword entry.reply) (reply_args g apps entry.reply) is.taken,
      event_again g apps entry.event sound are is.event,
      reply_again g apps sound are n entry.event entry.reply is.reply is.own,
      few_rows g entry.event is.event.fits,
    ) refl

-- what stands behind an entry's number says the entry
pub entry_again : (g : Group) (apps : List (List ℕ)) (n : ℕ) (entry : Entry) → IsSound g → AreNames apps → n < 2 ^ 32 → IsReadable g apps n entry
    → entry_of g apps n (decimal n) (event_words g apps entry.event ++ reply_mark ∷ reply_words g apps entry.reply) ≡ Ok entry
entry_again g apps n entry sound are less is = rw (event_words_are g apps entry.event, reply_words_are g apps entry.reply) (by_words g apps n entry sound are less is)

-- its words can stand in a line
words_both : (xs ys : Words) → AllByRecursion IsWord xs → AllByRecursion IsWord ys → AllByRecursion IsWord (xs ++ ys)
words_both [] ys a b = b
words_both (x ∷ xs) ys a b = (a.0, words_both xs ys a.1 b)

tokens_are_words : (tokens : Words) → AllByRecursion IsEventToken tokens → AllByRecursion IsWord tokens
tokens_are_words [] all = tt
tokens_are_words (token ∷ tokens) all = (all.0.word, tokens_are_words tokens all.1)

pub entry_is_words : (g : Group) (apps : List (List ℕ)) (n : ℕ) (entry : Entry) → IsSound g → AreNames apps → n < 2 ^ 32 → IsReadable g apps n entry → AllByRecursion IsWord (entry_words g apps n entry)
entry_is_words g apps n entry sound are less is =
    let event : AllByRecursion IsWord (event_words g apps entry.event) = subst (AllByRecursion IsWord) (sym (event_words_are g apps entry.event)) (tokens_are_words (event_word (event_keyword entry.event) ∷ event_args g apps entry.event) (event_tokens g apps entry.event sound are is.event)) in
    let reply : AllByRecursion IsWord (reply_words g apps entry.reply) = subst (AllByRecursion IsWord) (sym (reply_words_are g apps entry.reply)) (reply_is_words g apps sound are n entry.reply is.reply) in
    (number_is_word n less, words_both (event_words g apps entry.event) (reply_mark ∷ reply_words g apps entry.reply) event (literal (codes ":") refl refl, reply))
