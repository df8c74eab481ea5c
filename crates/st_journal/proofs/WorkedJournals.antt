-- Worked examples: a journal of one entry as words, that it is legal, and the same with another ticket.
use Rattle.std.proofs.Common.{◌≡◌, List, [], ◌∷◌, refl, ℕ, arith}
use Rattle.std.specs.Prelude.{true, false, codes}
use Rattle.std.specs.Fmt.{digits}
use Rattle.std.proofs.lemmas.List.Elements.{All-nil, All-cons}
use Rattle.st_net.specs.declared.entity.Entity.TheVariants.{Device}
use Rattle.st_net.specs.declared.entity.Row.{Row}
use Rattle.st_net.specs.declared.entity.Var.TheVariants.{Firmware}
use Rattle.st_net.specs.Groups.{Group, no_group}
use Rattle.st_net.specs.Ranges.{RowFits}
use Rattle.st_event.specs.declared.event.Event.TheVariants.{Submit, Check}
use Rattle.st_event.specs.declared.journal.Entry.{Entry}
use Rattle.st_event.specs.declared.reply.Reply.{Reply}
use Rattle.st_event.specs.declared.reply.Reply.TheVariants.{Queued, Idle}
use Rattle.st_event.specs.Legal.{IsLegal}
use Rattle.st_journal.specs.Printing.{journal_lines}
use Rattle.st_journal.specs.Replaying.{IsFirstWrong}
use Rattle.st_journal.proofs.ReplayLemmas.{wrong_is_illegal}

-- a ToR t1 and a switch a1, which nothing joins
abbrev small : Group
small = record no_group {
  name = codes "dc1";
  device_names = codes "t1" ∷ codes "a1" ∷ [];
  devices = record { tor = true; vals = record { v0 = 1; v1 = 1; v2 = 1; v3 = 1 }; health = 5 } ∷ record { tor = false; vals = record { v0 = 1; v1 = 1; v2 = 1; v3 = 1 }; health = 5 } ∷ [];
}

abbrev firmware : Row
firmware = record { entity = Device 1; var = Firmware; value = 2 }

abbrev asked : Reply → Entry
asked reply = record { event = Submit (record { 0 = 0 }) (firmware ∷ []); reply = reply }

abbrev up : List (List ℕ)
up = codes "up" ∷ []

-- its lines, word by word
in_words : journal_lines small up (asked (Queued 1) ∷ []) ≡ (codes "journal" ∷ codes "dc1" ∷ []) ∷ (codes "1" ∷ codes "submit" ∷ codes "up" ∷ codes "a1.firmware=2" ∷ codes ":" ∷ codes "queued" ∷ codes "1" ∷ []) ∷ []
unfolding digits
in_words = refl

-- an application that there is not has no bytes
without_name : journal_lines small [] (asked (Queued 1) ∷ []) ≡ (codes "journal" ∷ codes "dc1" ∷ []) ∷ (codes "1" ∷ codes "submit" ∷ [] ∷ codes "a1.firmware=2" ∷ codes ":" ∷ codes "queued" ∷ codes "1" ∷ []) ∷ []
unfolding digits
without_name = refl

one_row : RowFits small firmware
one_row = record { entity = omega arith; range = refl }

-- the first proposal gets ticket 1
legal : IsLegal small (asked (Queued 1) ∷ [])
legal = (
  record {
    room = omega arith;
    fits = record { some = omega arith; few = omega arith; each = All-cons (RowFits small) firmware [] one_row (All-nil (RowFits small)); apart = refl };
    answer = refl;
  },
  tt,
)

-- with ticket 2 it is the first wrong entry
another_ticket : IsFirstWrong small (asked (Queued 2) ∷ []) 1
another_ticket = record { before = []; wrong = asked (Queued 2); after = []; entries_are = refl; number = refl; legal = tt; differs = λ (e : Queued 2 ≡ Queued 1). absurd cc }

-- behind it a check is not answered as if nothing waited
nothing_waits : IsFirstWrong small (asked (Queued 1) ∷ record { event = Check; reply = Idle } ∷ []) 2
nothing_waits = record { before = asked (Queued 1) ∷ []; wrong = record { event = Check; reply = Idle }; after = []; entries_are = refl; number = refl; legal = legal; differs = λ e. absurd cc }

-- no entry of the legal journal is wrong
none_wrong : (n : ℕ) → IsFirstWrong small (asked (Queued 1) ∷ []) n → ⊥
none_wrong n wrong = wrong_is_illegal small (asked (Queued 1) ∷ []) n wrong legal
