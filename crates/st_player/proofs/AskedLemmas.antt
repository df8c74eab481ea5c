-- The entries that gave tickets: in a legal journal the one that stands at place k of them was answered that it waits with ticket k.
use Rattle.std.proofs.Common.{◌≡◌, ◌∙◌, ℕ, zero, suc, ◌+◌, ◌<◌, Bool, true, false, List, [], ◌∷◌, ◌++◌, length, drop, get_or, Some, None, refl, sym, ap, ap₂, subst, inl, inr, arith, length-append, length-drop}
use Rattle.std.specs.Prelude.{◌⊎◌, ◌==◌, codes, nat_lt, option_map, pred, reverse, slice_get, if◌then◌else◌}
use Rattle.std.proofs.lemmas.Bool.Decides.{nat_tests}
use Rattle.std.proofs.lemmas.List.{length-reverse, reverse-append}
use Rattle.std.proofs.lemmas.Option.{slice_get-get_or}
use Rattle.serde_json.specs.Find.{get}
use Rattle.st_net.specs.Groups.{Group}
use Rattle.st_net.specs.Numbered.{nth}
use Rattle.st_net.proofs.Tests.{nth_pushed}
use Rattle.st_event.specs.declared.event.Event.{Event}
use Rattle.st_event.specs.declared.event.Event.TheVariants.{Submit}
use Rattle.st_event.specs.declared.event.Proposal.{Proposal}
use Rattle.st_event.specs.declared.journal.Entry.{Entry}
use Rattle.st_event.specs.declared.journal.TheConstants.{MAX_PENDING}
use Rattle.st_event.specs.declared.reply.Receipt.{Receipt}
use Rattle.st_event.specs.declared.reply.Reply.{Reply}
use Rattle.st_event.specs.declared.reply.Reply.TheVariants.{Queued, Full, Decided}
use Rattle.st_event.specs.Legal.{IsLegal}
use Rattle.st_event.specs.Proposals.{pending, proposals, verdicts}
use Rattle.st_event.specs.Replies.{check_reply, receipt_of, reply}
use Rattle.st_player.specs.Entries.{asked_of, askers, entry_data}
use Rattle.st_player.specs.Json.{number_data}
use Rattle.st_player.specs.Laws.{AskedGaveTicket, GaveTicket}
use Rattle.st_player.specs.PlayedBack.{number_in}
use Rattle.st_player.proofs.ToldEntries.{asked_in}

-- an item of a list with one more at its end is one of the list, or is the last at its own number
get_last : {X : Type 0} (xs : List X) (x y : X) (k : ℕ) → slice_get (xs ++ x ∷ []) k ≡ Some y → (slice_get xs k ≡ Some y) ⊎ ((y ≡ x) × (k ≡ length xs))
get_last [] x y zero is = inr (cc, refl)
get_last [] x y (suc k) is = cc
get_last (z ∷ xs) x y zero is = inl is
get_last (z ∷ xs) x y (suc k) is = one_later (get_last xs x y k is)
  where
    one_later : (slice_get xs k ≡ Some y) ⊎ ((y ≡ x) × (k ≡ length xs)) → (slice_get xs k ≡ Some y) ⊎ ((y ≡ x) × (suc k ≡ length (z ∷ xs)))
    one_later (inl at) = inl at
    one_later (inr last) = inr (last.0, omega (arith, last.1))

number_last : {X : Type 0} (xs : List X) (x y : X) (n : ℕ) → nth (xs ++ x ∷ []) n ≡ Some y → (nth xs n ≡ Some y) ⊎ ((y ≡ x) × (n ≡ length xs + 1))
number_last {X} xs x y n is = by_zero (n == 0) refl is
  where
    numbered : (n == 0) ≡ false → (slice_get xs (pred n) ≡ Some y) ⊎ ((y ≡ x) × (pred n ≡ length xs)) → (slice_get xs (pred n) ≡ Some y) ⊎ ((y ≡ x) × (n ≡ length xs + 1))
    numbered some (inl at) = inl at
    numbered some (inr last) =
        let none : n ≡ 0 → ⊥ = λ zero_is. not_zero n zero_is some in
        inr (last.0, omega (arith, last.1, none))
      where
        not_zero : (n : ℕ) → n ≡ 0 → (n == 0) ≡ false → ⊥
        not_zero n zero_is some = grind (arith, nat_tests)

    by_zero : (none : Bool) → (n == 0) ≡ none → (if none then None else slice_get (xs ++ x ∷ []) (pred n)) ≡ Some y → ((if none then None else slice_get xs (pred n)) ≡ Some y) ⊎ ((y ≡ x) × (n ≡ length xs + 1))
    by_zero true zero_is is = cc
    by_zero false some is = numbered some (get_last xs x y (pred n) is)

get_more : {X : Type 0} (xs : List X) (x y : X) (k : ℕ) → slice_get xs k ≡ Some y → slice_get (xs ++ x ∷ []) k ≡ Some y
get_more [] x y k is = cc
get_more (z ∷ xs) x y zero is = is
get_more (z ∷ xs) x y (suc k) is = get_more xs x y k is

number_more : {X : Type 0} (xs : List X) (x y : X) (n : ℕ) → nth xs n ≡ Some y → nth (xs ++ x ∷ []) n ≡ Some y
number_more {X} xs x y n is = by_zero (n == 0) is
  where
    by_zero : (none : Bool) → (if none then None else slice_get xs (pred n)) ≡ Some y → (if none then None else slice_get (xs ++ x ∷ []) (pred n)) ≡ Some y
    by_zero true is = cc
    by_zero false is = get_more xs x y (pred n) is

-- an item behind so many others
number_at : {X : Type 0} (xs : List X) (i n : ℕ) (y : X) → n ≡ i + 1 → slice_get xs i ≡ Some y → nth xs n ≡ Some y
number_at {X} xs i n y next is = by_zero (n == 0) refl
  where
    by_zero : (none : Bool) → (n == 0) ≡ none → (if none then None else slice_get xs (pred n)) ≡ Some y
    by_zero true zero_is = let none : n ≡ 0 = grind (arith, nat_tests) in absurd (omega (arith, next, none))
    by_zero false some = let at : pred n ≡ i = omega (arith, next) in rw at is

-- each of those that gave tickets did so
record AreAskers (past : List Entry) : Type 0 where
  count : length (askers past) ≡ length (proposals past)
  each : (k n : ℕ) → nth (askers past) k ≡ Some n → GaveTicket past n k

in_order : (entry : Entry) (past : List Entry) → reverse (entry ∷ past) ≡ reverse past ++ entry ∷ []
in_order entry past = reverse-append (entry ∷ []) past

later : (entry : Entry) (past : List Entry) (n k : ℕ) → GaveTicket past n k → GaveTicket (entry ∷ past) n k
later entry past n k gave = record {
  entry = gave.entry;
  at = ap (λ (es : List Entry). nth es n) (in_order entry past) ∙ number_more (reverse past) entry gave.entry n gave.at;
  queued = gave.queued;
}

ticket_is : (room : Bool) (ticket next waiting : ℕ) → Queued ticket ≡ (if room then Queued next else Full waiting) → ticket ≡ next
ticket_is true ticket next waiting is = cc
ticket_is false ticket next waiting is = absurd cc

now_asked : (entry : Entry) (past : List Entry) (ticket : ℕ) → entry.reply ≡ Queued ticket → ticket ≡ length (proposals past) + 1 → AreAskers past → (k n : ℕ) → nth (askers past ++ (length past + 1) ∷ []) k ≡ Some n → GaveTicket (entry ∷ past) n k
now_asked entry past ticket queued next are k n is = by_place (number_last (askers past) (length past + 1) n k is)
  where
    by_place : (nth (askers past) k ≡ Some n) ⊎ ((n ≡ length past + 1) × (k ≡ length (askers past) + 1)) → GaveTicket (entry ∷ past) n k
    by_place (inl at) = later entry past n k (are.each k n at)
    by_place (inr last) =
        let same : ticket ≡ k = omega (arith, next, last.1, are.count) in
        let place : n ≡ length (reverse past) + 1 = omega (arith, last.0, length-reverse past) in
        record {
          entry = entry;
          at = ap (λ (es : List Entry). nth es n) (in_order entry past) ∙ nth_pushed (reverse past) entry n place;
          queued = queued ∙ ap Queued same;
        }

askers_next : (g : Group) (past : List Entry) (event : Event) (answer : Reply) → answer ≡ reply g past event → AreAskers past → AreAskers (record { event = event; reply = answer } ∷ past)
askers_next g past (Submit app rows) (Queued ticket) is are = record {
  count = length-append (askers past) ((length past + 1) ∷ []) ∙ (ap (λ (n : ℕ). n + 1) are.count ∙ sym (length-append (proposals past) (record { app = app; rows = rows } ∷ [])));
  each = now_asked (record { event = Submit app rows; reply = Queued ticket }) past ticket refl (ticket_is (nat_lt (length (pending past)) MAX_PENDING) ticket (length (proposals past) + 1) (length (pending past)) is) are;
}
askers_next g past (Submit app rows) answer is are = record { count = are.count; each = λ k n at. later (record { event = Submit app rows; reply = answer }) past n k (are.each k n at) }
askers_next g past event answer is are = record { count = are.count; each = λ k n at. later (record { event = event; reply = answer }) past n k (are.each k n at) }

are_askers : (g : Group) (past : List Entry) → IsLegal g past → AreAskers past
are_askers g [] legal = record { count = refl; each = λ k n at. none (k == 0) k n at }
  where
    none : (is : Bool) (k n : ℕ) → (if is then None else slice_get [] (pred k)) ≡ Some n → GaveTicket [] n k
    none true k n at = absurd cc
    none false k n at = absurd cc
are_askers g (entry ∷ past) legal = askers_next g past entry.event entry.reply legal.0.answer (are_askers g past legal.1)

-- a check that decides, decides the ticket behind those that are decided, and there is such a one
record Decides (past : List Entry) (receipt : Receipt) : Type 0 where
  ticket : receipt.ticket ≡ length (verdicts past) + 1
  given : length (verdicts past) < length (proposals past)

decided_by : (g : Group) (past : List Entry) (queue : List Proposal) (receipt : Receipt) → pending past ≡ queue → Decided receipt ≡ check_reply g past queue → Decides past receipt
decided_by g past [] receipt waits is = absurd cc
decided_by g past (p ∷ queue) receipt waits is =
    let some : length (drop (length (verdicts past)) (proposals past)) ≡ length (p ∷ queue) = ap length waits in
    record {
      ticket = same_ticket is;
      given = omega (arith, some, length-drop (length (verdicts past)) (proposals past));
    }
  where
    same_ticket : Decided receipt ≡ Decided (receipt_of g past p) → receipt.ticket ≡ length (verdicts past) + 1
    same_ticket is = let same : receipt ≡ receipt_of g past p = cc in ap (λ (r : Receipt). r.ticket) same

asked_there : (past : List Entry) (receipt : Receipt) → AreAskers past → Decides past receipt → (n : ℕ) × (nth (askers past) receipt.ticket ≡ Some n)
asked_there past receipt are decides =
    let i = length (verdicts past) in
    let low : i < length (askers past) = omega (arith, are.count, decides.given) in
    (get_or (askers past) i 0, number_at (askers past) i receipt.ticket (get_or (askers past) i 0) decides.ticket (slice_get-get_or (askers past) i 0 low))

pub asked_gave : AskedGaveTicket
asked_gave g apps past entry receipt legal check decided =
    let are = are_askers g past legal.1 in
    let answer : Decided receipt ≡ check_reply g past (pending past) = sym decided ∙ (legal.0.answer ∙ ap (reply g past) check) in
    let asked = asked_there past receipt are (decided_by g past (pending past) receipt refl answer) in
    let told : number_in (get (codes "asked") (entry_data g apps past entry)) ≡ asked.0 =
    ap number_in (asked_in g apps past entry ∙ (ap₂ (λ (event : Event) (answer : Reply). option_map number_data (asked_of past event answer)) check decided ∙ ap (option_map number_data) asked.1)) in
    subst (λ (n : ℕ). GaveTicket past n receipt.ticket) (sym told) (are.each receipt.ticket asked.0 asked.1)
