-- The oldest proposal is decided first, so an application's latest ticket tells whether one of its proposals is pending.
use Rattle.std.proofs.Common.{◌≡◌, ℕ, zero, suc, ◌<◌, ◌≤◌, List, [], ◌∷◌, length, drop, Bool, true, false, refl, ap, sym, ◌∙◌, arith}
use Rattle.std.specs.Prelude.{◌==◌, ◌||◌, nat_lt, slice_get}
use Rattle.std.specs.Option.{IsSomeAnd}
use Rattle.std.proofs.lemmas.Bool.Decides.{nat_tests}
use Rattle.st_net.specs.declared.entity.AppId.{AppId}
use Rattle.st_net.specs.Numbered.{nth}
use Rattle.st_net.proofs.Tests.{equal_numbers, equal_self, less_is, not_less}
use Rattle.st_event.specs.declared.event.Proposal.{Proposal}
use Rattle.st_event.specs.declared.journal.Entry.{Entry}
use Rattle.st_event.specs.Proposals.{deciders, pending, proposals, verdicts}
use Rattle.st_event.proofs.Standings.{length-deciders}
use Rattle.st_world.specs.Acts.{has_one_of}
use Rattle.st_serial.specs.Decided.{IsLatestOf, IsTicketOf, LatestIsPending}

-- whether a proposal is of an application
abbrev is_of : AppId → Proposal → Bool
is_of app p = p.app.0 == app.0

of_it : (app : AppId) (p : Proposal) → p.app ≡ app → is_of app p ≡ true
of_it app p own = ap (λ (a : AppId). p.app.0 == a.0) (sym own) ∙ equal_self p.app.0

it_is : (app : AppId) (p : Proposal) → is_of app p ≡ true → p.app ≡ app
it_is app p own = let made : ℕ → AppId = λ n. record { 0 = n } in ap made (equal_numbers p.app.0 app.0 own)

-- place k of a list of proposals, counted from 0, has one of the application, and so has ticket k + 1
abbrev IsAt : List Proposal → AppId → ℕ → Type 0
IsAt ps app k = IsSomeAnd (slice_get ps k) (λ p. p.app ≡ app)

no_zero : (k : ℕ) → (suc k == 0) ≡ false
no_zero k = grind (arith, nat_tests)

ticket_at : (ps : List Proposal) (app : AppId) (k : ℕ) → IsAt ps app k → IsSomeAnd (nth ps (suc k)) (λ p. p.app ≡ app)
ticket_at ps app k is = rw (no_zero k) is

place_of : (ps : List Proposal) (app : AppId) (k : ℕ) → IsSomeAnd (nth ps (suc k)) (λ p. p.app ≡ app) → IsAt ps app k
place_of ps app k is = rw (no_zero k) at is

-- one at place k is among those behind the first d of them
one_of_head : (app : AppId) (p : Proposal) (ps : List Proposal) → p.app ≡ app → has_one_of app (p ∷ ps) ≡ true
one_of_head app p ps own = rw (of_it app p own) refl

one_of_tail : (b c : Bool) → c ≡ true → (b || c) ≡ true
one_of_tail true c is = refl
one_of_tail false c is = is

waiting_at : (ps : List Proposal) (app : AppId) (d k : ℕ) → d ≤ k → IsAt ps app k → has_one_of app (drop d ps) ≡ true
waiting_at [] app d k low is = absurd is
waiting_at (p ∷ ps) app zero zero low is = one_of_head app p ps is
waiting_at (p ∷ ps) app zero (suc k) low is = one_of_tail (is_of app p) (has_one_of app ps) (waiting_at ps app zero k (omega arith) is)
waiting_at (p ∷ ps) app (suc d) zero low is = absurd (omega (arith, low))
waiting_at (p ∷ ps) app (suc d) (suc k) low is = waiting_at ps app d k (omega (arith, low)) is

-- and each of these is at such a place
record IsFrom (ps : List Proposal) (app : AppId) (d : ℕ) : Type 0 where
  place : ℕ
  low : d ≤ place
  own : IsAt ps app place

later_place : (p : Proposal) (ps : List Proposal) (app : AppId) (d e : ℕ) → e ≤ suc d → IsFrom ps app d → IsFrom (p ∷ ps) app e
later_place p ps app d e few from = record { place = suc from.place; low = omega (arith, few, from.low); own = from.own }

by_head : (p : Proposal) (ps : List Proposal) (app : AppId) (b : Bool) → is_of app p ≡ b → (b || has_one_of app ps) ≡ true → (has_one_of app ps ≡ true → IsFrom ps app 0) → IsFrom (p ∷ ps) app 0
by_head p ps app true own is rest = record { place = 0; low = omega arith; own = it_is app p own }
by_head p ps app false own is rest = later_place p ps app 0 0 (omega arith) (rest is)

waiting_from : (ps : List Proposal) (app : AppId) (d : ℕ) → has_one_of app (drop d ps) ≡ true → IsFrom ps app d
waiting_from [] app zero is = cc
waiting_from [] app (suc d) is = cc
waiting_from (p ∷ ps) app zero is = by_head p ps app (is_of app p) refl is (waiting_from ps app zero)
waiting_from (p ∷ ps) app (suc d) is = later_place p ps app d (suc d) (omega arith) (waiting_from ps app d is)

-- the latest ticket

undecided_waits : (past : List Entry) (app : AppId) (ticket : ℕ) → IsTicketOf past app ticket → length (deciders past) < ticket → has_one_of app (pending past) ≡ true
undecided_waits past app zero own less = absurd (omega (arith, less))
undecided_waits past app (suc k) own less =
    waiting_at (proposals past) app (length (verdicts past)) k (omega (arith, less, length-deciders past)) (place_of (proposals past) app k own)

by_less : (past : List Entry) (app : AppId) (ticket : ℕ) (b : Bool) → nat_lt (length (deciders past)) ticket ≡ b → IsLatestOf past app ticket → IsFrom (proposals past) app (length (verdicts past)) → length (deciders past) < ticket
by_less past app ticket true is latest from = less_is (length (deciders past)) ticket is
by_less past app ticket false is latest from =
    let decided = not_less (length (deciders past)) ticket is in
    let later : ticket < suc from.place = omega (arith, decided, from.low, length-deciders past) in
    absurd (latest.last (suc from.place) later (ticket_at (proposals past) app from.place from.own))

pub latest_is_pending : LatestIsPending
latest_is_pending past app ticket latest = (
  undecided_waits past app ticket latest.own,
  λ waits. by_less past app ticket (nat_lt (length (deciders past)) ticket) refl latest (waiting_from (proposals past) app (length (verdicts past)) waits),
)
