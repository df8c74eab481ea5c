-- Worked examples on what one hold leaves with a pass, and on what holds of a pass whatever a call answers.
use Rattle.std.proofs.Common.{◌≡◌, ◌≢◌, ℕ, zero, suc, ◌+◌, List, [], ◌∷◌, ◌++◌, length, inl, inr, refl, ap, sym, subst, arith, length-append}
use Rattle.std.specs.Prelude.{true, false}
use Rattle.std.proofs.lemmas.List.{append-nil}
use mathlib.Core.List.{IsPrefix}
use Rattle.st_net.specs.declared.entity.Prio.TheVariants.{Low}
use Rattle.st_net.specs.declared.entity.Row.{Row}
use Rattle.st_event.specs.declared.event.Event.TheVariants.{Check, Unlock}
use Rattle.st_event.specs.declared.journal.Entry.{Entry}
use Rattle.st_event.specs.declared.journal.TheConstants.{MAX_ENTRIES}
use Rattle.st_board.specs.Published.{Published}
use Rattle.st_world.specs.Rounds.{Course, course_from, enter_all}
use Rattle.st_world.specs.declared.world.rounds.Going.TheVariants.{On, Full}
use Rattle.st_event.proofs.Prefixes.{prefix_self}
use Rattle.st_service.specs.Kept.{AllWithin, Grows, Kept}
use Rattle.st_service.specs.Lines.{tagged, numbers}
use Rattle.st_service.specs.Made.{Made, past_in, maker}
use Rattle.st_service.specs.Passes.{Holder, no_reader, front_at, mine_at, reader_at}
use Rattle.st_service.specs.Puts.{Puts, Enters, EntersPart, EntersOrNot}
use Rattle.st_service.proofs.Lines.{length_tagged, length_numbers}
use Rattle.st_service.proofs.WorkedJournals.{small, a1, app, firmware, lock, unlock, idle, made}

-- One hold

-- pass 0 has seen its lock; behind it pass 1 checked, and now pass 0 enters its unlock and a check
abbrev seen : List Made
seen = made 0 (lock 0) ∷ []

abbrev mid : List Made
mid = made 0 (lock 0) ∷ made 1 idle ∷ []

abbrev after : List Made
after = made 0 (lock 0) ∷ made 1 idle ∷ made 0 (unlock 0) ∷ made 0 idle ∷ []

abbrev both : List Entry
both = unlock 0 ∷ idle ∷ []

pub puts_two : Puts 0 both mid seen (0 ∷ []) after (0 ∷ 2 ∷ 3 ∷ [])
puts_two = ((made 1 idle ∷ [], refl), refl, refl)

-- what was seen is no beginning of the journal
pub not_from_elsewhere : Puts 0 both mid (made 1 idle ∷ []) (0 ∷ []) after (0 ∷ 2 ∷ 3 ∷ []) → ⊥
not_from_elsewhere p = absurd (omega (arith, ap (λ (f : List Made). maker f 0) p.0.1))

-- the entries have another's number, one of them is lost, or another's stands between them
pub not_for_another : Puts 1 both mid seen (0 ∷ []) after (0 ∷ 2 ∷ 3 ∷ []) → ⊥
not_for_another p = absurd (omega (arith, ap (λ (f : List Made). maker f 2) p.1))

pub not_one_lost : Puts 0 both mid seen (0 ∷ []) (mid ++ made 0 (unlock 0) ∷ []) (0 ∷ 2 ∷ 3 ∷ []) → ⊥
not_one_lost p = absurd (cc (p.1))

pub not_apart : Puts 0 both mid seen (0 ∷ []) (mid ++ made 0 (unlock 0) ∷ made 1 idle ∷ made 0 idle ∷ []) (0 ∷ 2 ∷ 3 ∷ []) → ⊥
not_apart p = absurd (cc (p.1))

-- a place is not listed, or an old one went
pub not_unlisted : Puts 0 both mid seen (0 ∷ []) after (0 ∷ 2 ∷ []) → ⊥
not_unlisted p = absurd (cc (p.2))

pub not_forgotten : Puts 0 both mid seen (0 ∷ []) after (2 ∷ 3 ∷ []) → ⊥
not_forgotten p = absurd (cc (p.2))

-- Courses

-- an unlock and a check, wherever the journal stands
abbrev course : List Entry → Course
course past = enter_all small (course_from past) (Unlock (app 0) a1 Low ∷ Check ∷ [])

pub enters_two : Enters course On 0 mid seen (0 ∷ []) after (0 ∷ 2 ∷ 3 ∷ [])
enters_two = record { entries = both; puts = puts_two; run = refl; full = λ e. absurd (cc e) }

-- behind a full journal nothing is entered
abbrev stopped : List Entry → Course
stopped past = record { past = past; stopped = true }

pub enters_none : (front : List Made) (was : List ℕ) → length front ≡ MAX_ENTRIES → Enters stopped Full 0 front front was front was
enters_none front was full = record { entries = []; puts = (prefix_self front, sym (append-nil front), sym (append-nil was)); run = refl; full = λ e. full }

-- a hold adds as many places as entries
as_many : (es : List Entry) (mid before after : List Made) (was now : List ℕ) → Puts 0 es mid before was after now → length now + length mid ≡ length was + length after
as_many es mid before after was now p =
    let entries = length-append mid (tagged 0 es) in
    let tags = length_tagged 0 es in
    let places = length-append was (numbers (length mid) (length es)) in
    let numbered = length_numbers (length mid) (length es) in
    omega (arith, ap length p.1, entries, tags, ap length p.2, places, numbered)

-- the places are not those of what was entered
pub not_unlisted_course : Enters course On 0 mid seen (0 ∷ []) after (0 ∷ []) → ⊥
not_unlisted_course e = absurd (omega (arith, as_many e.entries mid seen after (0 ∷ []) (0 ∷ []) e.puts))

-- only a part of the course was entered, and that is no course
pub not_a_part : Enters course On 0 mid seen (0 ∷ []) (mid ++ made 0 (unlock 0) ∷ []) (0 ∷ 2 ∷ []) → ⊥
not_a_part e = absurd (omega (arith, ap (λ (run : Course). length run.past) e.run))

-- the course goes on, and the answer is Full
pub not_told_full : Enters course Full 0 mid seen (0 ∷ []) after (0 ∷ 2 ∷ 3 ∷ []) → ⊥
not_told_full e = absurd (cc (ap (λ (run : Course). run.stopped) e.run))

-- the course stopped before the journal was full
pub not_full_early : Enters stopped Full 0 seen seen (0 ∷ []) seen (0 ∷ []) → ⊥
not_full_early e = absurd (omega (arith, e.full refl))

-- Want of memory

pub part_of_two : EntersPart course 0 mid seen (0 ∷ []) (mid ++ made 0 (unlock 0) ∷ []) (0 ∷ 2 ∷ [])
part_of_two = record { entries = unlock 0 ∷ []; puts = ((made 1 idle ∷ [], refl), refl, refl); part = (idle ∷ [], refl) }

-- the whole course is a part, and so is nothing
pub whole_is_part : EntersPart course 0 mid seen (0 ∷ []) after (0 ∷ 2 ∷ 3 ∷ [])
whole_is_part = record { entries = both; puts = puts_two; part = ([], refl) }

pub none_is_part : EntersPart course 0 mid seen (0 ∷ []) mid (0 ∷ [])
none_is_part = record { entries = []; puts = ((made 1 idle ∷ [], refl), refl, refl); part = (idle ∷ unlock 0 ∷ [], refl) }

-- an entry that is in the journal and not in the list
abbrev one_more : List Made
one_more = mid ++ made 0 (unlock 0) ∷ []

pub not_an_unlisted_part : EntersPart course 0 mid seen (0 ∷ []) one_more (0 ∷ []) → ⊥
not_an_unlisted_part e = absurd (omega (arith, as_many e.entries mid seen one_more (0 ∷ []) (0 ∷ []) e.puts))

-- more than the course asks for
abbrev thrice : List Made
thrice = mid ++ made 0 (unlock 0) ∷ made 0 idle ∷ made 0 idle ∷ []

pub not_more : EntersPart course 0 mid seen (0 ∷ []) thrice (0 ∷ 2 ∷ 3 ∷ 4 ∷ []) → ⊥
not_more e = absurd (omega (arith, ap length (e.part.1), length-append e.part.0 (past_in thrice)))

-- nothing was entered and nothing seen, or a part was entered
pub nothing_seen : EntersOrNot course 0 mid seen (0 ∷ []) seen (0 ∷ [])
nothing_seen = inl (refl, refl)

pub a_part_seen : EntersOrNot course 0 mid seen (0 ∷ []) (mid ++ made 0 (unlock 0) ∷ []) (0 ∷ 2 ∷ [])
a_part_seen = inr part_of_two

-- a place alone is neither
pub not_a_place_alone : EntersOrNot course 0 mid seen (0 ∷ []) seen (0 ∷ 1 ∷ []) → ⊥
not_a_place_alone (inl e) = absurd (cc (e.1))
not_a_place_alone (inr e) = absurd (omega (arith, ap length (e.puts.1), length-append mid (tagged 0 e.entries)))

-- Places within bounds

pub within_bounds : AllWithin 2 4 (2 ∷ 3 ∷ [])
within_bounds = (omega arith, omega arith, (omega arith, omega arith, tt))

pub none_within : AllWithin 4 4 []
none_within = tt

pub not_below : AllWithin 2 4 (2 ∷ 1 ∷ []) → ⊥
not_below w = absurd (omega (arith, w.2.0))

pub not_at_the_end : AllWithin 2 4 (4 ∷ 3 ∷ []) → ⊥
not_at_the_end w = absurd (omega (arith, w.1))

-- What a call adds

pub grows_by_two : Grows 2 seen (0 ∷ []) after (0 ∷ 2 ∷ 3 ∷ [])
grows_by_two = ((made 1 idle ∷ made 0 (unlock 0) ∷ made 0 idle ∷ [], refl), (2 ∷ 3 ∷ [], refl, omega arith, (omega arith, omega arith, (omega arith, omega arith, tt))))

-- the front did not go on
pub not_back : Grows 2 after (0 ∷ []) seen (0 ∷ []) → ⊥
not_back g = absurd (cc (g.0.1))

-- an old place went
pub not_replaced : Grows 2 seen (0 ∷ []) after (2 ∷ 3 ∷ []) → ⊥
not_replaced g = absurd (cc (g.1.1))

-- more places than were allowed
pub not_over_the_most : Grows 1 seen (0 ∷ []) after (0 ∷ 2 ∷ 3 ∷ []) → ⊥
not_over_the_most g = absurd (omega (arith, g.1.2, ap length (g.1.1)))

-- the place of an entry that had been seen
pub not_an_old_place : Grows 2 seen (0 ∷ []) after (0 ∷ 0 ∷ []) → ⊥
not_an_old_place g = let more : g.1.0 ≡ 0 ∷ [] = cc (g.1.1) in absurd (omega (arith, (subst (λ ns. AllWithin 1 4 ns) more g.1.3).0))

-- a place behind the new front
pub not_a_later_place : Grows 2 seen (0 ∷ []) mid (0 ∷ 2 ∷ []) → ⊥
not_a_later_place g = let more : g.1.0 ≡ 2 ∷ [] = cc (g.1.1) in absurd (omega (arith, (subst (λ ns. AllWithin 1 2 ns) more g.1.3).1))

-- What holds of a pass

abbrev reader : List (List Row) → Published
reader proposals = record { book = no_reader.book; group = small; proposals = proposals; ended = false }

abbrev pass : ℕ → List (List Made) → List (List ℕ) → List (List Row) → Holder
pass n fronts mines proposals = record { number = n; fronts = fronts; mines = mines; readers = reader proposals ∷ reader [] ∷ []; log = [] }

-- of two rooms, and then after a call on the first of them
abbrev old : Holder
old = pass 0 (seen ∷ seen ∷ []) ((0 ∷ []) ∷ (0 ∷ []) ∷ []) (firmware 2 ∷ [])

abbrev new : Holder
new = pass 0 (after ∷ seen ∷ []) ((0 ∷ 2 ∷ 3 ∷ []) ∷ (0 ∷ []) ∷ []) (firmware 2 ∷ firmware 3 ∷ [])

other_room : (k : ℕ) → k ≢ 0 → (front_at new.fronts k ≡ front_at old.fronts k) × (mine_at new.mines k ≡ mine_at old.mines k)
other_room zero apart = absurd (apart refl)
other_room (suc zero) apart = (refl, refl)
other_room (suc (suc k)) apart = (refl, refl)

readers_go_on : (k : ℕ) → IsPrefix (reader_at old.readers k).proposals (reader_at new.readers k).proposals
readers_go_on zero = (firmware 3 ∷ [], refl)
readers_go_on (suc zero) = ([], refl)
readers_go_on (suc (suc k)) = ([], refl)

pub kept : Kept old new 0 2
kept = record { number = refl; rooms = (refl, refl); others = other_room; grows = grows_by_two; readers = readers_go_on }

pub not_another_number : Kept old (record new { number = 1 }) 0 2 → ⊥
not_another_number k = absurd (omega (arith, k.number))

-- a room more, of which nothing was seen, and a list of places for no room
pub not_a_room_more : Kept old (record new { fronts = after ∷ seen ∷ [] ∷ [] }) 0 2 → ⊥
not_a_room_more k = absurd (omega (arith, k.rooms.0))

pub not_a_list_more : Kept old (record new { mines = (0 ∷ 2 ∷ 3 ∷ []) ∷ (0 ∷ []) ∷ [] ∷ [] }) 0 2 → ⊥
not_a_list_more k = absurd (omega (arith, k.rooms.1))

-- a call on the first room, by which another room's front or its places went on
pub not_another_front : Kept old (record new { fronts = after ∷ mid ∷ [] }) 0 2 → ⊥
not_another_front k = absurd (omega (arith, ap length (k.others 1 (λ (e : 1 ≡ 0). absurd (omega (arith, e)))).0))

pub not_anothers_places : Kept old (record new { mines = (0 ∷ 2 ∷ 3 ∷ []) ∷ [] ∷ [] }) 0 2 → ⊥
not_anothers_places k = absurd (omega (arith, ap length (k.others 1 (λ (e : 1 ≡ 0). absurd (omega (arith, e)))).1))

pub not_more_than_most : Kept old new 0 1 → ⊥
not_more_than_most k = not_over_the_most k.grows

-- a reader's front went back
pub not_unread : Kept old (record new { readers = reader [] ∷ reader [] ∷ [] }) 0 2 → ⊥
not_unread k = absurd (cc ((k.readers 0).1))
