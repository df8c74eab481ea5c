-- Worked examples on rooms, on how a service starts, and on what it hands out once it is closed.
use Rattle.std.proofs.Common.{◌≡◌, ℕ, zero, suc, ◌+◌, ◌<◌, List, [], ◌∷◌, length, slice_index_or, refl, ap, sym, subst, ◌∙◌, arith, length-append}
use Rattle.std.specs.Prelude.{Bool, true, false, sum_by}
use Rattle.std.proofs.lemmas.List.{append-nil}
use Rattle.st_line.specs.Lines.{LineName}
use Rattle.st_net.specs.declared.entity.Row.{Row}
use Rattle.st_net.specs.Groups.{Group, no_group, IsSound}
use Rattle.st_event.specs.declared.act.LogEntry.{LogEntry}
use Rattle.st_event.specs.declared.act.LogSaw.TheVariants.{Seen}
use Rattle.st_net.specs.declared.entity.Var.TheVariants.{Firmware}
use Rattle.st_event.specs.declared.journal.Entry.{Entry}
use Rattle.st_event.specs.History.{History}
use Rattle.st_event.specs.Legal.{IsLegal}
use Rattle.st_board.specs.Published.{Published}
use Rattle.st_wire.specs.declared.line.WireKind.TheVariants.{Command}
use Rattle.st_wire.specs.declared.line.WireLine.{WireLine}
use Rattle.st_wire.specs.declared.line.WireLine.TheVariants.{Drop}
use Rattle.st_world.specs.World.{WorldView}
use Rattle.st_service.specs.declared.start.RoomLines.{RoomLines}
use Rattle.st_service.specs.Asked.{all_own, requests_of, requests_in}
use Rattle.st_service.specs.Closed.{positions, Stands, entered, IsWhole}
use Rattle.st_service.specs.Made.{Made, past_in}
use Rattle.st_service.specs.Opened.{AreLinesOf, AreWorldsOf, IsFresh}
use Rattle.st_service.specs.Passes.{Holder, front_at, mine_at, reader_at}
use Rattle.st_service.specs.Rooms.{RoomView, IsRoom, IsSameRoom, WasRefused, Adds}
use Rattle.st_service.proofs.WorkedJournals.{small, a1, firmware, lock, unlock, idle, made, decided}
use Rattle.st_service.proofs.WorkedLines.{three, places, no_places, one_place}

-- A room

abbrev book : ℕ → LineName
book n = record { book = record { number = 0; log_name = 0; cells_name = 0 }; key = n }

abbrev published : List (List Row) → Published
published proposals = record { book = book 0; group = small; proposals = proposals; ended = false }

-- the firmware was accepted
abbrev history : History
history = record { group = small; past = past_in decided }

pub room : IsRoom history (published (firmware 2 ∷ [])) false
room = record { group = refl; going = refl; begun = ([], refl); whole = λ e. refl }

-- the value of the first row
abbrev value_of : List Row → ℕ
value_of [] = 0
value_of (row ∷ rows) = row.value

abbrev value_in : List (List Row) → ℕ
value_in [] = 0
value_in (rows ∷ later) = value_of rows

-- a room whose publication was refused
pub spent_room : IsRoom history (published []) true
spent_room = record { group = refl; going = refl; begun = (firmware 2 ∷ [], refl); whole = λ e. absurd (cc e) }

pub not_of_another_group : IsRoom history (record { book = book 0; group = no_group; proposals = firmware 2 ∷ []; ended = false }) false → ⊥
not_of_another_group r = absurd (omega (arith, ap (λ (g : Group). length g.devices) r.group))

pub not_ended : IsRoom history (record { book = book 0; group = small; proposals = firmware 2 ∷ []; ended = true }) false → ⊥
not_ended r = absurd (cc (r.going))

-- a spent room may lack rows, and has no others; one that is not spent lacks none
pub not_other_rows : IsRoom history (published (firmware 3 ∷ [])) true → ⊥
not_other_rows r = absurd (omega (arith, ap value_in r.begun.1))

pub not_unpublished : IsRoom history (published []) false → ⊥
not_unpublished r = let none : [] ≡ firmware 2 ∷ [] = r.whole refl in absurd (cc none)

-- The same room

abbrev view : Group → List WireLine → ℕ → RoomView
view g lines n = record {
  history = record { group = g; past = past_in decided };
  lines = lines;
  published = record { book = book n; group = g; proposals = firmware 2 ∷ []; ended = false };
  spent = false;
}

-- the same room with another journal, with other rows published, and spent
pub same_room : IsSameRoom (view small [] 0) (record { history = record { group = small; past = [] }; lines = []; published = published []; spent = true })
same_room = record { group = refl; lines = refl; board = refl }

pub not_another_group : IsSameRoom (view small [] 0) (view no_group [] 0) → ⊥
not_another_group s = absurd (omega (arith, ap (λ (g : Group). length g.devices) s.group))

pub not_another_plan : IsSameRoom (view small [] 0) (view small (Drop Command 1 ∷ []) 0) → ⊥
not_another_plan s = absurd (omega (arith, ap length s.lines))

pub not_another_board : IsSameRoom (view small [] 0) (view small [] 1) → ⊥
not_another_board s = absurd (omega (arith, ap (λ (b : LineName). b.key) s.board))

-- the publication of the firmware was refused
abbrev accepts : List (List Row) → Bool → RoomView
accepts proposals spent = record { history = history; lines = []; published = published proposals; spent = spent }

pub was_refused : WasRefused (accepts [] false) (accepts [] true)
was_refused = record { board = refl; more = omega arith }

-- the rows were published, or nothing more was accepted
pub not_published : WasRefused (accepts [] false) (accepts (firmware 2 ∷ []) true) → ⊥
not_published r = absurd (omega (arith, ap (λ (b : Published). length b.proposals) r.board))

pub not_without_more : WasRefused (accepts (firmware 2 ∷ []) false) (accepts (firmware 2 ∷ []) true) → ⊥
not_without_more r = let more : 1 < 1 = r.more in absurd (omega (arith, more))

-- What a call adds to a journal

pub adds_two : Adds 0 2 (lock 0 ∷ []) (unlock 0 ∷ idle ∷ lock 0 ∷ [])
adds_two = record { more = unlock 0 ∷ idle ∷ []; all = refl; own = refl; few = omega arith }

pub adds_nothing : Adds 0 0 (lock 1 ∷ []) (lock 1 ∷ [])
adds_nothing = record { more = []; all = refl; own = refl; few = omega arith }

-- an old entry went
pub not_less : Adds 0 2 (lock 0 ∷ []) [] → ⊥
not_less a = absurd (omega (arith, ap length a.all ∙ length-append a.more (lock 0 ∷ [])))

-- a request of another application
pub not_anothers : Adds 0 2 [] (unlock 1 ∷ []) → ⊥
not_anothers a =
    let more : a.more ≡ unlock 1 ∷ [] = sym (a.all ∙ append-nil a.more) in
    let own : false ≡ true = subst (λ es. all_own 0 es ≡ true) more a.own in
    absurd (cc own)

-- more than the most
pub not_many : Adds 0 1 (lock 0 ∷ []) (unlock 0 ∷ idle ∷ lock 0 ∷ []) → ⊥
not_many a = absurd (omega (arith, ap length a.all ∙ length-append a.more (lock 0 ∷ []), a.few))

-- The start

-- the line of room k's journal is book k, and that of its board book 10 + k
abbrev room_lines : ℕ → ℕ → RoomLines
room_lines m n = record { journal = book m; board = book n }

abbrev board : ℕ → LineName
board k = book (10 + k)

abbrev two_rooms : List RoomLines
two_rooms = room_lines 0 10 ∷ room_lines 1 11 ∷ []

two_lines : (k : ℕ) (d : RoomLines) → k < 2 → ((slice_index_or two_rooms k d).journal ≡ book k) × ((slice_index_or two_rooms k d).board ≡ board k)
two_lines zero d lt = (refl, refl)
two_lines (suc zero) d lt = (refl, refl)
two_lines (suc (suc k)) d lt = absurd (omega (arith, lt))

pub lines_in_order : AreLinesOf book board two_rooms
lines_in_order = two_lines

pub no_lines : AreLinesOf book board []
no_lines = λ k d lt. absurd (omega (arith, lt))

pub not_the_second_twice : AreLinesOf book board (room_lines 0 10 ∷ room_lines 0 11 ∷ []) → ⊥
not_the_second_twice lines = absurd (omega (arith, ap (λ (b : LineName). b.key) (lines 1 (room_lines 0 0) (omega arith)).0))

pub not_boards_exchanged : AreLinesOf book board (room_lines 0 11 ∷ room_lines 1 10 ∷ []) → ⊥
not_boards_exchanged lines = absurd (omega (arith, ap (λ (b : LineName). b.key) (lines 0 (room_lines 0 0) (omega arith)).1))

-- worlds at their opening; how much room they have is not said
abbrev world : Group → List Entry → List WireLine → WorldView
world g past lines = record { history = record { group = g; past = past }; lines = lines; room = 7 }

abbrev groups : ℕ → Group
groups k = small

abbrev plans : ℕ → List WireLine
plans k = []

abbrev opening : List WorldView
opening = world small [] [] ∷ []

one_world : (k : ℕ) (d : WorldView) → k < 1 → ((slice_index_or opening k d).history ≡ record { group = small; past = [] }) × ((slice_index_or opening k d).lines ≡ [])
one_world zero d lt = (refl, refl)
one_world (suc k) d lt = absurd (omega (arith, lt))

pub worlds : AreWorldsOf groups plans opening
worlds = one_world

pub not_later_worlds : AreWorldsOf groups plans (world small (idle ∷ []) [] ∷ []) → ⊥
not_later_worlds w = absurd (omega (arith, ap (λ (h : History). length h.past) (w 0 (world small [] []) (omega arith)).0))

pub not_other_worlds : AreWorldsOf groups plans (world no_group [] [] ∷ []) → ⊥
not_other_worlds w = absurd (omega (arith, ap (λ (h : History). length h.group.devices) (w 0 (world small [] []) (omega arith)).0))

pub not_with_another_plan : AreWorldsOf groups plans (world small [] (Drop Command 1 ∷ []) ∷ []) → ⊥
not_with_another_plan w = absurd (omega (arith, ap length (w 0 (world small [] []) (omega arith)).1))

-- Passes at the start

abbrev pass : ℕ → List (List Made) → List (List ℕ) → List (List Row) → List LogEntry → Holder
pass n fronts mines proposals log = record { number = n; fronts = fronts; mines = mines; readers = published proposals ∷ []; log = log }

nothing_seen : (k : ℕ) → front_at ([] ∷ [] ∷ []) k ≡ []
nothing_seen zero = refl
nothing_seen (suc zero) = refl
nothing_seen (suc (suc k)) = refl

nothing_made : (k : ℕ) → mine_at ([] ∷ [] ∷ []) k ≡ []
nothing_made zero = refl
nothing_made (suc zero) = refl
nothing_made (suc (suc k)) = refl

nothing_read : (k : ℕ) → (reader_at (published [] ∷ []) k).proposals ≡ []
nothing_read zero = refl
nothing_read (suc k) = refl

pub fresh : IsFresh 1 2 (pass 1 ([] ∷ [] ∷ []) ([] ∷ [] ∷ []) [] [])
fresh = record { numbered = refl; rooms_are = (refl, refl); unseen = nothing_seen; unmade = nothing_made; unread = nothing_read; unlogged = refl }

pub not_of_another_number : IsFresh 1 2 (pass 0 ([] ∷ [] ∷ []) ([] ∷ [] ∷ []) [] []) → ⊥
not_of_another_number f = absurd (omega (arith, f.numbered))

pub not_of_one_room : IsFresh 1 2 (pass 1 ([] ∷ []) ([] ∷ [] ∷ []) [] []) → ⊥
not_of_one_room f = absurd (omega (arith, f.rooms_are.0))

pub not_with_one_list : IsFresh 1 2 (pass 1 ([] ∷ [] ∷ []) ([] ∷ []) [] []) → ⊥
not_with_one_list f = absurd (omega (arith, f.rooms_are.1))

pub not_with_entries_seen : IsFresh 1 2 (pass 1 ([] ∷ (made 0 idle ∷ []) ∷ []) ([] ∷ [] ∷ []) [] []) → ⊥
not_with_entries_seen f = absurd (omega (arith, ap length (f.unseen 1)))

pub not_with_entries_made : IsFresh 1 2 (pass 1 ([] ∷ [] ∷ []) ((0 ∷ []) ∷ [] ∷ []) [] []) → ⊥
not_with_entries_made f = absurd (omega (arith, ap length (f.unmade 0)))

pub not_with_rows_read : IsFresh 1 2 (pass 1 ([] ∷ [] ∷ []) ([] ∷ [] ∷ []) (firmware 2 ∷ []) []) → ⊥
not_with_rows_read f = absurd (omega (arith, ap length (f.unread 0)))

pub not_with_a_log : IsFresh 1 2 (pass 1 ([] ∷ [] ∷ []) ([] ∷ [] ∷ []) [] (record { group = 0; entity = a1; var = Firmware; saw = Seen 0 1 } ∷ [])) → ⊥
not_with_a_log f = absurd (omega (arith, ap length f.unlogged))

-- The end

-- pass 0 made two of three entries, pass 1 one of them, and pass 2 none
made_by_each : (positions 0 0 three ≡ 0 ∷ 2 ∷ []) × (positions 1 0 three ≡ 1 ∷ []) × (positions 2 0 three ≡ []) × (positions 1 5 three ≡ 6 ∷ [])
made_by_each = (refl, refl, refl, refl)

-- pass 0 has seen the whole journal, and pass 1 the first two entries
abbrev first_pass : Holder
first_pass = pass 0 (three ∷ []) ((0 ∷ 2 ∷ []) ∷ []) [] []

abbrev second_pass : Holder
second_pass = pass 1 ((made 0 (lock 0) ∷ made 1 idle ∷ []) ∷ []) ((1 ∷ []) ∷ []) [] []

entered_by_each : (entered first_pass ≡ 2) × (entered (pass 0 [] ((0 ∷ 2 ∷ []) ∷ [] ∷ (4 ∷ []) ∷ []) [] []) ≡ 3) × (entered (pass 0 [] [] [] []) ≡ 0)
entered_by_each = (refl, refl, refl)

pub first_stands : Stands first_pass three 0
first_stands = record { begins = ([], refl); mine = places; reads = ([], refl) }

pub second_stands : Stands second_pass three 0
second_stands = record { begins = (made 0 (unlock 0) ∷ [], refl); mine = one_place 1 1 three (omega arith) refl; reads = ([], refl) }

-- the pass has seen what is not in the journal
pub not_of_another_journal : Stands (pass 0 ((made 0 idle ∷ []) ∷ []) ((0 ∷ 2 ∷ []) ∷ []) [] []) three 0 → ⊥
not_of_another_journal s = absurd (cc (s.begins.1))

-- the pass lists another pass's entry
pub not_anothers_entry : Stands (pass 0 (three ∷ []) ((0 ∷ 1 ∷ []) ∷ []) [] []) three 0 → ⊥
not_anothers_entry s = absurd (omega (arith, s.mine.made 1 (omega arith)))

-- the pass's reader has rows that were not accepted
pub not_read_ahead : Stands (pass 0 (three ∷ []) ((0 ∷ 2 ∷ []) ∷ []) (firmware 2 ∷ []) []) three 0 → ⊥
not_read_ahead s = absurd (cc (s.reads.1))

-- A whole journal

abbrev passes : List Holder
passes = first_pass ∷ second_pass ∷ []

legal : IsLegal small (past_in three)
legal = (
  record { room = omega arith; fits = omega arith; answer = refl },
  (record { room = omega arith; fits = tt; answer = refl }, (record { room = omega arith; fits = omega arith; answer = refl }, tt)),
)

pub sound : IsSound small
sound = record {
  name = refl;
  device_names = refl;
  link_names = refl;
  names = refl;
  new = refl;
  few_devices = omega arith;
  few_tors = omega arith;
  few_links = omega arith;
  few_promises = omega arith;
  devices = (record { vals = refl; health = omega arith }, tt);
  links = tt;
  promises = tt;
  pairs = refl;
}

both_stand : (n : ℕ) (p : Holder) → n < 2 → Stands (slice_index_or passes n p) three 0
both_stand zero p lt = first_stands
both_stand (suc zero) p lt = second_stands
both_stand (suc (suc n)) p lt = absurd (omega (arith, lt))

lists_whole : (n : ℕ) (p : Holder) → n < 2 → mine_at (slice_index_or passes n p).mines 0 ≡ positions n 0 three
lists_whole zero p lt = refl
lists_whole (suc zero) p lt = refl
lists_whole (suc (suc n)) p lt = absurd (omega (arith, lt))

requests_listed : (n : ℕ) (p : Holder) → n < 2 → requests_of n 0 three ≡ requests_in three (mine_at (slice_index_or passes n p).mines 0)
requests_listed zero p lt = refl
requests_listed (suc zero) p lt = refl
requests_listed (suc (suc n)) p lt = absurd (omega (arith, lt))

pub whole : IsWhole small passes 0 (lock 0 ∷ idle ∷ unlock 0 ∷ []) three
whole = record { journal = refl; legal = legal; sound = sound; stands = both_stand; made = lists_whole; asked = requests_listed; count = refl }

-- an entry is not in the journal
pub not_an_entry_less : IsWhole small passes 0 (lock 0 ∷ idle ∷ []) three → ⊥
not_an_entry_less w = absurd (omega (arith, ap length w.journal))

-- an application gives back a lock that it does not hold
abbrev unheld : Made
unheld = made 0 (unlock 0)

pub not_illegal : IsWhole small (pass 0 ((unheld ∷ []) ∷ []) ((0 ∷ []) ∷ []) [] [] ∷ []) 0 (unlock 0 ∷ []) (unheld ∷ []) → ⊥
not_illegal w = absurd (cc (w.legal.0.answer))

-- the group has no name
pub not_of_an_unsound_group : IsWhole (record small { name = [] }) passes 0 (lock 0 ∷ idle ∷ unlock 0 ∷ []) three → ⊥
not_of_an_unsound_group w = absurd (cc (w.sound.name))

-- a reader has what was not accepted
pub not_with_a_reader_ahead : IsWhole small (pass 0 (three ∷ []) ((0 ∷ 2 ∷ []) ∷ []) (firmware 2 ∷ []) [] ∷ second_pass ∷ []) 0 (lock 0 ∷ idle ∷ unlock 0 ∷ []) three → ⊥
not_with_a_reader_ahead w = not_read_ahead (w.stands 0 first_pass (omega arith))

-- a pass does not list all of its entries: the count refuses that too
pub not_with_an_unlisted_entry : IsWhole small (pass 0 (three ∷ []) ((0 ∷ []) ∷ []) [] [] ∷ second_pass ∷ []) 0 (lock 0 ∷ idle ∷ unlock 0 ∷ []) three → ⊥
not_with_an_unlisted_entry w = absurd (omega (arith, ap length (w.made 0 first_pass (omega arith))))

-- the request of application 0 was made by pass 1, which lists it
abbrev anothers : Made
anothers = made 1 (lock 0)

abbrev with_anothers : List Holder
with_anothers = pass 0 ([] ∷ []) ([] ∷ []) [] [] ∷ pass 1 ((anothers ∷ []) ∷ []) ((0 ∷ []) ∷ []) [] [] ∷ []

pub not_with_anothers_request : IsWhole small with_anothers 0 (lock 0 ∷ []) (anothers ∷ []) → ⊥
not_with_anothers_request w = absurd (omega (arith, ap length (w.asked 0 first_pass (omega arith))))

-- every other point of a whole journal holds here
anothers_stand : (n : ℕ) (p : Holder) → n < 2 → Stands (slice_index_or with_anothers n p) (anothers ∷ []) 0
anothers_stand zero p lt = record { begins = (anothers ∷ [], refl); mine = no_places 0 (anothers ∷ []); reads = ([], refl) }
anothers_stand (suc zero) p lt = record { begins = ([], refl); mine = one_place 1 0 (anothers ∷ []) (omega arith) refl; reads = ([], refl) }
anothers_stand (suc (suc n)) p lt = absurd (omega (arith, lt))

anothers_listed : (n : ℕ) (p : Holder) → n < 2 → mine_at (slice_index_or with_anothers n p).mines 0 ≡ positions n 0 (anothers ∷ [])
anothers_listed zero p lt = refl
anothers_listed (suc zero) p lt = refl
anothers_listed (suc (suc n)) p lt = absurd (omega (arith, lt))

pub else_whole : IsLegal small (past_in (anothers ∷ [])) × (sum_by (λ (p : Holder). length (mine_at p.mines 0)) with_anothers ≡ 1)
else_whole = ((record { room = omega arith; fits = omega arith; answer = refl }, tt), refl)

-- an entry was made by none of the passes
abbrev without_maker : List Holder
without_maker = pass 0 ([] ∷ []) ([] ∷ []) [] [] ∷ []

pub not_by_nobody : IsWhole small without_maker 0 (idle ∷ []) (made 7 idle ∷ []) → ⊥
not_by_nobody w = absurd (omega (arith, w.count))

-- every other point of a whole journal holds here
nobodys_stand : (n : ℕ) (p : Holder) → n < 1 → Stands (slice_index_or without_maker n p) (made 7 idle ∷ []) 0
nobodys_stand zero p lt = record { begins = (made 7 idle ∷ [], refl); mine = no_places 0 (made 7 idle ∷ []); reads = ([], refl) }
nobodys_stand (suc n) p lt = absurd (omega (arith, lt))

pub else_made : IsLegal small (past_in (made 7 idle ∷ [])) × (positions 0 0 (made 7 idle ∷ []) ≡ []) × (requests_of 0 0 (made 7 idle ∷ []) ≡ [])
else_made = ((record { room = omega arith; fits = tt; answer = refl }, tt), refl, refl)
