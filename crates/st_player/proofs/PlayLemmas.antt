-- A group goes through its journal entry by entry: what comes next, what its snapshots show, and which entries there is room for.
use Rattle.std.proofs.Common.{◌≡◌, ◌∙◌, ℕ, zero, suc, ◌+◌, ◌-◌, ◌<◌, ◌≤◌, ◌^◌, true, false, List, [], ◌∷◌, ◌++◌, length, map, get_or, take, drop, refl, sym, ap, subst, arith, append_assoc}
use Rattle.std.specs.Prelude.{nat_le, reverse}
use Rattle.std.proofs.lemmas.Bool.Decides.{nat_tests}
use Rattle.std.proofs.lemmas.List.{append-nil, drop_all, drop_more, length-map, reverse-append, take-append-drop, take_more}
use Rattle.serde_json.specs.Data.{Data, Members}
use Rattle.st_net.specs.Groups.{Group, IsSound}
use Rattle.st_net.specs.InOrder.{entities_of}
use Rattle.st_net.specs.Promises.{is_kept}
use Rattle.st_net.proofs.EntityOrder.{entities_count}
use Rattle.st_event.specs.declared.journal.Entry.{Entry}
use Rattle.st_event.specs.declared.journal.Journal.{Journal}
use Rattle.st_event.specs.History.{History}
use Rattle.st_event.specs.Legal.{IsLegal, IsNext}
use Rattle.st_event.specs.Observed.{actual, sure}
use Rattle.st_event.proofs.Begun.{legal_begun}
use Rattle.st_player.specs.declared.snapshot.Snapshot.{Snapshot}
use Rattle.st_player.specs.Entries.{entry_data, entry_words, told_data}
use Rattle.st_player.specs.Pictures.{entries_data, fitting, group_data, groups_data, size_of}
use Rattle.st_replay.specs.Replaying.{AreLegal}
use Rattle.st_player.specs.Snapshots.{Shown, shown_of}
use Rattle.st_player.specs.States.{state_of}
use Rattle.st_player.specs.Steps.{IsSnapshot, shown_in}

-- the journal behind the first entries, one entry more
pub one_more : (past entries : List Entry) (i : ℕ) (e : Entry) → i < length entries → e ≡ get_or entries i e → reverse (take (i + 1) entries) ++ past ≡ e ∷ (reverse (take i entries) ++ past)
one_more past entries i e low at =
    ap (λ (es : List Entry). reverse es ++ past) (take_more entries i e low ∙ ap (λ (x : Entry). take i entries ++ x ∷ []) (sym at))
    ∙ ap (λ (es : List Entry). es ++ past) (reverse-append (take i entries) (e ∷ []))

-- an entry of a legal journal is the next of those before it
pub next_is : (g : Group) (past entries : List Entry) (i : ℕ) (e : Entry) → i < length entries → e ≡ get_or entries i e → IsLegal g (reverse entries ++ past) → IsNext g (reverse (take i entries) ++ past) e
next_is g past entries i e low at legal =
    let split : reverse entries ++ past ≡ reverse (drop (i + 1) entries) ++ (reverse (take (i + 1) entries) ++ past) =
    ap (λ (es : List Entry). reverse es ++ past) (sym (take-append-drop (i + 1) entries))
    ∙ (ap (λ (es : List Entry). es ++ past) (reverse-append (take (i + 1) entries) (drop (i + 1) entries))
    ∙ append_assoc (reverse (drop (i + 1) entries)) (reverse (take (i + 1) entries)) past) in
    let here = legal_begun g (reverse (drop (i + 1) entries)) (reverse (take (i + 1) entries) ++ past) (subst (λ (es : List Entry). IsLegal g es) split legal) in
    (subst (λ (es : List Entry). IsLegal g es) (one_more past entries i e low at) here).0

-- the same from the first entry on
pub first_more : (entries : List Entry) (i : ℕ) (e : Entry) → i < length entries → e ≡ get_or entries i e → reverse (take (i + 1) entries) ≡ e ∷ reverse (take i entries)
first_more entries i e low at = sym (append-nil (reverse (take (i + 1) entries))) ∙ (one_more [] entries i e low at ∙ ap (λ (es : List Entry). e ∷ es) (append-nil (reverse (take i entries))))

pub first_next : (g : Group) (entries : List Entry) (i : ℕ) (e : Entry) → i < length entries → e ≡ get_or entries i e → IsLegal g (reverse entries) → IsNext g (reverse (take i entries)) e
first_next g entries i e low at legal =
    subst (λ (es : List Entry). IsNext g es e) (append-nil (reverse (take i entries))) (next_is g [] entries i e low at (subst (λ (es : List Entry). IsLegal g es) (sym (append-nil (reverse entries))) legal))

-- there is no entry to go through
pub none_gone : (h : History) (entries : List Entry) → h.past ≡ [] → length entries ≡ 0 → h ≡ record { group = h.group; past = reverse entries }
none_gone h [] opening none = ap (λ (es : List Entry). record { group = h.group; past = es }) opening
none_gone h (e ∷ entries) opening none = absurd (omega (arith, none))

-- what a snapshot shows
pub shown_is : (h : History) (s : Snapshot) → IsSnapshot h s → shown_in s ≡ shown_of h.group h.past
unfolding shown_of
shown_is h s is = λ i. record { states = is.states i; network = is.network.kept i; sure = is.sure_is.kept i; version = is.version_is i; pending = is.pending_is i }

pub states_count : (h : History) (s : Snapshot) → IsSnapshot h s → length s.states.items ≡ length (entities_of h.group)
states_count h s is = ap length is.states ∙ length-map (entities_of h.group) (state_of h.group h.past)

pub network_count : (h : History) (s : Snapshot) → IsSnapshot h s → length s.network.kept.items ≡ length h.group.promises
network_count h s is = ap length is.network.kept ∙ length-map h.group.promises (is_kept h.group (actual h.group h.past))

pub sure_count : (h : History) (s : Snapshot) → IsSnapshot h s → length s.sure.kept.items ≡ length h.group.promises
sure_count h s is = ap length is.sure_is.kept ∙ length-map h.group.promises (is_kept h.group (sure h.group h.past))

-- what is told of an entry, by its words and two snapshots
pub entry_told : (g : Group) (apps : List (List ℕ)) (past : List Entry) (entry : Entry) (old new : Shown) (words : Members) (d : Data) → old ≡ shown_of g past → new ≡ shown_of g (entry ∷ past)
    → words ≡ entry_words g apps past entry → d ≡ told_data old new words → d ≡ entry_data g apps past entry
unfolding entry_data
entry_told g apps past entry old new words d old_is new_is put told =
    told ∙ (ap (λ (s : Shown). told_data s new words) old_is ∙ (ap (λ (s : Shown). told_data (shown_of g past) s words) new_is ∙ ap (told_data (shown_of g past) (shown_of g (entry ∷ past))) put))

-- a sound group has few entities and few promises
pub few_entities : (g : Group) → IsSound g → length (entities_of g) < 2 ^ 32
few_entities g sound = omega (arith, entities_count g, sound.few_devices, sound.few_links)

pub few_promises : (g : Group) → IsSound g → length g.promises < 2 ^ 32
few_promises g sound = omega (arith, sound.few_promises)

-- the entries that there is room for, one entry more
data_at : (g : Group) (apps : List (List ℕ)) (past entries : List Entry) (i : ℕ) (e : Entry) → i < length entries → e ≡ get_or entries i e → entries_data g apps past (drop i entries) ≡ entry_data g apps past e ∷ entries_data g apps (e ∷ past) (drop (i + 1) entries)
data_at g apps past entries i e low at = ap (entries_data g apps past) (drop_more entries i e low ∙ ap (λ (x : Entry). x ∷ drop (i + 1) entries) (sym at))

fits_at : (d : Data) (ds : List Data) (size room : ℕ) → size ≡ size_of d → size ≤ room → fitting room (d ∷ ds) ≡ d ∷ fitting (room - size) ds
fits_at d ds size room is low = let test : nat_le (size_of d) room ≡ true = grind (arith, nat_tests) in rw (test, is) refl

full_at : (d : Data) (ds : List Data) (size room : ℕ) → size ≡ size_of d → room < size → fitting room (d ∷ ds) ≡ []
full_at d ds size room is high = let test : nat_le (size_of d) room ≡ false = grind (arith, nat_tests) in rw test refl

-- before the first entry
pub begins : (h : History) (entries : List Entry) → h ≡ record { group = h.group; past = reverse (take 0 entries) ++ h.past }
begins h entries = refl

pub fits_more : (d : Data) (size room : ℕ) (g : Group) (apps : List (List ℕ)) (past entries : List Entry) (i : ℕ) (e : Entry)
    → i < length entries → e ≡ get_or entries i e → d ≡ entry_data g apps past e → size ≡ size_of d → size ≤ room
    → fitting room (entries_data g apps past (drop i entries)) ≡ d ∷ fitting (room - size) (entries_data g apps (e ∷ past) (drop (i + 1) entries))
fits_more d size room g apps past entries i e low at is sized fits =
    let ds = entries_data g apps (e ∷ past) (drop (i + 1) entries) in
    ap (fitting room) (data_at g apps past entries i e low at)
    ∙ (fits_at (entry_data g apps past e) ds size room (sized ∙ ap size_of is) fits
    ∙ ap (λ (x : Data). x ∷ fitting (room - size) ds) (sym is))

pub fits_no_more : (size room : ℕ) (g : Group) (apps : List (List ℕ)) (past entries : List Entry) (i : ℕ) (e : Entry)
    → i < length entries → e ≡ get_or entries i e → size ≡ size_of (entry_data g apps past e) → room < size → fitting room (entries_data g apps past (drop i entries)) ≡ []
fits_no_more size room g apps past entries i e low at sized full =
    ap (fitting room) (data_at g apps past entries i e low at)
    ∙ full_at (entry_data g apps past e) (entries_data g apps (e ∷ past) (drop (i + 1) entries)) size room sized full

pub fits_all : (room : ℕ) (g : Group) (apps : List (List ℕ)) (past entries : List Entry) (i : ℕ) → length entries ≤ i → fitting room (entries_data g apps past (drop i entries)) ≡ []
fits_all room g apps past entries i past_end = ap (λ (es : List Entry). fitting room (entries_data g apps past es)) (drop_all i entries past_end)

-- a legal journal, up to some of its entries
pub legal_to : (g : Group) (entries : List Entry) (n : ℕ) → IsLegal g (reverse entries) → IsLegal g (reverse (drop n entries) ++ reverse (take n entries))
legal_to g entries n legal =
    subst (λ (es : List Entry). IsLegal g es) (ap reverse (sym (take-append-drop n entries)) ∙ reverse-append (take n entries) (drop n entries)) legal

pub legal_front : (g : Group) (entries : List Entry) (n : ℕ) → IsLegal g (reverse entries) → IsLegal g (reverse (take n entries))
legal_front g entries n legal = legal_begun g (reverse (drop n entries)) (reverse (take n entries)) (legal_to g entries n legal)

-- each group has its journal, and it is legal
pub legal_each : (groups : List Group) (journals : List Journal) (i : ℕ) (g : Group) (j : Journal) → AreLegal groups journals → i < length groups → (i < length journals) × IsLegal (get_or groups i g) (reverse (get_or journals i j).entries)
legal_each [] journals i g j legal low = absurd (omega (arith, low))
legal_each (group ∷ groups) [] i g j legal low = absurd legal
legal_each (group ∷ groups) (journal ∷ journals) zero g j legal low = (omega arith, legal.0)
legal_each (group ∷ groups) (journal ∷ journals) (suc i) g j legal low = let rest = legal_each groups journals i g j legal.1 (omega (arith, low)) in (omega (arith, rest.0), rest.1)

-- one group more
pub groups_more : (d : Data) (apps : List (List ℕ)) (from room : ℕ) (groups : List Group) (journals : List Journal) (i : ℕ) (g : Group) (j : Journal)
    → i < length groups → i < length journals → g ≡ get_or groups i g → j ≡ get_or journals i j → d ≡ group_data apps from room g j.entries
    → groups_data apps from room (drop i groups) (map (λ journal. journal.entries) (drop i journals)) ≡ d ∷ groups_data apps from room (drop (i + 1) groups) (map (λ journal. journal.entries) (drop (i + 1) journals))
groups_more d apps from room groups journals i g j low here g_is j_is is =
    let rest = groups_data apps from room (drop (i + 1) groups) (map (λ journal. journal.entries) (drop (i + 1) journals)) in
    let first : drop i groups ≡ g ∷ drop (i + 1) groups = drop_more groups i g low ∙ ap (λ (x : Group). x ∷ drop (i + 1) groups) (sym g_is) in
    let second : drop i journals ≡ j ∷ drop (i + 1) journals = drop_more journals i j here ∙ ap (λ (x : Journal). x ∷ drop (i + 1) journals) (sym j_is) in
    ap (λ (gs : List Group). groups_data apps from room gs (map (λ journal. journal.entries) (drop i journals))) first
    ∙ (ap (λ (js : List Journal). groups_data apps from room (g ∷ drop (i + 1) groups) (map (λ journal. journal.entries) js)) second
    ∙ ap (λ (x : Data). x ∷ rest) (sym is))

pub groups_all : (apps : List (List ℕ)) (from room : ℕ) (groups : List Group) (entries : List (List Entry)) (i : ℕ) → length groups ≤ i → groups_data apps from room (drop i groups) entries ≡ []
groups_all apps from room groups entries i past = ap (λ (gs : List Group). groups_data apps from room gs entries) (drop_all i groups past)
