-- A settle by what the journal has of it: a moment at which an entity was settled, or its turns, one for each round.
use Rattle.std.proofs.Common.{◌≡◌, ◌⊎◌, inl, inr, ⊎_elim, ℕ, zero, suc, ◌+◌, ◌-◌, ◌<◌, Bool, true, false, List, [], ◌∷◌, length, get_or, refl, ap, sym, subst, ◌∙◌, arith}
use Rattle.std.specs.Prelude.{not, if◌then◌else◌}
use Rattle.std.specs.List.{filter}
use mathlib.Core.List.{IsPrefix}
use Rattle.st_net.specs.declared.entity.Entity.{Entity}
use Rattle.st_net.specs.declared.entity.Entity.TheVariants.{Device, Link}
use Rattle.st_net.specs.Groups.{Group, IsEntityOf}
use Rattle.st_net.specs.InOrder.{entities_of}
use Rattle.st_net.proofs.EntityOrder.{entities_count, device_at, link_at}
use Rattle.st_event.specs.declared.journal.Entry.{Entry}
use Rattle.st_event.specs.History.{History}
use Rattle.st_event.specs.Observed.{is_settled}
use Rattle.st_wire.specs.declared.line.WireLine.{WireLine}
use Rattle.st_event.proofs.Prefixes.{prefix_trans}
use Rattle.st_world.specs.World.{IsBeginning}
use Rattle.st_world.specs.Rounds.{Course, course_from, turn, unsettled}
use Rattle.st_run.specs.CarriedOn.{IsSettledIn, WasSettled}
use Rattle.st_service.specs.declared.work.Part.TheVariants.{Whole}
use Rattle.st_service.specs.Lines.{tagged}
use Rattle.st_service.specs.Made.{Made, past_in}
use Rattle.st_run.specs.Stands.{Stand}
use Rattle.st_service.specs.Turns.{Turns, RoundOf, RoundsMade, Settles}
use Rattle.st_run.proofs.EntryNumbers.{begins_then, past_begins}

-- an item of a list
abbrev pub IsIn : {X : Type 0} → X → List X → Type 0
IsIn x [] = ⊥
IsIn x (y ∷ ys) = (y ≡ x) ⊎ IsIn x ys

is_at : {X : Type 0} (xs : List X) (i : ℕ) (x d : X) → i < length xs → x ≡ get_or xs i d → IsIn x xs
is_at [] i x d lt at = absurd (omega (arith, lt))
is_at (y ∷ xs) zero x d lt at = inl (sym at)
is_at (y ∷ xs) (suc i) x d lt at = inr (is_at xs i x d (omega (arith, lt)) at)

-- one that passes a test
is_among : {X : Type 0} (f : X → Bool) (xs : List X) (x : X) → f x ≡ true → IsIn x xs → IsIn x (filter f xs)
is_among f [] x passes at = at
is_among f (y ∷ xs) x passes at = ⊎_elim
    (λ (e : y ≡ x). let there : f y ≡ true = ap f e ∙ passes in rw there (inl e))
    (λ (t : IsIn x xs). chosen (f y) (is_among f xs x passes t))
    at
  where
    chosen : (b : Bool) → IsIn x (filter f xs) → IsIn x (if b then y ∷ filter f xs else filter f xs)
    chosen true r = inr r
    chosen false r = r

entity_in : (g : Group) (e : Entity) → IsEntityOf g e → IsIn e (entities_of g)
entity_in g (Device i) low = is_at (entities_of g) i (Device i) (Device i) (let n = entities_count g in omega (arith, n, low)) (device_at g i (Device i) low)
entity_in g (Link j) low =
    let n = entities_count g in
    let count = length g.devices in
    let i : (count + j) - count ≡ j = omega arith in
    let lt : count + j < length (entities_of g) = omega (arith, n, low) in
    is_at (entities_of g) (count + j) (Link j) (Link j) lt (ap Link (sym i) ∙ link_at g (count + j) count (Link j) refl (omega arith) lt)

-- turns that stand in a journal stand in one that goes on
pub stand_later : (course : List Entry → Course) (k : ℕ) (from past later : List Entry) → IsBeginning past later → Stand course k from past → Stand course k from later
stand_later course zero from past later b s = begins_then from past later s b
stand_later course (suc k) from past later b s = (s.0, s.1, s.2, s.3, begins_then s.1 past later s.4 b)

-- what turns are of an entity
abbrev turn_of : Group → List WireLine → Entity → List Entry → Course
turn_of g lines e past = turn g lines (course_from past) e

turns_go : (g : Group) (lines : List WireLine) (number : ℕ) (es : List Entity) (before : List Made) (was : List ℕ) (after : List Made) (now : List ℕ) → Turns Whole g lines number es before was after now → IsPrefix before after
turns_go g lines number [] before was after now t = t.0
turns_go g lines number (e ∷ es) before was after now t =
    prefix_trans before t.0 after t.3.puts.0 (prefix_trans t.0 t.1 after (tagged number t.3.entries, sym t.3.puts.1) (turns_go g lines number es t.1 t.2 after now t.4))

-- among the turns of these entities is one of each
turn_stands : (g : Group) (lines : List WireLine) (number : ℕ) (e : Entity) (es : List Entity) (before : List Made) (was : List ℕ) (after : List Made) (now : List ℕ) (k : ℕ) (from : List Entry)
    → Turns Whole g lines number es before was after now → IsIn e es → Stand (turn_of g lines e) k from (past_in before) → Stand (turn_of g lines e) (suc k) from (past_in after)
turn_stands g lines number e [] before was after now k from t at s = absurd at
turn_stands g lines number e (x ∷ es) before was after now k from t at s =
    let low = past_begins before t.0 t.3.puts.0 in
    let next : IsPrefix t.0 t.1 = (tagged number t.3.entries, sym t.3.puts.1) in
    let rest = turns_go g lines number es t.1 t.2 after now t.4 in ⊎_elim
    (λ (here : x ≡ e). (
      past_in t.0,
      past_in t.1,
      stand_later (turn_of g lines e) k from (past_in before) (past_in t.0) low s,
      subst (λ (y : Entity). turn g lines (course_from (past_in t.0)) y ≡ record { past = past_in t.1; stopped = false }) here t.3.run,
      past_begins t.1 after rest,
    ))
    (λ (there : IsIn e es). turn_stands g lines number e es t.1 t.2 after now k from t.4 there
    (stand_later (turn_of g lines e) k from (past_in before) (past_in t.1) (begins_then (past_in before) (past_in t.0) (past_in t.1) low (past_begins t.0 t.1 next)) s))
    at

-- the group with the journal of a front
abbrev pub journal_in : Group → List Made → History
journal_in g front = record { group = g; past = past_in front }

-- a round: the entity was settled in the front that was seen, or one turn more of it stands
round_stands : (g : Group) (lines : List WireLine) (number : ℕ) (e : Entity) (before : List Made) (was : List ℕ) (after : List Made) (now : List ℕ) (front : List Made) (k : ℕ) (from : List Entry) → IsPrefix after front → IsIn e (entities_of g)
    → IsBeginning from (past_in before) → RoundOf Whole g lines number before was after now → Stand (turn_of g lines e) k from (past_in before) → WasSettled (journal_in g front) from e ⊎ Stand (turn_of g lines e) (suc k) from (past_in after)
round_stands g lines number e before was after now front k from p at low r s = by_test (is_settled g (past_in r.0) e) refl
  where
    goes : IsPrefix r.0 after
    goes = turns_go g lines number (unsettled g (past_in r.0)) r.0 was after now r.2

    by_test : (b : Bool) → is_settled g (past_in r.0) e ≡ b → WasSettled (journal_in g front) from e ⊎ Stand (turn_of g lines e) (suc k) from (past_in after)
    by_test true is = inl (record {
      moment = past_in r.0;
      behind = begins_then from (past_in before) (past_in r.0) low (past_begins before r.0 r.1);
      within = past_begins r.0 front (prefix_trans r.0 after front goes p);
      settled = is;
    })
    by_test false is = inr (turn_stands g lines number e (unsettled g (past_in r.0)) r.0 was after now k from r.2
        (is_among (λ x. not (is_settled g (past_in r.0) x)) (entities_of g) e (ap not is) at)
        (stand_later (turn_of g lines e) k from (past_in before) (past_in r.0) (past_begins before r.0 r.1) s))

rounds_go : (g : Group) (lines : List WireLine) (number k : ℕ) (before : List Made) (was : List ℕ) (after : List Made) (now : List ℕ) → RoundsMade g lines number k before was after now → IsPrefix before after
rounds_go g lines number zero before was after now r = r.0
rounds_go g lines number (suc k) before was after now r =
    prefix_trans before r.0 after (prefix_trans before r.2.0 r.0 r.2.1 (turns_go g lines number (unsettled g (past_in r.2.0)) r.2.0 was r.0 r.1 r.2.2)) (rounds_go g lines number k r.0 r.1 after now r.3)

-- so many rounds
rounds_stand : (g : Group) (lines : List WireLine) (number : ℕ) (e : Entity) (j : ℕ) (before : List Made) (was : List ℕ) (after : List Made) (now : List ℕ) (front : List Made) (k : ℕ) (from : List Entry) → IsPrefix after front → IsIn e (entities_of g)
    → IsBeginning from (past_in before) → RoundsMade g lines number j before was after now → Stand (turn_of g lines e) k from (past_in before) → WasSettled (journal_in g front) from e ⊎ Stand (turn_of g lines e) (j + k) from (past_in after)
rounds_stand g lines number e zero before was after now front k from p at low r s =
    let n : k ≡ 0 + k = omega arith in
    inr (subst (λ (m : ℕ). Stand (turn_of g lines e) m from (past_in after)) n (stand_later (turn_of g lines e) k from (past_in before) (past_in after) (past_begins before after r.0) s))
rounds_stand g lines number e (suc j) before was after now front k from p at low r s =
    let first : IsPrefix before r.0 = prefix_trans before r.2.0 r.0 r.2.1 (turns_go g lines number (unsettled g (past_in r.2.0)) r.2.0 was r.0 r.1 r.2.2) in
    let rest : IsPrefix r.0 after = rounds_go g lines number j r.0 r.1 after now r.3 in
    let n : j + suc k ≡ suc j + k = omega arith in ⊎_elim
    (λ (t : WasSettled (journal_in g front) from e). inl t)
    (λ (t : Stand (turn_of g lines e) (suc k) from (past_in r.0)).
    subst (λ (m : ℕ). WasSettled (journal_in g front) from e ⊎ Stand (turn_of g lines e) m from (past_in after)) n
    (rounds_stand g lines number e j r.0 r.1 after now front (suc k) from p at (begins_then from (past_in before) (past_in r.0) low (past_begins before r.0 first)) r.3 t))
    (round_stands g lines number e before was r.0 r.1 front k from (prefix_trans r.0 after front rest p) at low r.2 s)

-- where none is unsettled, each is settled
none_unsettled : (g : Group) (past : List Entry) (e : Entity) → IsIn e (entities_of g) → unsettled g past ≡ [] → is_settled g past e ≡ true
none_unsettled g past e at none = by_test (is_settled g past e) refl
  where
    by_test : (b : Bool) → is_settled g past e ≡ b → is_settled g past e ≡ true
    by_test true is = is
    by_test false is = absurd (subst (IsIn e) none (is_among (λ x. not (is_settled g past x)) (entities_of g) e (ap not is) at))

-- a settle behind a beginning of the journal
pub settles_in : (g : Group) (lines : List WireLine) (number rounds : ℕ) (before : List Made) (was : List ℕ) (after : List Made) (now : List ℕ) (front : List Made) (from : List Entry) → IsPrefix after front → IsBeginning from (past_in before)
    → Settles g lines number rounds before was after now → IsSettledIn (journal_in g front) lines from rounds
settles_in g lines number rounds before was after now front from p low s e of =
    let at = entity_in g e of in
    let mid = s.2 in
    let q : IsPrefix mid front = prefix_trans mid after front s.4 p in
    let goes : IsPrefix before mid = rounds_go g lines number s.0 before was mid now s.3 in
    let all : WasSettled (journal_in g front) from e ⊎ Stand (turn_of g lines e) (s.0 + 0) from (past_in mid) =
    rounds_stand g lines number e s.0 before was mid now front 0 from q at low s.3 low in ⊎_elim
    (λ (asked : s.0 ≡ rounds).
    let n : s.0 + 0 ≡ rounds = omega (arith, asked) in ⊎_elim
    (λ (t : WasSettled (journal_in g front) from e). inl t)
    (λ (t : Stand (turn_of g lines e) (s.0 + 0) from (past_in mid)).
    inr (subst (λ (m : ℕ). Stand (turn_of g lines e) m from (past_in front)) n (stand_later (turn_of g lines e) (s.0 + 0) from (past_in mid) (past_in front) (past_begins mid front q) t)))
    all)
    (λ (t : (f : List Made) × IsPrefix mid f × IsPrefix f after × (unsettled g (past_in f) ≡ [])).
    inl (record {
      moment = past_in t.0;
      behind = begins_then from (past_in before) (past_in t.0) low (past_begins before t.0 (prefix_trans before mid t.0 goes t.1));
      within = past_begins t.0 front (prefix_trans t.0 after front t.2 p);
      settled = none_unsettled g (past_in t.0) e at t.3;
    }))
    s.5
