-- What one hold of a room's lock leaves.
use Rattle.std.proofs.Common.{◌≡◌, ℕ, zero, suc, ◌+◌, ◌≤◌, true, List, [], ◌∷◌, ◌++◌, length, map, refl, ap, sym, subst, ◌∙◌, arith, length-append}
use Rattle.std.specs.Prelude.{reverse, Result, Ok, Err, IfOk}
use Rattle.std.proofs.lemmas.List.{append-nil, map-append, reverse-append, reverse-reverse, length-reverse, length-map}
use mathlib.Core.List.{IsPrefix}
use Rattle.st_net.proofs.Tests.{both}
use Rattle.st_event.specs.declared.journal.Entry.{Entry}
use Rattle.st_event.specs.declared.journal.TheConstants.{MAX_ENTRIES}
use Rattle.st_world.specs.World.{IsBeginning}
use Rattle.st_world.specs.Rounds.{Course, is_full}
use Rattle.st_world.specs.declared.world.rounds.Going.{Going}
use Rattle.st_event.proofs.Prefixes.{prefix_trans, prefix_length}
use Rattle.st_service.specs.Asked.{asker, is_own, all_own}
use Rattle.st_service.specs.Kept.{AllWithin, Grows}
use Rattle.st_service.specs.Lines.{tagged, numbers}
use Rattle.st_service.specs.Made.{Made, past_in}
use Rattle.st_service.specs.Puts.{Puts, Enters, EntersPart}
use Rattle.st_service.specs.Rooms.{Adds}
use Rattle.st_service.proofs.Lines.{length_tagged, length_numbers}

entries_tagged : (p : ℕ) (es : List Entry) → map (λ (m : Made). m.entry) (tagged p es) ≡ es
entries_tagged p [] = refl
entries_tagged p (e ∷ es) = ap (λ xs. e ∷ xs) (entries_tagged p es)

-- a front with more entries
pub past_more : (front : List Made) (p : ℕ) (es : List Entry) → past_in (front ++ tagged p es) ≡ reverse es ++ past_in front
past_more front p es =
    ap reverse (map-append (λ (m : Made). m.entry) front (tagged p es))
    ∙ (reverse-append (map (λ (m : Made). m.entry) front) (map (λ (m : Made). m.entry) (tagged p es))
    ∙ ap (λ xs. reverse xs ++ past_in front) (entries_tagged p es))

pub length_past : (front : List Made) → length (past_in front) ≡ length front
length_past front = length-reverse (map (λ (m : Made). m.entry) front) ∙ length-map front (λ (m : Made). m.entry)

-- none of these is another's request, in either order
own_append : (number : ℕ) (xs ys : List Entry) → all_own number xs ≡ true → all_own number ys ≡ true → all_own number (xs ++ ys) ≡ true
own_append number [] ys own more = more
own_append number (e ∷ xs) ys own more =
    let b = both (is_own number (asker e.event)) (all_own number xs) own in
    rw b.0 (own_append number xs ys b.1 more)

pub own_reverse : (number : ℕ) (xs : List Entry) → all_own number xs ≡ true → all_own number (reverse xs) ≡ true
own_reverse number [] own = refl
own_reverse number (e ∷ xs) own =
    let b = both (is_own number (asker e.event)) (all_own number xs) own in
    rw (reverse-append (e ∷ []) xs) (own_append number (reverse xs) (e ∷ []) (own_reverse number xs b.1) (rw b.0 refl))

-- the places of entries made at the end lie within
numbers_within : (lo hi n k : ℕ) → lo ≤ n → n + k ≤ hi → AllWithin lo hi (numbers n k)
numbers_within lo hi n zero low high = tt
numbers_within lo hi n (suc k) low high = (low, omega (arith, high), numbers_within lo hi (suc n) k (omega (arith, low)) (omega (arith, high)))

pub puts_grows : (number most : ℕ) (es : List Entry) (mid before : List Made) (was : List ℕ) (after : List Made) (now : List ℕ) → length es ≤ most → Puts number es mid before was after now → Grows most before was after now
puts_grows number most es mid before was after now few p =
    let low = prefix_length before mid p.0 in
    let high : length mid + length es ≡ length after = omega (arith, ap length p.1, length-append mid (tagged number es), length_tagged number es) in (
      prefix_trans before mid after p.0 (tagged number es, sym p.1),
      (
        numbers (length mid) (length es),
        p.2,
        omega (arith, few, length_numbers (length mid) (length es)),
        numbers_within (length before) (length after) (length mid) (length es) low (omega (arith, high)),
      ),
    )

-- the entries that a room made behind a journal
pub record Taken (number most : ℕ) (old new es : List Entry) : Type 0 where
  pub own : all_own number es ≡ true
  pub few : length es ≤ most
  pub count : length es + length old ≡ length new
  pub back : reverse es ++ old ≡ new

pub taken : (number most from : ℕ) (old new es : List Entry) → Adds number most old new → from ≡ length old → ((more past : List Entry) → new ≡ more ++ past → length past ≡ from → es ≡ reverse more) → Taken number most old new es
taken number most from old new es a at since =
    let is : es ≡ reverse a.more = since a.more old a.all (sym at) in
    record {
      own = ap (all_own number) is ∙ own_reverse number a.more a.own;
      few = omega (arith, a.few, ap length is, length-reverse a.more);
      count = omega (arith, ap length is, length-reverse a.more, ap length a.all, length-append a.more old);
      back = ap (λ xs. reverse xs ++ old) is ∙ (ap (λ xs. xs ++ old) (reverse-reverse a.more) ∙ sym a.all);
    }

-- the journal is then what the line says
pub line_goes : (number most : ℕ) (old new es : List Entry) (front after : List Made) → Taken number most old new es → past_in front ≡ old → after ≡ front ++ tagged number es → past_in after ≡ new
line_goes number most old new es front after t kept is = ap past_in is ∙ (past_more front number es ∙ (ap (λ past. reverse es ++ past) kept ∙ t.back))

-- what a hold left: what its room made, at whose places in its pass's list, and the line as it is then
pub record Held (number most : ℕ) (old new es : List Entry) (mid before : List Made) (was : List ℕ) (after : List Made) (now : List ℕ) : Type 0 where
  pub taken : Taken number most old new es
  pub puts : Puts number es mid before was after now
  pub line : past_in after ≡ new

pub held : (number most from : ℕ) (old new es : List Entry) (mid before : List Made) (was got : List ℕ) (after : List Made) (now : List ℕ) → past_in mid ≡ old → Adds number most old new → from ≡ length old
    → ((more past : List Entry) → new ≡ more ++ past → length past ≡ from → es ≡ reverse more) → got ≡ was → Puts number es mid before got after now → Held number most old new es mid before was after now
held number most from old new es mid before was got after now kept a at since same p =
    let t = taken number most from old new es a at since in
    record {
      taken = t;
      puts = subst (λ (l : List ℕ). Puts number es mid before l after now) same p;
      line = line_goes number most old new es mid after t kept p.1;
    }

-- a hold whose course was entered, or met a full journal, by its answer
pub enters_all : {E : Type 0} (r : Result Going E) (course : List Entry → Course) (number most : ℕ) (old new es : List Entry) (mid before : List Made) (was : List ℕ) (after : List Made) (now : List ℕ)
    → IfOk r (λ s. course old ≡ record { past = new; stopped = is_full s }) → IfOk r (λ s. is_full s ≡ true → length new ≡ MAX_ENTRIES)
    → Taken number most old new es → past_in mid ≡ old → Puts number es mid before was after now → IfOk r (λ s. Enters course s number mid before was after now)
enters_all (Err error) course number most old new es mid before was after now run limit t kept p = tt
enters_all (Ok going) course number most old new es mid before was after now run limit t kept p =
    let past : past_in after ≡ new = line_goes number most old new es mid after t kept p.1 in
    record {
      entries = es;
      puts = p;
      run = ap course kept ∙ (run ∙ ap (λ xs. record { past = xs; stopped = is_full going }) (sym past));
      full = λ e. sym (length_past after) ∙ (ap length past ∙ limit e);
    }

-- a hold of whose course a part was entered
pub enters_part : (course : List Entry → Course) (number most : ℕ) (old new es : List Entry) (mid before : List Made) (was : List ℕ) (after : List Made) (now : List ℕ) → IsBeginning new (course old).past
    → Taken number most old new es → past_in mid ≡ old → Puts number es mid before was after now → EntersPart course number mid before was after now
enters_part course number most old new es mid before was after now part t kept p =
    let past : past_in after ≡ new = line_goes number most old new es mid after t kept p.1 in
    record {
      entries = es;
      puts = p;
      part = subst (λ xs. IsBeginning xs (course (past_in mid)).past) (sym past) (subst (λ xs. IsBeginning new (course xs).past) (sym kept) part);
    }

-- a look adds nothing
pub look_grows : (most : ℕ) (before after : List Made) (was now : List ℕ) → IsPrefix before after → now ≡ was → Grows most before was after now
look_grows most before after was now p same = (p, ([], same ∙ sym (append-nil was), omega arith, tt))
