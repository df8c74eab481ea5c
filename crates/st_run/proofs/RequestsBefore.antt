-- The requests that name an application, in a beginning of a journal, are those at the places that its pass has there.
use Rattle.std.proofs.Common.{◌≡◌, ℕ, suc, ◌+◌, ◌<◌, ◌≤◌, Bool, true, false, List, [], ◌∷◌, ◌++◌, length, refl, ap, sym, ◌∙◌, arith, length-append}
use Rattle.std.specs.Prelude.{Option, slice_get, if◌then◌else◌}
use Rattle.std.specs.List.{filter}
use mathlib.Core.List.{IsPrefix}
use Rattle.st_service.specs.Asked.{asker, is_of, is_request_at, requests_in, requests_of}
use Rattle.st_service.specs.Kept.{AllWithin}
use Rattle.st_service.specs.Made.{Made}
use Rattle.st_run.specs.Requests.{is_asked_by}
use Rattle.st_service.proofs.ChainLaws.{within_wider}
use Rattle.st_service.proofs.TicketLaws.{get_left}
use Rattle.st_run.proofs.CommandEntries.{is_asking}
use Rattle.st_run.proofs.LatestTickets.{entries_in}
use Rattle.st_run.proofs.OwnEntries.{entries_at}
use Rattle.st_run.proofs.ScriptEntries.{asking, named}

-- where two lists are split at the same number, their parts are the same
split_same : (k hi : ℕ) (xs ys us vs : List ℕ) → AllWithin 0 k xs → AllWithin k hi ys → AllWithin 0 k us → AllWithin k hi vs → xs ++ ys ≡ us ++ vs → xs ≡ us
split_same k hi [] ys [] vs a b c d e = refl
split_same k hi [] [] (u ∷ us) vs a b c d e = absurd (cc e)
split_same k hi [] (y ∷ ys) (u ∷ us) vs a b c d e = let is : y ≡ u = cc e in absurd (omega (arith, b.0, c.1, is))
split_same k hi (x ∷ xs) ys [] [] a b c d e = absurd (cc e)
split_same k hi (x ∷ xs) ys [] (v ∷ vs) a b c d e = let is : x ≡ v = cc e in absurd (omega (arith, a.1, d.0, is))
split_same k hi (x ∷ xs) ys (u ∷ us) vs a b c d e =
    let head : x ≡ u = cc e in
    let tail : xs ++ ys ≡ us ++ vs = cc e in
    let rest = split_same k hi xs ys us vs a.2 b c.2 d tail in
    cc (head, rest)

-- the places of requests that name an application

onto : (b : Bool) (i : ℕ) (xs ys : List ℕ) → (if b then i ∷ (xs ++ ys) else xs ++ ys) ≡ (if b then i ∷ xs else xs) ++ ys
onto true i xs ys = refl
onto false i xs ys = refl

named_append : (a i : ℕ) (xs ys : List Made) → requests_of a i (xs ++ ys) ≡ requests_of a i xs ++ requests_of a (i + length xs) ys
named_append a i [] ys = let n : i ≡ i + 0 = omega arith in ap (λ (k : ℕ). requests_of a k ys) n
named_append a i (m ∷ xs) ys =
    let n : suc i + length xs ≡ i + suc (length xs) = omega arith in
    let rest : requests_of a (suc i) (xs ++ ys) ≡ requests_of a (suc i) xs ++ requests_of a (i + suc (length xs)) ys = named_append a (suc i) xs ys ∙ ap (λ (k : ℕ). requests_of a (suc i) xs ++ requests_of a k ys) n in
    ap (λ (ns : List ℕ). if is_of a (asker m.entry.event) then i ∷ ns else ns) rest
    ∙ onto (is_of a (asker m.entry.event)) i (requests_of a (suc i) xs) (requests_of a (i + suc (length xs)) ys)

chosen_within : (b : Bool) (lo hi i : ℕ) (ns : List ℕ) → lo ≤ i → i < hi → AllWithin lo hi ns → AllWithin lo hi (if b then i ∷ ns else ns)
chosen_within true lo hi i ns low high w = (low, high, w)
chosen_within false lo hi i ns low high w = w

named_within : (a i : ℕ) (xs : List Made) → AllWithin i (i + length xs) (requests_of a i xs)
named_within a i [] = tt
named_within a i (m ∷ xs) = chosen_within (is_of a (asker m.entry.event)) i (i + suc (length xs)) i (requests_of a (suc i) xs) (omega arith) (omega arith)
    (within_wider (suc i) (suc i + length xs) i (i + suc (length xs)) (requests_of a (suc i) xs) (omega arith) (omega arith) (named_within a (suc i) xs))

-- those of a list of places

places_append : (front : List Made) (ms ns : List ℕ) → requests_in front (ms ++ ns) ≡ requests_in front ms ++ requests_in front ns
places_append front [] ns = refl
places_append front (m ∷ ms) ns =
    ap (λ (l : List ℕ). if is_request_at (slice_get front m) then m ∷ l else l) (places_append front ms ns)
    ∙ onto (is_request_at (slice_get front m)) m (requests_in front ms) (requests_in front ns)

places_within : (front : List Made) (lo hi : ℕ) (ns : List ℕ) → AllWithin lo hi ns → AllWithin lo hi (requests_in front ns)
places_within front lo hi [] w = tt
places_within front lo hi (n ∷ ns) w = chosen_within (is_request_at (slice_get front n)) lo hi n (requests_in front ns) w.0 w.1 (places_within front lo hi ns w.2)

places_longer : (xs ys : List Made) (ns : List ℕ) → IsPrefix xs ys → AllWithin 0 (length xs) ns → requests_in ys ns ≡ requests_in xs ns
places_longer xs ys [] p w = refl
places_longer xs ys (n ∷ ns) p w =
    ap (λ (l : List ℕ). if is_request_at (slice_get ys n) then n ∷ l else l) (places_longer xs ys ns p w.2)
    ∙ ap (λ (o : Option Made). if is_request_at o then n ∷ requests_in xs ns else requests_in xs ns) (ap (λ (l : List Made). slice_get l n) (sym p.1) ∙ get_left xs p.0 n w.1)

-- what holds of the whole holds of each beginning
named_before : (a : ℕ) (front whole : List Made) (mine more : List ℕ) (hi : ℕ) → IsPrefix front whole → length whole ≤ hi → AllWithin 0 (length front) mine → AllWithin (length front) hi more
    → requests_of a 0 whole ≡ requests_in whole (mine ++ more) → requests_of a 0 front ≡ requests_in front mine
named_before a front whole mine more hi p le low high asked =
    let n : 0 + length front ≡ length front = omega arith in
    let size : length whole ≡ length front + length p.0 = ap length (sym p.1) ∙ length-append front p.0 in
    let rest = requests_of a (length front) p.0 in
    let all : requests_of a 0 front ++ rest ≡ requests_in whole mine ++ requests_in whole more =
    ap (λ (k : ℕ). requests_of a 0 front ++ requests_of a k p.0) (sym n)
    ∙ (sym (named_append a 0 front p.0)
    ∙ (ap (requests_of a 0) p.1 ∙ (asked ∙ places_append whole mine more))) in
    split_same (length front) hi (requests_of a 0 front) rest (requests_in whole mine) (requests_in whole more)
    (within_wider 0 (0 + length front) 0 (length front) (requests_of a 0 front) (omega arith) (omega arith) (named_within a 0 front))
    (within_wider (length front) (length front + length p.0) (length front) hi rest (omega arith) (omega (arith, size, le)) (named_within a (length front) p.0))
    (places_within whole 0 (length front) mine low)
    (places_within whole (length front) hi more high)
    all
    ∙ places_longer front whole mine p low

-- so the entries that name an application are the requests among those of its pass
pub asked_before : (a : ℕ) (front whole : List Made) (mine more : List ℕ) (hi : ℕ) → IsPrefix front whole → length whole ≤ hi → AllWithin 0 (length front) mine → AllWithin (length front) hi more
    → requests_of a 0 whole ≡ requests_in whole (mine ++ more) → filter (is_asked_by (record { 0 = a })) (entries_in front) ≡ filter is_asking (entries_at front mine)
asked_before a front whole mine more hi p le low high asked =
    sym (named a [] front) ∙ (ap (entries_at front) (named_before a front whole mine more hi p le low high asked) ∙ asking front mine)
