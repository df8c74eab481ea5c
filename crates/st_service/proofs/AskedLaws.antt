-- The requests that name an application are those that its pass made.
use Rattle.std.proofs.Common.{◌≡◌, ℕ, suc, Bool, true, false, ◌&&◌, List, [], ◌∷◌, ◌++◌, length, refl, ap, sym, subst, ◌∙◌, arith, append_assoc, length-append}
use Rattle.std.specs.Prelude.{◌==◌, Option, Some, None, slice_get, if◌then◌else◌}
use Rattle.st_net.proofs.Tests.{both, equal_numbers}
use Rattle.st_event.specs.declared.journal.Entry.{Entry}
use Rattle.st_service.specs.Asked.{asker, is_request, is_of, is_own, all_asked, all_own, requests_of, is_request_at, requests_in}
use Rattle.st_service.specs.Closed.{positions}
use Rattle.st_service.specs.Lines.{tagged}
use Rattle.st_service.specs.Made.{Made}

asked_append : (xs ys : List Made) → all_asked xs ≡ true → all_asked ys ≡ true → all_asked (xs ++ ys) ≡ true
asked_append [] ys p q = q
asked_append (m ∷ xs) ys p q = let t = both (is_own m.by (asker m.entry.event)) (all_asked xs) p in rw t.0 (asked_append xs ys t.1 q)

asked_tagged : (p : ℕ) (es : List Entry) → all_own p es ≡ true → all_asked (tagged p es) ≡ true
asked_tagged p [] own = refl
asked_tagged p (e ∷ es) own = let t = both (is_own p (asker e.event)) (all_own p es) own in rw t.0 (asked_tagged p es t.1)

-- with a pass's own entries at the end
pub asked_more : (front : List Made) (p : ℕ) (es : List Entry) → all_asked front ≡ true → all_own p es ≡ true → all_asked (front ++ tagged p es) ≡ true
asked_more front p es asked own = asked_append front (tagged p es) asked (asked_tagged p es own)

and_false : (b : Bool) → (b && false) ≡ false
and_false true = refl
and_false false = refl

and_true : (b : Bool) → (b && true) ≡ b
and_true true = refl
and_true false = refl

-- a request names an application just where the pass of that number made it
names : (by a : ℕ) (o : Option ℕ) → is_own by o ≡ true → is_of a o ≡ ((by == a) && is_request o)
names by a None own = sym (and_false (by == a))
names by a (Some app) own = ap (λ (n : ℕ). n == a) (equal_numbers app by own) ∙ sym (and_true (by == a))

abbrev made_requests : ℕ → ℕ → List Made → List ℕ
made_requests p i [] = []
made_requests p i (m ∷ ms) = if (m.by == p) && is_request (asker m.entry.event) then i ∷ made_requests p (suc i) ms else made_requests p (suc i) ms

asked_made : (a i : ℕ) (front : List Made) → all_asked front ≡ true → requests_of a i front ≡ made_requests a i front
asked_made a i [] h = refl
asked_made a i (m ∷ ms) h =
    let t = both (is_own m.by (asker m.entry.event)) (all_asked ms) h in
    ap (λ (b : Bool). if b then i ∷ requests_of a (suc i) ms else requests_of a (suc i) ms) (names m.by a (asker m.entry.event) t.0)
    ∙ ap (λ (rest : List ℕ). if (m.by == a) && is_request (asker m.entry.event) then i ∷ rest else rest) (asked_made a (suc i) ms t.1)

get_here : (xs : List Made) (m : Made) (ys : List Made) → slice_get (xs ++ m ∷ ys) (length xs) ≡ Some m
get_here [] m ys = refl
get_here (x ∷ xs) m ys = get_here xs m ys

in_if : (front : List Made) (b : Bool) (i : ℕ) (rest : List ℕ) → requests_in front (if b then i ∷ rest else rest) ≡ (if b && is_request_at (slice_get front i) then i ∷ requests_in front rest else requests_in front rest)
in_if front true i rest = refl
in_if front false i rest = refl

picked : (p : ℕ) (pre ms : List Made) → requests_in (pre ++ ms) (positions p (length pre) ms) ≡ made_requests p (length pre) ms
picked p pre [] = refl
picked p pre (m ∷ ms) =
    let next = pre ++ m ∷ [] in
    let len : length next ≡ suc (length pre) = omega (arith, length-append pre (m ∷ [])) in
    let all : next ++ ms ≡ pre ++ m ∷ ms = append_assoc pre (m ∷ []) ms in
    let r : requests_in (pre ++ m ∷ ms) (positions p (suc (length pre)) ms) ≡ made_requests p (suc (length pre)) ms =
    subst (λ (n : ℕ). requests_in (pre ++ m ∷ ms) (positions p n ms) ≡ made_requests p n ms) len (subst (λ (l : List Made). requests_in l (positions p (length next) ms) ≡ made_requests p (length next) ms) all (picked p next ms)) in
    in_if (pre ++ m ∷ ms) (m.by == p) (length pre) (positions p (suc (length pre)) ms)
    ∙ (ap (λ (o : Option Made). if (m.by == p) && is_request_at o then length pre ∷ requests_in (pre ++ m ∷ ms) (positions p (suc (length pre)) ms) else requests_in (pre ++ m ∷ ms) (positions p (suc (length pre)) ms)) (get_here pre m ms)
    ∙ ap (λ (rest : List ℕ). if (m.by == p) && is_request (asker m.entry.event) then length pre ∷ rest else rest) r)

-- the requests that name an application are those of its pass's places that are of requests
pub requests_mine : (a : ℕ) (front : List Made) (mine : List ℕ) → all_asked front ≡ true → mine ≡ positions a 0 front → requests_of a 0 front ≡ requests_in front mine
requests_mine a front mine h is = asked_made a 0 front h ∙ (sym (picked a [] front) ∙ ap (requests_in front) (sym is))
