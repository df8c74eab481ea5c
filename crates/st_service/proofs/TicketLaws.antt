-- The latest ticket of a pass, as its front goes on.
use Rattle.std.proofs.Common.{◌≡◌, ℕ, zero, suc, ◌+◌, ◌<◌, ◌≤◌, List, [], ◌∷◌, ◌++◌, length, take, get_or, refl, ap, sym, subst, ◌∙◌, arith, append_assoc, length-append}
use Rattle.std.proofs.Math.Seq.{take-suc}
use Rattle.std.specs.Prelude.{Option, Some, None, slice_get}
use Rattle.std.specs.Option.{option_or}
use mathlib.Core.List.{IsPrefix}
use Rattle.st_event.specs.declared.journal.Entry.{Entry}
use Rattle.st_event.proofs.Prefixes.{prefix_length}
use Rattle.st_service.specs.declared.line.Batch.{Batch}
use Rattle.st_service.specs.Lines.{flat, tagged, numbers}
use Rattle.st_service.specs.Made.{Made}
use Rattle.st_service.proofs.Lines.{flat_one, flat_prefix}
use Rattle.st_service.specs.Tickets.{ticket_in, ticket_of, last_ticket, latest_in}

or_none : (o : Option ℕ) → option_or o None ≡ o
or_none (Some n) = refl
or_none None = refl

pub or_assoc : (a b c : Option ℕ) → option_or (option_or a b) c ≡ option_or a (option_or b c)
or_assoc (Some n) b c = refl
or_assoc None b c = refl

pub get_left : (xs ys : List Made) (n : ℕ) → n < length xs → slice_get (xs ++ ys) n ≡ slice_get xs n
get_left [] ys n lt = absurd (omega (arith, lt))
get_left (x ∷ xs) ys zero lt = refl
get_left (x ∷ xs) ys (suc n) lt = get_left xs ys n (omega (arith, lt))

get_seam : (xs : List Made) (x : Made) (ys : List Made) → slice_get (xs ++ x ∷ ys) (length xs) ≡ Some x
get_seam [] x ys = refl
get_seam (y ∷ xs) x ys = get_seam xs x ys

-- a longer front leaves the latest ticket
pub latest_longer : (xs ys : List Made) (mine : List ℕ) → IsPrefix xs ys → ((k : ℕ) → k < length mine → get_or mine k 0 < length xs) → latest_in ys mine ≡ latest_in xs mine
latest_longer xs ys [] p within = refl
latest_longer xs ys (n ∷ ns) p within =
    let rest = latest_longer xs ys ns p (λ k lt. within (suc k) (omega (arith, lt))) in
    let here : slice_get ys n ≡ slice_get xs n = ap (λ (l : List Made). slice_get l n) (sym p.1) ∙ get_left xs p.0 n (within 0 (omega arith)) in
    ap (λ o. option_or o (ticket_of (slice_get ys n))) rest ∙ ap (λ o. option_or (latest_in xs ns) (ticket_of o)) here

latest_append : (front : List Made) (xs ys : List ℕ) → latest_in front (xs ++ ys) ≡ option_or (latest_in front ys) (latest_in front xs)
latest_append front [] ys = sym (or_none (latest_in front ys))
latest_append front (n ∷ xs) ys = ap (λ o. option_or o (ticket_of (slice_get front n))) (latest_append front xs ys) ∙ or_assoc (latest_in front ys) (latest_in front xs) (ticket_of (slice_get front n))

latest_made : (number : ℕ) (mid : List Made) (es : List Entry) → latest_in (mid ++ tagged number es) (numbers (length mid) (length es)) ≡ last_ticket es
latest_made number mid [] = refl
latest_made number mid (e ∷ es) =
    let m : Made = record { by = number; entry = e } in
    let next = mid ++ m ∷ [] in
    let len : length next ≡ suc (length mid) = omega (arith, length-append mid (m ∷ [])) in
    let same : next ++ tagged number es ≡ mid ++ m ∷ tagged number es = append_assoc mid (m ∷ []) (tagged number es) in
    let rest : latest_in (mid ++ m ∷ tagged number es) (numbers (suc (length mid)) (length es)) ≡ last_ticket es =
    subst (λ (l : List Made). latest_in l (numbers (suc (length mid)) (length es)) ≡ last_ticket es) same
    (subst (λ (n : ℕ). latest_in (next ++ tagged number es) (numbers n (length es)) ≡ last_ticket es) len (latest_made number next es)) in
    ap (λ o. option_or o (ticket_of (slice_get (mid ++ m ∷ tagged number es) (length mid)))) rest ∙ ap (λ o. option_or (last_ticket es) (ticket_of o)) (get_seam mid m (tagged number es))

-- with entries made at the end
pub latest_more : (number : ℕ) (mid : List Made) (mine : List ℕ) (es : List Entry) → ((k : ℕ) → k < length mine → get_or mine k 0 < length mid)
    → latest_in (mid ++ tagged number es) (mine ++ numbers (length mid) (length es)) ≡ option_or (last_ticket es) (latest_in mid mine)
latest_more number mid mine es within =
    latest_append (mid ++ tagged number es) mine (numbers (length mid) (length es))
    ∙ (ap (λ o. option_or o (latest_in (mid ++ tagged number es) mine)) (latest_made number mid es)
    ∙ ap (λ o. option_or (last_ticket es) o) (latest_longer mid (mid ++ tagged number es) mine (tagged number es, refl) within))

-- the last ticket of one entry more
pub last_more : (es : List Entry) (e : Entry) → last_ticket (es ++ e ∷ []) ≡ option_or (ticket_in e.reply) (last_ticket es)
last_more [] e = sym (or_none (ticket_in e.reply))
last_more (x ∷ es) e = ap (λ o. option_or o (ticket_in x.reply)) (last_more es e) ∙ or_assoc (ticket_in e.reply) (last_ticket es) (ticket_in x.reply)

-- a turn of the loop over entries
pub last_next : (es : List Entry) (i : ℕ) (e : Entry) (last next : Option ℕ) → i < length es → e ≡ get_or es i e → last ≡ last_ticket (take i es) → next ≡ option_or (ticket_in e.reply) last → next ≡ last_ticket (take (i + 1) es)
last_next es i e last next low is was now =
    let one : i + 1 ≡ suc i = omega arith in
    let more : take (i + 1) es ≡ take i es ++ e ∷ [] = ap (λ n. take n es) one ∙ take-suc es i e low ∙ ap (λ a. take i es ++ a ∷ []) (sym is) in
    now ∙ ap (option_or (ticket_in e.reply)) was ∙ sym (last_more (take i es) e) ∙ ap last_ticket (sym more)

-- with a batch made at the end, by one that had seen less
pub made_latest : (number : ℕ) (old mid now : List Batch) (mine : List ℕ) (es : List Entry) (from : ℕ) → IsPrefix old mid → length (flat mid) ≡ from → now ≡ mid ++ record { by = number; entries = es } ∷ []
    → ((k : ℕ) → k < length mine → get_or mine k 0 < length (flat old)) → latest_in (flat now) (mine ++ numbers from (length es)) ≡ option_or (last_ticket es) (latest_in (flat now) mine)
made_latest number old mid now mine es from q len is within =
    let p = flat_prefix old mid q in
    let low : (k : ℕ) → k < length mine → get_or mine k 0 < length (flat mid) = λ k lt. let a = within k lt in let b = prefix_length (flat old) (flat mid) p in omega (arith, a, b) in
    let log : flat mid ++ tagged number es ≡ flat now = sym (ap flat is ∙ flat_one mid (record { by = number; entries = es })) in
    let more : latest_in (flat now) (mine ++ numbers from (length es)) ≡ option_or (last_ticket es) (latest_in (flat mid) mine) =
    subst (λ (l : List Made). latest_in l (mine ++ numbers from (length es)) ≡ option_or (last_ticket es) (latest_in (flat mid) mine)) log
    (subst (λ (n : ℕ). latest_in (flat mid ++ tagged number es) (mine ++ numbers n (length es)) ≡ option_or (last_ticket es) (latest_in (flat mid) mine)) len (latest_more number (flat mid) mine es low)) in
    more ∙ ap (λ o. option_or (last_ticket es) o) (sym (latest_longer (flat mid) (flat now) mine (tagged number es, log) low))
