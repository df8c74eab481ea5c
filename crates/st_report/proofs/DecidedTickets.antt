-- The receipts of a journal, gathered from its oldest entry on.
use Rattle.std.proofs.Common.{◌≡◌, ℕ, ◌+◌, ◌<◌, get_or, List, [], ◌∷◌, ◌++◌, length, map, take, refl, sym, ◌∙◌, ap, append_assoc, zero-add, arith, Option, Some, None}
use Rattle.std.specs.Prelude.{reverse, slice_get, decimal}
use Rattle.std.specs.Option.{option_to_list}
use Rattle.std.specs.List.{filter_map, cons_option}
use Rattle.std.proofs.lemmas.List.{append-nil, length-append, reverse-append, map-append, take_more}
use Rattle.st_text.specs.Words.{spaced}
use Rattle.st_net.specs.declared.entity.AppId.{AppId}
use Rattle.st_net.specs.Groups.{Group}
use Rattle.st_event.specs.declared.event.Event.{Event}
use Rattle.st_event.specs.declared.event.Event.TheVariants.{Submit, Check}
use Rattle.st_event.specs.declared.event.Proposal.{Proposal}
use Rattle.st_event.specs.declared.reply.Reply.{Reply}
use Rattle.st_event.specs.declared.reply.Reply.TheVariants.{Queued, Decided}
use Rattle.st_event.specs.declared.reply.Verdict.{Verdict}
use Rattle.st_event.specs.declared.journal.Entry.{Entry}
use Rattle.st_event.specs.Proposals.{proposals, proposals_after, verdicts, verdicts_after}
use Rattle.st_entry.specs.Causes.{verdict_words}
use Rattle.st_entry.specs.Words.{app_word}
use Rattle.st_report.specs.Inside.{proposer_in, proposer_of, verdict_in, verdict_of, texts_where}
use Rattle.st_report.specs.Lines.{decided_words, receipt_words}

-- what one entry adds to the applications of proposals, and to verdicts
app_added : (event : Event) (reply : Reply) (before : List Proposal) → map (λ p. p.app) (proposals_after event reply before) ≡ map (λ p. p.app) before ++ option_to_list (proposer_in event reply)
app_added (Submit app rows) (Queued ticket) before = map-append (λ (p : Proposal). p.app) before (record { app = app; rows = rows } ∷ [])
app_added (Submit app rows) _ before = sym (append-nil (map (λ p. p.app) before))
app_added _ reply before = sym (append-nil (map (λ p. p.app) before))

verdict_added : (event : Event) (reply : Reply) (before : List Verdict) → verdicts_after event reply before ≡ before ++ option_to_list (verdict_in event reply)
verdict_added Check (Decided receipt) before = refl
verdict_added Check _ before = sym (append-nil before)
verdict_added _ reply before = sym (append-nil before)

-- the applications of proposals behind some entries: those of the entries before, and those of these
front : {Y : Type 0} (o : Option Y) (ys : List Y) → option_to_list o ++ ys ≡ cons_option o ys
front None ys = refl
front (Some y) ys = refl

apps_behind : (xs past : List Entry) → map (λ p. p.app) (proposals (reverse xs ++ past)) ≡ map (λ p. p.app) (proposals past) ++ filter_map proposer_of xs
apps_behind [] past = sym (append-nil (map (λ p. p.app) (proposals past)))
apps_behind (x ∷ xs) past =
    let turned : reverse (x ∷ xs) ++ past ≡ reverse xs ++ (x ∷ past) = ap (λ t. t ++ past) (reverse-append (x ∷ []) xs) ∙ append_assoc (reverse xs) (x ∷ []) past in
    let before = map (λ (p : Proposal). p.app) (proposals past) in
    ap (λ es. map (λ (p : Proposal). p.app) (proposals es)) turned ∙
    (apps_behind xs (x ∷ past) ∙
    (ap (λ t. t ++ filter_map proposer_of xs) (app_added x.event x.reply (proposals past)) ∙
    (append_assoc before (option_to_list (proposer_of x)) (filter_map proposer_of xs) ∙ ap (λ t. before ++ t) (front (proposer_of x) (filter_map proposer_of xs)))))

apps_filtered : (xs : List Entry) → map (λ p. p.app) (proposals (reverse xs)) ≡ filter_map proposer_of xs
apps_filtered xs = ap (λ es. map (λ (p : Proposal). p.app) (proposals es)) (sym (append-nil (reverse xs))) ∙ apps_behind xs []

-- the texts of receipts by the applications alone
abbrev pub receipts_of : Group → List (List ℕ) → ℕ → List AppId → List Verdict → List (List ℕ)
receipts_of g apps ticket askers [] = []
receipts_of g apps ticket [] (v ∷ vs) = []
receipts_of g apps ticket (a ∷ askers) (v ∷ vs) = spaced (decimal ticket ∷ app_word apps a ∷ verdict_words g apps v) ∷ receipts_of g apps (ticket + 1) askers vs

by_apps : (g : Group) (apps : List (List ℕ)) (ticket : ℕ) (ps : List Proposal) (vs : List Verdict) → map spaced (decided_words g apps ticket ps vs) ≡ receipts_of g apps ticket (map (λ p. p.app) ps) vs
by_apps g apps ticket ps [] = refl
by_apps g apps ticket [] (v ∷ vs) = refl
by_apps g apps ticket (p ∷ ps) (v ∷ vs) = ap (λ t. spaced (decimal ticket ∷ app_word apps p.app ∷ verdict_words g apps v) ∷ t) (by_apps g apps (ticket + 1) ps vs)

-- the verdict that comes next decides the next ticket
receipt_next : (g : Group) (apps : List (List ℕ)) (ticket : ℕ) (askers : List AppId) (vs : List Verdict) (v : Verdict) → receipts_of g apps ticket askers (vs ++ v ∷ []) ≡ receipts_of g apps ticket askers vs ++ texts_where g apps (length vs + ticket) (slice_get askers (length vs)) v
receipt_next g apps ticket [] [] v = refl
receipt_next g apps ticket [] (w ∷ vs) v = refl
receipt_next g apps ticket (a ∷ askers) [] v = ap (λ n. spaced (decimal n ∷ app_word apps a ∷ verdict_words g apps v) ∷ []) (sym (zero-add ticket))
receipt_next g apps ticket (a ∷ askers) (w ∷ vs) v =
    let step : length vs + (ticket + 1) ≡ length (w ∷ vs) + ticket = omega arith in
    let first = spaced (decimal ticket ∷ app_word apps a ∷ verdict_words g apps w) in
    ap (λ t. first ∷ t) (receipt_next g apps (ticket + 1) askers vs v ∙ ap (λ n. receipts_of g apps (ticket + 1) askers vs ++ texts_where g apps n (slice_get askers (length vs)) v) step)

-- the text of the verdict that an entry gives, behind so many
abbrev pub texts_with : Group → List (List ℕ) → List AppId → ℕ → Option Verdict → List (List ℕ)
texts_with g apps askers decided None = []
texts_with g apps askers decided (Some v) = texts_where g apps (decided + 1) (slice_get askers decided) v

receipts_more : (g : Group) (apps : List (List ℕ)) (askers : List AppId) (vs : List Verdict) (o : Option Verdict) → receipts_of g apps 1 askers (vs ++ option_to_list o) ≡ receipts_of g apps 1 askers vs ++ texts_with g apps askers (length vs) o
receipts_more g apps askers vs None = ap (receipts_of g apps 1 askers) (append-nil vs) ∙ sym (append-nil (receipts_of g apps 1 askers vs))
receipts_more g apps askers vs (Some v) = receipt_next g apps 1 askers vs v

-- all receipts, by the applications that queued proposals
pub receipts_are : (g : Group) (apps : List (List ℕ)) (xs : List Entry) (askers : List AppId) → askers ≡ filter_map proposer_of xs → map spaced (receipt_words g apps (reverse xs)) ≡ receipts_of g apps 1 askers (verdicts (reverse xs))
receipts_are g apps xs askers is = by_apps g apps 1 (proposals (reverse xs)) (verdicts (reverse xs)) ∙ ap (λ l. receipts_of g apps 1 l (verdicts (reverse xs))) (apps_filtered xs ∙ sym is)

-- the verdicts after one more entry
verdicts_next : (xs : List Entry) (i : ℕ) (x d : Entry) → i < length xs → x ≡ get_or xs i d → verdicts (reverse (take (i + 1) xs)) ≡ verdicts (reverse (take i xs)) ++ option_to_list (verdict_of x)
verdicts_next xs i x d within is =
    let past = reverse (take i xs) in
    let next : reverse (take (i + 1) xs) ≡ x ∷ past = ap reverse (take_more xs i d within) ∙ (reverse-append (take i xs) (get_or xs i d ∷ []) ∙ ap (λ y. y ∷ past) (sym is)) in
    ap verdicts next ∙ verdict_added x.event x.reply (verdicts past)

-- the text of a verdict that an entry gives
pub text_given : (g : Group) (apps : List (List ℕ)) (askers : List AppId) (decided n : ℕ) (v : Verdict) (o : Option Verdict) → decided ≡ n → Some v ≡ o → texts_where g apps (decided + 1) (slice_get askers decided) v ≡ texts_with g apps askers n o
text_given g apps askers decided n v o same is = ap (λ d. texts_where g apps (d + 1) (slice_get askers d) v) same ∙ ap (texts_with g apps askers n) is

-- one entry adds its verdict
pub decided_more : (xs : List Entry) (i : ℕ) (x d : Entry) → i < length xs → x ≡ get_or xs i d → length (verdicts (reverse (take (i + 1) xs))) ≡ length (verdicts (reverse (take i xs))) + length (option_to_list (verdict_of x))
decided_more xs i x d within is = ap length (verdicts_next xs i x d within is) ∙ length-append (verdicts (reverse (take i xs))) (option_to_list (verdict_of x))

-- and its text
pub receipts_next : (g : Group) (apps : List (List ℕ)) (askers : List AppId) (xs : List Entry) (i : ℕ) (x d : Entry) (mid new : List (List ℕ)) → i < length xs → x ≡ get_or xs i d → mid ≡ receipts_of g apps 1 askers (verdicts (reverse (take i xs)))
    → new ≡ mid ++ texts_with g apps askers (length (verdicts (reverse (take i xs)))) (verdict_of x) → new ≡ receipts_of g apps 1 askers (verdicts (reverse (take (i + 1) xs)))
receipts_next g apps askers xs i x d mid new within is before added =
    let past = verdicts (reverse (take i xs)) in
    added ∙ (ap (λ t. t ++ texts_with g apps askers (length past) (verdict_of x)) before ∙
    (sym (receipts_more g apps askers past (verdict_of x)) ∙ ap (receipts_of g apps 1 askers) (sym (verdicts_next xs i x d within is))))
