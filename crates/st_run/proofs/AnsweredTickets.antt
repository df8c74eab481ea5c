-- The latest ticket of a pass is the one that the last of its answered proposals was given.
use Rattle.std.proofs.Common.{◌≡◌, ℕ, zero, suc, Bool, true, false, List, [], ◌∷◌, ◌++◌, length, map, refl, ap, sym, subst, ◌∙◌, arith}
use Rattle.std.specs.Prelude.{Option, Some, None, slice_get, reverse, if◌then◌else◌}
use Rattle.std.specs.List.{filter}
use Rattle.std.specs.Option.{option_or}
use Rattle.std.proofs.lemmas.List.{reverse-append}
use Rattle.st_net.specs.Groups.{Group}
use Rattle.st_net.specs.Numbered.{nth}
use Rattle.st_net.proofs.Tests.{numbered}
use Rattle.st_event.specs.declared.event.Event.{Event}
use Rattle.st_event.specs.declared.event.Event.TheVariants.{Submit, Check, Lock, Unlock, Send, Deliver, Finish, Report as make_report, Hear, Fail, Withdraw}
use Rattle.st_event.specs.declared.journal.Entry.{Entry}
use Rattle.st_event.specs.declared.reply.Reply.{Reply}
use Rattle.st_event.specs.declared.reply.Reply.TheVariants.{Queued}
use Rattle.st_event.specs.Legal.{IsLegal}
use Rattle.st_service.specs.Asked.{asker, is_request}
use Rattle.st_service.specs.Made.{Made, past_in}
use Rattle.st_event.specs.Receipts.{ticket_given}
use Rattle.st_run.specs.Requests.{is_submit, ticket_in as given_in}
use Rattle.st_service.specs.Tickets.{last_ticket, ticket_in}
use Rattle.st_run.proofs.CommandEntries.{is_asking}
use Rattle.st_run.proofs.DidLaws.{Each}
use Rattle.st_run.proofs.GivenTickets.{no_ticket, or_none}
use Rattle.st_run.proofs.LatestTickets.{entries_in}
use Rattle.st_run.proofs.OwnEntries.{and_entry, entries_at}

-- an entry of another kind gives none
abbrev pub OnlyProposals : Entry → Type 0
OnlyProposals e = is_submit e.event ≡ false → ticket_in e.reply ≡ None

legal_tickets : (g : Group) (past : List Entry) → IsLegal g past → Each OnlyProposals past
legal_tickets g [] legal = tt
legal_tickets g (e ∷ past) legal = (λ (other : is_submit e.event ≡ false). ap ticket_in legal.0.answer ∙ no_ticket g past e.event other, legal_tickets g past legal.1)

each_parts : {X : Type 0} (P : X → Type 0) (xs ys : List X) → Each P (xs ++ ys) → Each P xs × Each P ys
each_parts P [] ys e = (tt, e)
each_parts P (x ∷ xs) ys e = let r = each_parts P xs ys e.1 in ((e.0, r.0), r.1)

each_back : {X : Type 0} (P : X → Type 0) (xs : List X) → Each P (reverse xs) → Each P xs
each_back P [] e = tt
each_back P (x ∷ xs) e = let r = each_parts P (reverse xs) (x ∷ []) (subst (Each P) (reverse-append (x ∷ []) xs) e) in (r.1.0, each_back P xs r.0)

each_got : (P : Entry → Type 0) (front : List Made) (n : ℕ) (es : List Entry) → Each P (entries_in front) → Each P es → Each P (and_entry (slice_get front n) es)
each_got P [] n es all rest = rest
each_got P (m ∷ front) zero es all rest = (all.0, rest)
each_got P (m ∷ front) (suc n) es all rest = each_got P front n es all.1 rest

each_at : (P : Entry → Type 0) (front : List Made) (mine : List ℕ) → Each P (entries_in front) → Each P (entries_at front mine)
each_at P front [] all = tt
each_at P front (n ∷ ns) all = each_got P front n (entries_at front ns) all (each_at P front ns all)

pub own_tickets : (g : Group) (front : List Made) (mine : List ℕ) → IsLegal g (past_in front) → Each OnlyProposals (entries_at front mine)
own_tickets g front mine legal = each_at OnlyProposals front mine (each_back OnlyProposals (entries_in front) (legal_tickets g (past_in front) legal))

-- so the last ticket is that of the proposals alone

abbrev pub proposes : Entry → Bool
proposes e = is_submit e.event

last_one : (e : Entry) (es : List Entry) (b : Bool) → proposes e ≡ b → OnlyProposals e → last_ticket es ≡ last_ticket (filter proposes es) → last_ticket (e ∷ es) ≡ last_ticket (if b then e ∷ filter proposes es else filter proposes es)
last_one e es true is only rest = ap (λ (o : Option ℕ). option_or o (ticket_in e.reply)) rest
last_one e es false is only rest = ap (λ (o : Option ℕ). option_or (last_ticket es) o) (only is) ∙ (or_none (last_ticket es) ∙ rest)

pub last_proposed : (es : List Entry) → Each OnlyProposals es → last_ticket es ≡ last_ticket (filter proposes es)
last_proposed [] only = refl
last_proposed (e ∷ es) only = last_one e es (proposes e) refl only.0 (last_proposed es only.1)

-- a proposal is a request
submit_asks : (event : Event) → is_submit event ≡ true → is_request (asker event) ≡ true
submit_asks (Submit app rows) is = refl
submit_asks Check is = is
submit_asks (Lock app e prio) is = refl
submit_asks (Unlock app e prio) is = refl
submit_asks (Send e) is = is
submit_asks (Deliver n) is = is
submit_asks (Finish e) is = is
submit_asks (make_report e) is = is
submit_asks (Hear n) is = is
submit_asks (Fail e vals health) is = is
submit_asks (Withdraw e) is = is

asking_one : (e : Entry) (es : List Entry) (b c : Bool) → proposes e ≡ b → is_asking e ≡ c → (b ≡ true → c ≡ true) → filter proposes (filter is_asking es) ≡ filter proposes es
    → filter proposes (if c then e ∷ filter is_asking es else filter is_asking es) ≡ (if b then e ∷ filter proposes es else filter proposes es)
asking_one e es true true is asks p rest = rw is (ap (λ (l : List Entry). e ∷ l) rest)
asking_one e es true false is asks p rest = absurd (cc (p refl))
asking_one e es false true is asks p rest = rw is rest
asking_one e es false false is asks p rest = rest

pub proposals_asking : (es : List Entry) → filter proposes (filter is_asking es) ≡ filter proposes es
proposals_asking [] = refl
proposals_asking (e ∷ es) = asking_one e es (proposes e) (is_asking e) refl refl (submit_asks e.event) (proposals_asking es)

-- the ticket in the last of the replies

given_same : (r : Reply) → ticket_given r ≡ ticket_in r
given_same (Queued t) = refl
given_same _ = refl

pub last_reply : (es : List Entry) (t : ℕ) → given_in (nth (map (λ (e : Entry). e.reply) es) (length (map (λ (e : Entry). e.reply) es))) ≡ Some t → last_ticket es ≡ Some t
last_reply [] t told = absurd (cc told)
last_reply (e ∷ []) t told = sym (given_same e.reply) ∙ (ap given_in (sym (numbered (e.reply ∷ []) 1 (omega arith))) ∙ told)
last_reply (e ∷ f ∷ es) t told =
    let rs = map (λ (x : Entry). x.reply) es in
    let same : nth (f.reply ∷ rs) (suc (length rs)) ≡ nth (e.reply ∷ f.reply ∷ rs) (suc (suc (length rs))) = numbered (f.reply ∷ rs) (suc (length rs)) (omega arith) ∙ sym (numbered (e.reply ∷ f.reply ∷ rs) (suc (suc (length rs))) (omega arith)) in
    let rest : last_ticket (f ∷ es) ≡ Some t = last_reply (f ∷ es) t (ap given_in same ∙ told) in
    ap (λ (o : Option ℕ). option_or o (ticket_in e.reply)) rest
