-- What several holds leave together.
use Rattle.std.proofs.Common.{◌≡◌, ◌⊎◌, ℕ, zero, suc, ◌+◌, ◌*◌, ◌<◌, ◌≤◌, List, [], ◌∷◌, ◌++◌, length, take, get_or, refl, ap, sym, subst, ◌∙◌, arith, append_assoc, length-append}
use Rattle.std.specs.Prelude.{drop, not, Bool}
use Rattle.std.specs.List.{filter}
use Rattle.std.proofs.lemmas.List.{append-nil, take_more, take-append-drop}
use Rattle.std.proofs.Math.Seq.{take-suc}
use mathlib.Core.List.{IsPrefix}
use Rattle.st_net.specs.declared.entity.Entity.{Entity}
use Rattle.st_net.specs.declared.entity.Entity.TheVariants.{Device}
use Rattle.st_net.specs.Groups.{Group}
use Rattle.st_net.specs.InOrder.{entities_of}
use Rattle.st_event.specs.declared.journal.Entry.{Entry}
use Rattle.st_event.specs.declared.event.Event.TheVariants.{Check}
use Rattle.st_event.specs.Observed.{is_settled}
use Rattle.st_event.specs.Services.{entry_after}
use Rattle.st_wire.specs.declared.line.WireLine.{WireLine}
use Rattle.st_world.specs.Rounds.{Course, course_from, unsettled}
use Rattle.st_world.specs.declared.world.rounds.Going.{Going}
use Rattle.st_world.specs.declared.world.rounds.Going.TheVariants.{On, Full}
use Rattle.st_event.proofs.Prefixes.{prefix_self, prefix_trans, prefix_length}
use Rattle.st_service.specs.declared.work.Part.{Part}
use Rattle.st_service.specs.declared.work.Part.TheVariants.{Whole}
use Rattle.st_service.specs.Awaits.{WentOn, Waits}
use Rattle.st_service.specs.Kept.{AllWithin, Grows, Kept}
use Rattle.st_service.specs.Made.{Made, past_in}
use Rattle.st_service.specs.Lines.{numbers}
use Rattle.st_service.specs.Passes.{Holder, front_at, mine_at, reader_at}
use Rattle.st_service.specs.Puts.{Puts, Enters}
use Rattle.st_service.specs.Turns.{Turns, ToFull, RoundOf, RoundsMade}
use Rattle.st_service.specs.Works.{part_of}

pub within_wider : (lo hi low high : ℕ) (ns : List ℕ) → low ≤ lo → hi ≤ high → AllWithin lo hi ns → AllWithin low high ns
within_wider lo hi low high [] a b w = tt
within_wider lo hi low high (n ∷ ns) a b w = (omega (arith, w.0, a), omega (arith, w.1, b), within_wider lo hi low high ns a b w.2)

pub within_both : (lo hi : ℕ) (ms ns : List ℕ) → AllWithin lo hi ms → AllWithin lo hi ns → AllWithin lo hi (ms ++ ns)
within_both lo hi [] ns v w = w
within_both lo hi (m ∷ ms) ns v w = (v.0, v.1, within_both lo hi ms ns v.2 w)

pub grows_on : (k m most : ℕ) (a b c : List Made) (was mid now : List ℕ) → k + m ≤ most → Grows k a was b mid → Grows m b mid c now → Grows most a was c now
grows_on k m most a b c was mid now le g h =
    let xs = g.1.0 in
    let ys = h.1.0 in
    let p = prefix_length a b g.0 in
    let q = prefix_length b c h.0 in (
      prefix_trans a b c g.0 h.0,
      (
        xs ++ ys,
        h.1.1 ∙ (ap (λ l. l ++ ys) g.1.1 ∙ append_assoc was xs ys),
        omega (arith, length-append xs ys, g.1.2, h.1.2, le),
        within_both (length a) (length c) xs ys (within_wider (length a) (length b) (length a) (length c) xs (omega arith) q g.1.3) (within_wider (length b) (length c) (length a) (length c) ys p (omega arith) h.1.3),
      ),
    )

pub kept_self : (a : Holder) (g most : ℕ) → Kept a a g most
kept_self a g most = record {
  number = refl;
  rooms = (refl, refl);
  others = λ k apart. (refl, refl);
  grows = (prefix_self (front_at a.fronts g), ([], sym (append-nil (mine_at a.mines g)), omega arith, tt));
  readers = λ k. prefix_self (reader_at a.readers k).proposals;
}

-- one call after another
pub kept_on : (a b c : Holder) (g k m most : ℕ) → k + m ≤ most → Kept a b g k → Kept b c g m → Kept a c g most
kept_on a b c g k m most le p q = record {
  number = q.number ∙ p.number;
  rooms = (q.rooms.0 ∙ p.rooms.0, q.rooms.1 ∙ p.rooms.1);
  others = λ j apart. ((q.others j apart).0 ∙ (p.others j apart).0, (q.others j apart).1 ∙ (p.others j apart).1);
  grows = grows_on k m most (front_at a.fronts g) (front_at b.fronts g) (front_at c.fronts g) (mine_at a.mines g) (mine_at b.mines g) (mine_at c.mines g) le p.grows q.grows;
  readers = λ j. prefix_trans (reader_at a.readers j).proposals (reader_at b.readers j).proposals (reader_at c.readers j).proposals (p.readers j) (q.readers j);
}

no_more : {X : Type 0} (xs : List X) → length xs ≡ 0 → xs ≡ []
no_more [] e = refl
no_more (x ∷ xs) e = absurd (omega (arith, e))

-- where no place was added, the list is what it was
pub same_mine : (before after : List Made) (was now : List ℕ) → Grows 0 before was after now → now ≡ was
same_mine before after was now g = g.1.1 ∙ (ap (λ l. was ++ l) (no_more g.1.0 (omega (arith, g.1.2))) ∙ append-nil was)

-- what was entered, for one that had seen less
enters_from : (course : List Entry → Course) (going : Going) (p : ℕ) (mid before at : List Made) (was got : List ℕ) (after : List Made) (now : List ℕ) → IsPrefix before at → got ≡ was → Enters course going p mid at got after now → Enters course going p mid before was after now
enters_from course going p mid before at was got after now seen same e = record {
  entries = e.entries;
  puts = (prefix_trans before at mid seen e.puts.0, e.puts.1, e.puts.2 ∙ ap (λ l. l ++ numbers (length mid) (length e.entries)) same);
  run = e.run;
  full = e.full;
}

-- one turn, and one turn more
abbrev pub OneTurn : Part → Group → List WireLine → ℕ → Entity → List Made → List ℕ → List Made → List ℕ → Type 0
OneTurn part g lines p e before was after now = (mid : List Made) × Enters (λ past. part_of part g lines (course_from past) e) On p mid before was after now

turns_more : (part : Part) (g : Group) (lines : List WireLine) (p : ℕ) (e : Entity) (es : List Entity) (before at after : List Made) (was got now : List ℕ)
    → Turns part g lines p es before was at got → OneTurn part g lines p e at got after now → Turns part g lines p (es ++ e ∷ []) before was after now
turns_more part g lines p e [] before at after was got now t q =
    (q.0, after, now, enters_from (λ past. part_of part g lines (course_from past) e) On p q.0 before at was got after now t.0 t.1 q.1, (prefix_self after, refl))
turns_more part g lines p e (x ∷ es) before at after was got now t q = (t.0, t.1, t.2, t.3, turns_more part g lines p e es t.1 at after t.2 got now t.4 q)

pub turns_take : (part : Part) (g : Group) (lines : List WireLine) (p k : ℕ) (es : List Entity) (before at after : List Made) (was got now : List ℕ) → k < length es
    → Turns part g lines p (take k es) before was at got → OneTurn part g lines p (get_or es k (Device 0)) at got after now → Turns part g lines p (take (k + 1) es) before was after now
turns_take part g lines p k es before at after was got now lt t q =
    let e : suc k ≡ k + 1 = omega arith in
    let l : take k es ++ get_or es k (Device 0) ∷ [] ≡ take (k + 1) es = sym (take-suc es k (Device 0) lt) ∙ ap (λ j. take j es) e in
    subst (λ xs. Turns part g lines p xs before was after now) l (turns_more part g lines p (get_or es k (Device 0)) (take k es) before at after was got now t q)

-- the first so many, and the next, begin them
begins_more : (es : List Entity) (k : ℕ) (d : Entity) → k < length es → IsPrefix (take k es ++ get_or es k d ∷ []) es
begins_more es k d lt = (drop (k + 1) es, ap (λ l. l ++ drop (k + 1) es) (sym (take_more es k d lt)) ∙ take-append-drop (k + 1) es)

-- where the next turn met a full journal
pub turns_full : (part : Part) (g : Group) (lines : List WireLine) (p k : ℕ) (es : List Entity) (before at seen after : List Made) (was got now : List ℕ) → k < length es
    → Turns part g lines p (take k es) before was at got → Enters (λ past. part_of part g lines (course_from past) (get_or es k (Device 0))) Full p seen at got after now
    → ToFull part g lines p es before was after now
turns_full part g lines p k es before at seen after was got now lt t e = record {
  done = take k es;
  last = get_or es k (Device 0);
  begins = begins_more es k (Device 0) lt;
  mid = at;
  got = got;
  turns = t;
  seen = seen;
  enters = e;
}

pub turns_later : (part : Part) (g : Group) (lines : List WireLine) (p : ℕ) (es : List Entity) (before mid after : List Made) (was now : List ℕ) → Turns part g lines p es before was mid now → IsPrefix mid after → Turns part g lines p es before was after now
turns_later part g lines p [] before mid after was now t q = (prefix_trans before mid after t.0 q, t.1)
turns_later part g lines p (e ∷ es) before mid after was now t q = (t.0, t.1, t.2, t.3, turns_later part g lines p es t.1 mid after t.2 now t.4 q)

-- one round more
pub rounds_more : (g : Group) (lines : List WireLine) (p k : ℕ) (before mid after : List Made) (was got now : List ℕ)
    → RoundsMade g lines p k before was mid got → RoundOf Whole g lines p mid got after now → RoundsMade g lines p (suc k) before was after now
rounds_more g lines p zero before mid after was got now r q =
    (after, now, (q.0, prefix_trans before mid q.0 r.0 q.1, subst (λ l. Turns Whole g lines p (unsettled g (past_in q.0)) q.0 l after now) r.1 q.2), (prefix_self after, refl))
rounds_more g lines p (suc k) before mid after was got now r q = (r.0, r.1, r.2, rounds_more g lines p k r.0 mid after r.1 got now r.3 q)

pub rounds_later : (g : Group) (lines : List WireLine) (p k : ℕ) (before mid after : List Made) (was now : List ℕ) → RoundsMade g lines p k before was mid now → IsPrefix mid after → RoundsMade g lines p k before was after now
rounds_later g lines p zero before mid after was now r q = (prefix_trans before mid after r.0 q, r.1)
rounds_later g lines p (suc k) before mid after was now r q = (r.0, r.1, r.2, rounds_later g lines p k r.0 mid after r.1 now r.3 q)

-- what a check left, for one that had seen less
went_from : (g : Group) (ticket p : ℕ) (before mid after : List Made) (was got now : List ℕ) → IsPrefix before mid → got ≡ was → WentOn g ticket p mid got after now → WentOn g ticket p before was after now
went_from g ticket p before mid after was got now seen same w = record {
  seen = w.seen;
  later = prefix_trans before mid w.seen seen w.later;
  within = w.within;
  pending = w.pending;
  near = w.near;
  decided = w.decided;
  made = subst (λ l. (now ≡ l) ⊎ Puts p (entry_after g (past_in w.seen) Check ∷ []) w.seen w.seen l after now) same w.made;
}

-- one check more
pub waits_more : (g : Group) (ticket p k : ℕ) (before mid after : List Made) (was got now : List ℕ) → Waits g ticket p k before was mid got → WentOn g ticket p mid got after now → Waits g ticket p (suc k) before was after now
waits_more g ticket p zero before mid after was got now r w = (after, now, went_from g ticket p before mid after was got now r.0 r.1 w, (prefix_self after, refl))
waits_more g ticket p (suc k) before mid after was got now r w = (r.0, r.1, r.2, waits_more g ticket p k r.0 mid after r.1 got now r.3 w)

pub waits_later : (g : Group) (ticket p k : ℕ) (before mid after : List Made) (was got now : List ℕ) → Waits g ticket p k before was mid got → IsPrefix mid after → now ≡ got → Waits g ticket p k before was after now
waits_later g ticket p zero before mid after was got now r q same = (prefix_trans before mid after r.0 q, same ∙ r.1)
waits_later g ticket p (suc k) before mid after was got now r q same = (r.0, r.1, r.2, waits_later g ticket p k r.0 mid after r.1 got now r.3 q same)

-- so many entities are not settled, at the most
filter_few : {X : Type 0} (f : X → Bool) (xs : List X) → length (filter f xs) ≤ length xs
filter_few f [] = omega arith
filter_few f (x ∷ xs) = let r = filter_few f xs in grind (arith, r)

pub few_unsettled : (g : Group) (past : List Entry) → length (unsettled g past) ≤ length (entities_of g)
few_unsettled g past = filter_few (λ e. not (is_settled g past e)) (entities_of g)

-- sums of shares
pub share_fits : (k n w : ℕ) → k < n → k * w + w ≤ n * w
share_fits k n w lt = grind (arith, lt)

pub share_next : (k w : ℕ) → k * w + w ≤ (k + 1) * w
share_next k w = grind arith

pub shares_within : (m n w : ℕ) → m ≤ n → m * w ≤ w * n
shares_within m n w le = grind (arith, le)

-- one turn more, of those that are due
pub kept_turn : (a b c : Holder) (g k n w : ℕ) → k < n → Kept a b g (k * w) → Kept b c g w → Kept a c g (n * w)
kept_turn a b c g k n w lt p q = let f = share_fits k n w lt in kept_on a b c g (k * w) w (n * w) f p q
