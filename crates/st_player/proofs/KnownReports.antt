-- The entry that is told made the report that is kept, and the health that is told is that of the entity then.
use Rattle.std.proofs.Common.{◌≡◌, ◌∙◌, ℕ, zero, suc, ◌+◌, ◌-◌, true, false, Bool, Some, None, Option, List, [], ◌∷◌, ◌++◌, length, drop, refl, sym, ap, subst, inl, inr, arith, length-append}
use Rattle.std.specs.Prelude.{◌&&◌, ◌||◌, ◌==◌, ◌⊎◌, nat_lt, pred, slice_get, unwrap_or, if◌then◌else◌}
use Rattle.std.proofs.lemmas.List.{drop_all}
use Rattle.st_net.specs.declared.entity.Entity.{Entity}
use Rattle.st_net.specs.declared.entity.Entity.TheVariants.{Device, Link}
use Rattle.st_net.specs.declared.entity.Vals.{Vals}
use Rattle.st_net.specs.declared.message.Report.{Report}
use Rattle.st_net.specs.Agents.{report_by}
use Rattle.st_net.specs.Entities.{is_same_entity}
use Rattle.st_net.specs.Groups.{Group, health_of, opening_of}
use Rattle.st_net.specs.Numbered.{nth}
use Rattle.st_net.specs.Reports.{later_report}
use Rattle.st_net.proofs.Tests.{both, same_entity}
use Rattle.st_event.specs.declared.event.Event.{Event}
use Rattle.st_event.specs.declared.event.Event.TheVariants.{Report as make_report, Hear}
use Rattle.st_event.specs.declared.journal.Entry.{Entry}
use Rattle.st_event.specs.declared.reply.Reply.{Reply}
use Rattle.st_event.specs.Moments.{busy, fence, health, heard, number, reports, vals}
use Rattle.st_event.specs.Observed.{observed}
use Rattle.st_player.specs.Known.{HasMade, IsKnownBy, before_entry, health_told, known_since, maker_heard, makers, since_after}

-- of two lists that are as long
get_pair : {X Y : Type 0} (xs : List X) (ys : List Y) (k : ℕ) (a : X) → length xs ≡ length ys → slice_get xs k ≡ Some a → (b : Y) × (slice_get ys k ≡ Some b)
get_pair [] ys k a count is = absurd cc
get_pair (x ∷ xs) [] k a count is = absurd (omega (arith, count))
get_pair (x ∷ xs) (y ∷ ys) zero a count is = (y, refl)
get_pair (x ∷ xs) (y ∷ ys) (suc k) a count is = get_pair xs ys k a (omega (arith, count)) is

nth_pair : {X Y : Type 0} (xs : List X) (ys : List Y) (n : ℕ) (a : X) → length xs ≡ length ys → nth xs n ≡ Some a → (b : Y) × (nth ys n ≡ Some b)
nth_pair {X} {Y} xs ys n a count is = by_zero (n == 0) is
  where
    by_zero : (none : Bool) → (if none then None else slice_get xs (pred n)) ≡ Some a → (b : Y) × ((if none then None else slice_get ys (pred n)) ≡ Some b)
    by_zero true is = absurd cc
    by_zero false is = get_pair xs ys (pred n) a count is

-- one more on each
abbrev InBoth : {X Y : Type 0} → List X → List Y → X → Y → ℕ → X → Y → Type 0
InBoth xs ys x y k a b = ((slice_get xs k ≡ Some a) × (slice_get ys k ≡ Some b)) ⊎ ((a ≡ x) × (b ≡ y))

get_both : {X Y : Type 0} (xs : List X) (ys : List Y) (x : X) (y : Y) (k : ℕ) (a : X) (b : Y) → length xs ≡ length ys → slice_get (xs ++ x ∷ []) k ≡ Some a → slice_get (ys ++ y ∷ []) k ≡ Some b → InBoth xs ys x y k a b
get_both [] [] x y zero a b count first second = inr (cc, cc)
get_both [] [] x y (suc k) a b count first second = absurd cc
get_both [] (z ∷ ys) x y k a b count first second = absurd (omega (arith, count))
get_both (z ∷ xs) [] x y k a b count first second = absurd (omega (arith, count))
get_both (w ∷ xs) (z ∷ ys) x y zero a b count first second = inl (first, second)
get_both (w ∷ xs) (z ∷ ys) x y (suc k) a b count first second = get_both xs ys x y k a b (omega (arith, count)) first second

-- as many reports were made as entries made them
length_more : (xs : List ℕ) (ys : List Report) (x : ℕ) (y : Report) → length xs ≡ length ys → length (xs ++ x ∷ []) ≡ length (ys ++ y ∷ [])
length_more xs ys x y count = omega (arith, count, length-append xs (x ∷ []), length-append ys (y ∷ []))

many_after : (g : Group) (past : List Entry) (event : Event) (answer : Reply) → length (makers past) ≡ length (reports g past) → length (makers (record { event = event; reply = answer } ∷ past)) ≡ length (reports g (record { event = event; reply = answer } ∷ past))
many_after g past (make_report e) answer many = length_more (makers past) (reports g past) (length past + 1) (report_by e (number past e + 1) (fence g past e) (busy g past e) (vals g past e) (health g past e)) many
many_after g past _ answer many = many

many_makers : (g : Group) (past : List Entry) → length (makers past) ≡ length (reports g past)
many_makers g [] = refl
many_makers g (entry ∷ past) = many_after g past entry.event entry.reply (many_makers g past)

-- an entry more leaves what was made
made_more : (g : Group) (past : List Entry) (entry : Entry) (e : Entity) (n : ℕ) (r : Report) → HasMade g past e n r → HasMade g (entry ∷ past) e n r
made_more g past entry e n r made = record {
  before = made.before;
  entry = made.entry;
  later = entry ∷ made.later;
  split = ap (λ (es : List Entry). entry ∷ es) made.split;
  at = made.at;
  makes = made.makes;
  report = made.report;
}

-- a report with a number was made by the entry at its place
made_now : (g : Group) (past : List Entry) (e : Entity) (answer : Reply) (k : ℕ) (r : Report) (m : ℕ) → ((r : Report) (m : ℕ) → slice_get (reports g past) k ≡ Some r → slice_get (makers past) k ≡ Some m → HasMade g past r.entity m r)
    → slice_get (reports g (record { event = make_report e; reply = answer } ∷ past)) k ≡ Some r → slice_get (makers (record { event = make_report e; reply = answer } ∷ past)) k ≡ Some m
    → HasMade g (record { event = make_report e; reply = answer } ∷ past) r.entity m r
made_now g past e answer k r m all first second =
    let now : Report = report_by e (number past e + 1) (fence g past e) (busy g past e) (vals g past e) (health g past e) in
    elim (get_both (reports g past) (makers past) now (length past + 1) k r m (sym (many_makers g past)) first second) [
      | inl was ↦ made_more g past (record { event = make_report e; reply = answer }) r.entity m r (all r m was.0 was.1)
      | inr is ↦
          let here : HasMade g (record { event = make_report e; reply = answer } ∷ past) e (length past + 1) now =
          record { before = past; entry = record { event = make_report e; reply = answer }; later = []; split = refl; at = refl; makes = refl; report = refl } in
          subst (λ (x : Report). HasMade g (record { event = make_report e; reply = answer } ∷ past) x.entity m x) (sym is.0)
          (subst (λ (n : ℕ). HasMade g (record { event = make_report e; reply = answer } ∷ past) e n now) (sym is.1) here)
    ]

made_after : (g : Group) (past : List Entry) (event : Event) (answer : Reply) (k : ℕ) (r : Report) (m : ℕ) → ((r : Report) (m : ℕ) → slice_get (reports g past) k ≡ Some r → slice_get (makers past) k ≡ Some m → HasMade g past r.entity m r)
    → slice_get (reports g (record { event = event; reply = answer } ∷ past)) k ≡ Some r → slice_get (makers (record { event = event; reply = answer } ∷ past)) k ≡ Some m
    → HasMade g (record { event = event; reply = answer } ∷ past) r.entity m r
made_after g past (make_report e) answer k r m all first second = made_now g past e answer k r m all first second
made_after g past event answer k r m all first second = made_more g past (record { event = event; reply = answer }) r.entity m r (all r m first second)

made_at : (g : Group) (past : List Entry) (k : ℕ) (r : Report) (m : ℕ) → slice_get (reports g past) k ≡ Some r → slice_get (makers past) k ≡ Some m → HasMade g past r.entity m r
made_at g [] k r m first second = absurd cc
made_at g (entry ∷ past) k r m first second = made_after g past entry.event entry.reply k r m (made_at g past k) first second

made_numbered : (g : Group) (past : List Entry) (n : ℕ) (r : Report) → nth (reports g past) n ≡ Some r → HasMade g past r.entity (unwrap_or (nth (makers past) n) 0) r
made_numbered g past n r is =
    let maker = nth_pair (reports g past) (makers past) n r (sym (many_makers g past)) is in
    subst (λ (o : Option ℕ). HasMade g past r.entity (unwrap_or o 0) r) (sym maker.1) (by_zero (n == 0) is maker.1)
  where
    by_zero : (none : Bool) → (if none then None else slice_get (reports g past) (pred n)) ≡ Some r → {m : ℕ} → (if none then None else slice_get (makers past) (pred n)) ≡ Some m → HasMade g past r.entity m r
    by_zero true first second = absurd cc
    by_zero false first {m} second = made_at g past (pred n) r m first second

-- the report that is kept
known_more : (g : Group) (past : List Entry) (entry : Entry) (e : Entity) (n : ℕ) (r : Report) → IsKnownBy g past e n r → IsKnownBy g (entry ∷ past) e n r
known_more g past entry e n r (inl opening) = inl opening
known_more g past entry e n r (inr made) = inr (made_more g past entry e n r made)

known_later : (g : Group) (past : List Entry) (e : Entity) (o : Option Report) (kept : Report) (maker before : ℕ) → ((r : Report) → o ≡ Some r → HasMade g past r.entity maker r) → IsKnownBy g past e before kept
    → IsKnownBy g past e (since_after e o kept.number maker before) (later_report e o kept)
known_later g past e None kept maker before made was = was
known_later g past e (Some r) kept maker before made was = by_test (is_same_entity r.entity e && nat_lt kept.number r.number) refl
  where
    by_test : (b : Bool) → (is_same_entity r.entity e && nat_lt kept.number r.number) ≡ b → IsKnownBy g past e (if b then maker else before) (if b then r else kept)
    by_test true is =
        let own : r.entity ≡ e = same_entity r.entity e (both (is_same_entity r.entity e) (nat_lt kept.number r.number) is).0 in
        inr (subst (λ (at : Entity). HasMade g past at maker r) own (made r refl))
    by_test false is = was

heard_made : (g : Group) (past : List Entry) (event : Event) (r : Report) → heard event (nth (reports g past)) ≡ Some r → HasMade g past r.entity (maker_heard event (nth (makers past))) r
heard_made g past (Hear n) r is = made_numbered g past n r is
heard_made g past _ r is = cc

pub known_by : (g : Group) (past : List Entry) (e : Entity) → IsKnownBy g past e (known_since g past e) (observed g past e)
known_by g [] e = inl (refl, refl)
known_by g (entry ∷ past) e =
    known_more g past entry e (known_since g (entry ∷ past) e) (observed g (entry ∷ past) e)
    (known_later g past e (heard entry.event (nth (reports g past))) (observed g past e) (maker_heard entry.event (nth (makers past))) (known_since g past e) (heard_made g past entry.event) (known_by g past e))

-- the health that a report tells is that with which it was made
told_if : (hidden : Bool) (low h x : ℕ) → (if hidden then None else Some (if hidden then low else h)) ≡ Some x → x ≡ h
told_if true low h x is = absurd cc
told_if false low h x is = cc

health_in : (e : Entity) (n f : ℕ) (b : Bool) (v : Vals) (h x : ℕ) → health_told (report_by e n f b v h) ≡ Some x → x ≡ h
health_in (Device i) n f b v h x is = told_if (b || v.v0 == 0) _ h x is
health_in (Link i) n f b v h x is = told_if (b || v.v0 == 0) _ h x is

-- the entries before one
before_made : (g : Group) (past : List Entry) (e : Entity) (n : ℕ) (r : Report) (made : HasMade g past e n r) → before_entry n past ≡ made.before
before_made g past e n r made =
    let long : length past ≡ length made.later + (length made.before + 1) = ap length made.split ∙ (length-append made.later (made.entry ∷ made.before) ∙ (let s : length (made.entry ∷ made.before) ≡ length made.before + 1 = omega arith in ap (λ (k : ℕ). length made.later + k) s)) in
    let at = made.at in
    let further : length past - (n - 1) ≡ suc (length made.later) = omega (arith, long, at) in
    ap (λ (k : ℕ). drop k past) further
    ∙ (ap (drop (suc (length made.later))) made.split ∙ drop_more made.later made.entry made.before)
  where
    drop_more : (later : List Entry) (x : Entry) (before : List Entry) → drop (suc (length later)) (later ++ x ∷ before) ≡ before
    drop_more [] x before = refl
    drop_more (y ∷ later) x before = drop_more later x before

pub health_known : (g : Group) (past : List Entry) (e : Entity) (h : ℕ) → health_told (observed g past e) ≡ Some h → h ≡ health g (before_entry (known_since g past e) past) e
health_known g past e h told = by_maker (known_by g past e)
  where
    by_maker : IsKnownBy g past e (known_since g past e) (observed g past e) → h ≡ health g (before_entry (known_since g past e) past) e
    by_maker (inl opening) =
        let at = opening.0 in
        let all : length past - (known_since g past e - 1) ≡ length past = omega (arith, at) in
        let none : before_entry (known_since g past e) past ≡ [] = ap (λ (k : ℕ). drop k past) all ∙ drop_all (length past) past (omega arith) in
        let here = health_in e 0 0 false (opening_of g e) (health_of g e) h (sym (ap health_told opening.1) ∙ told) in
        here ∙ ap (λ (es : List Entry). health g es e) (sym none)
    by_maker (inr made) =
        let es = made.before in
        let here = health_in e (number es e + 1) (fence g es e) (busy g es e) (vals g es e) (health g es e) h (sym (ap health_told made.report) ∙ told) in
        here ∙ ap (λ (es : List Entry). health g es e) (sym (before_made g past e (known_since g past e) (observed g past e) made))
