-- Of two reports of one entity the one that was made later has the greater number.
use Rattle.std.proofs.Common.{◌≡◌, ℕ, zero, suc, ◌+◌, ◌<◌, ◌≤◌, List, [], ◌∷◌, ◌++◌, length, Some, None, refl, ap, ◌∙◌, inl, inr, arith}
use Rattle.std.specs.Prelude.{Bool, true, false, ◌==◌, pred, slice_get, if◌then◌else◌, ◌⊎◌}
use Rattle.std.proofs.lemmas.Bool.Decides.{nat_tests}
use Rattle.st_net.specs.declared.entity.Entity.{Entity}
use Rattle.st_net.specs.declared.message.Report.{Report}
use Rattle.st_event.specs.declared.event.Event.{Event}
use Rattle.st_event.specs.declared.event.Event.TheVariants.{Report as make_report}
use Rattle.st_event.specs.declared.journal.Entry.{Entry}
use Rattle.st_net.specs.Groups.{Group}
use Rattle.st_net.specs.Numbered.{nth}
use Rattle.st_event.specs.Moments.{reports_after, reports, number}
use Rattle.st_event.proofs.Made.{report_now, numbered_made, names_none}
use Rattle.st_event.proofs.Shown.{made_is_true}

-- item k, counted from 0, is one of the list, or the one more at its end
pub record IsBefore (xs : List Report) (k : ℕ) (y : Report) : Type 0 where
  pub there : slice_get xs k ≡ Some y
  pub low : k < length xs

pub record IsLast (xs : List Report) (k : ℕ) (x y : Report) : Type 0 where
  pub at : k ≡ length xs
  pub same : y ≡ x

one_later : (z : Report) (xs : List Report) (x y : Report) (k : ℕ) → (IsBefore xs k y ⊎ IsLast xs k x y) → IsBefore (z ∷ xs) (suc k) y ⊎ IsLast (z ∷ xs) (suc k) x y
one_later z xs x y k (inl before) = inl (record { there = before.there; low = let low = before.low in omega (arith, low) })
one_later z xs x y k (inr last) = inr (record { at = let at = last.at in omega (arith, at); same = last.same })

before_or_last : (xs : List Report) (x y : Report) (k : ℕ) → slice_get (xs ++ x ∷ []) k ≡ Some y → IsBefore xs k y ⊎ IsLast xs k x y
before_or_last [] x y zero is = inr (record { at = refl; same = cc })
before_or_last [] x y (suc k) is = cc
before_or_last (z ∷ xs) x y zero is = inl (record { there = is; low = omega arith })
before_or_last (z ∷ xs) x y (suc k) is = one_later z xs x y k (before_or_last xs x y k is)

-- item n of a list, counted from 1
record IsItem (xs : List Report) (n : ℕ) (y : Report) : Type 0 where
  some : 1 ≤ n
  there : slice_get xs (pred n) ≡ Some y

item_at : (xs : List Report) (n : ℕ) (y : Report) (b : Bool) → (n == 0) ≡ b → (if b then None else slice_get xs (pred n)) ≡ Some y → IsItem xs n y
item_at xs zero y true none is = cc
item_at xs (suc n) y true none is = cc
item_at xs zero y false none is = cc
item_at xs (suc n) y false none is = record { some = omega arith; there = is }

item : (xs : List Report) (n : ℕ) (y : Report) → nth xs n ≡ Some y → IsItem xs n y
item xs n y is = item_at xs n y (n == 0) refl is

not_zero : (n : ℕ) → 1 ≤ n → (n == 0) ≡ false
not_zero n some = grind (arith, nat_tests)

item_there : (xs : List Report) (n : ℕ) (y : Report) → 1 ≤ n → slice_get xs (pred n) ≡ Some y → nth xs n ≡ Some y
item_there xs n y some is = rw (not_zero n some) is

-- what holds of the reports before the entry
record Ascends (xs : List Report) : Type 0 where
  ascends : (m n : ℕ) (o r : Report) → nth xs m ≡ Some o → nth xs n ≡ Some r → o.entity ≡ r.entity → m < n → o.number < r.number

made_last : (g : Group) (past : List Entry) (e : Entity) (o r : Report) → o.number ≤ number past o.entity → r ≡ report_now g past e → o.entity ≡ r.entity → o.number < r.number
made_last g past e o r low is own =
    let mine : r.entity ≡ e = ap (λ (x : Report). x.entity) is in
    let count : r.number ≡ number past e + 1 = ap (λ (x : Report). x.number) is in
    let same : number past o.entity ≡ number past e = ap (number past) (own ∙ mine) in
    omega (arith, low, count, same)

last_two : (g : Group) (past : List Entry) (e : Entity) (m n : ℕ) (o r : Report) → 1 ≤ m → 1 ≤ n → (IsBefore (reports g past) (pred m) o ⊎ IsLast (reports g past) (pred m) (report_now g past e) o) → (IsBefore (reports g past) (pred n) r ⊎ IsLast (reports g past) (pred n) (report_now g past e) r) → o.entity ≡ r.entity → m < n → Ascends (reports g past) → o.number < r.number
last_two g past e m n o r some_m some_n (inl one) (inl two) own less old = old.ascends m n o r (item_there (reports g past) m o some_m one.there) (item_there (reports g past) n r some_n two.there) own less
last_two g past e m n o r some_m some_n (inl one) (inr last) own less old =
    made_last g past e o r (made_is_true g past o (numbered_made g past m o (item_there (reports g past) m o some_m one.there))).counted last.same own
last_two g past e m n o r some_m some_n (inr last) (inl two) own less old = let at = last.at in let low = two.low in absurd (omega (arith, at, low))
last_two g past e m n o r some_m some_n (inr last) (inr again) own less old = let at = last.at in let also = again.at in absurd (omega (arith, at, also))

event_ascends : (g : Group) (past : List Entry) (event : Event) → Ascends (reports g past) → Ascends (reports_after event (report_now g past) (reports g past))
event_ascends g past (make_report e) old = record {
  ascends = λ m n o r first second own less.
      let one = item (reports g past ++ report_now g past e ∷ []) m o first in
      let two = item (reports g past ++ report_now g past e ∷ []) n r second in
      last_two g past e m n o r one.some two.some (before_or_last (reports g past) (report_now g past e) o (pred m) one.there) (before_or_last (reports g past) (report_now g past e) r (pred n) two.there) own less old;
}
event_ascends g past _ old = old

reports_ascend_at : (g : Group) (past : List Entry) → Ascends (reports g past)
reports_ascend_at g [] = record { ascends = λ m n o r first second own less. absurd (names_none m o first) }
reports_ascend_at g (entry ∷ past) = event_ascends g past entry.event (reports_ascend_at g past)

pub reports_ascend : (g : Group) (past : List Entry) (m n : ℕ) (o r : Report) → nth (reports g past) m ≡ Some o → nth (reports g past) n ≡ Some r → o.entity ≡ r.entity → m < n → o.number < r.number
reports_ascend g past = (reports_ascend_at g past).ascends
