-- The entries of a pass in a front, by its list of places there, as both go on.
use Rattle.std.proofs.Common.{◌≡◌, ℕ, zero, suc, ◌+◌, ◌≤◌, List, [], ◌∷◌, ◌++◌, length, refl, ap, sym, subst, ◌∙◌, arith, append_assoc, length-append}
use Rattle.std.specs.Prelude.{Option, Some, None, slice_get}
use Rattle.std.proofs.lemmas.List.{append-nil}
use mathlib.Core.List.{IsPrefix}
use Rattle.st_event.specs.declared.journal.Entry.{Entry}
use Rattle.st_event.proofs.Prefixes.{prefix_length, prefix_trans}
use Rattle.st_service.specs.Kept.{AllWithin}
use Rattle.st_service.specs.Lines.{tagged, numbers}
use Rattle.st_service.specs.Made.{Made}
use Rattle.st_service.specs.Puts.{Puts}
use Rattle.st_run.proofs.DidLaws.{Each}
use Rattle.st_run.proofs.Interleaved.{get_here}
use Rattle.st_service.proofs.ChainLaws.{within_both}
use Rattle.st_service.proofs.TicketLaws.{get_left}
use Rattle.st_service.proofs.Lines.{length_tagged}

abbrev pub and_entry : Option Made → List Entry → List Entry
and_entry (Some m) es = m.entry ∷ es
and_entry None es = es

-- the entries at these places
abbrev pub entries_at : List Made → List ℕ → List Entry
entries_at front [] = []
entries_at front (n ∷ ns) = and_entry (slice_get front n) (entries_at front ns)

and_append : (o : Option Made) (xs ys : List Entry) → and_entry o (xs ++ ys) ≡ and_entry o xs ++ ys
and_append (Some m) xs ys = refl
and_append None xs ys = refl

pub entries_append : (front : List Made) (ms ns : List ℕ) → entries_at front (ms ++ ns) ≡ entries_at front ms ++ entries_at front ns
entries_append front [] ns = refl
entries_append front (m ∷ ms) ns = ap (and_entry (slice_get front m)) (entries_append front ms ns) ∙ and_append (slice_get front m) (entries_at front ms) (entries_at front ns)

-- a longer front has the same there
pub entries_longer : (xs ys : List Made) (mine : List ℕ) → IsPrefix xs ys → AllWithin 0 (length xs) mine → entries_at ys mine ≡ entries_at xs mine
entries_longer xs ys [] p w = refl
entries_longer xs ys (n ∷ ns) p w =
    ap (and_entry (slice_get ys n)) (entries_longer xs ys ns p w.2)
    ∙ ap (λ (o : Option Made). and_entry o (entries_at xs ns)) (ap (λ (l : List Made). slice_get l n) (sym p.1) ∙ get_left xs p.0 n w.1)

-- entries made at the end
pub entries_made : (number : ℕ) (mid : List Made) (es : List Entry) → entries_at (mid ++ tagged number es) (numbers (length mid) (length es)) ≡ es
entries_made number mid [] = refl
entries_made number mid (e ∷ es) =
    let m : Made = record { by = number; entry = e } in
    let next = mid ++ m ∷ [] in
    let len : length next ≡ suc (length mid) = omega (arith, length-append mid (m ∷ [])) in
    let same : next ++ tagged number es ≡ mid ++ m ∷ tagged number es = append_assoc mid (m ∷ []) (tagged number es) in
    let rest : entries_at (mid ++ m ∷ tagged number es) (numbers (suc (length mid)) (length es)) ≡ es =
    subst (λ (l : List Made). entries_at l (numbers (suc (length mid)) (length es)) ≡ es) same
    (subst (λ (n : ℕ). entries_at (next ++ tagged number es) (numbers n (length es)) ≡ es) len (entries_made number next es)) in
    ap (and_entry (slice_get (mid ++ m ∷ tagged number es) (length mid))) rest ∙ ap (λ (o : Option Made). and_entry o es) (get_here mid m (tagged number es))

pub within_longer : (lo hi high : ℕ) (ns : List ℕ) → hi ≤ high → AllWithin lo hi ns → AllWithin lo high ns
within_longer lo hi high [] le w = tt
within_longer lo hi high (n ∷ ns) le w = (w.0, omega (arith, w.1, le), within_longer lo hi high ns le w.2)

pub numbers_within : (hi n k : ℕ) → n + k ≤ hi → AllWithin 0 hi (numbers n k)
numbers_within hi n zero high = tt
numbers_within hi n (suc k) high = (omega arith, omega (arith, high), numbers_within hi (suc n) k (omega (arith, high)))

-- these entries were added to those of a pass
pub record Adds (es : List Entry) (before : List Made) (was : List ℕ) (after : List Made) (now : List ℕ) : Type 0 where
  pub later : IsPrefix before after
  pub within : AllWithin 0 (length before) was → AllWithin 0 (length after) now
  pub made : AllWithin 0 (length before) was → entries_at after now ≡ entries_at before was ++ es

pub adds_none : (before : List Made) (was : List ℕ) (after : List Made) (now : List ℕ) → IsPrefix before after → now ≡ was → Adds [] before was after now
adds_none before was after now p same = record {
  later = p;
  within = λ w. subst (AllWithin 0 (length after)) (sym same) (within_longer 0 (length before) (length after) was (prefix_length before after p) w);
  made = λ w. ap (entries_at after) same ∙ (entries_longer before after was p w ∙ sym (append-nil (entries_at before was)));
}

pub adds_puts : (number : ℕ) (es : List Entry) (mid before : List Made) (was : List ℕ) (after : List Made) (now : List ℕ) → Puts number es mid before was after now → Adds es before was after now
adds_puts number es mid before was after now p =
    let q : IsPrefix before after = prefix_trans before mid after p.0 (tagged number es, sym p.1) in
    let high : length mid + length es ≡ length after = omega (arith, ap length p.1, length-append mid (tagged number es), length_tagged number es) in
    record {
      later = q;
      within = λ w. subst (AllWithin 0 (length after)) (sym p.2) (within_both 0 (length after) was (numbers (length mid) (length es)) (within_longer 0 (length before) (length after) was (prefix_length before after q) w) (numbers_within (length after) (length mid) (length es) (omega (arith, high))));
      made = λ w.
          ap (entries_at after) p.2
          ∙ (entries_append after was (numbers (length mid) (length es))
          ∙ (ap (λ (xs : List Entry). xs ++ entries_at after (numbers (length mid) (length es))) (entries_longer before after was q w)
          ∙ ap (λ (xs : List Entry). entries_at before was ++ xs) (ap (λ (f : List Made). entries_at f (numbers (length mid) (length es))) p.1 ∙ entries_made number mid es)));
    }

pub adds_then : (es fs : List Entry) (a : List Made) (was : List ℕ) (b : List Made) (mid : List ℕ) (c : List Made) (now : List ℕ) → Adds es a was b mid → Adds fs b mid c now → Adds (es ++ fs) a was c now
adds_then es fs a was b mid c now p q = record {
  later = prefix_trans a b c p.later q.later;
  within = λ w. q.within (p.within w);
  made = λ w. q.made (p.within w) ∙ (ap (λ (xs : List Entry). xs ++ fs) (p.made w) ∙ append_assoc (entries_at a was) es fs);
}

-- entries of which each has a property were added
pub record AddsEach (P : Entry → Type 0) (before : List Made) (was : List ℕ) (after : List Made) (now : List ℕ) : Type 0 where
  pub entries : List Entry
  pub each : Each P entries
  pub adds : Adds entries before was after now

pub each_none : (P : Entry → Type 0) (before : List Made) (was : List ℕ) (after : List Made) (now : List ℕ) → IsPrefix before after → now ≡ was → AddsEach P before was after now
each_none P before was after now p same = record { entries = []; each = tt; adds = adds_none before was after now p same }
