-- What a change tells of an object's members, laid over those before it, gives those after it.
use Rattle.std.proofs.Common.{◌≡◌, ◌∙◌, ℕ, List, [], ◌∷◌, true, false, Bool, true≢false, refl, sym, ap, ap₂, subst}
use Rattle.std.specs.Prelude.{Option, Some, None, bytes_eq, not, ◌&&◌, ◌||◌, if◌then◌else◌}
use Rattle.std.specs.Option.{option_or}
use Rattle.std.proofs.lemmas.Bool.{and_parts}
use Rattle.std.proofs.lemmas.Bool.Decides.{not_from_Decides}
use Rattle.std.proofs.lemmas.Slice.Eq.{bytes_eq-Decides}
use Rattle.serde_json.specs.Data.{Data, Members, no_members, put}
use Rattle.serde_json.specs.Find.{get_member}
use Rattle.serde_json.proofs.Views.{get_member-put, get_member-put_other}

-- one member: whether a change tells it, its key, and its value before and after
pub record Part : Type 0 where
  pub told : Bool
  pub key : List ℕ
  pub old : Data
  pub new : Data

-- the members that a change tells, those before it, and those after it
abbrev pub told_by : List Part → Members → Members
told_by [] ms = ms
told_by (p ∷ ps) ms = if p.told then put p.key p.new (told_by ps ms) else told_by ps ms

abbrev pub old_by : List Part → Members → Members
old_by [] ms = ms
old_by (p ∷ ps) ms = put p.key p.old (old_by ps ms)

abbrev pub new_by : List Part → Members → Members
new_by [] ms = ms
new_by (p ∷ ps) ms = put p.key p.new (new_by ps ms)

-- whether a key is among these
abbrev pub has_key : List ℕ → List Part → Bool
has_key k [] = false
has_key k (p ∷ ps) = bytes_eq k p.key || has_key k ps

-- whether each key is there once, and is not this one
abbrev pub are_apart : List ℕ → List Part → Bool
are_apart k [] = true
are_apart k (p ∷ ps) = not (bytes_eq p.key k) && (not (has_key p.key ps) && are_apart k ps)

-- what is not told is as before
abbrev pub AreKept : List Part → Type 0
AreKept [] = Unit {0}
AreKept (p ∷ ps) = (p.told ≡ false → p.old ≡ p.new) × AreKept ps

pub not_same : (k l : List ℕ) → bytes_eq k l ≡ false → k ≡ l → ⊥
not_same k l is = not_from_Decides (bytes_eq k l) (bytes_eq-Decides k l) is

-- two keys that are not the same
pub other_key : (k l : List ℕ) → (k ≡ l → ⊥) → bytes_eq k l ≡ false
other_key k l apart = by_test (bytes_eq k l) refl
  where
    by_test : (same : Bool) → bytes_eq k l ≡ same → same ≡ false
    by_test true is = absurd (apart ((bytes_eq-Decides k l).0 is))
    by_test false is = refl

one_key : (k l : List ℕ) → bytes_eq k l ≡ true → k ≡ l
one_key k l is = (bytes_eq-Decides k l).0 is

neither : (a b : Bool) → (a || b) ≡ false → (a ≡ false) × (b ≡ false)
neither true b is = absurd (true≢false is)
neither false b is = (refl, is)

pub not_so : {b : Bool} → not b ≡ true → b ≡ false
not_so {b} is = by b is
  where
    by : (b : Bool) → not b ≡ true → b ≡ false
    by true is = absurd (true≢false (sym is))
    by false is = refl

-- a key that is none of these is looked up behind them
pub passed_by : (k : List ℕ) (ps : List Part) (ms : Members) → has_key k ps ≡ false → get_member k (told_by ps ms) ≡ get_member k ms
passed_by k [] ms none = refl
passed_by k (p ∷ ps) ms none =
    let parts = neither (bytes_eq k p.key) (has_key k ps) none in
    by_told p.told parts.0 (passed_by k ps ms parts.1)
  where
    by_told : (told : Bool) → bytes_eq k p.key ≡ false → get_member k (told_by ps ms) ≡ get_member k ms → get_member k (if told then put p.key p.new (told_by ps ms) else told_by ps ms) ≡ get_member k ms
    by_told true other rest = get_member-put_other k p.key p.new (told_by ps ms) (not_same k p.key other) ∙ rest
    by_told false other rest = rest

-- what a change tells of a key, and else what stood there, is what stands there behind it
pub laid_over : (k entity : List ℕ) (d : Data) (ps : List Part) → bytes_eq k entity ≡ false → are_apart entity ps ≡ true → AreKept ps
    → option_or (get_member k (told_by ps (put entity d no_members))) (get_member k (old_by ps no_members)) ≡ get_member k (new_by ps no_members)
laid_over k entity d [] other apart kept = ap (λ (v : Option Data). option_or v None) (get_member-put_other k entity d no_members (not_same k entity other))
laid_over k entity d (p ∷ ps) other apart kept =
    let base = put entity d no_members in
    let first = and_parts (not (bytes_eq p.key entity)) (not (has_key p.key ps) && are_apart entity ps) apart in
    let second = and_parts (not (has_key p.key ps)) (are_apart entity ps) first.1 in
    let rest = laid_over k entity d ps other second.1 kept.1 in
    by_key (bytes_eq k p.key) refl p.told refl rest (not_so first.0) (not_so second.0)
  where
    by_key : (same : Bool) → bytes_eq k p.key ≡ same → (told : Bool) → p.told ≡ told
        → option_or (get_member k (told_by ps (put entity d no_members))) (get_member k (old_by ps no_members)) ≡ get_member k (new_by ps no_members)
        → bytes_eq p.key entity ≡ false → has_key p.key ps ≡ false
        → option_or (get_member k (if told then put p.key p.new (told_by ps (put entity d no_members)) else told_by ps (put entity d no_members))) (get_member k (put p.key p.old (old_by ps no_members))) ≡ get_member k (put p.key p.new (new_by ps no_members))
    by_key true is true told rest free once =
        let at : k ≡ p.key = one_key k p.key is in
        let here = subst (λ (l : List ℕ). (d : Data) (ms : Members) → get_member l (put p.key d ms) ≡ Some d) (sym at) (get_member-put p.key) in
        ap (λ (v : Option Data). option_or v (get_member k (put p.key p.old (old_by ps no_members)))) (here p.new (told_by ps (put entity d no_members))) ∙ sym (here p.new (new_by ps no_members))
    by_key true is false told rest free once =
        let at : k ≡ p.key = one_key k p.key is in
        let here = subst (λ (l : List ℕ). (d : Data) (ms : Members) → get_member l (put p.key d ms) ≡ Some d) (sym at) (get_member-put p.key) in
        let none : get_member k (told_by ps (put entity d no_members)) ≡ None =
        passed_by k ps (put entity d no_members) (ap (λ (l : List ℕ). has_key l ps) at ∙ once) ∙ get_member-put_other k entity d no_members (not_same k entity other) in
        ap (λ (v : Option Data). option_or v (get_member k (put p.key p.old (old_by ps no_members)))) none ∙ (here p.old (old_by ps no_members) ∙ (ap (λ (e : Data). Some e) (kept.0 told) ∙ sym (here p.new (new_by ps no_members))))
    by_key false is true told rest free once =
        let apart = not_same k p.key is in
        ap₂ option_or (get_member-put_other k p.key p.new (told_by ps (put entity d no_members)) apart) (get_member-put_other k p.key p.old (old_by ps no_members) apart)
        ∙ (rest ∙ sym (get_member-put_other k p.key p.new (new_by ps no_members) apart))
    by_key false is false told rest free once =
        let apart = not_same k p.key is in
        ap (option_or (get_member k (told_by ps (put entity d no_members)))) (get_member-put_other k p.key p.old (old_by ps no_members) apart)
        ∙ (rest ∙ sym (get_member-put_other k p.key p.new (new_by ps no_members) apart))
