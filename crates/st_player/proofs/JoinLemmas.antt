-- Values that are written one after another are the joined text of all of them.
use Rattle.std.proofs.Common.{◌≡◌, ◌∙◌, ℕ, ◌+◌, true, false, Bool, List, [], ◌∷◌, ◌++◌, length, refl, sym, ap, arith, append_assoc}
use Rattle.std.specs.Prelude.{◌==◌, not}
use Rattle.std.proofs.lemmas.Bool.Decides.{nat_tests}
use Rattle.std.proofs.lemmas.List.{append-nil, length-append}
use Rattle.serde_json.specs.Data.{Data, Members, no_members, member}
use Rattle.serde_json.specs.View.{items_of}
use Rattle.serde_json.specs.Written.{comma_if, compact_text, items_text, members_text}
use Rattle.st_player.specs.Joined.{HasMembers, joined, joined_behind}
use Rattle.st_player.specs.Shown.{is_shown}
use Rattle.st_player.proofs.SafeLemmas.{comma_shown, shown_join}

-- one value more
behind_more : (ds : List Data) (d : Data) → joined_behind true (ds ++ d ∷ []) ≡ joined_behind true ds ++ (44 ∷ compact_text d)
behind_more [] d = ap (λ (s : List ℕ). 44 ∷ s) (append-nil (compact_text d))
behind_more (x ∷ ds) d =
    ap (λ (s : List ℕ). 44 ∷ (compact_text x ++ s)) (behind_more ds d)
    ∙ ap (λ (s : List ℕ). 44 ∷ s) (sym (append_assoc (compact_text x) (joined_behind true ds) (44 ∷ compact_text d)))

joined_more : (ds : List Data) (d : Data) (n : ℕ) (is_first : Bool) → length ds ≡ n → (n == 0) ≡ is_first → joined (ds ++ d ∷ []) ≡ joined ds ++ (comma_if (not is_first) ++ compact_text d)
joined_more [] d n is_first count is =
    let first : is_first ≡ true = grind (arith, nat_tests) in
    append-nil (compact_text d) ∙ ap (λ (b : Bool). comma_if (not b) ++ compact_text d) (sym first)
joined_more (x ∷ ds) d n is_first count is =
    let later : is_first ≡ false = grind (arith, nat_tests) in
    ap (λ (s : List ℕ). compact_text x ++ s) (behind_more ds d)
    ∙ (sym (append_assoc (compact_text x) (joined_behind true ds) (44 ∷ compact_text d))
    ∙ ap (λ (b : Bool). joined (x ∷ ds) ++ (comma_if (not b) ++ compact_text d)) (sym later))

-- the first n of these values were written, and the others are left
pub record IsJoined (whole rest : List Data) (n : ℕ) (old new : List ℕ) : Type 0 where
  pub so_far : List Data
  pub count : length so_far ≡ n
  pub text : new ≡ old ++ joined so_far
  pub shown : is_shown (joined so_far) ≡ true
  pub whole_is : so_far ++ rest ≡ whole

pub joins_none : (whole rest : List Data) (old new : List ℕ) → new ≡ old → rest ≡ whole → IsJoined whole rest 0 old new
joins_none whole rest old new same is = record { so_far = []; count = refl; text = same ∙ sym (append-nil old); shown = refl; whole_is = is }

pub joins_more : (whole rest later : List Data) (d : Data) (n : ℕ) (is_first : Bool) (old mid new : List ℕ) → rest ≡ d ∷ later → (n == 0) ≡ is_first → new ≡ mid ++ (comma_if (not is_first) ++ compact_text d) → is_shown (compact_text d) ≡ true
    → IsJoined whole rest n old mid → IsJoined whole later (n + 1) old new
joins_more whole rest later d n is_first old mid new next is pushed shown was =
    let more = joined_more was.so_far d n is_first was.count is in
    let one = comma_if (not is_first) ++ compact_text d in
    record {
      so_far = was.so_far ++ d ∷ [];
      count = length-append was.so_far (d ∷ []) ∙ ap (λ (k : ℕ). k + 1) was.count;
      text = pushed ∙ (ap (λ (s : List ℕ). s ++ one) was.text ∙ (append_assoc old (joined was.so_far) one ∙ ap (λ (s : List ℕ). old ++ s) (sym more)));
      shown = ap is_shown more ∙ shown_join (joined was.so_far) one was.shown (shown_join (comma_if (not is_first)) (compact_text d) (comma_shown (not is_first)) shown);
      whole_is = append_assoc was.so_far (d ∷ []) later ∙ (ap (λ (ds : List Data). was.so_far ++ ds) (sym next) ∙ was.whole_is);
    }

pub joins_all : (whole rest : List Data) (n : ℕ) (old new : List ℕ) → rest ≡ [] → IsJoined whole rest n old new → (new ≡ old ++ joined whole) × (is_shown (joined whole) ≡ true)
joins_all whole rest n old new none was =
    let all : was.so_far ≡ whole = sym (append-nil was.so_far) ∙ (ap (λ (ds : List Data). was.so_far ++ ds) (sym none) ∙ was.whole_is) in
    (was.text ∙ ap (λ (ds : List Data). old ++ joined ds) all, sym (ap (λ (ds : List Data). is_shown (joined ds)) all) ∙ was.shown)

-- the items of a list, with the bracket behind them
items_behind : (ds : List Data) → items_text true (items_of ds) ≡ joined_behind true ds ++ 93 ∷ []
items_behind [] = refl
items_behind (d ∷ ds) =
    ap (λ (s : List ℕ). 44 ∷ (compact_text d ++ s)) (items_behind ds)
    ∙ ap (λ (s : List ℕ). 44 ∷ s) (sym (append_assoc (compact_text d) (joined_behind true ds) (93 ∷ [])))

pub items_joined : (ds : List Data) → items_text false (items_of ds) ≡ joined ds ++ 93 ∷ []
items_joined [] = refl
items_joined (d ∷ ds) =
    ap (λ (s : List ℕ). compact_text d ++ s) (items_behind ds)
    ∙ sym (append_assoc (compact_text d) (joined_behind true ds) (93 ∷ []))

-- the members of an object behind others
pub members_behind : (ms : Members) → HasMembers ms → members_text true ms ≡ 44 ∷ members_text false ms
members_behind no_members some = absurd some
members_behind (member k d ms) some = refl
