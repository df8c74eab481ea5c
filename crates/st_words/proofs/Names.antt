-- What holds of the name of each option holds of every name among them.
use Rattle.std.proofs.Common.{◌≡◌, Bool, true, false, List, [], ◌∷◌, sym, refl, subst, codes, true≢false}
use Rattle.std.specs.Str.{bytes_eq}
use Rattle.st_words.specs.Grammar.{Text, option_names, is_among}
use Rattle.st_words.specs.Jobs.{given_by}
use Rattle.st_words.proofs.Rules.{same_text}

first_by : (b : Bool) (P : Text → Type 0) (n : Text) (names : List Text) (name : Text) → bytes_eq n name ≡ b → P n → (is_among name names ≡ true → P name)
    → is_among name (n ∷ names) ≡ true → P name
first_by true P n names name e here later among = subst P (same_text n name e) here
first_by false P n names name e here later among = later (rw e at among)

-- the first name, or one of the others
first_or_later : (P : Text → Type 0) (n : Text) (names : List Text) (name : Text) → P n → (is_among name names ≡ true → P name) → is_among name (n ∷ names) ≡ true → P name
first_or_later P n names name here later among = first_by (bytes_eq n name) P n names name refl here later among

pub by_name : (P : Text → Type 0) (name : Text) → is_among name option_names ≡ true → P (codes "form") → P (codes "pods") → P (codes "seed") → P (codes "to") → P name
by_name P name among form pods seed to =
    first_or_later P (codes "form") (codes "pods" ∷ codes "seed" ∷ codes "to" ∷ []) name form
    (first_or_later P (codes "pods") (codes "seed" ∷ codes "to" ∷ []) name pods
    (first_or_later P (codes "seed") (codes "to" ∷ []) name seed
    (first_or_later P (codes "to") [] name to (λ none. absurd (true≢false (sym none)))))) among

-- the same values under the name of each option
pub given_same : (f g : Text → List Text) → ((name : Text) → is_among name option_names ≡ true → f name ≡ g name) → given_by f ≡ given_by g
given_same f g same = λ i. record { form = same (codes "form") refl i; pods = same (codes "pods") refl i; seed = same (codes "seed") refl i; to = same (codes "to") refl i }
