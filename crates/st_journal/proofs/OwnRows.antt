-- The rows of a withdrawal are of its entity, in the order of variables; and of such a line a loop has read some, and then one more.
use Rattle.std.proofs.Common.{◌≡◌, ℕ, ◌+◌, ◌<◌, List, [], ◌∷◌, ◌++◌, length, get_or, drop, map, refl, ap, sym, ◌∙◌}
use Rattle.std.specs.Prelude.{Bool, true, false, ◌&&◌, ◌==◌, nat_lt, Result, Ok, if◌then◌else◌}
use Rattle.std.specs.List.{AllByRecursion}
use Rattle.std.proofs.lemmas.List.{drop_more}
use Rattle.st_net.specs.declared.entity.Entity.{Entity}
use Rattle.st_net.specs.declared.entity.Entity.TheVariants.{Device, Link}
use Rattle.st_net.specs.declared.entity.Row.{Row}
use Rattle.st_net.specs.declared.entity.Var.{Var}
use Rattle.st_net.specs.Entities.{is_same_entity, place_of, vars_of}
use Rattle.st_net.specs.Groups.{Group}
use Rattle.st_net.proofs.Tests.{both, same_self}
use Rattle.st_event.specs.Replies.{row_to, rows_back}
use Rattle.st_token.specs.declared.fault.FaultKind.{FaultKind}
use Rattle.st_token.specs.Steps.{◌>>=◌}
use Rattle.st_journal.specs.ReplyReading.{is_behind_each, may_follow, own_row_in, own_rows_in}
use Rattle.st_journal.proofs.PrintedReplies.{AreOwn}

-- variables behind those of these rows, and such of which each stands behind the one before it

abbrev IsBehind : List Row → Var → Type 0
IsBehind before v = is_behind_each before v ≡ true

abbrev IsLower : Var → Var → Type 0
IsLower v w = nat_lt (place_of v) (place_of w) ≡ true

abbrev Rise : List Var → Type 0
Rise [] = Unit {0}
Rise (v ∷ vs) = AllByRecursion (IsLower v) vs × Rise vs

behind_pushed : (before : List Row) (row : Row) (v : Var) → IsBehind before v → IsLower row.var v → IsBehind (before ++ row ∷ []) v
behind_pushed [] row v behind low = rw low refl
behind_pushed (first ∷ before) row v behind low =
    let b = both (nat_lt (place_of first.var) (place_of v)) (is_behind_each before v) behind in
    rw (b.0, behind_pushed before row v b.1 low) refl

all_pushed : (before : List Row) (row : Row) (vs : List Var) → AllByRecursion (IsBehind before) vs → AllByRecursion (IsLower row.var) vs → AllByRecursion (IsBehind (before ++ row ∷ [])) vs
all_pushed before row [] behind low = tt
all_pushed before row (v ∷ vs) behind low = (behind_pushed before row v behind.0 low.0, all_pushed before row vs behind.1 low.1)

own_rows : (e : Entity) (value goal : Var → ℕ) (before : List Row) (vs : List Var) → AllByRecursion (IsBehind before) vs → Rise vs → AreOwn e before (rows_back e value goal vs)
own_rows e value goal before [] behind rise = tt
own_rows e value goal before (v ∷ vs) behind rise =
    by (value v == goal v) (own_rows e value goal before vs behind.1 rise.1) (own_rows e value goal (before ++ row_to e v value ∷ []) vs (all_pushed before (row_to e v value) vs behind.1 rise.0) rise.1)
  where
    here : may_follow e before (row_to e v value) ≡ true
    here = rw (same_self e, behind.0) refl

    by : (b : Bool) → AreOwn e before (rows_back e value goal vs) → AreOwn e (before ++ row_to e v value ∷ []) (rows_back e value goal vs) → AreOwn e before (if b then rows_back e value goal vs else row_to e v value ∷ rows_back e value goal vs)
    by true rest more = rest
    by false rest more = (here, more)

pub are_own : (e : Entity) (value goal : Var → ℕ) → AreOwn e [] (rows_back e value goal (vars_of e))
are_own (Device i) value goal = own_rows (Device i) value goal [] (vars_of (Device i)) (refl, (refl, (refl, (refl, tt)))) ((refl, (refl, (refl, tt))), ((refl, (refl, tt)), ((refl, tt), (tt, tt))))
are_own (Link i) value goal = own_rows (Link i) value goal [] (vars_of (Link i)) (refl, (refl, tt)) ((refl, tt), (tt, tt))

-- the rows of a line

module _ {T : Type 0} (g : Group) (e : Entity) (word : T → List ℕ) (tokens : List T) (i : ℕ) (none : T) (rows : List Row) (all : Result (List Row) FaultKind) (less : i < length tokens) (so_far : own_rows_in g e rows (map word (drop i tokens)) ≡ all) where
  -- the first token that is left, and the others
  one_left : (own_row_in g e rows (word (get_or tokens i none)) >>= (λ row. own_rows_in g e (rows ++ row ∷ []) (map word (drop (i + 1) tokens)))) ≡ all
  unfolding own_rows_in
  one_left = sym (ap (λ (rest : List T). own_rows_in g e rows (map word rest)) (drop_more tokens i none less)) ∙ so_far

  -- the first is a row: what comes of the others behind it
  pub own_next : (row : Row) (next : List Row) → own_row_in g e rows (word (get_or tokens i none)) ≡ Ok row → next ≡ rows ++ row ∷ [] → own_rows_in g e next (map word (drop (i + 1) tokens)) ≡ all
  own_next row next is added = rw added (sym (ap (λ (read : Result Row FaultKind). read >>= (λ row. own_rows_in g e (rows ++ row ∷ []) (map word (drop (i + 1) tokens)))) is) ∙ one_left)
