-- One proposal more, at the end.
use Rattle.std.proofs.Common.{◌≡◌, ℕ, List, [], ◌∷◌, ◌++◌, Option, Some, None, refl, sym}
use Rattle.std.specs.Prelude.{unwrap_or}
use mathlib.Core.Path.{fun_ext}
use Rattle.st_net.specs.declared.entity.Row.{Row}
use Rattle.st_net.specs.declared.entity.Entity.{Entity}
use Rattle.st_net.specs.declared.entity.Var.{Var}
use Rattle.st_net.specs.Entities.{value_of}
use Rattle.st_net.specs.Groups.{Group, opening_of}
use Rattle.st_net.specs.Merge.{first_of_two, row_on, last_write, merge_of, target_with}

pub first_of_two-assoc : (a b c : Option ℕ) → first_of_two (first_of_two a b) c ≡ first_of_two a (first_of_two b c)
first_of_two-assoc (Some x) b c = refl
first_of_two-assoc None b c = refl

pub first_of_two-none : (a : Option ℕ) → first_of_two a None ≡ a
first_of_two-none (Some x) = refl
first_of_two-none None = refl

pub last_write-push : (ps : List (List Row)) (rows : List Row) (e : Entity) (v : Var) → last_write (ps ++ rows ∷ []) e v ≡ first_of_two (row_on rows e v) (last_write ps e v)
last_write-push [] rows e v = sym (first_of_two-none (row_on rows e v))
last_write-push (p ∷ ps) rows e v = rw (last_write-push ps rows e v) (first_of_two-assoc (row_on rows e v) (last_write ps e v) (row_on p e v))

pub unwrap_or-first_of_two : (a b : Option ℕ) (d : ℕ) → unwrap_or (first_of_two a b) d ≡ unwrap_or a (unwrap_or b d)
unwrap_or-first_of_two (Some x) b d = refl
unwrap_or-first_of_two None b d = refl

pub merge_of-push : (g : Group) (ps : List (List Row)) (rows : List Row) (e : Entity) (v : Var) → merge_of g (ps ++ rows ∷ []) e v ≡ target_with (merge_of g ps) rows e v
merge_of-push g ps rows e v = rw (last_write-push ps rows e v) (unwrap_or-first_of_two (row_on rows e v) (last_write ps e v) (value_of e (opening_of g e) v))

pub merge_of-push_all : (g : Group) (ps : List (List Row)) (rows : List Row) → merge_of g (ps ++ rows ∷ []) ≡ target_with (merge_of g ps) rows
merge_of-push_all g ps rows = fun_ext (λ e. fun_ext (λ v. merge_of-push g ps rows e v))
