-- What is asked for a version is the list that leads back, which is not empty and not too long.
use Rattle.std.proofs.Common.{◌≡◌, ℕ, ◌≤◌, List, [], ◌∷◌, length, refl, sym, ap, subst, ◌∙◌, arith}
use Rattle.std.specs.Prelude.{Bool, true, false, nat_lt, if◌then◌else◌}
use Rattle.st_net.specs.declared.entity.Row.{Row}
use Rattle.st_net.specs.declared.topo.TheConstants.{MAX_ROWS}
use Rattle.st_net.specs.Groups.{Group}
use Rattle.st_net.specs.Merge.{target_with}
use Rattle.st_net.specs.Ranges.{RowsFit}
use Rattle.st_net.proofs.Tests.{not_less}
use Rattle.st_event.specs.declared.journal.Entry.{Entry}
use Rattle.st_event.specs.Proposals.{target, version}
use Rattle.st_revert.specs.declared.back.Revert.{Revert}
use Rattle.st_revert.specs.declared.back.Revert.TheVariants.{Rows, NoVersion, Same, TooMany}
use Rattle.st_revert.specs.Back.{back, answer_of, revert_after}
use Rattle.st_revert.specs.Laws.{BackFits, IsAsked}
use Rattle.st_revert.proofs.FitLaws.{back_fits, back_apart}
use Rattle.st_revert.proofs.WholeLaws.{leads_all_back}

pub fits_of : BackFits
fits_of = λ g past n sound fit some few. record { some = some; few = few; each = back_fits g past n sound fit; apart = back_apart g past n }

abbrev rows_in : Revert → List Row
rows_in (Rows rows) = rows
rows_in (NoVersion latest) = []
rows_in Same = []
rows_in (TooMany rows) = []

-- these rows are asked, and all of them
record AreAll (rows asked : List Row) : Type 0 where
  all : asked ≡ rows
  some : 1 ≤ length rows
  few : length rows ≤ MAX_ROWS

asked_of : (rows asked : List Row) → answer_of rows ≡ Rows asked → AreAll rows asked
asked_of [] asked is = absurd cc
asked_of (row ∷ rows) asked is = by_many (nat_lt MAX_ROWS (length (row ∷ rows))) refl is
  where
    by_many : (many : Bool) → nat_lt MAX_ROWS (length (row ∷ rows)) ≡ many → (if many then TooMany (length (row ∷ rows)) else Rows (row ∷ rows)) ≡ Rows asked → AreAll (row ∷ rows) asked
    by_many true too is = absurd cc
    by_many false low is = record { all = sym (ap rows_in is); some = omega arith; few = not_less MAX_ROWS (length (row ∷ rows)) low }

asked_in : (latest n : ℕ) (rows asked : List Row) (none : Bool) → (if none then NoVersion latest else answer_of rows) ≡ Rows asked → AreAll rows asked
asked_in latest n rows asked true is = absurd cc
asked_in latest n rows asked false is = asked_of rows asked is

pub is_asked : (g : Group) (past : List Entry) (n : ℕ) (rows : List Row) → revert_after g past n ≡ Rows rows → IsAsked g past n rows
is_asked g past n rows is =
    let all = asked_in (version past) n (back g past n) rows (nat_lt (version past) n) is in
    record {
      are_back = all.all;
      fits = λ sound fit. subst (RowsFit g) (sym all.all) (fits_of g past n sound fit all.some all.few);
      leads = λ sound fit. ap (target_with (target g past)) all.all ∙ leads_all_back g past n sound fit;
    }
