-- Rows set one after another, and proposals.
use Rattle.std.proofs.Common.{◌≡◌, ℕ, suc, List, [], ◌∷◌, get_or, refl, ap, sym, ◌∙◌, arith}
use Rattle.std.specs.Prelude.{unwrap_or, All}
use mathlib.Core.Path.{fun_ext}
use Rattle.st_net.specs.declared.entity.Vals.{Vals}
use Rattle.st_net.specs.declared.entity.Row.{Row}
use Rattle.st_net.specs.declared.entity.Var.{Var}
use Rattle.st_net.specs.declared.entity.Entity.{Entity}
use Rattle.st_net.specs.declared.entity.Entity.TheVariants.{Device, Link}
use Rattle.st_net.specs.Groups.{Group}
use Rattle.st_net.specs.Merge.{row_on, last_write, target_with, vals_in}
use Rattle.st_net.proofs.MergeLaws.{unwrap_or-first_of_two}
use Rattle.st_overlay.specs.Values.{Values, IsIn, IsRowIn, vals_at, value_in, row_set, overlaid, overlaid_all, HasSameShape, IsTableOf, Overlays, LastWriterWins}
use Rattle.st_overlay.proofs.RowSets.{value_in-row_set, target_with-cons, vals_set_devices, vals_set_links, row_set_v2, row_set_v3}

first_of_all : {X : Type 0} (P : X → Type 0) (x : X) (xs : List X) → All P (x ∷ xs) → P x
first_of_all P x xs all = all 0 x (omega arith)

rest_of_all : {X : Type 0} (P : X → Type 0) (x : X) (xs : List X) → All P (x ∷ xs) → All P xs
rest_of_all P x xs all = λ k d lt. all (suc k) d (omega arith)

pub shape-row_set : (t : Values) (row : Row) → HasSameShape t (row_set t row)
shape-row_set t row = record { devices = vals_set_devices t row.entity _; links = vals_set_links t row.entity _ }

pub shape-overlaid : (t : Values) (rows : List Row) → HasSameShape t (overlaid t rows)
shape-overlaid t [] = record { devices = refl; links = refl }
shape-overlaid t (row ∷ rows) =
    let one = shape-row_set t row in
    let all = shape-overlaid (row_set t row) rows in
    record { devices = all.devices ∙ one.devices; links = all.links ∙ one.links }

pub shape_is : (t u : Values) (rows : List Row) → u ≡ overlaid t rows → HasSameShape t u
shape_is t u rows is = rw is (shape-overlaid t rows)

IsIn-same : (t u : Values) (e : Entity) → HasSameShape t u → IsIn t e → IsIn u e
IsIn-same t u (Device i) same here = omega (arith, same.devices)
IsIn-same t u (Link i) same here = omega (arith, same.links)

IsRowIn-same : (t u : Values) (row : Row) → HasSameShape t u → IsRowIn t row → IsRowIn u row
IsRowIn-same t u row same here = (IsIn-same t u row.entity same here.0, here.1)

AreRowsIn-same : (t u : Values) (rows : List Row) → HasSameShape t u → All (IsRowIn t) rows → All (IsRowIn u) rows
AreRowsIn-same t u rows same all = λ k d lt. IsRowIn-same t u (get_or rows k d) same (all k d lt)

pub value_in-overlaid : (t : Values) (rows : List Row) → All (IsRowIn t) rows → value_in (overlaid t rows) ≡ target_with (value_in t) rows
value_in-overlaid t [] all = refl
value_in-overlaid t (row ∷ rows) all =
    let rest = AreRowsIn-same t (row_set t row) rows (shape-row_set t row) (rest_of_all (IsRowIn t) row rows all) in
    value_in-overlaid (row_set t row) rows rest
    ∙ (ap (λ target. target_with target rows) (value_in-row_set t row (first_of_all (IsRowIn t) row rows all))
    ∙ sym (target_with-cons (value_in t) row rows))

same_vals_by : (v0 v1 a b c d : ℕ) → a ≡ c → b ≡ d → (let vals : Vals = record { v0 = v0; v1 = v1; v2 = a; v3 = b } in vals) ≡ record { v0 = v0; v1 = v1; v2 = c; v3 = d }
same_vals_by v0 v1 a b c d p q = rw (p, q) refl

rest_kept : (g : Group) (t u : Values) (i : ℕ) → vals_in g (value_in t) (Link i) ≡ vals_at t (Link i) → (vals_at u (Link i)).v2 ≡ (vals_at t (Link i)).v2 → (vals_at u (Link i)).v3 ≡ (vals_at t (Link i)).v3 → vals_in g (value_in u) (Link i) ≡ vals_at u (Link i)
rest_kept g t u i was v2 v3 = same_vals_by _ _ _ _ _ _ (ap (λ (vals : Vals). vals.v2) was ∙ sym v2) (ap (λ (vals : Vals). vals.v3) was ∙ sym v3)

kept_at : (g : Group) (t : Values) (row : Row) (e : Entity) → vals_in g (value_in t) e ≡ vals_at t e → vals_in g (value_in (row_set t row)) e ≡ vals_at (row_set t row) e
kept_at g t row (Device i) was = refl
kept_at g t row (Link i) was = rest_kept g t (row_set t row) i was (row_set_v2 t row.entity row.var row.value i) (row_set_v3 t row.entity row.var row.value i)

kept-row_set : (g : Group) (t : Values) (row : Row) → IsTableOf g t → IsTableOf g (row_set t row)
kept-row_set g t row of =
    let same = shape-row_set t row in
    record { devices = same.devices ∙ of.devices; links = same.links ∙ of.links; values = λ e. kept_at g t row e (of.values e) }

kept-overlaid : (g : Group) (t : Values) (rows : List Row) → IsTableOf g t → IsTableOf g (overlaid t rows)
kept-overlaid g t [] of = of
kept-overlaid g t (row ∷ rows) of = kept-overlaid g (row_set t row) rows (kept-row_set g t row of)

-- rows that the table has are set, and nothing else changes
pub Overlays-overlaid : (t u : Values) (rows : List Row) → u ≡ overlaid t rows → All (IsRowIn t) rows → Overlays t u rows
Overlays-overlaid t u rows is all =
    let same = shape-overlaid t rows in
    rw is (record {
      values = value_in-overlaid t rows all;
      devices = same.devices;
      links = same.links;
      kept = λ g of. kept-overlaid g t rows of;
    })

all_writes : (t : Values) (proposals : List (List Row)) → All (All (IsRowIn t)) proposals → (e : Entity) (v : Var) → value_in (overlaid_all t proposals) e v ≡ unwrap_or (last_write proposals e v) (value_in t e v)
all_writes t [] all e v = refl
all_writes t (rows ∷ proposals) all e v =
    let first = first_of_all (All (IsRowIn t)) rows proposals all in
    let rest = rest_of_all (All (IsRowIn t)) rows proposals all in
    let still : All (All (IsRowIn (overlaid t rows))) proposals = λ k d lt. AreRowsIn-same t (overlaid t rows) (get_or proposals k d) (shape-overlaid t rows) (rest k d lt) in
    all_writes (overlaid t rows) proposals still e v
    ∙ (ap (λ (target : Entity → Var → ℕ). unwrap_or (last_write proposals e v) (target e v)) (value_in-overlaid t rows first)
    ∙ sym (unwrap_or-first_of_two (last_write proposals e v) (row_on rows e v) (value_in t e v)))

pub last_writers : LastWriterWins
last_writers g t proposals opens all = fun_ext (λ e. fun_ext (λ v. all_writes t proposals all e v ∙ ap (λ (target : Entity → Var → ℕ). unwrap_or (last_write proposals e v) (target e v)) opens))
