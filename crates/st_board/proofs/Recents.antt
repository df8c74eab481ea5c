-- The rows that were merged last, with one merge more, and laid over a table of an earlier version.
use Rattle.std.proofs.Common.{◌≡◌, ℕ, ◌≤◌, ◌<◌, ◌+◌, Bool, true, false, nat_le, if◌then◌else◌, List, [], ◌∷◌, ◌++◌, length, take, drop, All, Option, Some, None, refl, ap, sym, subst, ◌∙◌, arith, length-append}
use Rattle.std.specs.Prelude.{unwrap_or}
use Rattle.std.proofs.lemmas.List.{append-nil, append_assoc, drop-append-le, drop_all, take-append-drop}
use Rattle.std.proofs.lemmas.List.Elements.{All-append, All-nil}
use mathlib.Core.List.{IsPrefix}
use mathlib.Core.Path.{fun_ext}
use Rattle.st_net.specs.declared.entity.Row.{Row}
use Rattle.st_net.specs.declared.entity.Entity.{Entity}
use Rattle.st_net.specs.declared.entity.Var.{Var}
use Rattle.st_net.specs.Entities.{value_of}
use Rattle.st_net.specs.Groups.{Group, opening_of}
use Rattle.st_net.specs.Ranges.{RowFits}
use Rattle.st_net.specs.Merge.{is_on, first_of_two, row_on, last_write, merge_of, target_with}
use Rattle.st_net.proofs.MergeLaws.{first_of_two-assoc, first_of_two-none}
use Rattle.st_overlay.specs.Values.{Values, overlaid}
use Rattle.st_overlay.proofs.Overlaying.{Overlays-overlaid}
use Rattle.st_board.specs.Published.{IsMergeOf}
use Rattle.st_board.specs.Recent.{Latest, rows_in, merges_with, AreLatestOf}
use Rattle.st_board.specs.declared.post.Post.{Post}
use Rattle.st_board.specs.declared.post.Post.TheVariants.{Merge, End}
use Rattle.st_board.specs.Posts.{group_in, proposals_in}
use Rattle.st_overlay.proofs.FittingRows.{rows_in as are_rows_in}
use Rattle.st_board.proofs.Fronts.{group_more, proposals_more, proposals_end, shown_more, shown_end}

rows_in-push : (ps : List (List Row)) (rows : List Row) → rows_in (ps ++ rows ∷ []) ≡ rows_in ps ++ rows
rows_in-push [] rows = append-nil rows
rows_in-push (p ∷ ps) rows = ap (λ l. p ++ l) (rows_in-push ps rows) ∙ sym (append_assoc p (rows_in ps) rows)

-- none are kept at the last version
none_since : (g : Group) (ps : List (List Row)) (n : ℕ) → n ≡ length ps → AreLatestOf g ps (record { since = n; rows = [] })
none_since g ps n is = record {
  within = omega (arith, is);
  rows = sym (ap rows_in (drop_all n ps (omega (arith, is))));
  fit = All-nil (RowFits g);
}

chosen_more : (b : Bool) (g : Group) (ps : List (List Row)) (r : Latest) (rows : List Row) (n : ℕ) → AreLatestOf g ps r → All (RowFits g) rows → n ≡ length (ps ++ rows ∷ [])
    → AreLatestOf g (ps ++ rows ∷ []) (if b then record r { rows = r.rows ++ rows } else record { since = n; rows = [] })
chosen_more true g ps r rows n was fit is = record {
  within = omega (arith, was.within, length-append ps (rows ∷ []));
  rows = ap (λ l. l ++ rows) was.rows ∙ (sym (rows_in-push (drop r.since ps) rows) ∙ sym (ap rows_in (drop-append-le r.since ps (rows ∷ []) was.within)));
  fit = All-append (RowFits g) r.rows rows was.fit fit;
}
chosen_more false g ps r rows n was fit is = none_since g (ps ++ rows ∷ []) n is

-- with one merge more
pub latest_more : (g : Group) (ps : List (List Row)) (r : Latest) (rows : List Row) (n : ℕ) → AreLatestOf g ps r → All (RowFits g) rows → n ≡ length (ps ++ rows ∷ []) → AreLatestOf g (ps ++ rows ∷ []) (merges_with r rows n)
latest_more g ps r rows n = chosen_more (nat_le (length r.rows + length rows) 64) g ps r rows n

chosen_same : (b : Bool) (g : Group) (ps : List (List Row)) (r : Latest) (n : ℕ) → AreLatestOf g ps r → n ≡ length ps → AreLatestOf g ps (if b then record r { rows = r.rows ++ [] } else record { since = n; rows = [] })
chosen_same true g ps r n was is = record {
  within = was.within;
  rows = append-nil r.rows ∙ was.rows;
  fit = subst (All (RowFits g)) (sym (append-nil r.rows)) was.fit;
}
chosen_same false g ps r n was is = none_since g ps n is

-- with the mark of the end, which has no rows
pub latest_end : (g : Group) (ps : List (List Row)) (r : Latest) (n : ℕ) → AreLatestOf g ps r → n ≡ length ps → AreLatestOf g ps (merges_with r [] n)
latest_end g ps r n = chosen_same (nat_le (length r.rows + 0) 64) g ps r n

row_on-append : (xs ys : List Row) (e : Entity) (v : Var) → row_on (xs ++ ys) e v ≡ first_of_two (row_on ys e v) (row_on xs e v)
row_on-append [] ys e v = sym (first_of_two-none (row_on ys e v))
row_on-append (x ∷ xs) ys e v = rw (row_on-append xs ys e v) (first_of_two-assoc (row_on ys e v) (row_on xs e v) (if is_on x e v then Some x.value else None))

last_write-append : (ps qs : List (List Row)) (e : Entity) (v : Var) → last_write (ps ++ qs) e v ≡ first_of_two (last_write qs e v) (last_write ps e v)
last_write-append [] qs e v = sym (first_of_two-none (last_write qs e v))
last_write-append (p ∷ ps) qs e v = rw (last_write-append ps qs e v) (first_of_two-assoc (last_write qs e v) (last_write ps e v) (row_on p e v))

-- the last of the rows of proposals on a variable is the last write
row_on-rows_in : (ps : List (List Row)) (e : Entity) (v : Var) → row_on (rows_in ps) e v ≡ last_write ps e v
row_on-rows_in [] e v = refl
row_on-rows_in (p ∷ ps) e v = row_on-append p (rows_in ps) e v ∙ ap (λ w. first_of_two w (row_on p e v)) (row_on-rows_in ps e v)

-- writes that were there already, set again with those after them, change nothing
again : (a b c : Option ℕ) (d : ℕ) → unwrap_or (first_of_two c (first_of_two b a)) d ≡ unwrap_or (first_of_two c b) (unwrap_or (first_of_two b a) d)
again a b (Some x) d = refl
again a (Some y) None d = refl
again a None None d = refl

value_again : (g : Group) (older kept newer : List (List Row)) (e : Entity) (v : Var) → target_with (merge_of g (older ++ kept)) (rows_in (kept ++ newer)) e v ≡ merge_of g (older ++ kept ++ newer) e v
value_again g older kept newer e v =
    rw (row_on-rows_in (kept ++ newer) e v, last_write-append (older ++ kept) newer e v, last_write-append kept newer e v, last_write-append older kept e v)
    (sym (again (last_write older e v) (last_write kept e v) (last_write newer e v) (value_of e (opening_of g e) v)))

-- of a table of a version that is no earlier than the first of these rows, the rows make that of the last version
pub merge_again : (g : Group) (ps qs : List (List Row)) (t : Values) (r : Latest) → IsMergeOf g ps t → IsPrefix ps qs → AreLatestOf g qs r → r.since ≤ length ps → IsMergeOf g qs (overlaid t r.rows)
merge_again g ps qs t r was prefix latest since =
    let older = take r.since ps in
    let kept = drop r.since ps in
    let newer = prefix.0 in
    let halves : older ++ kept ≡ ps = take-append-drop r.since ps in
    let whole : older ++ kept ++ newer ≡ qs = ap (λ l. l ++ newer) halves ∙ prefix.1 in
    let rows : r.rows ≡ rows_in (kept ++ newer) = latest.rows ∙ ap rows_in (ap (drop r.since) (sym prefix.1) ∙ drop-append-le r.since ps newer since) in
    let overlays = Overlays-overlaid t (overlaid t r.rows) r.rows refl (are_rows_in g t r.rows was.of latest.fit) in
    let values : target_with (merge_of g ps) r.rows ≡ merge_of g qs =
    ap (λ l. target_with (merge_of g l) r.rows) (sym halves)
    ∙ (ap (target_with (merge_of g (older ++ kept))) rows
    ∙ (fun_ext (λ e. fun_ext (λ v. value_again g older kept newer e v))
    ∙ ap (merge_of g) whole)) in
    record {
      of = overlays.kept g was.of;
      values = overlays.values ∙ (ap (λ target. target_with target r.rows) was.values ∙ values);
    }

-- what is shown with one merge more
pub shows_more : (log new : List Post) (rows : List Row) (t : Values) (r : Latest) (n : ℕ) → 0 < length log → new ≡ log ++ Merge rows ∷ [] → IsMergeOf (group_in log) (proposals_in log) t × AreLatestOf (group_in log) (proposals_in log) r → All (RowFits (group_in log)) rows → n ≡ length (proposals_in new)
    → IsMergeOf (group_in new) (proposals_in new) (overlaid t rows) × AreLatestOf (group_in new) (proposals_in new) (merges_with r rows n)
shows_more log new rows t r n some is was fit count =
    let counted : n ≡ length (proposals_in log ++ rows ∷ []) = count ∙ ap length (ap proposals_in is ∙ proposals_more log rows) in
    (shown_more log new rows t some is was.0 fit, rw (is, group_more log (Merge rows) some, proposals_more log rows) (latest_more (group_in log) (proposals_in log) r rows n was.1 fit counted))

-- what is shown with the mark
pub shows_end : (log new : List Post) (t : Values) (r : Latest) (n : ℕ) → 0 < length log → new ≡ log ++ End ∷ [] → IsMergeOf (group_in log) (proposals_in log) t × AreLatestOf (group_in log) (proposals_in log) r → n ≡ length (proposals_in new)
    → IsMergeOf (group_in new) (proposals_in new) t × AreLatestOf (group_in new) (proposals_in new) (merges_with r [] n)
shows_end log new t r n some is was count =
    let counted : n ≡ length (proposals_in log) = count ∙ ap length (ap proposals_in is ∙ proposals_end log) in
    (shown_end log new t some is was.0, rw (is, group_more log End some, proposals_end log) (latest_end (group_in log) (proposals_in log) r n was.1 counted))
