-- What one post more makes of a front, and what two fronts of one line have in common.
use Rattle.std.proofs.Common.{◌≡◌, ◌⊎◌, ℕ, ◌<◌, ◌+◌, Bool, true, false, List, [], ◌∷◌, ◌++◌, length, All, inl, inr, refl, ap, sym, ◌∙◌, arith, append_assoc, length-append}
use Rattle.std.proofs.lemmas.List.{append-nil}
use mathlib.Core.List.{IsPrefix}
use Rattle.st_net.specs.declared.entity.Row.{Row}
use Rattle.st_net.specs.Groups.{Group}
use Rattle.st_net.specs.Ranges.{RowFits}
use Rattle.st_net.specs.Merge.{target_with}
use Rattle.st_net.proofs.MergeLaws.{merge_of-push_all}
use Rattle.st_overlay.specs.Values.{Values, HasSameShape, IsTableOf, overlaid}
use Rattle.st_overlay.proofs.Overlaying.{Overlays-overlaid}
use Rattle.st_overlay.proofs.FittingRows.{rows_in}
use Rattle.st_board.specs.declared.post.Post.{Post}
use Rattle.st_board.specs.declared.post.Post.TheVariants.{Open, Merge, End}
use Rattle.st_board.specs.Posts.{MarkIsLast, is_ended, flag, group_in, proposals_in}
use Rattle.st_line.specs.Lines.{LineName}
use Rattle.st_line.proofs.Chains.{cut}
use Rattle.st_board.specs.Published.{IsMergeOf, published_in}

group_any : (x : Post) (xs ys : List Post) → group_in (x ∷ xs) ≡ group_in (x ∷ ys)
group_any (Open g) xs ys = refl
group_any (Merge rows) xs ys = refl
group_any End xs ys = refl

group_first : (x y : Post) (xs ys : List Post) → x ≡ y → group_in (x ∷ xs) ≡ group_in (y ∷ ys)
group_first x y xs ys e = group_any x xs [] ∙ (ap (λ (z : Post). group_in (z ∷ [])) e ∙ sym (group_any y ys []))

-- a beginning of a line is of its group
pub group_same : (xs ys : List Post) → IsPrefix xs ys → 0 < length xs → group_in xs ≡ group_in ys
group_same [] ys p some = absurd (omega arith)
group_same (x ∷ xs) [] p some = absurd (cc (p.1))
group_same (x ∷ xs) (y ∷ ys) p some = let e : x ≡ y = cc (p.1) in group_first x y xs ys e

append_rest : {A : Type 0} (xs ys : List A) → xs ++ ys ≡ [] → ys ≡ []
append_rest [] ys e = e
append_rest (x ∷ xs) ys e = absurd (cc e)

ended_cut : (log : List Post) → is_ended log ≡ true → (before : List Post) × (after : List Post) × (log ≡ before ++ End ∷ after)
ended_cut [] e = absurd (cc e)
ended_cut (Open g ∷ log) e = let r = ended_cut log e in (Open g ∷ r.0, r.1, ap (λ l. Open g ∷ l) r.2)
ended_cut (Merge rows ∷ log) e = let r = ended_cut log e in (Merge rows ∷ r.0, r.1, ap (λ l. Merge rows ∷ l) r.2)
ended_cut (End ∷ log) e = ([], log, refl)

ended_at : (before after : List Post) → is_ended (before ++ End ∷ after) ≡ true
ended_at [] after = refl
ended_at (Open g ∷ before) after = ended_at before after
ended_at (Merge rows ∷ before) after = ended_at before after
ended_at (End ∷ before) after = refl

-- where the mark is on a beginning of a line, it is the whole line
pub ended_whole : (xs ys : List Post) → IsPrefix xs ys → is_ended xs ≡ true → MarkIsLast ys → xs ≡ ys
ended_whole xs ys p ended last =
    let r = ended_cut xs ended in
    let at : ys ≡ r.0 ++ End ∷ (r.1 ++ p.0) = sym p.1 ∙ (ap (λ l. l ++ p.0) r.2 ∙ append_assoc r.0 (End ∷ r.1) p.0) in
    let none : p.0 ≡ [] = append_rest r.1 p.0 (last r.0 (r.1 ++ p.0) at) in
    sym (append-nil xs) ∙ (ap (λ l. xs ++ l) (sym none) ∙ p.1)

none_behind : {A : Type 0} (xs : List A) → length xs ≡ 0 → xs ≡ []
none_behind [] e = refl
none_behind (x ∷ xs) e = absurd (omega (arith, e))

mark_by : (log : List Post) (p : Post) (before after : List Post) → is_ended log ≡ false → log ++ p ∷ [] ≡ before ++ End ∷ after → ((p ≡ End) × (log ≡ before)) ⊎ ((zs : List Post) × (log ≡ before ++ End ∷ zs)) → after ≡ []
mark_by log p before after going e (inl q) = none_behind after (omega (arith, ap length e, length-append log (p ∷ []), length-append before (End ∷ after), ap length q.1))
mark_by log p before after going e (inr q) = absurd (cc (sym going ∙ (ap is_ended q.1 ∙ ended_at before q.0)))

-- where the mark is not on the line, one more post may come
pub mark_more : (log : List Post) (p : Post) → is_ended log ≡ false → MarkIsLast (log ++ p ∷ [])
mark_more log p going before after e =
    mark_by log p before after going e (cut log p before after End e)

pub proposals_in-append : (xs ys : List Post) → proposals_in (xs ++ ys) ≡ proposals_in xs ++ proposals_in ys
proposals_in-append [] ys = refl
proposals_in-append (Open g ∷ xs) ys = proposals_in-append xs ys
proposals_in-append (Merge rows ∷ xs) ys = ap (λ ps. rows ∷ ps) (proposals_in-append xs ys)
proposals_in-append (End ∷ xs) ys = proposals_in-append xs ys

-- a beginning of a line has a beginning of its proposals
pub prefix_proposals : (xs ys : List Post) → IsPrefix xs ys → IsPrefix (proposals_in xs) (proposals_in ys)
prefix_proposals xs ys p = (proposals_in p.0, sym (proposals_in-append xs p.0) ∙ ap proposals_in p.1)

pub proposals_more : (log : List Post) (rows : List Row) → proposals_in (log ++ Merge rows ∷ []) ≡ proposals_in log ++ rows ∷ []
proposals_more log rows = proposals_in-append log (Merge rows ∷ [])

pub proposals_end : (log : List Post) → proposals_in (log ++ End ∷ []) ≡ proposals_in log
proposals_end log = proposals_in-append log (End ∷ []) ∙ append-nil (proposals_in log)

pub group_more : (log : List Post) (p : Post) → 0 < length log → group_in (log ++ p ∷ []) ≡ group_in log
group_more [] p some = absurd (omega arith)
group_more (x ∷ log) p some = group_any x (log ++ p ∷ []) log

pub ended_end : (log : List Post) → is_ended (log ++ End ∷ []) ≡ true
ended_end [] = refl
ended_end (Open g ∷ log) = ended_end log
ended_end (Merge rows ∷ log) = ended_end log
ended_end (End ∷ log) = refl

-- a merge is no mark
pub ended_more : (log : List Post) (rows : List Row) → is_ended (log ++ Merge rows ∷ []) ≡ is_ended log
ended_more [] rows = refl
ended_more (Open g ∷ log) rows = ended_more log rows
ended_more (Merge r ∷ log) rows = ended_more log rows
ended_more (End ∷ log) rows = refl

-- a front with one merge more
pub counts_more : (version : ℕ) (ended : Bool) (log new : List Post) (rows : List Row) → version ≡ length (proposals_in log) → ended ≡ is_ended log → 1 + version + flag ended ≡ length log → new ≡ log ++ Merge rows ∷ []
    → (version + 1 ≡ length (proposals_in new)) × (ended ≡ is_ended new) × (1 + (version + 1) + flag ended ≡ length new)
counts_more version ended log new rows merges marked counted is =
    rw is (
      rw (proposals_more log rows) (omega (arith, merges, length-append (proposals_in log) (rows ∷ []))),
      marked ∙ sym (ended_more log rows),
      omega (arith, counted, length-append log (Merge rows ∷ [])),
    )

-- a front with the mark
pub counts_end : (version : ℕ) (ended : Bool) (log new : List Post) → version ≡ length (proposals_in log) → ended ≡ is_ended log → is_ended log ≡ false → 1 + version + flag ended ≡ length log → new ≡ log ++ End ∷ []
    → (version ≡ length (proposals_in new)) × (true ≡ is_ended new) × (1 + version + flag true ≡ length new)
counts_end version ended log new merges marked going counted is =
    let none : flag ended ≡ 0 = ap flag (marked ∙ going) in
    rw is (
      rw (proposals_end log) merges,
      sym (ended_end log),
      omega (arith, none, counted, length-append log (End ∷ [])),
    )

-- two tables of one group have one shape
pub shape_of : (g : Group) (t u : Values) → IsTableOf g t → IsTableOf g u → HasSameShape t u
shape_of g t u a b = record { devices = b.devices ∙ sym a.devices; links = b.links ∙ sym a.links }

-- a merge more is laid over the table
pub merge_more : (g : Group) (proposals : List (List Row)) (rows : List Row) (t : Values) → IsMergeOf g proposals t → All (RowFits g) rows → IsMergeOf g (proposals ++ rows ∷ []) (overlaid t rows)
merge_more g proposals rows t was fit =
    let overlays = Overlays-overlaid t (overlaid t rows) rows refl (rows_in g t rows was.of fit) in
    record {
      of = overlays.kept g was.of;
      values = overlays.values ∙ (ap (λ target. target_with target rows) was.values ∙ sym (merge_of-push_all g proposals rows));
    }

-- the table of a front with one merge more
pub shown_more : (log new : List Post) (rows : List Row) (t : Values) → 0 < length log → new ≡ log ++ Merge rows ∷ [] → IsMergeOf (group_in log) (proposals_in log) t → All (RowFits (group_in log)) rows → IsMergeOf (group_in new) (proposals_in new) (overlaid t rows)
shown_more log new rows t some is was fit = rw (is, group_more log (Merge rows) some, proposals_more log rows) (merge_more (group_in log) (proposals_in log) rows t was fit)

-- the table of a front with the mark
pub shown_end : (log new : List Post) (t : Values) → 0 < length log → new ≡ log ++ End ∷ [] → IsMergeOf (group_in log) (proposals_in log) t → IsMergeOf (group_in new) (proposals_in new) t
shown_end log new t some is was = rw (is, group_more log End some, proposals_end log) was

-- what contracts see of a front with one merge more, and of one with the mark
pub published_more : (b : LineName) (log new : List Post) (rows : List Row) → 0 < length log → new ≡ log ++ Merge rows ∷ [] → published_in b new ≡ record (published_in b log) { proposals = proposals_in log ++ rows ∷ [] }
published_more b log new rows some is = rw is (cc (group_more log (Merge rows) some, proposals_more log rows, ended_more log rows))

pub published_end : (b : LineName) (log new : List Post) → 0 < length log → new ≡ log ++ End ∷ [] → published_in b new ≡ record (published_in b log) { ended = true }
published_end b log new some is = rw is (cc (group_more log End some, proposals_end log, ended_end log))
