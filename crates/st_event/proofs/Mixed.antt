-- In a legal journal the overlays are the rows of the accepted proposals and those of the withdrawals, mixed.
use Rattle.std.proofs.Common.{◌≡◌, ◌+◌, List, [], ◌∷◌, ◌++◌, length, Option, Some, None, refl, ap, sym, ◌∙◌, subst, inl, inr, arith}
use Rattle.std.specs.Prelude.{Bool, true, false}
use Rattle.st_net.specs.declared.entity.Row.{Row}
use Rattle.st_net.specs.Groups.{Group}
use Rattle.st_event.specs.declared.journal.Entry.{Entry}
use Rattle.st_event.specs.Legal.{IsLegal, IsNext}
use Rattle.st_event.specs.Laws.{BeginsWith, IsMixOf, OverlaysListed}
use Rattle.st_event.specs.Proposals.{accepted, first_rows, is_acceptance, overlays, pending, withdrawal_in, withdrawn, with_overlay}
use Rattle.st_event.proofs.Targets.{acceptance, accepted_same, accepted_step, legal_orderly, overlays_next, overlays_withdrawal, withdraws_none}

-- one item more behind a list and one of the two

first_of : (rows : List Row) (rest : List (List Row) → Type 0) → rest [] → BeginsWith (rows ∷ []) rows rest
first_of rows rest is = record { behind = []; begins = refl; rest_is = is }

one_more : (mixed ones others : List (List Row)) (rows : List Row) → IsMixOf mixed ones others → IsMixOf (mixed ++ rows ∷ []) (ones ++ rows ∷ []) others
one_more [] ones others rows is = inl (record { behind = []; begins = ap (λ (xs : List (List Row)). xs ++ rows ∷ []) is.0; rest_is = (refl, is.1) })
one_more (x ∷ mixed) ones others rows (inl one) = inl (record { behind = one.behind ++ rows ∷ []; begins = ap (λ (xs : List (List Row)). xs ++ rows ∷ []) one.begins; rest_is = one_more mixed one.behind others rows one.rest_is })
one_more (x ∷ mixed) ones others rows (inr other) = inr (record { behind = other.behind; begins = other.begins; rest_is = one_more mixed ones other.behind rows other.rest_is })

other_more : (mixed ones others : List (List Row)) (rows : List Row) → IsMixOf mixed ones others → IsMixOf (mixed ++ rows ∷ []) ones (others ++ rows ∷ [])
other_more [] ones others rows is = inr (record { behind = []; begins = ap (λ (xs : List (List Row)). xs ++ rows ∷ []) is.1; rest_is = (is.0, refl) })
other_more (x ∷ mixed) ones others rows (inl one) = inl (record { behind = one.behind; begins = one.begins; rest_is = other_more mixed one.behind others rows one.rest_is })
other_more (x ∷ mixed) ones others rows (inr other) = inr (record { behind = other.behind ++ rows ∷ []; begins = ap (λ (xs : List (List Row)). xs ++ rows ∷ []) other.begins; rest_is = other_more mixed ones other.behind rows other.rest_is })

other_or_none : (mixed ones others : List (List Row)) (o : Option (List Row)) → IsMixOf mixed ones others → IsMixOf (with_overlay o mixed) ones (with_overlay o others)
other_or_none mixed ones others None is = is
other_or_none mixed ones others (Some rows) is = other_more mixed ones others rows is

-- an entry more

mixed_by : (g : Group) (past : List Entry) (entry : Entry) (b : Bool) → is_acceptance entry.event entry.reply ≡ b → IsLegal g past → IsNext g past entry → IsMixOf (overlays past) (accepted past) (withdrawn past) → IsMixOf (overlays (entry ∷ past)) (accepted (entry ∷ past)) (withdrawn (entry ∷ past))
mixed_by g past entry true is legal next before =
    let more = overlays_next past entry is in
    let one = accepted_step g past entry.event entry.reply (acceptance g past entry.event entry.reply next.answer is) in
    let none : withdrawn (entry ∷ past) ≡ withdrawn past = ap (λ (o : Option (List Row)). with_overlay o (withdrawn past)) (withdraws_none entry.event entry.reply is) in
    subst (λ (xs : List (List Row)). IsMixOf xs (accepted (entry ∷ past)) (withdrawn (entry ∷ past))) (sym more)
    (subst (λ (xs : List (List Row)). IsMixOf (overlays past ++ first_rows (pending past) ∷ []) xs (withdrawn (entry ∷ past))) (sym one)
    (subst (λ (xs : List (List Row)). IsMixOf (overlays past ++ first_rows (pending past) ∷ []) (accepted past ++ first_rows (pending past) ∷ []) xs) (sym none)
    (one_more (overlays past) (accepted past) (withdrawn past) (first_rows (pending past)) before)))
mixed_by g past entry false is legal next before =
    let over : overlays (entry ∷ past) ≡ with_overlay (withdrawal_in entry.event entry.reply) (overlays past) = ap (λ (o : Option (List Row)). with_overlay o (overlays past)) (overlays_withdrawal entry.event entry.reply (first_rows (pending past)) is) in
    let same = accepted_same g past entry.event entry.reply (legal_orderly g past legal) next.answer is in
    subst (λ (xs : List (List Row)). IsMixOf xs (accepted (entry ∷ past)) (withdrawn (entry ∷ past))) (sym over)
    (subst (λ (xs : List (List Row)). IsMixOf (with_overlay (withdrawal_in entry.event entry.reply) (overlays past)) xs (withdrawn (entry ∷ past))) (sym same)
    (other_or_none (overlays past) (accepted past) (withdrawn past) (withdrawal_in entry.event entry.reply) before))

pub overlays_mixed : (g : Group) (past : List Entry) → IsLegal g past → IsMixOf (overlays past) (accepted past) (withdrawn past)
overlays_mixed g [] legal = (refl, refl)
overlays_mixed g (entry ∷ past) legal = mixed_by g past entry (is_acceptance entry.event entry.reply) refl legal.1 legal.0 (overlays_mixed g past legal.1)

-- the list is as long as both

mixed_length : (mixed ones others : List (List Row)) → IsMixOf mixed ones others → length mixed ≡ length ones + length others
mixed_length [] ones others is = rw (is.0, is.1) refl
mixed_length (x ∷ mixed) ones others (inl one) = let before = mixed_length mixed one.behind others one.rest_is in let long : length ones ≡ length (x ∷ one.behind) = ap length one.begins in omega (arith, before, long)
mixed_length (x ∷ mixed) ones others (inr other) = let before = mixed_length mixed ones other.behind other.rest_is in let long : length others ≡ length (x ∷ other.behind) = ap length other.begins in omega (arith, before, long)

mixed_alone : (mixed ones others : List (List Row)) → IsMixOf mixed ones others → others ≡ [] → mixed ≡ ones
mixed_alone [] ones others is none = sym is.0
mixed_alone (x ∷ mixed) ones others (inl one) none = ap (λ (xs : List (List Row)). x ∷ xs) (mixed_alone mixed one.behind others one.rest_is none) ∙ sym one.begins
mixed_alone (x ∷ mixed) ones others (inr other) none = let begins = other.begins in cc

pub overlays_listed : (g : Group) (past : List Entry) → IsLegal g past → OverlaysListed g past
overlays_listed g past legal = let mixed = overlays_mixed g past legal in record {
  mixed = mixed;
  merge = refl;
  count = mixed_length (overlays past) (accepted past) (withdrawn past) mixed;
  alone = mixed_alone (overlays past) (accepted past) (withdrawn past) mixed;
}
