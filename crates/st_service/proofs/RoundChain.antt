-- What the holds of a round leave together: a look that lists the entities that are not settled, their turns, and a look behind them.
use Rattle.std.proofs.Common.{◌≡◌, ℕ, ◌*◌, ◌≤◌, List, length, ap, sym, subst, arith}
use Rattle.std.specs.Prelude.{Result, IfOk}
use Rattle.st_net.specs.declared.entity.Entity.{Entity}
use Rattle.st_net.specs.Groups.{Group}
use Rattle.st_net.specs.InOrder.{entities_of}
use Rattle.st_event.specs.History.{History}
use Rattle.st_wire.specs.declared.line.WireLine.{WireLine}
use Rattle.st_world.specs.Rounds.{unsettled}
use Rattle.st_service.specs.declared.work.Part.{Part}
use Rattle.st_service.specs.Kept.{Grows, Kept}
use Rattle.st_service.specs.Made.{Made, past_in}
use Rattle.st_service.specs.Passes.{Holder, front_at}
use Rattle.st_service.specs.Shares.{round_share, turn_share}
use Rattle.st_service.specs.Turns.{Turns, ToFull, RoundOf, RoundToFull}
use Rattle.st_service.proofs.ChainLaws.{kept_on, kept_self, same_mine, few_unsettled, turns_later, shares_within}

-- the turns of the entities that are not settled lie within a round's share
pub few_turns : (part : Part) (g : Group) (lines : List WireLine) (es : List Entity) (f : List Made) → es ≡ unsettled g (past_in f) → length es * turn_share part lines ≤ round_share part g lines
few_turns part g lines es f e = let l = few_unsettled g (past_in f) in shares_within (length es) (length (entities_of g)) (turn_share part lines) (omega (arith, l, ap length e))

-- a look adds nothing
pub kept_look : (a b : Holder) (g w : ℕ) → Kept a b g 0 → Kept a b g w
kept_look a b g w p = kept_on a b b g 0 w w (omega arith) p (kept_self b g w)

-- a look, and the turns of the entities that it lists
pub kept_turns : (part : Part) (g : Group) (lines : List WireLine) (es : List Entity) (a b c : Holder) (n : ℕ) → es ≡ unsettled g (past_in (front_at b.fronts n))
    → Kept a b n 0 → Kept b c n (length es * turn_share part lines) → Kept a c n (round_share part g lines)
kept_turns part g lines es a b c n list p q =
    let few = few_turns part g lines es (front_at b.fronts n) list in
    kept_on a b c n 0 (length es * turn_share part lines) (round_share part g lines) (omega (arith, few)) p q

-- a look, the turns of the entities that it lists, and a look behind the turns
pub kept_round : (part : Part) (g : Group) (lines : List WireLine) (es : List Entity) (a b c d : Holder) (n : ℕ) → es ≡ unsettled g (past_in (front_at b.fronts n))
    → Kept a b n 0 → Kept b c n (length es * turn_share part lines) → Kept c d n 0 → Kept a d n (round_share part g lines)
kept_round part g lines es a b c d n list p q r =
    let w = round_share part g lines in
    kept_on a c d n w 0 w (omega arith) (kept_turns part g lines es a b c n list p q) r

-- the round that a look, these turns and a look behind the turns make
pub round_made : (part : Part) (g : Group) (lines : List WireLine) (p number : ℕ) (es : List Entity) (before f mid after : List Made) (was here got now : List ℕ) → p ≡ number → Grows 0 before was f here → es ≡ unsettled g (past_in f)
    → Turns part g lines p es f here mid got → Grows 0 mid got after now → RoundOf part g lines number before was after now
round_made part g lines p number es before f mid after was here got now same look list t last =
    let own : Turns part g lines number es f here mid got = subst (λ (n : ℕ). Turns part g lines n es f here mid got) same t in
    let listed : Turns part g lines number (unsettled g (past_in f)) f here mid got = subst (λ (l : List Entity). Turns part g lines number l f here mid got) list own in
    let from : Turns part g lines number (unsettled g (past_in f)) f was mid got = subst (λ (l : List ℕ). Turns part g lines number (unsettled g (past_in f)) f l mid got) (same_mine before f was here look) listed in
    let to : Turns part g lines number (unsettled g (past_in f)) f was mid now = subst (λ (l : List ℕ). Turns part g lines number (unsettled g (past_in f)) f was mid l) (sym (same_mine mid after got now last)) from in
    (f, look.0, turns_later part g lines number (unsettled g (past_in f)) f mid after was now to last.0)

-- or a round that met a full journal
pub round_full : (part : Part) (g : Group) (lines : List WireLine) (p number : ℕ) (es : List Entity) (before f after : List Made) (was here now : List ℕ) → p ≡ number → Grows 0 before was f here → es ≡ unsettled g (past_in f)
    → ToFull part g lines p es f here after now → RoundToFull part g lines number before was after now
round_full part g lines p number es before f after was here now same look list t =
    let own : ToFull part g lines number es f here after now = subst (λ (n : ℕ). ToFull part g lines n es f here after now) same t in
    let listed : ToFull part g lines number (unsettled g (past_in f)) f here after now = subst (λ (l : List Entity). ToFull part g lines number l f here after now) list own in
    (f, look.0, subst (λ (l : List ℕ). ToFull part g lines number (unsettled g (past_in f)) f l after now) (same_mine before f was here look) listed)

-- what a room lists is listed of the front that a pass is taught
pub unsettled_taught : {T E : Type 0} (r : Result T E) (items : T → List Entity) (g : Group) (h : History) (front : List Made) → IfOk r (λ x. items x ≡ unsettled h.group h.past) → past_in front ≡ h.past → h.group ≡ g
    → IfOk r (λ x. items x ≡ unsettled g (past_in front))
unsettled_taught r items g h front list journal same = subst (λ (k : Group). IfOk r (λ x. items x ≡ unsettled k (past_in front))) same (subst (λ past. IfOk r (λ x. items x ≡ unsettled h.group past)) (sym journal) list)
