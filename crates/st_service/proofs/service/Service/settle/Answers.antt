-- Each round goes on where the rounds before it stopped.
use Rattle.std.proofs.Common.{◌≡◌, ℕ, suc, List, [], ◌*◌, ◌+◌, ◌<◌, ◌≤◌, ◌∷◌, ◌==◌, true, length, inl, inr, refl, ap, sym, subst, ◌∙◌, arith}
use Rattle.std.proofs.lemmas.Bool.Decides.{nat_tests}
use Rattle.std.specs.Prelude.{All}
use Rattle.std.specs.Vec.{vec_len}
use mathlib.Core.List.{IsPrefix}
use Rattle.st_net.specs.declared.entity.Entity.{Entity}
use Rattle.st_net.specs.Groups.{Group, IsEntityOf}
use Rattle.st_wire.specs.declared.line.WireLine.{WireLine}
use Rattle.st_world.specs.Rounds.{unsettled}
use Rattle.st_world.specs.declared.world.rounds.Going.{Going}
use Rattle.st_world.proofs.RunLaws.{unsettled_fit}
use Rattle.st_event.proofs.Prefixes.{prefix_self}
use Rattle.st_service.specs.declared.work.Part.TheVariants.{Whole}
use Rattle.st_service.specs.Kept.{Kept}
use Rattle.st_service.specs.Made.{Made, past_in}
use Rattle.st_service.specs.Passes.{front_at, mine_at, Holder}
use Rattle.st_service.specs.Shares.{round_share, turn_share}
use Rattle.st_service.specs.Turns.{Turned, Turns, ToFull, RoundsMade}
use Rattle.st_service.proofs.ChainLaws.{kept_on, same_mine, rounds_more, share_fits, share_next}
use Rattle.st_service.proofs.RoundChain.{few_turns}
use Rattle.st_service.proofs.service.Service.settle.Goals as goal

-- a round's start, and what was made of the round
kept_round : (a b o d : Holder) (n k rounds : ℕ) (g : Group) (lines : List WireLine) (es : List Entity) → k < rounds → es ≡ unsettled g (past_in (front_at o.fronts n)) → Kept a b n (k * round_share Whole g lines) → Kept b o n 0
    → Kept o d n (length es * turn_share Whole lines) → Kept a d n (rounds * round_share Whole g lines)
kept_round a b o d n k rounds g lines es lt list p q r =
    let w = round_share Whole g lines in
    let m = length es * turn_share Whole lines in
    let f = share_fits k rounds w lt in
    let few = few_turns Whole g lines es (front_at o.fronts n) list in
    kept_on a o d n (k * w) m (rounds * w) (omega (arith, f, few)) (kept_on a b o n (k * w) 0 (k * w) (omega arith) p q) r

kept_start : (a b o : Holder) (g k n w : ℕ) → k < n → Kept a b g (k * w) → Kept b o g 0 → Kept a o g (n * w)
kept_start a b o g k n w lt p q = let f = share_fits k n w lt in kept_on a b o g (k * w) 0 (n * w) (omega (arith, f)) p q

kept_next : (a b o d : Holder) (g k w m : ℕ) → m ≤ w → Kept a b g (k * w) → Kept b o g 0 → Kept o d g m → Kept a d g ((k + 1) * w)
kept_next a b o d g k w m le p q r = let f = share_next k w in kept_on a o d g (k * w) m ((k + 1) * w) (omega (arith, f, le)) (kept_on a b o g (k * w) 0 (k * w) (omega arith) p q) r

none_left : (es : List Entity) → length es ≡ 0 → es ≡ []
none_left [] e = refl
none_left (x ∷ es) e = absurd (omega (arith, e))

test_none : (n : ℕ) → true ≡ (n == 0) → n ≡ 0
test_none n h = grind (arith, nat_tests, h)

-- a round that was made, after the others
one_more : (g : Group) (lines : List WireLine) (p k : ℕ) (before mid f after : List Made) (was got here now : List ℕ) (es : List Entity) → RoundsMade g lines p k before was mid got → IsPrefix mid f → here ≡ got → es ≡ unsettled g (past_in f) → Turns Whole g lines p es f here after now → RoundsMade g lines p (k + 1) before was after now
one_more g lines p k before mid f after was got here now es r q same list t =
    let e : suc k ≡ k + 1 = omega arith in
    let u : Turns Whole g lines p (unsettled g (past_in f)) f got after now = subst (λ l. Turns Whole g lines p l f got after now) list (subst (λ l. Turns Whole g lines p es f l after now) same t) in
    subst (λ j. RoundsMade g lines p j before was after now) e (rounds_more g lines p k before mid after was got now r (f, q, u))

pub returns-in_err-entities-clause-kept : goal.returns-in_err-entities-clause-kept
returns-in_err-entities-clause-kept g c = kept_start c.args.pass.now c.loop-round.pass c.unsettled.new.pass c.args.group c.loop-round._round c.args.rounds (round_share Whole (g.J.Naming.group c.args.group) (g.J.Naming.lines c.args.group)) c.loop-round-test.true c.loop-round.invariant.kept c.unsettled.ensures.kept

pub returns-then-is_empty-clause-kept : goal.returns-then-is_empty-clause-kept
returns-then-is_empty-clause-kept g c = kept_start c.args.pass.now c.loop-round.pass c.unsettled.new.pass c.args.group c.loop-round._round c.args.rounds (round_share Whole (g.J.Naming.group c.args.group) (g.J.Naming.lines c.args.group)) c.loop-round-test.true c.loop-round.invariant.kept c.unsettled.ensures.kept

pub returns-then-is_empty-clause-settled : goal.returns-then-is_empty-clause-settled
returns-then-is_empty-clause-settled g c =
    let old = c.args.pass.now in
    let mid = c.loop-round.pass in
    let new = c.unsettled.new.pass in
    let n = c.args.group in
    let inv = c.loop-round.invariant in
    let f = front_at new.fronts n in
    let kept = c.unsettled.ensures.kept.grows in
    let list : c.in_ok-entities.entities.items ≡ unsettled (g.J.Naming.group n) (past_in f) = c.in_ok-entities.ensures.entities in
    let none : unsettled (g.J.Naming.group n) (past_in f) ≡ [] = none_left (unsettled (g.J.Naming.group n) (past_in f)) (ap length (sym list) ∙ (sym c.in_ok-entities.entities.ok.0 ∙ test_none (vec_len c.in_ok-entities.entities) c.if-is_empty.ensures)) in
    let rounds : RoundsMade (g.J.Naming.group n) (g.J.Naming.lines n) old.number c.loop-round._round (front_at old.fronts n) (mine_at old.mines n) (front_at mid.fronts n) (mine_at new.mines n) =
    subst (λ (l : List ℕ). RoundsMade (g.J.Naming.group n) (g.J.Naming.lines n) old.number c.loop-round._round (front_at old.fronts n) (mine_at old.mines n) (front_at mid.fronts n) l) (sym (same_mine (front_at mid.fronts n) f (mine_at mid.mines n) (mine_at new.mines n) kept)) inv.rounds in
    (c.loop-round._round, omega (arith, c.loop-round-test.true), front_at mid.fronts n, rounds, kept.0, inr (f, kept.0, prefix_self f, none))

pub returns-clause-settled : goal.returns-clause-settled
returns-clause-settled g c =
    let n = c.args.group in
    let all : c.loop-round._round ≡ c.args.rounds = omega (arith, c.loop-round-test.false) in
    (c.loop-round._round, omega (arith, all), front_at c.loop-round.pass.fronts n, c.loop-round.invariant.rounds, prefix_self (front_at c.loop-round.pass.fronts n), inl all)

pub returns-in_err-turns-clause-kept : goal.returns-in_err-turns-clause-kept
returns-in_err-turns-clause-kept g c = kept_round c.args.pass.now c.loop-round.pass c.unsettled.new.pass c.turns.new.pass c.args.group c.loop-round._round c.args.rounds (g.J.Naming.group c.args.group) (g.J.Naming.lines c.args.group) c.deref.result.now c.loop-round-test.true
    (c.deref.ensures.value ∙ c.in_ok-entities.ensures.entities) c.loop-round.invariant.kept c.unsettled.ensures.kept c.turns.ensures.kept

pub returns-in-Full-clause-kept : goal.returns-in-Full-clause-kept
returns-in-Full-clause-kept g c = kept_round c.args.pass.now c.loop-round.pass c.unsettled.new.pass c.turns.new.pass c.args.group c.loop-round._round c.args.rounds (g.J.Naming.group c.args.group) (g.J.Naming.lines c.args.group) c.deref.result.now c.loop-round-test.true
    (c.deref.ensures.value ∙ c.in_ok-entities.ensures.entities) c.loop-round.invariant.kept c.unsettled.ensures.kept c.turns.ensures.kept

pub returns-in-Full-clause-settled : goal.returns-in-Full-clause-settled
returns-in-Full-clause-settled g c =
    let n = c.args.group in
    let h = g.J.Naming.group n in
    let lines = g.J.Naming.lines n in
    let seen = c.unsettled.new.pass in
    let new = c.turns.new.pass in
    let turned : ToFull Whole h lines seen.number c.deref.result.now (front_at seen.fronts n) (mine_at seen.mines n) (front_at new.fronts n) (mine_at new.mines n) =
    subst (λ (going : Going). Turned going Whole h lines seen.number c.deref.result.now (front_at seen.fronts n) (mine_at seen.mines n) (front_at new.fronts n) (mine_at new.mines n)) c.in-Full.is c.in_ok-turns.ensures.turned in
    turned.enters.full refl

pub loop-round-preserved : goal.loop-round-preserved
loop-round-preserved g c =
    let old = c.args.pass.now in
    let mid = c.loop-round.pass in
    let seen = c.unsettled.new.pass in
    let new = c.turns.new.pass in
    let n = c.args.group in
    let h = g.J.Naming.group n in
    let lines = g.J.Naming.lines n in
    let k = c.loop-round._round in
    let inv = c.loop-round.invariant in
    let es = c.deref.result.now in
    let f = front_at seen.fronts n in
    let look = c.unsettled.ensures.kept in
    let list : es ≡ unsettled h (past_in f) = c.deref.ensures.value ∙ c.in_ok-entities.ensures.entities in
    let same = same_mine (front_at mid.fronts n) f (mine_at mid.mines n) (mine_at seen.mines n) look.grows in
    let number : seen.number ≡ old.number = look.number ∙ inv.kept.number in
    let turned : Turns Whole h lines seen.number es f (mine_at seen.mines n) (front_at new.fronts n) (mine_at new.mines n) =
    subst (λ (going : Going). Turned going Whole h lines seen.number es f (mine_at seen.mines n) (front_at new.fronts n) (mine_at new.mines n)) c.in-On.is c.in_ok-turns.ensures.turned in
    let mine : Turns Whole h lines old.number es f (mine_at seen.mines n) (front_at new.fronts n) (mine_at new.mines n) = subst (λ (p : ℕ). Turns Whole h lines p es f (mine_at seen.mines n) (front_at new.fronts n) (mine_at new.mines n)) number turned in
    record {
      kept = kept_next old mid seen new n k (round_share Whole h lines) (length es * turn_share Whole lines) (few_turns Whole h lines es f list) inv.kept look c.turns.ensures.kept;
      taught = λ some. c.in_ok-turns.ensures.teaches c.in_ok-entities.ensures.reads;
      log = c.turns.ensures.log ∙ (c.unsettled.ensures.log ∙ inv.log);
      rounds = one_more h lines old.number k (front_at old.fronts n) (front_at mid.fronts n) f (front_at new.fronts n) (mine_at old.mines n) (mine_at mid.mines n) (mine_at seen.mines n) (mine_at new.mines n) es inv.rounds look.grows.0 same list mine;
    }

pub turns-requires-clause-room : goal.turns-requires-clause-room
turns-requires-clause-room g c = (c.requires.room.0, c.unsettled.ensures.kept.rooms.0 ∙ (c.loop-round.invariant.kept.rooms.0 ∙ c.requires.room.1))

pub turns-requires-clause-fits : goal.turns-requires-clause-fits
turns-requires-clause-fits g c =
    let n = c.args.group in
    let f = front_at c.unsettled.new.pass.fronts n in
    let list : c.deref.result.now ≡ unsettled (g.J.Naming.group n) (past_in f) = c.deref.ensures.value ∙ c.in_ok-entities.ensures.entities in
    subst (All (IsEntityOf (g.J.Naming.group n))) (sym list) (unsettled_fit (g.J.Naming.group n) (past_in f))
