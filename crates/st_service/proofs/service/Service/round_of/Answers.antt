-- The round is the look at its start, the turns, and the look behind them.
use Rattle.std.proofs.Common.{◌≡◌, length, refl, sym, ap, subst, ◌∙◌, arith}
use Rattle.std.specs.Prelude.{All}
use Rattle.st_net.specs.Groups.{IsEntityOf}
use Rattle.st_world.specs.Rounds.{unsettled}
use Rattle.st_world.specs.declared.world.rounds.Going.{Going}
use Rattle.st_world.proofs.RunLaws.{unsettled_fit}
use Rattle.st_service.specs.Made.{past_in}
use Rattle.st_service.specs.Passes.{front_at, mine_at}
use Rattle.st_service.specs.Shares.{round_share}
use Rattle.st_service.specs.Turns.{Turned, Turns, ToFull}
use Rattle.st_service.proofs.RoundChain.{kept_look, kept_turns, kept_round, round_full, round_made}
use Rattle.st_service.proofs.service.Service.round_of.Goals as goal

pub overflow_cast-result : goal.overflow_cast-result
overflow_cast-result g c = omega (arith, c.in_ok-left-in-On.ensures.few, c.len.ensures, c.in_ok-left-in-On.left.ok.0)

pub turns-requires-clause-fits : goal.turns-requires-clause-fits
turns-requires-clause-fits g c =
    let n = c.args.group in
    let f = front_at c.unsettled.new.pass.fronts n in
    let list : c.deref.result.now ≡ unsettled (g.J.Naming.group n) (past_in f) = c.deref.ensures.value ∙ c.in_ok-entities.ensures.entities in
    subst (All (IsEntityOf (g.J.Naming.group n))) (sym list) (unsettled_fit (g.J.Naming.group n) (past_in f))

pub returns-in_err-entities-clause-kept : goal.returns-in_err-entities-clause-kept
returns-in_err-entities-clause-kept g c =
    let n = c.args.group in
    kept_look c.args.pass.now c.unsettled.new.pass n (round_share c.args.part (g.J.Naming.group n) (g.J.Naming.lines n)) c.unsettled.ensures.kept

pub returns-in_err-turns-clause-kept : goal.returns-in_err-turns-clause-kept
returns-in_err-turns-clause-kept g c =
    let n = c.args.group in
    kept_turns c.args.part (g.J.Naming.group n) (g.J.Naming.lines n) c.deref.result.now c.args.pass.now c.unsettled.new.pass c.turns.new.pass n (c.deref.ensures.value ∙ c.in_ok-entities.ensures.entities) c.unsettled.ensures.kept c.turns.ensures.kept

pub returns-clause-kept : goal.returns-clause-kept
returns-clause-kept g c =
    let n = c.args.group in
    kept_turns c.args.part (g.J.Naming.group n) (g.J.Naming.lines n) c.deref.result.now c.args.pass.now c.unsettled.new.pass c.turns.new.pass n (c.deref.ensures.value ∙ c.in_ok-entities.ensures.entities) c.unsettled.ensures.kept c.turns.ensures.kept

pub returns-in_err-left-in-On-clause-kept : goal.returns-in_err-left-in-On-clause-kept
returns-in_err-left-in-On-clause-kept g c =
    let n = c.args.group in
    kept_round c.args.part (g.J.Naming.group n) (g.J.Naming.lines n) c.deref.result.now c.args.pass.now c.unsettled.new.pass c.turns.new.pass c.unsettled-in-On.new.pass n (c.deref.ensures.value ∙ c.in_ok-entities.ensures.entities) c.unsettled.ensures.kept c.turns.ensures.kept c.unsettled-in-On.ensures.kept

pub returns-in-On-clause-kept : goal.returns-in-On-clause-kept
returns-in-On-clause-kept g c =
    let n = c.args.group in
    kept_round c.args.part (g.J.Naming.group n) (g.J.Naming.lines n) c.deref.result.now c.args.pass.now c.unsettled.new.pass c.turns.new.pass c.unsettled-in-On.new.pass n (c.deref.ensures.value ∙ c.in_ok-entities.ensures.entities) c.unsettled.ensures.kept c.turns.ensures.kept c.unsettled-in-On.ensures.kept

pub returns-in-On-clause-told : goal.returns-in-On-clause-told
returns-in-On-clause-told g c =
    let n = c.args.group in
    let part = c.args.part in
    let h = g.J.Naming.group n in
    let lines = g.J.Naming.lines n in
    let old = c.args.pass.now in
    let seen = c.unsettled.new.pass in
    let mid = c.turns.new.pass in
    let new = c.unsettled-in-On.new.pass in
    let es = c.deref.result.now in
    let f = front_at seen.fronts n in
    let list : es ≡ unsettled h (past_in f) = c.deref.ensures.value ∙ c.in_ok-entities.ensures.entities in
    let left : c.in_ok-left-in-On.left.items ≡ unsettled h (past_in (front_at new.fronts n)) = c.in_ok-left-in-On.ensures.entities in
    let turned : Turns part h lines seen.number es f (mine_at seen.mines n) (front_at mid.fronts n) (mine_at mid.mines n) =
    subst (λ (going : Going). Turned going part h lines seen.number es f (mine_at seen.mines n) (front_at mid.fronts n) (mine_at mid.mines n)) c.in-On.is c.in_ok-turns.ensures.turned in (
      round_made part h lines seen.number old.number es (front_at old.fronts n) f (front_at mid.fronts n) (front_at new.fronts n) (mine_at old.mines n) (mine_at seen.mines n) (mine_at mid.mines n) (mine_at new.mines n) c.unsettled.ensures.kept.number c.unsettled.ensures.kept.grows list turned c.unsettled-in-On.ensures.kept.grows,
      c.len.ensures ∙ (c.in_ok-left-in-On.left.ok.0 ∙ ap length left),
    )

pub returns-clause-told : goal.returns-clause-told
returns-clause-told g c =
    let n = c.args.group in
    let part = c.args.part in
    let h = g.J.Naming.group n in
    let lines = g.J.Naming.lines n in
    let old = c.args.pass.now in
    let seen = c.unsettled.new.pass in
    let new = c.turns.new.pass in
    let es = c.deref.result.now in
    let f = front_at seen.fronts n in
    let list : es ≡ unsettled h (past_in f) = c.deref.ensures.value ∙ c.in_ok-entities.ensures.entities in
    let turned : ToFull part h lines seen.number es f (mine_at seen.mines n) (front_at new.fronts n) (mine_at new.mines n) =
    subst (λ (going : Going). Turned going part h lines seen.number es f (mine_at seen.mines n) (front_at new.fronts n) (mine_at new.mines n)) c.in-Full.is c.in_ok-turns.ensures.turned in (
      round_full part h lines seen.number old.number es (front_at old.fronts n) f (front_at new.fronts n) (mine_at old.mines n) (mine_at seen.mines n) (mine_at new.mines n) c.unsettled.ensures.kept.number c.unsettled.ensures.kept.grows list turned,
      refl,
    )
