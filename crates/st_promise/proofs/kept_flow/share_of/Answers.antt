use Rattle.std.proofs.Common.{◌≡◌, rules, w64, FitsSigned, nat_abs, pos, ◌∙◌}
use Rattle.std.proofs.lemmas.Int.{to_z-of_z}
use Rattle.std.specs.Prelude.{true, false, int_lt, slice_index_or}
use Rattle.st_net.specs.Groups.{no_link}
use Rattle.st_promise.specs.UpNetwork.{edge_of}
use Rattle.st_net.proofs.WalkLaws.{is_link_at}
use Rattle.st_promise.proofs.ShareLaws.{share_is}
use Rattle.st_promise.proofs.kept_flow.share_of.Goals as goal
use Rattle.st_promise.proofs.kept_flow.share_of.Goals.{then-amount-lt0, else-amount-lt0}

pub returns-clause-some : goal.returns-clause-some
returns-clause-some c =
    let link = is_link_at _ _ c.args.link c.is_sound.ensures.links c.requires.link in
    let e = edge_of true (slice_index_or c.args.topo.now.links c.args.link no_link) in
    let f : FitsSigned w64 c.args.amount = search rules in
    let size : c.unsigned_abs.result ≡ nat_abs c.args.amount = rw (to_z-of_z w64 c.args.amount f) at c.unsigned_abs.ensures.value in
    let back : int_lt c.args.amount (pos 0) ≡ true → c.if-amount-lt0.result ≡ e.u = λ is. elim c.if-amount-lt0.branch [
      | then-amount-lt0 w ↦ w.result-is ∙ c.ends-a.ensures.a
      | else-amount-lt0 w ↦ (let not : int_lt c.args.amount (pos 0) ≡ false = rw (to_z-of_z w64 c.args.amount f) at w.if-amount-lt0.false in cc)
    ] in
    let along : int_lt c.args.amount (pos 0) ≡ false → c.if-amount-lt0.result ≡ e.v = λ is. elim c.if-amount-lt0.branch [
      | then-amount-lt0 w ↦ (let not : int_lt c.args.amount (pos 0) ≡ true = rw (to_z-of_z w64 c.args.amount f) at w.if-amount-lt0.true in cc)
      | else-amount-lt0 w ↦ w.result-is ∙ c.ends-a.ensures.b
    ] in
    rw size (share_is c.args.link e c.args.amount c.if-amount-lt0.result link.apart back along)
