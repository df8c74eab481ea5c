use Rattle.std.proofs.Common.{ap, sym, ◌∙◌, arith}
use Rattle.st_promise.specs.Search.{Visits}
use Rattle.st_net.proofs.WalkLaws.{is_link_at}
use Rattle.st_promise.proofs.SearchLaws.{place_read, next_over, next_back}
use Rattle.st_promise.proofs.search.Search.step_over.Goals as goal

pub returns-in-Some-None-clause-next : goal.returns-in-Some-None-clause-next
returns-in-Some-None-clause-next c =
    let link = is_link_at _ _ c.args.link c.is_sound.ensures.links c.requires.link in
    let places = ap (λ (s : Visits). s.places) c.self.view_is in
    let here = place_read _ _ c.ends-a.result.0 _ _ places (omega (arith, link.a_in, c.ends-a.ensures.a, c.requires.search.one_each)) c.index.ensures c.in-Some-None.is-0 in
    let there = place_read _ _ c.ends-a.result.1 _ _ places (omega (arith, link.b_in, c.ends-a.ensures.b, c.requires.search.one_each)) c.index-2.ensures c.in-Some-None.is-1 in
    next_over _ _ _ _ _ _ _ _ c.requires.search c.is_sound.ensures.links c.requires.link (sym c.is_up.ensures ∙ c.if-not-is_up.false) c.ends-a.ensures.a c.ends-a.ensures.b here there

pub returns-in-None-Some-clause-next : goal.returns-in-None-Some-clause-next
returns-in-None-Some-clause-next c =
    let link = is_link_at _ _ c.args.link c.is_sound.ensures.links c.requires.link in
    let places = ap (λ (s : Visits). s.places) c.self.view_is in
    let there = place_read _ _ c.ends-a.result.0 _ _ places (omega (arith, link.a_in, c.ends-a.ensures.a, c.requires.search.one_each)) c.index.ensures c.in-None-Some.is-0 in
    let here = place_read _ _ c.ends-a.result.1 _ _ places (omega (arith, link.b_in, c.ends-a.ensures.b, c.requires.search.one_each)) c.index-2.ensures c.in-None-Some.is-1 in
    next_back _ _ _ _ _ _ _ _ c.requires.search c.is_sound.ensures.links c.requires.link (sym c.is_up.ensures ∙ c.if-not-is_up.false) c.ends-a.ensures.b c.ends-a.ensures.a here there
