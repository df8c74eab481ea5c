use Rattle.std.proofs.Common.{◌≡◌, ◌<◌, ◌≤◌, ◌++◌, ℕ, List, Bool, length, take, drop, ap, ◌∙◌, arith}
use Rattle.std.specs.Prelude.{◌||◌, ◌&&◌, not, slice_index_or}
use Rattle.std.proofs.lemmas.List.{take_at}
use Rattle.st_net.specs.Groups.{no_link}
use Rattle.st_net.specs.Sets.{is_in}
use Rattle.st_player.specs.Cuts.{is_marked, joins}
use Rattle.st_player.proofs.CutLemmas.{grown_more, grown_all}
use Rattle.st_player.proofs.cuts.grow.Goals as goal

pub loop-link-preserved : goal.loop-link-preserved
loop-link-preserved c =
    let g = c.args.topo.now in
    let up = is_in c.args.up.now in
    let side = is_marked c.args.side.now in
    let near = is_marked c.args.near.now in
    let i = c.loop-link.link in
    let new = c.join_ends.new.more in
    let low : i < length g.links = omega (arith, c.loop-link-test.true, c.link_count-link-end.ensures) in
    let kept : length new ≡ length c.loop-link.more.items = c.join_ends.auto.more ∙ ap length c.as_mut_slice.ensures.value in
    let count : length new ≡ c.loop-link.more.len = c.join_ends.auto.more ∙ c.as_mut_slice.ensures.len in
    let whole : take c.loop-link.more.len (new ++ drop (length new) c.loop-link.more.items) ≡ new = take_at new (drop (length new) c.loop-link.more.items) c.loop-link.more.len count in
    let joined : (d : ℕ) → is_marked new d ≡ (is_marked c.loop-link.more.items d || (not (side d) && joins up near d i (slice_index_or g.links i no_link))) =
    λ d. c.join_ends.ensures d ∙ ap (λ (xs : List Bool). is_marked xs d || (not (side d) && joins up near d i (slice_index_or g.links i no_link))) c.as_mut_slice.ensures.value in
    let grown = grown_more g.links up side near i (is_marked c.loop-link.more.items) (is_marked new) low c.loop-link.invariant.1 joined in
    (ap length whole ∙ (kept ∙ c.loop-link.invariant.0), λ d. ap (λ (xs : List Bool). is_marked xs d) whole ∙ grown d)

pub returns-clause-more : goal.returns-clause-more
returns-clause-more c =
    let past : length c.args.topo.now.links ≤ c.loop-link.link = omega (arith, c.loop-link-test.false, c.link_count-link-end.ensures) in
    grown_all c.args.topo.now (is_in c.args.up.now) (is_marked c.args.side.now) (is_marked c.args.near.now) c.loop-link.link (is_marked c.loop-link.more.items) past c.loop-link.invariant.1
