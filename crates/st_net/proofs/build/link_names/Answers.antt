use Rattle.std.proofs.Common.{◌≡◌, ℕ, List, ◌+◌, ◌∷◌, ◌++◌, [], true, false, length, drop, subst, append_assoc, arith}
use Rattle.st_net.specs.Names.{is_name, is_among}
use Rattle.st_net.specs.Faults.{link_names, first_twice}
use Rattle.st_net.proofs.NameSteps.{added_here, new_here, new_among_second}
use Rattle.st_net.proofs.NameLemmas.{names_added}
use Rattle.st_net.proofs.build.link_names.Goals as goal

pub loop-i-preserved : goal.loop-i-preserved
loop-i-preserved c =
    let spelling : is_name c.index-links-i.result.name ≡ true = rw c.bytes-name.ensures.bytes at c.bytes-name.ensures.spelling in
    let new : is_among c.index-links-i.result.name (c.args.devices.now ++ c.loop-i.names) ≡ false = cc in
    let next : length c.args.devices.now + (c.loop-i.i + 1) ≡ length c.args.devices.now + c.loop-i.i + 1 = omega arith in
    rw c.in_ok-add.ensures.ok (record {
      left = subst (λ (names : List (List ℕ)). first_twice names (length c.args.devices.now + (c.loop-i.i + 1)) (link_names (drop (c.loop-i.i + 1) c.args.links.now)) ≡ first_twice c.args.devices.now (length c.args.devices.now) (link_names c.args.links.now)) (append_assoc c.args.devices.now c.loop-i.names (c.index-links-i.result.name ∷ []))
          (new_here (λ l. l.name) c.args.links.now c.loop-i.i c.index-links-i.result (omega arith) c.index-links-i.is (c.args.devices.now ++ c.loop-i.names) (length c.args.devices.now + c.loop-i.i) (length c.args.devices.now + (c.loop-i.i + 1)) (first_twice c.args.devices.now (length c.args.devices.now) (link_names c.args.links.now)) next new c.loop-i.invariant.left);
      added = rw c.loop-i.invariant.added (added_here (λ l. l.name) c.args.links.now c.loop-i.i c.index-links-i.result (omega arith) c.index-links-i.is);
      named = names_added c.loop-i.names c.index-links-i.result.name c.loop-i.invariant.named spelling;
    })

pub add-requires : goal.add-requires
add-requires c = new_among_second c.index-links-i.result.name c.args.devices.now c.loop-i.names cc
