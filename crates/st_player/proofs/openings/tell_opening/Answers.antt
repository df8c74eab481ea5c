use Rattle.std.proofs.Common.{◌∙◌, ap₂, subst, arith}
use Rattle.st_net.specs.Groups.{IsSound}
use Rattle.st_event.specs.History.{History}
use Rattle.st_player.specs.Pictures.{opening_data}
use Rattle.st_player.proofs.PlayLemmas.{few_entities, few_promises, network_count, shown_is, states_count, sure_count}
use Rattle.st_player.proofs.openings.tell_opening.Goals as goal

pub opening_json-requires : goal.opening_json-requires
opening_json-requires c =
    let h = c.args.playback.now in
    let shown = c.args.shown.now in
    let sound = subst (λ (k : History). IsSound k.group) c.world.ensures c.is_legal.ensures.sound in
    record {
      few = omega (arith, states_count h shown c.requires, few_entities h.group sound);
      few_in_network = omega (arith, network_count h shown c.requires, few_promises h.group sound);
      few_sure = omega (arith, sure_count h shown c.requires, few_promises h.group sound);
    }

pub returns : goal.returns
returns c = c.in_ok-told.ensures ∙ ap₂ opening_data (shown_is c.args.playback.now c.args.shown.now c.requires) c.in_ok-causes.ensures
