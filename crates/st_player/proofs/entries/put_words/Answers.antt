use Rattle.std.proofs.Common.{◌≡◌, ◌∙◌, ◌+◌, ℕ, List, length, map, ap, codes}
use Rattle.std.specs.Prelude.{Option, option_map}
use Rattle.serde_json.specs.Data.{Data, put, string}
use Rattle.serde_json.specs.View.{members_view, view}
use Rattle.st_text.proofs.PrintLemmas.{ok_by}
use Rattle.st_net.specs.Groups.{Group}
use Rattle.st_event.specs.History.{History}
use Rattle.st_player.specs.Entries.{about, asked_of, line_of}
use Rattle.st_player.specs.Json.{number_data, put_list, put_some}
use Rattle.st_player.specs.Refusals.{refused_of}
use Rattle.st_player.proofs.entries.put_words.Goals as goal

pub returns : goal.returns
returns c =
    let h = c.args.playback.now in
    let apps = c.args.apps.now in
    let entry = c.args.entry.now in
    let n = length h.past + 1 in
    let group : c.topo.result.now ≡ h.group = c.topo.ensures.topo ∙ (c.control.ensures.group ∙ ap (λ (k : History). k.group) c.world-world.ensures) in
    let line = c.in_ok-put_line.ensures n ∙ ap (λ (g : Group). put (codes "line") (string (line_of g apps n entry)) (members_view c.args.object.now)) group in
    let on : c.as_slice.result.now ≡ about h.group h.past entry = c.as_slice.ensures.value ∙ (c.in_ok-about.ensures ∙ ap (λ (k : History). about k.group k.past entry) c.world-world.ensures) in
    let second = c.in_ok-put_numbers.ensures
    ∙ (ap (λ (ns : List ℕ). put_list (codes "on") (map number_data ns) (members_view c.put_line.new.object)) on
    ∙ ap (put_list (codes "on") (map number_data (about h.group h.past entry))) line) in
    let third = c.in_ok-put_number_some.ensures
    ∙ (ap (λ (n : Option ℕ). put_some (codes "asked") (option_map number_data n) (members_view c.put_numbers.new.self)) c.asked.ensures
    ∙ ap (put_some (codes "asked") (option_map number_data (asked_of h.past entry.event entry.reply))) second) in
    let refused : option_map view c.in_ok-refused.field-0 ≡ refused_of h.group h.past entry.event entry.reply = c.in_ok-refused.ensures ∙ ap (λ (k : History). refused_of k.group k.past entry.event entry.reply) c.world-world.ensures in
    ok_by c.put_some.result (λ end. end
    ∙ (ap (λ (d : Option Data). put_some (codes "refused") d (members_view c.put_number_some.new.self)) refused
    ∙ ap (put_some (codes "refused") (refused_of h.group h.past entry.event entry.reply)) third)) c.put_some.ensures
