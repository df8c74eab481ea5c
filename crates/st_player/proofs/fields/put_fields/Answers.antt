use Rattle.std.proofs.Common.{ap, ◌∙◌}
use Rattle.st_text.proofs.PrintLemmas.{ok_by}
use Rattle.st_player.specs.Fields.{with_fields, with_values, with_numbers, with_holders, with_known}
use Rattle.st_player.proofs.fields.put_fields.Goals as goal

pub returns : goal.returns
unfolding with_fields
returns c =
    let f = c.args.fields in
    let s = c.args.state.now in
    ok_by c.put_known.result
    (λ end. end ∙ ap (with_known f s) (c.in_ok-put_holders.ensures ∙ ap (with_holders f s) (c.in_ok-put_numbers.ensures ∙ ap (with_numbers f s) (c.in_ok-put_values.ensures ∙ ap (with_values f s) c.in_ok-put_standing.ensures))))
    c.put_known.ensures
