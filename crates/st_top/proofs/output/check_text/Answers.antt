use Rattle.std.proofs.Common.{length, ap, ◌∙◌, ◌++◌}
use Rattle.std.specs.Prelude.{codes, sum_by}
use Rattle.st_serial.proofs.Limits.{devices_fit, links_fit, promises_fit, commands_fit}
use Rattle.st_top.proofs.Lines.{counted_line}
use Rattle.st_top.proofs.output.check_text.Goals as goal

pub device_count-requires : goal.device_count-requires
device_count-requires c = devices_fit c.args.doc.now c.as_slice-groups.result.now c.requires c.as_slice-groups.ensures

pub link_count-requires : goal.link_count-requires
link_count-requires c = links_fit c.args.doc.now c.as_slice-groups.result.now c.requires c.as_slice-groups.ensures

pub promise_count-requires : goal.promise_count-requires
promise_count-requires c = promises_fit c.args.doc.now c.as_slice-groups.result.now c.requires c.as_slice-groups.ensures

pub act_count-requires : goal.act_count-requires
act_count-requires c = commands_fit c.args.doc.now c.as_slice-apps.result.now c.requires c.as_slice-apps.ensures

pub returns : goal.returns
returns c =
    let groups_are = c.as_slice-groups.ensures in
    let apps_are = c.as_slice-apps.ensures in
    counted_line (codes "ok") (codes "groups") (codes "devices") (codes "links") (codes "promises") (codes "apps") (codes "commands") (length c.as_slice-groups.result.now) c.device_count.result c.link_count.result c.promise_count.result (length c.as_slice-apps.result.now) c.act_count.result _ _ _ _ _ _ c.word.new.self c.print_count.new.out c.print_count-2.new.out c.print_count-3.new.out c.print_count-4.new.out c.print_count-5.new.out c.print_count-6.new.out c.word-2.new.self
    (ap length groups_are)
    (c.device_count.ensures ∙ ap (λ gs. sum_by (λ parts. length parts.devices) gs) groups_are)
    (c.link_count.ensures ∙ ap (λ gs. sum_by (λ parts. length parts.links) gs) groups_are)
    (c.promise_count.ensures ∙ ap (λ gs. sum_by (λ parts. length parts.promises) gs) groups_are)
    (ap length apps_are)
    (c.act_count.ensures ∙ ap (λ scripts. sum_by (λ script. length script.acts) scripts) apps_are)
    (c.in_ok-word.ensures.ok ∙ ap (λ text. text ++ codes "ok") c.new-out.ensures)
    c.in_ok-print_count.ensures c.in_ok-print_count-2.ensures c.in_ok-print_count-3.ensures c.in_ok-print_count-4.ensures c.in_ok-print_count-5.ensures c.in_ok-print_count-6.ensures c.in_ok-word-2.ensures.ok
