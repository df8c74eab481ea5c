use Rattle.std.specs.Prelude.{[], ◌∷◌, map, flat_map}
use Rattle.st_text.proofs.PrintLemmas.{ok_by}
use Rattle.st_doc.specs.Printed.{version_of_doc, header_words, group_lines, wires_lines, app_lines, order_words}
use Rattle.st_doc.proofs.TextLemmas.{both_lines}
use Rattle.st_doc.proofs.printing.print_lines.Goals as goal

pub returns : goal.returns
returns c =
    ok_by c.print_order.result (λ all. both_lines _ _ _ (header_words (version_of_doc c.args.doc.now) ∷ []) _ (rw c.version_of.ensures at c.in_ok-print_header.ensures)
    (both_lines _ _ _ (flat_map group_lines c.args.doc.now.groups) _ (rw c.as_slice-groups.ensures at c.in_ok-print_groups.ensures)
    (both_lines _ _ _ (wires_lines c.args.doc.now.groups c.args.doc.now.wires) _ (rw (c.as_slice-groups.ensures, c.as_slice.ensures) at c.in_ok-print_wires.ensures)
    (both_lines _ _ _ (flat_map (app_lines c.args.doc.now.groups) c.args.doc.now.apps) (map (order_words c.args.doc.now.apps) c.args.doc.now.order) (rw (c.as_slice-groups.ensures, c.as_slice-apps.ensures) at c.in_ok-print_apps.ensures) (rw (c.as_slice-apps.ensures, c.as_slice-2.ensures) at all))))) c.print_order.ensures
