use Rattle.std.proofs.Common.{◌≡◌, ◌++◌, take}
use Rattle.std.specs.Prelude.{flat_map}
use Rattle.st_text.specs.Words.{text_of}
use Rattle.st_doc.specs.Printed.{app_lines}
use Rattle.st_doc.proofs.printing.print_apps.Given as goal

abbrev pub invariant-loop-app : goal.invariant-loop-app
invariant-loop-app l = l.out ≡ l.initial.out ++ text_of (flat_map (app_lines l.groups) (take l.app-index l.apps))
