-- The names of a sound document's applications are spelled as names.
use Rattle.std.proofs.Common.{◌≡◌, true, Bool, List, [], ◌∷◌, map, refl}
use Rattle.std.specs.Prelude.{◌&&◌}
use Rattle.std.specs.List.{AllByRecursion}
use Rattle.std.proofs.lemmas.List.Elements.{recursion_from_All}
use Rattle.st_net.specs.declared.parts.Parts.{Parts}
use Rattle.st_net.specs.Groups.{are_names}
use Rattle.st_net.specs.Names.{is_name}
use Rattle.st_grammar.specs.declared.doc.Doc.{Doc}
use Rattle.st_grammar.specs.declared.doc.Script.{Script}
use Rattle.st_grammar.specs.Sound.{IsSoundDoc, IsSoundScript}
use Rattle.st_replay.specs.Replaying.{app_names}

both_true : (p q : Bool) → p ≡ true → q ≡ true → (p && q) ≡ true
both_true p q a b = rw (a, b) refl

apps_named : (groups : List Parts) (apps : List Script) → AllByRecursion (IsSoundScript groups) apps → are_names (map (λ (script : Script). script.name) apps) ≡ true
apps_named groups [] all = refl
apps_named groups (app ∷ apps) all = both_true (is_name app.name) (are_names (map (λ (script : Script). script.name) apps)) all.0.name (apps_named groups apps all.1)

pub names_spelled : (doc : Doc) → IsSoundDoc doc → are_names (app_names doc) ≡ true
names_spelled doc sound = apps_named doc.groups doc.apps (recursion_from_All (IsSoundScript doc.groups) doc.apps sound.apps)
