use Rattle.std.proofs.Common.{◌≡◌, [], drop, map}
use Rattle.st_text.specs.Tokens.{token_in}
use Rattle.st_grammar.specs.Lines.{known_names_in}
use Rattle.st_doc.proofs.reader.sections.known_names_in.Given as goal

-- what is left, behind what was read, gives what all gives
abbrev pub invariant-loop-token : goal.invariant-loop-token
invariant-loop-token l = known_names_in l.names l.places.items (map (token_in l.line) (drop l.token-index l.tokens)) ≡ known_names_in l.names [] (map (token_in l.line) l.tokens)
