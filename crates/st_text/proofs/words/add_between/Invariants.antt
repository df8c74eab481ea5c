use Rattle.std.proofs.Common.{◌≡◌, ◌++◌, take, map}
use Rattle.st_text.specs.Words.{spaced}
use Rattle.st_text.specs.Printed.{bytes_of}
use Rattle.st_text.proofs.words.add_between.Given as goal

abbrev pub invariant-loop-word : goal.invariant-loop-word
invariant-loop-word l = l.out ≡ l.initial.out ++ spaced (map bytes_of (take l.word-index l.words))
