-- Of no concern to callers: the texts that the printers of words make.
use Rattle.std.specs.Prelude.{ℕ, List, ◌++◌, map}
use Rattle.st_text.specs.declared.words.Word.{Word}
use Rattle.st_text.specs.Words.{spaced}
use Rattle.st_text.specs.Printed.{bytes_of}

-- words, each behind a space, between two texts
abbrev pub between : List ℕ → List Word → List ℕ → List ℕ
between head words end = head ++ spaced (map bytes_of words) ++ end
