-- The words of what a command that reads saw.
use Rattle.std.specs.Prelude.{[], ◌∷◌, codes, decimal}
use Rattle.st_event.specs.declared.act.LogSaw.{LogSaw}
use Rattle.st_event.specs.declared.act.LogSaw.TheVariants.{Seen, At, NoVersion}
use Rattle.st_entry.specs.Words.{Words}

-- `version` before the version of the target that it met, `at` before one that it asked for
abbrev pub saw_words : LogSaw → Words
saw_words (Seen version value) = codes "version" ∷ decimal version ∷ codes "value" ∷ decimal value ∷ []
saw_words (At version value) = codes "at" ∷ decimal version ∷ codes "value" ∷ decimal value ∷ []
saw_words (NoVersion asked latest) = codes "at" ∷ decimal asked ∷ codes "none" ∷ codes "latest" ∷ decimal latest ∷ []
