-- A line as its contracts see it.
use Rattle.std.specs.Prelude.{ℕ, List}
use Rattle.logbook.specs.Pages.{Book}

-- which line it is: a book, and the key there of the first word that its writer brings home
pub record LineName : Type 0 where
  pub book : Book
  pub key : ℕ

-- a name for where there is no line
abbrev pub no_line : LineName
no_line = record { book = record { number = 0; log_name = 0; cells_name = 0 }; key = 0 }

-- a beginning of a line, and which line that is
pub record Reached (E : Type 0) : Type 0 where
  pub book : LineName
  pub log : List E
