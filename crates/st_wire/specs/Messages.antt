-- The messages of a group as contracts see them, and what one call does to them.
use Rattle.std.specs.Prelude.{◌≡◌, ℕ, ◌<◌, ◌^◌, List, [], ◌∷◌, ◌++◌, length, Option, Some, None}
use Rattle.st_net.specs.declared.message.Command.{Command}
use Rattle.st_net.specs.declared.message.Report.{Report}
use Rattle.st_net.specs.Numbered.{nth}
use Rattle.st_wire.specs.declared.wire.Took.{Took}
use Rattle.st_wire.specs.declared.wire.Took.TheVariants.{Got, NoSuch}

-- the commands and the reports that were sent, the oldest of each kind first: the first has number 1. And how many more of either kind
-- there is room for
pub record Messages : Type 0 where
  pub commands : List Command
  pub reports : List Report
  pub room : ℕ

-- the numbers of messages have 32 bits
pub record AreCounted (commands : List Command) (reports : List Report) : Type 0 where
  pub few_commands : length commands < 2 ^ 32
  pub few_reports : length reports < 2 ^ 32

pub record HasSameMessages (old new : Messages) : Type 0 where
  pub commands : new.commands ≡ old.commands
  pub reports : new.reports ≡ old.reports

-- one command more, and one report more
pub record HasCommand (old new : Messages) (command : Command) : Type 0 where
  pub commands : new.commands ≡ old.commands ++ command ∷ []
  pub reports : new.reports ≡ old.reports

pub record HasReport (old new : Messages) (report : Report) : Type 0 where
  pub commands : new.commands ≡ old.commands
  pub reports : new.reports ≡ old.reports ++ report ∷ []

-- a message, where there is one, or else how many were sent
abbrev pub took_or : {M : Type 0} → ℕ → Option M → Took M
took_or sent None = NoSuch sent
took_or sent (Some message) = Got message

-- message n of a list
abbrev pub took_of : {M : Type 0} → List M → ℕ → Took M
took_of messages n = took_or (length messages) (nth messages n)
